-- That the lists serve, as facts: no part of a statement's meaning. Assumes nothing.
use Rattle.std.specs.Prelude.{ℕ, ◌*◌, ◌≤◌}
use Rattle.limits.specs.Limits.{most_agents, most_plants, most_contracts}
use Rattle.sheet.specs.declared.Counts.{Counts}
use Rattle.hour.specs.Lines.{cells_per_agent}

pub record Enough (c : Counts) (f m s t : ℕ) : Type 0 where
  pub agents : c.agents ≤ most_agents
  pub plants : c.plants ≤ most_plants
  pub contracts : c.contracts ≤ most_contracts
  pub figures : cells_per_agent * c.agents ≤ f
  pub money : c.agents ≤ m
  pub schedule : c.plants ≤ s
  pub amounts : c.contracts ≤ t
