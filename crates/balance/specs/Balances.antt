-- Document 01, 'From readings to commercial demand': what weighing the readings of a sheet answers. Assumes nothing.
use Rattle.std.specs.Prelude.{Result, Ok, Err}
use Rattle.std.specs.Prelude.{ℕ, ◌+◌, List, ◌≡◌, replicate}
use Rattle.limits.specs.Limits.{most_agents}
use Rattle.sums.specs.Lists.{at, Filled}
use Rattle.refusals.specs.Refusals.{Verdict}
use Rattle.refusals.specs.declared.Refusal.{Refusal}
use Rattle.hour.specs.Sheet.{Sheet, agents}
use Rattle.hour.specs.Balance.{own_import, losses, loss_share, commercial, hour_demand, injected, dispatch_demand}
use Rattle.balance.specs.declared.Weight.{Weight}

-- an array with a cell an agent, before anything is written
abbrev pub zeros : List ℕ
zeros = replicate most_agents 0

-- own energy but for what plants are scheduled: commercial demand, or what a small generator delivers. Nobody has both
abbrev pub unscheduled : Sheet → ℕ → ℕ
unscheduled h a = commercial h a + injected h a

-- the columns that weighing fills, a cell an agent
pub record Ledger : Type 0 where
  pub kinds : List ℕ
  pub shares : List ℕ
  pub commercial : List ℕ
  pub own : List ℕ
  pub imports : List ℕ

abbrev pub ledger : (kinds shares commercial own imports : List ℕ) → Ledger
ledger k s c o i = record { kinds = k; shares = s; commercial = c; own = o; imports = i }

-- in the first cells the agents' kinds, loss shares, commercial demands, own energy and own imports; what stands behind is as it was
pub record Posted (h : Sheet) (before after : Ledger) : Type 0 where
  pub kinds : Filled 0 before.kinds after.kinds (agents h) (at h.kinds)
  pub shares : Filled 0 before.shares after.shares (agents h) (loss_share h)
  pub commercial : Filled 0 before.commercial after.commercial (agents h) (commercial h)
  pub own : Filled 0 before.own after.own (agents h) (unscheduled h)
  pub imports : Filled 0 before.imports after.imports (agents h) (own_import h)

-- what is answered of the sheet h, by its verdict: the losses, the hour's demand and what central dispatch has to meet of it; or the
-- refusal
abbrev pub weighed : Verdict → Sheet → Result Weight Refusal
weighed (Ok tt) h = Ok (record { losses = losses h; demand = hour_demand h; target = dispatch_demand h })
weighed (Err r) h = Err r

-- the promise of weighing the sheet h, by its verdict v: what is answered, and where it is fine the columns
pub record Weighing (v : Verdict) (h : Sheet) (before after : Ledger) (r : Result Weight Refusal) : Type 0 where
  pub answer : r ≡ weighed v h
  pub columns : v ≡ Ok tt → Posted h before after
