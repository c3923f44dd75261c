-- What the parts of admitting a sheet hand on to each other. Assumes nothing.
use Rattle.std.specs.Prelude.{ℕ, ◌*◌, ◌≤◌, Bool, ◌&&◌, [], ◌∷◌, leb, length}
use Rattle.refusals.specs.Refusals.{no_room, refused_unless, first_of}
use Rattle.refusals.specs.Refusals.{Verdict}
use Rattle.sheet.specs.declared.Counts.{Counts}
use Rattle.hour.specs.Lines.{cells_per_agent}
use Rattle.hour.specs.Answer.{cover_of}
use Rattle.ground.specs.Ground.{Fleet}

-- lists of these lengths have room
abbrev pub roomy : Counts → (figures money schedule amounts : ℕ) → Bool
roomy c f m s t = leb (cells_per_agent * c.agents) f && leb c.agents m && leb c.plants s && leb c.contracts t

-- refusals 10 and 13, and 11 behind them
abbrev pub late_verdict : (demand available must_run : ℕ) → Bool → Verdict
late_verdict d a m room = first_of (cover_of d a m ∷ refused_unless room no_room 0 ∷ [])

-- lists with a cell for each of n plants
pub record Wide (n : ℕ) (f : Fleet) : Type 0 where
  pub holders : n ≤ length f.holders
  pub flags : n ≤ length f.flags
  pub musts : n ≤ length f.musts
  pub offers : n ≤ length f.offers
  pub available : n ≤ length f.available
