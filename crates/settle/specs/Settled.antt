-- Document 01 as a whole: what one call answers for a string of bytes and four lent lists, and what it leaves in them. Assumes nothing.
use Rattle.std.specs.Prelude.{ℕ, ◌*◌, List, ◌≡◌, pos}
use Rattle.sums.specs.Lists.{Filled}
use Rattle.refusals.specs.Refusals.{or_else, cells}
use Rattle.refusals.specs.Refusals.{Verdict}
use Rattle.sheet.specs.Reading.{read_verdict}
use Rattle.columns.specs.Columns.{hour_of}
use Rattle.hour.specs.Sheet.{Sheet, agents, plants, contracts}
use Rattle.hour.specs.Lines.{scheduled, amount, money, cells_per_agent, figure}
use Rattle.hour.specs.Answer.{Lent, hour_verdict, summary_of}
use Rattle.hour.specs.declared.Summary.{Summary}

-- refusals 1 to 6 are reading's, 7 to 11 the hour's
unfoldable pub verdict_of : List ℕ → Lent → Verdict
verdict_of bytes l = or_else (read_verdict bytes) (hour_verdict (hour_of bytes) l)

-- the answer r by the verdict v of the sheet h, and the lent lists before and after: filled where the verdict is fine, and as they
-- were where it is a refusal
pub record Outcome (v : Verdict) (h : Sheet) (before after : Lent) (r : Summary) : Type 0 where
  pub answered : r ≡ summary_of v h
  pub figures : Filled 0 before.figures after.figures (cells v (cells_per_agent * agents h)) (figure h)
  pub money : Filled (pos 0) before.money after.money (cells v (agents h)) (money h)
  pub schedule : Filled 0 before.schedule after.schedule (cells v (plants h)) (scheduled h)
  pub amounts : Filled 0 before.amounts after.amounts (cells v (contracts h)) (amount h)

-- the same of a sheet that reading accepts
abbrev pub Settles : (h : Sheet) → (before after : Lent) → Summary → Type 0
Settles h before after r = Outcome (hour_verdict h before) h before after r

-- the promise of a settlement
abbrev pub Settled : (bytes : List ℕ) → (before after : Lent) → Summary → Type 0
Settled bytes before after r = Outcome (verdict_of bytes before) (hour_of bytes) before after r
