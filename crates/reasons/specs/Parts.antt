-- How the code goes about it: the hour settled with lists of its own, and the passes over the contract rows. Assumes nothing.
use Rattle.std.specs.Prelude.{Result, Ok, Err}
use Rattle.std.specs.Prelude.{ℕ, ◌-◌, ◌<◌, Bool, ◌&&◌, cond, List, ◌≡◌, ltb, eqb}
use Rattle.sums.specs.Sums.{sum, pick}
use Rattle.sums.specs.Lists.{at, Filled}
use Rattle.refusals.specs.Refusals.{Verdict, cells}
use Rattle.refusals.specs.declared.Refusal.{Refusal}
use Rattle.limits.specs.declared.Contract.{Contract}
use Rattle.sheet.specs.Asking.{contract_at}
use Rattle.sheet.specs.declared.Counts.{Counts}
use Rattle.deals.specs.Deals.{fixed, conditional, demanded, stands}
use Rattle.hour.specs.Sheet.{Sheet, agents, plants, contracts}
use Rattle.hour.specs.Lines.{bolsa_price, scheduled, amount, own}
use Rattle.columns.specs.Columns.{hour_of, sheet_verdict}
use Rattle.reasons.specs.Reasons.{conditional_reason, demanded_reason}
use Rattle.reasons.specs.declared.ContractReason.{ContractReason}

-- the bolsa price of the hour, or what turns it away
abbrev pub price_by : Verdict → Sheet → Result ℕ Refusal
price_by (Ok tt) h = Ok (bolsa_price h)
price_by (Err r) h = Err r

-- the hour settled: its price, and what its lists hold, os of own energy, s of the schedule and a of the amounts before it
pub record HourSettled (bytes os s s' a a' : List ℕ) (r : Result ℕ Refusal) : Type 0 where
  pub answer : r ≡ price_by (sheet_verdict bytes) (hour_of bytes)
  pub own : sheet_verdict bytes ≡ Ok tt → (b : ℕ) → b < agents (hour_of bytes) → at os b ≡ own (hour_of bytes) b
  pub schedule : Filled 0 s s' (cells (sheet_verdict bytes) (plants (hour_of bytes))) (scheduled (hour_of bytes))
  pub amounts : Filled 0 a a' (cells (sheet_verdict bytes) (contracts (hour_of bytes))) (amount (hour_of bytes))

-- the rows that the passes of the contract `me` in row i add up, of its buyer's: of kinds 1 and 2 those that stand before it, all of kinds
-- 1 and 2, kind 3 below its price, and kind 3 at its price
abbrev pub ahead : (me : Contract) → ℕ → (k : Contract) → ℕ → Bool
ahead me i k j = ltb k.kind demanded && stands k.price k.kind j me.price me.kind i

abbrev pub firm : (k : Contract) → ℕ → Bool
firm k j = ltb k.kind demanded

abbrev pub cheaper : (me : Contract) → (k : Contract) → ℕ → Bool
cheaper me k j = eqb k.kind demanded && ltb k.price me.price

abbrev pub beside : (me : Contract) → (k : Contract) → ℕ → Bool
beside me k j = eqb k.kind demanded && eqb k.price me.price

-- what a row adds of the rows of the buyer b of which t holds, and a pass over all contract rows
abbrev pub counted_part : (b : ℕ) (t : Contract → ℕ → Bool) → (k : Contract) → ℕ → ℕ
counted_part b t k j = pick (eqb k.buyer b && t k j) k.quantity

unfoldable pub part_total : List ℕ → Counts → (b : ℕ) (t : Contract → ℕ → Bool) → ℕ
part_total s c b t = sum c.contracts (λ j. counted_part b t (contract_at s c j) j)

-- the reason by these passes, where the buyer's demand is d
unfoldable pub reason_in : List ℕ → Counts → Contract → (i d : ℕ) → ContractReason
reason_in s c me i d =
    cond (eqb me.kind fixed) ContractReason.Fixed
    (cond (eqb me.kind conditional) (conditional_reason (part_total s c me.buyer (ahead me i)) d)
    (demanded_reason (d - part_total s c me.buyer firm) (part_total s c me.buyer (cheaper me)) (part_total s c me.buyer (beside me))))
