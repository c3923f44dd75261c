-- WHAT THE DESK MAY RELY ON IN A CHECK OF THE ADMINISTRATOR'S STATEMENT, of every string of bytes, price and lists of every length.
--
-- `r ≡ check_verdict bytes price l` is the promise of `check`: for the bytes, the price and the four lists l of a statement it answers r.
-- `Holds` has the five points of document 02; `verdict_of bytes l` is what settling the sheet with lists of these lengths comes to.
-- Assumes nothing.
use Rattle.std.specs.Prelude.{Ok, Err}
use Prim.Native.Nat.{ℕ, ◌≤◌}
use mathlib.Core.List.{List}
use mathlib.Core.Logic.{◌↔◌}
use mathlib.Core.Path.{◌≡◌}
use lib.IntN.{pos}
use Rattle.sums.specs.Sums.{sum}
use Rattle.refusals.specs.declared.Refusal.{Refusal}
use Rattle.refusals.specs.Refusals.{Verdict}
use Rattle.columns.specs.Columns.{hour_of}
use Rattle.hour.specs.Signed.{signed_sum}
use Rattle.hour.specs.Answer.{Lent, bought_in, sold_in, money_in, schedule_in}
use Rattle.hour.specs.declared.Summary.{Summary}
use Rattle.statement.specs.Points.{Holds}
use Rattle.checking.specs.Check.{check_verdict}
use Rattle.settle.specs.Settled.{verdict_of, Settled}
use Rattle.duties.specs.Result.{dispatch_in, agents_of, PossibleFor, cost_of}
use Rattle.duties.proofs.Checks.{sheet_first, points_decide, all_met, met_possible, met_cheapest, met_balanced, met_money, own_lists_lem}

module _ (bytes : List ℕ) (price : ℕ) (l : Lent) (r : Verdict) (done : r ≡ check_verdict bytes price l) where
  -- The refusals of the sheet come first, and are those of settling it with lists of these lengths.
  pub refused_as_settling : (q : Refusal) → verdict_of bytes l ≡ Err q → r ≡ Err q
  refused_as_settling = sheet_first bytes price l r done

  -- 1. OF A SHEET THAT SETTLES, A STATEMENT IS ACCEPTED EXACTLY IF THE FIVE POINTS HOLD.
  pub accepted_exactly : verdict_of bytes l ≡ Ok tt → (r ≡ Ok tt) ↔ Holds (hour_of bytes) price l
  accepted_exactly = points_decide bytes price l r done

  -- WHATEVER IS ACCEPTED:
  module _ (accepted : r ≡ Ok tt) where
    -- 3. Its schedule is possible for what central dispatch has to meet, which their shares leave what it is,
    pub accepted_possible : PossibleFor bytes (dispatch_in bytes) (schedule_in l)
    accepted_possible = met_possible (all_met bytes price l r done accepted)

    -- and no possible schedule costs less at the offer prices.
    pub accepted_cheapest : (q : ℕ → ℕ) → PossibleFor bytes (dispatch_in bytes) q → cost_of bytes (schedule_in l) ≤ cost_of bytes q
    accepted_cheapest = met_cheapest (all_met bytes price l r done accepted)

    -- 4. The kWh bought over all agents equal the kWh sold,
    pub accepted_balanced : sum (agents_of bytes) (bought_in l) ≡ sum (agents_of bytes) (sold_in l)
    accepted_balanced = met_balanced (all_met bytes price l r done accepted)

    -- and the money sums to 0.
    pub accepted_money : signed_sum (agents_of bytes) (money_in l) ≡ pos 0
    accepted_money = met_money (all_met bytes price l r done accepted)

-- 2. OUR OWN SETTLEMENT IS ALWAYS ACCEPTED: the price that `settle` returns with number 0, and the lists as it leaves them.
pub ours_accepted : (bytes : List ℕ) (before after : Lent) (s : Summary) → Settled bytes before after s → s.number ≡ 0
    → (r : Verdict) → r ≡ check_verdict bytes s.price after → r ≡ Ok tt
ours_accepted = own_lists_lem
