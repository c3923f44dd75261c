-- WHAT THE DESK MAY RELY ON, of every string of bytes and lent lists of every length.
--
-- `Settled bytes before after r` is the promise of `settle`: for the bytes it returns the summary r, and the four lent lists, `before`
-- at entry, are `after` at exit. Agents, plants and contracts are those of the bytes. Assumes nothing.
use Prim.Native.Nat.{ℕ, ◌+◌, ◌≤◌, ◌<◌}
use mathlib.Core.List.{List}
use mathlib.Core.Logic.{◌↔◌, ◌⊎◌}
use mathlib.Core.Path.{◌≡◌, ◌∙◌, sym}
use lib.IntN.{pos}
use Rattle.sums.specs.Sums.{sum, pick}
use Rattle.columns.specs.Columns.{hour_of}
use Rattle.hour.specs.Signed.{signed_sum}
use Rattle.hour.specs.Answer.{Lent, Roomy, share_in, contracted_in, bought_in, sold_in, money_in, schedule_in, amount_in}
use Rattle.hour.specs.declared.Summary.{Summary}
use Rattle.settle.specs.Settled.{Settled}
use Rattle.settle.proofs.Judged.{settled_unique}
use Rattle.duties.specs.Result.{agents_of, contracts_of, retailer_in, generator_in, generated_in}
use Rattle.duties.specs.Result.{small_exports_in, dispatch_in, PossibleFor, cost_of, Passes, Untouched}
use Rattle.duties.proofs.Steps.{Hour, number_none, demand_parted, list_possible, list_cheapest, list_balanced}
use Rattle.duties.proofs.Steps.{demand_generated, list_shares, list_buyers, list_sellers, list_money}
use Rattle.duties.proofs.Stages.{number_known, number_tells, refused_leaves, impossible_tells, the_hour}

-- For one string of bytes and the same lists at entry there is one outcome.
pub one_outcome : (bytes : List ℕ) (before x y : Lent) (q r : Summary)
    → Settled bytes before x q
    → Settled bytes before y r
    → (q ≡ r) × (x ≡ y)
one_outcome = settled_unique

module _ (bytes : List ℕ) (before after : Lent) (r : Summary) (done : Settled bytes before after r) where
  -- The number returned is 0, or one of the fixed list: 1 to 11, or 13.
  pub number_listed : (r.number ≡ 0) ⊎ (((1 ≤ r.number) × (r.number ≤ 11)) ⊎ (r.number ≡ 13))
  number_listed = number_known bytes done

  -- The bytes pass refusals 1 to 9 exactly if the number returned is 0 or above 9.
  pub passes_exactly : ((r.number ≡ 0) ⊎ (9 < r.number)) ↔ Passes bytes
  passes_exactly = number_tells bytes done

  -- A refusal returns a number and a place, with price, demand and losses 0, and leaves the lent lists as they were.
  pub refused_untouched : (r.number ≡ 0 → ⊥) → Untouched before after r
  refused_untouched = refused_leaves bytes done

  -- FOR EVERY SHEET THAT PASSES REFUSALS 1 TO 9:
  module _ (passes : Passes bytes) where
    -- 1. Refusal 10 or 13 is given exactly if no schedule is possible for what central dispatch has to meet.
    pub ten_or_thirteen_exactly : ((r.number ≡ 10) ⊎ (r.number ≡ 13))
        ↔ ((q : ℕ → ℕ) → PossibleFor bytes (dispatch_in bytes) q → ⊥)
    ten_or_thirteen_exactly = impossible_tells bytes done passes

    -- OTHERWISE, GIVEN ROOM:
    module _ (room : Roomy (hour_of bytes) before) (otherwise : (r.number ≡ 10) ⊎ (r.number ≡ 13) → ⊥) where
      hour : Hour bytes before after r
      hour = the_hour bytes done passes room otherwise

      -- The hour is settled.
      pub settled : r.number ≡ 0
      settled = number_none hour

      -- The demand returned is what central dispatch has to meet and small generators' exports, together.
      pub demand_is_met : dispatch_in bytes + small_exports_in bytes ≡ r.demand
      demand_is_met = demand_parted hour

      -- 2. The schedule in the lent list is possible for what central dispatch has to meet.
      pub possible : PossibleFor bytes (dispatch_in bytes) (schedule_in after)
      possible = list_possible hour

      -- No possible schedule costs less at the offer prices, whatever its numbers.
      pub cheapest : (q : ℕ → ℕ) → PossibleFor bytes (dispatch_in bytes) q → cost_of bytes (schedule_in after) ≤ cost_of bytes q
      cheapest = list_cheapest hour

      -- 3. The kWh bought over all agents equal the kWh sold.
      pub bought_is_sold : sum (agents_of bytes) (bought_in after) ≡ sum (agents_of bytes) (sold_in after)
      bought_is_sold = list_balanced hour

      -- 4. The demand returned equals the sum of exports of both kinds of generator.
      pub demand_is_generated : r.demand ≡ generated_in bytes
      demand_is_generated = demand_generated hour

      -- Loss shares sum to the losses returned.
      pub shares_are_losses : sum (agents_of bytes) (share_in after) ≡ r.losses
      shares_are_losses = list_shares hour

      -- The amounts contracted, summed by buyers and by sellers, are equal:
      pub buyers_are_sellers : sum (agents_of bytes) (λ a. pick (retailer_in bytes a) (contracted_in after a))
          ≡ sum (agents_of bytes) (λ a. pick (generator_in bytes a) (contracted_in after a))
      buyers_are_sellers = list_buyers hour ∙ sym (list_sellers hour)

      -- both are the sum of the amounts in the lent list.
      pub buyers_are_amounts : sum (agents_of bytes) (λ a. pick (retailer_in bytes a) (contracted_in after a))
          ≡ sum (contracts_of bytes) (amount_in after)
      buyers_are_amounts = list_buyers hour

      -- The money over all agents sums to 0.
      pub money_is_none : signed_sum (agents_of bytes) (money_in after) ≡ pos 0
      money_is_none = list_money hour
