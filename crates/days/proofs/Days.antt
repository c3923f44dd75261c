-- THE DUTIES HOLD OF EACH HOUR OF A DAY, of every stretch of bytes, all lengths and lent lists of every length.
--
-- `DaySettled bytes lengths before after r` is the promise of `settle_day`. Where the whole call is not refused, hour h is settled as its
-- sheet is alone, so whatever holds of every settlement holds of it; and its part has room for every sheet, so that no duty asks
-- for room. Assumes nothing.
use Rattle.std.specs.Prelude.{Ok}
use Prim.Native.Nat.{ℕ, ◌+◌, ◌≤◌, ◌<◌}
use native.Mathlib.Omega.{arith}
use native.Mathlib.Decide.{dec_lt}
use mathlib.Core.List.{List}
use mathlib.Core.Logic.{◌↔◌, ◌⊎◌, inl, inr}
use mathlib.Core.Path.{◌≡◌}
use lib.IntN.{pos}
use lib.ListN.{get_or}
use Rattle.sums.specs.Sums.{sum, pick}
use Rattle.columns.specs.Columns.{hour_of}
use Rattle.hour.specs.Signed.{signed_sum}
use Rattle.hour.specs.Answer.{Lent, Roomy, share_in, contracted_in, bought_in, sold_in, money_in, schedule_in, amount_in}
use Rattle.hour.specs.declared.Summary.{Summary}
use Rattle.settle.specs.Settled.{Settled}
use Rattle.duties.specs.Result.{agents_of, contracts_of, retailer_in, generator_in, generated_in}
use Rattle.duties.specs.Result.{small_exports_in, dispatch_in, PossibleFor, cost_of, Passes, Untouched}
use Rattle.duties.proofs.Steps.{passes_sound}
use Rattle.duties.proofs.Duties as duties
use Rattle.day.specs.Day.{hours, hour_sheet, figures_part, money_part, schedule_part, amounts_part, part_of, day_verdict, no_summary, DaySettled}
use Rattle.day.proofs.Parts.{part_long}
use Rattle.day.proofs.Hours.{fits_of}
use Rattle.day.proofs.Outcome.{hour_alone}

module _ (bytes lengths : List ℕ) (before after : Lent) (r : List Summary)
    (done : DaySettled bytes lengths before after r) (read : day_verdict bytes lengths before ≡ Ok tt)
    (h : ℕ) (of_day : h < hours) where
  -- the hour's sheet, its part at entry and at exit, and its summary
  abbrev sheet : List ℕ
  sheet = hour_sheet bytes lengths h

  abbrev lists : Lent
  lists = part_of before h

  abbrev left : Lent
  left = part_of after h

  abbrev told : Summary
  told = get_or r h no_summary

  alone : Settled sheet lists left told
  alone = hour_alone bytes lengths before after r done read h of_day

  -- Whatever holds of every settlement holds of the hour.
  pub each_hour : (P : List ℕ → Lent → Lent → Summary → Type 0)
      → ((b : List ℕ) (x y : Lent) (s : Summary) → Settled b x y s → P b x y s)
      → P sheet lists left told
  each_hour P every = every sheet lists left told alone

  -- The part has room for every sheet.
  pub room : Passes sheet → Roomy (hour_of sheet) lists
  room p =
      let few = (passes_sound sheet p).few in
      let fits = fits_of bytes lengths before read in
      record {
        figures = omega (
          arith,
          few.agents,
          part_long 0 figures_part h before.figures (omega (arith, fits.figures)),
        );
        money = omega (arith, few.agents, part_long (pos 0) money_part h before.money (omega (arith, fits.money)));
        schedule = omega (
          arith,
          few.plants,
          part_long 0 schedule_part h before.schedule (omega (arith, fits.schedule)),
        );
        amounts = omega (
          arith,
          few.contracts,
          part_long 0 amounts_part h before.amounts (omega (arith, fits.amounts)),
        );
      }

  -- The bytes of the hour pass refusals 1 to 9 exactly if its number is 0 or above 9.
  pub passes_exactly : ((told.number ≡ 0) ⊎ (9 < told.number)) ↔ Passes sheet
  passes_exactly = duties.passes_exactly sheet lists left told alone

  -- Its number is 0, or 1 to 10, or 13: it is never 11.
  pub number_listed : (told.number ≡ 0) ⊎ (((1 ≤ told.number) × (told.number ≤ 10)) ⊎ (told.number ≡ 13))
  number_listed = go (duties.number_listed sheet lists left told alone)
    where
      low : (1 ≤ told.number) × (told.number ≤ 11) → Dec (told.number < 11) → (told.number ≡ 0)
          ⊎ (((1 ≤ told.number) × (told.number ≤ 10)) ⊎ (told.number ≡ 13))
      low b (yes l) = inr (inl (b.0, omega arith))
      low b (no l) =
          let p = passes_exactly.0 (inr (omega arith)) in
          inl (duties.settled sheet lists left told alone p (room p) neither)
        where
          neither : (told.number ≡ 10) ⊎ (told.number ≡ 13) → ⊥
          neither (inl e) = omega arith
          neither (inr e) = omega arith

      go : (told.number ≡ 0) ⊎ (((1 ≤ told.number) × (told.number ≤ 11)) ⊎ (told.number ≡ 13)) → (told.number ≡ 0)
          ⊎ (((1 ≤ told.number) × (told.number ≤ 10)) ⊎ (told.number ≡ 13))
      go (inl e) = inl e
      go (inr (inl b)) = low b (dec_lt told.number 11)
      go (inr (inr e)) = inr (inr e)

  -- A refused hour has price, demand and losses 0 and leaves its part as it was.
  pub refused_untouched : (told.number ≡ 0 → ⊥) → Untouched lists left told
  refused_untouched = duties.refused_untouched sheet lists left told alone

  -- FOR EVERY HOUR WHOSE BYTES PASS REFUSALS 1 TO 9:
  module _ (passes : Passes sheet) where
    -- Refusal 10 or 13 is given exactly if no schedule is possible for what central dispatch has to meet.
    pub ten_or_thirteen_exactly : ((told.number ≡ 10) ⊎ (told.number ≡ 13))
        ↔ ((q : ℕ → ℕ) → PossibleFor sheet (dispatch_in sheet) q → ⊥)
    ten_or_thirteen_exactly = duties.ten_or_thirteen_exactly sheet lists left told alone passes

    -- OTHERWISE:
    module _ (otherwise : (told.number ≡ 10) ⊎ (told.number ≡ 13) → ⊥) where
      -- The hour is settled.
      pub settled : told.number ≡ 0
      settled = duties.settled sheet lists left told alone passes (room passes) otherwise

      -- The demand returned is what central dispatch has to meet and small generators' exports, together.
      pub demand_is_met : dispatch_in sheet + small_exports_in sheet ≡ told.demand
      demand_is_met = duties.demand_is_met sheet lists left told alone passes (room passes) otherwise

      -- The schedule in its part is possible for what central dispatch has to meet,
      pub possible : PossibleFor sheet (dispatch_in sheet) (schedule_in left)
      possible = duties.possible sheet lists left told alone passes (room passes) otherwise

      -- and no possible schedule costs less at the offer prices.
      pub cheapest : (q : ℕ → ℕ) → PossibleFor sheet (dispatch_in sheet) q → cost_of sheet (schedule_in left) ≤ cost_of sheet q
      cheapest = duties.cheapest sheet lists left told alone passes (room passes) otherwise

      -- The kWh bought over all agents equal the kWh sold.
      pub bought_is_sold : sum (agents_of sheet) (bought_in left) ≡ sum (agents_of sheet) (sold_in left)
      bought_is_sold = duties.bought_is_sold sheet lists left told alone passes (room passes) otherwise

      -- The demand returned equals the sum of generator exports.
      pub demand_is_generated : told.demand ≡ generated_in sheet
      demand_is_generated = duties.demand_is_generated sheet lists left told alone passes (room passes) otherwise

      -- Loss shares sum to the losses returned.
      pub shares_are_losses : sum (agents_of sheet) (share_in left) ≡ told.losses
      shares_are_losses = duties.shares_are_losses sheet lists left told alone passes (room passes) otherwise

      -- The amounts contracted, summed by buyers and by sellers, are equal, and are the sum of the amounts.
      pub buyers_are_sellers : sum (agents_of sheet) (λ a. pick (retailer_in sheet a) (contracted_in left a))
          ≡ sum (agents_of sheet) (λ a. pick (generator_in sheet a) (contracted_in left a))
      buyers_are_sellers = duties.buyers_are_sellers sheet lists left told alone passes (room passes) otherwise

      pub buyers_are_amounts : sum (agents_of sheet) (λ a. pick (retailer_in sheet a) (contracted_in left a))
          ≡ sum (contracts_of sheet) (amount_in left)
      buyers_are_amounts = duties.buyers_are_amounts sheet lists left told alone passes (room passes) otherwise

      -- The money over all agents sums to 0.
      pub money_is_none : signed_sum (agents_of sheet) (money_in left) ≡ pos 0
      money_is_none = duties.money_is_none sheet lists left told alone passes (room passes) otherwise
