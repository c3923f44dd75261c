-- Of a sheet that reading accepts, every number of the hour fits 32 bits. Assumes nothing.
use Prim.Native.Nat.{ℕ, ◌+◌, ◌-◌, ◌*◌, ◌/◌, ◌≤◌, ◌<◌}
use native.Mathlib.Omega.{arith}
use native.Mathlib.Nat.{mul-le-mul}
use mathlib.Core.Path.{◌≡◌}
use mathlib.Core.Bool.{Bool, true, false, not}
use Rattle.limits.specs.Limits.{most_agents, most_boundaries, most_plants, most_factor, most_reading, most_offer, most_available}
use Rattle.sums.specs.Sums.{sum, pick, keyed}
use Rattle.sums.specs.Lists.{at}
use Rattle.sums.proofs.Sums.{sum_le, sum_add, sum_mul, sum_most}
use Rattle.sums.proofs.Picks.{pick_le}
use Rattle.sums.proofs.Keyed.{keyed_most, keyed_total}
use Rattle.merit.proofs.MustRun.{ideal_within}
use Rattle.merit.proofs.Price.{price_most}
use Rattle.hour.specs.Sheet.{Sheet, agents, boundaries, plants, retails, outside}
use Rattle.hour.specs.Sound.{Sound}
use Rattle.hour.specs.Balance.{referred, rounded, imported, exported, consumption, consumed, own_import}
use Rattle.hour.specs.Balance.{delivered, entering, leaving, losses, injected, dispatch_demand}
use Rattle.hour.specs.Lines.{scheduled, bolsa_price}

-- ---- what the numbers are bounded by: counts of rows times the limits of a row

-- one referral in ten-thousandths, and all rows of a sheet together
abbrev pub most_referred : ℕ
most_referred = most_reading * (10000 + most_factor)

abbrev pub most_tenths : ℕ
most_tenths = most_boundaries * most_referred

-- the same in whole kWh: each agent may gain half a kWh
abbrev pub most_metered : ℕ
most_metered = (most_tenths + 5000 * most_agents) / 10000

-- all plants together
abbrev pub most_scheduled : ℕ
most_scheduled = most_plants * most_available

-- a reading within its limit, at a factor within its limit
pub referred_le : (x f : ℕ) → x ≤ most_reading → f ≤ most_factor → referred x f ≤ most_referred
unfolding referred
referred_le x f h k =
    let p : x * (10000 + f) ≤ most_reading * (10000 + most_factor) =
    mul-le-mul {n₂ = most_reading} {m₂ = 10000 + most_factor} h (omega arith) in omega arith

-- ---- rounding
pub rounded_le : (x y : ℕ) → x ≤ y → rounded x ≤ rounded y
unfolding rounded
rounded_le x y h = omega arith

pub rounded_tenths : (x : ℕ) → 10000 * rounded x ≤ x + 5000
unfolding rounded
rounded_tenths x = omega arith

pub rounded_whole : (x : ℕ) → rounded (10000 * x) ≡ x
unfolding rounded
rounded_whole x = omega arith

module _ (s : Sheet) where
  pub consumption_le : (a : ℕ) → consumption s a ≤ rounded (imported s a)
  unfolding consumption
  consumption_le a =
      let h : consumption s a ≤ rounded (imported s a - exported s a) = pick_le _ _ in
      omega (arith, rounded_le (imported s a - exported s a) (imported s a) (omega arith))

  pub import_le : (a : ℕ) → own_import s a ≤ rounded (imported s a)
  unfolding own_import
  import_le a = pick_le (not (retails s a)) (rounded (imported s a))

  delivered_le : (a : ℕ) → delivered s a ≤ rounded (exported s a)
  unfolding delivered
  delivered_le a = pick_le (not (retails s a)) (rounded (exported s a))

  pub injected_part : (a : ℕ) → injected s a ≤ delivered s a
  unfolding injected
  injected_part a = pick_le (outside s a) (delivered s a)

  pub injected_le : (a : ℕ) → injected s a ≤ rounded (exported s a)
  injected_le a = omega (arith, injected_part a, delivered_le a)

  -- sums that are part of what leaves and of what enters
  pub consumed_le : consumed s ≤ leaving s
  unfolding consumed leaving
  consumed_le = sum_le (agents s) _ _ (λ a l. omega arith)

  pub imports_within : sum (agents s) (own_import s) ≤ leaving s
  unfolding leaving
  imports_within = sum_le (agents s) _ _ (λ a l. omega arith)

  pub injects_within : sum (agents s) (injected s) ≤ entering s
  unfolding entering
  injects_within = sum_le (agents s) _ _ (λ a l. injected_part a)

  -- consumption is a retailer's, own import a generator's
  taken_le : (a : ℕ) → consumption s a + own_import s a ≤ rounded (imported s a)
  unfolding consumption own_import pick
  taken_le a = go (retails s a)
    where
      go : (b : Bool) → pick b (rounded (imported s a - exported s a)) + pick (not b) (rounded (imported s a)) ≤ rounded (imported s a)
      go true = omega (arith, rounded_le (imported s a - exported s a) (imported s a) (omega arith))
      go false = omega arith

  module _ (ok : Sound s) where
    pub row_import_le : (j : ℕ) → j < boundaries s → referred (at s.imports j) (at s.factors j) ≤ most_referred
    row_import_le j l = referred_le _ _ (ok.boundary j l).import (ok.boundary j l).factor

    pub row_export_le : (j : ℕ) → j < boundaries s → referred (at s.exports j) (at s.factors j) ≤ most_referred
    row_export_le j l = referred_le _ _ (ok.boundary j l).export (ok.boundary j l).factor

    pub imported_tenths : (a : ℕ) → imported s a ≤ most_tenths
    unfolding imported
    imported_tenths a =
        omega (
          arith,
          keyed_most (at s.owners) (λ j. referred (at s.imports j) (at s.factors j)) (boundaries s) a most_referred
              row_import_le,
          ok.few.boundaries,
        )

    pub exported_tenths : (a : ℕ) → exported s a ≤ most_tenths
    unfolding exported
    exported_tenths a =
        omega (
          arith,
          keyed_most (at s.owners) (λ j. referred (at s.exports j) (at s.factors j)) (boundaries s) a most_referred
              row_export_le,
          ok.few.boundaries,
        )

    pub imported_le : (a : ℕ) → rounded (imported s a) ≤ most_metered
    imported_le a = omega (arith, rounded_tenths (imported s a), imported_tenths a)

    pub exported_le : (a : ℕ) → rounded (exported s a) ≤ most_metered
    exported_le a = omega (arith, rounded_tenths (exported s a), exported_tenths a)

    -- rounded agent by agent, a sum gains at most half a kWh an agent
    whole_le : (f : ℕ → ℕ) → sum (agents s) f ≤ most_tenths → sum (agents s) (λ a. rounded (f a)) ≤ most_metered
    whole_le f h =
        let n = agents s in
        omega (
          arith,
          sum_mul n 10000 (λ a. rounded (f a)),
          sum_le n (λ a. 10000 * rounded (f a)) (λ a. f a + 5000) (λ a l. rounded_tenths (f a)),
          sum_add n f (λ a. 5000),
          sum_most n 5000 (λ a. 5000) (λ a l. omega arith),
          ok.few.agents,
        )

    pub leaving_le : leaving s ≤ most_metered
    unfolding leaving imported
    leaving_le =
        omega (
          arith,
          sum_le (agents s) (λ a. consumption s a + own_import s a) (λ a. rounded (imported s a)) (λ a l. taken_le a),
          whole_le (imported s)
              (omega (
                arith,
                keyed_total (at s.owners) (λ j. referred (at s.imports j) (at s.factors j)) (agents s)
                    (boundaries s) (λ j l. (ok.boundary j l).there),
                sum_most (boundaries s) most_referred (λ j. referred (at s.imports j) (at s.factors j)) row_import_le,
                ok.few.boundaries,
              )),
        )

    pub entering_le : entering s ≤ most_metered
    unfolding entering exported
    entering_le =
        omega (
          arith,
          sum_le (agents s) (delivered s) (λ a. rounded (exported s a)) (λ a l. delivered_le a),
          whole_le (exported s)
              (omega (
                arith,
                keyed_total (at s.owners) (λ j. referred (at s.exports j) (at s.factors j)) (agents s)
                    (boundaries s) (λ j l. (ok.boundary j l).there),
                sum_most (boundaries s) most_referred (λ j. referred (at s.exports j) (at s.factors j)) row_export_le,
                ok.few.boundaries,
              )),
        )

    pub losses_le : losses s ≤ most_metered
    unfolding losses
    losses_le = omega (arith, entering_le)

    pub consumed_most : consumed s ≤ most_metered
    consumed_most = omega (arith, consumed_le, leaving_le)

    -- ---- plants
    pub scheduled_le : (i : ℕ) → i < plants s → scheduled s i ≤ most_available
    unfolding scheduled
    scheduled_le i l =
        omega (
          arith,
          ideal_within (at s.offers) (at s.must_run) (at s.available) (plants s) (dispatch_demand s)
              (λ j m. (ok.plant j m).must_run) i l,
          (ok.plant i l).available,
        )

    pub made_le : (a : ℕ) → keyed (at s.holders) (scheduled s) (plants s) a ≤ most_scheduled
    made_le a =
        omega (arith, keyed_most (at s.holders) (scheduled s) (plants s) a most_available scheduled_le, ok.few.plants)

    pub price_le : bolsa_price s ≤ most_offer
    unfolding bolsa_price
    price_le =
        price_most (at s.offers) (at s.flags) (scheduled s) (plants s) most_offer (λ i l. (ok.plant i l).offer)
