-- Of a sheet that passes refusals 1 to 9, every figure of an agent's line fits 32 bits. Assumes nothing.
use Prim.Native.Nat.{ℕ, ◌+◌, ◌*◌, ◌≤◌, ◌<◌}
use native.Mathlib.Omega.{arith}
use mathlib.Core.Bool.{Bool, true, false, cond}
use Rattle.limits.specs.Limits.{most_contracts, most_quantity}
use Rattle.sums.specs.Sums.{keyed}
use Rattle.sums.specs.Lists.{at}
use Rattle.sums.proofs.Keyed.{keyed_most}
use Rattle.hour.specs.Sheet.{Sheet, agents, contracts, retails, outside}
use Rattle.hour.specs.Sound.{Sound}
use Rattle.hour.specs.Balance.{commercial, demands, hour_demand}
use Rattle.hour.specs.Lines.{amount, own, contracted, bought, sold}
use Rattle.deals.proofs.Hours.{hour_le}
use Rattle.hour.proofs.Verdicts.{Balanced}
use Rattle.hour.proofs.Bounds.{most_metered, imported_le, exported_le, entering_le, import_le, injected_le, made_le}
use Rattle.hour.proofs.Demand.{demand_le, commercial_le}

cond_le : (t : Bool) (x y m : ℕ) → x ≤ m → y ≤ m → cond t x y ≤ m
cond_le true x y m h k = h
cond_le false x y m h k = k

-- all contracts together, and these with all that is metered
abbrev pub most_contracted : ℕ
most_contracted = most_contracts * most_quantity

abbrev pub most_bought : ℕ
most_bought = most_contracted + most_metered

module _ (s : Sheet) (ok : Sound s) where
  -- ---- contracts
  pub amount_le : (j : ℕ) → j < contracts s → amount s j ≤ most_quantity
  unfolding amount
  amount_le j l = omega (arith, hour_le s.deals (demands s) j (omega (arith, ok.whole.buyers)), (ok.contract j l).quantity)

  pub keyed_amount_le : (key : ℕ → ℕ) (a : ℕ) → keyed key (amount s) (contracts s) a ≤ most_contracted
  keyed_amount_le key a = omega (arith, keyed_most key (amount s) (contracts s) a most_quantity amount_le, ok.few.contracts)

  pub contracted_le : (a : ℕ) → contracted s a ≤ most_contracted
  unfolding contracted
  contracted_le a = cond_le (retails s a) _ _ _ (keyed_amount_le (at s.deals.buyers) a) (keyed_amount_le (at s.sellers) a)

  module _ (b : Balanced s) where
    pub demand_most : hour_demand s ≤ most_metered
    demand_most = omega (arith, demand_le s b, entering_le s ok)

    module _ (a : ℕ) (l : a < agents s) where
      pub commercial_most : commercial s a ≤ most_metered
      commercial_most = omega (arith, commercial_le s b a l, demand_most)

      pub own_le : own s a ≤ most_metered
      unfolding own
      own_le =
          cond_le (retails s a) _ _ _ commercial_most
          (cond_le (outside s a) _ _ _ (omega (arith, injected_le s a, exported_le s ok a)) (omega (arith, made_le s ok a)))

      pub bought_le : bought s a ≤ most_bought
      unfolding bought
      bought_le =
          cond_le (retails s a) _ _ _ (omega (arith, own_le)) (omega (arith, contracted_le a, import_le s a, imported_le s ok a))

      pub sold_le : sold s a ≤ most_metered
      unfolding sold
      sold_le = cond_le (retails s a) _ _ _ (omega (arith, contracted_le a)) (omega (arith, own_le))
