-- What the tests of a row say, as plain facts. Assumes nothing.
use Prim.Native.Nat.{ℕ, ◌≤◌}
use mathlib.Core.Path.{◌≡◌}
use mathlib.Core.Bool.{true, false, ◌||◌, not}
use mathlib.Core.List.{[], ◌∷◌}
use lib.Dec.{leb, eqb}
use borrow.Author.Tests.{leb-true, eqb-true}
use Rattle.sums.proofs.Tests.{all_true, or_else}
use Rattle.limits.specs.Limits.{most_factor, most_reading, most_offer, most_available, most_price, most_quantity}
use Rattle.rows.specs.Rows.{is_agent, carries_losses, is_generator, may_sell, may_buy, holds_plants}
use Rattle.rows.specs.Rows.{agent_blank, boundary_blank, boundary_good, plant_good, contract_good}
use Rattle.rows.proofs.ByKind.{metered}
use Rattle.octets.specs.declared.Words.{Words}
use Rattle.limits.specs.declared.Boundary.{Boundary}
use Rattle.limits.specs.declared.Plant.{Plant}
use Rattle.limits.specs.declared.Contract.{Contract}

-- ---- unused bytes
pub record AgentBlank (w : Words) : Type 0 where
  pub second : w.second ≡ 0
  pub third : w.third ≡ 0
  pub fourth : w.fourth ≡ 0

pub agent_blank_lem : (w : Words) → agent_blank w ≡ true → AgentBlank w
agent_blank_lem w e =
    let all = all_true (eqb w.second 0) (eqb w.third 0 ∷ eqb w.fourth 0 ∷ []) e in
    record { second = eqb-true _ _ all.0; third = eqb-true _ _ all.1.0; fourth = eqb-true _ _ all.1.1.0 }

pub boundary_blank_lem : (w : Words) → boundary_blank w ≡ true → w.second ≡ 0
boundary_blank_lem w e = eqb-true _ _ e

-- ---- a good boundary, plant and contract, with the kinds of the agents that they name
pub record BoundaryFits (kind : ℕ) (b : Boundary) : Type 0 where
  pub known : is_agent kind ≡ true
  pub factor : b.factor ≤ most_factor
  pub import : b.import ≤ most_reading
  pub export : b.export ≤ most_reading
  pub unreferred : carries_losses kind ≡ false → b.factor ≡ 0

pub boundary_fits : (kind : ℕ) (b : Boundary) → boundary_good kind b ≡ true → BoundaryFits kind b
boundary_fits kind b e =
    let all =
    all_true (is_agent kind) (leb b.factor most_factor ∷ leb b.import most_reading ∷ leb b.export most_reading
    ∷ (not (is_generator kind) || eqb b.factor 0) ∷ []) e in
    record {
      known = all.0;
      factor = leb-true _ _ all.1.0;
      import = leb-true _ _ all.1.1.0;
      export = leb-true _ _ all.1.1.1.0;
      unreferred =
          λ h. eqb-true _ _ (or_else (is_generator kind) (eqb b.factor 0) all.1.1.1.1.0 (metered kind all.0 h));
    }

pub record PlantFits (kind : ℕ) (p : Plant) : Type 0 where
  pub holder : holds_plants kind ≡ true
  pub flag : p.inflexible ≤ 1
  pub price : p.price ≤ most_offer
  pub availability : p.availability ≤ most_available
  pub within : p.must ≤ p.availability

pub plant_fits : (kind : ℕ) (p : Plant) → plant_good kind p ≡ true → PlantFits kind p
plant_fits kind p e =
    let all =
    all_true (holds_plants kind) (leb p.inflexible 1 ∷ leb p.price most_offer ∷ leb p.availability most_available
    ∷ leb p.must p.availability ∷ (not (eqb p.inflexible 0) || eqb p.must 0) ∷ []) e in
    record {
      holder = all.0;
      flag = leb-true _ _ all.1.0;
      price = leb-true _ _ all.1.1.0;
      availability = leb-true _ _ all.1.1.1.0;
      within = leb-true _ _ all.1.1.1.1.0;
    }

pub record ContractFits (seller buyer : ℕ) (c : Contract) : Type 0 where
  pub sells : may_sell seller ≡ true
  pub buys : may_buy buyer ≡ true
  pub least : 1 ≤ c.kind
  pub most : c.kind ≤ 3
  pub price : c.price ≤ most_price
  pub quantity : c.quantity ≤ most_quantity

pub contract_fits : (seller buyer : ℕ) (c : Contract) → contract_good seller buyer c ≡ true → ContractFits seller buyer c
contract_fits seller buyer c e =
    let all =
    all_true (may_sell seller) (may_buy buyer ∷ leb 1 c.kind ∷ leb c.kind 3 ∷ leb c.price most_price
    ∷ leb c.quantity most_quantity ∷ []) e in
    record {
      sells = all.0;
      buys = all.1.0;
      least = leb-true _ _ all.1.1.0;
      most = leb-true _ _ all.1.1.1.0;
      price = leb-true _ _ all.1.1.1.1.0;
      quantity = leb-true _ _ all.1.1.1.1.1.0;
    }
