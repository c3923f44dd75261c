-- WHAT WHO ASKS MAY RELY ON, of every answer of `why_plant` and `why_contract`, for every string of bytes and every number. Their promises
-- are the equations `r ≡ plant_why bytes i` and `r ≡ contract_why bytes i`: for one question there is one answer. Assumes nothing.
use Rattle.std.specs.Prelude.{Ok, Err}
use Prim.Native.Nat.{ℕ, ◌<◌}
use native.Mathlib.Omega.{arith}
use mathlib.Core.Bool.{true, false}
use mathlib.Core.List.{List}
use mathlib.Core.Path.{◌≡◌, refl, ap, ◌∙◌, sym}
use Rattle.sums.specs.Lists.{at}
use Rattle.refusals.specs.Refusals.{Verdict}
use Rattle.refusals.proofs.Fine.{both_fine, fine_left, fine_test}
use Rattle.sheet.specs.Reading.{read_verdict, read_of, counts_of}
use Rattle.columns.specs.Columns.{hour_of, sheet_verdict}
use Rattle.columns.proofs.Columns.{sound}
use Rattle.hour.specs.Sheet.{plants, contracts}
use Rattle.hour.specs.Sound.{Sound}
use Rattle.hour.specs.Balance.{commercial}
use Rattle.hour.specs.Lines.{scheduled}
use borrow.Author.Tests.{ltb-true}
use Rattle.reasons.specs.Reasons.{plant_reason_number, plant_holds, plant_reason, plant_case, ContractHolds}
use Rattle.reasons.specs.Reasons.{contract_reason, contract_case, buyer_of, own_deals, own_place, why_verdict}
use Rattle.reasons.specs.Reasons.{plant_told, plant_why, contract_told, contract_why, PlantSays, ContractSays, StandsAhead}
use Rattle.reasons.specs.declared.PlantReason.{PlantReason}
use Rattle.reasons.specs.declared.PlantCase.{PlantCase}
use Rattle.reasons.specs.declared.ContractReason.{ContractReason}
use Rattle.reasons.specs.declared.ContractCase.{ContractCase}
use Rattle.reasons.proofs.Asked.{why_there}
use Rattle.reasons.proofs.Plants.{plant_holds_lem, plant_first, plant_says}
use Rattle.reasons.proofs.Plants as plant
use Rattle.reasons.proofs.Deals.{contract_only}
use Rattle.reasons.proofs.Deals as deal

-- a sheet that nothing turns away is sound
fine_sound : (bytes : List ℕ) → sheet_verdict bytes ≡ Ok tt → Sound (hour_of bytes)
unfolding sheet_verdict hour_of read_of
fine_sound bytes e = sound bytes (counts_of bytes) read
  where
    read : read_of bytes ≡ Ok (counts_of bytes)
    read = rw (fine_left (read_verdict bytes) _ e)

-- of a sheet that settles, whoever is there is told a reason
pub plant_answered : (bytes : List ℕ) (i : ℕ) → sheet_verdict bytes ≡ Ok tt → i < plants (hour_of bytes)
    → plant_why bytes i ≡ Ok (plant_case (hour_of bytes) i)
unfolding plant_why
plant_answered bytes i e l = rw (why_there bytes (plants (hour_of bytes)) i e l)

pub contract_answered : (bytes : List ℕ) (j : ℕ) → sheet_verdict bytes ≡ Ok tt → j < contracts (hour_of bytes)
    → contract_why bytes j ≡ Ok (contract_case (hour_of bytes) j)
unfolding contract_why
contract_answered bytes j e l = rw (why_there bytes (contracts (hour_of bytes)) j e l)

-- and who is told one is there
passed : (bytes : List ℕ) (n i : ℕ) → why_verdict bytes n i ≡ Ok tt → (sheet_verdict bytes ≡ Ok tt) × (i < n)
unfolding why_verdict
passed bytes n i e =
    let h = both_fine (sheet_verdict bytes) _ e in
    (h.0, ltb-true i n (fine_test _ _ _ (fine_left _ _ h.1)))

plant_fine : (v : Verdict) (o k : PlantCase) → plant_told v o ≡ Ok k → (v ≡ Ok tt) × (o ≡ k)
plant_fine (Ok tt) o k e = (refl, cc)
plant_fine (Err r) o k e = let z : ◌≡◌ {A = ℕ} 0 1 = cc in let no : ⊥ = omega arith in absurd no

contract_fine : (v : Verdict) (o k : ContractCase)
    → contract_told v o ≡ Ok k
    → (v ≡ Ok tt) × (o ≡ k)
contract_fine (Ok tt) o k e = (refl, cc)
contract_fine (Err r) o k e = let z : ◌≡◌ {A = ℕ} 0 1 = cc in let no : ⊥ = omega arith in absurd no

-- ---- A PLANT THAT IS TOLD A REASON
module _ (bytes : List ℕ) (i : ℕ) (k : PlantCase) (told : plant_why bytes i ≡ Ok k) where
  known : (why_verdict bytes (plants (hour_of bytes)) i ≡ Ok tt) × (plant_case (hour_of bytes) i ≡ k)
  unfolding plant_why
  known = plant_fine (why_verdict bytes (plants (hour_of bytes)) i) (plant_case (hour_of bytes) i) k told

  ok : Sound (hour_of bytes)
  ok = fine_sound bytes (passed bytes (plants (hour_of bytes)) i known.0).0

  pub plant_is_there : i < plants (hour_of bytes)
  plant_is_there = (passed bytes (plants (hour_of bytes)) i known.0).1

  -- The reason holds of the figures told with it,
  pub plant_reason_holds : plant_holds k.scheduled k.must k.available k.reason ≡ true
  unfolding plant_case
  plant_reason_holds = rw (sym known.1) (plant_holds_lem (hour_of bytes) ok i plant_is_there)

  -- it is the first that does,
  pub plant_reason_first : (r : PlantReason) → plant_reason_number r < plant_reason_number k.reason
      → plant_holds k.scheduled k.must k.available r ≡ false
  unfolding plant_case
  plant_reason_first = rw (sym known.1) (plant_first (hour_of bytes) ok i plant_is_there)

  -- and it says what the schedule is.
  pub plant_reason_says : PlantSays k.scheduled k.must k.available k.reason
  unfolding plant_case
  plant_reason_says = rw (sym known.1) (plant_says (hour_of bytes) ok i plant_is_there)

  last_is : k.reason ≡ PlantReason.Last → plant_reason (hour_of bytes) i ≡ PlantReason.Last
  unfolding plant_case
  last_is e = ap (λ (x : PlantCase). x.reason) known.1 ∙ e

-- PARTLY SCHEDULED, THE LAST ONE NEEDED: at most one plant of a sheet is told so, whatever the must-runs;
pub last_once : (bytes : List ℕ) (i j : ℕ) (k o : PlantCase)
    → plant_why bytes i ≡ Ok k
    → plant_why bytes j ≡ Ok o
    → k.reason ≡ PlantReason.Last
    → o.reason ≡ PlantReason.Last
    → i ≡ j
last_once bytes i j k o e f x y =
    plant.last_once (hour_of bytes) (ok bytes i k e) i (plant_is_there bytes i k e) (last_is bytes i k e x) j
    (plant_is_there bytes j o f) (last_is bytes j o f y)

module _ (bytes : List ℕ) (i : ℕ) (k : PlantCase) (told : plant_why bytes i ≡ Ok k)
    (last : k.reason ≡ PlantReason.Last) (j : ℕ) (l : j < plants (hour_of bytes)) where
  -- every plant that stands ahead of it is scheduled to the full,
  pub last_full : StandsAhead (hour_of bytes) j i → scheduled (hour_of bytes) j ≡ at (hour_of bytes).available j
  last_full =
      plant.last_full (hour_of bytes) (ok bytes i k told) i (plant_is_there bytes i k told) (last_is bytes i k told last) j l

  -- and every plant behind it runs its must-run and no more: nothing, where that is 0.
  pub last_needed : StandsAhead (hour_of bytes) i j → scheduled (hour_of bytes) j ≡ at (hour_of bytes).must_run j
  last_needed =
      plant.last_needed (hour_of bytes) (ok bytes i k told) i (plant_is_there bytes i k told) (last_is bytes i k told last) j
      l

-- ---- A CONTRACT THAT IS TOLD A REASON
module _ (bytes : List ℕ) (j : ℕ) (k : ContractCase) (told : contract_why bytes j ≡ Ok k) where
  found : (why_verdict bytes (contracts (hour_of bytes)) j ≡ Ok tt) × (contract_case (hour_of bytes) j ≡ k)
  unfolding contract_why
  found = contract_fine (why_verdict bytes (contracts (hour_of bytes)) j) (contract_case (hour_of bytes) j) k told

  good : Sound (hour_of bytes)
  good = fine_sound bytes (passed bytes (contracts (hour_of bytes)) j found.0).0

  pub contract_is_there : j < contracts (hour_of bytes)
  contract_is_there = (passed bytes (contracts (hour_of bytes)) j found.0).1

  -- The reason holds, with its values, of the contract as one of its buyer's own,
  pub contract_reason_holds : ContractHolds (own_deals (hour_of bytes) j) (commercial (hour_of bytes) (buyer_of (hour_of bytes) j))
      (own_place (hour_of bytes) j) k.reason
  unfolding contract_case
  contract_reason_holds = rw (sym found.1) (deal.reason_holds (hour_of bytes) good j contract_is_there)

  -- no other does,
  pub contract_reason_only : (r : ContractReason)
      → ContractHolds (own_deals (hour_of bytes) j) (commercial (hour_of bytes) (buyer_of (hour_of bytes) j))
      (own_place (hour_of bytes) j) r
      → r ≡ k.reason
  unfolding contract_case contract_reason
  contract_reason_only r h =
      rw (sym found.1)
      (contract_only (own_deals (hour_of bytes) j) (commercial (hour_of bytes) (buyer_of (hour_of bytes) j))
      (own_place (hour_of bytes) j) r h)

  -- and it says what the amount is.
  pub contract_reason_says : ContractSays (own_deals (hour_of bytes) j) (own_place (hour_of bytes) j) k.amount k.reason
  unfolding contract_case
  contract_reason_says = rw (sym found.1) (deal.reason_says (hour_of bytes) good j contract_is_there)
