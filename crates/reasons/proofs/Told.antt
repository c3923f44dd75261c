-- What the code puts together is the answer: the row asked for is the sheet's, with its schedule or amount. Assumes nothing.
use Rattle.std.specs.Prelude.{Ok, Err}
use Prim.Native.Nat.{ℕ, ◌≤◌, ◌<◌}
use native.Mathlib.Omega.{arith}
use mathlib.Core.Bool.{true}
use mathlib.Core.List.{List}
use mathlib.Core.Path.{◌≡◌, ap, ◌∙◌, sym}
use Rattle.sums.specs.Lists.{at}
use Rattle.refusals.specs.Refusals.{not_there, refusal}
use Rattle.refusals.specs.declared.Refusal.{Refusal}
use Rattle.limits.specs.declared.Plant.{Plant}
use Rattle.limits.specs.declared.Contract.{Contract}
use Rattle.sheet.specs.Reading.{read_of}
use Rattle.sheet.specs.Asking.{plant_at, contract_at}
use Rattle.sheet.specs.declared.Counts.{Counts}
use Rattle.columns.specs.Columns.{columns_of, hour_of, sheet_verdict}
use Rattle.columns.proofs.Columns.{plants_long, contracts_long, sound, hour_is, must_at}
use Rattle.columns.proofs.Columns.{offer_at, available_at, buyer_at, price_at_lem, quantity_at_lem}
use Rattle.hour.specs.Sheet.{agents, plants, contracts, retails}
use Rattle.hour.specs.Sound.{ContractSound}
use Rattle.hour.specs.Balance.{commercial}
use Rattle.hour.specs.Lines.{scheduled, bolsa_price, amount, own}
use Rattle.reasons.specs.Reasons.{plant_reason_by, plant_reason, plant_case, contract_reason}
use Rattle.reasons.specs.Reasons.{contract_case, plant_why, contract_why}
use Rattle.reasons.specs.Parts.{HourSettled, price_by, reason_in}
use Rattle.reasons.specs.declared.PlantReason.{PlantReason}
use Rattle.reasons.specs.declared.PlantCase.{PlantCase}
use Rattle.reasons.specs.declared.ContractReason.{ContractReason}
use Rattle.reasons.specs.declared.ContractCase.{ContractCase}
use Rattle.reasons.proofs.Asked.{why_refused, why_unread, why_absent, why_there}
use Rattle.reasons.proofs.Owned.{reason_is}

-- ---- turned away
module _ (bytes : List ℕ) (i : ℕ) where
  pub plant_refused : (q : Refusal) → sheet_verdict bytes ≡ Err q → Err q ≡ plant_why bytes i
  unfolding plant_why
  plant_refused q e = rw (why_refused bytes (plants (hour_of bytes)) i q e)

  pub plant_unread : (q : Refusal) → read_of bytes ≡ Err q → Err q ≡ plant_why bytes i
  unfolding plant_why
  plant_unread q e = rw (why_unread bytes (plants (hour_of bytes)) i q e)

  pub contract_refused : (q : Refusal) → sheet_verdict bytes ≡ Err q → Err q ≡ contract_why bytes i
  unfolding contract_why
  contract_refused q e = rw (why_refused bytes (contracts (hour_of bytes)) i q e)

  pub contract_unread : (q : Refusal) → read_of bytes ≡ Err q → Err q ≡ contract_why bytes i
  unfolding contract_why
  contract_unread q e = rw (why_unread bytes (contracts (hour_of bytes)) i q e)

abbrev case_of : PlantReason → (scheduled available must offer price : ℕ) → PlantCase
case_of w q a m o x = record { reason = w; scheduled = q; available = a; must = m; offer = o; price = x }

same_plant : (w w' : PlantReason) (q q' a a' m m' o o' x x' : ℕ)
    → w ≡ w' → q ≡ q' → a ≡ a' → m ≡ m' → o ≡ o' → x ≡ x'
    → case_of w q a m o x ≡ case_of w' q' a' m' o' x'
same_plant w w' q q' a a' m m' o o' x x' h1 h2 h3 h4 h5 h6 = rw (h1, h2, h3, h4, h5, h6)

abbrev deal_case : ContractReason → (quantity amount price : ℕ) → ContractCase
deal_case w q x p = record { reason = w; quantity = q; amount = x; price = p }

same_deal : (w w' : ContractReason) (q q' x x' p p' : ℕ)
    → w ≡ w' → q ≡ q' → x ≡ x' → p ≡ p'
    → deal_case w q x p ≡ deal_case w' q' x' p'
same_deal w w' q q' x x' p p' h1 h2 h3 h4 = rw (h1, h2, h3, h4)

-- ---- of an accepted sheet that nothing turns away
module _ (bytes : List ℕ) (c : Counts) (e : read_of bytes ≡ Ok c)
    (fine : sheet_verdict bytes ≡ Ok tt) (i : ℕ) where
  hour : hour_of bytes ≡ columns_of bytes c
  hour = hour_is bytes c e

  plant_count_lem : plants (hour_of bytes) ≡ c.plants
  plant_count_lem = rw hour (plants_long bytes c)

  contract_count : contracts (hour_of bytes) ≡ c.contracts
  contract_count = rw hour (contracts_long bytes c)

  pub plant_absent : c.plants ≤ i → Err (refusal not_there i) ≡ plant_why bytes i
  unfolding plant_why
  plant_absent l = rw (why_absent bytes (plants (hour_of bytes)) i fine (omega (arith, plant_count_lem)))

  pub contract_absent : c.contracts ≤ i → Err (refusal not_there i) ≡ contract_why bytes i
  unfolding contract_why
  contract_absent l = rw (why_absent bytes (contracts (hour_of bytes)) i fine (omega (arith, contract_count)))

  pub plant_there : i < c.plants → i < plants (hour_of bytes)
  plant_there l = omega (arith, plant_count_lem)

  pub contract_there : i < c.contracts → i < contracts (hour_of bytes)
  contract_there l = omega (arith, contract_count)

  -- what the lists of the settlement hold of it, and of a buyer
  module _ (os s s' a a' : List ℕ) (x : ℕ) (w : HourSettled bytes os s s' a a' (Ok x)) where
    pub schedule_at : i < c.plants → at s' i ≡ scheduled (hour_of bytes) i
    schedule_at l = w.schedule.done i (rw fine (plant_there l))

    pub amount_at_lem : i < c.contracts → at a' i ≡ amount (hour_of bytes) i
    amount_at_lem l = w.amounts.done i (rw fine (contract_there l))

    pub price_told : x ≡ bolsa_price (hour_of bytes)
    price_told = let e : Ok x ≡ price_by (Ok tt) (hour_of bytes) = rw fine at w.answer in cc

    -- the own energy of its buyer, who is a retailer
    pub demand_at : i < c.contracts → (b : ℕ) → b ≡ (contract_at bytes c i).buyer → at os b ≡ commercial (hour_of bytes) b
    unfolding own
    demand_at l b is = w.own fine b there ∙ rw retailer
      where
        buyer : b ≡ at (hour_of bytes).deals.buyers i
        buyer = rw hour (is ∙ sym (buyer_at bytes c i l))

        its : ContractSound (hour_of bytes) i
        its = rw hour ((sound bytes c e).contract i (omega (arith, contracts_long bytes c)))

        there : b < agents (hour_of bytes)
        there = rw buyer its.buyer_there

        retailer : retails (hour_of bytes) b ≡ true
        retailer = rw buyer its.retailer

  -- a plant that is there, with its schedule q and the price x
  pub plant_told_lem : (l : i < c.plants) (p : Plant) → p ≡ plant_at bytes c i
      → (q x : ℕ) → q ≡ scheduled (hour_of bytes) i → x ≡ bolsa_price (hour_of bytes)
      → (w : PlantReason) → w ≡ plant_reason_by q p.must p.availability
      → Ok (case_of w q p.availability p.must p.price x) ≡ plant_why bytes i
  unfolding plant_why plant_case plant_reason
  plant_told_lem l p ep q x eq ex w ew =
      rw (why_there bytes (plants (hour_of bytes)) i fine (plant_there l))
      (ap Ok
      (same_plant w _ q _ p.availability _ p.must _ p.price _ x _
      (ew ∙ rw (eq, available, must)) eq available must offer ex))
    where
      available : p.availability ≡ at (hour_of bytes).available i
      available = rw (ep, hour) (sym (available_at bytes c i l))

      must : p.must ≡ at (hour_of bytes).must_run i
      must = rw (ep, hour) (sym (must_at bytes c i l))

      offer : p.price ≡ at (hour_of bytes).offers i
      offer = rw (ep, hour) (sym (offer_at bytes c i l))

  -- a contract that is there, with its amount x and its buyer's demand d
  pub contract_told_lem : (l : i < c.contracts) (k : Contract) → k ≡ contract_at bytes c i
      → (x d : ℕ) → x ≡ amount (hour_of bytes) i → d ≡ commercial (hour_of bytes) k.buyer
      → (w : ContractReason) → w ≡ reason_in bytes c k i d
      → Ok (deal_case w k.quantity x k.price) ≡ contract_why bytes i
  unfolding contract_why contract_case contract_reason
  contract_told_lem l k ek x d ex ed w ew =
      rw (why_there bytes (contracts (hour_of bytes)) i fine (contract_there l))
      (ap Ok (same_deal w _ k.quantity _ x _ k.price _ (ew ∙ reason) quantity ex price))
    where
      quantity : k.quantity ≡ at (hour_of bytes).deals.quantities i
      quantity = rw (ek, hour) (sym (quantity_at_lem bytes c i l))

      price : k.price ≡ at (hour_of bytes).deals.prices i
      price = rw (ek, hour) (sym (price_at_lem bytes c i l))

      buyer : k.buyer ≡ at (columns_of bytes c).deals.buyers i
      buyer = rw ek (sym (buyer_at bytes c i l))

      reason : reason_in bytes c k i d ≡ contract_reason (hour_of bytes) i
      reason = rw (ek, ed, buyer, hour) (reason_is bytes c e i l _)
