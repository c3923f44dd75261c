-- KINDS 1 AND 2: what one running sum gives a place is what the definition gives its row. Of a buyer's rows those of lower keys are of
-- the same side, and they are the ones that the definition counts ahead of the row; so where the sum began with the demand, what is left
-- of it at the place is the demand without what is ahead. Assumes nothing.
use Prim.Native.Nat.{ℕ, ◌+◌, ◌-◌, ◌*◌, ◌/◌, ◌%◌, ◌<◌}
use native.Mathlib.Omega.{arith}
use native.Mathlib.Decide.{dec_lt, ℕ_discrete}
use mathlib.Core.Bool.{Bool, true, false, ◌||◌}
use mathlib.Core.List.{List}
use mathlib.Core.Path.{◌≡◌, ap, ap₂, ◌∙◌, sym}
use lib.Dec.{ltb, eqb}
use lib.ListN.{length}
use borrow.Author.Tests.{lt-ltb, le-ltb, eq-eqb, ne_eqb}
use Rattle.sums.specs.Sums.{sum, pick}
use Rattle.sums.specs.Lists.{at}
use Rattle.sums.proofs.Sums.{sum_eq}
use Rattle.sums.proofs.Tests.{or_first, or_second}
use Rattle.sums.proofs.Picks.{pick_true, pick_false, pick_le, pick_zero, pick_ge, pick_eq, pick_ne}
use Rattle.deals.specs.Deals.{Deals, quantity, fixed, conditional, demanded, ahead_of, firm_at}
use Rattle.deals.specs.Hour.{Rows, own_count, own_of, hour_amount}
use Rattle.deals.proofs.Own.{own_kind, own_quantity}
use Rattle.deals.proofs.Firm.{firm_fixed, firm_needed, firm_covered}
use Rattle.deals.proofs.Demanded.{amount_firm}
use Rattle.deals.proofs.Hours.{hour_is}
use Rattle.contracts.specs.Keys.{is_fixed, row_span, row_count}
use Rattle.contracts.proofs.Decode.{side_demanded, side_firm}
use Rattle.contracts.proofs.Columns.{buyer, kind_at, quantity_at, key, side}
use Rattle.contracts.proofs.RowKeys.{row_key_bit}
use Rattle.contracts.proofs.OwnKeys.{behind_key, ahead_is}
use Rattle.contracts.proofs.SidePlaces.{SideKeys, row, held, row_below, key_at_lem, side_at, buyer_at, held_before}

module _ {s : Rows} {ds : List ℕ} {b t : ℕ} {m : List ℕ} (w : SideKeys s ds b t m) (zero : t ≡ 0) (u : ℕ) (h : u < length m)
    (d : ℕ) (begins : d ≡ at ds b) where
  abbrev i : ℕ
  i = row m u

  abbrev own : Deals
  own = own_of s b

  abbrev spot : ℕ
  spot = own_count s.buyers b i

  li : i < row_count s
  li = row_below w u h

  ei : buyer s i ≡ b
  ei = buyer_at w u h

  fi : kind_at s i < demanded
  fi = go (ℕ_discrete (kind_at s i) demanded)
    where
      go : Dec (kind_at s i ≡ demanded) → kind_at s i < demanded
      go (yes e) = absurd (omega (arith, side_at w u h, side_demanded (kind_at s i) e))
      go (no e) = omega (arith, w.ready.most i li)

  -- of its buyer's rows those with a lower key are of its own side: none of them was left out
  none_out : (j : ℕ)
      → j < row_count s
      → Dec (buyer s j ≡ b)
      → Dec (key s j < key s i)
      → Dec (kind_at s j < demanded)
      → pick (eqb (b * 2 + t) (side s j)) (pick (ltb (key s j) (key s i)) (quantity_at s j))
      ≡ pick (ltb (key s j) (key s i)) (pick (eqb (buyer s j) b) (quantity_at s j))
  none_out j lj (no e) l f =
      pick_ne (b * 2 + t) (side s j) _ (λ z. e (omega (arith, pick_le (eqb (kind_at s j) demanded) 1)))
      ∙ sym (ap (pick (ltb (key s j) (key s i))) (pick_ne (buyer s j) b (quantity_at s j) e) ∙ pick_zero (ltb (key s j) (key s i)))
  none_out j lj (yes e) (no l) f =
      ap (pick (eqb (b * 2 + t) (side s j))) (pick_ge (key s j) (key s i) (quantity_at s j) (omega arith))
      ∙ pick_zero (eqb (b * 2 + t) (side s j))
      ∙ sym (pick_ge (key s j) (key s i) (pick (eqb (buyer s j) b) (quantity_at s j)) (omega arith))
  none_out j lj (yes e) (yes l) (yes f) =
      pick_eq (b * 2 + t) (side s j) _ (omega (arith, side_firm (kind_at s j) f))
      ∙ sym (ap (pick (ltb (key s j) (key s i))) (pick_eq (buyer s j) b (quantity_at s j) e))
  none_out j lj (yes e) (yes l) (no f) =
      absurd (omega (arith, behind_key s ds w.ready b i li ei fi j lj e (omega arith)))

  -- so what is left is the demand without what is ahead of the row
  firm_left : d - sum u (held s m) ≡ at ds b - ahead_of own spot
  firm_left =
      ap₂ (λ (y z : ℕ). y - z) begins
      (held_before w u h
      ∙ ap (λ (z : ℕ). sum (row_count s) (λ j. pick (eqb (b * 2 + t) (side s j)) (pick (ltb (key s j) z) (quantity_at s j))))
      (key_at_lem w u h)
      ∙ sum_eq (row_count s) (λ j. pick (eqb (b * 2 + t) (side s j)) (pick (ltb (key s j) (key s i)) (quantity_at s j)))
      (λ j. pick (ltb (key s j) (key s i)) (pick (eqb (buyer s j) b) (quantity_at s j)))
      (λ j lj. none_out j lj (ℕ_discrete (buyer s j) b) (dec_lt (key s j) (key s i)) (dec_lt (kind_at s j) demanded))
      ∙ sym (ahead_is s ds w.ready b i li ei fi))

  bit_at : at m u / row_span % 2 ≡ pick (eqb (kind_at s i) conditional) 1
  bit_at = ap (λ (z : ℕ). z / row_span % 2) (key_at_lem w u h) ∙ row_key_bit s ds w.ready i li

  -- kind 1, or kind 2 where any of the demand is left
  abbrev served : Bool
  served = is_fixed (at m u) || ltb 0 (d - sum u (held s m))

  -- A ROW OF KIND 1 OR 2 GETS ITS AMOUNT
  pub firm_place : pick served (held s m u) ≡ hour_amount s ds i
  firm_place =
      go (ℕ_discrete (kind_at s i) fixed) (dec_lt (ahead_of own spot) (at ds b))
      ∙ sym (hour_is s ds b i li ei ∙ amount_firm own (at ds b) spot (λ e. omega (arith, own_kind s b i li ei, fi)))
    where
      two : (kind_at s i ≡ fixed → ⊥) → kind_at s i ≡ conditional
      two e = omega (arith, w.ready.least i li, fi)

      not_fixed : (kind_at s i ≡ fixed → ⊥) → is_fixed (at m u) ≡ false
      not_fixed e =
          ne_eqb (at m u / row_span % 2) 0 (λ z. omega (arith, bit_at, pick_eq (kind_at s i) conditional 1 (two e)))

      full : firm_at own (at ds b) spot ≡ quantity own spot → served ≡ true → pick served (held s m u) ≡ firm_at own (at ds b) spot
      full e y = pick_true served (held s m u) y ∙ sym (e ∙ own_quantity s b i li ei)

      go : Dec (kind_at s i ≡ fixed) → Dec (ahead_of own spot < at ds b) → pick served (held s m u) ≡ firm_at own (at ds b) spot
      go (yes e) c =
          full (firm_fixed own (at ds b) spot (own_kind s b i li ei ∙ e))
          (or_first (ltb 0 (d - sum u (held s m)))
          (eq-eqb (at m u / row_span % 2) 0 (bit_at ∙ pick_ne (kind_at s i) conditional 1 (λ z. omega arith))))
      go (no e) (yes c) =
          full (firm_needed own (at ds b) spot (own_kind s b i li ei ∙ two e) c)
          (or_second (not_fixed e) (lt-ltb 0 (d - sum u (held s m)) (omega (arith, firm_left))))
      go (no e) (no c) =
          pick_false served (held s m u)
          (or_second (not_fixed e) (le-ltb 0 (d - sum u (held s m)) (omega (arith, firm_left))))
          ∙ sym (firm_covered own (at ds b) spot (own_kind s b i li ei ∙ two e) (omega arith))
