-- One retailer's contracts that fit. Where kinds 1 and 2 together fit into the demand, each of them is assigned in full: what is ahead of
-- a row of kind 2, with the row itself, is part of them. Where they hold more than the demand, they leave nothing for kind 3. Where
-- kind 3 fits into what they leave, each group with all cheaper ones is part of it, and in full too. Assumes nothing.
use Prim.Native.Nat.{ℕ, suc, ◌+◌, ◌-◌, ◌≤◌, ◌<◌}
use native.Mathlib.Omega.{arith}
use native.Mathlib.Decide.{dec_lt, ℕ_discrete}
use mathlib.Core.Bool.{false, ◌&&◌}
use mathlib.Core.Path.{◌≡◌, refl, ap, ◌∙◌}
use lib.Dec.{ltb, eqb}
use borrow.Author.Tests.{le-ltb, eq-eqb}
use Rattle.sums.specs.Sums.{sum, pick}
use Rattle.sums.specs.Lists.{total}
use Rattle.sums.proofs.Sums.{sum_le, sum_add, sum_term}
use Rattle.sums.proofs.Picks.{pick_le, pick_eq, pick_ne, pick_lt, pick_ge, pick_both, pick_true, pick_false, pick_zero}
use Rattle.sums.proofs.Tests.{and_both}
use Rattle.limits.specs.Limits.{most_contracts}
use Rattle.share.specs.Share.{share_of}
use Rattle.share.proofs.Laws.{share_no_amount}
use Rattle.deals.specs.Deals.{Deals, count, kind, price, quantity, fixed}
use Rattle.deals.specs.Deals.{demanded, stands, ahead_of, rest_of, cheaper_of, group_of, amount_at}
use Rattle.deals.proofs.Firm.{firm_fixed, firm_needed}
use Rattle.deals.proofs.Demanded.{weight_of, group_total, cheaper_step, demanded_full, demanded_shared, demanded_dearer}
use Rattle.deals.proofs.Demanded.{amount_demanded, amount_firm}
use Rattle.deals.proofs.Amounts.{amount_le}
use Rattle.deals.proofs.Rest.{rest_total}

module _ (s : Deals) (d : ℕ) (few : count s ≤ most_contracts) (least : (j : ℕ) → j < count s → fixed ≤ kind s j) where
  abbrev firm : ℕ
  firm = sum (count s) (λ j. pick (ltb (kind s j) demanded) (quantity s j))

  abbrev asked : ℕ
  asked = sum (count s) (λ j. pick (eqb (kind s j) demanded) (quantity s j))

  -- a row does not stand before itself
  alone : (x k i : ℕ) → stands x k i x k i ≡ false
  unfolding stands
  alone x k i = rw (le-ltb x x (omega arith), eq-eqb x x refl, le-ltb k k (omega arith), eq-eqb k k refl, le-ltb i i (omega arith))

  abbrev ahead_part : ℕ → ℕ → ℕ
  ahead_part i j = pick (ltb (kind s j) demanded && stands (price s j) (kind s j) j (price s i) (kind s i) i) (quantity s j)

  ahead_self : (i : ℕ) → ahead_part i i ≡ 0
  ahead_self i =
      pick_both (ltb (kind s i) demanded) (stands (price s i) (kind s i) i (price s i) (kind s i) i) (quantity s i)
      ∙ (rw (alone (price s i) (kind s i) i, pick_false false (quantity s i) refl) (pick_zero (ltb (kind s i) demanded)))

  -- what is ahead of a row of kind 1 or 2, with the row, is part of kinds 1 and 2
  ahead_firm : (i : ℕ) → i < count s → kind s i < demanded → ahead_of s i + quantity s i ≤ firm
  unfolding ahead_of
  ahead_firm i l k =
      omega (
        arith,
        sum_le (count s) (λ j. ahead_part i j + pick (eqb j i) (quantity s j)) (λ j. pick (ltb (kind s j) demanded) (quantity s j))
            (λ j m. each j (ℕ_discrete j i) (dec_lt (kind s j) demanded)),
        sum_add (count s) (ahead_part i) (λ j. pick (eqb j i) (quantity s j)),
        sum_term (count s) i (λ j. pick (eqb j i) (quantity s j)) l,
        pick_eq i i (quantity s i) refl,
      )
    where
      each : (j : ℕ)
          → Dec (j ≡ i)
          → Dec (kind s j < demanded)
          → ahead_part i j + pick (eqb j i) (quantity s j) ≤ pick (ltb (kind s j) demanded) (quantity s j)
      each j (yes e) h =
          rw e (omega (arith, ahead_self i, pick_eq i i (quantity s i) refl, pick_lt (kind s i) demanded (quantity s i) k))
      each j (no e) (yes h) =
          omega (
            arith,
            pick_ne j i (quantity s j) e,
            pick_lt (kind s j) demanded (quantity s j) h,
            pick_le (ltb (kind s j) demanded && stands (price s j) (kind s j) j (price s i) (kind s i) i) (quantity s j),
          )
      each j (no e) (no h) =
          omega (
            arith,
            pick_ne j i (quantity s j) e,
            pick_both (ltb (kind s j) demanded) (stands (price s j) (kind s j) j (price s i) (kind s i) i) (quantity s j),
            pick_ge (kind s j) demanded (pick (stands (price s j) (kind s j) j (price s i) (kind s i) i) (quantity s j)) (omega arith),
          )

  -- what is below a price is part of kind 3
  cheaper_asked : (x : ℕ) → cheaper_of s x ≤ asked
  unfolding cheaper_of
  cheaper_asked x =
      sum_le (count s) (λ j. pick (eqb (kind s j) demanded && ltb (price s j) x) (quantity s j))
      (λ j. pick (eqb (kind s j) demanded) (quantity s j)) (λ j m. each j (ℕ_discrete (kind s j) demanded))
    where
      each : (j : ℕ)
          → Dec (kind s j ≡ demanded)
          → pick (eqb (kind s j) demanded && ltb (price s j) x) (quantity s j) ≤ pick (eqb (kind s j) demanded) (quantity s j)
      each j (yes e) =
          omega (
            arith,
            pick_eq (kind s j) demanded (quantity s j) e,
            pick_le (eqb (kind s j) demanded && ltb (price s j) x) (quantity s j),
          )
      each j (no e) =
          omega (
            arith,
            pick_both (eqb (kind s j) demanded) (ltb (price s j) x) (quantity s j),
            pick_ne (kind s j) demanded (pick (ltb (price s j) x) (quantity s j)) e,
          )

  module _ (i : ℕ) (l : i < count s) where
    -- KINDS 1 AND 2 THAT FIT ARE EACH ASSIGNED IN FULL
    pub firm_full : firm ≤ d → kind s i < demanded → amount_at s d i ≡ quantity s i
    firm_full fits k = go (ℕ_discrete (kind s i) fixed) (dec_lt (ahead_of s i) d)
      where
        go : Dec (kind s i ≡ fixed) → Dec (ahead_of s i < d) → amount_at s d i ≡ quantity s i
        go (yes a) c = amount_firm s d i (λ e. omega arith) ∙ firm_fixed s d i a
        go (no a) (yes c) = amount_firm s d i (λ e. omega arith) ∙ firm_needed s d i (omega (arith, least i l)) c
        go (no a) (no c) = omega (arith, amount_le s d i l, ahead_firm i l k, fits)

    -- KIND 3 THAT FITS INTO WHAT THEY LEAVE IS TOO
    pub asked_full : asked ≤ d - firm → kind s i ≡ demanded → amount_at s d i ≡ quantity s i
    asked_full fits k =
        amount_demanded s d i k
        ∙ demanded_full s (rest_of s d) i
        (omega (arith, cheaper_step s (price s i), cheaper_asked (suc (price s i)), rest_total s d few least, fits))

    -- WHERE THEY LEAVE NOTHING KIND 3 GETS NOTHING
    pub asked_none : d ≤ firm → kind s i ≡ demanded → amount_at s d i ≡ 0
    asked_none over k = go (dec_lt 0 (cheaper_of s (price s i))) (dec_lt 0 (total (group_of s (price s i))))
      where
        none : rest_of s d ≡ 0
        none = omega (arith, rest_total s d few least, over)

        mine : quantity s i ≤ total (group_of s (price s i))
        mine =
            omega (
              arith,
              group_total s (price s i),
              sum_term (count s) i (weight_of s (price s i)) l,
              pick_true (eqb (kind s i) demanded && eqb (price s i) (price s i)) (quantity s i)
                  (and_both (eq-eqb (kind s i) demanded k) (eq-eqb (price s i) (price s i) refl)),
            )

        go : Dec (0 < cheaper_of s (price s i)) → Dec (0 < total (group_of s (price s i))) → amount_at s d i ≡ 0
        go (yes a) b = amount_demanded s d i k ∙ demanded_dearer s (rest_of s d) i (omega (arith, none))
        go (no a) (yes b) =
            amount_demanded s d i k
            ∙ demanded_shared s (rest_of s d) i (omega (arith, none)) (omega (arith, none))
            ∙ (let z : rest_of s d - cheaper_of s (price s i) ≡ 0 = omega (arith, none) in
            ap (λ (y : ℕ). share_of y (group_of s (price s i)) i) z)
            ∙ share_no_amount (group_of s (price s i)) i
        go (no a) (no b) = omega (arith, amount_le s d i l, mine)
