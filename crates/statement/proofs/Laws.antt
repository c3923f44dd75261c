-- What amounts that follow document 01 have in common, whatever the order of equal prices: none is above its quantity, what kinds 1 and
-- 2 leave is the same, and so is what kind 3 is given in all. Assumes nothing.
use Prim.Native.Nat.{ℕ, ◌-◌, ◌≤◌, ◌<◌, min}
use native.Mathlib.Omega.{arith}
use native.Mathlib.Decide.{ℕ_discrete}
use mathlib.Core.Bool.{◌&&◌}
use mathlib.Core.Logic.{◌⊎◌, inl, inr}
use mathlib.Core.Path.{◌≡◌, ap, ◌∙◌, sym}
use lib.Dec.{ltb, eqb}
use Rattle.sums.specs.Sums.{sum, pick}
use Rattle.sums.proofs.Sums.{sum_eq}
use Rattle.sums.proofs.Picks.{pick_lt, pick_ge, pick_le, pick_both, pick_swap}
use Rattle.sums.proofs.Cut.{cut}
use Rattle.deals.specs.Deals.{Deals, count, kind, price, quantity, fixed, conditional, demanded, rest_of}
use Rattle.deals.proofs.Rest.{rest_law, rest_total}
use Rattle.statement.specs.Follows.{ahead_by, left_by, given_at, Shares, Follows}
use Rattle.statement.specs.Quick.{given_all}
use Rattle.statement.proofs.Groups.{Grouped, demanded_most, given_total}

module _ (s : Deals) (d : ℕ) (x : ℕ → ℕ) (f : Follows s d x) where
  pub follows_grouped : Grouped s (left_by s d x) x
  follows_grouped = record { fits = f.fits; shares = f.shares; dearer = f.dearer }

  module _ (known : (i : ℕ) → i < count s → 1 ≤ kind s i) where
    -- AN AMOUNT OF KINDS 1 TO 3 IS AT MOST ITS QUANTITY
    pub follows_most : (i : ℕ) → i < count s → kind s i ≤ demanded → x i ≤ quantity s i
    follows_most i l m = go (ℕ_discrete (kind s i) fixed) (ℕ_discrete (kind s i) conditional)
      where
        go : Dec (kind s i ≡ fixed) → Dec (kind s i ≡ conditional) → x i ≤ quantity s i
        go (yes a) b = omega (arith, f.one i l a)
        go (no a) (yes b) = omega (arith, f.two i l b, pick_le (ltb (ahead_by s f.place i) d) (quantity s i))
        go (no a) (no b) = demanded_most s (left_by s d x) x follows_grouped i l (omega (arith, known i l))

    abbrev has : ℕ → ℕ
    has j = pick (ltb (kind s j) demanded) (quantity s j)

    abbrev gets : ℕ → ℕ
    gets j = pick (ltb (kind s j) demanded) (x j)

    ahead_has : (i : ℕ) → ahead_by s f.place i ≡ sum (count s) (λ j. pick (ltb (f.place j) (f.place i)) (has j))
    unfolding ahead_by
    ahead_has i =
        sum_eq (count s) _ _
        (λ j l. pick_both (ltb (kind s j) demanded) (ltb (f.place j) (f.place i)) (quantity s j)
        ∙ pick_swap (ltb (kind s j) demanded) (ltb (f.place j) (f.place i)) (quantity s j))

    gets_most : (i : ℕ) → i < count s → gets i ≤ has i
    gets_most i l = go (cut (kind s i) demanded)
      where
        go : (kind s i < demanded) ⊎ (demanded ≤ kind s i) → gets i ≤ has i
        go (inl h) = omega (
          arith,
          pick_lt (kind s i) demanded (x i) h,
          pick_lt (kind s i) demanded (quantity s i) h,
          follows_most i l (omega arith),
        )
        go (inr h) = omega (arith, pick_ge (kind s i) demanded (x i) h)

    gets_full : (i : ℕ)
        → i < count s
        → gets i < has i
        → d ≤ sum (count s) (λ j. pick (ltb (f.place j) (f.place i)) (has j))
    gets_full i l h = go (cut (kind s i) demanded) (ℕ_discrete (kind s i) fixed) (cut (ahead_by s f.place i) d)
      where
        go : (kind s i < demanded) ⊎ (demanded ≤ kind s i)
            → Dec (kind s i ≡ fixed)
            → (ahead_by s f.place i < d) ⊎ (d ≤ ahead_by s f.place i)
            → d ≤ sum (count s) (λ j. pick (ltb (f.place j) (f.place i)) (has j))
        go (inr k) a b = absurd (omega (arith, pick_ge (kind s i) demanded (quantity s i) k))
        go (inl k) (yes a) b = absurd
            (omega (
              arith,
              pick_lt (kind s i) demanded (x i) k,
              pick_lt (kind s i) demanded (quantity s i) k,
              f.one i l a,
            ))
        go (inl k) (no a) (inl b) =
            absurd (omega (
              arith,
              pick_lt (kind s i) demanded (x i) k,
              pick_lt (kind s i) demanded (quantity s i) k,
              f.two i l (omega (arith, known i l)),
              pick_lt (ahead_by s f.place i) d (quantity s i) b,
            ))
        go (inl k) (no a) (inr b) = omega (arith, ahead_has i)

    -- WHAT REMAINS IS THE DEMAND LESS ALL QUANTITIES OF KINDS 1 AND 2, WHATEVER THE ORDER ..
    pub left_total : left_by s d x ≡ d - sum (count s) (λ j. pick (ltb (kind s j) demanded) (quantity s j))
    unfolding left_by
    left_total = rest_law (count s) d f.place has gets gets_most gets_full

    -- .. AND SO WHAT REMAINS IN OUR OWN SETTLEMENT
    pub left_ours : count s ≤ 256 → left_by s d x ≡ rest_of s d
    left_ours few = left_total ∙ sym (rest_total s d few known)

    -- kind 3 is given the same in all
    pub given_ours : count s ≤ 256 → given_all s x ≡ min (rest_of s d) (given_all s (quantity s))
    given_ours few =
        given_total s (left_by s d x) x follows_grouped ∙ ap (λ (z : ℕ). min z (given_all s (quantity s))) (left_ours few)

-- only the amounts of the rows count
module _ (s : Deals) (d : ℕ) (x y : ℕ → ℕ) (same : (i : ℕ) → i < count s → x i ≡ y i) where
  left_eq : left_by s d x ≡ left_by s d y
  unfolding left_by
  left_eq = ap (λ (z : ℕ). d - z) (sum_eq (count s) _ _ (λ i l. ap (pick (ltb (kind s i) demanded)) (same i l)))

  given_eq : (p : ℕ) → given_at s x p ≡ given_at s y p
  unfolding given_at
  given_eq p = sum_eq (count s) _ _ (λ i l. ap (pick (eqb (kind s i) demanded && eqb (price s i) p)) (same i l))

  pub follows_eq : Follows s d x → Follows s d y
  follows_eq f =
      record {
        place = f.place;
        order = f.order;
        one = λ i l e. sym (same i l) ∙ f.one i l e;
        two = λ i l e. sym (same i l) ∙ f.two i l e;
        fits = λ i l e h. sym (same i l) ∙ f.fits i l e (rw left_eq h);
        shares = λ i l e h m.
            let r : Shares s (left_by s d x) x i = f.shares i l e (rw left_eq h) (rw left_eq m) in
            record {
              near = rw (← left_eq, ← same i l) r.near;
              whole = sym (given_eq (price s i)) ∙ rw (← left_eq) r.whole;
            };
        dearer = λ i l e h. sym (same i l) ∙ f.dearer i l e (rw left_eq h);
      }
