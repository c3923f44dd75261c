-- Kind 3 in stated amounts: a row is given at most its quantity, and all rows what remains, or all that they ask. Assumes nothing.
use Prim.Native.Nat.{ℕ, zero, suc, ◌+◌, ◌-◌, ◌*◌, ◌≤◌, ◌<◌, min}
use native.Mathlib.Nat.{mul-le-mul_right}
use native.Mathlib.Omega.{arith}
use mathlib.Core.Bool.{◌&&◌}
use mathlib.Core.Logic.{◌⊎◌, inl, inr, ⊎_elim}
use mathlib.Core.Path.{◌≡◌, refl, ap, ◌∙◌, sym}
use lib.Dec.{ltb, eqb}
use borrow.Author.Tests.{lt-ltb, ltb-true, eqb-true, eq-eqb}
use Rattle.sums.specs.Sums.{sum, peak, pick}
use Rattle.sums.specs.Lists.{total}
use Rattle.sums.proofs.Sums.{sum_eq, sum_le, sum_add, sum_zero, sum_term, Some, sum_some, peak_ge}
use Rattle.sums.proofs.Picks.{pick_true, pick_same, pick_both, pick_lt, pick_zero}
use Rattle.sums.proofs.Tests.{and_left, and_right}
use Rattle.sums.proofs.Cut.{cut}
use Rattle.deals.specs.Deals.{Deals, count, kind, price, quantity, demanded, cheaper_of, group_of}
use Rattle.deals.proofs.Demanded.{below_next, below_none, weight_of, group_total, cheaper_none, cheaper_step}
use Rattle.statement.specs.Follows.{given_at, Near, Shares}
use Rattle.statement.specs.Quick.{given_all}
use Rattle.statement.proofs.Every.{pick_most, pick_two, pick_passed}

-- a share of at most the whole is at most its weight
pub near_le : (a w t x : ℕ) → a ≤ t → Near a w t x → x ≤ w
near_le a w t x h n = ⊎_elim more (λ l. l) (cut w x)
  where
    more : w < x → x ≤ w
    more l =
        let m : (w + 1) * t ≤ x * t = mul-le-mul_right t (omega arith) in
        let k : a * w ≤ t * w = mul-le-mul_right w h in
        absurd (omega (arith, n.over))

module _ (s : Deals) where
  pub cheaper_mono : (p q : ℕ) → p ≤ q → cheaper_of s p ≤ cheaper_of s q
  unfolding cheaper_of
  cheaper_mono p q h =
      sum_le (count s) _ _
      (λ j l. pick_most (eqb (kind s j) demanded && ltb (price s j) p) (quantity s j) _
      (λ t. let y : price s j < p = ltb-true (price s j) p
      (and_right (eqb (kind s j) demanded) (ltb (price s j) p) t) in
      omega (
        arith,
        pick_two (eqb (kind s j) demanded) (ltb (price s j) q) (quantity s j) (and_left _ _ t)
            (lt-ltb (price s j) q (omega arith)),
      )))

  -- a cheaper group stands whole below a dearer one
  pub cheaper_group : (p q : ℕ) → p < q → cheaper_of s p + total (group_of s p) ≤ cheaper_of s q
  cheaper_group p q h = omega (arith, cheaper_step s p, cheaper_mono (suc p) q h)

  pub weight_whole : (i : ℕ) → i < count s → kind s i ≡ demanded → quantity s i ≤ total (group_of s (price s i))
  weight_whole i l e =
      omega (
        arith,
        group_total s (price s i),
        sum_term (count s) i (weight_of s (price s i)) l,
        pick_two (eqb (kind s i) demanded) (eqb (price s i) (price s i)) (quantity s i) (eq-eqb (kind s i) demanded e)
            (eq-eqb (price s i) (price s i) refl),
      )

  -- below a price above all of them stand all rows
  below_all : (x : ℕ → ℕ)
      → sum (count s) (λ j. pick (eqb (kind s j) demanded && ltb (price s j) (suc (peak (count s) (price s)))) (x j))
      ≡ given_all s x
  unfolding given_all
  below_all x =
      sum_eq (count s) _ _
      (λ j l. pick_both (eqb (kind s j) demanded) (ltb (price s j) (suc (peak (count s) (price s)))) (x j)
      ∙ ap (pick (eqb (kind s j) demanded))
      (pick_lt (price s j) (suc (peak (count s) (price s))) (x j) (omega (arith, peak_ge (count s) j (price s) l))))

  pub cheaper_all : (p : ℕ) → cheaper_of s p ≤ given_all s (quantity s)
  unfolding cheaper_of given_all
  cheaper_all p =
      sum_le (count s) _ _
      (λ j l. pick_most (eqb (kind s j) demanded && ltb (price s j) p) (quantity s j) _
      (λ t. omega (arith, pick_true (eqb (kind s j) demanded) (quantity s j) (and_left _ _ t))))

-- amounts of kind 3 out of what is left
pub record Grouped (s : Deals) (left : ℕ) (x : ℕ → ℕ) : Type 0 where
  pub fits : (i : ℕ)
      → i < count s
      → kind s i ≡ demanded
      → cheaper_of s (price s i) + total (group_of s (price s i)) ≤ left
      → x i ≡ quantity s i
  pub shares : (i : ℕ) → i < count s → kind s i ≡ demanded
      → left < cheaper_of s (price s i) + total (group_of s (price s i)) → cheaper_of s (price s i) ≤ left
      → Shares s left x i
  pub dearer : (i : ℕ) → i < count s → kind s i ≡ demanded → left < cheaper_of s (price s i) → x i ≡ 0

module _ (s : Deals) (left : ℕ) (x : ℕ → ℕ) (r : Grouped s left x) where
  -- A ROW IS GIVEN AT MOST ITS QUANTITY
  pub demanded_most : (i : ℕ) → i < count s → kind s i ≡ demanded → x i ≤ quantity s i
  demanded_most i l e =
      go (cut left (cheaper_of s (price s i) + total (group_of s (price s i)))) (cut left (cheaper_of s (price s i)))
    where
      go : (left < cheaper_of s (price s i) + total (group_of s (price s i)))
          ⊎ (cheaper_of s (price s i) + total (group_of s (price s i)) ≤ left)
          → (left < cheaper_of s (price s i)) ⊎ (cheaper_of s (price s i) ≤ left) → x i ≤ quantity s i
      go (inr a) b = omega (arith, r.fits i l e a)
      go (inl a) (inl b) = omega (arith, r.dearer i l e b)
      go (inl a) (inr b) = near_le (left - cheaper_of s (price s i)) (quantity s i) (total (group_of s (price s i)))
          (x i) (omega arith) (r.shares i l e a b).near

  -- a group's rows are given f, which need be told only for its price
  given_is : (p : ℕ) (f : ℕ → ℕ) → ((i : ℕ) → i < count s → kind s i ≡ demanded → price s i ≡ p → x i ≡ f i)
      → given_at s x p ≡ sum (count s) (λ i. pick (eqb (kind s i) demanded && eqb (price s i) p) (f i))
  unfolding given_at
  given_is p f h =
      sum_eq (count s) _ _
      (λ i l. pick_same (eqb (kind s i) demanded && eqb (price s i) p) (x i) (f i)
      (λ t. h i l (eqb-true (kind s i) demanded (and_left _ _ t))
      (eqb-true (price s i) p (and_right (eqb (kind s i) demanded) (eqb (price s i) p) t))))

  given_full : (p : ℕ) → cheaper_of s p + total (group_of s p) ≤ left → given_at s x p ≡ total (group_of s p)
  given_full p h = given_is p (quantity s) (λ i l k e. r.fits i l k (rw e h)) ∙ sym (group_total s p)

  given_none : (p : ℕ) → left < cheaper_of s p → given_at s x p ≡ 0
  given_none p h =
      given_is p (λ i. 0) (λ i l k e. r.dearer i l k (rw e h))
      ∙ sum_zero (count s) _ (λ i l. pick_zero (eqb (kind s i) demanded && eqb (price s i) p))

  given_rest : (p : ℕ)
      → cheaper_of s p ≤ left
      → left < cheaper_of s p + total (group_of s p)
      → given_at s x p ≡ left - cheaper_of s p
  given_rest p h m = of (sum_some (count s) (weight_of s p) (omega (arith, group_total s p)))
    where
      of : Some (count s) (weight_of s p) → given_at s x p ≡ left - cheaper_of s p
      of w =
          let t =
          pick_passed (eqb (kind s w.which) demanded && eqb (price s w.which) p) (quantity s w.which)
          w.above in
          let k : kind s w.which ≡ demanded = eqb-true (kind s w.which) demanded (and_left _ _ t) in
          let e : price s w.which
          ≡ p =
          eqb-true (price s w.which) p
          (and_right (eqb (kind s w.which) demanded) (eqb (price s w.which) p) t) in
          rw e at (r.shares w.which w.within k (rw e m) (rw e h)).whole

  given_below : (p : ℕ)
      → sum (count s) (λ j. pick (eqb (kind s j) demanded && ltb (price s j) p) (x j)) ≡ min left (cheaper_of s p)
  unfolding given_at
  given_below zero =
      sum_zero (count s) _ (λ j l. below_none (eqb (kind s j) demanded) (price s j) (x j))
      ∙ omega (arith, cheaper_none s)
  given_below (suc p) = go (given_below p) (cut left (cheaper_of s p)) (cut left (cheaper_of s p + total (group_of s p)))
    where
      step : sum (count s) (λ j. pick (eqb (kind s j) demanded && ltb (price s j) (suc p)) (x j))
          ≡ sum (count s) (λ j. pick (eqb (kind s j) demanded && ltb (price s j) p) (x j)) + given_at s x p
      step =
          sum_eq (count s) _ _ (λ j l. below_next (eqb (kind s j) demanded) (price s j) p (x j))
          ∙ sum_add (count s) (λ j. pick (eqb (kind s j) demanded && ltb (price s j) p) (x j))
          (λ j. pick (eqb (kind s j) demanded && eqb (price s j) p) (x j))

      go : sum (count s) (λ j. pick (eqb (kind s j) demanded && ltb (price s j) p) (x j)) ≡ min left (cheaper_of s p)
          → (left < cheaper_of s p) ⊎ (cheaper_of s p ≤ left) → (left < cheaper_of s p + total (group_of s p))
          ⊎ (cheaper_of s p + total (group_of s p) ≤ left)
          → sum (count s) (λ j. pick (eqb (kind s j) demanded && ltb (price s j) (suc p)) (x j))
          ≡ min left (cheaper_of s (suc p))
      go ih (inl a) b = omega (arith, step, cheaper_step s p, given_none p a)
      go ih (inr a) (inl b) = omega (arith, step, cheaper_step s p, given_rest p a b)
      go ih (inr a) (inr b) = omega (arith, step, cheaper_step s p, given_full p b)

  -- KIND 3 IS GIVEN WHAT REMAINS, OR ALL THAT IT ASKS
  pub given_total : given_all s x ≡ min left (given_all s (quantity s))
  unfolding cheaper_of
  given_total =
      sym (below_all s x) ∙ given_below (suc (peak (count s) (price s)))
      ∙ ap (λ (z : ℕ). min left z) (below_all s (quantity s))
