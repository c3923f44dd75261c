-- The decision in a few passes is the decision by sums. Assumes nothing.
use Prim.Native.Nat.{ℕ, ◌+◌, ◌-◌, ◌≤◌, ◌<◌, min}
use native.Mathlib.Omega.{arith}
use native.Mathlib.Decide.{ℕ_discrete}
use mathlib.Core.Bool.{Bool, true, false, ◌&&◌, ◌||◌}
use mathlib.Core.Logic.{◌⊎◌, inl, inr, ⊎_elim}
use mathlib.Core.Path.{◌≡◌, refl, sym}
use lib.Dec.{eqb}
use borrow.Author.Tests.{lt-ltb, le-ltb, eq-eqb, ne_eqb, le-leb, lt-leb, ltb-true, leb-true, eqb-true}
use Rattle.sums.specs.Lists.{total}
use Rattle.sums.proofs.Tests.{and_left, and_right, and_both, or_cases}
use Rattle.sums.proofs.Cut.{cut}
use Rattle.deals.specs.Deals.{Deals, count, kind, price, quantity, fixed, conditional, demanded, cheaper_of, group_of}
use Rattle.statement.specs.Follows.{left_by, Near}
use Rattle.statement.specs.Decide.{every, good}
use Rattle.statement.specs.Quick.{reach_of, depth_of, shape_good, given_all, last_good, first_good, group_good, groups_good, quick}
use Rattle.statement.proofs.Every.{every_holds, every_from, near_told, near_tells}
use Rattle.statement.proofs.Told.{good_rows, rows_good}
use Rattle.statement.proofs.Marginal.{Marginal, rows_marginal, marginal_rows}

-- two tests that hold together are one
pub same_test : (t u : Bool) → (t ≡ true → u ≡ true) → (u ≡ true → t ≡ true) → t ≡ u
same_test true u f g = sym (f refl)
same_test false true f g = g refl
same_test false false f g = refl

-- a guard that fails leaves the test
or_rest : (n : ℕ) (t : Bool) → (eqb n 0 || t) ≡ true → 0 < n → t ≡ true
or_rest n t e h = rw (ne_eqb n 0 (λ z. omega arith)) at e

or_guard : (n : ℕ) (t : Bool) → (0 < n → t ≡ true) → (eqb n 0 || t) ≡ true
or_guard n t h = go (ℕ_discrete n 0)
  where
    go : Dec (n ≡ 0) → (eqb n 0 || t) ≡ true
    go (yes z) = rw (eq-eqb n 0 z)
    go (no z) = rw (ne_eqb n 0 z) (h (omega arith))

-- ---- one row
module _ (k q x : ℕ) where
  shape_one : shape_good k q x ≡ true → k ≡ fixed → x ≡ q
  unfolding shape_good
  shape_one t e = eqb-true x q (rw (eq-eqb k fixed e) at t)

  shape_two : shape_good k q x ≡ true → k ≡ conditional → (x ≡ 0) ⊎ (x ≡ q)
  unfolding shape_good
  shape_two t e =
      ⊎_elim (λ u. inl (eqb-true x 0 u)) (λ u. inr (eqb-true x q u))
      (or_cases (eqb x 0) (eqb x q) (rw (ne_eqb k fixed (λ z. omega arith), eq-eqb k conditional e) at t))

  shape_from : (k ≡ fixed → x ≡ q) → (k ≡ conditional → (x ≡ 0) ⊎ (x ≡ q)) → shape_good k q x ≡ true
  unfolding shape_good
  shape_from f g = go (ℕ_discrete k fixed) (ℕ_discrete k conditional)
    where
      either : (x ≡ 0) ⊎ (x ≡ q) → Dec (x ≡ 0) → (eqb x 0 || eqb x q) ≡ true
      either w (yes z) = rw (eq-eqb x 0 z)
      either (inl w) (no z) = absurd (z w)
      either (inr w) (no z) = rw (ne_eqb x 0 z) (eq-eqb x q w)

      go : Dec (k ≡ fixed) → Dec (k ≡ conditional) → shape_good k q x ≡ true
      go (yes a) b = rw (eq-eqb k fixed a) (eq-eqb x q (f a))
      go (no a) (yes b) = rw (ne_eqb k fixed a, eq-eqb k conditional b) (either (g b) (ℕ_discrete x 0))
      go (no a) (no b) = rw (ne_eqb k fixed a, ne_eqb k conditional b)

module _ (left g c t k p q x : ℕ) where
  group_cheap : group_good left g c t k p q x ≡ true → k ≡ demanded → p + 1 < g → x ≡ q
  unfolding group_good
  group_cheap u e h = eqb-true x q (rw (eq-eqb k demanded e, lt-ltb (p + 1) g h) at u)

  group_full : group_good left g c t k p q x ≡ true → k ≡ demanded → p + 1 ≡ g → c + t ≤ left → x ≡ q
  unfolding group_good
  group_full u e h m =
      eqb-true x q (rw (
        eq-eqb k demanded e,
        le-ltb (p + 1) g (omega arith),
        eq-eqb (p + 1) g h,
        le-leb (c + t) left m,
      ) at u)

  group_near : group_good left g c t k p q x ≡ true → k ≡ demanded → p + 1 ≡ g → left < c + t → Near (left - c) q t x
  unfolding group_good
  group_near u e h m =
      near_told (left - c) q t x
      (rw (eq-eqb k demanded e, le-ltb (p + 1) g (omega arith), eq-eqb (p + 1) g h, lt-leb (c + t) left m) at u)

  group_from : (k ≡ demanded → p + 1 < g → x ≡ q)
      → (k ≡ demanded → p + 1 ≡ g → c + t ≤ left → x ≡ q)
      → (k ≡ demanded → p + 1 ≡ g → left < c + t → Near (left - c) q t x)
      → group_good left g c t k p q x ≡ true
  unfolding group_good
  group_from f h n = go (ℕ_discrete k demanded) (cut (p + 1) g) (ℕ_discrete (p + 1) g) (cut left (c + t))
    where
      go : Dec (k ≡ demanded)
          → (p + 1 < g) ⊎ (g ≤ p + 1)
          → Dec (p + 1 ≡ g)
          → (left < c + t) ⊎ (c + t ≤ left)
          → group_good left g c t k p q x ≡ true
      go (no a) b e m = rw (ne_eqb k demanded a)
      go (yes a) (inl b) e m = rw (eq-eqb k demanded a, lt-ltb (p + 1) g b) (eq-eqb x q (f a b))
      go (yes a) (inr b) (no e) m = rw (eq-eqb k demanded a, le-ltb (p + 1) g b, ne_eqb (p + 1) g e)
      go (yes a) (inr b) (yes e) (inr m) = rw (
        eq-eqb k demanded a,
        le-ltb (p + 1) g b,
        eq-eqb (p + 1) g e,
        le-leb (c + t) left m,
      ) (eq-eqb x q (h a e m))
      go (yes a) (inr b) (yes e) (inl m) = rw (
        eq-eqb k demanded a,
        le-ltb (p + 1) g b,
        eq-eqb (p + 1) g e,
        lt-leb (c + t) left m,
      ) (near_tells (left - c) q t x (n a e m))

-- ---- all rows
module _ (m : ℕ) (s : Deals) (d : ℕ) (x : ℕ → ℕ) where
  abbrev shapes : Bool
  shapes = every (count s) (λ i. shape_good (kind s i) (quantity s i) (x i))

  abbrev last : Bool
  last = last_good s d x (reach_of s x conditional)

  abbrev first : Bool
  first = first_good m s d x (depth_of m s x)

  abbrev groups : Bool
  groups = groups_good s (left_by s d x) x

  abbrev reach : ℕ
  reach = reach_of s x demanded

  abbrev rows : Bool
  rows =
      every (count s) (λ i. group_good (left_by s d x) reach (cheaper_of s (reach - 1)) (total (group_of s (reach - 1)))
      (kind s i) (price s i) (quantity s i) (x i))

  abbrev whole : Bool
  whole = eqb (given_all s x) (min (left_by s d x) (given_all s (quantity s)))

  quick_marginal : quick m s d x ≡ true → Marginal m s d x
  unfolding quick last_good first_good groups_good
  quick_marginal t =
      let a = and_right shapes (last && (first && groups)) t in
      let b = and_right last (first && groups) a in
      let c = and_right first groups b in
      let sh =
      every_holds (count s) (λ i. shape_good (kind s i) (quantity s i) (x i))
      (and_left shapes (last && (first && groups)) t) in
      let gr =
      every_holds (count s) (λ i. group_good (left_by s d x) reach (cheaper_of s (reach - 1))
      (total (group_of s (reach - 1))) (kind s i) (price s i) (quantity s i) (x i))
      (and_left rows whole c) in
      record {
        one = λ i l. shape_one (kind s i) (quantity s i) (x i) (sh i l);
        two = λ i l. shape_two (kind s i) (quantity s i) (x i) (sh i l);
        last = λ h. ltb-true _ d (or_rest _ _ (and_left last (first && groups) a) h);
        first = λ h. leb-true d _ (or_rest _ _ (and_left first groups b) h);
        cheap =
            λ i l. group_cheap (left_by s d x) reach (cheaper_of s (reach - 1)) (total (group_of s (reach - 1)))
            (kind s i) (price s i) (quantity s i) (x i) (gr i l);
        full =
            λ i l. group_full (left_by s d x) reach (cheaper_of s (reach - 1)) (total (group_of s (reach - 1))) (kind s i)
            (price s i) (quantity s i) (x i) (gr i l);
        near =
            λ i l. group_near (left_by s d x) reach (cheaper_of s (reach - 1)) (total (group_of s (reach - 1))) (kind s i)
            (price s i) (quantity s i) (x i) (gr i l);
        whole = eqb-true _ _ (and_right rows whole c);
      }

  marginal_quick : Marginal m s d x → quick m s d x ≡ true
  unfolding quick last_good first_good groups_good
  marginal_quick r =
      and_both (every_from (count s) _ (λ i l. shape_from (kind s i) (quantity s i) (x i) (r.one i l) (r.two i l)))
      (and_both (or_guard _ _ (λ h. lt-ltb _ d (r.last h)))
      (and_both (or_guard _ _ (λ h. le-leb d _ (r.first h)))
      (and_both
      (every_from (count s) _ (λ i l. group_from (left_by s d x) reach (cheaper_of s (reach - 1))
      (total (group_of s (reach - 1))) (kind s i) (price s i) (quantity s i) (x i) (r.cheap i l) (r.full i l)
      (r.near i l)))
      (eq-eqb _ _ r.whole))))

  -- THE PASSES DECIDE WHAT THE SUMS DECIDE, where m is above all prices
  pub quick_good : ((i : ℕ) → i < count s → price s i < m) → quick m s d x ≡ good s d x
  quick_good small =
      same_test (quick m s d x) (good s d x)
      (λ t. rows_good s d x (marginal_rows m s d x (quick_marginal t) small))
      (λ t. marginal_quick (rows_marginal m s d x (good_rows s d x t) small))
