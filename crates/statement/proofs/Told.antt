-- What the test by sums says of each row, as facts about numbers, both ways. Assumes nothing.
use Prim.Native.Nat.{ℕ, ◌+◌, ◌-◌, ◌≤◌, ◌<◌}
use native.Mathlib.Omega.{arith}
use native.Mathlib.Decide.{ℕ_discrete}
use mathlib.Core.Bool.{Bool, true, ◌&&◌}
use mathlib.Core.Logic.{◌⊎◌, inl, inr, ⊎_elim}
use mathlib.Core.Path.{◌≡◌}
use lib.Dec.{leb, eqb}
use borrow.Author.Tests.{lt-ltb, eq-eqb, ne_eqb, le-leb, lt-leb, ltb-true, leb-true, eqb-true}
use Rattle.sums.specs.Lists.{total}
use Rattle.sums.proofs.Tests.{and_left, and_right, and_both, or_cases}
use Rattle.sums.proofs.Cut.{cut}
use Rattle.deals.specs.Deals.{Deals, count, kind, price, quantity, fixed, conditional, demanded, cheaper_of, group_of}
use Rattle.statement.specs.Follows.{left_by, given_at, Shares}
use Rattle.statement.specs.Decide.{below, fixed_at, taken_at, largest_at, conditional_good, is_near, demanded_good, row_good, good}
use Rattle.statement.proofs.Every.{every_holds, every_from, near_told, near_tells}

pub record Rows (s : Deals) (d : ℕ) (x : ℕ → ℕ) : Type 0 where
  pub one : (i : ℕ) → i < count s → kind s i ≡ fixed → x i ≡ quantity s i
  pub left : (i : ℕ) → i < count s → kind s i ≡ conditional → x i ≡ 0
      → (quantity s i ≡ 0) ⊎ (d ≤ below s (price s i) + taken_at s x (price s i) + fixed_at s (price s i))
  pub taken : (i : ℕ) → i < count s → kind s i ≡ conditional → 0 < x i
      → (x i ≡ quantity s i) × (below s (price s i) + taken_at s x (price s i) - largest_at s x (price s i) < d)
  pub fits : (i : ℕ) → i < count s → kind s i ≡ demanded
      → cheaper_of s (price s i) + total (group_of s (price s i)) ≤ left_by s d x → x i ≡ quantity s i
  pub shares : (i : ℕ) → i < count s → kind s i ≡ demanded
      → left_by s d x < cheaper_of s (price s i) + total (group_of s (price s i)) → cheaper_of s (price s i) ≤ left_by s d x
      → Shares s (left_by s d x) x i
  pub dearer : (i : ℕ) → i < count s → kind s i ≡ demanded → left_by s d x < cheaper_of s (price s i) → x i ≡ 0

module _ (s : Deals) (d : ℕ) (x : ℕ → ℕ) where
  -- ---- from the test
  module _ (ok : good s d x ≡ true) (i : ℕ) (l : i < count s) where
    row : row_good s d x i ≡ true
    unfolding good
    row = every_holds (count s) (row_good s d x) ok i l

    says_one : kind s i ≡ fixed → x i ≡ quantity s i
    unfolding row_good
    says_one e = eqb-true (x i) (quantity s i) (rw (eq-eqb (kind s i) fixed e) at row)

    says_two : kind s i ≡ conditional → conditional_good s d x i ≡ true
    unfolding row_good
    says_two e = rw (ne_eqb (kind s i) fixed (omega arith), eq-eqb (kind s i) conditional e) at row

    says_three : kind s i ≡ demanded → demanded_good s (left_by s d x) x i ≡ true
    unfolding row_good
    says_three e =
        rw (
          ne_eqb (kind s i) fixed (omega arith),
          ne_eqb (kind s i) conditional (omega arith),
          eq-eqb (kind s i) demanded e,
        ) at row

    says_left : kind s i ≡ conditional
        → x i ≡ 0
        → (quantity s i ≡ 0) ⊎ (d ≤ below s (price s i) + taken_at s x (price s i) + fixed_at s (price s i))
    unfolding conditional_good
    says_left e z =
        ⊎_elim (λ t. inl (eqb-true (quantity s i) 0 t)) (λ t. inr (leb-true d _ t))
        (or_cases (eqb (quantity s i) 0)
        (leb d (below s (price s i) + taken_at s x (price s i) + fixed_at s (price s i)))
        (rw (eq-eqb (x i) 0 z) at (says_two e)))

    says_taken : kind s i ≡ conditional → 0 < x i
        → (x i ≡ quantity s i) × (below s (price s i) + taken_at s x (price s i) - largest_at s x (price s i) < d)
    unfolding conditional_good
    says_taken e h =
        let r = rw (ne_eqb (x i) 0 (λ z. omega arith)) at (says_two e) in
        (eqb-true (x i) (quantity s i) (and_left _ _ r), ltb-true _ d (and_right (eqb (x i) (quantity s i)) _ r))

    says_fits : kind s i ≡ demanded
        → cheaper_of s (price s i) + total (group_of s (price s i)) ≤ left_by s d x
        → x i ≡ quantity s i
    unfolding demanded_good
    says_fits e h =
        eqb-true (x i) (quantity s i)
        (rw (le-leb (cheaper_of s (price s i) + total (group_of s (price s i))) (left_by s d x) h) at (says_three e))

    says_shares : kind s i ≡ demanded
        → left_by s d x < cheaper_of s (price s i) + total (group_of s (price s i)) → cheaper_of s (price s i)
        ≤ left_by s d x → Shares s (left_by s d x) x i
    unfolding demanded_good
    says_shares e h m =
        let near : Bool =
        is_near (left_by s d x - cheaper_of s (price s i)) (quantity s i) (total (group_of s (price s i))) (x i) in
        let whole : Bool = eqb (given_at s x (price s i)) (left_by s d x - cheaper_of s (price s i)) in
        let r : (near && whole) ≡ true =
        rw (
          lt-leb (cheaper_of s (price s i) + total (group_of s (price s i))) (left_by s d x) h,
          le-leb (cheaper_of s (price s i)) (left_by s d x) m,
        ) at (says_three e) in
        record { near = near_told _ _ _ _ (and_left near whole r); whole = eqb-true _ _ (and_right near whole r) }

    says_dearer : kind s i ≡ demanded → left_by s d x < cheaper_of s (price s i) → x i ≡ 0
    unfolding demanded_good
    says_dearer e h =
        eqb-true (x i) 0
        (rw (
          lt-leb (cheaper_of s (price s i) + total (group_of s (price s i))) (left_by s d x) (omega arith),
          lt-leb (cheaper_of s (price s i)) (left_by s d x) h,
        ) at (says_three e))

  pub good_rows : good s d x ≡ true → Rows s d x
  good_rows ok =
      record {
        one = says_one ok;
        left = says_left ok;
        taken = says_taken ok;
        fits = says_fits ok;
        shares = says_shares ok;
        dearer = says_dearer ok;
      }

  -- ---- to the test
  module _ (r : Rows s d x) (i : ℕ) (l : i < count s) where
    two_good : kind s i ≡ conditional → conditional_good s d x i ≡ true
    unfolding conditional_good
    two_good e = go (ℕ_discrete (x i) 0)
      where
        none : x i ≡ 0
            → (quantity s i ≡ 0) ⊎ (d ≤ below s (price s i) + taken_at s x (price s i) + fixed_at s (price s i))
            → Dec (quantity s i ≡ 0)
            → conditional_good s d x i ≡ true
        none z w (yes q) = rw (eq-eqb (x i) 0 z, eq-eqb (quantity s i) 0 q)
        none z (inl w) (no q) = absurd (q w)
        none z (inr w) (no q) = rw (eq-eqb (x i) 0 z, ne_eqb (quantity s i) 0 q) (le-leb d _ w)

        go : Dec (x i ≡ 0) → conditional_good s d x i ≡ true
        go (yes z) = none z (r.left i l e z) (ℕ_discrete (quantity s i) 0)
        go (no z) =
            let w = r.taken i l e (omega arith) in
            rw (ne_eqb (x i) 0 z, eq-eqb (x i) (quantity s i) w.0) (lt-ltb _ d w.1)

    three_good : kind s i ≡ demanded → demanded_good s (left_by s d x) x i ≡ true
    unfolding demanded_good
    three_good e =
        go (cut (left_by s d x) (cheaper_of s (price s i) + total (group_of s (price s i))))
        (cut (left_by s d x) (cheaper_of s (price s i)))
      where
        go : (left_by s d x < cheaper_of s (price s i) + total (group_of s (price s i)))
            ⊎ (cheaper_of s (price s i) + total (group_of s (price s i)) ≤ left_by s d x)
            → (left_by s d x < cheaper_of s (price s i)) ⊎ (cheaper_of s (price s i) ≤ left_by s d x)
            → demanded_good s (left_by s d x) x i ≡ true
        go (inr a) b = rw (le-leb (cheaper_of s (price s i) + total (group_of s (price s i))) (left_by s d x) a)
            (eq-eqb (x i) (quantity s i) (r.fits i l e a))
        go (inl a) (inr b) =
            let w : Shares s (left_by s d x) x i = r.shares i l e a b in
            rw (
              lt-leb (cheaper_of s (price s i) + total (group_of s (price s i))) (left_by s d x) a,
              le-leb (cheaper_of s (price s i)) (left_by s d x) b,
            )
            (and_both (near_tells _ _ _ _ w.near) (eq-eqb _ _ w.whole))
        go (inl a) (inl b) =
            rw (
              lt-leb (cheaper_of s (price s i) + total (group_of s (price s i))) (left_by s d x) a,
              lt-leb (cheaper_of s (price s i)) (left_by s d x) b,
            )
            (eq-eqb (x i) 0 (r.dearer i l e b))

    row_good_lem : row_good s d x i ≡ true
    unfolding row_good
    row_good_lem = go (ℕ_discrete (kind s i) fixed) (ℕ_discrete (kind s i) conditional) (ℕ_discrete (kind s i) demanded)
      where
        go : Dec (kind s i ≡ fixed) → Dec (kind s i ≡ conditional) → Dec (kind s i ≡ demanded) → row_good s d x i ≡ true
        go (yes a) b c = rw (eq-eqb (kind s i) fixed a) (eq-eqb (x i) (quantity s i) (r.one i l a))
        go (no a) (yes b) c = rw (ne_eqb (kind s i) fixed a, eq-eqb (kind s i) conditional b) (two_good b)
        go (no a) (no b) (yes c) = rw (
          ne_eqb (kind s i) fixed a,
          ne_eqb (kind s i) conditional b,
          eq-eqb (kind s i) demanded c,
        ) (three_good c)
        go (no a) (no b) (no c) = rw (
          ne_eqb (kind s i) fixed a,
          ne_eqb (kind s i) conditional b,
          ne_eqb (kind s i) demanded c,
        )

  pub rows_good : Rows s d x → good s d x ≡ true
  unfolding good
  rows_good r = every_from (count s) (row_good s d x) (row_good_lem r)
