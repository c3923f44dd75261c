-- Amounts that follow document 01 for some order of equal prices meet its sums. Assumes nothing.
use Prim.Native.Nat.{ℕ, ◌+◌, ◌-◌, ◌≤◌, ◌<◌}
use native.Mathlib.Omega.{arith}
use native.Mathlib.Decide.{ℕ_discrete}
use mathlib.Core.Bool.{Bool, true, ◌&&◌}
use mathlib.Core.Logic.{◌⊎◌, inl, inr, ⊎_elim}
use mathlib.Core.Path.{◌≡◌, refl, ap, ◌∙◌, sym}
use lib.Dec.{ltb, eqb}
use borrow.Author.Tests.{lt-ltb, le-ltb, eq-eqb, ne_eqb, ltb-true, eqb-true}
use Rattle.sums.specs.Sums.{pick}
use Rattle.sums.proofs.Sums.{sum_le, sum_add, peak_ge}
use Rattle.sums.proofs.Picks.{pick_le, pick_lt, pick_ge, pick_eq}
use Rattle.sums.proofs.Keyed.{sum_one}
use Rattle.sums.proofs.Tests.{and_left, and_right, and_both}
use Rattle.sums.proofs.Cut.{cut}
use Rattle.deals.specs.Deals.{Deals, count, kind, price, quantity, fixed, conditional, demanded}
use Rattle.statement.specs.Follows.{ahead_by, Follows}
use Rattle.statement.specs.Decide.{below, fixed_at, taken_at, largest_at}
use Rattle.statement.proofs.Every.{pick_most, pick_two, pick_not_second, Extreme, greatest, least}
use Rattle.statement.proofs.Told.{Rows}

module _ (s : Deals) (d : ℕ) (x : ℕ → ℕ) (f : Follows s d x) where
  -- kind 2 has two ways
  ways : (i : ℕ) → i < count s → kind s i ≡ conditional
      → ((x i ≡ quantity s i) × (ahead_by s f.place i < d)) ⊎ ((x i ≡ 0) × (d ≤ ahead_by s f.place i))
  ways i l e =
      ⊎_elim
      (λ h. inl (f.two i l e ∙ pick_lt (ahead_by s f.place i) d (quantity s i) h, h))
      (λ h. inr (f.two i l e ∙ pick_ge (ahead_by s f.place i) d (quantity s i) h, h))
      (cut (ahead_by s f.place i) d)

  taken_full : (i : ℕ)
      → i < count s
      → kind s i ≡ conditional
      → 0 < x i
      → (x i ≡ quantity s i) × (ahead_by s f.place i < d)
  taken_full i l e h = ⊎_elim (λ w. w) (λ w. absurd (omega arith)) (ways i l e)

  -- ---- the last row taken at a price has all others taken there ahead of it
  abbrev is_taken : ℕ → ℕ → Bool
  is_taken p j = eqb (kind s j) conditional && (eqb (price s j) p && ltb 0 (x j))

  module _ (p k : ℕ) (lk : k < count s) (ck : kind s k ≡ conditional) (pk : price s k ≡ p)
      (last : (j : ℕ) → j < count s → is_taken p j ≡ true → f.place j ≤ f.place k) where
    ahead_term_lem : (j : ℕ) → j < count s
        → pick (ltb (kind s j) demanded && ltb (price s j) p) (quantity s j)
        + pick (eqb (kind s j) conditional && eqb (price s j) p) (x j)
        ≤ pick (ltb (kind s j) demanded && ltb (f.place j) (f.place k)) (quantity s j) + pick (eqb k j) (x k)
    ahead_term_lem j l = go (ℕ_discrete k j) (cut (price s j) p)
      where
        go : Dec (k ≡ j) → (price s j < p) ⊎ (p ≤ price s j)
            → pick (ltb (kind s j) demanded && ltb (price s j) p) (quantity s j)
            + pick (eqb (kind s j) conditional && eqb (price s j) p) (x j)
            ≤ pick (ltb (kind s j) demanded && ltb (f.place j) (f.place k)) (quantity s j) + pick (eqb k j) (x k)
        go (yes e) w =
            omega (
              arith,
              pick_not_second (ltb (kind s j) demanded) (ltb (price s j) p) (quantity s j)
                  (le-ltb (price s j) p (omega (arith, ap (price s) e))),
              pick_le (eqb (kind s j) conditional && eqb (price s j) p) (x j),
              pick_eq k j (x k) e,
              ap x e,
            )
        go (no e) (inl h) =
            omega (
              arith,
              pick_not_second (eqb (kind s j) conditional) (eqb (price s j) p) (x j)
                  (ne_eqb (price s j) p (λ z. omega arith)),
              pick_most (ltb (kind s j) demanded && ltb (price s j) p) (quantity s j)
                  (pick (ltb (kind s j) demanded && ltb (f.place j) (f.place k)) (quantity s j))
                  (λ t. omega (
                    arith,
                    pick_two (ltb (kind s j) demanded) (ltb (f.place j) (f.place k)) (quantity s j) (and_left _ _ t)
                        (lt-ltb (f.place j) (f.place k) (f.order.rising j k l lk (omega arith))),
                  )),
            )
        go (no e) (inr h) =
            omega (
              arith,
              pick_not_second (ltb (kind s j) demanded) (ltb (price s j) p) (quantity s j) (le-ltb (price s j) p h),
              pick_most (eqb (kind s j) conditional && eqb (price s j) p) (x j)
                  (pick (ltb (kind s j) demanded && ltb (f.place j) (f.place k)) (quantity s j))
                  (λ t. given (and_left (eqb (kind s j) conditional) (eqb (price s j) p) t)
                  (and_right (eqb (kind s j) conditional) (eqb (price s j) p) t) (cut 0 (x j))),
            )
          where
            given : eqb (kind s j) conditional ≡ true → eqb (price s j) p ≡ true → (0 < x j) ⊎ (x j ≤ 0)
                → x j ≤ pick (ltb (kind s j) demanded && ltb (f.place j) (f.place k)) (quantity s j)
            given tk tp (inr z) = omega arith
            given tk tp (inl z) =
                let ek : kind s j ≡ conditional = eqb-true (kind s j) conditional tk in
                let m : f.place j ≤ f.place k = last j l (and_both tk (and_both tp (lt-ltb 0 (x j) z))) in
                let o : f.place j < f.place k =
                ⊎_elim (λ q. q) (λ q. absurd (e (sym (f.order.apart j k l lk (omega arith)))))
                (cut (f.place j) (f.place k)) in
                omega (
                  arith,
                  taken_full j l ek z,
                  pick_two (ltb (kind s j) demanded) (ltb (f.place j) (f.place k)) (quantity s j)
                      (lt-ltb (kind s j) demanded (omega arith)) (lt-ltb (f.place j) (f.place k) o),
                )

    ahead_last : below s p + taken_at s x p ≤ ahead_by s f.place k + x k
    unfolding below taken_at ahead_by
    ahead_last =
        omega (
          arith,
          sum_le (count s) _ _ ahead_term_lem,
          sum_add (count s) (λ j. pick (ltb (kind s j) demanded && ltb (price s j) p) (quantity s j))
              (λ j. pick (eqb (kind s j) conditional && eqb (price s j) p) (x j)),
          sum_add (count s) (λ j. pick (ltb (kind s j) demanded && ltb (f.place j) (f.place k)) (quantity s j))
              (λ j. pick (eqb k j) (x k)),
          sum_one (count s) k (x k) lk,
        )

    largest_last : x k ≤ largest_at s x p
    unfolding largest_at
    largest_last =
        omega (
          arith,
          peak_ge (count s) k (λ j. pick (eqb (kind s j) conditional && eqb (price s j) p) (x j)) lk,
          pick_two (eqb (kind s k) conditional) (eqb (price s k) p) (x k) (eq-eqb (kind s k) conditional ck)
              (eq-eqb (price s k) p pk),
        )

  -- a row taken: the demand is not covered without the largest
  pub taken_needed : (i : ℕ) → i < count s → kind s i ≡ conditional → 0 < x i
      → below s (price s i) + taken_at s x (price s i) - largest_at s x (price s i) < d
  taken_needed i l e h =
      of (greatest (count s) (is_taken (price s i)) f.place i l
      (and_both (eq-eqb (kind s i) conditional e) (and_both (eq-eqb (price s i) (price s i) refl) (lt-ltb 0 (x i) h))))
    where
      of : Extreme (count s) (is_taken (price s i)) (λ j k. f.place j ≤ f.place k)
          → below s (price s i) + taken_at s x (price s i) - largest_at s x (price s i) < d
      of g =
          let k : ℕ = g.which in
          let ck : kind s k ≡ conditional = eqb-true (kind s k) conditional (and_left _ _ g.passes) in
          let r = and_right (eqb (kind s k) conditional) (eqb (price s k) (price s i) && ltb 0 (x k)) g.passes in
          let pk : price s k ≡ price s i = eqb-true (price s k) (price s i) (and_left _ _ r) in
          let xk : 0 < x k = ltb-true 0 (x k) (and_right (eqb (price s k) (price s i)) (ltb 0 (x k)) r) in
          omega (
            arith,
            ahead_last (price s i) k g.within ck pk g.furthest,
            largest_last (price s i) k g.within ck pk g.furthest,
            taken_full k g.within ck xk,
          )

  -- ---- the first row not taken at a price has ahead of it at most what is cheaper, taken, or of kind 1
  abbrev is_left : ℕ → ℕ → Bool
  is_left p j = eqb (kind s j) conditional && (eqb (price s j) p && (eqb (x j) 0 && ltb 0 (quantity s j)))

  module _ (known : (i : ℕ) → i < count s → 1 ≤ kind s i) (p u : ℕ) (lu : u < count s) (pu : price s u ≡ p)
      (first : (j : ℕ) → j < count s → is_left p j ≡ true → f.place u ≤ f.place j) where
    before_term : (j : ℕ) → j < count s
        → pick (ltb (kind s j) demanded && ltb (f.place j) (f.place u)) (quantity s j)
        ≤ pick (ltb (kind s j) demanded && ltb (price s j) p) (quantity s j)
        + pick (eqb (kind s j) conditional && eqb (price s j) p) (x j)
        + pick (eqb (kind s j) fixed && eqb (price s j) p) (quantity s j)
    before_term j l =
        pick_most (ltb (kind s j) demanded && ltb (f.place j) (f.place u)) (quantity s j) _
        (λ t. go (and_left _ _ t)
        (ltb-true (f.place j) (f.place u) (and_right (ltb (kind s j) demanded) (ltb (f.place j) (f.place u)) t))
        (cut (price s j) p) (cut p (price s j)))
      where
        cheap : ltb (kind s j) demanded ≡ true
            → price s j < p
            → pick (ltb (kind s j) demanded && ltb (price s j) p) (quantity s j) ≡ quantity s j
        cheap t h = pick_two (ltb (kind s j) demanded) (ltb (price s j) p) (quantity s j) t (lt-ltb (price s j) p h)

        level : kind s j < demanded
            → f.place j < f.place u
            → price s j ≡ p
            → Dec (kind s j ≡ fixed)
            → (0 < quantity s j) ⊎ (quantity s j ≤ 0)
            → quantity s j ≤ pick (eqb (kind s j) conditional && eqb (price s j) p) (x j)
            + pick (eqb (kind s j) fixed && eqb (price s j) p) (quantity s j)
        level t o e (yes k) w = omega (
          arith,
          pick_two (eqb (kind s j) fixed) (eqb (price s j) p) (quantity s j) (eq-eqb (kind s j) fixed k)
              (eq-eqb (price s j) p e),
        )
        level t o e (no k) (inr z) = omega arith
        level t o e (no k) (inl z) =
            let c : kind s j ≡ conditional = two (known j l) t k in
            ⊎_elim
            (λ w. omega (
              arith,
              pick_two (eqb (kind s j) conditional) (eqb (price s j) p) (x j) (eq-eqb (kind s j) conditional c)
                  (eq-eqb (price s j) p e),
            ))
            (λ w. absurd (omega (
              arith,
              first j l (and_both (eq-eqb (kind s j) conditional c)
                  (and_both (eq-eqb (price s j) p e) (and_both (eq-eqb (x j) 0 w.0) (lt-ltb 0 (quantity s j) z)))),
            )))
            (ways j l c)
          where
            two : 1 ≤ kind s j → kind s j < demanded → (kind s j ≡ fixed → ⊥) → kind s j ≡ conditional
            two a b c = omega arith

        go : ltb (kind s j) demanded ≡ true
            → f.place j < f.place u
            → (price s j < p) ⊎ (p ≤ price s j)
            → (p < price s j) ⊎ (price s j ≤ p)
            → quantity s j
            ≤ pick (ltb (kind s j) demanded && ltb (price s j) p) (quantity s j)
            + pick (eqb (kind s j) conditional && eqb (price s j) p) (x j)
            + pick (eqb (kind s j) fixed && eqb (price s j) p) (quantity s j)
        go t o (inl a) b = omega (arith, cheap t a)
        go t o (inr a) (inl b) = absurd (omega (arith, f.order.rising u j lu l (omega arith)))
        go t o (inr a) (inr b) = omega (
          arith,
          level (ltb-true (kind s j) demanded t) o (omega arith) (ℕ_discrete (kind s j) fixed) (cut 0 (quantity s j)),
        )

    before_first : ahead_by s f.place u ≤ below s p + taken_at s x p + fixed_at s p
    unfolding below taken_at fixed_at ahead_by
    before_first =
        omega (
          arith,
          sum_le (count s) _ _ before_term,
          sum_add (count s) (λ j. pick (ltb (kind s j) demanded && ltb (price s j) p) (quantity s j)
              + pick (eqb (kind s j) conditional && eqb (price s j) p) (x j))
              (λ j. pick (eqb (kind s j) fixed && eqb (price s j) p) (quantity s j)),
          sum_add (count s) (λ j. pick (ltb (kind s j) demanded && ltb (price s j) p) (quantity s j))
              (λ j. pick (eqb (kind s j) conditional && eqb (price s j) p) (x j)),
        )

  module _ (known : (i : ℕ) → i < count s → 1 ≤ kind s i) where
    pub left_covered : (i : ℕ) → i < count s → kind s i ≡ conditional → x i ≡ 0 → 0 < quantity s i
        → d ≤ below s (price s i) + taken_at s x (price s i) + fixed_at s (price s i)
    left_covered i l e z h =
        of (least (count s) (is_left (price s i)) f.place i l
        (and_both (eq-eqb (kind s i) conditional e)
        (and_both (eq-eqb (price s i) (price s i) refl) (and_both (eq-eqb (x i) 0 z) (lt-ltb 0 (quantity s i) h)))))
      where
        of : Extreme (count s) (is_left (price s i)) (λ j k. f.place k ≤ f.place j)
            → d ≤ below s (price s i) + taken_at s x (price s i) + fixed_at s (price s i)
        of g =
            let u : ℕ = g.which in
            let cu : kind s u ≡ conditional = eqb-true (kind s u) conditional (and_left _ _ g.passes) in
            let r =
            and_right (eqb (kind s u) conditional)
            (eqb (price s u) (price s i) && (eqb (x u) 0 && ltb 0 (quantity s u))) g.passes in
            let pu : price s u ≡ price s i = eqb-true (price s u) (price s i) (and_left _ _ r) in
            let q = and_right (eqb (price s u) (price s i)) (eqb (x u) 0 && ltb 0 (quantity s u)) r in
            let xu : x u ≡ 0 = eqb-true (x u) 0 (and_left _ _ q) in
            let qu : 0 < quantity s u = ltb-true 0 (quantity s u) (and_right (eqb (x u) 0) (ltb 0 (quantity s u)) q) in
            ⊎_elim
            (λ w. absurd (omega arith))
            (λ w. omega (arith, before_first known (price s i) u g.within pu g.furthest))
            (ways u g.within cu)

    -- WHAT FOLLOWS DOCUMENT 01 MEETS THE SUMS
    pub follows_rows : Rows s d x
    follows_rows =
        record {
          one = f.one;
          left = λ i l e z. ⊎_elim (λ h. inr (left_covered i l e z h)) (λ h. inl (omega arith)) (cut 0 (quantity s i));
          taken = λ i l e h. ((taken_full i l e h).0, taken_needed i l e h);
          fits = f.fits;
          shares = f.shares;
          dearer = f.dearer;
        }
