-- Amounts that meet the sums follow document 01 for an order that is made here: at each price kind 2 rows that are taken
-- come first, by rising amount, then kind 1, then the other rows. Assumes nothing.
use Prim.Native.Nat.{ℕ, suc, ◌+◌, ◌*◌, ◌≤◌, ◌<◌}
use native.Mathlib.Omega.{arith}
use native.Mathlib.Decide.{ℕ_discrete}
use mathlib.Core.Bool.{Bool, true, false, cond, ◌&&◌}
use mathlib.Core.Logic.{◌⊎◌, inl, inr, ⊎_elim}
use mathlib.Core.Path.{◌≡◌, refl, ap, ◌∙◌, sym}
use lib.Dec.{ltb, eqb}
use borrow.Author.Tests.{lt-ltb, le-ltb, eq-eqb, ne_eqb, ltb-true, eqb-true}
use Rattle.sums.specs.Sums.{peak, pick}
use Rattle.sums.proofs.Sums.{sum_le, sum_add, peak_ge, peak_hit}
use Rattle.sums.proofs.Picks.{pick_true, pick_le, pick_lt, pick_ge, pick_eq, pick_ne, pick_zero}
use Rattle.sums.proofs.Keyed.{sum_one}
use Rattle.sums.proofs.Tests.{and_left, and_right}
use Rattle.sums.proofs.Cut.{cut}
use Rattle.deals.specs.Deals.{Deals, count, kind, price, quantity, fixed, conditional, demanded}
use Rattle.statement.specs.Follows.{Rising, ahead_by, Follows}
use Rattle.statement.specs.Decide.{below, fixed_at, taken_at, largest_at}
use Rattle.statement.proofs.Every.{pick_most, pick_two, pick_not_first, pick_not_second, pick_passed, digits_less, digits_second}
use Rattle.statement.proofs.Told.{Rows}

-- ---- the order

-- above every amount
abbrev most : Deals → (ℕ → ℕ) → ℕ
most s x = suc (peak (count s) x)

level_by : (kind x most : ℕ) → ℕ
level_by k x m = cond (eqb k conditional && ltb 0 x) x (cond (eqb k fixed) m (suc m))

level_taken : (k x m : ℕ) → k ≡ conditional → 0 < x → level_by k x m ≡ x
unfolding level_by
level_taken k x m e h = rw (eq-eqb k conditional e, lt-ltb 0 x h)

level_fixed : (k x m : ℕ) → k ≡ fixed → level_by k x m ≡ m
unfolding level_by
level_fixed k x m e = rw (ne_eqb k conditional (omega arith), eq-eqb k fixed e)

level_left : (k x m : ℕ) → k ≡ conditional → x ≡ 0 → level_by k x m ≡ suc m
unfolding level_by
level_left k x m e z = rw (eq-eqb k conditional e, le-ltb 0 x (omega arith), ne_eqb k fixed (omega arith))

level_most : (k x m : ℕ) → x < m → level_by k x m < m + 2
unfolding level_by
level_most k x m h = go (eqb k conditional && ltb 0 x) (eqb k fixed)
  where
    go : (t u : Bool) → cond t x (cond u m (suc m)) < m + 2
    go true u = omega arith
    go false true = omega arith
    go false false = omega arith

level_low : (k x m : ℕ) → level_by k x m < m → (k ≡ conditional) × (0 < x)
unfolding level_by
level_low k x m h = go (eqb k conditional) refl (ltb 0 x) refl (eqb k fixed) h
  where
    go : (t : Bool)
        → eqb k conditional ≡ t
        → (w : Bool)
        → ltb 0 x ≡ w
        → (u : Bool)
        → cond (t && w) x (cond u m (suc m)) < m
        → (k ≡ conditional) × (0 < x)
    go true e true g u h = (eqb-true k conditional e, ltb-true 0 x g)
    go true e false g true h = absurd (omega arith)
    go true e false g false h = absurd (omega arith)
    go false e w g true h = absurd (omega arith)
    go false e w g false h = absurd (omega arith)

module _ (s : Deals) (x : ℕ → ℕ) where
  abbrev level : ℕ → ℕ
  level j = level_by (kind s j) (x j) (most s x)

  place : ℕ → ℕ
  place j = (price s j * (most s x + 2) + level j) * count s + j

  x_less : (j : ℕ) → j < count s → x j < most s x
  x_less j l = omega (arith, peak_ge (count s) j x l)

  place_price : (i j : ℕ) → i < count s → j < count s → price s i < price s j → place i < place j
  unfolding place
  place_price i j li lj h =
      digits_less (count s) (price s i * (most s x + 2) + level i) (price s j * (most s x + 2) + level j) i j li
      (digits_less (most s x + 2) (price s i) (price s j) (level i) (level j)
      (level_most (kind s i) (x i) (most s x) (x_less i li)) h)

  place_level : (i j : ℕ) → i < count s → j < count s → price s i ≡ price s j → level i < level j → place i < place j
  unfolding place
  place_level i j li lj e h =
      digits_less (count s) (price s i * (most s x + 2) + level i) (price s j * (most s x + 2) + level j) i j li
      (omega (arith, ap (λ (z : ℕ). z * (most s x + 2)) e))

  place_rising : Rising s place
  unfolding place
  place_rising =
      record {
        apart =
            λ i j li lj e. digits_second (count s) (price s i * (most s x + 2) + level i)
            (price s j * (most s x + 2) + level j) i j li lj e;
        rising = place_price;
      }

  -- what stands before has no higher price, and at one price no higher level
  price_before : (i j : ℕ) → i < count s → j < count s → place j < place i → price s j ≤ price s i
  price_before i j li lj h =
      ⊎_elim (λ z. absurd (omega (arith, place_price i j li lj z))) (λ z. z) (cut (price s i) (price s j))

  level_before : (i j : ℕ) → i < count s → j < count s → price s j ≡ price s i → place j < place i → level j ≤ level i
  level_before i j li lj e h =
      ⊎_elim (λ z. absurd (omega (arith, place_level i j li lj (sym e) z))) (λ z. z) (cut (level i) (level j))

module _ (s : Deals) (d : ℕ) (x : ℕ → ℕ) (r : Rows s d x) where
  -- ---- a row taken: with the largest that is taken at its price, all ahead of it is cheaper or taken there
  module _ (i m : ℕ) (li : i < count s) (ci : kind s i ≡ conditional) (xi : 0 < x i) (lm : m < count s)
      (cm : kind s m ≡ conditional)
      (pm : price s m ≡ price s i) (behind : place s x i ≤ place s x m) where
    ahead_term_lem : (j : ℕ) → j < count s
        → pick (ltb (kind s j) demanded && ltb (place s x j) (place s x i)) (quantity s j) + pick (eqb m j) (x m)
        ≤ pick (ltb (kind s j) demanded && ltb (price s j) (price s i)) (quantity s j)
        + pick (eqb (kind s j) conditional && eqb (price s j) (price s i)) (x j)
    ahead_term_lem j l = go (ℕ_discrete m j)
      where
        level_at : ltb (kind s j) demanded ≡ true → place s x j < place s x i → price s j ≡ price s i
            → quantity s j ≤ pick (eqb (kind s j) conditional && eqb (price s j) (price s i)) (x j)
        level_at t o e =
            let b : level s x j < most s x =
            omega (
              arith,
              level_before s x i j li l e o,
              level_taken (kind s i) (x i) (most s x) ci xi,
              x_less s x i li,
            ) in
            let w : (kind s j ≡ conditional) × (0 < x j) = level_low (kind s j) (x j) (most s x) b in
            omega (
              arith,
              r.taken j l w.0 w.1,
              pick_two (eqb (kind s j) conditional) (eqb (price s j) (price s i)) (x j)
                  (eq-eqb (kind s j) conditional w.0) (eq-eqb (price s j) (price s i) e),
            )

        before : ltb (kind s j) demanded ≡ true
            → place s x j < place s x i
            → (price s j < price s i) ⊎ (price s i ≤ price s j)
            → quantity s j ≤ pick (ltb (kind s j) demanded && ltb (price s j) (price s i)) (quantity s j)
            + pick (eqb (kind s j) conditional && eqb (price s j) (price s i)) (x j)
        before t o (inl h) = omega (
          arith,
          pick_two (ltb (kind s j) demanded) (ltb (price s j) (price s i)) (quantity s j) t
              (lt-ltb (price s j) (price s i) h),
        )
        before t o (inr h) = omega (arith, level_at t o (omega (arith, price_before s x i j li l o)))

        go : Dec (m ≡ j)
            → pick (ltb (kind s j) demanded && ltb (place s x j) (place s x i)) (quantity s j) + pick (eqb m j) (x m)
            ≤ pick (ltb (kind s j) demanded && ltb (price s j) (price s i)) (quantity s j)
            + pick (eqb (kind s j) conditional && eqb (price s j) (price s i)) (x j)
        go (yes e) =
            let p : price s j ≡ price s i = ap (price s) (sym e) ∙ pm in
            let k : kind s j ≡ conditional = ap (kind s) (sym e) ∙ cm in
            let o : place s x i ≤ place s x j = omega (arith, ap (place s x) e) in
            omega (
              arith,
              pick_not_second (ltb (kind s j) demanded) (ltb (place s x j) (place s x i)) (quantity s j)
                  (le-ltb (place s x j) (place s x i) o),
              pick_eq m j (x m) e,
              ap x e,
              pick_two (eqb (kind s j) conditional) (eqb (price s j) (price s i)) (x j)
                  (eq-eqb (kind s j) conditional k) (eq-eqb (price s j) (price s i) p),
            )
        go (no e) =
            omega (
              arith,
              pick_ne m j (x m) e,
              pick_most (ltb (kind s j) demanded && ltb (place s x j) (place s x i)) (quantity s j) _
                  (λ t. before (and_left _ _ t)
                  (ltb-true (place s x j) (place s x i)
                  (and_right (ltb (kind s j) demanded) (ltb (place s x j) (place s x i)) t))
                  (cut (price s j) (price s i))),
            )

    ahead_taken : ahead_by s (place s x) i + x m ≤ below s (price s i) + taken_at s x (price s i)
    unfolding ahead_by below taken_at
    ahead_taken =
        omega (
          arith,
          sum_le (count s) _ _ ahead_term_lem,
          sum_add (count s) (λ j. pick (ltb (kind s j) demanded && ltb (place s x j) (place s x i)) (quantity s j))
              (λ j. pick (eqb m j) (x m)),
          sum_add (count s) (λ j. pick (ltb (kind s j) demanded && ltb (price s j) (price s i)) (quantity s j))
              (λ j. pick (eqb (kind s j) conditional && eqb (price s j) (price s i)) (x j)),
          sum_one (count s) m (x m) lm,
        )

  needed : (i : ℕ) → i < count s → kind s i ≡ conditional → 0 < x i → ahead_by s (place s x) i < d
  unfolding largest_at
  needed i l e h =
      let hit = peak_hit (count s) taken (omega (arith, at_least)) in
      of hit.0 hit.1 hit.2 (cut (x i) (x hit.0))
    where
      taken : ℕ → ℕ
      taken j = pick (eqb (kind s j) conditional && eqb (price s j) (price s i)) (x j)

      at_least : x i ≤ peak (count s) taken
      at_least =
          omega (
            arith,
            peak_ge (count s) i taken l,
            pick_two (eqb (kind s i) conditional) (eqb (price s i) (price s i)) (x i) (eq-eqb (kind s i) conditional e)
                (eq-eqb (price s i) (price s i) refl),
          )

      of : (m : ℕ)
          → m < count s
          → taken m ≡ peak (count s) taken
          → (x i < x m) ⊎ (x m ≤ x i)
          → ahead_by s (place s x) i < d
      of m lm em w =
          let t : (eqb (kind s m) conditional && eqb (price s m) (price s i))
          ≡ true = pick_passed _ (x m) (omega (arith, at_least)) in
          let cm : kind s m ≡ conditional = eqb-true (kind s m) conditional (and_left _ _ t) in
          let pm : price s m ≡ price s i =
          eqb-true (price s m) (price s i) (and_right (eqb (kind s m) conditional) (eqb (price s m) (price s i)) t) in
          let v : taken m ≡ x m = pick_true (eqb (kind s m) conditional && eqb (price s m) (price s i)) (x m) t in
          ⊎_elim
          (λ z.
          let b : place s x i < place s x m =
          place_level s x i m l lm (sym pm)
          (omega (
            arith,
            level_taken (kind s i) (x i) (most s x) e h,
            level_taken (kind s m) (x m) (most s x) cm (omega arith),
          )) in
          omega (arith, r.taken i l e h, ahead_taken i m l e h lm cm pm (omega arith)))
          (λ z. omega (arith, r.taken i l e h, at_least, ahead_taken i i l e h l e refl (omega arith)))
          w

  -- ---- a row not taken: all that is cheaper, taken at its price, or of kind 1 there, stands ahead of it
  module _ (i : ℕ) (li : i < count s) (ci : kind s i ≡ conditional) (xi : x i ≡ 0) where
    behind_term : (j : ℕ) → j < count s
        → pick (ltb (kind s j) demanded && ltb (price s j) (price s i)) (quantity s j)
        + pick (eqb (kind s j) conditional && eqb (price s j) (price s i)) (x j)
        + pick (eqb (kind s j) fixed && eqb (price s j) (price s i)) (quantity s j)
        ≤ pick (ltb (kind s j) demanded && ltb (place s x j) (place s x i)) (quantity s j)
    behind_term j l =
        go (cut (price s j) (price s i)) (ℕ_discrete (price s j) (price s i)) (ℕ_discrete (kind s j) conditional)
        (ℕ_discrete (kind s j) fixed) (cut 0 (x j))
      where
        ahead : kind s j < demanded
            → place s x j < place s x i
            → pick (ltb (kind s j) demanded && ltb (place s x j) (place s x i)) (quantity s j) ≡ quantity s j
        ahead t o =
            pick_two (ltb (kind s j) demanded) (ltb (place s x j) (place s x i)) (quantity s j)
            (lt-ltb (kind s j) demanded t) (lt-ltb (place s x j) (place s x i) o)

        not_cheaper : price s i ≤ price s j
            → pick (ltb (kind s j) demanded && ltb (price s j) (price s i)) (quantity s j) ≡ 0
        not_cheaper h =
            pick_not_second (ltb (kind s j) demanded) (ltb (price s j) (price s i)) (quantity s j)
            (le-ltb (price s j) (price s i) h)

        not_fixed : (kind s j ≡ fixed → ⊥)
            → pick (eqb (kind s j) fixed && eqb (price s j) (price s i)) (quantity s j) ≡ 0
        not_fixed k =
            pick_not_first (eqb (kind s j) fixed) (eqb (price s j) (price s i)) (quantity s j)
            (ne_eqb (kind s j) fixed k)

        not_conditional : (kind s j ≡ conditional → ⊥)
            → pick (eqb (kind s j) conditional && eqb (price s j) (price s i)) (x j) ≡ 0
        not_conditional k =
            pick_not_first (eqb (kind s j) conditional) (eqb (price s j) (price s i)) (x j)
            (ne_eqb (kind s j) conditional k)

        not_here : (price s j ≡ price s i → ⊥)
            → (pick (eqb (kind s j) conditional && eqb (price s j) (price s i)) (x j) ≡ 0)
            × (pick (eqb (kind s j) fixed && eqb (price s j) (price s i)) (quantity s j) ≡ 0)
        not_here e = (
          pick_not_second (eqb (kind s j) conditional) (eqb (price s j) (price s i)) (x j)
              (ne_eqb (price s j) (price s i) e),
          pick_not_second (eqb (kind s j) fixed) (eqb (price s j) (price s i)) (quantity s j)
              (ne_eqb (price s j) (price s i) e),
        )

        above : level s x i ≡ suc (most s x)
        above = level_left (kind s i) (x i) (most s x) ci xi

        go : (price s j < price s i) ⊎ (price s i ≤ price s j)
            → Dec (price s j ≡ price s i)
            → Dec (kind s j ≡ conditional)
            → Dec (kind s j ≡ fixed)
            → (0 < x j) ⊎ (x j ≤ 0)
            → pick (ltb (kind s j) demanded && ltb (price s j) (price s i)) (quantity s j)
            + pick (eqb (kind s j) conditional && eqb (price s j) (price s i)) (x j)
            + pick (eqb (kind s j) fixed && eqb (price s j) (price s i)) (quantity s j)
            ≤ pick (ltb (kind s j) demanded && ltb (place s x j) (place s x i)) (quantity s j)
        go (inl h) p a b w =
            omega (
              arith,
              not_here (λ z. omega arith),
              pick_most (ltb (kind s j) demanded && ltb (price s j) (price s i)) (quantity s j)
                  (pick (ltb (kind s j) demanded && ltb (place s x j) (place s x i)) (quantity s j))
                  (λ t. omega (
                    arith,
                    ahead (ltb-true (kind s j) demanded (and_left _ _ t)) (place_price s x j i l li h),
                  )),
            )
        go (inr h) (no p) a b w = omega (arith, not_cheaper h, not_here p)
        go (inr h) (yes p) (yes a) b (inl w) =
            omega (
              arith,
              not_cheaper h,
              not_fixed (λ z. omega arith),
              pick_le (eqb (kind s j) conditional && eqb (price s j) (price s i)) (x j),
              r.taken j l a w,
              ahead (omega arith)
                  (place_level s x j i l li p
                  (omega (arith, above, level_taken (kind s j) (x j) (most s x) a w, x_less s x j l))),
            )
        go (inr h) (yes p) (yes a) b (inr w) =
            omega (
              arith,
              not_cheaper h,
              not_fixed (λ z. omega arith),
              pick_le (eqb (kind s j) conditional && eqb (price s j) (price s i)) (x j),
            )
        go (inr h) (yes p) (no a) (yes b) w =
            omega (
              arith,
              not_cheaper h,
              not_conditional a,
              pick_le (eqb (kind s j) fixed && eqb (price s j) (price s i)) (quantity s j),
              ahead (omega arith)
                  (place_level s x j i l li p (omega (arith, above, level_fixed (kind s j) (x j) (most s x) b))),
            )
        go (inr h) (yes p) (no a) (no b) w = omega (arith, not_cheaper h, not_conditional a, not_fixed b)

    behind_all : below s (price s i) + taken_at s x (price s i) + fixed_at s (price s i) ≤ ahead_by s (place s x) i
    unfolding below taken_at fixed_at ahead_by
    behind_all =
        omega (
          arith,
          sum_le (count s) _ _ behind_term,
          sum_add (count s) (λ j. pick (ltb (kind s j) demanded && ltb (price s j) (price s i)) (quantity s j)
              + pick (eqb (kind s j) conditional && eqb (price s j) (price s i)) (x j))
              (λ j. pick (eqb (kind s j) fixed && eqb (price s j) (price s i)) (quantity s j)),
          sum_add (count s) (λ j. pick (ltb (kind s j) demanded && ltb (price s j) (price s i)) (quantity s j))
              (λ j. pick (eqb (kind s j) conditional && eqb (price s j) (price s i)) (x j)),
        )

  -- ---- kind 2, as document 01 has it
  gets_two : (i : ℕ)
      → i < count s
      → kind s i ≡ conditional
      → x i ≡ pick (ltb (ahead_by s (place s x) i) d) (quantity s i)
  gets_two i l e = go (cut 0 (x i))
    where
      none : x i ≡ 0
          → (quantity s i ≡ 0) ⊎ (d ≤ below s (price s i) + taken_at s x (price s i) + fixed_at s (price s i))
          → x i ≡ pick (ltb (ahead_by s (place s x) i) d) (quantity s i)
      none z (inl q) = rw q (z ∙ sym (pick_zero (ltb (ahead_by s (place s x) i) d)))
      none z (inr h) = z ∙ sym (pick_ge (ahead_by s (place s x) i) d (quantity s i) (omega (arith, behind_all i l e z)))

      go : (0 < x i) ⊎ (x i ≤ 0) → x i ≡ pick (ltb (ahead_by s (place s x) i) d) (quantity s i)
      go (inl h) = (r.taken i l e h).0 ∙ sym (pick_lt (ahead_by s (place s x) i) d (quantity s i) (needed i l e h))
      go (inr h) = none (omega arith) (r.left i l e (omega arith))

  -- WHAT MEETS THE SUMS FOLLOWS DOCUMENT 01
  pub rows_follow : Follows s d x
  rows_follow =
      record {
        place = place s x;
        order = place_rising s x;
        one = r.one;
        two = gets_two;
        fits = r.fits;
        shares = r.shares;
        dearer = r.dearer;
      }
