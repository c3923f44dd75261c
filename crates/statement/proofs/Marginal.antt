-- The sums need be met at three prices only: the highest at which kind 2 is taken, the lowest at which it is not, and the highest at
-- which kind 3 is given something. Assumes nothing.
use Prim.Native.Nat.{ℕ, suc, ◌+◌, ◌-◌, ◌≤◌, ◌<◌, min}
use native.Mathlib.Omega.{arith}
use native.Mathlib.Decide.{ℕ_discrete}
use mathlib.Core.Bool.{Bool, ◌&&◌}
use mathlib.Core.Logic.{◌⊎◌, inl, inr, ⊎_elim}
use mathlib.Core.Path.{◌≡◌, ◌∙◌, sym}
use lib.Dec.{ltb, eqb}
use borrow.Author.Tests.{lt-ltb, le-ltb, eq-eqb, ne_eqb, ltb-true, eqb-true}
use Rattle.sums.specs.Sums.{pick}
use Rattle.sums.specs.Lists.{total}
use Rattle.sums.proofs.Sums.{sum_eq, sum_le, sum_add, sum_zero, sum_term, peak_ge, peak_hit, peak_most}
use Rattle.sums.proofs.Picks.{pick_true, pick_le, pick_eq, pick_ne}
use Rattle.sums.proofs.Tests.{and_left, and_right, and_both}
use Rattle.sums.proofs.Cut.{cut}
use Rattle.deals.specs.Deals.{Deals, count, kind, price, quantity, fixed, conditional, demanded, cheaper_of, group_of}
use Rattle.statement.specs.Follows.{left_by, given_at, Near, Shares}
use Rattle.statement.specs.Decide.{below, fixed_at, taken_at, largest_at}
use Rattle.statement.specs.Quick.{reach_of, depth_of, given_all}
use Rattle.statement.proofs.Every.{pick_most, pick_two, pick_not_first, pick_not_second, pick_passed}
use Rattle.statement.proofs.Told.{Rows}
use Rattle.statement.proofs.Groups.{near_le, cheaper_mono, cheaper_group, weight_whole, cheaper_all, Grouped, given_total}

pub record Marginal (m : ℕ) (s : Deals) (d : ℕ) (x : ℕ → ℕ) : Type 0 where
  pub one : (i : ℕ) → i < count s → kind s i ≡ fixed → x i ≡ quantity s i
  pub two : (i : ℕ) → i < count s → kind s i ≡ conditional → (x i ≡ 0) ⊎ (x i ≡ quantity s i)
  pub last : 0 < reach_of s x conditional
      → below s (reach_of s x conditional - 1) + taken_at s x (reach_of s x conditional - 1)
      - largest_at s x (reach_of s x conditional - 1) < d
  pub first : 0 < depth_of m s x
      → d ≤ below s (m - depth_of m s x) + taken_at s x (m - depth_of m s x) + fixed_at s (m - depth_of m s x)
  pub cheap : (i : ℕ) → i < count s → kind s i ≡ demanded → price s i + 1 < reach_of s x demanded → x i ≡ quantity s i
  pub full : (i : ℕ) → i < count s → kind s i ≡ demanded → price s i + 1 ≡ reach_of s x demanded
      → cheaper_of s (reach_of s x demanded - 1) + total (group_of s (reach_of s x demanded - 1)) ≤ left_by s d x → x i
      ≡ quantity s i
  pub near : (i : ℕ) → i < count s → kind s i ≡ demanded → price s i + 1 ≡ reach_of s x demanded
      → left_by s d x < cheaper_of s (reach_of s x demanded - 1) + total (group_of s (reach_of s x demanded - 1))
      → Near (left_by s d x - cheaper_of s (reach_of s x demanded - 1)) (quantity s i)
      (total (group_of s (reach_of s x demanded - 1))) (x i)
  pub whole : given_all s x ≡ min (left_by s d x) (given_all s (quantity s))

-- ---- the rows at which the three prices stand
pub record Reached (s : Deals) (x : ℕ → ℕ) (k h : ℕ) : Type 0 where
  pub which : ℕ
  pub within : which < count s
  pub kinds : kind s which ≡ k
  pub some : 0 < x which
  pub top : price s which + 1 ≡ h

pub record Stopped (m : ℕ) (s : Deals) (x : ℕ → ℕ) (e : ℕ) : Type 0 where
  pub which : ℕ
  pub within : which < count s
  pub kinds : kind s which ≡ conditional
  pub none : x which ≡ 0
  pub some : 0 < quantity s which
  pub low : m - price s which ≡ e

module _ (s : Deals) (x : ℕ → ℕ) where
  reach_hit : (k : ℕ) → 0 < reach_of s x k → Reached s x k (reach_of s x k)
  unfolding reach_of
  reach_hit k h =
      let hit =
      peak_hit (count s) (λ j. pick (eqb (kind s j) k && ltb 0 (x j)) (price s j + 1)) h in
      of hit.0 hit.1 hit.2
    where
      of : (j : ℕ)
          → j < count s
          → pick (eqb (kind s j) k && ltb 0 (x j)) (price s j + 1) ≡ reach_of s x k
          → Reached s x k (reach_of s x k)
      of j l e =
          let t = pick_passed (eqb (kind s j) k && ltb 0 (x j)) (price s j + 1) (omega arith) in
          record {
            which = j;
            within = l;
            kinds = eqb-true (kind s j) k (and_left _ _ t);
            some = ltb-true 0 (x j) (and_right (eqb (kind s j) k) (ltb 0 (x j)) t);
            top = omega (arith, pick_true (eqb (kind s j) k && ltb 0 (x j)) (price s j + 1) t);
          }

  reach_ge : (k i : ℕ) → i < count s → kind s i ≡ k → 0 < x i → price s i + 1 ≤ reach_of s x k
  unfolding reach_of
  reach_ge k i l e h =
      omega (
        arith,
        peak_ge (count s) i (λ j. pick (eqb (kind s j) k && ltb 0 (x j)) (price s j + 1)) l,
        pick_two (eqb (kind s i) k) (ltb 0 (x i)) (price s i + 1) (eq-eqb (kind s i) k e) (lt-ltb 0 (x i) h),
      )

  -- past the reach nothing is given
  past_reach : (k i : ℕ) → i < count s → kind s i ≡ k → reach_of s x k < price s i + 1 → x i ≡ 0
  past_reach k i l e h = ⊎_elim (λ z. absurd (omega (arith, reach_ge k i l e z))) (λ z. omega arith) (cut 0 (x i))

  module _ (m : ℕ) where
    depth_hit : 0 < depth_of m s x → Stopped m s x (depth_of m s x)
    unfolding depth_of
    depth_hit h =
        let hit =
        peak_hit (count s) (λ j. pick (eqb (kind s j) conditional && (eqb (x j) 0 && ltb 0 (quantity s j)))
        (m - price s j)) h in
        of hit.0 hit.1 hit.2
      where
        of : (j : ℕ)
            → j < count s
            → pick (eqb (kind s j) conditional && (eqb (x j) 0 && ltb 0 (quantity s j))) (m - price s j) ≡ depth_of m s x
            → Stopped m s x (depth_of m s x)
        of j l e =
            let t =
            pick_passed (eqb (kind s j) conditional && (eqb (x j) 0 && ltb 0 (quantity s j))) (m - price s j)
            (omega arith) in
            let u = and_right (eqb (kind s j) conditional) (eqb (x j) 0 && ltb 0 (quantity s j)) t in
            record {
              which = j;
              within = l;
              kinds = eqb-true (kind s j) conditional (and_left _ _ t);
              none = eqb-true (x j) 0 (and_left _ _ u);
              some = ltb-true 0 (quantity s j) (and_right (eqb (x j) 0) (ltb 0 (quantity s j)) u);
              low =
                  omega (
                    arith,
                    pick_true (eqb (kind s j) conditional && (eqb (x j) 0 && ltb 0 (quantity s j))) (m - price s j) t,
                  );
            }

    depth_ge : (i : ℕ)
        → i < count s
        → kind s i ≡ conditional
        → x i ≡ 0
        → 0 < quantity s i
        → m - price s i ≤ depth_of m s x
    unfolding depth_of
    depth_ge i l e z h =
        omega (
          arith,
          peak_ge (count s) i (λ j. pick (eqb (kind s j) conditional && (eqb (x j) 0 && ltb 0 (quantity s j)))
              (m - price s j)) l,
          pick_two (eqb (kind s i) conditional) (eqb (x i) 0 && ltb 0 (quantity s i)) (m - price s i)
              (eq-eqb (kind s i) conditional e) (and_both (eq-eqb (x i) 0 z) (lt-ltb 0 (quantity s i) h)),
        )

  -- ---- a price level lies whole below a higher price
  module _ (most : (i : ℕ) → i < count s → kind s i ≡ conditional → x i ≤ quantity s i) where
    level_term : (p q : ℕ) → p < q → (j : ℕ) → j < count s
        → pick (ltb (kind s j) demanded && ltb (price s j) p) (quantity s j)
        + pick (eqb (kind s j) conditional && eqb (price s j) p) (x j)
        + pick (eqb (kind s j) fixed && eqb (price s j) p) (quantity s j)
        ≤ pick (ltb (kind s j) demanded && ltb (price s j) q) (quantity s j)
    level_term p q h j l =
        go (cut (price s j) p) (ℕ_discrete (price s j) p) (ℕ_discrete (kind s j) conditional)
        (ℕ_discrete (kind s j) fixed)
      where
        under : kind s j < demanded
            → price s j < q
            → pick (ltb (kind s j) demanded && ltb (price s j) q) (quantity s j) ≡ quantity s j
        under t o =
            pick_two (ltb (kind s j) demanded) (ltb (price s j) q) (quantity s j) (lt-ltb (kind s j) demanded t)
            (lt-ltb (price s j) q o)

        off_two : (eqb (price s j) p ≡ Bool.false)
            → pick (eqb (kind s j) conditional && eqb (price s j) p) (x j)
            + pick (eqb (kind s j) fixed && eqb (price s j) p) (quantity s j) ≡ 0
        off_two e =
            omega (
              arith,
              pick_not_second (eqb (kind s j) conditional) (eqb (price s j) p) (x j) e,
              pick_not_second (eqb (kind s j) fixed) (eqb (price s j) p) (quantity s j) e,
            )

        off_one : p ≤ price s j → pick (ltb (kind s j) demanded && ltb (price s j) p) (quantity s j) ≡ 0
        off_one o =
            pick_not_second (ltb (kind s j) demanded) (ltb (price s j) p) (quantity s j) (le-ltb (price s j) p o)

        go : (price s j < p) ⊎ (p ≤ price s j)
            → Dec (price s j ≡ p)
            → Dec (kind s j ≡ conditional)
            → Dec (kind s j ≡ fixed)
            → pick (ltb (kind s j) demanded && ltb (price s j) p) (quantity s j)
            + pick (eqb (kind s j) conditional && eqb (price s j) p) (x j)
            + pick (eqb (kind s j) fixed && eqb (price s j) p) (quantity s j)
            ≤ pick (ltb (kind s j) demanded && ltb (price s j) q) (quantity s j)
        go (inl a) e b c =
            omega (
              arith,
              off_two (ne_eqb (price s j) p (λ z. omega arith)),
              pick_most (ltb (kind s j) demanded && ltb (price s j) p) (quantity s j)
                  (pick (ltb (kind s j) demanded && ltb (price s j) q) (quantity s j))
                  (λ t. omega (arith, under (ltb-true (kind s j) demanded (and_left _ _ t)) (omega arith))),
            )
        go (inr a) (no e) b c = omega (arith, off_one a, off_two (ne_eqb (price s j) p e))
        go (inr a) (yes e) (yes b) c =
            omega (
              arith,
              off_one a,
              pick_not_first (eqb (kind s j) fixed) (eqb (price s j) p) (quantity s j)
                  (ne_eqb (kind s j) fixed (λ z. omega arith)),
              pick_le (eqb (kind s j) conditional && eqb (price s j) p) (x j),
              most j l b,
              under (omega arith) (omega arith),
            )
        go (inr a) (yes e) (no b) (yes c) =
            omega (
              arith,
              off_one a,
              pick_not_first (eqb (kind s j) conditional) (eqb (price s j) p) (x j) (ne_eqb (kind s j) conditional b),
              pick_le (eqb (kind s j) fixed && eqb (price s j) p) (quantity s j),
              under (omega arith) (omega arith),
            )
        go (inr a) (yes e) (no b) (no c) =
            omega (
              arith,
              off_one a,
              pick_not_first (eqb (kind s j) conditional) (eqb (price s j) p) (x j) (ne_eqb (kind s j) conditional b),
              pick_not_first (eqb (kind s j) fixed) (eqb (price s j) p) (quantity s j) (ne_eqb (kind s j) fixed c),
            )

    level_below : (p q : ℕ) → p < q → below s p + taken_at s x p + fixed_at s p ≤ below s q
    unfolding below taken_at fixed_at
    level_below p q h =
        omega (
          arith,
          sum_le (count s) _ _ (level_term p q h),
          sum_add (count s) (λ j. pick (ltb (kind s j) demanded && ltb (price s j) p) (quantity s j)
              + pick (eqb (kind s j) conditional && eqb (price s j) p) (x j))
              (λ j. pick (eqb (kind s j) fixed && eqb (price s j) p) (quantity s j)),
          sum_add (count s) (λ j. pick (ltb (kind s j) demanded && ltb (price s j) p) (quantity s j))
              (λ j. pick (eqb (kind s j) conditional && eqb (price s j) p) (x j)),
        )

  largest_taken : (p : ℕ) → largest_at s x p ≤ taken_at s x p
  unfolding largest_at taken_at
  largest_taken p =
      peak_most (count s) _ (λ j. pick (eqb (kind s j) conditional && eqb (price s j) p) (x j))
      (λ j l. sum_term (count s) j (λ j. pick (eqb (kind s j) conditional && eqb (price s j) p) (x j)) l)

-- ---- from all prices to the three
module _ (m : ℕ) (s : Deals) (d : ℕ) (x : ℕ → ℕ) (r : Rows s d x) where
  pub rows_grouped : Grouped s (left_by s d x) x
  rows_grouped = record { fits = r.fits; shares = r.shares; dearer = r.dearer }

  -- where kind 3 is given something, all that is cheaper fits
  reached_fits : Reached s x demanded (reach_of s x demanded) → cheaper_of s (reach_of s x demanded - 1) ≤ left_by s d x
  reached_fits w =
      let p : price s w.which ≡ reach_of s x demanded - 1 = omega (arith, w.top) in
      ⊎_elim (λ z. absurd (omega (arith, w.some, r.dearer w.which w.within w.kinds (rw p z)))) (λ z. z)
      (cut (left_by s d x) (cheaper_of s (reach_of s x demanded - 1)))

  pub rows_marginal : ((i : ℕ) → i < count s → price s i < m) → Marginal m s d x
  rows_marginal small =
      record {
        one = r.one;
        two = λ i l e. ⊎_elim (λ h. inr (r.taken i l e h).0) (λ h. inl (omega arith)) (cut 0 (x i));
        last = λ h. last (reach_hit s x conditional h);
        first = λ h. first (depth_hit s x m h);
        cheap = λ i l e h.
            let w : Reached s x demanded (reach_of s x demanded) = reach_hit s x demanded (omega arith) in
            r.fits i l e (omega (
              arith,
              reached_fits w,
              cheaper_group s (price s i) (reach_of s x demanded - 1) (omega arith),
            ));
        full = λ i l e p h. let q : price s i ≡ reach_of s x demanded - 1 = omega arith in r.fits i l e (rw q h);
        near = λ i l e p h.
            let q : price s i ≡ reach_of s x demanded - 1 = omega arith in
            let w : Reached s x demanded (reach_of s x demanded) = reach_hit s x demanded (omega arith) in
            rw q at (r.shares i l e (rw q h) (rw q (reached_fits w))).near;
        whole = given_total s (left_by s d x) x rows_grouped;
      }
    where
      last : Reached s x conditional (reach_of s x conditional)
          → below s (reach_of s x conditional - 1) + taken_at s x (reach_of s x conditional - 1)
          - largest_at s x (reach_of s x conditional - 1) < d
      last w =
          let p : price s w.which ≡ reach_of s x conditional - 1 = omega (arith, w.top) in
          rw p at (r.taken w.which w.within w.kinds w.some).1

      first : Stopped m s x (depth_of m s x)
          → d ≤ below s (m - depth_of m s x) + taken_at s x (m - depth_of m s x) + fixed_at s (m - depth_of m s x)
      first w =
          let p : price s w.which ≡ m - depth_of m s x = omega (arith, w.low, small w.which w.within) in
          ⊎_elim (λ z. absurd (omega (arith, w.some))) (λ z. rw p at z)
          (r.left w.which w.within w.kinds w.none)

-- ---- from the three prices to all
module _ (m : ℕ) (s : Deals) (d : ℕ) (x : ℕ → ℕ) (r : Marginal m s d x) where
  two_most : (i : ℕ) → i < count s → kind s i ≡ conditional → x i ≤ quantity s i
  two_most i l e = ⊎_elim (λ z. omega arith) (λ z. omega arith) (r.two i l e)

  all_left : ((i : ℕ) → i < count s → price s i < m) → (i : ℕ) → i < count s → kind s i ≡ conditional → x i ≡ 0
      → (quantity s i ≡ 0) ⊎ (d ≤ below s (price s i) + taken_at s x (price s i) + fixed_at s (price s i))
  all_left small i l e z = ⊎_elim some (λ h. inl (omega arith)) (cut 0 (quantity s i))
    where
      some : 0 < quantity s i
          → (quantity s i ≡ 0) ⊎ (d ≤ below s (price s i) + taken_at s x (price s i) + fixed_at s (price s i))
      some h =
          let g : m - price s i ≤ depth_of m s x = depth_ge s x m i l e z h in
          let f : d ≤ below s (m - depth_of m s x) + taken_at s x (m - depth_of m s x)
          + fixed_at s (m - depth_of m s x) = r.first (omega (arith, small i l)) in
          inr
          (⊎_elim
          (λ (o : m - depth_of m s x < price s i). omega (
            arith,
            level_below s x two_most (m - depth_of m s x) (price s i) o,
          ))
          (λ (o : price s i ≤ m - depth_of m s x). let q : m - depth_of m s x
          ≡ price s i = omega (arith, small i l) in rw q at f)
          (cut (m - depth_of m s x) (price s i)))

  all_taken : (i : ℕ) → i < count s → kind s i ≡ conditional → 0 < x i
      → (x i ≡ quantity s i) × (below s (price s i) + taken_at s x (price s i) - largest_at s x (price s i) < d)
  all_taken i l e h = (
    ⊎_elim (λ z. absurd (omega arith)) (λ z. z) (r.two i l e),
    ⊎_elim
        (λ (o : price s i < p). omega (arith, f, level_below s x two_most (price s i) p o, largest_taken s x p))
        (λ (o : p ≤ price s i). let q : p ≡ price s i = omega (arith, g) in rw q at f)
        (cut (price s i) p),
  )
    where
      p : ℕ
      p = reach_of s x conditional - 1

      g : price s i + 1 ≤ reach_of s x conditional
      g = reach_ge s x conditional i l e h

      f : below s p + taken_at s x p - largest_at s x p < d
      f = r.last (omega (arith, g))

  -- ---- kind 3
  abbrev reach : ℕ
  reach = reach_of s x demanded

  abbrev left : ℕ
  left = left_by s d x

  three_most : (i : ℕ) → i < count s → kind s i ≡ demanded → x i ≤ quantity s i
  three_most i l e =
      go (cut (price s i + 1) reach) (cut reach (price s i + 1))
      (cut left (cheaper_of s (reach - 1) + total (group_of s (reach - 1))))
    where
      go : (price s i + 1 < reach) ⊎ (reach ≤ price s i + 1) → (reach < price s i + 1) ⊎ (price s i + 1 ≤ reach)
          → (left < cheaper_of s (reach - 1) + total (group_of s (reach - 1)))
          ⊎ (cheaper_of s (reach - 1) + total (group_of s (reach - 1)) ≤ left) → x i ≤ quantity s i
      go (inl a) b c = omega (arith, r.cheap i l e a)
      go (inr a) (inl b) c = omega (arith, past_reach s x demanded i l e b)
      go (inr a) (inr b) (inr c) = omega (arith, r.full i l e (omega arith) c)
      go (inr a) (inr b) (inl c) = near_le (left - cheaper_of s (reach - 1)) (quantity s i)
          (total (group_of s (reach - 1))) (x i) (omega arith) (r.near i l e (omega arith) c)

  -- what is cheaper than the reach is given in full
  cheap_given : cheaper_of s (reach - 1) ≤ given_all s x
  unfolding cheaper_of given_all
  cheap_given =
      sum_le (count s) _ _
      (λ j l. pick_most (eqb (kind s j) demanded && ltb (price s j) (reach - 1)) (quantity s j) _
      (λ t.
      let k : kind s j ≡ demanded = eqb-true (kind s j) demanded (and_left _ _ t) in
      let p : price s j < reach - 1 =
      ltb-true (price s j) (reach - 1) (and_right (eqb (kind s j) demanded) (ltb (price s j) (reach - 1)) t) in
      omega (arith, r.cheap j l k (omega arith), pick_eq (kind s j) demanded (x j) k)))

  -- nothing is given from the reach on
  given_under : (p : ℕ) → reach ≤ p → given_all s x ≤ cheaper_of s p
  unfolding cheaper_of given_all
  given_under p h =
      sum_le (count s) _ _
      (λ j l. pick_most (eqb (kind s j) demanded) (x j) _
      (λ t.
      let k : kind s j ≡ demanded = eqb-true (kind s j) demanded t in
      ⊎_elim
      (λ (z : 0 < x j). omega (
        arith,
        three_most j l k,
        pick_two (eqb (kind s j) demanded) (ltb (price s j) p) (quantity s j) t
            (lt-ltb (price s j) p (omega (arith, reach_ge s x demanded j l k z))),
      ))
      (λ (z : x j ≤ 0). omega arith)
      (cut 0 (x j))))

  -- what is given is given below the reach, and at it
  given_split : 0 < reach → given_all s x ≡ cheaper_of s (reach - 1) + given_at s x (reach - 1)
  unfolding cheaper_of given_all given_at
  given_split h =
      sum_eq (count s) _ _ (λ j l. each j l (ℕ_discrete (kind s j) demanded) (cut (price s j) (reach - 1))
      (cut (reach - 1) (price s j)))
      ∙ sum_add (count s) (λ j. pick (eqb (kind s j) demanded && ltb (price s j) (reach - 1)) (quantity s j))
      (λ j. pick (eqb (kind s j) demanded && eqb (price s j) (reach - 1)) (x j))
    where
      each : (j : ℕ)
          → j < count s
          → Dec (kind s j ≡ demanded)
          → (price s j < reach - 1) ⊎ (reach - 1 ≤ price s j)
          → (reach - 1 < price s j) ⊎ (price s j ≤ reach - 1)
          → pick (eqb (kind s j) demanded) (x j)
          ≡ pick (eqb (kind s j) demanded && ltb (price s j) (reach - 1)) (quantity s j)
          + pick (eqb (kind s j) demanded && eqb (price s j) (reach - 1)) (x j)
      each j l (no k) a b =
          omega (
            arith,
            pick_ne (kind s j) demanded (x j) k,
            pick_not_first (eqb (kind s j) demanded) (ltb (price s j) (reach - 1)) (quantity s j)
                (ne_eqb (kind s j) demanded k),
            pick_not_first (eqb (kind s j) demanded) (eqb (price s j) (reach - 1)) (x j) (ne_eqb (kind s j) demanded k),
          )
      each j l (yes k) (inl a) b =
          omega (
            arith,
            pick_eq (kind s j) demanded (x j) k,
            r.cheap j l k (omega arith),
            pick_two (eqb (kind s j) demanded) (ltb (price s j) (reach - 1)) (quantity s j)
                (eq-eqb (kind s j) demanded k) (lt-ltb (price s j) (reach - 1) a),
            pick_not_second (eqb (kind s j) demanded) (eqb (price s j) (reach - 1)) (x j)
                (ne_eqb (price s j) (reach - 1) (λ z. omega arith)),
          )
      each j l (yes k) (inr a) (inl b) =
          omega (
            arith,
            pick_eq (kind s j) demanded (x j) k,
            past_reach s x demanded j l k (omega arith),
            pick_not_second (eqb (kind s j) demanded) (ltb (price s j) (reach - 1)) (quantity s j)
                (le-ltb (price s j) (reach - 1) a),
            pick_le (eqb (kind s j) demanded && eqb (price s j) (reach - 1)) (x j),
          )
      each j l (yes k) (inr a) (inr b) =
          omega (
            arith,
            pick_eq (kind s j) demanded (x j) k,
            pick_not_second (eqb (kind s j) demanded) (ltb (price s j) (reach - 1)) (quantity s j)
                (le-ltb (price s j) (reach - 1) a),
            pick_two (eqb (kind s j) demanded) (eqb (price s j) (reach - 1)) (x j) (eq-eqb (kind s j) demanded k)
                (eq-eqb (price s j) (reach - 1) (omega arith)),
          )

  -- a group past the reach is given nothing
  given_past : (p : ℕ) → reach < p + 1 → given_at s x p ≡ 0
  unfolding given_at
  given_past p h =
      sum_zero (count s) _
      (λ j l. omega (
        arith,
        pick_most (eqb (kind s j) demanded && eqb (price s j) p) (x j) 0
            (λ t.
            let k : kind s j ≡ demanded = eqb-true (kind s j) demanded (and_left _ _ t) in
            let q : price s j ≡ p =
            eqb-true (price s j) p (and_right (eqb (kind s j) demanded) (eqb (price s j) p) t) in
            omega (arith, past_reach s x demanded j l k (omega arith))),
      ))

  module _ (i : ℕ) (l : i < count s) (e : kind s i ≡ demanded) where
    abbrev p : ℕ
    p = price s i

    -- all kind 3 has is at least what is cheaper and at this price
    asked : cheaper_of s p + total (group_of s p) ≤ given_all s (quantity s)
    asked = omega (arith, cheaper_group s p (suc p) (omega arith), cheaper_all s (suc p))

    all_fits : cheaper_of s p + total (group_of s p) ≤ left → x i ≡ quantity s i
    all_fits h = go (cut (p + 1) reach) (cut reach (p + 1))
      where
        go : (p + 1 < reach) ⊎ (reach ≤ p + 1) → (reach < p + 1) ⊎ (p + 1 ≤ reach) → x i ≡ quantity s i
        go (inl a) b = r.cheap i l e a
        go (inr a) (inl b) = omega (
          arith,
          past_reach s x demanded i l e b,
          weight_whole s i l e,
          asked,
          r.whole,
          given_under p (omega arith),
        )
        go (inr a) (inr b) = let q : p ≡ reach - 1 = omega arith in r.full i l e (omega arith) (rw q at h)

    all_shares : left < cheaper_of s p + total (group_of s p) → cheaper_of s p ≤ left → Shares s left x i
    all_shares h c = go (cut (p + 1) reach) (cut reach (p + 1))
      where
        go : (p + 1 < reach) ⊎ (reach ≤ p + 1) → (reach < p + 1) ⊎ (p + 1 ≤ reach) → Shares s left x i
        go (inl a) b = absurd (omega (arith, cheaper_group s p (reach - 1) (omega arith), cheap_given, r.whole))
        go (inr a) (inl b) =
            let z : left - cheaper_of s p ≡ 0 = omega (arith, asked, r.whole, given_under p (omega arith)) in
            let y : x i ≡ 0 = past_reach s x demanded i l e b in
            record {
              near = rw (z, y) (record { over = omega arith; under = omega arith });
              whole = given_past p b ∙ sym z;
            }
        go (inr a) (inr b) =
            let q : p ≡ reach - 1 = omega arith in
            record {
              near = rw q (r.near i l e (omega arith) (rw q at h));
              whole = rw q (omega (arith, given_split (omega arith), asked, r.whole, rw q at h));
            }

    all_dearer : left < cheaper_of s p → x i ≡ 0
    all_dearer h =
        ⊎_elim (λ b. past_reach s x demanded i l e b)
        (λ (b : p + 1 ≤ reach). absurd
        (omega (arith, cheaper_mono s p (reach - 1) (omega arith), cheap_given, r.whole))) (cut reach (p + 1))

  pub marginal_rows : ((i : ℕ) → i < count s → price s i < m) → Rows s d x
  marginal_rows small =
      record {
        one = r.one;
        left = all_left small;
        taken = all_taken;
        fits = all_fits;
        shares = all_shares;
        dearer = all_dearer;
      }
