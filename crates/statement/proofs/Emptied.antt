-- Rows of no kind, quantity and amount change nothing: the decision over all rows, those of others emptied, is that over one's own.
-- Assumes nothing.
use Prim.Native.Nat.{ℕ, ◌+◌, ◌-◌, ◌≤◌, ◌<◌}
use native.Mathlib.Omega.{arith}
use mathlib.Core.Bool.{Bool, true, false, ◌&&◌}
use mathlib.Core.List.{List}
use mathlib.Core.Logic.{◌⊎◌, inl, inr, ⊎_elim}
use mathlib.Core.Path.{◌≡◌, refl, ap, ◌∙◌, sym}
use lib.Dec.{ltb, eqb}
use lib.ListN.{length}
use borrow.Author.Tests.{eqb-true, eqb-false}
use Rattle.sums.specs.Sums.{sum, peak, pick}
use Rattle.sums.specs.Lists.{at, total, list_to}
use Rattle.sums.proofs.Sums.{sum_eq, sum_some, Some, peak_ge, peak_most}
use Rattle.sums.proofs.Picks.{pick_true, pick_false, pick_le, pick_zero, pick_eq, pick_ne}
use Rattle.sums.proofs.Lists.{length_list_to, get_d_list_to}
use Rattle.sums.proofs.Keyed.{sum_one}
use Rattle.deals.specs.Deals.{Deals, count, kind, price, quantity, fixed, conditional, demanded, cheaper_of, group_of}
use Rattle.deals.specs.Hour.{Rows, own_count, own_of}
use Rattle.deals.proofs.Demanded.{group_total}
use Rattle.deals.proofs.Own.{own_sum, own_at, own_lt, own_kind, own_price, own_quantity, count_own}
use Rattle.statement.specs.Follows.{left_by, given_at, Shares}
use Rattle.statement.specs.Decide.{below, fixed_at, taken_at, largest_at, good}
use Rattle.statement.specs.Hour.{stated_of, only_of, emptied}
use Rattle.statement.proofs.Every.{pick_passed}
use Rattle.statement.proofs.Told as told
use Rattle.statement.proofs.Told.{good_rows, rows_good}
use Rattle.statement.proofs.Quick.{same_test}

-- the rows of s that pass the test are those of t, in its places; the others have no kind, quantity and amount
pub record Within (s t : Deals) (x y : ℕ → ℕ) (test : ℕ → Bool) (place : ℕ → ℕ) : Type 0 where
  pub there : (i : ℕ) → i < count s → test i ≡ true → place i < count t
  pub kinds : (i : ℕ) → i < count s → test i ≡ true → kind s i ≡ kind t (place i)
  pub prices : (i : ℕ) → i < count s → test i ≡ true → price s i ≡ price t (place i)
  pub quantities : (i : ℕ) → i < count s → test i ≡ true → quantity s i ≡ quantity t (place i)
  pub amounts : (i : ℕ) → i < count s → test i ≡ true → x i ≡ y (place i)
  pub none : (i : ℕ) → i < count s → test i ≡ false → (kind s i ≡ 0) × (quantity s i ≡ 0) × (x i ≡ 0)
  pub sums : (f : ℕ → ℕ) → sum (count s) (λ j. pick (test j) (f (place j))) ≡ sum (count t) f

pub record From (s : Deals) (test : ℕ → Bool) (place : ℕ → ℕ) (k : ℕ) : Type 0 where
  pub which : ℕ
  pub within : which < count s
  pub passes : test which ≡ true
  pub place_is : place which ≡ k

module _ (s t : Deals) (x y : ℕ → ℕ) (test : ℕ → Bool) (place : ℕ → ℕ) (e : Within s t x y test place) where
  -- every row of t is one of s
  from : (k : ℕ) → k < count t → From s test place k
  from k l =
      of (sum_some (count s) (λ j. pick (test j) (pick (eqb k (place j)) 1))
      (omega (arith, e.sums (λ z. pick (eqb k z) 1), sum_one (count t) k 1 l)))
    where
      of : Some (count s) (λ j. pick (test j) (pick (eqb k (place j)) 1)) → From s test place k
      of w =
          let p = pick_passed (test w.which) (pick (eqb k (place w.which)) 1) w.above in
          let q =
          pick_passed (eqb k (place w.which)) 1
          (omega (arith, w.above, pick_le (test w.which) (pick (eqb k (place w.which)) 1))) in
          record { which = w.which; within = w.within; passes = p; place_is = sym (eqb-true k (place w.which) q) }

  module _ (f : ℕ → ℕ → ℕ → ℕ → ℕ) (zero_at : (p : ℕ) → f 0 p 0 0 ≡ 0) where
    -- a row's number, by its place in t
    there_is : (j : ℕ)
        → j < count s
        → test j ≡ true
        → f (kind s j) (price s j) (quantity s j) (x j)
        ≡ f (kind t (place j)) (price t (place j)) (quantity t (place j)) (y (place j))
    there_is j l q = rw (e.kinds j l q, e.prices j l q, e.quantities j l q, e.amounts j l q)

    none_is : (j : ℕ) → j < count s → test j ≡ false → f (kind s j) (price s j) (quantity s j) (x j) ≡ 0
    none_is j l q = rw ((e.none j l q).0, (e.none j l q).1, (e.none j l q).2) (zero_at (price s j))

    sum_same : sum (count s) (λ j. f (kind s j) (price s j) (quantity s j) (x j))
        ≡ sum (count t) (λ k. f (kind t k) (price t k) (quantity t k) (y k))
    sum_same =
        sum_eq (count s) _ (λ j. pick (test j)
        (f (kind t (place j)) (price t (place j)) (quantity t (place j)) (y (place j)))) (λ j l. each j l (test j) refl)
        ∙ e.sums (λ k. f (kind t k) (price t k) (quantity t k) (y k))
      where
        each : (j : ℕ) → j < count s → (b : Bool) → test j ≡ b
            → f (kind s j) (price s j) (quantity s j) (x j)
            ≡ pick (test j) (f (kind t (place j)) (price t (place j)) (quantity t (place j)) (y (place j)))
        each j l true q = there_is j l q ∙ sym (pick_true (test j) _ q)
        each j l false q = none_is j l q ∙ sym (pick_false (test j) _ q)

    peak_same : peak (count s) (λ j. f (kind s j) (price s j) (quantity s j) (x j))
        ≡ peak (count t) (λ k. f (kind t k) (price t k) (quantity t k) (y k))
    peak_same =
        omega (
          arith,
          peak_most (count s) (peak (count t) over) (λ j. f (kind s j) (price s j) (quantity s j) (x j))
              (λ j l. up j l (test j) refl),
          peak_most (count t) (peak (count s) under) (λ k. f (kind t k) (price t k) (quantity t k) (y k))
              (λ k l. down k l (from k l)),
        )
      where
        over : ℕ → ℕ
        over k = f (kind t k) (price t k) (quantity t k) (y k)

        under : ℕ → ℕ
        under j = f (kind s j) (price s j) (quantity s j) (x j)

        up : (j : ℕ) → j < count s → (b : Bool) → test j ≡ b → under j ≤ peak (count t) over
        up j l true q = omega (arith, there_is j l q, peak_ge (count t) (place j) over (e.there j l q))
        up j l false q = omega (arith, none_is j l q)

        down : (k : ℕ) → k < count t → From s test place k → over k ≤ peak (count s) under
        down k l w =
            omega (
              arith,
              there_is w.which w.within w.passes,
              ap over w.place_is,
              peak_ge (count s) w.which under w.within,
            )

  -- ---- the sums of the decision
  below_same : (p : ℕ) → below s p ≡ below t p
  unfolding below
  below_same p = sum_same (λ k z q a. pick (ltb k demanded && ltb z p) q) (λ z. pick_zero (ltb 0 demanded && ltb z p))

  fixed_same : (p : ℕ) → fixed_at s p ≡ fixed_at t p
  unfolding fixed_at
  fixed_same p = sum_same (λ k z q a. pick (eqb k fixed && eqb z p) q) (λ z. pick_zero (eqb 0 fixed && eqb z p))

  taken_same : (p : ℕ) → taken_at s x p ≡ taken_at t y p
  unfolding taken_at
  taken_same p =
      sum_same (λ k z q a. pick (eqb k conditional && eqb z p) a) (λ z. pick_zero (eqb 0 conditional && eqb z p))

  largest_same : (p : ℕ) → largest_at s x p ≡ largest_at t y p
  unfolding largest_at
  largest_same p =
      peak_same (λ k z q a. pick (eqb k conditional && eqb z p) a) (λ z. pick_zero (eqb 0 conditional && eqb z p))

  left_same : (d : ℕ) → left_by s d x ≡ left_by t d y
  unfolding left_by
  left_same d = ap (λ (z : ℕ). d - z) (sum_same (λ k z q a. pick (ltb k demanded) a) (λ z. pick_zero (ltb 0 demanded)))

  given_same : (p : ℕ) → given_at s x p ≡ given_at t y p
  unfolding given_at
  given_same p = sum_same (λ k z q a. pick (eqb k demanded && eqb z p) a) (λ z. pick_zero (eqb 0 demanded && eqb z p))

  cheaper_same : (p : ℕ) → cheaper_of s p ≡ cheaper_of t p
  unfolding cheaper_of
  cheaper_same p = sum_same (λ k z q a. pick (eqb k demanded && ltb z p) q) (λ z. pick_zero (eqb 0 demanded && ltb z p))

  whole_same : (p : ℕ) → total (group_of s p) ≡ total (group_of t p)
  whole_same p =
      group_total s p ∙ sum_same (λ k z q a. pick (eqb k demanded && eqb z p) q)
      (λ z. pick_zero (eqb 0 demanded && eqb z p)) ∙ sym (group_total t p)

  -- ---- a row, as facts about its own numbers and the sums
  module _ (d : ℕ) where
    -- what each row of s says, its place in t says
    module _ (r : told.Rows s d x) (k : ℕ) (w : From s test place k) where
      abbrev i : ℕ
      i = w.which

      kind_is : kind s i ≡ kind t k
      kind_is = e.kinds i w.within w.passes ∙ ap (kind t) w.place_is

      price_is : price s i ≡ price t k
      price_is = e.prices i w.within w.passes ∙ ap (price t) w.place_is

      quantity_is : quantity s i ≡ quantity t k
      quantity_is = e.quantities i w.within w.passes ∙ ap (quantity t) w.place_is

      amount_is : x i ≡ y k
      amount_is = e.amounts i w.within w.passes ∙ ap y w.place_is

      to_one : kind t k ≡ fixed → y k ≡ quantity t k
      to_one c = rw (← amount_is, ← quantity_is) (r.one i w.within (kind_is ∙ c))

      to_left : kind t k ≡ conditional
          → y k ≡ 0
          → (quantity t k ≡ 0) ⊎ (d ≤ below t (price t k) + taken_at t y (price t k) + fixed_at t (price t k))
      to_left c z =
          ⊎_elim (λ q. inl (sym quantity_is ∙ q))
          (λ h. inr (rw (price_is, below_same (price t k), taken_same (price t k), fixed_same (price t k)) at h))
          (r.left i w.within (kind_is ∙ c) (amount_is ∙ z))

      to_taken : kind t k ≡ conditional
          → 0 < y k
          → (y k ≡ quantity t k) × (below t (price t k) + taken_at t y (price t k) - largest_at t y (price t k) < d)
      to_taken c z =
          let h = r.taken i w.within (kind_is ∙ c) (omega (arith, amount_is)) in (
            rw (amount_is, quantity_is) at h.0,
            rw (price_is, below_same (price t k), taken_same (price t k), largest_same (price t k)) at h.1,
          )

      to_fits : kind t k ≡ demanded
          → cheaper_of t (price t k) + total (group_of t (price t k)) ≤ left_by t d y
          → y k ≡ quantity t k
      to_fits c h =
          rw (amount_is, quantity_is) at
          (r.fits i w.within (kind_is ∙ c)
          (rw (price_is, cheaper_same (price t k), whole_same (price t k), left_same d) h))

      to_dearer : kind t k ≡ demanded → left_by t d y < cheaper_of t (price t k) → y k ≡ 0
      to_dearer c h =
          sym amount_is ∙ r.dearer i w.within (kind_is ∙ c) (rw (price_is, cheaper_same (price t k), left_same d) h)

      to_shares : kind t k ≡ demanded
          → left_by t d y < cheaper_of t (price t k) + total (group_of t (price t k))
          → cheaper_of t (price t k) ≤ left_by t d y
          → Shares t (left_by t d y) y k
      to_shares c h m =
          let g : Shares s (left_by s d x) x i =
          r.shares i w.within (kind_is ∙ c)
          (rw (price_is, cheaper_same (price t k), whole_same (price t k), left_same d) h)
          (rw (price_is, cheaper_same (price t k), left_same d) m) in
          record {
            near =
                rw (
                  price_is,
                  cheaper_same (price t k),
                  whole_same (price t k),
                  left_same d,
                  quantity_is,
                  amount_is,
                ) at g.near;
            whole = rw (price_is, given_same (price t k), cheaper_same (price t k), left_same d) at g.whole;
          }

    rows_to_lem : told.Rows s d x → told.Rows t d y
    rows_to_lem r =
        record {
          one = λ k l. to_one r k (from k l);
          left = λ k l. to_left r k (from k l);
          taken = λ k l. to_taken r k (from k l);
          fits = λ k l. to_fits r k (from k l);
          shares = λ k l. to_shares r k (from k l);
          dearer = λ k l. to_dearer r k (from k l);
        }

    -- and back: a row of s that has a kind passes the test
    module _ (r : told.Rows t d y) (i : ℕ) (l : i < count s) where
      passes : (c : ℕ) → 0 < c → kind s i ≡ c → test i ≡ true
      passes c pos q = go (test i) refl
        where
          go : (b : Bool) → test i ≡ b → b ≡ true
          go true g = refl
          go false g = absurd (omega (arith, e.none i l g))

      back_one : kind s i ≡ fixed → x i ≡ quantity s i
      back_one c =
          let q = passes fixed (omega arith) c in
          e.amounts i l q ∙ r.one (place i) (e.there i l q) (sym (e.kinds i l q) ∙ c) ∙ sym (e.quantities i l q)

      back_left : kind s i ≡ conditional
          → x i ≡ 0
          → (quantity s i ≡ 0) ⊎ (d ≤ below s (price s i) + taken_at s x (price s i) + fixed_at s (price s i))
      back_left c z =
          let q = passes conditional (omega arith) c in
          ⊎_elim (λ h. inl (e.quantities i l q ∙ h))
          (λ h. inr (rw (below_same (price s i), taken_same (price s i), fixed_same (price s i), e.prices i l q) h))
          (r.left (place i) (e.there i l q) (sym (e.kinds i l q) ∙ c) (sym (e.amounts i l q) ∙ z))

      back_taken : kind s i ≡ conditional
          → 0 < x i
          → (x i ≡ quantity s i) × (below s (price s i) + taken_at s x (price s i) - largest_at s x (price s i) < d)
      back_taken c z =
          let q = passes conditional (omega arith) c in
          let h = r.taken (place i) (e.there i l q) (sym (e.kinds i l q) ∙ c) (omega (arith, e.amounts i l q)) in (
            e.amounts i l q ∙ h.0 ∙ sym (e.quantities i l q),
            rw (below_same (price s i), taken_same (price s i), largest_same (price s i), e.prices i l q) h.1,
          )

      back_fits : kind s i ≡ demanded
          → cheaper_of s (price s i) + total (group_of s (price s i)) ≤ left_by s d x
          → x i ≡ quantity s i
      back_fits c h =
          let q = passes demanded (omega arith) c in
          e.amounts i l q
          ∙ r.fits (place i) (e.there i l q) (sym (e.kinds i l q) ∙ c)
          (rw (cheaper_same (price s i), whole_same (price s i), left_same d, e.prices i l q) at h)
          ∙ sym (e.quantities i l q)

      back_dearer : kind s i ≡ demanded → left_by s d x < cheaper_of s (price s i) → x i ≡ 0
      back_dearer c h =
          let q = passes demanded (omega arith) c in
          e.amounts i l q ∙ r.dearer (place i) (e.there i l q) (sym (e.kinds i l q) ∙ c)
          (rw (cheaper_same (price s i), left_same d, e.prices i l q) at h)

      back_shares : kind s i ≡ demanded
          → left_by s d x < cheaper_of s (price s i) + total (group_of s (price s i))
          → cheaper_of s (price s i) ≤ left_by s d x
          → Shares s (left_by s d x) x i
      back_shares c h m =
          let q = passes demanded (omega arith) c in
          let g : Shares t (left_by t d y) y (place i) =
          r.shares (place i) (e.there i l q) (sym (e.kinds i l q) ∙ c)
          (rw (cheaper_same (price s i), whole_same (price s i), left_same d, e.prices i l q) at h)
          (rw (cheaper_same (price s i), left_same d, e.prices i l q) at m) in
          record {
            near =
                rw (
                  cheaper_same (price s i),
                  whole_same (price s i),
                  left_same d,
                  e.prices i l q,
                  e.quantities i l q,
                  e.amounts i l q,
                ) g.near;
            whole = rw (given_same (price s i), cheaper_same (price s i), left_same d, e.prices i l q) g.whole;
          }

    rows_back : told.Rows t d y → told.Rows s d x
    rows_back r =
        record {
          one = back_one r;
          left = back_left r;
          taken = back_taken r;
          fits = back_fits r;
          shares = back_shares r;
          dearer = back_dearer r;
        }

    -- THE DECISION IS THE SAME
    pub good_same : good s d x ≡ good t d y
    good_same =
        same_test (good s d x) (good t d y) (λ g. rows_good t d y (rows_to_lem (good_rows s d x g)))
        (λ g. rows_good s d x (rows_back (good_rows t d y g)))

-- ---- all rows of a sheet, and one agent's own
module _ (s : Rows) (xs : List ℕ) (b : ℕ) where
  abbrev n : ℕ
  n = length s.buyers

  emptied_count : count (emptied s b) ≡ n
  unfolding emptied
  emptied_count = length_list_to (only_of s.buyers b s.quantities) n

  module _ (j : ℕ) (l : j < n) where
    only_own : (c : List ℕ) → at s.buyers j ≡ b → at (list_to (only_of s.buyers b c) n) j ≡ at c j
    unfolding only_of
    only_own c q = get_d_list_to 0 (only_of s.buyers b c) n j l ∙ pick_eq (at s.buyers j) b (at c j) q

    only_other : (c : List ℕ) → (at s.buyers j ≡ b → ⊥) → at (list_to (only_of s.buyers b c) n) j ≡ 0
    unfolding only_of
    only_other c q = get_d_list_to 0 (only_of s.buyers b c) n j l ∙ pick_ne (at s.buyers j) b (at c j) q

  emptied_within : Within (emptied s b) (own_of s b) (only_of s.buyers b xs) (stated_of s xs b)
      (λ j. eqb (at s.buyers j) b) (own_count s.buyers b)
  unfolding emptied stated_of only_of
  emptied_within =
      record {
        there = λ i l t. own_lt s b i (omega (arith, emptied_count)) (eqb-true (at s.buyers i) b t);
        kinds =
            λ i l t. let m : i < n =
            omega (arith, emptied_count) in
            let q = eqb-true (at s.buyers i) b t in only_own i m s.kinds q ∙ sym (own_kind s b i m q);
        prices =
            λ i l t. let m : i < n =
            omega (arith, emptied_count) in sym (own_price s b i m (eqb-true (at s.buyers i) b t));
        quantities =
            λ i l t. let m : i < n =
            omega (arith, emptied_count) in
            let q = eqb-true (at s.buyers i) b t in only_own i m s.quantities q ∙ sym (own_quantity s b i m q);
        amounts = λ i l t.
            let m : i < n = omega (arith, emptied_count) in
            let q = eqb-true (at s.buyers i) b t in
            pick_eq (at s.buyers i) b (at xs i) q ∙ sym (own_at s.buyers b xs i n m q);
        none = λ i l t.
            let m : i < n = omega (arith, emptied_count) in
            let q = eqb-false (at s.buyers i) b t in
            (only_other i m s.kinds q, only_other i m s.quantities q, pick_ne (at s.buyers i) b (at xs i) q);
        sums =
            λ f. ap (λ (z : ℕ). sum z (λ j. pick (eqb (at s.buyers j) b) (f (own_count s.buyers b j))))
            emptied_count ∙ own_sum s.buyers b f n ∙ ap (λ (z : ℕ). sum z f) (sym (count_own s b));
      }

  -- ALL ROWS, THOSE OF OTHERS EMPTIED, ARE DECIDED AS ONE'S OWN
  pub emptied_good : (d : ℕ) → good (emptied s b) d (only_of s.buyers b xs) ≡ good (own_of s b) d (stated_of s xs b)
  emptied_good d =
      good_same (emptied s b) (own_of s b) (only_of s.buyers b xs) (stated_of s xs b) (λ j. eqb (at s.buyers j) b)
      (own_count s.buyers b) emptied_within d
