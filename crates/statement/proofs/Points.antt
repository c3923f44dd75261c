-- Each of the five tests holds exactly if its point does, and nothing is refused exactly if all five hold. Assumes nothing.
use Rattle.std.specs.Prelude.{Ok}
use Prim.Native.Nat.{ℕ, ◌≤◌, ◌<◌}
use native.Mathlib.Omega.{arith}
use mathlib.Core.Bool.{Bool, true, false, true≢false, false≢true}
use mathlib.Core.List.{List, [], ◌∷◌}
use mathlib.Core.Logic.{◌↔◌, ◌⊎◌, inl, inr, ⊎_elim}
use mathlib.Core.Path.{◌≡◌, refl, ap}
use lib.Dec.{ltb, leb, eqb}
use lib.IntN.{ℤ, pos, negsuc}
use lib.Signed.{le_z}
use borrow.Author.Tests.{lt-ltb, le-ltb, eq-eqb, le-leb, lt-leb, leb-true, eqb-true}
use Rattle.sums.specs.Sums.{sum, pick}
use Rattle.sums.specs.Lists.{at}
use Rattle.sums.proofs.Sums.{peak_ge, peak_most}
use Rattle.sums.proofs.Picks.{pick_lt, pick_ge}
use Rattle.sums.proofs.Tests.{and_left, and_right, and_both, or_first, or_second, or_cases, all_true}
use Rattle.sums.proofs.Cut.{cut}
use Rattle.refusals.specs.Refusals.{bad_shares, bad_schedule, bad_price, bad_amounts, bad_lines, refused_unless}
use Rattle.refusals.specs.Refusals.{Verdict}
use Rattle.refusals.proofs.Fine.{fine_parts, fine_test}
use Rattle.hour.specs.Sheet.{Sheet, agents, plants, retails}
use Rattle.hour.specs.Sound.{Sound}
use Rattle.hour.specs.Balance.{consumption, consumed, own_import, losses, dispatch_demand_by}
use Rattle.hour.specs.Lines.{own_by, contracted_by, bought_of, sold_of, money_of}
use Rattle.hour.specs.Answer.{Lent, share_in, own_in, import_in, contracted_in, bought_in, sold_in, money_in, schedule_in}
use Rattle.statement.specs.Follows.{Near}
use Rattle.statement.specs.Decide.{every}
use Rattle.statement.specs.Points.{demand_in, least, basis_in, SharesFollow, ScheduleFollows}
use Rattle.statement.specs.Points.{PriceFollows, AmountsFollow, LineFollows, Holds}
use Rattle.statement.specs.Tests.{share_test, share_good, shares_good, within_test, order_test, dearest, schedule_good}
use Rattle.statement.specs.Tests.{price_good, amounts_good, same_money, line_good, lines_good, points_verdict}
use Rattle.statement.proofs.Every.{every_holds, every_from, near_told, near_tells}
use Rattle.statement.proofs.Hours.{hour_exact}

-- ---- 21

-- what the test of one share says, by the kind of agent and the consumption of all
share_told : (r : Bool) (a w t x : ℕ) → share_test r a w t x ≡ true
    → (r ≡ true → 0 < t → Near a w t x) × (r ≡ false → x ≡ 0) × (t ≡ 0 → x ≡ 0)
share_told true a w t x e = go (cut 0 t)
  where
    go : (0 < t) ⊎ (t ≤ 0) → (true ≡ true → 0 < t → Near a w t x) × (true ≡ false → x ≡ 0) × (t ≡ 0 → x ≡ 0)
    go (inl h) = (
      λ _ _. near_told a w t x (rw (lt-ltb 0 t h) at e),
      λ c. absurd (true≢false c),
      λ z. absurd (omega arith),
    )
    go (inr h) = let z : x ≡ 0 = eqb-true x 0 (rw (le-ltb 0 t h) at e) in (λ _ k. absurd (omega arith), λ _. z, λ _. z)
share_told false a w t x e = let z : x ≡ 0 = eqb-true x 0 e in (λ c. absurd (false≢true c), λ _. z, λ _. z)

share_tells : (r : Bool) (a w t x : ℕ) → (r ≡ true → 0 < t → Near a w t x) → (r ≡ false → x ≡ 0) → (t ≡ 0 → x ≡ 0)
    → share_test r a w t x ≡ true
share_tells true a w t x n g z = go (cut 0 t)
  where
    go : (0 < t) ⊎ (t ≤ 0) → share_test true a w t x ≡ true
    go (inl h) = rw (lt-ltb 0 t h) (near_tells a w t x (n refl h))
    go (inr h) = rw (le-ltb 0 t h) (eq-eqb x 0 (z (omega arith)))
share_tells false a w t x n g z = eq-eqb x 0 (g refl)

module _ (s : Sheet) (l : Lent) where
  pub shares_exact : (shares_good s l ≡ true) ↔ SharesFollow s l
  unfolding shares_good share_good
  shares_exact = (told, tells)
    where
      told : shares_good s l ≡ true → SharesFollow s l
      told e =
          let each = every_holds (agents s) (share_good s l) (and_left _ _ e) in
          record {
            whole = eqb-true _ _ (and_right (every (agents s) (share_good s l)) _ e);
            near =
                λ a h. (share_told (retails s a) (losses s) (consumption s a) (consumed s) (share_in l a) (each a h)).0;
            generator =
                λ a h. (share_told (retails s a) (losses s) (consumption s a) (consumed s) (share_in l a) (each a h)).1;
            nobody =
                λ a h. (share_told (retails s a) (losses s) (consumption s a) (consumed s) (share_in l a) (each a h)).2;
          }

      tells : SharesFollow s l → shares_good s l ≡ true
      tells f =
          and_both
          (every_from (agents s) (share_good s l)
          (λ a h. share_tells (retails s a) (losses s) (consumption s a) (consumed s) (share_in l a) (f.near a h)
          (f.generator a h) (f.nobody a h)))
          (eq-eqb _ _ f.whole)

  -- ---- 22
  module _ (i : ℕ) (h : i < plants s) where
    -- a plant above its must-run is no dearer than the dearest of these
    dear : least s i < schedule_in l i → at s.offers i ≤ dearest s l
    unfolding dearest
    dear m =
        omega (
          arith,
          peak_ge (plants s) i (λ i. pick (ltb (least s i) (schedule_in l i)) (at s.offers i)) h,
          pick_lt (least s i) (schedule_in l i) (at s.offers i) m,
        )

    within_told : within_test (least s i) (at s.available i) (schedule_in l i) ≡ true
        → (least s i ≤ schedule_in l i) × (schedule_in l i ≤ at s.available i)
    within_told e = (leb-true _ _ (and_left _ _ e), leb-true _ _ (and_right (leb (least s i) (schedule_in l i)) _ e))

    order_told : order_test (dearest s l) (at s.offers i) (at s.available i) (schedule_in l i) ≡ true
        → schedule_in l i < at s.available i → dearest s l ≤ at s.offers i
    order_told e m =
        ⊎_elim (λ t. absurd (omega (arith, leb-true (at s.available i) (schedule_in l i) t))) (λ t. leb-true _ _ t)
        (or_cases (leb (at s.available i) (schedule_in l i)) (leb (dearest s l) (at s.offers i)) e)

    order_tells : (schedule_in l i < at s.available i → dearest s l ≤ at s.offers i)
        → order_test (dearest s l) (at s.offers i) (at s.available i) (schedule_in l i) ≡ true
    order_tells f = go (cut (schedule_in l i) (at s.available i))
      where
        go : (schedule_in l i < at s.available i) ⊎ (at s.available i ≤ schedule_in l i)
            → order_test (dearest s l) (at s.offers i) (at s.available i) (schedule_in l i) ≡ true
        go (inl m) = or_second (lt-leb _ _ m) (le-leb _ _ (f m))
        go (inr m) = or_first _ (le-leb _ _ m)

  -- the dearest is at most an offer that every plant above its must-run is at most
  dearest_most : (p : ℕ)
      → ((i : ℕ) → i < plants s → least s i < schedule_in l i → at s.offers i ≤ p)
      → dearest s l ≤ p
  unfolding dearest
  dearest_most p h = peak_most (plants s) p _ (λ i k. go i k (cut (least s i) (schedule_in l i)))
    where
      go : (i : ℕ) → i < plants s → (least s i < schedule_in l i) ⊎ (schedule_in l i ≤ least s i)
          → pick (ltb (least s i) (schedule_in l i)) (at s.offers i) ≤ p
      go i k (inl m) = omega (arith, pick_lt (least s i) (schedule_in l i) (at s.offers i) m, h i k m)
      go i k (inr m) = omega (arith, pick_ge (least s i) (schedule_in l i) (at s.offers i) m)

  abbrev bounds : ℕ → Bool
  bounds i = within_test (least s i) (at s.available i) (schedule_in l i)

  abbrev order : ℕ → Bool
  order i = order_test (dearest s l) (at s.offers i) (at s.available i) (schedule_in l i)

  abbrev met : Bool
  met = eqb (sum (plants s) (schedule_in l)) (dispatch_demand_by s (demand_in s l))

  pub schedule_exact : (schedule_good s l ≡ true) ↔ ScheduleFollows s l
  unfolding schedule_good
  schedule_exact = (told, tells)
    where
      told : schedule_good s l ≡ true → ScheduleFollows s l
      told e =
          let all = all_true (every (plants s) bounds) (met ∷ every (plants s) order ∷ []) e in
          let each = every_holds (plants s) bounds all.0 in
          let placed = every_holds (plants s) order all.1.1.0 in
          record {
            possible = record {
              enough = λ i h. (within_told i h (each i h)).0;
              within = λ i h. (within_told i h (each i h)).1;
              meets = eqb-true _ _ all.1.0;
            };
            merit = record { order = λ i j h k m r. omega (arith, dear i h m, order_told j k (placed j k) r) };
          }

      tells : ScheduleFollows s l → schedule_good s l ≡ true
      tells f =
          and_both
          (and_both
          (every_from (plants s) bounds
          (λ i h. and_both (le-leb _ _ (f.possible.enough i h)) (le-leb _ _ (f.possible.within i h))))
          (eq-eqb _ _ f.possible.meets))
          (every_from (plants s) order
          (λ j k. order_tells j k (λ r. dearest_most _ (λ i h m. f.merit.order i j h k m r))))

  -- ---- 23
  pub price_exact : (price : ℕ) → (price_good s price l ≡ true) ↔ PriceFollows s price l
  unfolding price_good
  price_exact price = (eqb-true _ _, eq-eqb _ _)

  -- ---- 24
  pub amounts_exact : Sound s → (amounts_good s l ≡ true) ↔ AmountsFollow s l
  unfolding amounts_good
  amounts_exact ok = hour_exact s.deals (λ j h. (ok.contract j (omega (arith, ok.whole.buyers))).least) _ _

-- ---- 25
pub same_told : (x y : ℤ) → same_money x y ≡ true → x ≡ y
same_told (pos a) (pos b) e = ap pos
    (omega (arith, leb-true a b (and_left _ _ e), leb-true b a (and_right (leb a b) _ e)))
same_told (pos a) (negsuc b) e = cc
same_told (negsuc a) (pos b) e = cc
same_told (negsuc a) (negsuc b) e = ap negsuc
    (omega (arith, leb-true b a (and_left _ _ e), leb-true a b (and_right (leb b a) _ e)))

le_self : (x : ℤ) → le_z x x ≡ true
le_self (pos a) = le-leb a a (omega arith)
le_self (negsuc a) = le-leb a a (omega arith)

pub same_tells : (x y : ℤ) → x ≡ y → same_money x y ≡ true
same_tells x y e = rw e (and_both (le_self y) (le_self y))

module _ (s : Sheet) (price : ℕ) (l : Lent) where
  pub line_exact : (a : ℕ) → (line_good s price l a ≡ true) ↔ LineFollows s price l a
  unfolding line_good
  line_exact a = (told, tells)
    where
      told : line_good s price l a ≡ true → LineFollows s price l a
      told e =
          let all =
          all_true (eqb (own_in l a) (own_by s (basis_in s l) a))
          (eqb (import_in l a) (own_import s a)
          ∷ eqb (contracted_in l a) (contracted_by s (basis_in s l) a)
          ∷ eqb (bought_in l a) (bought_of s (own_in l) (contracted_in l) a)
          ∷ eqb (sold_in l a) (sold_of s (own_in l) (contracted_in l) a)
          ∷ same_money (money_in l a) (money_of (sold_in l a) (bought_in l a) price)
          ∷ [])
          e in
          record {
            own = eqb-true _ _ all.0;
            import = eqb-true _ _ all.1.0;
            contracted = eqb-true _ _ all.1.1.0;
            bought = eqb-true _ _ all.1.1.1.0;
            sold = eqb-true _ _ all.1.1.1.1.0;
            money = same_told _ _ all.1.1.1.1.1.0;
          }

      tells : LineFollows s price l a → line_good s price l a ≡ true
      tells f =
          and_both
          (and_both
          (and_both (and_both (and_both (eq-eqb _ _ f.own) (eq-eqb _ _ f.import)) (eq-eqb _ _ f.contracted))
          (eq-eqb _ _ f.bought))
          (eq-eqb _ _ f.sold))
          (same_tells _ _ f.money)

  pub lines_exact : (lines_good s price l ≡ true) ↔ ((a : ℕ) → a < agents s → LineFollows s price l a)
  unfolding lines_good
  lines_exact = (
    λ e a h. (line_exact a).0 (every_holds (agents s) (line_good s price l) e a h),
    λ f. every_from (agents s) (line_good s price l) (λ a h. (line_exact a).1 (f a h)),
  )

  -- NOTHING IS REFUSED EXACTLY IF THE FIVE POINTS HOLD
  pub points_exact : Sound s → (points_verdict s price l ≡ Ok tt) ↔ Holds s price l
  unfolding points_verdict
  points_exact ok = (told, tells)
    where
      five : List Verdict
      five =
          refused_unless (shares_good s l) bad_shares 0
          ∷ refused_unless (schedule_good s l) bad_schedule 0
          ∷ refused_unless (price_good s price l) bad_price 0
          ∷ refused_unless (amounts_good s l) bad_amounts 0
          ∷ refused_unless (lines_good s price l) bad_lines 0
          ∷ []

      told : points_verdict s price l ≡ Ok tt → Holds s price l
      told e =
          let all = fine_parts five e in
          record {
            shares = (shares_exact s l).0 (fine_test _ bad_shares 0 all.0);
            schedule = (schedule_exact s l).0 (fine_test _ bad_schedule 0 all.1.0);
            price = (price_exact s l price).0 (fine_test _ bad_price 0 all.1.1.0);
            amounts = (amounts_exact s l ok).0 (fine_test _ bad_amounts 0 all.1.1.1.0);
            lines = lines_exact.0 (fine_test _ bad_lines 0 all.1.1.1.1.0);
          }

      tells : Holds s price l → points_verdict s price l ≡ Ok tt
      tells h =
          rw (
            (shares_exact s l).1 h.shares,
            (schedule_exact s l).1 h.schedule,
            (price_exact s l price).1 h.price,
            (amounts_exact s l ok).1 h.amounts,
            lines_exact.1 h.lines,
          )
