-- Laws of what is held below a key, and of where a demand crosses, over any number of rows. Assumes nothing.
use Prim.Native.Nat.{ℕ, zero, suc, ◌+◌, ◌-◌, ◌*◌, ◌/◌, ◌≤◌, ◌<◌, min, zero-le}
use native.Mathlib.Omega.{arith}
use native.Mathlib.Nat.{div-add-mod, mod-lt, mul-le-mul_left}
use native.Mathlib.Decide.{dec_lt}
use mathlib.Core.Logic.{◌↔◌}
use mathlib.Core.Bool.{Bool, true, false, ◌&&◌, ◌||◌}
use mathlib.Core.Path.{◌≡◌, refl, ap, ◌∙◌}
use lib.Dec.{ltb, eqb}
use borrow.Author.Tests.{ltb-true, eqb-true, lt-ltb, le-ltb}
use Rattle.sums.specs.Sums.{sum, pick, keyed}
use Rattle.sums.proofs.Sums.{sum_le, sum_eq, sum_add, sum_zero, sum_front, sum_term}
use Rattle.sums.proofs.Picks.{pick_le, pick_lt, pick_ge, pick_eq, pick_ne, pick_suc, sum_cut}
use Rattle.crossing.specs.Crossing.{held_below, comes_before, standing, Above, Crossing, Bracket, taken, class_of}

-- of two tests that exclude each other
pick_or : (s t u : Bool) (v : ℕ) → (s ≡ true → t ≡ true → ⊥) → pick (s || (t && u)) v ≡ pick s v + pick u (pick t v)
unfolding pick
pick_or true true u v h = absurd (h refl refl)
pick_or true false true v h = omega arith
pick_or true false false v h = omega arith
pick_or false true true v h = omega arith
pick_or false true false v h = omega arith
pick_or false false true v h = omega arith
pick_or false false false v h = omega arith

pick_comes_before : (y x j i v : ℕ) → pick (comes_before y x j i) v ≡ pick (ltb y x) v + pick (ltb j i) (pick (eqb y x) v)
unfolding comes_before
pick_comes_before y x j i v =
    pick_or (ltb y x) (eqb y x) (ltb j i) v (λ l e. omega (arith, ltb-true y x l, eqb-true y x e))

-- ---- what a row gives at, below and above the crossing
pub taken_below_lem : (y x w left : ℕ) → y < x → taken y x w left ≡ w
unfolding taken
taken_below_lem y x w left h = omega (arith, pick_lt y x w h, pick_ne y x (min w left) (λ q. omega arith))

pub taken_level : (y x w left : ℕ) → y ≡ x → taken y x w left ≡ min w left
unfolding taken
taken_level y x w left h = omega (arith, pick_ge y x w (omega arith), pick_eq y x (min w left) h)

pub taken_above : (y x w left : ℕ) → x < y → taken y x w left ≡ 0
unfolding taken
taken_above y x w left h = omega (arith, pick_ge y x w (omega arith), pick_ne y x (min w left) (λ q. omega arith))

pub ruleset takes = (taken_below_lem, taken_level, taken_above)

module _ (key v : ℕ → ℕ) (n : ℕ) where
  pub below_zero : held_below key v n 0 ≡ 0
  unfolding held_below
  below_zero = sum_zero n (λ j. pick (ltb (key j) 0) (v j)) (λ i l. pick_ge (key i) 0 (v i) zero-le)

  -- below the next key stands what is below this one, and its group
  pub below_suc : (x : ℕ) → held_below key v n (suc x) ≡ held_below key v n x + keyed key v n x
  unfolding held_below keyed
  below_suc x =
      sum_eq n (λ j. pick (ltb (key j) (suc x)) (v j)) (λ j. pick (ltb (key j) x) (v j) + pick (eqb (key j) x) (v j))
      (λ i l. pick_suc (key i) x (v i))
      ∙ sum_add n (λ j. pick (ltb (key j) x) (v j)) (λ j. pick (eqb (key j) x) (v j))

  -- with no key from x up to y, what is held_below of y is held_below of x
  pub below_gap : (x y : ℕ) → ((i : ℕ) → i < n → key i < y → key i < x) → held_below key v n y ≤ held_below key v n x
  unfolding held_below
  below_gap x y h =
      sum_le n (λ j. pick (ltb (key j) y) (v j)) (λ j. pick (ltb (key j) x) (v j)) (λ i l. go i l (dec_lt (key i) y))
    where
      go : (i : ℕ) → i < n → Dec (key i < y) → pick (ltb (key i) y) (v i) ≤ pick (ltb (key i) x) (v i)
      go i l (yes m) = omega (arith, pick_lt (key i) y (v i) m, pick_lt (key i) x (v i) (h i l m))
      go i l (no m) = omega (arith, pick_ge (key i) y (v i) (omega arith))

  pub below_mono : (x y : ℕ) → x ≤ y → held_below key v n x ≤ held_below key v n y
  below_mono x y h = below_gap y x (λ i l m. omega arith)

  pub below_all : (x : ℕ) → held_below key v n x ≤ sum n v
  unfolding held_below
  below_all x = sum_le n (λ j. pick (ltb (key j) x) (v j)) v (λ i l. pick_le (ltb (key i) x) (v i))

  -- a row below x, with all that is below its key, is below x
  pub below_front : (i x : ℕ)
      → i < n
      → key i < x
      → held_below key v n (key i) + keyed key v n (key i) ≤ held_below key v n x
  below_front i x l h = omega (arith, below_suc (key i), below_mono (suc (key i)) x h)

  -- WHAT STANDS BEFORE ROW i: all smaller keys, and in its own group the rows comes_before it
  pub standing_is : (i : ℕ) → i ≤ n → standing key v n i ≡ held_below key v n (key i) + keyed key v i (key i)
  unfolding standing held_below keyed
  standing_is i h =
      omega (
        arith,
        sum_eq n (λ j. pick (comes_before (key j) (key i) j i) (v j))
            (λ j. pick (ltb (key j) (key i)) (v j) + pick (ltb j i) (pick (eqb (key j) (key i)) (v j)))
            (λ j l. pick_comes_before (key j) (key i) j i (v j)),
        sum_add n (λ j. pick (ltb (key j) (key i)) (v j)) (λ j. pick (ltb j i) (pick (eqb (key j) (key i)) (v j))),
        sum_cut n i (λ j. pick (eqb (key j) (key i)) (v j)) h,
      )

  -- a row and those comes_before it in its group are part of the group
  pub group_front : (i : ℕ) → i < n → keyed key v i (key i) + v i ≤ keyed key v n (key i)
  unfolding keyed
  group_front i l =
      omega (arith, sum_front n i (λ k. pick (eqb (key k) (key i)) (v k)) l, pick_eq (key i) (key i) (v i) refl)

  -- ---- the crossing
  module _ (d : ℕ) where
    -- there is one, up to any key from which nothing is wanted
    pub crossing_from : (b : ℕ) → Above key v n d b → (x : ℕ) × Crossing key v n d x
    crossing_from zero h = (0, record { wanted = omega (arith, below_zero); enough = h })
    crossing_from (suc b) h = go (dec_lt d (held_below key v n (suc b))) (crossing_from b)
      where
        go : Dec (d < held_below key v n (suc b))
            → (Above key v n d b → (x : ℕ) × Crossing key v n d x)
            → (x : ℕ) × Crossing key v n d x
        go (yes l) r = r (λ i m k. omega (arith, below_mono (suc b) (key i) k))
        go (no l) r = (suc b, record { wanted = omega arith; enough = h })

    pub crossing_exists : (x : ℕ) × Crossing key v n d x
    crossing_exists = crossing_from (sum n key) (λ i l m. absurd (omega (arith, sum_term n i key l)))

    module _ (x : ℕ) (r : Crossing key v n d x) where
      -- what is served is up to the crossing ..
      pub served_le : (i : ℕ) → i < n → held_below key v n (key i) < d → key i ≤ x
      served_le i l h = go (dec_lt x (key i))
        where
          go : Dec (x < key i) → key i ≤ x
          go (yes m) = absurd (omega (arith, r.enough i l m))
          go (no m) = omega arith

      -- .. and what is up to it is served, where the demand reaches the crossing
      pub served_exactly : held_below key v n x < d → (i : ℕ) → i < n → (held_below key v n (key i) < d) ↔ (key i ≤ x)
      served_exactly s i l = (served_le i l, λ h. omega (arith, below_mono (key i) x h))

    -- ROW i GETS ITS PART: what is left of the demand when its turn comes, up to what it holds
    pub taken_is : (x : ℕ)
        → Crossing key v n d x
        → (i left : ℕ)
        → i < n
        → left ≡ d - held_below key v n x - keyed key v i x
        → taken (key i) x (v i) left ≡ min (v i) (d - standing key v n i)
    taken_is x r i left l e = go (dec_lt (key i) x) (dec_lt x (key i)) (standing_is i (omega arith)) (group_front i l)
      where
        go : Dec (key i < x)
            → Dec (x < key i)
            → standing key v n i ≡ held_below key v n (key i) + keyed key v i (key i)
            → keyed key v i (key i) + v i ≤ keyed key v n (key i)
            → taken (key i) x (v i) left ≡ min (v i) (d - standing key v n i)
        go (yes h) k s f = omega (arith, taken_below_lem (key i) x (v i) left h, below_front i x l h, r.wanted)
        go (no h) (yes k) s f = omega (arith, taken_above (key i) x (v i) left k, r.enough i l k)
        go (no h) (no k) s f =
            let q : key i ≡ x = omega arith in
            omega (arith, taken_level (key i) x (v i) left q, ap (λ (z : ℕ). held_below key v n z + keyed key v i z) q)

    -- A ROW IS REACHED, where the demand reaches the crossing: below it, or at it with some left when its turn comes
    pub reached_below : (x : ℕ)
        → Crossing key v n d x
        → held_below key v n x < d
        → (i : ℕ)
        → i < n
        → key i < x
        → standing key v n i < d
    reached_below x r s i l h = omega (arith, standing_is i (omega arith), group_front i l, below_front i x l h)

    pub reached_above : (x : ℕ) → Crossing key v n d x → (i : ℕ) → i < n → x < key i → d ≤ standing key v n i
    reached_above x r i l h = omega (arith, standing_is i (omega arith), r.enough i l h)

    pub reached_level : (x i : ℕ) → i < n → key i ≡ x → standing key v n i ≡ held_below key v n x + keyed key v i x
    reached_level x i l h = standing_is i (omega arith) ∙ ap (λ (z : ℕ). held_below key v n z + keyed key v i z) h

    -- ---- the bracket
    pub bracket_crossing : (low high left : ℕ) → high ≤ low → Bracket key v n d low high left → Crossing key v n d low
    bracket_crossing low high left h b =
        record { wanted = omega (arith, b.reached); enough = λ i l m. b.enough i l (omega arith) }

    -- what is held_below of y reaches the demand: nothing is wanted from y on
    pub above_from : (x y : ℕ) → y ≤ x + 1 → d ≤ held_below key v n y → Above key v n d x
    above_from x y h r i l m = omega (arith, below_mono y (key i) (omega arith))

    -- the low end moves up to y, and c rows' worth is passed
    pub bracket_up : (low high left c y : ℕ)
        → c ≤ left
        → held_below key v n y ≡ held_below key v n low + c
        → Bracket key v n d low high left
        → Bracket key v n d y high (left - c)
    bracket_up low high left c y h e b = record { reached = omega (arith, b.reached); enough = b.enough }

    -- the high end moves down
    pub bracket_down : (low high left x : ℕ)
        → Above key v n d x
        → Bracket key v n d low high left
        → Bracket key v n d low x left
    bracket_down low high left x h b = record { reached = b.reached; enough = h }

-- ---- classes of keys

pub class_outside : (low w k : ℕ) → k < low → class_of low w k ≡ 63
unfolding class_of
class_outside low w k h = rw (lt-ltb k low h)

pub class_inside : (low w k : ℕ) → low ≤ k → class_of low w k ≡ min 63 ((k - low) / w)
unfolding class_of
class_inside low w k h = rw (le-ltb k low h)

pub class_below : (low w k c : ℕ) → 0 < w → c ≤ 63 → low ≤ k → k < low + w * c → class_of low w k < c
class_below low w k c pos h l m = go (dec_lt ((k - low) / w) c)
  where
    go : Dec ((k - low) / w < c) → class_of low w k < c
    go (yes q) = omega (arith, class_inside low w k l)
    go (no q) = let e : w * c ≤ w * ((k - low) / w) = mul-le-mul_left w (omega arith) in
        absurd (omega (arith, div-add-mod (k - low) w))

pub class_above : (low w k c : ℕ) → 0 < w → c ≤ 63 → low + w * c ≤ k → c ≤ class_of low w k
class_above low w k c pos h l = go (dec_lt ((k - low) / w) c)
  where
    go : Dec ((k - low) / w < c) → c ≤ class_of low w k
    go (no q) = omega (arith, class_inside low w k (omega arith))
    go (yes q) = let e : w * ((k - low) / w + 1) ≤ w * c = mul-le-mul_left w (omega arith) in
        absurd (omega (arith, div-add-mod (k - low) w, mod-lt (k - low) pos))

pick_class : (low w k c u : ℕ)
    → 0 < w
    → c ≤ 63
    → pick (ltb k (low + w * c)) u ≡ pick (ltb k low) u + pick (ltb (class_of low w k) c) u
pick_class low w k c u pos h = go (dec_lt k low) (dec_lt k (low + w * c))
  where
    go : Dec (k < low)
        → Dec (k < low + w * c)
        → pick (ltb k (low + w * c)) u ≡ pick (ltb k low) u + pick (ltb (class_of low w k) c) u
    go (yes l) m = omega (
      arith,
      pick_lt k (low + w * c) u (omega arith),
      pick_lt k low u l,
      pick_ge (class_of low w k) c u (omega (arith, class_outside low w k l)),
    )
    go (no l) (yes m) = omega (
      arith,
      pick_lt k (low + w * c) u m,
      pick_ge k low u (omega arith),
      pick_lt (class_of low w k) c u (class_below low w k c pos h (omega arith) m),
    )
    go (no l) (no m) = omega (
      arith,
      pick_ge k (low + w * c) u (omega arith),
      pick_ge k low u (omega arith),
      pick_ge (class_of low w k) c u (class_above low w k c pos h (omega arith)),
    )

-- what is held below a key, key by key
module _ (key v : ℕ → ℕ) (n : ℕ) where
  pub below_keyed : (x : ℕ) → held_below key v n x ≡ sum x (λ k. keyed key v n k)
  unfolding sum
  below_keyed zero = below_zero key v n
  below_keyed (suc x) = omega (arith, below_suc key v n x, below_keyed x)

module _ (key v : ℕ → ℕ) (n : ℕ) where
  class_split : (low w c : ℕ)
      → 0 < w
      → c ≤ 63
      → held_below key v n (low + w * c) ≡ held_below key v n low + held_below (λ j. class_of low w (key j)) v n c
  unfolding held_below
  class_split low w c pos h =
      sum_eq n (λ j. pick (ltb (key j) (low + w * c)) (v j))
      (λ j. pick (ltb (key j) low) (v j) + pick (ltb (class_of low w (key j)) c) (v j))
      (λ j l. pick_class low w (key j) c (v j) pos h)
      ∙ sum_add n (λ j. pick (ltb (key j) low) (v j)) (λ j. pick (ltb (class_of low w (key j)) c) (v j))

  -- WHAT THE FIRST c CLASSES HOLD LIES BETWEEN TWO KEYS
  pub below_classes : (low w c : ℕ)
      → 0 < w
      → c ≤ 63
      → held_below key v n (low + w * c) ≡ held_below key v n low + sum c (λ k. keyed (λ j. class_of low w (key j)) v n k)
  below_classes low w c pos h = omega (arith, class_split low w c pos h, below_keyed (λ j. class_of low w (key j)) v n c)
