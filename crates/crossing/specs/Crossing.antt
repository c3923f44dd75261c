-- Rows by rising key, and how far a demand reaches among them. Row j of n has the key `key j` and holds `v j`; rows of one key
-- are a group, and stand in it by their number. Sharing, dispatch and contracts are each of this form. Assumes nothing.
use Rattle.std.specs.Prelude.{ℕ, ◌+◌, ◌-◌, ◌/◌, ◌≤◌, ◌<◌, min, Bool, cond, ◌&&◌, ◌||◌, ◌≡◌, ltb, eqb}
use Rattle.sums.specs.Sums.{sum, pick}

-- what the keys below x hold
unfoldable pub held_below : (key v : ℕ → ℕ) → (n x : ℕ) → ℕ
held_below key v n x = sum n (λ j. pick (ltb (key j) x) (v j))

-- a row of key y and number j stands before one of key x and number i
unfoldable pub comes_before : (y x j i : ℕ) → Bool
comes_before y x j i = ltb y x || (eqb y x && ltb j i)

-- what stands before row i
unfoldable pub standing : (key v : ℕ → ℕ) → (n i : ℕ) → ℕ
standing key v n i = sum n (λ j. pick (comes_before (key j) (key i) j i) (v j))

-- above the key x nothing is wanted of the demand d
abbrev pub Above : (key v : ℕ → ℕ) → (n d x : ℕ) → Type 0
Above key v n d x = (i : ℕ) → i < n → x < key i → d ≤ held_below key v n (key i)

-- the demand d crosses the rows at the key x: what is below x is wanted whole, and of what is above it nothing
pub record Crossing (key v : ℕ → ℕ) (n d x : ℕ) : Type 0 where
  pub wanted : held_below key v n x ≤ d
  pub enough : Above key v n d x

-- on the way to it: the crossing lies from `low` to `high`, and `left` of the demand reaches `low`
pub record Bracket (key v : ℕ → ℕ) (n d low high left : ℕ) : Type 0 where
  pub reached : held_below key v n low + left ≡ d
  pub enough : Above key v n d high

-- what a row of key y that holds v gives, with `left` of the demand for it and those behind it in the group of the key x: all below
-- x, what is left at x, nothing above it
unfoldable pub taken : (y x v left : ℕ) → ℕ
taken y x v left = pick (ltb y x) v + pick (eqb y x) (min v left)

-- the class of the key k among 63 classes of w keys each, from `low` on; 63 stands for what is outside them
unfoldable pub class_of : (low w k : ℕ) → ℕ
class_of low w k = cond (ltb k low) 63 (min 63 ((k - low) / w))
