-- The same decision in a few passes: kinds 1 and 2 are judged at two prices, and kind 3 at one. Assumes nothing.
use Rattle.std.specs.Prelude.{ℕ, ◌+◌, ◌-◌, min, Bool, true, cond, ◌&&◌, ◌||◌, ltb, leb, eqb}
use Rattle.sums.specs.Sums.{sum, peak, pick}
use Rattle.sums.specs.Lists.{total}
use Rattle.deals.specs.Deals.{Deals, count, kind, price, quantity, fixed, conditional, demanded, cheaper_of, group_of}
use Rattle.statement.specs.Follows.{left_by}
use Rattle.statement.specs.Decide.{every, below, fixed_at, taken_at, largest_at, is_near}

-- ---- first pass

-- one above the highest price at which a row of kind k is given something; 0 where none is
unfoldable pub reach_of : Deals → (x : ℕ → ℕ) → (k : ℕ) → ℕ
reach_of s x k = peak (count s) (λ j. pick (eqb (kind s j) k && ltb 0 (x j)) (price s j + 1))

-- how far below m the lowest price stands at which kind 2 has a quantity and is given nothing; 0 where there is none
unfoldable pub depth_of : (m : ℕ) → Deals → (x : ℕ → ℕ) → ℕ
depth_of m s x = peak (count s) (λ j. pick (eqb (kind s j) conditional && (eqb (x j) 0 && ltb 0 (quantity s j))) (m - price s j))

-- kind 1 in full, kind 2 in full or 0
unfoldable pub shape_good : (kind quantity x : ℕ) → Bool
shape_good k q x = cond (eqb k fixed) (eqb x q) (cond (eqb k conditional) (eqb x 0 || eqb x q) true)

-- what kind 3 is given, and what it has
unfoldable pub given_all : Deals → (x : ℕ → ℕ) → ℕ
given_all s x = sum (count s) (λ j. pick (eqb (kind s j) demanded) (x j))

-- ---- second pass: p is the price below a reach, or above a depth

unfoldable pub last_good : Deals → ℕ → (x : ℕ → ℕ) → (reach : ℕ) → Bool
last_good s d x h = eqb h 0 || ltb (below s (h - 1) + taken_at s x (h - 1) - largest_at s x (h - 1)) d

unfoldable pub first_good : (m : ℕ) → Deals → ℕ → (x : ℕ → ℕ) → (depth : ℕ) → Bool
first_good m s d x e = eqb e 0 || leb d (below s (m - e) + taken_at s x (m - e) + fixed_at s (m - e))

-- ---- third pass: a row of kind 3, where `cheaper` and `whole` are of the highest price at which kind 3 is given something
unfoldable pub group_good : (left reach cheaper whole : ℕ) → (kind price quantity x : ℕ) → Bool
group_good left g c t k p q x =
    cond (eqb k demanded)
    (cond (ltb (p + 1) g) (eqb x q)
    (cond (eqb (p + 1) g) (cond (leb (c + t) left) (eqb x q) (is_near (left - c) q t x))
    true))
    true

unfoldable pub groups_good : Deals → (left : ℕ) → (x : ℕ → ℕ) → Bool
groups_good s left x =
    let g = reach_of s x demanded in
    every (count s) (λ i. group_good left g (cheaper_of s (g - 1)) (total (group_of s (g - 1))) (kind s i) (price s i) (quantity s i) (x i))
    && eqb (given_all s x) (min left (given_all s (quantity s)))

unfoldable pub quick : (m : ℕ) → Deals → ℕ → (x : ℕ → ℕ) → Bool
quick m s d x =
    every (count s) (λ i. shape_good (kind s i) (quantity s i) (x i))
    && (last_good s d x (reach_of s x conditional) && (first_good m s d x (depth_of m s x) && groups_good s (left_by s d x) x))
