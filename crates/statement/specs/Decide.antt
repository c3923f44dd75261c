-- Whether stated amounts follow document 01, decided by sums, with no order in it. Assumes nothing.
use Rattle.std.specs.Prelude.{ℕ, zero, suc, ◌+◌, ◌-◌, ◌*◌, Bool, true, cond, ◌&&◌, ◌||◌, ltb, leb, eqb}
use Rattle.sums.specs.Sums.{sum, peak, pick}
use Rattle.sums.specs.Lists.{total}
use Rattle.deals.specs.Deals.{Deals, count, kind, price, quantity, fixed, conditional, demanded, cheaper_of, group_of}
use Rattle.statement.specs.Follows.{left_by, given_at}

-- every index below n passes the test
unfoldable pub every : ℕ → (ℕ → Bool) → Bool
every zero t = true
every (suc n) t = every n t && t n

-- ---- one price p of kinds 1 and 2

-- the quantities of kinds 1 and 2 at lower prices
unfoldable pub below : Deals → ℕ → ℕ
below s p = sum (count s) (λ j. pick (ltb (kind s j) demanded && ltb (price s j) p) (quantity s j))

-- the quantities of kind 1 at this price
unfoldable pub fixed_at : Deals → ℕ → ℕ
fixed_at s p = sum (count s) (λ j. pick (eqb (kind s j) fixed && eqb (price s j) p) (quantity s j))

-- what kind 2 is given at this price, and the largest of these amounts
unfoldable pub taken_at : Deals → (x : ℕ → ℕ) → ℕ → ℕ
taken_at s x p = sum (count s) (λ j. pick (eqb (kind s j) conditional && eqb (price s j) p) (x j))

unfoldable pub largest_at : Deals → (x : ℕ → ℕ) → ℕ → ℕ
largest_at s x p = peak (count s) (λ j. pick (eqb (kind s j) conditional && eqb (price s j) p) (x j))

-- of kind 2, a row given nothing has no quantity, or all that can stand ahead of it covers the demand; a row given something is given
-- its quantity, and the demand is not covered without the largest taken at its price: those taken stand first, the largest last
unfoldable pub conditional_good : Deals → ℕ → (x : ℕ → ℕ) → ℕ → Bool
conditional_good s d x i =
    cond (eqb (x i) 0)
    (eqb (quantity s i) 0 || leb d (below s (price s i) + taken_at s x (price s i) + fixed_at s (price s i)))
    (eqb (x i) (quantity s i) && ltb (below s (price s i) + taken_at s x (price s i) - largest_at s x (price s i)) d)

-- ---- kind 3

unfoldable pub is_near : (amount weight whole share : ℕ) → Bool
is_near a w t x = ltb (x * t) (a * w + t) && ltb (a * w) (x * t + t)

unfoldable pub demanded_good : Deals → (left : ℕ) → (x : ℕ → ℕ) → ℕ → Bool
demanded_good s left x i =
    cond (leb (cheaper_of s (price s i) + total (group_of s (price s i))) left) (eqb (x i) (quantity s i))
    (cond (leb (cheaper_of s (price s i)) left)
    (is_near (left - cheaper_of s (price s i)) (quantity s i) (total (group_of s (price s i))) (x i)
    && eqb (given_at s x (price s i)) (left - cheaper_of s (price s i)))
    (eqb (x i) 0))

-- ---- a row, and all of them

unfoldable pub row_good : Deals → ℕ → (x : ℕ → ℕ) → ℕ → Bool
row_good s d x i =
    cond (eqb (kind s i) fixed) (eqb (x i) (quantity s i))
    (cond (eqb (kind s i) conditional) (conditional_good s d x i)
    (cond (eqb (kind s i) demanded) (demanded_good s (left_by s d x) x i)
    true))

unfoldable pub good : Deals → ℕ → (x : ℕ → ℕ) → Bool
good s d x = every (count s) (row_good s d x)
