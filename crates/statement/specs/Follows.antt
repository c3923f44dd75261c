-- Document 02, P6: the contract amounts that an administrator states for one retailer follow document 01, 'Contracts', for some order
-- of equal prices. Row i of the retailer's own rows has the stated amount `x i`, its demand is d. Assumes nothing.
use Rattle.std.specs.Prelude.{ℕ, ◌+◌, ◌-◌, ◌*◌, ◌≤◌, ◌<◌, ◌&&◌, ◌≡◌, ltb, eqb}
use Rattle.sums.specs.Sums.{sum, pick}
use Rattle.sums.specs.Lists.{total}
use Rattle.deals.specs.Deals.{Deals, count, kind, price, quantity, fixed, conditional, demanded, cheaper_of, group_of}

-- the rows stand in an order by rising price: row i has the place `place i`, no two rows have one place, and a cheaper row stands
-- before a dearer one. Rows of equal price stand as they like, whatever their kinds
pub record Rising (s : Deals) (place : ℕ → ℕ) : Type 0 where
  pub apart : (i j : ℕ) → i < count s → j < count s → place i ≡ place j → i ≡ j
  pub rising : (i j : ℕ) → i < count s → j < count s → price s i < price s j → place i < place j

-- the quantities of kinds 1 and 2 ahead of row i in that order
unfoldable pub ahead_by : Deals → (place : ℕ → ℕ) → ℕ → ℕ
ahead_by s place i = sum (count s) (λ j. pick (ltb (kind s j) demanded && ltb (place j) (place i)) (quantity s j))

-- what the amounts of kinds 1 and 2 leave of the demand (not below 0)
unfoldable pub left_by : Deals → ℕ → (x : ℕ → ℕ) → ℕ
left_by s d x = d - sum (count s) (λ j. pick (ltb (kind s j) demanded) (x j))

-- what the group of kind 3 at the price p is given
unfoldable pub given_at : Deals → (x : ℕ → ℕ) → ℕ → ℕ
given_at s x p = sum (count s) (λ j. pick (eqb (kind s j) demanded && eqb (price s j) p) (x j))

-- a share is less than 1 kWh from the exact proportion, amount × weight ÷ total: both sides times the total
pub record Near (amount weight whole share : ℕ) : Type 0 where
  pub over : share * whole < amount * weight + whole
  pub under : amount * weight < share * whole + whole

-- a group shares: it is given all that cheaper ones leave of the remainder, and row i of it nearly its proportion
pub record Shares (s : Deals) (left : ℕ) (x : ℕ → ℕ) (i : ℕ) : Type 0 where
  pub near : Near (left - cheaper_of s (price s i)) (quantity s i) (total (group_of s (price s i))) (x i)
  pub whole : given_at s x (price s i) ≡ left - cheaper_of s (price s i)

pub record Follows (s : Deals) (d : ℕ) (x : ℕ → ℕ) : Type 0 where
  pub place : ℕ → ℕ
  pub order : Rising s place
  -- kind 1 in full; kind 2 in full if the quantities ahead of it sum to less than the demand, else 0
  pub one : (i : ℕ) → i < count s → kind s i ≡ fixed → x i ≡ quantity s i
  pub two : (i : ℕ) → i < count s → kind s i ≡ conditional → x i ≡ pick (ltb (ahead_by s place i) d) (quantity s i)
  -- kind 3 on what remains: a group that fits in full; the first that does not shares; dearer ones get 0
  pub fits : (i : ℕ) → i < count s → kind s i ≡ demanded
      → cheaper_of s (price s i) + total (group_of s (price s i)) ≤ left_by s d x → x i ≡ quantity s i
  pub shares : (i : ℕ) → i < count s → kind s i ≡ demanded
      → left_by s d x < cheaper_of s (price s i) + total (group_of s (price s i)) → cheaper_of s (price s i) ≤ left_by s d x
      → Shares s (left_by s d x) x i
  pub dearer : (i : ℕ) → i < count s → kind s i ≡ demanded → left_by s d x < cheaper_of s (price s i) → x i ≡ 0
