-- Document 01, 'Ideal dispatch and price' (Annex A-4), with plants that must run, and duty 3, with no order of work in it.
-- Plant i of n has the offer price `p i`, the must-run `m i`, the availability `a i`, and is inflexible where `t i` is not 0.
-- Assumes nothing.
use Rattle.std.specs.Prelude.{ℕ, ◌+◌, ◌-◌, ◌*◌, ◌≤◌, ◌<◌, min, Bool, ◌&&◌, ◌||◌, ◌≡◌, ltb, eqb}
use Rattle.sums.specs.Sums.{sum, peak, pick}

-- a plant of price y in row j stands before one of price x in row i: by rising offer price, lower row first at equal price
unfoldable pub before : (y x j i : ℕ) → Bool
before y x j i = ltb y x || (eqb y x && ltb j i)

-- the availability ahead of plant i
unfoldable pub ahead : (p a : ℕ → ℕ) → (n i : ℕ) → ℕ
ahead p a n i = sum n (λ j. pick (before (p j) (p i) j i) (a j))

-- the fill: what plant i is given of the demand d by the price order, up to its availability, until the demand is met
unfoldable pub schedule : (p a : ℕ → ℕ) → (n d i : ℕ) → ℕ
schedule p a n d i = min (a i) (d - ahead p a n i)

-- what plant i is scheduled to deliver: its must-run first; the rest of the demand then follows the price order, up to each
-- availability
unfoldable pub ideal_dispatch : (p m a : ℕ → ℕ) → (n d i : ℕ) → ℕ
ideal_dispatch p m a n d i = m i + schedule p (λ j. a j - m j) n (d - sum n m) i

-- the bolsa price: the highest offer of a flexible plant scheduled above 0 kWh; with none, 0
unfoldable pub hour_price : (p t q : ℕ → ℕ) → ℕ → ℕ
hour_price p t q n = peak n (λ i. pick (eqb (t i) 0) (pick (ltb 0 (q i)) (p i)))

-- ---- duty 3

-- q is a possible schedule for the demand d: each plant from its least amount to its availability, summing to the demand
pub record Possible (least a : ℕ → ℕ) (n d : ℕ) (q : ℕ → ℕ) : Type 0 where
  pub enough : (i : ℕ) → i < n → least i ≤ q i
  pub within : (i : ℕ) → i < n → q i ≤ a i
  pub meets : sum n q ≡ d

-- the fill by itself asks no least amount of a plant
abbrev pub none : ℕ → ℕ
none i = 0

-- what a schedule costs at the offer prices
unfoldable pub cost : (p : ℕ → ℕ) → ℕ → (ℕ → ℕ) → ℕ
cost p n q = sum n (λ i. p i * q i)

-- no plant above its least amount is dearer than one with energy left
pub record ByMerit (p least a : ℕ → ℕ) (n : ℕ) (q : ℕ → ℕ) : Type 0 where
  pub order : (i j : ℕ) → i < n → j < n → least i < q i → q j < a j → p i ≤ p j
