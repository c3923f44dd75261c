-- How the rule is carried out without an order of the remainders. No public contract cites this page. Assumes nothing.
use Rattle.std.specs.Prelude.{◌≡◌, ℕ, ◌+◌, ◌-◌, ◌*◌, ◌≤◌, ◌<◌, List, length, eqb}
use Rattle.sums.specs.Sums.{sum, pick, keyed}
use Rattle.sums.specs.Lists.{at, total, Filled}
use Rattle.crossing.specs.Crossing.{Bracket, class_of}
use Rattle.share.specs.Share.{floor_of, remainder_of, left_over, most_weights}

-- the largest total: 256 weights of 32 bits
abbrev pub most_total : ℕ
most_total = most_weights * 4294967295

-- the weights can be shared over: there are few enough, and t is their total, above 0
pub record Sharing (weights : List ℕ) (t : ℕ) : Type 0 where
  pub few : length weights ≤ most_weights
  pub is : t ≡ total weights
  pub above : 0 < t
  pub small : t ≤ most_total

-- a whole one of what a rate counts in, 2^32nds
abbrev pub whole_rate : ℕ
whole_rate = 4294967296

-- a rate of an amount over a total t: not above it, nor above a whole one
pub record Rate (amount t rate : ℕ) : Type 0 where
  pub most : rate ≤ whole_rate
  pub below : rate * t ≤ amount * whole_rate

-- what rounding down gives: the floors in the list, and the kWh left over
pub record Floored (amount : ℕ) (weights before : List ℕ) (r : ℕ) (after : List ℕ) : Type 0 where
  pub left : r ≡ left_over amount weights
  pub result : Filled 0 before after (length weights) (floor_of amount weights)

-- the floors stand in the list
pub record FloorsHeld (amount : ℕ) (weights : List ℕ) (t : ℕ) (out : List ℕ) : Type 0 where
  pub sharing : Sharing weights t
  pub room : length weights ≤ length out
  pub floors : (i : ℕ) → i < length weights → at out i ≡ floor_of amount weights i

-- what weight i lacks to its next kWh: whoever goes before lacks less, or as much and is the lower number
abbrev pub lack_of : (amount : ℕ) (weights : List ℕ) → ℕ → ℕ
lack_of a ws i = total ws - remainder_of a ws i

-- each row holds one kWh
abbrev pub one : ℕ → ℕ
one _ = 1

-- of the lacks from `low` on the least one x and how many have it, c, with one lack k more
pub record Lesser (low k x c y e : ℕ) : Type 0 where
  pub out : k < low → (y ≡ x) × (e ≡ c)
  pub past : x < k → (y ≡ x) × (e ≡ c)
  pub new : low ≤ k → k < x → (y ≡ k) × (e ≡ 1)
  pub same : low ≤ k → k ≡ x → (y ≡ x) × (e ≡ c + 1)

-- the first n keys from `low` on begin at x, which c of them have; or none is up to x, and c is 0
pub record NextLack (key : ℕ → ℕ) (n low high x c : ℕ) : Type 0 where
  pub from : low ≤ x
  pub within : x ≤ high
  pub gap : (i : ℕ) → i < n → key i < x → key i < low
  pub group : c ≡ keyed key one n x

-- a span that is narrowed stays one of the crossing, for any demand, and is smaller
pub record Narrowed (key : ℕ → ℕ) (n low high left low' high' left' : ℕ) : Type 0 where
  pub still : (d : ℕ) → Bracket key one n d low high left → Bracket key one n d low' high' left'
  pub falls : high' - low' < high - low
  pub small : high' ≤ high

-- one more in the class of k
pub record Noted (low w k : ℕ) (before after : List ℕ) : Type 0 where
  pub more : (c : ℕ) → c < 63 → at after c ≡ at before c + pick (eqb (class_of low w k) c) 1
  pub long : length after ≡ length before

-- no class has any yet
pub record Cleared (counts : List ℕ) : Type 0 where
  pub none : (c : ℕ) → c < 63 → at counts c ≡ 0
  pub long : length counts ≡ 64

-- how many of the first n keys are of each class
pub record Classed (key : ℕ → ℕ) (n low w : ℕ) (counts : List ℕ) : Type 0 where
  pub held : (c : ℕ) → c < 63 → at counts c ≡ keyed (λ j. class_of low w (key j)) one n c
  pub long : length counts ≡ 64

-- the class at which `left` ends, and what reaches it
pub record Levelled (counts : List ℕ) (left class rest : ℕ) : Type 0 where
  pub most : class ≤ 63
  pub passed : sum class (at counts) + rest ≡ left
  pub ends : class < 63 → rest ≤ at counts class

-- the counts of the classes choose a narrower span, of whatever keys they are
pub record Chosen (counts : List ℕ) (w low high left low' high' left' : ℕ) : Type 0 where
  pub of : (key : ℕ → ℕ) (n : ℕ) → Classed key n low w counts → Narrowed key n low high left low' high' left'

-- a first span of the crossing of the kWh left over
pub record FirstSpan (amount : ℕ) (weights : List ℕ) (low high left : ℕ) : Type 0 where
  pub small : high ≤ most_total
  pub span : Bracket (lack_of amount weights) one (length weights) (left_over amount weights) low high left

-- a span is narrowed till it is closed
pub record Closed (key : ℕ → ℕ) (n low high left low' high' left' : ℕ) : Type 0 where
  pub closed : high' ≤ low'
  pub still : (d : ℕ) → Bracket key one n d low high left → Bracket key one n d low' high' left'
