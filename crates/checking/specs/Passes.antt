-- What each pass over a retailer's rows has found after its first n rows. Assumes nothing.
use Rattle.std.specs.Prelude.{ℕ, ◌+◌, ◌-◌, ◌*◌, max, ◌&&◌, ◌≡◌, ltb, eqb}
use Rattle.sums.specs.Sums.{sum, peak, pick}
use Rattle.deals.specs.Deals.{Deals, kind, price, quantity, fixed, conditional, demanded}
use Rattle.statement.specs.Decide.{every}
use Rattle.statement.specs.Quick.{shape_good}
use Rattle.checking.specs.declared.passes.Seen.{Seen}
use Rattle.checking.specs.declared.passes.Summed.{Summed}

-- above every price of 32 bits
abbrev pub above : ℕ
above = 4294967296

-- the largest sum of n numbers of 32 bits
abbrev pub room : ℕ → ℕ
room n = 4294967295 * n

-- ---- first pass: one row more of kind k, price p, quantity q and amount x
pub record Looked (v : Seen) (k p q x : ℕ) (r : Seen) : Type 0 where
  pub good : r.good ≡ (v.good && shape_good k q x)
  pub reach : r.reach ≡ max v.reach (pick (eqb k conditional && ltb 0 x) (p + 1))
  pub depth : r.depth ≡ max v.depth (pick (eqb k conditional && (eqb x 0 && ltb 0 q)) (above - p))
  pub top : r.top ≡ max v.top (pick (eqb k demanded && ltb 0 x) (p + 1))
  pub firm : r.firm ≡ v.firm + pick (ltb k demanded) x
  pub given : r.given ≡ v.given + pick (eqb k demanded) x
  pub asked : r.asked ≡ v.asked + pick (eqb k demanded) q

pub record SeenTo (s : Deals) (x : ℕ → ℕ) (n : ℕ) (v : Seen) : Type 0 where
  pub good : v.good ≡ every n (λ i. shape_good (kind s i) (quantity s i) (x i))
  pub reach : v.reach ≡ peak n (λ j. pick (eqb (kind s j) conditional && ltb 0 (x j)) (price s j + 1))
  pub depth : v.depth ≡ peak n
      (λ j. pick (eqb (kind s j) conditional && (eqb (x j) 0 && ltb 0 (quantity s j))) (above - price s j))
  pub top : v.top ≡ peak n (λ j. pick (eqb (kind s j) demanded && ltb 0 (x j)) (price s j + 1))
  pub firm : v.firm ≡ sum n (λ j. pick (ltb (kind s j) demanded) (x j))
  pub given : v.given ≡ sum n (λ j. pick (eqb (kind s j) demanded) (x j))
  pub asked : v.asked ≡ sum n (λ j. pick (eqb (kind s j) demanded) (quantity s j))

-- ---- second pass, at the prices u, w and g
pub record Added (u w g : ℕ) (v : Summed) (k p q x : ℕ) (r : Summed) : Type 0 where
  pub ahead : r.ahead ≡ v.ahead + (pick (ltb k demanded && ltb p u) q + pick (eqb k conditional && eqb p u) x)
  pub largest : r.largest ≡ max v.largest (pick (eqb k conditional && eqb p u) x)
  pub under : r.under ≡ v.under
      + (pick (ltb k demanded && ltb p w) q + pick (eqb k conditional && eqb p w) x + pick (eqb k fixed && eqb p w) q)
  pub cheaper : r.cheaper ≡ v.cheaper + pick (eqb k demanded && ltb p g) q
  pub whole : r.whole ≡ v.whole + pick (eqb k demanded && eqb p g) q

pub record SummedTo (s : Deals) (x : ℕ → ℕ) (u w g n : ℕ) (v : Summed) : Type 0 where
  pub ahead : v.ahead ≡ sum n
      (λ j. pick (ltb (kind s j) demanded && ltb (price s j) u) (quantity s j)
      + pick (eqb (kind s j) conditional && eqb (price s j) u) (x j))
  pub largest : v.largest ≡ peak n (λ j. pick (eqb (kind s j) conditional && eqb (price s j) u) (x j))
  pub under : v.under ≡ sum n
      (λ j. pick (ltb (kind s j) demanded && ltb (price s j) w) (quantity s j)
      + pick (eqb (kind s j) conditional && eqb (price s j) w) (x j)
      + pick (eqb (kind s j) fixed && eqb (price s j) w) (quantity s j))
  pub cheaper : v.cheaper ≡ sum n (λ j. pick (eqb (kind s j) demanded && ltb (price s j) g) (quantity s j))
  pub whole : v.whole ≡ sum n (λ j. pick (eqb (kind s j) demanded && eqb (price s j) g) (quantity s j))
