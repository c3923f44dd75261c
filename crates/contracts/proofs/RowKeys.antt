-- What a row's key says of it, read back: its row, its buyer, its group, and whether it is of kind 3 or 2. Of two rows of kinds 1 and 2
-- of one buyer the one with the lower key stands ahead. Assumes nothing.
use Prim.Native.Nat.{ℕ, ◌+◌, ◌*◌, ◌/◌, ◌%◌, ◌≤◌, ◌<◌}
use native.Mathlib.Omega.{arith}
use native.Mathlib.Decide.{dec_lt, ℕ_discrete}
use mathlib.Core.List.{List}
use mathlib.Core.Path.{◌≡◌}
use lib.Dec.{ltb, eqb}
use Rattle.sums.specs.Sums.{pick}
use Rattle.deals.specs.Deals.{fixed, conditional, demanded}
use Rattle.deals.specs.Hour.{Rows}
use Rattle.deals.proofs.Rest.{order_of}
use Rattle.contracts.specs.Keys.{deal_key, key_side, key_group, key_row}
use Rattle.contracts.specs.Keys.{row_span, price_span, row_count, Ready}
use Rattle.contracts.specs.Sides.{side_of}
use Rattle.contracts.proofs.Decode.{both_lt, both_ge, side_firm, bit_kind}
use Rattle.contracts.proofs.Decode.{key_row_lem, key_group_lem, key_side_lem, key_bit}
use Rattle.contracts.proofs.Columns.{buyer, kind_at, price_at, key}

-- of two rows of kinds 1 and 2 of one buyer, with the places p and r among its own: keys and rows stand alike
pub order_key : (b y l j p x k i r : ℕ)
    → fixed ≤ l
    → l < demanded
    → fixed ≤ k
    → k < demanded
    → j < row_span
    → i < row_span
    → p < row_span
    → r < row_span
    → (j < i → p < r)
    → (i ≤ j → r ≤ p)
    → ltb (deal_key b l y j) (deal_key b k x i) ≡ ltb (order_of y l p) (order_of x k r)
order_key b y l j p x k i r l1 l3 k1 k3 hj hi hp hr up down = by_price (dec_lt y x) (ℕ_discrete y x)
  where
    bits : (pick (eqb l conditional) 1 + 1 ≡ l) × (pick (eqb k conditional) 1 + 1 ≡ k) × (pick (eqb l demanded) 1 ≡ 0)
        × (pick (eqb k demanded) 1 ≡ 0)
    bits = (bit_kind l l1 l3, bit_kind k k1 k3, side_firm l l3, side_firm k k3)

    by_row : y ≡ x → l ≡ k → Dec (j < i) → ltb (deal_key b l y j) (deal_key b k x i) ≡ ltb (order_of y l p) (order_of x k r)
    by_row e f (yes h) = both_lt (deal_key b l y j) (deal_key b k x i) (order_of y l p) (order_of x k r)
        (omega (arith, bits)) (omega (arith, up h))
    by_row e f (no h) = both_ge (deal_key b l y j) (deal_key b k x i) (order_of y l p) (order_of x k r)
        (omega (arith, bits)) (omega (arith, down (omega arith)))

    by_kind : y ≡ x
        → Dec (l < k)
        → Dec (l ≡ k)
        → ltb (deal_key b l y j) (deal_key b k x i) ≡ ltb (order_of y l p) (order_of x k r)
    by_kind e (yes h) f = both_lt (deal_key b l y j) (deal_key b k x i) (order_of y l p) (order_of x k r)
        (omega (arith, bits)) (omega arith)
    by_kind e (no h) (yes f) = by_row e f (dec_lt j i)
    by_kind e (no h) (no f) = both_ge (deal_key b l y j) (deal_key b k x i) (order_of y l p) (order_of x k r)
        (omega (arith, bits)) (omega arith)

    by_price : Dec (y < x) → Dec (y ≡ x) → ltb (deal_key b l y j) (deal_key b k x i) ≡ ltb (order_of y l p) (order_of x k r)
    by_price (yes h) e = both_lt (deal_key b l y j) (deal_key b k x i) (order_of y l p) (order_of x k r)
        (omega (arith, bits)) (omega arith)
    by_price (no h) (yes e) = by_kind e (dec_lt l k) (ℕ_discrete l k)
    by_price (no h) (no e) = both_ge (deal_key b l y j) (deal_key b k x i) (order_of y l p) (order_of x k r)
        (omega (arith, bits)) (omega arith)

-- ---- the rows of the sheet

module _ (s : Rows) (ds : List ℕ) (ready : Ready s ds) where
  pub row_key_row : (j : ℕ) → j < row_count s → key_row (key s j) ≡ j
  row_key_row j l = key_row_lem (buyer s j) (kind_at s j) (price_at s j) j (ready.price j l) (omega (arith, ready.few))

  pub row_key_group : (j : ℕ)
      → j < row_count s
      → key_group (key s j) ≡ ((buyer s j * 2 + pick (eqb (kind_at s j) demanded) 1) * price_span + price_at s j) * 2
      + pick (eqb (kind_at s j) conditional) 1
  row_key_group j l = key_group_lem (buyer s j) (kind_at s j) (price_at s j) j (ready.price j l) (omega (arith, ready.few))

  pub row_key_side : (j : ℕ) → j < row_count s → key_side (key s j) ≡ buyer s j * 2 + side_of (kind_at s j)
  row_key_side j l = key_side_lem (buyer s j) (kind_at s j) (price_at s j) j (ready.price j l) (omega (arith, ready.few))

  pub row_key_bit : (j : ℕ) → j < row_count s → key s j / row_span % 2 ≡ pick (eqb (kind_at s j) conditional) 1
  row_key_bit j l = key_bit (buyer s j) (kind_at s j) (price_at s j) j (ready.price j l) (omega (arith, ready.few))
