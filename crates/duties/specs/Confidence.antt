-- Document 02, P11, 'What one retailer can learn of another': what two sheets have in common, a buyer's own contract rows, and which
-- amounts of a lent list belong to them. Assumes nothing.
use Rattle.std.specs.Prelude.{ℕ, ◌+◌, ◌*◌, ◌<◌, ◌&&◌, List, ◌≡◌, eqb, length}
use Rattle.sums.specs.Sums.{sum, pick}
use Rattle.sums.specs.Lists.{at}
use Rattle.deals.specs.Deals.{Deals}
use Rattle.deals.specs.Hour.{own_to, own_of}
use Rattle.hour.specs.Sheet.{Sheet}
use Rattle.hour.specs.Lines.{cells_per_agent}
use Rattle.hour.specs.Answer.{Lent, money_in}

-- equal agents, boundaries and plants
pub record Alike (s t : Sheet) : Type 0 where
  pub kinds : s.kinds ≡ t.kinds
  pub owners : s.owners ≡ t.owners
  pub factors : s.factors ≡ t.factors
  pub imports : s.imports ≡ t.imports
  pub exports : s.exports ≡ t.exports
  pub holders : s.holders ≡ t.holders
  pub flags : s.flags ≡ t.flags
  pub must_run : s.must_run ≡ t.must_run
  pub offers : s.offers ≡ t.offers
  pub available : s.available ≡ t.available

-- the contract rows of which agent b is the buyer, in the sheet's order: the seller, kind, price and quantity of each
pub record OwnRows : Type 0 where
  pub sellers : List ℕ
  pub deals : Deals

abbrev pub rows_of : Sheet → ℕ → OwnRows
rows_of s b =
    record { sellers = own_to s.deals.buyers b s.sellers (length s.deals.buyers); deals = own_of s.deals b }

-- the amounts of these rows in a lent list, in the same order
abbrev pub amounts_for : Sheet → Lent → ℕ → List ℕ
amounts_for s l b = own_to s.deals.buyers b l.amounts (length s.deals.buyers)

-- g sells to b: a row has the seller g and the buyer b
abbrev pub sales : Sheet → (g b : ℕ) → ℕ
sales s g b =
    sum (length s.deals.buyers) (λ j. pick (eqb (at s.sellers j) g && eqb (at s.deals.buyers j) b) 1)

abbrev pub SellsTo : Sheet → (g b : ℕ) → Type 0
SellsTo s g b = 0 < sales s g b

-- one line: the six cells and the money of agent a
pub record SameLine (x y : Lent) (a : ℕ) : Type 0 where
  pub cells : (c : ℕ)
      → c < cells_per_agent
      → at x.figures (cells_per_agent * a + c) ≡ at y.figures (cells_per_agent * a + c)
  pub money : money_in x a ≡ money_in y a
