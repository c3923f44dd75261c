-- WHAT ONE RETAILER CAN LEARN OF ANOTHER, of two settlements: two strings of bytes that both settle (the number returned is 0), with
-- equal agents, boundaries and plants. The other retailers' contract rows may differ in number, place, price and everything else.
--
-- Price, demand and losses are the same in both: they come from what is equal (`first_line`). Nothing is said of the time that a
-- settlement takes. Assumes nothing.
use Prim.Native.Nat.{ℕ, ◌+◌, ◌*◌, ◌<◌}
use native.Mathlib.Omega.{arith}
use mathlib.Core.Bool.{true, false}
use mathlib.Core.List.{List}
use mathlib.Core.Logic.{◌⊎◌}
use mathlib.Core.Path.{◌≡◌, ap, ◌∙◌, sym}
use lib.ListN.{length}
use Rattle.columns.specs.Columns.{hour_of}
use Rattle.hour.specs.Sheet.{retails}
use Rattle.hour.specs.Lines.{contracted, cells_per_agent}
use Rattle.hour.specs.Answer.{Lent}
use Rattle.hour.specs.declared.Summary.{Summary}
use Rattle.settle.specs.Settled.{Settled}
use Rattle.duties.specs.Result.{agents_of}
use Rattle.duties.specs.Confidence.{Alike, rows_of, amounts_for, SellsTo, SameLine}
use Rattle.duties.proofs.Steps.{Hour, summary_is, figure_at, money_at, amount_at_lem, sheet_sound}
use Rattle.duties.proofs.Stages.{settled_hour}
use Rattle.duties.proofs.Alike.{first_same, own_amounts, amounts_same}
use Rattle.duties.proofs.Alike.{retailer_same, generator_same, money_same, cells_same}

module _ (one two : List ℕ) {before before' x y : Lent} {q r : Summary} (done : Settled one before x q)
    (done' : Settled two before' y r)
    (zero : q.number ≡ 0) (zero' : r.number ≡ 0) (alike : Alike (hour_of one) (hour_of two)) where
  hour : Hour one before x q
  hour = settled_hour one done zero

  hour' : Hour two before' y r
  hour' = settled_hour two done' zero'

  -- an agent with the same contracted energy has the same line
  line : (a : ℕ) → a < agents_of one → contracted (hour_of one) a ≡ contracted (hour_of two) a → SameLine x y a
  line a l held =
      let m : a < agents_of two = rw (ap (λ (k : List ℕ). length k) alike.kinds) at l in
      record {
        cells = λ c h.
            figure_at hour (cells_per_agent * a + c) (omega arith)
            ∙ cells_same (hour_of one) (hour_of two) (sheet_sound hour) (sheet_sound hour') alike a held c h
            ∙ sym (figure_at hour' (cells_per_agent * a + c) (omega arith));
        money =
            money_at hour a l ∙ money_same (hour_of one) (hour_of two) (sheet_sound hour) (sheet_sound hour') alike a held
            ∙ sym (money_at hour' a m);
      }

  -- the amounts of equal rows are equal, wherever these stand among the others
  amounts : (b : ℕ)
      → rows_of (hour_of one) b ≡ rows_of (hour_of two) b
      → amounts_for (hour_of one) x b ≡ amounts_for (hour_of two) y b
  amounts b same =
      own_amounts (hour_of one) (sheet_sound hour) b x.amounts (amount_at_lem hour)
      ∙ amounts_same (hour_of one) (hour_of two) (sheet_sound hour) (sheet_sound hour') alike b same
      ∙ sym (own_amounts (hour_of two) (sheet_sound hour') b y.amounts (amount_at_lem hour'))

  -- A RETAILER: its own contract rows are equal and in the same order.
  module _ (b : ℕ) (there : b < agents_of one) (retailer : retails (hour_of one) b ≡ true)
      (same : rows_of (hour_of one) b ≡ rows_of (hour_of two) b) where
    -- Its line is the same: six cells and the money.
    pub retailer_line : SameLine x y b
    retailer_line =
        line b there (retailer_same (hour_of one) (hour_of two) (sheet_sound hour) (sheet_sound hour') alike b retailer
        same)

    -- Its contracts' amounts are the same.
    pub retailer_amounts : amounts_for (hour_of one) x b ≡ amounts_for (hour_of two) y b
    retailer_amounts = amounts b same

  -- A GENERATOR: all rows of every retailer that it sells to in either sheet are equal and in the same order.
  module _ (g : ℕ) (there : g < agents_of one) (generator : retails (hour_of one) g ≡ false)
      (same : (b : ℕ) → SellsTo (hour_of one) g b ⊎ SellsTo (hour_of two) g b → rows_of (hour_of one) b
      ≡ rows_of (hour_of two) b) where
    -- Its line is the same.
    pub generator_line : SameLine x y g
    generator_line =
        line g there (generator_same (hour_of one) (hour_of two) (sheet_sound hour) (sheet_sound hour') alike g generator
        same)

    -- The amounts of those retailers' rows, its own contracts among them, are the same.
    pub generator_amounts : (b : ℕ)
        → SellsTo (hour_of one) g b ⊎ SellsTo (hour_of two) g b
        → amounts_for (hour_of one) x b ≡ amounts_for (hour_of two) y b
    generator_amounts b sells = amounts b (same b sells)

  -- Price, demand and losses.
  pub first_line : (q.price ≡ r.price) × (q.demand ≡ r.demand) × (q.losses ≡ r.losses)
  first_line = first_same (hour_of one) (hour_of two) alike q r (summary_is hour) (summary_is hour')
