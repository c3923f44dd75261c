-- What reading promises, from its parts; and that two outcomes which meet the promise are one. Assumes nothing.
use Rattle.std.specs.Prelude.{Result, Ok, Err}
use Prim.Native.Nat.{ℕ, ◌*◌}
use mathlib.Core.Path.{◌≡◌, refl, ap, sym, ◌∙◌}
use mathlib.Core.Bool.{true, false}
use mathlib.Core.List.{List, [], ◌∷◌}
use lib.Dec.{leb}
use lib.ListN.{length}
use Rattle.sums.proofs.Tests.{all_true}
use Rattle.hour.specs.Lines.{cells_per_agent}
use Rattle.hour.specs.Answer.{Lent}
use Rattle.sheet.specs.Reading.{counts_good}
use Rattle.sheet.specs.declared.Counts.{Counts}
use Rattle.text.specs.Faults.{unless_wrong}
use Rattle.text.specs.declared.Fault.{Fault}
use Rattle.text.specs.declared.WrongLine.{WrongLine}
use Rattle.text.proofs.Faults.{still_wrong, none_wrong}
use Rattle.stating.specs.Rows.{marked_in, last_fault, price_in}
use Rattle.stating.specs.Read.{lists_fit, statement_after, statement_of, stated_in, lists_after, StatementInto}

-- lists that fit are those of a sheet's counts
pub counts_good_lem : (c : Counts) (l : Lent) → lists_fit c l ≡ true → counts_good c ≡ true
unfolding lists_fit
counts_good_lem c l e =
    (all_true (counts_good c)
    (leb (cells_per_agent * c.agents) (length l.figures) ∷ leb c.agents (length l.money) ∷ leb c.plants (length l.schedule)
    ∷ leb c.contracts (length l.amounts)
    ∷ []) e).0

module _ (text : List ℕ) (c : Counts) (before : Lent) where
  -- the counts or the lists
  pub not_fit : lists_fit c before ≡ false → StatementInto text c before (Err (record { line = 0; fault = Fault.Rows })) before
  unfolding statement_of lists_after
  not_fit e = record { answer = rw e; lists = refl }

  -- a line
  pub wrong_line : (w : WrongLine) → lists_fit c before ≡ true
      → Err w ≡ unless_wrong {A = Unit {0}} (marked_in c text).line (last_fault (marked_in c text)) tt → StatementInto text c before (Err w) before
  unfolding statement_of statement_after lists_after
  wrong_line w e q =
      record {
        answer = rw e (still_wrong (marked_in c text).line (last_fault (marked_in c text)) w (price_in text) q);
        lists = refl;
      }

  -- nothing
  pub all_read : (after : Lent) (p : ℕ) → lists_fit c before ≡ true
      → Ok tt ≡ unless_wrong {A = Unit {0}} (marked_in c text).line (last_fault (marked_in c text)) tt
      → p ≡ price_in text → after ≡ stated_in text before → StatementInto text c before (Ok p) after
  unfolding statement_of statement_after lists_after
  all_read after p e q x y =
      record { answer = rw (e, none_wrong (marked_in c text).line (last_fault (marked_in c text)) q) (ap Ok x); lists = y }

-- Two outcomes that meet the promise of reading are one.
pub one_outcome : (text : List ℕ) (c : Counts) (before after after' : Lent) (r r' : Result ℕ WrongLine) → StatementInto text c before r after
    → StatementInto text c before r' after' → (r ≡ r') × (after ≡ after')
one_outcome text c before after after' r r' x y =
    let e : r ≡ r' = x.answer ∙ sym y.answer in
    (e, x.lists ∙ ap (λ (q : Result ℕ WrongLine). lists_after q text before) e ∙ sym y.lists)
