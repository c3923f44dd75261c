-- BACK. A statement that was written, read into any lists with room for it, gives the same price and the same cells. Assumes nothing.
use Rattle.std.specs.Prelude.{Result, Ok}
use Prim.Native.Nat.{ℕ, ◌*◌, ◌≤◌}
use mathlib.Core.Path.{◌≡◌, ap, ◌∙◌}
use mathlib.Core.Bool.{true}
use mathlib.Core.List.{[], ◌∷◌}
use borrow.Author.Tests.{leb-true}
use lib.Dec.{leb}
use lib.IntN.{pos}
use lib.ListN.{length}
use Rattle.sums.specs.Lists.{at, Filled}
use Rattle.sums.proofs.Tests.{all_true}
use Rattle.sheet.specs.Reading.{counts_good}
use Rattle.sheet.specs.declared.Counts.{Counts}
use Rattle.hour.specs.Lines.{cells_per_agent}
use Rattle.hour.specs.Answer.{Lent, money_in, schedule_in, amount_in}
use Rattle.stating.specs.Read.{lists_fit, statement_after, statement_of, stated_in, lists_after, StatementInto}
use Rattle.text.specs.declared.WrongLine.{WrongLine}
use Rattle.telling.specs.Text.{statement_text}
use Rattle.told.proofs.Walks.{Writable}
use Rattle.told.proofs.Lists.{figures_back, money_back, schedule_back, amounts_back, price_back}
use Rattle.told.proofs.Marks.{no_fault}

-- the lists after it: the cells of the rows are those of l, all others as before
pub record Kept (c : Counts) (l before after : Lent) : Type 0 where
  pub figures : Filled 0 before.figures after.figures (cells_per_agent * c.agents) (at l.figures)
  pub money : Filled (pos 0) before.money after.money c.agents (money_in l)
  pub schedule : Filled 0 before.schedule after.schedule c.plants (schedule_in l)
  pub amounts : Filled 0 before.amounts after.amounts c.contracts (amount_in l)

-- lists that fit have a cell for each number
pub fitting : (c : Counts) (l : Lent) → lists_fit c l ≡ true
    → (cells_per_agent * c.agents ≤ length l.figures) × (c.agents ≤ length l.money) × (c.plants ≤ length l.schedule)
    × (c.contracts ≤ length l.amounts)
unfolding lists_fit
fitting c l e =
    let all =
    all_true (counts_good c) (leb (cells_per_agent * c.agents) (length l.figures) ∷ leb c.agents (length l.money)
    ∷ leb c.plants (length l.schedule) ∷ leb c.contracts (length l.amounts) ∷ []) e in
    (leb-true _ _ all.1.0, leb-true _ _ all.1.1.0, leb-true _ _ all.1.1.1.0, leb-true _ _ all.1.1.1.1.0)

module _ (c : Counts) (p : ℕ) (l : Lent) (w : Writable c p l) (before : Lent) (room : lists_fit c before ≡ true) where
  -- the price
  pub answer_back : statement_of c before (statement_text c p l) ≡ Ok p
  unfolding statement_of statement_after
  answer_back = rw (room, no_fault c p l w, price_back c p l w)

  -- WHAT WAS WRITTEN, READ, IS THE SAME STATEMENT: of every outcome that meets the promise of reading
  pub back : (r : Result ℕ WrongLine) (after : Lent) → StatementInto (statement_text c p l) c before r after
      → (r ≡ Ok p) × Kept c l before after
  unfolding lists_after
  back r after d =
      let e = d.answer ∙ answer_back in
      let s : after ≡ stated_in (statement_text c p l) before =
      d.lists ∙ ap (λ (x : Result ℕ WrongLine). lists_after x (statement_text c p l) before) e in
      let f = fitting c before room in
      let lists : Kept c l before (stated_in (statement_text c p l) before) =
      record {
        figures = figures_back c p l w before.figures f.0;
        money = money_back c p l w before.money f.1;
        schedule = schedule_back c p l w before.schedule f.2;
        amounts = amounts_back c p l w before.amounts f.3;
      } in
      (e, rw s lists)
