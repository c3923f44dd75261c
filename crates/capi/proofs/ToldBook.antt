-- What the book in cells and the entry of an hour answer, as numbers. Assumes nothing.
use Rattle.std.specs.Prelude.{Result}
use Rattle.refusals.specs.declared.Refusal.{Refusal}
use Rattle.book.specs.declared.Hour.{Hour}
use Prim.Native.Nat.{ℕ, ◌≤◌, ◌<◌}
use mathlib.Core.Path.{◌≡◌, sym, ap, ◌∙◌}
use mathlib.Core.List.{List, [], ◌∷◌}
use lib.ListN.{length}
use borrow.Author.Tests.{le-leb, lt-leb}
use Rattle.sums.proofs.Fill.{filled_unique}
use Rattle.refusals.specs.Refusals.{no_room}
use Rattle.refusals.specs.Refusals.{Verdict}
use Rattle.entry.specs.Entry.{entry_of}
use Rattle.capi.specs.BookTold.{EmptiedTold, CellsTold, summary_in, entry_answer, entry_told, EntryTold}
use Rattle.capi.proofs.Outcomes.{told_unique}

-- ---- the book: the number of what the call answered
-- ---- the entry
module _ (sheet summary figures : List ℕ) where
  pub entry_short : length summary < 5 → entry_told sheet summary figures ≡ no_room ∷ 0 ∷ 0 ∷ 0 ∷ 0 ∷ 0 ∷ []
  unfolding entry_told
  entry_short l = rw (lt-leb 5 (length summary) l)

  pub entry_known : (e : Result Hour Refusal) → 5 ≤ length summary → entry_of sheet (summary_in summary) figures ≡ e
      → entry_told sheet summary figures ≡ entry_answer e
  unfolding entry_told
  entry_known e l q = rw (le-leb 5 (length summary) l) (ap entry_answer q)

-- ---- one outcome: the number returned and all that was lent
pub emptied_unique : (before x y : List ℕ) (q r : ℕ) → EmptiedTold before q x → EmptiedTold before r y → (q ≡ r) × (x ≡ y)
emptied_unique before x y q r d e = (d.number ∙ sym e.number, filled_unique 0 _ _ _ _ _ d.zeros e.zeros)

pub cells_unique : (v : Verdict) (new before x y : List ℕ) (q r : ℕ)
    → CellsTold v new before q x
    → CellsTold v new before r y
    → (q ≡ r) × (x ≡ y)
cells_unique v new before x y q r d e = (d.number ∙ sym e.number, d.left ∙ sym e.left)

pub entry_unique : (sheet summary figures before after after' : List ℕ) (r r' : ℕ)
    → EntryTold sheet summary figures before r after
    → EntryTold sheet summary figures before r' after'
    → (r ≡ r') × (after ≡ after')
entry_unique sheet summary figures before after after' r r' = told_unique _ _ before after after' r r'
