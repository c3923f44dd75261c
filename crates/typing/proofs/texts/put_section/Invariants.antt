-- The rows already put, from the last one, stand in front of what stood there. Where there is room for all of them, there is room for
-- those that are left.
use Rattle.std.proofs.Common.{◌≡◌, ℕ, ◌+◌, ◌-◌, ◌*◌, ◌≤◌, List, length, drop}
use Rattle.printing.specs.Text.{lines_to}
use Rattle.octets.specs.Bytes.{words_at}
use Rattle.text.specs.Written.{row_text}
use Rattle.typing.specs.Text.{word_for, row_typed}
use Rattle.typing.specs.Steps.{row_room}
use Rattle.typing.proofs.texts.put_section.Given as goal

-- row i of the section, and what follows
abbrev pub row_at : (k : ℕ) (sheet : List ℕ) (start : ℕ) → ℕ → List ℕ → List ℕ
row_at k sheet start i = row_text (word_for k) (row_typed k (words_at sheet (start + i)))

-- `left` rows are still to be put
pub record Going (g : ℕ → List ℕ → List ℕ) (s₀ s : List ℕ) (at n i left : ℕ) : Type 0 where
  pub low : at + row_room * left ≤ i + row_room * n
  pub high : i ≤ at
  pub text : lines_to g n (drop at s₀) ≡ lines_to g left (drop i s)

abbrev pub invariant-loop-row : goal.invariant-loop-row
invariant-loop-row l = record {
  long : length l.s ≡ length l.fn.s;
  going : row_room * l.n ≤ l.at → l.at ≤ length l.fn.s
      → Going (row_at l.k l.sheet l.start) l.fn.s l.s l.at l.n l.i (l.row - l.start);
}
