-- A walk over a text that was written row by row: it goes over the rows in order, and then over what follows. Assumes nothing.
use Prim.Native.Nat.{ℕ, zero, suc}
use mathlib.Core.Path.{◌≡◌, refl, ap, ◌∙◌}
use mathlib.Core.List.{List, [], ◌++◌}
use Rattle.printing.specs.Text.{lines_to}
use Rattle.text.specs.Lines.{lines, over}
use Rattle.text.specs.Written.{joined, row_text}
use Rattle.text.proofs.Back.{Known, row_first}

module _ {S : Type 0} (g : S → List ℕ → S) (word : List ℕ) (known : Known word) (row : ℕ → List ℕ) where
  -- the walk over the first n rows
  unfoldable pub walked : ℕ → S → S
  walked zero a = a
  walked (suc n) a = g (walked n a) (word ++ joined (row n) [])

  pub over_rows : (n : ℕ) (a : S) (rest : List ℕ)
      → over g a (lines (lines_to (λ i. row_text word (row i)) n rest)) ≡ over g (walked n a) (lines rest)
  unfolding lines_to over walked
  over_rows zero a rest = refl
  over_rows (suc n) a rest =
      over_rows n a (row_text word (row n) rest)
      ∙ ap (over g (walked n a)) (row_first word (row n) rest known)
