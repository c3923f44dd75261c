-- A row as it is written: its word, a space before each number, a line end. Assumes nothing.
use Rattle.std.specs.Prelude.{ℕ, List, [], ◌∷◌, ◌++◌}
use Rattle.printing.specs.Text.{decimal}

-- each number with a space before it, then what follows
unfoldable pub joined : List ℕ → List ℕ → List ℕ
joined [] rest = rest
joined (n ∷ ns) rest = 32 ∷ decimal n (joined ns rest)

unfoldable pub row_text : (word numbers rest : List ℕ) → List ℕ
row_text word ns rest = word ++ joined ns (10 ∷ rest)
