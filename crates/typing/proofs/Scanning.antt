-- Laws of a text that is scanned line by line. Assumes nothing.
use Rattle.std.specs.Prelude.{is_some}
use Prim.Native.Nat.{ℕ, ◌+◌, ◌≤◌}
use mathlib.Core.Bool.{Bool, true, false, cond}
use mathlib.Core.List.{List}
use native.Mathlib.Omega.{arith}
use lib.Dec.{eqb}
use Rattle.sums.proofs.Picks.{pick_le}
use Rattle.sheet.specs.declared.Counts.{Counts}
use Rattle.text.specs.Lines.{read_line}
use Rattle.text.specs.declared.Line.{Line}
use Rattle.typing.specs.Rows.{counted_in, scan_row, scan_line}
use Rattle.typing.specs.Steps.{Sparse}
use Rattle.typing.specs.declared.Scan.{Scan}

-- which of two
either : (P : Scan → Type 0) (t : Bool) (j k : Scan) → P j → P k → P (cond t j k)
either P true j k p q = p
either P false j k p q = q

row_sparse : (m : Counts) (j : Scan) (l : Line) → Sparse j → Sparse (scan_row m j l)
unfolding scan_row counted_in
row_sparse m j l h =
    let a = pick_le (eqb l.word 1) 1 in
    let b = pick_le (eqb l.word 2) 1 in
    let p = pick_le (eqb l.word 3) 1 in
    let c = pick_le (eqb l.word 4) 1 in
    (omega (arith, a), omega (arith, b), omega (arith, p), omega (arith, c))

-- no section has more rows than there are lines, and a line counts once
pub line_sparse : (m : Counts) (j : Scan) (s : List ℕ) → Sparse j → Sparse (scan_line m j s)
unfolding scan_line
line_sparse m j s h = either Sparse (is_some j.fault) j (scan_row m j (read_line s)) h (row_sparse m j (read_line s) h)

pub line_once : (m : Counts) (j : Scan) (s : List ℕ) → (scan_line m j s).line ≤ j.line + 1
unfolding scan_line scan_row
line_once m j s = either (λ k. k.line ≤ j.line + 1) (is_some j.fault) j (scan_row m j (read_line s)) (omega arith) (omega arith)
