-- What the code's steps ask for and leave: nobody need believe this page. Assumes nothing.
use Rattle.std.specs.Prelude.{Result}
use Rattle.refusals.specs.declared.Refusal.{Refusal}
use Rattle.std.specs.Prelude.{ℕ, ◌+◌, ◌*◌, ◌≤◌, ◌<◌, ◌≡◌, not, cond, List, length, set, eqb}
use Rattle.sums.specs.Sums.{pick}
use Rattle.sums.specs.Lists.{Filled}
use Rattle.sheet.specs.Reading.{trailer_start, sheet_length, counts_of}
use Rattle.sheet.specs.declared.Counts.{Counts}
use Rattle.mend.specs.Mend.{mended_at, changes, report_at, mend_room, Mended}

-- distances fit
abbrev pub Small : Counts → Type 0
Small c = trailer_start c < 65536

-- the counts are the sheet's own
abbrev pub Mendable : List ℕ → Counts → Type 0
Mendable s c = (c ≡ counts_of s) × Small c × (length s ≡ sheet_length c)

-- how many changes one byte makes
unfoldable pub notes : (old new : ℕ) → ℕ
notes old new = pick (not (eqb old new)) 1

-- the report with this byte's change, if it is one, behind n others
unfoldable pub noted : (report : List ℕ) → (n place old new : ℕ) → List ℕ
noted report n place old new =
    cond (eqb old new) report (set (set (set report (3 * n) place) (3 * n + 1) old) (3 * n + 2) new)

-- what is written where there is room
abbrev pub MendRoomy : (s copy report : List ℕ) → Type 0
MendRoomy s copy report = (length s ≤ length copy) × (3 * changes s ≤ length report)

abbrev pub Copied : (s copy report copy' report' : List ℕ) → Type 0
Copied s copy report copy' report' =
    Filled 0 copy copy' (length s) (mended_at s) × Filled 0 report report' (3 * changes s) (report_at s)

-- the promise of mending a sheet whose rows are counted
abbrev pub MendsCounted : (s copy report : List ℕ) → Result ℕ Refusal → (copy' report' : List ℕ) → Type 0
MendsCounted s copy report = Mended s copy report (mend_room s (length copy) (length report))
