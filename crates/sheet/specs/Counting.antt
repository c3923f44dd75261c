-- Document 02, P14: the rows counted, distances not looked at. Assumes nothing.
use Rattle.std.specs.Prelude.{Result, Ok, Err}
use Rattle.refusals.specs.declared.Refusal.{Refusal}
use Rattle.std.specs.Prelude.{ℕ, List, [], ◌∷◌, length}
use Rattle.refusals.specs.Refusals.{bad_length, bad_layout, refused_unless, first_of}
use Rattle.refusals.specs.Refusals.{Verdict}
use Rattle.sheet.specs.Reading.{length_good, counts_of, counts_fit}
use Rattle.sheet.specs.declared.Counts.{Counts}

-- 1; 2 only if counts are over their limits or don't fit the length
unfoldable pub count_verdict : List ℕ → Verdict
count_verdict s =
    first_of (refused_unless (length_good (length s)) bad_length 0 ∷ refused_unless (counts_fit s) bad_layout 0 ∷ [])

abbrev pub counting : Verdict → Counts → Result Counts Refusal
counting (Ok tt) c = Ok c
counting (Err r) c = Err r

unfoldable pub counting_of : List ℕ → Result Counts Refusal
counting_of s = counting (count_verdict s) (counts_of s)
