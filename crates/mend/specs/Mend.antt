-- Document 02, P14: a mended copy of a sheet, and a report of every byte changed. Assumes nothing.
use Rattle.std.specs.Prelude.{Result, Ok, Err}
use Rattle.refusals.specs.declared.Refusal.{Refusal}
use Rattle.std.specs.Prelude.{ℕ, zero, suc, ◌+◌, ◌-◌, ◌*◌, ◌/◌, ◌%◌, ◌≡◌, Bool, ◌&&◌, not, cond, List, length, set, leb, ltb, eqb}
use Rattle.sums.specs.Sums.{sum, pick, first}
use Rattle.sums.specs.Lists.{at, Filled}
use Rattle.refusals.specs.Refusals.{no_room, refused_unless, or_else, cells}
use Rattle.refusals.specs.Refusals.{Verdict}
use Rattle.octets.specs.Bytes.{words_of, words_at, byte_of}
use Rattle.octets.specs.declared.Words.{Words}
use Rattle.sheet.specs.Reading.{boundary_start, plant_start, contract_start, trailer_start, counts_of}
use Rattle.sheet.specs.Counting.{count_verdict}
use Rattle.sheet.specs.declared.Counts.{Counts}

-- ---- the mended sheet

-- unused bytes of agent and boundary rows are set to 0: bytes 4 to 15, and 4 to 7
abbrev pub agent_mended : Words → Words
agent_mended w = words_of w.first 0 0 0

abbrev pub boundary_mended : Words → Words
boundary_mended w = words_of w.first 0 w.third w.fourth

-- the distance back from the trailer to a row, worked out from the counts
abbrev pub distance : Counts → (row : ℕ) → ℕ
distance c row = 16 * (trailer_start c - row)

-- the two rows of the trailer: the distances are worked out, the counts stay
abbrev pub agents_and_boundaries : Counts → Words → Words
agents_and_boundaries c w = words_of (distance c 0) w.second (distance c (boundary_start c)) w.fourth

abbrev pub plants_and_contracts : Counts → Words → Words
plants_and_contracts c w = words_of (distance c (plant_start c)) w.second (distance c (contract_start c)) w.fourth

-- row r of a sheet with these counts, where it says w: a plant's and a contract's row stay as they are
unfoldable pub row_mended : Counts → ℕ → Words → Words
row_mended c r w =
    cond (ltb r (boundary_start c)) (agent_mended w)
    (cond (ltb r (plant_start c)) (boundary_mended w)
    (cond (ltb r (trailer_start c)) w
    (cond (eqb r (trailer_start c)) (agents_and_boundaries c w) (plants_and_contracts c w))))

-- row r of the mended sheet, and its byte k
abbrev pub mended_row : List ℕ → ℕ → Words
mended_row s r = row_mended (counts_of s) r (words_at s r)

unfoldable pub mended_at : List ℕ → ℕ → ℕ
mended_at s k = byte_of (mended_row s) k

-- ---- the places at which a test holds

-- how many there are below n
unfoldable pub count_to : (ℕ → Bool) → ℕ → ℕ
count_to t n = sum n (λ k. pick (t k) 1)

-- the one that has i before it, below n
unfoldable pub place_of : (ℕ → Bool) → (n i : ℕ) → ℕ
place_of t n i = first n (λ k. t k && eqb (count_to t k) i)

-- ---- the report: every byte changed by place, old and new, in rising place
unfoldable pub changed : List ℕ → ℕ → Bool
changed s k = not (eqb (at s k) (mended_at s k))

abbrev pub changes : List ℕ → ℕ
changes s = count_to (changed s) (length s)

abbrev pub change_place : List ℕ → ℕ → ℕ
change_place s i = place_of (changed s) (length s) i

-- cell q: three a change
unfoldable pub report_at : List ℕ → ℕ → ℕ
report_at s q =
    let k = change_place s (q / 3) in
    cond (eqb (q % 3) 0) k (cond (eqb (q % 3) 1) (at s k) (mended_at s k))

-- ---- what mending answers: 1, then 2 only if counts are over their limits or don't fit the length, then 11 if copy or report has no room
abbrev pub room_good : List ℕ → (copy report : ℕ) → Bool
room_good s copy report = leb (length s) copy && leb (3 * changes s) report

abbrev pub mend_room : List ℕ → (copy report : ℕ) → Verdict
mend_room s copy report = refused_unless (room_good s copy report) no_room 0

unfoldable pub mend_verdict : List ℕ → (copy report : ℕ) → Verdict
mend_verdict s copy report = or_else (count_verdict s) (mend_room s copy report)

abbrev pub mending : Verdict → (changes : ℕ) → Result ℕ Refusal
mending (Ok tt) n = Ok n
mending (Err r) n = Err r

-- what is promised of a verdict v. Success hands back how many changes there are; cells past those needed keep their values; a
-- refusal writes nothing
pub record Mended (s copy report : List ℕ) (v : Verdict) (r : Result ℕ Refusal) (copy' report' : List ℕ) : Type 0 where
  pub answer : r ≡ mending v (changes s)
  pub copied : Filled 0 copy copy' (cells v (length s)) (mended_at s)
  pub reported : Filled 0 report report' (cells v (3 * changes s)) (report_at s)

-- the promise of `mend`
abbrev pub Mends : (s copy report : List ℕ) → Result ℕ Refusal → (copy' report' : List ℕ) → Type 0
Mends s copy report = Mended s copy report (mend_verdict s (length copy) (length report))

-- ---- the way back: the copy with each of n reported old bytes at its place
unfoldable pub undone : (copy report : List ℕ) → (n : ℕ) → List ℕ
undone copy report zero = copy
undone copy report (suc i) = set (undone copy report i) (at report (3 * i)) (at report (3 * i + 1))
