-- A table of sheets and what reading and asking answer, by the definitions alone: the paper's worked hour, the empty sheet, one byte
-- less, a retailer that sells, and must-runs on each side of their bounds. Assumes nothing.
use Rattle.std.specs.Prelude.{Ok, Err}
use Prim.Native.Nat.{ℕ, ◌*◌, ◌+◌, ◌/◌, ◌%◌}
use mathlib.Core.Path.{◌≡◌, refl}
use mathlib.Core.List.{List, [], ◌∷◌, map, replicate}
use Rattle.refusals.specs.Refusals.{first_bad, refusal}
use Rattle.octets.specs.Bytes.{u32_at, words_at}
use Rattle.sheet.specs.Reading.{counts_of, distances_good, layout_good, kind_at, agent_verdict}
use Rattle.sheet.specs.Reading.{boundary_verdict, plant_verdict, contract_verdict, read_verdict, read_of}
use Rattle.sheet.specs.Asking.{rows_in, fields, fields_at, asked_row, row_of}
use Rattle.sheet.specs.declared.Counts.{Counts}

-- 32-bit numbers as bytes, the lowest first
abbrev spelled : List ℕ → List ℕ
spelled [] = []
spelled (x ∷ xs) = x % 256 ∷ x / 256 % 256 ∷ x / 65536 % 256 ∷ x / 16777216 % 256 ∷ spelled xs

abbrev two : ℕ → ℕ → ℕ
two low high = low + 65536 * high

-- 'One hour in full'
abbrev hour : List ℕ
hour =
    spelled
    (2 ∷ 0 ∷ 0 ∷ 0
    ∷ 1 ∷ 0 ∷ 0 ∷ 0
    ∷ 1 ∷ 0 ∷ 0 ∷ 0
    ∷ 2 ∷ 0 ∷ 0 ∷ 0
    ∷ two 0 0 ∷ 0 ∷ 0 ∷ 600
    ∷ two 3 0 ∷ 0 ∷ 10 ∷ 410
    ∷ two 1 0 ∷ 0 ∷ 500 ∷ 0
    ∷ two 2 1000 ∷ 0 ∷ 400 ∷ 0
    ∷ two 0 0 ∷ 0 ∷ 5000 ∷ 700
    ∷ two 3 0 ∷ 0 ∷ 8000 ∷ 500
    ∷ two 0 1 ∷ 0 ∷ 9000 ∷ 100
    ∷ two 0 1 ∷ 1 ∷ 6000 ∷ 400
    ∷ two 3 1 ∷ 3 ∷ 7000 ∷ 100
    ∷ two 0 1 ∷ 3 ∷ 7000 ∷ 50
    ∷ two 3 2 ∷ 2 ∷ 6500 ∷ 500
    ∷ 240 ∷ 4 ∷ 176 ∷ 4
    ∷ 112 ∷ 3 ∷ 64 ∷ 4 ∷ [])

-- a generator and two retailers; the second contract names a retailer as seller
abbrev march : List ℕ
march =
    spelled
    (2 ∷ 0 ∷ 0 ∷ 0
    ∷ 1 ∷ 0 ∷ 0 ∷ 0
    ∷ 1 ∷ 0 ∷ 0 ∷ 0
    ∷ two 0 1 ∷ 1 ∷ 6000 ∷ 400
    ∷ two 1 2 ∷ 1 ∷ 6000 ∷ 400
    ∷ 80 ∷ 3 ∷ 32 ∷ 0
    ∷ 32 ∷ 0 ∷ 32 ∷ 2 ∷ [])

-- one generator with one plant of 100 kWh
abbrev plant_only : (inflexible must : ℕ) → List ℕ
plant_only t m =
    spelled
    (2 ∷ 0 ∷ 0 ∷ 0
    ∷ two 0 t ∷ m ∷ 9000 ∷ 100
    ∷ 32 ∷ 1 ∷ 16 ∷ 0
    ∷ 16 ∷ 1 ∷ 0 ∷ 0 ∷ [])

abbrev counts : (agents boundaries plants contracts : ℕ) → Counts
counts a b p c = record { agents = a; boundaries = b; plants = p; contracts = c }

pub read_cases : map read_of (replicate 31 0 ∷ replicate 32 0 ∷ hour ∷ march ∷ [])
    ≡ (Err (refusal 1 0)
    ∷ Ok (counts 0 0 0 0)
    ∷ Ok (counts 4 4 3 4)
    ∷ Err (refusal 6 1)
    ∷ [])
unfolding u32_at words_at counts_of distances_good layout_good kind_at agent_verdict boundary_verdict plant_verdict contract_verdict first_bad
    read_verdict read_of
read_cases = refl

-- a flexible plant must run nothing, an inflexible one at most its availability
pub must_run_cases : map read_of (plant_only 0 0 ∷ plant_only 0 1 ∷ plant_only 1 0 ∷ plant_only 1 100 ∷ plant_only 1 101 ∷ [])
    ≡ (Ok (counts 1 0 1 0)
    ∷ Err (refusal 5 0)
    ∷ Ok (counts 1 0 1 0)
    ∷ Ok (counts 1 0 1 0)
    ∷ Err (refusal 5 0)
    ∷ [])
unfolding u32_at words_at counts_of distances_good layout_good kind_at agent_verdict boundary_verdict plant_verdict contract_verdict first_bad
    read_verdict read_of
must_run_cases = refl

-- the worked hour asked for rows: a bad section is reported before a bad row
pub row_cases : map (λ (q : ℕ × ℕ). row_of hour (counts 4 4 3 4) q.0 q.1)
    ((1, 3) ∷ (2, 3) ∷ (3, 2) ∷ (4, 3) ∷ (4, 4) ∷ (0, 0) ∷ (5, 99) ∷ [])
    ≡ (Ok (fields 2 0 0 0 0)
    ∷ Ok (fields 2 1000 400 0 0)
    ∷ Ok (fields 0 1 0 9000 100)
    ∷ Ok (fields 3 2 2 6500 500)
    ∷ Err (refusal 12 4)
    ∷ Err (refusal 12 0)
    ∷ Err (refusal 12 5)
    ∷ [])
unfolding u32_at words_at rows_in fields_at asked_row row_of
row_cases = refl
