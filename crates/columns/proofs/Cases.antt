-- Document 01, 'One hour in full': its 272 bytes are accepted, and their columns are the hour of the table of cases. Assumes nothing.
use Rattle.std.specs.Prelude.{Ok}
use Prim.Native.Nat.{ℕ, ◌+◌, ◌*◌}
use mathlib.Core.List.{List, [], ◌∷◌}
use mathlib.Core.Path.{◌≡◌, refl}
use lib.ListN.{length, get_or}
use Rattle.sums.specs.Lists.{list_to}
use Rattle.refusals.specs.Refusals.{first_bad}
use Rattle.octets.specs.Bytes.{u32_at, words_of, words_at, word, byte_of, bytes_of}
use Rattle.octets.specs.declared.Words.{Words}
use Rattle.sheet.specs.Reading.{counts_of, distances_good, layout_good, kind_at, agent_verdict}
use Rattle.sheet.specs.Reading.{boundary_verdict, plant_verdict, contract_verdict, read_verdict, read_of}
use Rattle.sheet.specs.declared.Counts.{Counts}
use Rattle.hour.proofs.Cases.{whole_hour}
use Rattle.columns.specs.Columns.{columns_of}

-- two 16-bit numbers in one of 32 bits
abbrev pair_of : ℕ → ℕ → ℕ
pair_of x y = x + 65536 * y

abbrev rows : List Words
rows =
    -- agents: kind
    words_of 2 0 0 0 ∷ words_of 1 0 0 0 ∷ words_of 1 0 0 0 ∷ words_of 2 0 0 0
    -- boundaries: agent and factor, filler, import, export
    ∷ words_of (pair_of 0 0) 0 0 600 ∷ words_of (pair_of 3 0) 0 10 410 ∷ words_of (pair_of 1 0) 0 500 0
    ∷ words_of (pair_of 2 1000) 0 400 0
    -- plants: agent and flag, must-run, price, availability
    ∷ words_of (pair_of 0 0) 0 5000 700 ∷ words_of (pair_of 3 0) 0 8000 500 ∷ words_of (pair_of 0 1) 0 9000 100
    -- contracts: seller and buyer, kind, price, quantity
    ∷ words_of (pair_of 0 1) 1 6000 400 ∷ words_of (pair_of 3 1) 3 7000 100 ∷ words_of (pair_of 0 1) 3 7000 50
    ∷ words_of (pair_of 3 2) 2 6500 500
    -- trailer
    ∷ words_of 240 4 176 4 ∷ words_of 112 3 64 4
    ∷ []

unfoldable pub hour_bytes : List ℕ
hour_bytes = bytes_of (λ r. get_or rows r (words_of 0 0 0 0)) 17

abbrev pub hour_counts : Counts
hour_counts = record { agents = 4; boundaries = 4; plants = 3; contracts = 4 }

pub hour_read : (length hour_bytes ≡ 272) × (read_of hour_bytes ≡ Ok hour_counts)
    × (columns_of hour_bytes hour_counts ≡ whole_hour)
unfolding hour_bytes bytes_of byte_of word list_to u32_at words_at counts_of distances_good layout_good kind_at agent_verdict boundary_verdict
    plant_verdict contract_verdict read_verdict read_of first_bad columns_of
hour_read = (refl, refl, refl)
