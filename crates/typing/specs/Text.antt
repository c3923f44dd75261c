-- The text of an accepted sheet: its sections in their order, a line a row. Assumes nothing.
use Rattle.std.specs.Prelude.{Result, Ok, Err}
use Rattle.refusals.specs.declared.Refusal.{Refusal}
use Rattle.std.specs.Prelude.{ℕ, ◌+◌, List, [], ◌∷◌, length, leb}
use Rattle.refusals.specs.Refusals.{no_room, refused_unless}
use Rattle.refusals.specs.Refusals.{Verdict}
use Rattle.octets.specs.Bytes.{words_at}
use Rattle.rows.specs.Rows.{agent_of, boundary_of, plant_of, contract_of}
use Rattle.octets.specs.declared.Words.{Words}
use Rattle.limits.specs.declared.Boundary.{Boundary}
use Rattle.limits.specs.declared.Plant.{Plant}
use Rattle.limits.specs.declared.Contract.{Contract}
use Rattle.sheet.specs.Asking.{by_section, rows_in, rows_before}
use Rattle.sheet.specs.declared.Counts.{Counts}
use Rattle.printing.specs.Text.{lines_to}
use Rattle.text.specs.Lines.{agent_word, boundary_word, plant_word, contract_word}
use Rattle.text.specs.Written.{row_text}

-- the word of section k
unfoldable pub word_for : ℕ → List ℕ
word_for k = by_section k agent_word boundary_word plant_word contract_word []

-- the numbers of a row, as they are typed
abbrev pub boundary_typed : Boundary → List ℕ
boundary_typed b = b.agent ∷ b.factor ∷ b.import ∷ b.export ∷ []

abbrev pub plant_typed : Plant → List ℕ
plant_typed p = p.agent ∷ p.inflexible ∷ p.must ∷ p.price ∷ p.availability ∷ []

abbrev pub contract_typed : Contract → List ℕ
contract_typed c = c.seller ∷ c.buyer ∷ c.kind ∷ c.price ∷ c.quantity ∷ []

unfoldable pub row_typed : (k : ℕ) → Words → List ℕ
row_typed k w =
    by_section k ((agent_of w).kind ∷ []) (boundary_typed (boundary_of w)) (plant_typed (plant_of w)) (contract_typed (contract_of w)) []

-- row i of section k of a sheet
abbrev pub row_of_sheet : List ℕ → Counts → (k i : ℕ) → List ℕ
row_of_sheet s c k i = row_typed k (words_at s (rows_before c k + i))

abbrev pub section_text : List ℕ → Counts → ℕ → List ℕ → List ℕ
section_text s c k rest = lines_to (λ i. row_text (word_for k) (row_of_sheet s c k i)) (rows_in c k) rest

unfoldable pub sheet_text : List ℕ → Counts → List ℕ
sheet_text s c = section_text s c 1 (section_text s c 2 (section_text s c 3 (section_text s c 4 [])))

-- ---- writing it into a lent buffer: reading's refusals first, then 11
abbrev pub text_of : Result Counts Refusal → List ℕ → List ℕ
text_of (Ok c) s = sheet_text s c
text_of (Err r) s = []

abbrev pub fit_verdict : (text : List ℕ) (room : ℕ) → Verdict
fit_verdict text room = refused_unless (leb (length text) room) no_room 0

abbrev pub text_verdict : Result Counts Refusal → List ℕ → (room : ℕ) → Verdict
text_verdict (Ok c) s room = fit_verdict (sheet_text s c) room
text_verdict (Err r) s room = Err r
