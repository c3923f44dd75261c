-- What a C caller is told of sheets and statements as text. Assumes nothing.
use Rattle.std.specs.Prelude.{Some}
use Rattle.std.specs.Prelude.{Result, Ok, Err}
use Rattle.refusals.specs.declared.Refusal.{Refusal}
use Rattle.std.specs.Prelude.{ℕ, ◌+◌, min, cond, List, [], ◌∷◌, ◌≡◌, length, leb}
use Rattle.sums.specs.Lists.{at, Filled}
use Rattle.refusals.specs.Refusals.{cells}
use Rattle.refusals.specs.Refusals.{Verdict}
use Rattle.octets.specs.Bytes.{byte_of}
use Rattle.sheet.specs.Reading.{read_of}
use Rattle.sheet.specs.declared.Counts.{Counts}
use Rattle.hour.specs.Answer.{Lent}
use Rattle.printing.specs.Page.{printed}
use Rattle.writing.specs.Words.{sheet_row}
use Rattle.entry.specs.Entry.{most_word}
use Rattle.text.specs.Faults.{fault_number}
use Rattle.text.specs.declared.Fault.{Fault}
use Rattle.typing.specs.Rows.{numbers_in}
use Rattle.typing.specs.Text.{text_of, text_verdict}
use Rattle.typing.specs.Made.{made, made_cells}
use Rattle.typing.specs.declared.Unmade.{Unmade}
use Rattle.telling.specs.Tell.{own_statement, tell_verdict}
use Rattle.stating.specs.Read.{statement_of, lists_after}
use Rattle.text.specs.declared.WrongLine.{WrongLine}
use Rattle.capi.specs.Told.{Told}

-- a length or a line in 32 bits; what has more is told as the greatest number that has no more
abbrev pub narrowed : ℕ → ℕ
narrowed n = min n most_word

-- a fault is told behind the refusals: 30 and its number
abbrev pub fault_told : Fault → ℕ
fault_told f = 30 + fault_number (Some f)

-- ---- a text put into a lent buffer: number, place, and the length written, 0 where refused; and the bytes
abbrev pub printed_answer : Result ℕ Refusal → List ℕ
printed_answer (Ok n) = 0 ∷ 0 ∷ narrowed n ∷ []
printed_answer (Err r) = r.number ∷ r.place ∷ 0 ∷ []

pub record TextTold (v : Verdict) (text before list : List ℕ) (r : ℕ) (after list' : List ℕ) : Type 0 where
  pub told : Told 3 (printed_answer (printed v (length text))) list r list'
  pub bytes : Filled 0 before after (cond (leb 3 (length list)) (cells v (length text)) 0) (at text)

-- of a sheet, and our statement of its hour
abbrev pub SheetTextTold : (sheet before list : List ℕ) → ℕ → (after list' : List ℕ) → Type 0
SheetTextTold sheet before = TextTold (text_verdict (read_of sheet) sheet (length before)) (text_of (read_of sheet) sheet) before

abbrev pub StatementTextTold : (sheet before list : List ℕ) → ℕ → (after list' : List ℕ) → Type 0
StatementTextTold sheet before = TextTold (tell_verdict sheet (length before)) (own_statement sheet) before

-- ---- making a sheet from its text: number, place, the length written, and the line of what is wrong or refused; 0 where there is none
abbrev pub made_answer : Result ℕ Unmade → List ℕ
made_answer (Ok n) = 0 ∷ 0 ∷ narrowed n ∷ 0 ∷ []
made_answer (Err (Unmade.Wrong w)) = fault_told w.fault ∷ 0 ∷ 0 ∷ narrowed w.line ∷ []
made_answer (Err (Unmade.Refused line r)) = r.number ∷ r.place ∷ 0 ∷ narrowed line ∷ []

pub record MadeTold (text before list : List ℕ) (r : ℕ) (after list' : List ℕ) : Type 0 where
  pub told : Told 4 (made_answer (made text (length before))) list r list'
  pub bytes : Filled 0 before after (cond (leb 4 (length list)) (made_cells text (length before)) 0)
      (byte_of (sheet_row (numbers_in text)))

-- ---- reading a statement: number, line and price; and the four lists
abbrev pub statement_answer : Result ℕ WrongLine → List ℕ
statement_answer (Ok p) = 0 ∷ 0 ∷ p ∷ []
statement_answer (Err w) = fault_told w.fault ∷ narrowed w.line ∷ 0 ∷ []

-- the counts of a sheet that a statement has rows of
abbrev pub stated_counts : (agents plants contracts : ℕ) → Counts
stated_counts a p c = record { agents = a; boundaries = 0; plants = p; contracts = c }

pub record StatementTold (text : List ℕ) (c : Counts) (before after : Lent) (list : List ℕ) (r : ℕ) (list' : List ℕ) : Type 0 where
  pub told : Told 3 (statement_answer (statement_of c before text)) list r list'
  pub lists : after ≡ cond (leb 3 (length list)) (lists_after (statement_of c before text) text before) before
