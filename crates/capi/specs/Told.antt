-- What a C caller is told: every answer is a number returned and numbers in a lent answer list. Where that list is too short for
-- them the function answers 11 and changes nothing at all. Assumes nothing.
use Rattle.std.specs.Prelude.{Result, Ok, Err}
use Rattle.sheet.specs.declared.Counts.{Counts}
use Rattle.refusals.specs.declared.Refusal.{Refusal}
use Rattle.std.specs.Prelude.{ℕ, ◌≡◌, cond, List, [], ◌∷◌, length, leb}
use Rattle.sums.specs.Lists.{at, Filled}
use Rattle.refusals.specs.Refusals.{no_room, number_of, refused, refused_unless, cells}
use Rattle.refusals.specs.Refusals.{Verdict}
use Rattle.share.specs.Share.{share_verdict, share_of}
use Rattle.sheet.specs.Reading.{read_of, sheet_length}
use Rattle.octets.specs.Bytes.{byte_of}
use Rattle.columns.specs.Columns.{hour_of}
use Rattle.hour.specs.Answer.{Lent, summary_of}
use Rattle.hour.specs.declared.Summary.{Summary}
use Rattle.settle.specs.Settled.{verdict_of, Outcome}
use Rattle.checking.specs.Check.{check_verdict}
use Rattle.page.specs.Page.{page_text}
use Rattle.writing.specs.Numbers.{Numbers, counts_in}
use Rattle.writing.specs.Words.{sheet_row}
use Rattle.writing.specs.Judged.{write_verdict}

-- sharing: the refusal's number, 0 where all is fine (its place is always 0), and the shares
pub record ShareTold (amount : ℕ) (weights before : List ℕ) (r : ℕ) (after : List ℕ) : Type 0 where
  pub number : r ≡ number_of (share_verdict weights before)
  pub shares : Filled 0 before after (cells (share_verdict weights before) (length weights)) (share_of amount weights)

-- an answer of k numbers: its first is returned and all are listed, where the lent list has room for them
pub record Told (k : ℕ) (answer before : List ℕ) (r : ℕ) (after : List ℕ) : Type 0 where
  pub number : r ≡ cond (leb k (length before)) (at answer 0) no_room
  pub listed : Filled 0 before after (cond (leb k (length before)) k 0) (at answer)

-- reading: number, place, and the four counts, 0 where refused
abbrev pub read_answer : Result Counts Refusal → List ℕ
read_answer (Ok c) = 0 ∷ 0 ∷ c.agents ∷ c.boundaries ∷ c.plants ∷ c.contracts ∷ []
read_answer (Err r) = r.number ∷ r.place ∷ 0 ∷ 0 ∷ 0 ∷ 0 ∷ []

abbrev pub ReadTold : (sheet before : List ℕ) → ℕ → (after : List ℕ) → Type 0
ReadTold sheet = Told 6 (read_answer (read_of sheet))

-- checking a statement: number and place
abbrev pub check_answer : Verdict → List ℕ
check_answer (Ok tt) = 0 ∷ 0 ∷ []
check_answer (Err r) = r.number ∷ r.place ∷ []

abbrev pub CheckTold : (sheet : List ℕ) (price : ℕ) (l : Lent) (before : List ℕ) → ℕ → (after : List ℕ) → Type 0
CheckTold sheet price l = Told 2 (check_answer (check_verdict sheet price l))

-- bytes put into a lent buffer: number, place, and the length written, 0 where refused; and the bytes
abbrev pub length_answer : Verdict → (size : ℕ) → List ℕ
length_answer (Ok tt) size = 0 ∷ 0 ∷ size ∷ []
length_answer (Err r) size = r.number ∷ r.place ∷ 0 ∷ []

pub record BytesTold (v : Verdict) (size : ℕ) (byte : ℕ → ℕ) (before list : List ℕ) (r : ℕ)
    (after list' : List ℕ) : Type 0 where
  pub told : Told 3 (length_answer v size) list r list'
  pub bytes : Filled 0 before after (cond (leb 3 (length list)) (cells v size) 0) byte

-- writing: the bytes of the sheet
abbrev pub WriteTold : (n : Numbers) (before list : List ℕ) → ℕ → (after list' : List ℕ) → Type 0
WriteTold n before = BytesTold (write_verdict n (length before)) (sheet_length (counts_in n)) (byte_of (sheet_row n)) before

-- the page: the bytes of its text
abbrev pub PageTold : (sheet before list : List ℕ) → ℕ → (after list' : List ℕ) → Type 0
PageTold sheet before =
    BytesTold (refused_unless (leb (length (page_text sheet)) (length before)) no_room 0) (length (page_text sheet))
    (at (page_text sheet)) before

-- settling: number, place, price, demand and losses; and the four lent lists as `settle` leaves them
abbrev pub summary_answer : Summary → List ℕ
summary_answer s = s.number ∷ s.place ∷ s.price ∷ s.demand ∷ s.losses ∷ []

abbrev pub summary_verdict : (sheet : List ℕ) (before : Lent) (list : List ℕ) → Verdict
summary_verdict sheet before list = cond (leb 5 (length list)) (verdict_of sheet before) (refused no_room 0)

pub record SettleTold (sheet : List ℕ) (before after : Lent) (list : List ℕ) (r : ℕ) (list' : List ℕ) : Type 0 where
  pub told : Told 5 (summary_answer (summary_of (verdict_of sheet before) (hour_of sheet))) list r list'
  pub hour : Outcome (summary_verdict sheet before list) (hour_of sheet) before after
      (summary_of (summary_verdict sheet before list) (hour_of sheet))
