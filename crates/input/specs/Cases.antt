-- Of a number, a list and a case: what was read lies within the buffer, and is what the reader had to give, where it says what that is.
-- Assumes nothing.
use Rattle.std.specs.Prelude.{ℕ, ◌≡◌, ◌+◌, ◌*◌, ◌≤◌, ◌<◌, List, [], ◌∷◌, ◌++◌, length, take, slice_index, ◌⊎◌, ⊤, Option, Some, None, Result, Ok, Err}
use Rattle.std.specs.Io.KnownBytes.{Consumes, IsAtEnd}
use Rattle.input.specs.declared.cases.Broken.{Broken}

-- the answer to what comes next: none where the input ended before it
abbrev pub Next : Type 0
Next = Result (Option ℕ) Broken

abbrev pub CaseWithin : Next → ℕ → Type 0
CaseWithin (Ok (Some n)) size = n ≤ size
CaseWithin (Ok None) size = 0 ≤ size
CaseWithin (Err why) size = 0 ≤ size

abbrev pub GotWithin : Option ℕ → ℕ → Type 0
GotWithin (Some n) size = n ≤ size
GotWithin None size = 0 ≤ size

-- the number that four bytes are, the low one first
abbrev pub number_of : List ℕ → ℕ
number_of bs = slice_index bs 0 + 256 * slice_index bs 1 + 65536 * slice_index bs 2 + 16777216 * slice_index bs 3

-- a number is the reader's next four bytes; where there are none the input ended before it, and where they are fewer, within it
abbrev pub NumberTaken : Option (List ℕ) → Option (List ℕ) → Next → Type 0
NumberTaken old new (Ok (Some x)) = (bs : List ℕ) × Consumes old new bs × (length bs ≡ 4) × (x ≡ number_of bs)
NumberTaken old new (Ok None) = Consumes old new [] × IsAtEnd new
NumberTaken old new (Err Broken.Cut) = (bs : List ℕ) × Consumes old new bs × (0 < length bs) × (length bs < 4) × IsAtEnd new
NumberTaken old new (Err (Broken.Failed why)) = (bs : List ℕ) × Consumes old new bs

-- the n bytes of a sheet are the reader's next; it is cut where the buffer is too short, and nothing was read then, or where the input ends
abbrev pub SheetTaken : Option (List ℕ) → Option (List ℕ) → Next → ℕ → List ℕ → Type 0
SheetTaken old new (Ok (Some m)) n buf = Consumes old new (take n buf) × (m ≡ n)
SheetTaken old new (Ok None) n buf = ⊥
SheetTaken old new (Err Broken.Cut) n buf = (length buf < n → Consumes old new []) × (n ≤ length buf → IsAtEnd new)
SheetTaken old new (Err (Broken.Failed why)) n buf = (bs : List ℕ) × Consumes old new bs

-- a case is the reader's next four bytes, and as many behind them as they say; where nothing is left there is none
abbrev pub CaseTaken : Option (List ℕ) → Option (List ℕ) → Next → List ℕ → Type 0
CaseTaken old new (Ok (Some n)) buf = (bs : List ℕ) × Consumes old new (bs ++ take n buf) × (length bs ≡ 4) × (n ≡ number_of bs)
CaseTaken old new (Ok None) buf = Consumes old new [] × IsAtEnd new
CaseTaken old new (Err Broken.Cut) buf =
    IsAtEnd new ⊎ ((bs : List ℕ) × Consumes old new bs × (length bs ≡ 4) × (length buf < number_of bs))
CaseTaken old new (Err (Broken.Failed why)) buf = (bs : List ℕ) × Consumes old new bs

-- numbers are read one behind another
unfoldable pub NumbersTaken : Option (List ℕ) → Option (List ℕ) → List ℕ → Type 0
NumbersTaken old new [] = Consumes old new []
NumbersTaken old new (x ∷ xs) = (mid : Option (List ℕ)) × NumberTaken old mid (Ok (Some x)) × NumbersTaken mid new xs

-- a list is a number, and as many numbers behind it as it says
abbrev pub ListTaken : Option (List ℕ) → Option (List ℕ) → Option ℕ → List ℕ → Type 0
ListTaken old new (Some n) out =
    (mid : Option (List ℕ)) × NumberTaken old mid (Ok (Some n)) × NumbersTaken mid new (take n out)
ListTaken old new None out = ⊤
