-- What was read lies within the buffer, and is what the reader had to give, where it says what that is. What a file or the standard input
-- has, no contract can say. Assumes nothing.
use Rattle.std.specs.Prelude.{ℕ, ◌≤◌, ◌<◌, List, length, take, Option, Result, Ok, Err}
use Rattle.std.specs.Io.KnownBytes.{Consumes, IsAtEnd}

abbrev pub Within : {E : Type 0} → Result ℕ E → ℕ → Type 0
Within (Ok n) size = n ≤ size
Within (Err why) size = 0 ≤ size

-- the first n bytes of the buffer are the reader's next, and where they don't fill it nothing is left; of a read that fails, nothing is lost
-- but what stands at the front of the buffer
abbrev pub Taken : {E : Type 0} → Option (List ℕ) → Option (List ℕ) → Result ℕ E → List ℕ → Type 0
Taken old new (Ok n) buf = Consumes old new (take n buf) × (n < length buf → IsAtEnd new)
Taken old new (Err why) buf = (k : ℕ) × Consumes old new (take k buf)
