-- What can be wrong with a line of text: a list of its own, not to be mixed up with the refusals of a sheet. Assumes nothing.
use Rattle.std.specs.Prelude.{ℕ, Option, Some, None, Result, Ok, Err}
use Rattle.text.specs.declared.Fault.{Fault}
use Rattle.text.specs.declared.WrongLine.{WrongLine}

-- its number: 0 nothing, 1 an unknown word, 2 too few numbers, 3 too many, 4 not a number, 5 a number too large, 6 too many rows or one that the
-- sheet has not, 7 a row twice, 8 a row missing
unfoldable pub fault_number : Option Fault → ℕ
fault_number None = 0
fault_number (Some Fault.Word) = 1
fault_number (Some Fault.Few) = 2
fault_number (Some Fault.Many) = 3
fault_number (Some Fault.NotANumber) = 4
fault_number (Some Fault.TooLarge) = 5
fault_number (Some Fault.Rows) = 6
fault_number (Some Fault.Twice) = 7
fault_number (Some Fault.Missing) = 8

-- what a text gives whose last line read is this one, with what is wrong with it
abbrev pub unless_wrong : {A : Type 0} → (line : ℕ) → Option Fault → A → Result A WrongLine
unless_wrong line None x = Ok x
unless_wrong line (Some f) x = Err (record { line = line; fault = f })
