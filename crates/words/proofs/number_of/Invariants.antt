-- The bytes so far spell the value so far.
use Rattle.std.proofs.Common.{◌≡◌, Some}
use Rattle.words.specs.Words.{spelled_to}
use Rattle.words.proofs.number_of.Given as goal

abbrev pub invariant-loop-byte : goal.invariant-loop-byte
invariant-loop-byte l = spelled_to l.word l.byte-index ≡ Some l.value
