-- What is left to read is worth what all of it is, and is all digits where all of it is.
use Rattle.std.proofs.Common.{◌≡◌, ◌≤◌, min, drop}
use Rattle.text.specs.Fields.{all_digits, worth}
use Rattle.text.proofs.numbers.digits.Given as goal

abbrev pub invariant-loop-b : goal.invariant-loop-b
invariant-loop-b l = record {
  held : l.value ≤ 1000000000000000000;
  digits : all_digits (drop l.b-index l.s) ≡ all_digits l.s;
  worth : min (worth l.value (drop l.b-index l.s)) 1000000000000000000 ≡ min (worth 0 l.s) 1000000000000000000;
}
