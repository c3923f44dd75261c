-- The line so far is what the fields so far give; no field counts more than one.
use Rattle.std.proofs.Common.{◌≡◌, ◌≤◌, length, map}
use Rattle.text.specs.Lines.{over, step, empty_line}
use Rattle.text.proofs.read_fields.Given as goal

abbrev pub invariant-loop-field : goal.invariant-loop-field
invariant-loop-field l = record {
  walked : l.l ≡ over step empty_line (map (λ x. x.now) l.yielded);
  few : l.l.count ≤ length l.yielded;
}
