-- Hour h fills the five cells behind those of the hours before it.
use Rattle.std.proofs.Common.{◌≡◌, ◌+◌, ◌*◌, ◌/◌, ◌%◌, length, ap, ◌∙◌, arith}
use native.Mathlib.Nat.{add-sub_cancel_left}
use Rattle.sums.proofs.Fill.{filled_none}
use Rattle.capi.specs.WholeDay.{hour_numbers, day_numbers, day_cell}
use Rattle.capi.proofs.Copied.{part_copied}
use Rattle.capi.proofs.whole_day.tell_hours.Goals as goal

pub loop-h-init : goal.loop-h-init
loop-h-init c = filled_none 0 _ _

pub loop-h-preserved : goal.loop-h-preserved
unfolding day_cell
loop-h-preserved c =
    let h = c.loop-h.h in
    let ys = c.copy_from_slice.new.self in
    let told = c.copy_from_slice.ensures.after ∙ c.summary_numbers.ensures in
    let room = c.loop-h.invariant.long in
    let next : hour_numbers * h + hour_numbers ≡ hour_numbers * (h + 1) = omega arith in
    rw (add-sub_cancel_left, ← next)
    (part_copied c.loop-h.out ys (hour_numbers * h) hour_numbers (omega arith) (ap length told) c.args.out.now (day_cell c.args.all)
    (λ j m. let q : (hour_numbers * h + j) / hour_numbers ≡ h = omega arith in
    let r : (hour_numbers * h + j) % hour_numbers ≡ j = omega arith in
    rw (q, r, told)) c.loop-h.invariant)

pub returns : goal.returns
returns c = let e : hour_numbers * c.loop-h.h ≡ day_numbers = omega arith in rw e at c.loop-h.invariant
