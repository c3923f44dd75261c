use Rattle.std.proofs.Common.{◌≡◌, ℕ, ◌+◌, ◌-◌, ◌≤◌, length, take, drop, sym, ap, ap₂, ◌∙◌, arith}
use Rattle.std.proofs.lemmas.List.{length-replicate}
use Rattle.sums.specs.Lists.{at}
use Rattle.sums.proofs.Sums.{sum_none, sum_step, sum_front}
use Rattle.day.specs.Day.{hours, no_summary}
use Rattle.day.proofs.Hours.{hours_none, hours_next}
use Rattle.day.proofs.settle_hours.Goals as goal

pub loop-h-init : goal.loop-h-init
loop-h-init c = record {
  start = sym (sum_none _);
  done = hours_none _ _ _ _ (ap length c.alike-all.ensures ∙ length-replicate hours no_summary);
}

-- this hour's sheet lies within the bytes
pub overflow_add-end : goal.overflow_add-end
overflow_add-end c =
    omega (arith, c.loop-h.invariant.start, sum_front hours c.loop-h.h (at c.args.lengths.now) (omega arith), c.requires.sheets)

pub slice_bounds-settle_hour-end : goal.slice_bounds-settle_hour-end
slice_bounds-settle_hour-end c =
    let inside : c.loop-h.start + at c.args.lengths.now c.loop-h.h ≤ length c.args.sheets.now =
    omega (arith, c.loop-h.invariant.start, sum_front hours c.loop-h.h (at c.args.lengths.now) (omega arith), c.requires.sheets) in
    inside

pub loop-h-preserved : goal.loop-h-preserved
loop-h-preserved c =
    let a = c.args in
    let i = c.loop-h.invariant in
    let n : c.loop-h.start + at a.lengths.now c.loop-h.h - c.loop-h.start ≡ at a.lengths.now c.loop-h.h = omega arith in
    record {
      start = rw sum_step (omega (arith, i.start));
      done =
          hours_next a.sheets.now a.lengths.now _ c.loop-h.h _ _ c.loop-h.all _ (omega arith) i.done _
          (ap₂ (λ (k m : ℕ). take k (drop m a.sheets.now)) n i.start) c.settle_hour.ensures;
    }
