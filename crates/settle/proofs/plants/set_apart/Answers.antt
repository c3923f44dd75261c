-- The cell of the next plant has not been written yet.
use Rattle.std.proofs.Common.{◌≡◌, ℕ, ◌-◌, ap, ◌∙◌, sym, length, arith}
use Rattle.sums.specs.Lists.{at}
use Rattle.sums.proofs.Sums.{sum_none, sum_step, sum_front}
use Rattle.sums.proofs.Fill.{filled_none, filled_more}
use Rattle.settle.proofs.plants.set_apart.Goals as goal

pub loop-i-init : goal.loop-i-init
loop-i-init c = record { total = sym (sum_none _); spare = filled_none 0 _ _ }

pub overflow_add-total : goal.overflow_add-total
overflow_add-total c =
    let ms = c.args.musts.now in
    omega (arith, c.loop-i.invariant.total, sum_front (length ms) c.loop-i.i (at ms) (omega arith), c.requires.1)

pub loop-i-preserved : goal.loop-i-preserved
loop-i-preserved c =
    let i = c.loop-i.invariant in
    record {
      total = omega (arith, i.total, sum_step c.loop-i.i (at c.args.musts.now));
      spare =
          filled_more 0 _ c.loop-i.available c.loop-i.i _ _ (omega arith)
          (c.saturating_sub.ensures ∙ ap (λ (x : ℕ). x - at c.args.musts.now c.loop-i.i) (i.spare.kept c.loop-i.i (omega arith))) i.spare;
    }

pub returns : goal.returns
returns c =
    let e : c.loop-i.i ≡ length c.args.musts.now = omega arith in
    (rw e at c.loop-i.invariant.total, rw e at c.loop-i.invariant.spare)
