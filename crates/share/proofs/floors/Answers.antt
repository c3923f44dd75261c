-- Quotient and remainder are the definition's, and the floors of all weights are at most the amount, so that the next one fits what is
-- left (`fits`).
use Rattle.std.proofs.Common.{◌≡◌, ℕ, ◌+◌, ◌-◌, ◌*◌, ◌/◌, ◌%◌, ◌^◌, ◌<◌, List, length, arith, ap, ◌∙◌}
use Rattle.sums.specs.Sums.{sum}
use Rattle.sums.specs.Lists.{at, total}
use Rattle.sums.proofs.Sums.{sum_none, sum_step}
use Rattle.sums.proofs.Fill.{filled_none, filled_more}
use Rattle.share.specs.Share.{floor_of, left_over}
use Rattle.share.specs.Lacks.{lack_of}
use Rattle.share.proofs.Proportion.{floors_le, weight_le}
use Rattle.share.proofs.Lacks.{total_pos, classed_none, classed_more, classed_few}
use Rattle.share.proofs.floors.Goals as goal

-- the floor fits what is left
fits : (a : ℕ) (ws : List ℕ) (i left f : ℕ)
    → 0 < total ws
    → i < length ws
    → left + sum i (floor_of a ws) ≡ a
    → f ≡ floor_of a ws i
    → left ≡ f + (a - sum (i + 1) (floor_of a ws))
fits a ws i left f pos l h e = omega (arith, sum_step i (floor_of a ws), floors_le a ws pos (i + 1) (omega arith))

pub loop-i-init : goal.loop-i-init
loop-i-init c =
    let p = c.args.p.now in
    record {
      left = omega (arith, sum_none (floor_of p.amount p.weights.now));
      filled = filled_none 0 _ _;
      counted = classed_none _ _ _ _ c.requires.3;
    }

pub divide-d-requires : goal.divide-d-requires
divide-d-requires c =
    let p = c.args.p.now in (
      c.requires.0.above,
      omega (arith, c.requires.0.is, weight_le p.amount p.weights.now c.loop-i.i (omega arith)),
      c.rate_of-rate.ensures,
    )

pub note-requires : goal.note-requires
note-requires c =
    let p = c.args.p.now in
    let l = c.loop-i in (
      c.requires.2,
      l.invariant.counted.long,
      classed_few (lack_of p.amount p.weights.now) 0 (2 ^ c.args.s) l.i l.counts (omega (arith, c.requires.0.few)) l.invariant.counted,
    )

pub overflow_sub-left : goal.overflow_sub-left
overflow_sub-left c =
    let p = c.args.p.now in
    let l = c.loop-i in
    let e = c.divide-d.ensures.0 ∙ ap (λ (z : ℕ). p.amount * at p.weights.now l.i / z) c.requires.0.is in
    omega (arith, fits p.amount p.weights.now l.i l.left _ (total_pos _ _ c.requires.0) (omega arith) l.invariant.left e)

pub loop-i-preserved : goal.loop-i-preserved
loop-i-preserved c =
    let p = c.args.p.now in
    let l = c.loop-i in
    let sh = c.requires.0 in
    let e = c.divide-d.ensures.0 ∙ ap (λ (z : ℕ). p.amount * at p.weights.now l.i / z) sh.is in
    let lacks : p.total - c.divide-d.result.remainder ≡ lack_of p.amount p.weights.now l.i =
    ap (λ (z : ℕ). p.total - z) c.divide-d.ensures.1 ∙ ap (λ (z : ℕ). z - p.amount * at p.weights.now l.i % z) sh.is in
    record {
      left =
          omega (
            arith,
            fits p.amount p.weights.now l.i l.left _ (total_pos _ _ sh) (omega arith) l.invariant.left e,
            l.invariant.left,
            e,
            sum_step l.i (floor_of p.amount p.weights.now),
          );
      filled = filled_more 0 _ _ _ _ _ (omega (arith, l.invariant.filled.long)) e l.invariant.filled;
      counted = classed_more (lack_of p.amount p.weights.now) 0 (2 ^ c.args.s) l.i _ _ _ lacks c.note.ensures l.invariant.counted;
    }

pub returns : goal.returns
unfolding left_over
returns c =
    let l = c.loop-i in
    let e : l.i ≡ length c.args.p.now.weights.now = omega arith in (
      record { left = omega (arith, rw e at l.invariant.left); result = rw e at l.invariant.filled },
      rw e at l.invariant.counted,
    )
