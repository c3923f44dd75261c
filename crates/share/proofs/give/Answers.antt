-- A weight's unit is the definition's (`share_taken`), and with its floor makes its share.
use Rattle.std.proofs.Common.{◌≡◌, ℕ, ◌+◌, arith, ap, le_refl}
use lib.Dec.{eqb}
use Rattle.crossing.specs.Crossing.{taken}
use Rattle.sums.specs.Sums.{pick}
use Rattle.sums.specs.Lists.{at}
use Rattle.sums.proofs.Keyed.{keyed_none, keyed_step}
use Rattle.sums.proofs.Fill.{filled_none, filled_more}
use Rattle.share.specs.Share.{share_of}
use Rattle.share.specs.Lacks.{lack_of, one}
use Rattle.share.proofs.Laws.{share_most}
use Rattle.share.proofs.Lacks.{total_pos, share_taken, byte_is, lack_is}
use Rattle.share.proofs.give.Goals as goal

pub loop-i-init : goal.loop-i-init
loop-i-init c =
    let p = c.args.p.now in
    record { rest = rw keyed_none (omega arith); filled = filled_none 0 _ _ }

pub overflow_add-out : goal.overflow_add-out
overflow_add-out c =
    let p = c.args.p.now in
    let l = c.loop-i in
    let h = c.requires.0 in
    let lacks = lack_is p.amount p.weights.now p.total c.args.out.now h l.i (omega arith) _ c.lack-k.ensures.0 in
    omega (
      arith,
      l.invariant.filled.kept l.i (le_refl l.i),
      h.floors l.i (omega arith),
      c.unit.ensures,
      ap (λ (z : ℕ). taken z c.args.x 1 l.rest) lacks,
      share_taken p.amount p.weights.now (total_pos p.weights.now p.total h.sharing) c.args.x c.args.left c.requires.1 l.i l.rest
          (omega arith) l.invariant.rest,
      share_most p.amount p.weights.now l.i (omega arith),
    )

pub loop-i-preserved : goal.loop-i-preserved
loop-i-preserved c =
    let p = c.args.p.now in
    let l = c.loop-i in
    let x = c.args.x in
    let h = c.requires.0 in
    let key = lack_of p.amount p.weights.now in
    let lacks = lack_is p.amount p.weights.now p.total c.args.out.now h l.i (omega arith) _ c.lack-k.ensures.0 in
    let share : at l.out l.i + c.unit.result ≡ share_of p.amount p.weights.now l.i =
    omega (
      arith,
      l.invariant.filled.kept l.i (le_refl l.i),
      h.floors l.i (omega arith),
      c.unit.ensures,
      ap (λ (z : ℕ). taken z x 1 l.rest) lacks,
      share_taken p.amount p.weights.now (total_pos p.weights.now p.total h.sharing) x c.args.left c.requires.1 l.i l.rest
          (omega arith) l.invariant.rest,
    ) in
    record {
      rest =
          omega (
            arith,
            l.invariant.rest,
            keyed_step key one l.i x,
            ap (λ (z : ℕ). pick (eqb z x) 1) lacks,
            byte_is (eqb c.lack-k.result x),
          );
      filled = filled_more 0 _ _ _ _ _ (omega (arith, l.invariant.filled.long)) share l.invariant.filled;
    }
