use Rattle.std.proofs.Common.{◌≡◌, ◌||◌, ℕ, Bool, ltb, length, ap, ◌∙◌, arith}
use mathlib.Core.Path.{ap₂}
use Rattle.sums.specs.Sums.{pick}
use Rattle.sums.specs.Lists.{at}
use Rattle.sums.proofs.Sums.{sum_none, sum_step}
use Rattle.contracts.specs.Keys.{is_fixed}
use Rattle.contracts.specs.Walk.{quantity_of}
use Rattle.contracts.proofs.Walks.{scattered_none, scattered_more}
use Rattle.contracts.proofs.walk.serve_firm.Goals as goal

pub loop-k-init : goal.loop-k-init
loop-k-init c = record {
  left = omega (arith, sum_none (λ u. quantity_of c.args.section.now (at c.args.keys.now u)));
  given = scattered_none;
}

pub loop-k-preserved : goal.loop-k-preserved
loop-k-preserved c =
    let inv = c.loop-k.invariant in
    let amount =
    c.firm.ensures
    ∙ ap (λ (t : Bool). pick (t || ltb 0 c.loop-k.tally.left) c.quantity_of-q.result) c.fixed.ensures
    ∙ ap₂ (λ (y z : ℕ). pick (is_fixed (at c.args.keys.now c.loop-k.k-index) || ltb 0 y) z) inv.left c.quantity_of-q.ensures in
    record {
      left =
          omega (
            arith,
            c.take-tally.ensures,
            c.quantity_of-q.ensures,
            inv.left,
            sum_step c.loop-k.k-index (λ u. quantity_of c.args.section.now (at c.args.keys.now u)),
          );
      given = scattered_more c.requires (omega arith) c.row_of.ensures amount inv.given;
    }

pub returns : goal.returns
returns c =
    let e : c.loop-k.k-index ≡ length c.args.keys.now = omega arith in
    rw e at c.loop-k.invariant.given
