use Rattle.std.proofs.Common.{◌≡◌, length, refl, arith}
use Rattle.contracts.proofs.Walks.{scattered_none, scattered_more}
use Rattle.contracts.proofs.walk.nothing.Goals as goal

pub loop-k-init : goal.loop-k-init
loop-k-init c = scattered_none

pub loop-k-preserved : goal.loop-k-preserved
loop-k-preserved c = scattered_more c.requires (omega arith) c.row_of.ensures refl c.loop-k.invariant

pub returns : goal.returns
returns c =
    let e : c.loop-k.k-index ≡ length c.args.keys.now = omega arith in
    rw e at c.loop-k.invariant
