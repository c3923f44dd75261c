use Rattle.std.proofs.Common.{◌≡◌, ◌+◌, length, sym, arith}
use Rattle.mend.specs.Mend.{count_to, changed}
use Rattle.mend.proofs.Places.{count_none, count_few}
use Rattle.mend.proofs.Changes.{changes_more}
use Rattle.mend.proofs.count_changes.Goals as goal

-- the byte read adds its change
more : (c : goal.After-one_if_changed-n)
    → c.loop-k.n + c.one_if_changed-n.result ≡ count_to (changed c.args.s.now) (c.loop-k.k + 1)
more c =
    rw (c.one_if_changed-n.ensures, c.mended_at.ensures, c.loop-k.invariant)
    (sym (changes_more c.args.s.now c.loop-k.k))

pub loop-k-init : goal.loop-k-init
loop-k-init c = sym (count_none _)

pub overflow_add-n : goal.overflow_add-n
overflow_add-n c = omega (arith, more c, count_few (changed c.args.s.now) (c.loop-k.k + 1))

pub loop-k-preserved : goal.loop-k-preserved
loop-k-preserved c = more c

pub returns : goal.returns
returns c = let e : c.loop-k.k ≡ length c.args.s.now = omega arith in rw e at c.loop-k.invariant
