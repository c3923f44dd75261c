use Rattle.std.proofs.Common.{◌≡◌, ℕ, ◌+◌, ◌*◌, length, sym, ap, ◌∙◌, arith}
use Rattle.sums.specs.Lists.{at}
use Rattle.sums.proofs.Fill.{filled_none, filled_more, filled_count}
use Rattle.mend.specs.Mend.{count_to, changed, mended_at}
use Rattle.mend.specs.Steps.{notes, noted}
use Rattle.mend.proofs.Places.{count_none}
use Rattle.mend.proofs.Changes.{changes_more, changes_room, report_more}
use Rattle.mend.proofs.write_mended.Goals as goal

pub loop-k-init : goal.loop-k-init
loop-k-init c =
    record { noted = sym (count_none _); copied = filled_none _ _ _; reported = filled_none _ _ _ }

pub bounds-copy-k : goal.bounds-copy-k
bounds-copy-k c = omega (arith, c.loop-k.invariant.copied.long)

pub note-n-requires : goal.note-n-requires
note-n-requires c =
    let s = c.args.s.now in
    let k = c.loop-k.k in
    let room = changes_room s k (omega arith) in
    let e = ap (λ (x : ℕ). notes (at s k) x) c.mended_at-new.ensures in
    (omega (arith, c.loop-k.invariant.reported.long), omega arith)

pub loop-k-preserved : goal.loop-k-preserved
loop-k-preserved c =
    let s = c.args.s.now in
    let k = c.loop-k.k in
    let inv = c.loop-k.invariant in
    let new = c.mended_at-new.ensures in
    let n : c.note-n.result ≡ count_to (changed s) (k + 1)
    = (rw (inv.noted, new) at c.note-n.ensures.0) ∙ sym (changes_more s k) in
    let f = report_more s _ _ k (omega arith) c.requires.1.1 (rw inv.noted at inv.reported) in
    let e : c.note-n.new.report ≡ noted c.loop-k.report (count_to (changed s) k) k (at s k) (mended_at s k)
    = rw (inv.noted, new) at c.note-n.ensures.1 in
    record {
      noted = n;
      copied = filled_more _ _ _ _ _ _ (omega (arith, inv.copied.long)) new inv.copied;
      reported = rw (e, n) f;
    }

pub returns : goal.returns
returns c =
    let e : c.loop-k.k ≡ length c.args.s.now = omega arith in
    let inv = c.loop-k.invariant in
    let n = inv.noted ∙ ap (count_to (changed c.args.s.now)) e in (
      filled_count _ _ _ _ _ _ e inv.copied,
      filled_count _ _ _ _ _ _ (ap (λ (x : ℕ). 3 * x) n) inv.reported,
    )
