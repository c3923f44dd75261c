use Rattle.std.proofs.Common.{◌≡◌, length, arith, refl}
use Rattle.std.proofs.lemmas.Slice.Zip.{zip_turn, zip_end}
use Rattle.std.proofs.lemmas.List.{length_push}
use Rattle.share.specs.Lacks.{lack_of}
use Rattle.share.proofs.Lacks.{next_none, next_more, next_few, lack_asked, lack_is}
use Rattle.share.proofs.least_from.Goals as goal

pub loop-weight-init : goal.loop-weight-init
loop-weight-init c = next_none _ _ _ c.requires.1

pub lack-requires : goal.lack-requires
lack-requires c =
    let p = c.args.p.now in
    let l = c.loop-weight in
    let t = zip_turn p.weights.now c.args.out.now l.yielded
    c.into_iter-weight-iterator.result l.weight-iterator c.next.new.self _ (cc) (cc) l.yielded_by _ c.in-Some.is c.next.ensures.steps in
    rw (t.2 0, t.3 0) (lack_asked p.amount p.weights.now p.total c.args.out.now c.requires.0 (length l.yielded) t.0 _ refl)

pub lesser-m-requires : goal.lesser-m-requires
lesser-m-requires c =
    let l = c.loop-weight in
    let t = zip_turn c.args.p.now.weights.now c.args.out.now l.yielded
    c.into_iter-weight-iterator.result l.weight-iterator c.next.new.self _ (cc) (cc) l.yielded_by _ c.in-Some.is c.next.ensures.steps in
    omega (arith, c.requires.0.sharing.few, next_few _ _ _ _ _ _ l.invariant)

pub loop-weight-preserved : goal.loop-weight-preserved
loop-weight-preserved c =
    let p = c.args.p.now in
    let l = c.loop-weight in
    let t = zip_turn p.weights.now c.args.out.now l.yielded
    c.into_iter-weight-iterator.result l.weight-iterator c.next.new.self _ (cc) (cc) l.yielded_by _ c.in-Some.is c.next.ensures.steps in
    simp length_push
    (next_more (lack_of p.amount p.weights.now) c.args.low c.args.high (length l.yielded) _ _ _ _ _
    (lack_is p.amount p.weights.now p.total c.args.out.now c.requires.0 (length l.yielded) t.0 _ (rw (t.2 0) at c.lack.ensures.0))
    c.lesser-m.ensures l.invariant)

pub returns : goal.returns
returns c =
    let l = c.loop-weight in
    let ws = c.args.p.now.weights.now in
    let n = zip_end ws c.args.out.now l.yielded
    c.into_iter-weight-iterator.result l.weight-iterator c.next.new.self _ (cc) (cc) l.yielded_by c.in-None.is c.next.ensures.steps in
    let e : length l.yielded ≡ length ws = omega (arith, c.requires.0.room) in
    rw e at l.invariant
