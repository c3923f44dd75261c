use Rattle.std.proofs.Common.{◌≡◌, length, arith, ◌∙◌, ap}
use Rattle.std.proofs.lemmas.List.{length_push}
use Rattle.std.proofs.lemmas.Slice.Zip.{zip_turn, zip_end}
use Rattle.contracts.specs.Keys.{key_row}
use Rattle.contracts.proofs.Walks.{scattered_none, scattered_fits, scattered_more}
use Rattle.contracts.proofs.walk.scatter.Goals as goal

pub loop-k-init : goal.loop-k-init
loop-k-init c = scattered_none

pub bounds-out-row_of : goal.bounds-out-row_of
bounds-out-row_of c =
    let t =
    zip_turn c.args.keys.now c.args.amounts.now c.loop-k.yielded c.into_iter-k-iterator.result c.loop-k.k-iterator
    c.next.new.self c.next.result (cc) (cc) c.loop-k.yielded_by _ c.in-Some.is c.next.ensures.steps in
    scattered_fits c.requires.0 t.0 (c.row_of.ensures ∙ ap key_row (t.2 0)) c.loop-k.invariant

pub loop-k-preserved : goal.loop-k-preserved
loop-k-preserved c =
    let t =
    zip_turn c.args.keys.now c.args.amounts.now c.loop-k.yielded c.into_iter-k-iterator.result c.loop-k.k-iterator
    c.next.new.self c.next.result (cc) (cc) c.loop-k.yielded_by _ c.in-Some.is c.next.ensures.steps in
    rw length_push
    (scattered_more c.requires.0 t.0 (c.row_of.ensures ∙ ap key_row (t.2 0)) (t.3 0) c.loop-k.invariant)

pub returns : goal.returns
returns c =
    let n =
    zip_end c.args.keys.now c.args.amounts.now c.loop-k.yielded c.into_iter-k-iterator.result c.loop-k.k-iterator
    c.next.new.self c.next.result (cc) (cc) c.loop-k.yielded_by c.in-None.is c.next.ensures.steps in
    let e : length c.loop-k.yielded ≡ length c.args.keys.now = omega (arith, n, c.requires.1) in
    rw e at c.loop-k.invariant
