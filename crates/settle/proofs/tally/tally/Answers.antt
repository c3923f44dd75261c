-- Row j names an agent, and its cell has room for what as many rows can come to.
use Rattle.std.proofs.Common.{◌≡◌, ◌+◌, ◌<◌, length, length-set, arith}
use Rattle.std.proofs.lemmas.List.{length_push}
use Rattle.std.proofs.lemmas.Slice.Zip.{zip_turn, zip_end}
use Rattle.limits.specs.Limits.{most_agents, most_available}
use Rattle.sums.specs.Lists.{at}
use Rattle.sums.proofs.Keyed.{keyed_none, keyed_beside, keyed_most}
use Rattle.settle.proofs.tally.tally.Goals as goal

pub loop-key-init : goal.loop-key-init
loop-key-init c = record {
  long = c.requires.cells;
  each = λ a l. omega (arith, keyed_none (at c.args.keys.now) (at c.args.values.now) a);
}

pub overflow_add-out : goal.overflow_add-out
overflow_add-out c =
    let i = c.loop-key.invariant in
    let ks = c.args.keys.now in
    let vs = c.args.values.now in
    let t = zip_turn ks vs c.loop-key.yielded c.into_iter-key-iterator.result c.loop-key.key-iterator c.next.new.self _ (cc) (cc)
    c.loop-key.yielded_by _ c.in-Some.is c.next.ensures.steps in
    let k : c.in-Some.field-0-0.now ≡ at ks (length c.loop-key.yielded) = t.2 0 in
    let v : c.in-Some.field-0-1.now ≡ at vs (length c.loop-key.yielded) = t.3 0 in
    let there : c.in-Some.field-0-0.now < most_agents = omega (arith, c.requires.agent (length c.loop-key.yielded) t.0) in
    let fits : at c.loop-key.out c.in-Some.field-0-0.now + c.in-Some.field-0-1.now < 4294967296 =
    omega (
      arith,
      i.each c.in-Some.field-0-0.now there,
      c.requires.value (length c.loop-key.yielded) t.0,
      c.requires.small c.in-Some.field-0-0.now there,
      c.requires.few,
      keyed_most (at ks) (at vs) (length c.loop-key.yielded) c.in-Some.field-0-0.now most_available
          (λ j m. c.requires.value j (omega arith)),
    ) in record { fits = fits }

pub loop-key-preserved : goal.loop-key-preserved
loop-key-preserved c =
    let i = c.loop-key.invariant in
    let ks = c.args.keys.now in
    let vs = c.args.values.now in
    let t = zip_turn ks vs c.loop-key.yielded c.into_iter-key-iterator.result c.loop-key.key-iterator c.next.new.self _ (cc) (cc)
    c.loop-key.yielded_by _ c.in-Some.is c.next.ensures.steps in
    let k : c.in-Some.field-0-0.now ≡ at ks (length c.loop-key.yielded) = t.2 0 in
    let v : c.in-Some.field-0-1.now ≡ at vs (length c.loop-key.yielded) = t.3 0 in
    let there : c.in-Some.field-0-0.now < most_agents = omega (arith, c.requires.agent (length c.loop-key.yielded) t.0) in
    record {
      long = simp length-set i.long;
      each =
          λ b m. rw (length_push c.loop-key.yielded (c.in-Some.field-0-0, c.in-Some.field-0-1))
          (keyed_beside (at ks) (at vs) (length c.loop-key.yielded) c.loop-key.out c.in-Some.field-0-0.now c.in-Some.field-0-1.now k v
          (omega (arith, i.long)) b _ (i.each b m));
    }

pub returns : goal.returns
returns c =
    let n = zip_end c.args.keys.now c.args.values.now c.loop-key.yielded c.into_iter-key-iterator.result c.loop-key.key-iterator
    c.next.new.self _ (cc) (cc) c.loop-key.yielded_by c.in-None.is c.next.ensures.steps in
    let e : length c.loop-key.yielded ≡ length c.args.keys.now = omega (arith, n, c.requires.long) in
    rw e at c.loop-key.invariant.each
