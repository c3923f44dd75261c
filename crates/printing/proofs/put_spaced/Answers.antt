use Rattle.std.proofs.Common.{ℕ, ◌<◌, ◌∷◌, List, length, drop, arith, refl, sym, ap, ◌∙◌}
use Rattle.std.specs.Prelude.{reverse}
use Rattle.std.proofs.lemmas.Iterator.Adapters.{YieldsList-from_rev_slice}
use Rattle.std.proofs.lemmas.Iterator.Consumers.{YieldsList-turn, YieldsList-end}
use Rattle.std.proofs.lemmas.List.{length_push, length-reverse, reverse-reverse}
use Rattle.printing.specs.Text.{spaced, decimal}
use Rattle.printing.proofs.Text.{one_before}
use Rattle.printing.proofs.put_spaced.Goals as goal

pub loop-n-init : goal.loop-n-init
unfolding spaced
loop-n-init c = record { can_next = tt; is_finite = tt; long = refl; low = omega arith; high = omega arith; stands = refl }

pub put_spaced_one-i-requires : goal.put_spaced_one-i-requires
put_spaced_one-i-requires c =
    let l = c.loop-n in
    let from = YieldsList-from_rev_slice {s = c.into_iter-n-iterator.result} c.args.v.now cc in
    let more = YieldsList-turn from l.yielded _ l.yielded_by _ _ c.in-Some.field-0 c.in-Some.is c.next.ensures.steps in
    let below : length l.yielded < length c.args.v.now = omega (arith, more.0, length-reverse c.args.v.now) in
    (omega arith, omega arith)

pub loop-n-preserved : goal.loop-n-preserved
unfolding spaced
loop-n-preserved c =
    let l = c.loop-n in
    let n = c.in-Some.field-0 in
    record {
      can_next = tt;
      is_finite = tt;
      long = c.put_spaced_one-i.auto.s ∙ l.invariant.long;
      low = omega (arith, length_push l.yielded n);
      high = omega arith;
      stands =
          c.put_spaced_one-i.ensures.text_is ∙ ap (λ (t : List ℕ). decimal n.now (32 ∷ t)) l.invariant.stands
          ∙ ap (λ (ns : List ℕ). spaced ns (drop c.args.at c.args.s.now)) (sym (one_before (λ y. y.now) l.yielded n));
    }

pub returns : goal.returns
returns c =
    let l = c.loop-n in
    let v = c.args.v.now in
    let from = YieldsList-from_rev_slice {s = c.into_iter-n-iterator.result} v cc in
    let all = YieldsList-end from l.yielded _ l.yielded_by _ _ c.in-None.is c.next.ensures.steps in
    record {
      text_is = l.invariant.stands ∙ ap (λ (ns : List ℕ). spaced ns (drop c.args.at c.args.s.now)) (ap reverse all.0 ∙ reverse-reverse v);
      low = omega (arith, all.1, length-reverse v);
      high = l.invariant.high;
    }
