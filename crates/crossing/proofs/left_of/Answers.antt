use Rattle.std.proofs.Common.{◌≡◌, arith, length, ap, ap₂, ◌∙◌}
use mathlib.Core.Logic.{inl, inr}
use Rattle.std.specs.Iterator.Adapters.{zip_first, zip_second}
use Rattle.std.specs.Slice.Iter.{chunks_rest}
use Rattle.std.proofs.lemmas.List.{length-append}
use Rattle.sums.specs.Lists.{at}
use Rattle.crossing.specs.Crossing.{held_below}
use Rattle.crossing.proofs.Rows.{held_none, held_stretch}
use Rattle.crossing.proofs.left_of.Goals as goal

pub loop-k-preserved : goal.loop-k-preserved
loop-k-preserved c =
    let h = c.in-Some.ensures.steps in
    let i = c.loop-k.invariant in
    let x = c.args.x in
    let ks = c.in-Some.k.now in
    let vs = c.in-Some.v.now in
    let keys = chunks_rest (zip_first c.next.new.self) in
    let values = chunks_rest (zip_second c.next.new.self) in
    let a = ap length h.0.1.0 in
    let b = ap length h.1.1.0 in
    let front : length vs ≡ length ks = omega arith in
    let e = ap₂ (λ p q. held_below (at p) (at q) (length p) x) h.0.1.0 h.1.1.0 ∙ held_stretch ks keys vs values x front in
    record {
      first_size = h.0.0 ∙ i.first_size;
      second_size = h.1.0 ∙ i.second_size;
      beside = omega (arith, length-append ks keys, length-append vs values);
      within = omega arith;
      rest = omega (arith, e, i.rest);
    }

pub returns : goal.returns
returns c =
    let h = c.in-None.ensures.steps in
    let i = c.loop-k.invariant in
    let keys = chunks_rest (zip_first c.loop-k.k-iterator) in
    let values = chunks_rest (zip_second c.loop-k.k-iterator) in
    let none : length keys ≡ 0 = elim h [ inl u ↦ u.1.1.0 | inr u ↦ omega (arith, u.1.1.0) ] in
    omega (arith, held_none (at keys) (at values) c.args.x, ap (λ n. held_below (at keys) (at values) n c.args.x) none)
