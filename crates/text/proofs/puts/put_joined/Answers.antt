use Rattle.std.proofs.Common.{◌≡◌, ℕ, ◌-◌, List, [], ◌∷◌, ◌++◌, reverse, length, drop, refl, sym, ap, ◌∙◌, arith, length-append}
use Rattle.std.proofs.lemmas.List.{length-reverse}
use Rattle.std.proofs.lemmas.Iterator.Consumers.{YieldsList-turn, YieldsList-end}
use Rattle.std.proofs.lemmas.Iterator.Adapters.{YieldsList-from_rev_slice}
use lib.Seq.{drop-length}
use Rattle.printing.specs.Text.{decimal}
use Rattle.text.specs.Written.{joined}
use Rattle.text.proofs.Written.{joined_more, from_back}
use Rattle.text.proofs.puts.put_joined.Goals as goal

pub loop-n-init : goal.loop-n-init
unfolding joined
loop-n-init c =
    let a = c.args in
    let z : length a.v.now - 0 ≡ length a.v.now = omega arith in
    record {
      long = refl;
      going = λ p q. record {
        low = omega arith;
        high = omega arith;
        text = rw z (sym (ap (λ (t : List ℕ). joined t (drop a.at a.s.now)) (drop-length a.v.now)));
      };
    }

pub loop-n-preserved : goal.loop-n-preserved
loop-n-preserved c =
    let a = c.args in
    let v = a.v.now in
    let y = length c.loop-n.yielded in
    let t =
    YieldsList-turn (YieldsList-from_rev_slice v (cc)) c.loop-n.yielded _ c.loop-n.yielded_by _ _ c.in-Some.field-0 c.in-Some.is
    c.next.ensures.steps in
    let l : length (reverse v) ≡ length v = length-reverse v in
    let x = c.in-Some.field-0.now in
    let m = length-append c.loop-n.yielded (c.in-Some.field-0 ∷ []) in
    let k : length v - length (c.loop-n.yielded ++ (c.in-Some.field-0 ∷ [])) ≡ length v - y - 1 = omega arith in
    let z = c.loop-n.invariant.long in
    record {
      long = c.number-i.auto.s ∙ z;
      going = rw k (λ p q.
          let g = c.loop-n.invariant.going p q in
          let w = c.number-i.ensures.put (omega (arith, g.low, p, t.0)) (omega (arith, g.high, q, z)) in
          record {
            low = omega (arith, g.low, w.low, t.0);
            high = omega (arith, g.high, w.high);
            text =
                w.text_is
                ∙ ap (λ (r : List ℕ). 32 ∷ decimal x r) g.text
                ∙ ap (λ (n : ℕ). 32 ∷ decimal n (joined (drop (length v - y) v) (drop a.at a.s.now))) (from_back v y x (omega arith) t.1)
                ∙ sym (joined_more v (length v - y) (drop a.at a.s.now) (omega (arith, t.0)) (omega arith));
          });
    }

pub returns : goal.returns
returns c =
    let a = c.args in
    let v = a.v.now in
    let t =
    YieldsList-end (YieldsList-from_rev_slice v (cc)) c.loop-n.yielded _ c.loop-n.yielded_by _ _ c.in-None.is c.next.ensures.steps in
    let l : length (reverse v) ≡ length v = length-reverse v in
    let e : length v - length c.loop-n.yielded ≡ 0 = omega (arith, t.1) in
    record {
      put = λ p q. let g = c.loop-n.invariant.going p q in record { text_is = rw e at g.text; low = omega (arith, g.low); high = g.high };
    }
