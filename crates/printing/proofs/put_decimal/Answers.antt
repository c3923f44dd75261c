use Rattle.std.proofs.Common.{◌≡◌, ℕ, ◌+◌, ◌-◌, ◌<◌, ◌%◌, ◌∷◌, drop, arith, refl, sym, ap, ◌∙◌}
use Rattle.printing.proofs.Text as laws
use Rattle.printing.proofs.put_decimal.Goals as goal

pub loop-rest-init : goal.loop-rest-init
loop-rest-init c =
    let e : c.args.at + 19 - c.args.at ≡ 19 = omega arith in
    record { few = rw e (omega arith); low = omega arith; high = omega arith; long = refl; whole = rw e refl }

pub loop-rest-preserved : goal.loop-rest-preserved
loop-rest-preserved c =
    let l = c.loop-rest in
    let k = l.i + 19 - c.args.at in
    let some : 0 < k = laws.some_left k l.rest c.loop-rest-test.true l.invariant.few in
    let one : c.put_byte-i.result + 1 ≡ l.i =
    laws.one_byte _ _ _ _ _ (omega arith) (omega arith) c.put_byte-i.auto.s c.put_byte-i.ensures in
    let left : c.put_byte-i.result + 19 - c.args.at ≡ k - 1 = omega arith in
    record {
      few = rw left (laws.fewer k l.rest some l.invariant.few);
      low = omega arith;
      high = omega arith;
      long = c.put_byte-i.auto.s ∙ l.invariant.long;
      whole =
          rw (left, c.put_byte-i.ensures.text_is)
          (l.invariant.whole ∙ laws.spell_more k l.rest (drop l.i l.s) c.loop-rest-test.true some);
    }

pub returns : goal.returns
returns c =
    let l = c.loop-rest in
    let last : l.rest % 10 ≡ l.rest = omega arith in
    record {
      text_is =
          c.put_byte.ensures.text_is
          ∙ ap (λ (n : ℕ). (48 + n) ∷ drop l.i l.s) (sym last)
          ∙ sym (l.invariant.whole ∙ laws.spell_last (l.i + 19 - c.args.at) l.rest (drop l.i l.s) c.loop-rest-test.false);
      low = omega arith;
      high = omega arith;
    }
