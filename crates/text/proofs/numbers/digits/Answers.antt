use Rattle.std.proofs.Common.{◌<◌, Some, ap, sym, ◌∙◌, length, arith, rules}
use Rattle.text.proofs.Fields as laws
use Rattle.text.proofs.numbers.digits.Goals as goal

pub returns-then-not-is_ascii_digit : goal.returns-then-not-is_ascii_digit
returns-then-not-is_ascii_digit c =
    let i = c.loop-b.b-index in
    rw (laws.no_digit c.args.s.now i (omega arith) (sym c.is_ascii_digit.ensures.value ∙ c.if-not-is_ascii_digit.true) c.loop-b.invariant.digits)

pub loop-b-preserved : goal.loop-b-preserved
loop-b-preserved c =
    let s = c.args.s.now in
    let i = c.loop-b.b-index in
    let v = c.loop-b.value in
    record {
      held = omega arith;
      digits =
          laws.digits_step s i _ (omega arith) (sym c.is_ascii_digit.ensures.value ∙ c.if-not-is_ascii_digit.false)
          c.loop-b.invariant.digits;
      worth = rw (c.min-value.ensures, c.from.ensures) (laws.worth_step s i v _ (omega arith) c.loop-b.invariant.worth);
    }

pub returns : goal.returns
returns c =
    let s = c.args.s.now in
    let some : 0 < length s = search rules in
    rw (laws.digits_end s c.loop-b.b-index some (omega arith) c.loop-b.invariant.digits)
    (ap Some (laws.worth_end s c.loop-b.b-index c.loop-b.value _ (omega arith) c.loop-b.invariant.held c.loop-b.invariant.worth))
