use Rattle.std.proofs.Common.{arith, sym, ◌∙◌}
use mir.Syntax.{w64}
use mir.ValLaws.{to_z-of_z}
use Rattle.printing.specs.Text.{signed}
use Rattle.printing.proofs.Money.{below_is}
use Rattle.printing.proofs.put_signed.Goals as goal

pub returns-then-x-lt0 : goal.returns-then-x-lt0
unfolding signed
returns-then-x-lt0 c =
    let same = to_z-of_z w64 c.args.x c.ranges.x in
    let below = sym (below_is c.args.x) ∙ (rw same at c.if-x-lt0.true) in
    let far = rw same at c.unsigned_abs.ensures.value in
    record {
      text_is = c.put_byte.ensures.text_is ∙ (rw (below, c.put_decimal-i.ensures.text_is, far));
      low = omega arith;
      high = omega arith;
    }

pub returns-else-x-lt0 : goal.returns-else-x-lt0
unfolding signed
returns-else-x-lt0 c =
    let same = to_z-of_z w64 c.args.x c.ranges.x in
    let not_below = sym (below_is c.args.x) ∙ (rw same at c.if-x-lt0.false) in
    let far = rw same at c.unsigned_abs.ensures.value in
    record { text_is = c.put_decimal-i.ensures.text_is ∙ (rw (not_below, far)); low = omega arith; high = omega arith }
