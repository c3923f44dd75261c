use Rattle.std.proofs.Common.{◌+◌, ◌-◌, length, arith, refl, sym, ap, ◌∙◌}
use Rattle.words.specs.Words.{spelled_to, spelled_in}
use Rattle.words.proofs.Laws.{one_more, not_for_good}
use Rattle.words.proofs.number_of.Goals as goal

pub returns-then-is_empty : goal.returns-then-is_empty
unfolding spelled_in
returns-then-is_empty c = rw (sym c.is_empty.ensures ∙ c.if-is_empty.true) refl

pub loop-byte-init : goal.loop-byte-init
unfolding spelled_to
loop-byte-init c = refl

pub returns-in_err-value : goal.returns-in_err-value
unfolding spelled_in
returns-in_err-value c =
    let w = c.args.word.now in
    let k = c.loop-byte.byte-index in
    let here = one_more w k _ _ c.loop-byte.invariant (sym c.in_err-value.was ∙ c.with_digit.ensures) in
    let none = not_for_good w (k + 1) (length w - (k + 1)) here in
    c.from_residual.ensures
    ∙ rw (sym c.is_empty.ensures ∙ c.if-is_empty.false) (sym none ∙ ap (spelled_to w) (omega arith))

pub loop-byte-preserved : goal.loop-byte-preserved
loop-byte-preserved c = one_more _ _ _ _ c.loop-byte.invariant (sym c.in_ok-value.was ∙ c.with_digit.ensures)

pub returns : goal.returns
unfolding spelled_in
returns c =
    rw (sym c.is_empty.ensures ∙ c.if-is_empty.false) (sym c.loop-byte.invariant ∙ ap (spelled_to _) (omega arith))
