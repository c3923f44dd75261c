use Rattle.std.proofs.Common.{[], ◌∷◌, ap, sym, ◌∙◌, length-append, arith, rules, tests}
use Rattle.std.proofs.lemmas.Iterator.Consumers.{YieldsList-end}
use Rattle.std.proofs.lemmas.Iterator.Splits.{YieldsList-from_slice_split}
use Rattle.text.specs.Lines.{over, step, empty_line, separator}
use Rattle.text.specs.declared.Line.{Line}
use Rattle.text.proofs.Parts.{cut_parts, over_one_more}
use Rattle.text.proofs.Steps.{step_count}
use Rattle.text.proofs.read_fields.Goals as goal

pub loop-field-init : goal.loop-field-init
unfolding over
loop-field-init c = record { walked = c.blank_line-l.ensures; few = omega (arith, ap (λ (l : Line). l.count) c.blank_line-l.ensures) }

pub loop-field-preserved : goal.loop-field-preserved
loop-field-preserved c =
    let e = c.with_field-l.ensures in
    let n = step_count c.loop-field.l c.in-Some.field.now in
    let k = ap (λ (l : Line). l.count) e in
    record {
      walked =
          e ∙ ap (λ (l : Line). step l c.in-Some.field.now) c.loop-field.invariant.walked
          ∙ sym (over_one_more step empty_line c.loop-field.yielded c.in-Some.field);
      few = omega (arith, length-append c.loop-field.yielded (c.in-Some.field ∷ []));
    }

pub returns : goal.returns
returns c =
    let s = c.args.s.now in
    let all = YieldsList-from_slice_split _ separator s (cc) (cc) (cc) (λ x r q k. search (rules, tests)) in
    let e = YieldsList-end all c.loop-field.yielded _ c.loop-field.yielded_by _ _ c.in-None.is c.next.ensures.steps in
    c.loop-field.invariant.walked ∙ ap (over step empty_line) (e.0 ∙ cut_parts separator s)
