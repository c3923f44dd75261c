use Rattle.std.proofs.Common.{[], ◌∷◌, ap, sym, ◌∙◌, length-append, arith, rules, tests}
use Rattle.std.proofs.lemmas.Iterator.Consumers.{YieldsList-end}
use Rattle.std.proofs.lemmas.Iterator.Splits.{YieldsList-from_slice_split}
use Rattle.text.specs.Lines.{over, newline}
use Rattle.text.proofs.Parts.{cut_parts, over_one_more}
use Rattle.stating.specs.Rows.{Marked, mark_line, unmarked, marked_in}
use Rattle.stating.specs.Steps.{seen}
use Rattle.stating.proofs.Marking.{line_once}
use Rattle.stating.proofs.marks.mark_lines.Goals as goal

pub loop-line-init : goal.loop-line-init
unfolding over unmarked
loop-line-init c =
    record {
      walked = ap (seen (record { line = 0; fault = _ })) c.requires.1;
      few = omega arith;
      fit = c.requires.0;
    }

pub loop-line-preserved : goal.loop-line-preserved
loop-line-preserved c =
    let a = c.args in
    let x = c.in-Some.line in
    let j = seen c.loop-line.j c.loop-line.marks in
    let f = c.mark_line-j.ensures in
    record {
      walked =
          f ∙ ap (λ (k : Marked). mark_line a.c k x.now) c.loop-line.invariant.walked
          ∙ sym (over_one_more (mark_line a.c) (unmarked a.c) c.loop-line.yielded x);
      few =
          omega (
            arith,
            c.loop-line.invariant.few,
            line_once a.c j x.now,
            ap (λ (k : Marked). k.line) f,
            length-append c.loop-line.yielded (x ∷ []),
          );
      fit = record { long = c.mark_line-j.auto.marks ∙ c.loop-line.invariant.fit.long; few = c.loop-line.invariant.fit.few };
    }

pub returns : goal.returns
unfolding marked_in
returns c =
    let s = c.args.s.now in
    let all = YieldsList-from_slice_split _ newline s (cc) (cc) (cc) (λ x r q k. search (rules, tests)) in
    let e = YieldsList-end all c.loop-line.yielded _ c.loop-line.yielded_by _ _ c.in-None.is c.next.ensures.steps in
    c.loop-line.invariant.walked ∙ ap (over (mark_line c.args.c) (unmarked c.args.c)) (e.0 ∙ cut_parts newline s)
