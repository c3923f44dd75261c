use Rattle.std.proofs.Common.{[], ◌∷◌, ap, sym, ◌∙◌, refl, length-append, arith, rules, tests}
use Rattle.std.proofs.lemmas.Iterator.Consumers.{YieldsList-end}
use Rattle.std.proofs.lemmas.Iterator.Splits.{YieldsList-from_slice_split}
use Rattle.text.specs.Lines.{over, newline}
use Rattle.text.proofs.Parts.{cut_parts, over_one_more}
use Rattle.typing.specs.Rows.{scan_line, unscanned, scanned}
use Rattle.typing.specs.declared.Scan.{Scan}
use Rattle.typing.proofs.Scanning.{line_sparse, line_once}
use Rattle.typing.proofs.scans.scan.Goals as goal

pub loop-line-init : goal.loop-line-init
unfolding over
loop-line-init c = record { walked = refl; few = omega arith; sparse = (omega arith, omega arith, omega arith, omega arith) }

pub loop-line-preserved : goal.loop-line-preserved
loop-line-preserved c =
    let m = c.args.rooms in
    let j = c.loop-line.j in
    let x = c.in-Some.line in
    let f = c.scan_line-j.ensures in
    record {
      walked =
          f ∙ ap (λ (k : Scan). scan_line m k x.now) c.loop-line.invariant.walked
          ∙ sym (over_one_more (scan_line m) unscanned c.loop-line.yielded x);
      few =
          omega (
            arith,
            c.loop-line.invariant.few,
            line_once m j x.now,
            ap (λ (k : Scan). k.line) f,
            length-append c.loop-line.yielded (x ∷ []),
          );
      sparse = rw f (line_sparse m j x.now c.loop-line.invariant.sparse);
    }

pub returns : goal.returns
unfolding scanned
returns c =
    let s = c.args.s.now in
    let all = YieldsList-from_slice_split _ newline s (cc) (cc) (cc) (λ x r q k. search (rules, tests)) in
    let e = YieldsList-end all c.loop-line.yielded _ c.loop-line.yielded_by _ _ c.in-None.is c.next.ensures.steps in
    c.loop-line.invariant.walked ∙ ap (over (scan_line c.args.rooms) unscanned) (e.0 ∙ cut_parts newline s)
