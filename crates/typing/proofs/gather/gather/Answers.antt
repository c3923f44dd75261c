use Rattle.std.proofs.Common.{◌+◌, ℕ, List, [], take, drop, ap, sym, ◌∙◌, refl, length, arith, rules, tests}
use Rattle.std.proofs.lemmas.Iterator.Consumers.{YieldsList-so_far, YieldsList-turn, YieldsList-end}
use Rattle.std.proofs.lemmas.Iterator.Splits.{YieldsList-from_slice_split}
use Rattle.text.specs.Lines.{over, newline, lines}
use Rattle.text.proofs.Parts.{cut_parts, over_one_more, over_through}
use Rattle.typing.specs.Rows.{gather_line, listed}
use Rattle.typing.proofs.Gathering as laws
use Rattle.typing.proofs.gather.gather.Goals as goal

pub loop-line-init : goal.loop-line-init
unfolding over
loop-line-init c = record { room = omega arith; long = refl; front = refl; rest = refl }

-- the list with this line's row is no longer than the whole
pub gather_line-k-requires : goal.gather_line-k-requires
unfolding listed
gather_line-k-requires c =
    let s = c.args.s.now in
    let g = gather_line c.args.section in
    let xs = c.loop-line.yielded in
    let x = c.in-Some.line.now in
    let all = YieldsList-from_slice_split _ newline s (cc) (cc) (cc) (λ x r q k. search (rules, tests)) in
    let p = rw (cut_parts newline s) at (YieldsList-so_far all xs _ c.loop-line.yielded_by) in
    let t = rw (cut_parts newline s) at (YieldsList-turn all xs _ c.loop-line.yielded_by _ _ c.in-Some.line c.in-Some.is c.next.ensures.steps) in
    let n = over_through g [] (lines s) xs x p t in
    let e = rw (← c.loop-line.invariant.front) at n in
    let h = laws.over_grows c.args.section (g (take c.loop-line.k c.loop-line.out) x) (drop (length xs + 1) (lines s)) in
    (c.loop-line.invariant.room, omega (arith, h, ap (length {A = ℕ}) e, c.requires, c.loop-line.invariant.long))

pub loop-line-preserved : goal.loop-line-preserved
loop-line-preserved c =
    let g = gather_line c.args.section in
    let e = c.gather_line-k.ensures in
    let x = c.in-Some.line in
    record {
      room = e.3;
      long = c.gather_line-k.auto.out ∙ c.loop-line.invariant.long;
      front =
          e.0 ∙ ap (λ (l : List ℕ). g l x.now) c.loop-line.invariant.front ∙ sym (over_one_more g [] c.loop-line.yielded x);
      rest = e.1 ∙ laws.drop_later c.loop-line.out c.args.out.now c.loop-line.k c.gather_line-k.result e.2 c.loop-line.invariant.rest;
    }

pub returns : goal.returns
unfolding listed
returns c =
    let s = c.args.s.now in
    let all = YieldsList-from_slice_split _ newline s (cc) (cc) (cc) (λ x r q k. search (rules, tests)) in
    let e = YieldsList-end all c.loop-line.yielded _ c.loop-line.yielded_by _ _ c.in-None.is c.next.ensures.steps in
    let t = c.loop-line.invariant.front ∙ ap (over (gather_line c.args.section) []) (e.0 ∙ cut_parts newline s) in
    laws.front_filled (listed c.args.section s) c.loop-line.out c.args.out.now c.loop-line.k (sym t) c.loop-line.invariant.room
    c.loop-line.invariant.rest c.loop-line.invariant.long
