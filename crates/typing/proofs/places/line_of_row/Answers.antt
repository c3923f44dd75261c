use Rattle.std.proofs.Common.{◌≡◌, ◌+◌, ℕ, [], ◌∷◌, ◌++◌, ap, sym, ◌∙◌, refl, length, arith, rules, tests}
use Rattle.std.proofs.lemmas.List.{length_push}
use Rattle.std.proofs.lemmas.Iterator.Consumers.{YieldsList-turn, YieldsList-end, YieldsList-from_enumerate}
use Rattle.std.proofs.lemmas.Iterator.Splits.{YieldsList-from_slice_split}
use Rattle.text.specs.Lines.{newline, lines}
use Rattle.text.specs.declared.Line.{Line}
use Rattle.typing.specs.Made.{line_of_row}
use Rattle.typing.proofs.Finding as laws
use Rattle.typing.proofs.places.line_of_row.Goals as goal

pub loop-i-init : goal.loop-i-init
unfolding line_of_row
loop-i-init c = refl

pub returns-then-left-eq0 : goal.returns-then-left-eq0
returns-then-left-eq0 c =
    let s = c.args.s.now in
    let xs = c.loop-i.yielded in
    let x = c.in-Some.line.now in
    let all = YieldsList-from_enumerate (YieldsList-from_slice_split _ newline s (cc) (cc) (cc) (λ x r q k. search (rules, tests))) (cc) in
    let t =
    laws.line_at s (length xs) c.in-Some.i x
    (YieldsList-turn all xs _ c.loop-i.yielded_by _ _ (c.in-Some.i, c.in-Some.line) c.in-Some.is c.next.ensures.steps) in
    let w = ap (λ (l : Line). l.word) c.read_line.ensures in
    let e = c.loop-i.invariant in
    let f =
    laws.find_here c.args.section c.loop-i.left (lines s) (length xs) x t.1 (sym w ∙ c.if-read_line-section.true) c.if-left-eq0.true in
    ap (λ (n : ℕ). n + 1) t.0 ∙ sym (e ∙ f)

pub loop-i-preserved-then-read_line-section : goal.loop-i-preserved-then-read_line-section
loop-i-preserved-then-read_line-section c =
    let s = c.args.s.now in
    let xs = c.loop-i.yielded in
    let x = c.in-Some.line.now in
    let all = YieldsList-from_enumerate (YieldsList-from_slice_split _ newline s (cc) (cc) (cc) (λ x r q k. search (rules, tests))) (cc) in
    let t =
    laws.line_at s (length xs) c.in-Some.i x
    (YieldsList-turn all xs _ c.loop-i.yielded_by _ _ (c.in-Some.i, c.in-Some.line) c.in-Some.is c.next.ensures.steps) in
    let w = ap (λ (l : Line). l.word) c.read_line.ensures in
    let e = c.loop-i.invariant in
    let m : length (xs ++ ((c.in-Some.i, c.in-Some.line) ∷ [])) ≡ length xs + 1 = length_push xs (c.in-Some.i, c.in-Some.line) in
    let f =
    laws.find_later c.args.section c.loop-i.left (lines s) (length xs) x t.1 (sym w ∙ c.if-read_line-section.true) c.if-left-eq0.false in
    rw m (e ∙ f)

pub loop-i-preserved : goal.loop-i-preserved
loop-i-preserved c =
    let s = c.args.s.now in
    let xs = c.loop-i.yielded in
    let x = c.in-Some.line.now in
    let all = YieldsList-from_enumerate (YieldsList-from_slice_split _ newline s (cc) (cc) (cc) (λ x r q k. search (rules, tests))) (cc) in
    let t =
    laws.line_at s (length xs) c.in-Some.i x
    (YieldsList-turn all xs _ c.loop-i.yielded_by _ _ (c.in-Some.i, c.in-Some.line) c.in-Some.is c.next.ensures.steps) in
    let w = ap (λ (l : Line). l.word) c.read_line.ensures in
    let e = c.loop-i.invariant in
    let m : length (xs ++ ((c.in-Some.i, c.in-Some.line) ∷ [])) ≡ length xs + 1 = length_push xs (c.in-Some.i, c.in-Some.line) in
    let f =
    laws.find_other c.args.section c.loop-i.left (lines s) (length xs) x t.1 (λ q. c.if-read_line-section.false (w ∙ q)) in
    rw m (e ∙ f)

pub returns : goal.returns
returns c =
    let s = c.args.s.now in
    let xs = c.loop-i.yielded in
    let all = YieldsList-from_enumerate (YieldsList-from_slice_split _ newline s (cc) (cc) (cc) (λ x r q k. search (rules, tests))) (cc) in
    let t = YieldsList-end all xs _ c.loop-i.yielded_by _ _ c.in-None.is c.next.ensures.steps in
    let n = laws.lines_end s (length xs) t.1 in
    sym (c.loop-i.invariant ∙ laws.find_none c.args.section c.loop-i.left (lines s) (length xs) (omega (arith, n)))
