use Rattle.std.proofs.Common.{◌≡◌, ◌+◌, ◌*◌, ◌-◌, ℕ, List, ap, sym, ◌∙◌, take, drop, length, arith}
use Rattle.std.proofs.lemmas.List.Edits.{sets}
use Rattle.sums.specs.Lists.{at}
use Rattle.stating.proofs.Filling as laws
use Rattle.stating.proofs.fills.put_six.Goals as goal

pub loop-i-init : goal.loop-i-init
loop-i-init c =
    let a = c.args.l.numbers in
    let k = 6 * at a 0 in
    let e : k + 0 ≡ k = omega arith in
    ap (λ (n : ℕ). sets c.args.out.now n (take (length a - 1) (drop 1 a))) e

pub loop-i-preserved : goal.loop-i-preserved
loop-i-preserved c =
    let a = c.args.l.numbers in
    let xs = take (length a - 1) (drop 1 a) in
    let k = 6 * at a 0 in
    let i = c.loop-i.i in
    ap (λ (o : List ℕ). sets o (k + (i + 1)) (drop (i + 1) xs)) c.put.ensures
    ∙ sym (laws.one_more c.loop-i.out xs k i c.loop-i-test.true)
    ∙ c.loop-i.invariant

pub returns : goal.returns
returns c =
    let a = c.args.l.numbers in
    let xs = take (length a - 1) (drop 1 a) in
    let k = 6 * at a 0 in
    sym (laws.none_left c.loop-i.out xs k c.loop-i.i (omega arith)) ∙ c.loop-i.invariant
    ∙ ap (sets c.args.out.now k) (laws.behind_first a)
