-- Each closure tells the test of its pass.
use Rattle.std.proofs.Common.{rules}
use borrow.Author.Tests.{ne_eqb}
use Rattle.deals.specs.Deals.{fixed, conditional}
use Rattle.reasons.specs.Parts.{firm, cheaper, beside, reason_in}
use Rattle.reasons.proofs.passes.judge.Goals as goal

pub returns : goal.returns
unfolding reason_in
returns c =
    let me = c.args.me in
    let f = c.pass-firm.ensures firm (λ j r l p. search rules) in
    let x = c.pass-cheaper.ensures (cheaper me) (λ j r l p. search rules) in
    let g = c.pass-total.ensures (beside me) (λ j r l p. search rules) in
    rw (ne_eqb me.kind fixed c.if-me-eq-FIXED.false, ne_eqb me.kind conditional c.if-me-eq-CONDITIONAL.false, ← f, ← x, ← g, ← c.saturating_sub.ensures) c.of_demanded.ensures
