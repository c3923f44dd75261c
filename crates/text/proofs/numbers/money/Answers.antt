use Rattle.std.proofs.Common.{◌≡◌, ◌∙◌, true, false, sym}
use Rattle.text.specs.Fields.{has_minus}
use Rattle.text.proofs.Fields as laws
use Rattle.text.proofs.numbers.money.Goals as goal

pub returns-in-Some : goal.returns-in-Some
returns-in-Some c =
    let s = c.args.s.now in
    let h = rw c.in-Some.unsigned-is at c.in-Some.ensures.cases in
    let m : has_minus s ≡ true = sym (laws.minus_ahead s) ∙ h.0 in
    c.owed.ensures ∙ laws.owed_parts s _ true m (h.1 ∙ (rw m))

pub returns-in-None : goal.returns-in-None
returns-in-None c =
    let s = c.args.s.now in
    let m : has_minus s ≡ false = sym (laws.minus_ahead s) ∙ c.in-None.ensures.cases in
    c.owed-in-None.ensures ∙ laws.owed_parts s s false m (rw m)
