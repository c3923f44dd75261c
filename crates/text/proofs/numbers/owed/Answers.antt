use Rattle.std.proofs.Common.{Ok, sym, ap, ◌∙◌, w64}
use borrow.Author.Tests.{lt-ltb, le-ltb}
use mir.ValLaws.{to_z-of_z}
use Rattle.text.specs.Fields.{is_number, worth, owed_as}
use Rattle.text.proofs.Fields.{no_money, some_money}
use Rattle.text.proofs.numbers.owed.Goals as goal

pub returns-in-None : goal.returns-in-None
returns-in-None c =
    let s = c.args.s.now in
    sym (no_money c.args.below (is_number s) (worth 0 s) (sym c.in-None.is ∙ c.digits.ensures))

pub returns-in-Some : goal.returns-in-Some
unfolding owed_as
returns-in-Some c =
    let s = c.args.s.now in
    rw (some_money c.args.below (is_number s) (worth 0 s) _ (sym c.in-Some.is ∙ c.digits.ensures), lt-ltb _ _ c.if-value-lt-HELD.true)
    (ap Ok (to_z-of_z w64 c.with_sign.result (record { sfits = c.with_sign.type_inv }) ∙ c.with_sign.ensures))

pub returns-in-Some-2 : goal.returns-in-Some-2
unfolding owed_as
returns-in-Some-2 c =
    let s = c.args.s.now in
    rw (some_money c.args.below (is_number s) (worth 0 s) _ (sym c.in-Some.is ∙ c.digits.ensures), le-ltb _ _ c.if-value-lt-HELD.false)
