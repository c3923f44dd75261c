use Rattle.std.proofs.Common.{◌≡◌, ℕ, ap, ◌∙◌, arith}
use mathlib.Core.List.{List}
use Rattle.octets.specs.Bytes.{words_at}
use Rattle.rows.specs.Rows.{contract_of}
use Rattle.sums.proofs.Fill.{filled_more, filled_by}
use Rattle.sheet.proofs.Accepted.{accepted_few}
use Rattle.sheet.proofs.Sections.{contract_row}
use Rattle.checking.specs.Accounts.{no_contract}
use Rattle.checking.proofs.amounts.contracts.Goals as goal

pub offset_bounds-rows-j : goal.offset_bounds-rows-j
offset_bounds-rows-j c = omega (arith, (accepted_few _ _ c.requires).contracts)

pub bounds-rows-j : goal.bounds-rows-j
bounds-rows-j c = omega (arith, (accepted_few _ _ c.requires).contracts)

pub loop-j-preserved : goal.loop-j-preserved
loop-j-preserved c =
    let l = c.loop-j in
    filled_more no_contract _ l.rows l.j _ _ (omega (arith, (accepted_few _ _ c.requires).contracts, l.invariant.long)) (cc) l.invariant

pub returns : goal.returns
returns c =
    let n = c.args.c.contracts in
    let all : c.loop-j.j ≡ n = omega arith in
    filled_by no_contract _ _ n _ _
    (λ j l. ap (λ (b : List ℕ). contract_of (words_at b j)) c.section_of-section.ensures
    ∙ ap contract_of (contract_row _ _ c.requires j l))
    (rw all at c.loop-j.invariant)
