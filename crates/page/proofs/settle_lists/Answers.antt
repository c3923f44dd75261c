-- With room for every sheet the verdict on the columns is the sheet's.
use Rattle.sheet.proofs.Accepted.{accepted_few}
use Rattle.settle.proofs.Judged.{settled_all}
use Rattle.page.proofs.settle_lists.Goals as goal

pub settle_columns-requires-clause-own_value : goal.settle_columns-requires-clause-own_value
settle_columns-requires-clause-own_value c =
    let few = accepted_few _ _ c.requires.sheet_value in (c.requires.own_value, λ _. (few.plants, few.contracts))

pub returns : goal.returns
returns c =
    let d = settled_all _ _ c.requires.sheet_value _ _ _ _ _ _ _ _ _ _ _ c.settle_columns.ensures in
    record { answered = d.answered; columns = d.columns }
