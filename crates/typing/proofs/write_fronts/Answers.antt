use Rattle.writing.specs.Numbers.{numbers}
use Rattle.typing.proofs.Making.{fronts_made}
use Rattle.typing.proofs.write_fronts.Goals as goal

pub returns : goal.returns
returns c =
    let a = c.args in
    fronts_made a.text.now a.out.now a.c
    (numbers a.agents.now a.boundaries.now a.plants.now a.contracts.now)
    c.requires c.write-w.ensures c.told.ensures
