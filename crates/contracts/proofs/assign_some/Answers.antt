use Rattle.std.proofs.Common.{refl, arith}
use Rattle.contracts.proofs.Section.{few_rows_lem}
use Rattle.contracts.proofs.SideSums.{bounded}
use Rattle.contracts.proofs.Uncut.{cut_full}
use Rattle.contracts.proofs.assign_some.Goals as goal

pub part-requires-clause-decided_len : goal.part-requires-clause-decided_len
part-requires-clause-decided_len c =
    let places = c.requires.cuts.1 in
    (c.requires.cuts.0.long, rw places.long (bounded _ _ c.requires.ready.0), rw places.long places)

pub serve_all-requires-clause-cuts : goal.serve_all-requires-clause-cuts
serve_all-requires-clause-cuts c =
    let cells = c.requires.cuts.1.long in
    let cut = rw cells at c.part.ensures.parted.cut in (
      c.requires.cuts.0,
      omega (arith, cut.long, few_rows_lem _ _ c.requires.ready.0),
      rw cells at c.part.ensures.next_places,
      record { each = cut.each; long = refl },
    )

pub returns : goal.returns
returns c = cut_full _ _ c.requires.ready.0 _ c.requires.cuts.0 _ _ _ c.part.ensures.parted.uncut c.serve_all.ensures
