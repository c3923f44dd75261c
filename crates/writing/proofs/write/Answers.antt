use Rattle.std.proofs.Common.{length, sym, ap, ◌∙◌, arith}
use Rattle.sheet.specs.Reading.{sheet_length}
use Rattle.writing.specs.Numbers.{numbers}
use Rattle.writing.proofs.Good.{fine_good, fine_room, lists_small}
use Rattle.writing.proofs.write.Goals as goal

pub size-size-requires : goal.size-size-requires
size-size-requires c =
    let n = numbers c.args.agents.now c.args.boundaries.now c.args.plants.now c.args.contracts.now in
    let taken = sym c.write_verdict.ensures ∙ c.in_ok-write_verdict.was in
    rw c.counts_in.ensures (lists_small n (fine_good n _ taken).lists)

pub put_sheet-requires : goal.put_sheet-requires
put_sheet-requires c =
    let n = numbers c.args.agents.now c.args.boundaries.now c.args.plants.now c.args.contracts.now in
    let taken = sym c.write_verdict.ensures ∙ c.in_ok-write_verdict.was in
    let room = fine_room n (length c.args.out.now) taken in
    let size = c.size-size.ensures ∙ ap sheet_length c.counts_in.ensures in
    (lists_small n (fine_good n _ taken).lists, omega arith)
