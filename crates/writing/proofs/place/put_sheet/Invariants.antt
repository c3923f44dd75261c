use Rattle.std.proofs.Common.{◌*◌}
use Rattle.sums.specs.Lists.{Filled}
use Rattle.octets.specs.Bytes.{byte_of}
use Rattle.writing.specs.Lists.{given}
use Rattle.writing.specs.Words.{sheet_row}
use Rattle.writing.proofs.place.put_sheet.Given as goal

abbrev pub invariant-loop-r : goal.invariant-loop-r
invariant-loop-r l =
    Filled 0 l.initial.out l.out (16 * l.r) (byte_of (sheet_row (given l.l)))
