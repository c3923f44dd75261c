use native.Mathlib.Nat.{add-sub_cancel_left}
use Rattle.writing.proofs.Put.{number_copied}
use Rattle.writing.proofs.place.put_number.Goals as goal

pub returns : goal.returns
returns c =
    rw (add-sub_cancel_left, c.copy_from_slice.ensures.after, c.to_le_bytes.ensures)
    (number_copied c.args.d.now c.args.k c.args.x c.requires)
