-- An answer that is told, and one that has no room; and what is told fits its cell. Assumes nothing.
use Rattle.std.specs.Prelude.{Ok}
use Prim.Native.Nat.{ℕ, ◌≤◌}
use mathlib.Core.Path.{◌≡◌}
use mathlib.Core.List.{List}
use native.Mathlib.Omega.{arith}
use lib.ListN.{length}
use borrow.Author.Tests.{le-leb}
use Rattle.sums.specs.Lists.{at, Filled}
use Rattle.sheet.specs.Reading.{sheet_length, longest}
use Rattle.writing.specs.Numbers.{Numbers, counts_in}
use Rattle.writing.specs.Judged.{write_verdict, writing}
use Rattle.writing.proofs.Good.{fine_good, lists_few}
use Rattle.writing.proofs.RoundTrip.{done_says}
use Rattle.capi.specs.Told.{Told}

module _ {k : ℕ} {answer before : List ℕ} where
  -- the numbers that were listed are the answer
  pub told_all : (numbers : List ℕ) {after : List ℕ}
      → k ≤ length before
      → answer ≡ numbers
      → Filled 0 before after k (at numbers)
      → Told k answer before (at numbers 0) after
  told_all numbers l e f =
      let room = le-leb k (length before) l in
      record { number = rw (room, e); listed = rw (room, e) f }

-- a sheet that was written is short
pub done_small : (n : Numbers) (room size : ℕ)
    → Ok size ≡ writing (write_verdict n room) (sheet_length (counts_in n))
    → size ≤ longest
done_small n room size e =
    let d = done_says (write_verdict n room) size (sheet_length (counts_in n)) e in
    let w = lists_few n (fine_good n room d.0).lists in
    omega (arith, d.1)
