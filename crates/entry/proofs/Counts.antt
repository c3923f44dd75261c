-- A sheet that reading accepts has counts that fit its length. Assumes nothing.
use Rattle.std.specs.Prelude.{Ok}
use Prim.Native.Nat.{ℕ}
use mathlib.Core.List.{List}
use mathlib.Core.Path.{◌≡◌}
use Rattle.sums.proofs.Tests.{and_left}
use Rattle.refusals.proofs.Fine.{fine_parts, fine_test}
use Rattle.sheet.specs.Reading.{counts_of, counts_fit, distances_good, layout_good, checks, read_verdict}
use Rattle.sheet.specs.Counting.{counting_of}
use Rattle.sheet.proofs.Counted.{count_fits}

pub accepted_counted : (s : List ℕ) → read_verdict s ≡ Ok tt → counting_of s ≡ Ok (counts_of s)
unfolding read_verdict layout_good
accepted_counted s e =
    let all = fine_parts (checks s) e in
    count_fits s (fine_test _ _ _ all.0)
    (and_left (counts_fit s) (distances_good s (counts_of s)) (fine_test _ _ _ all.1.0))
