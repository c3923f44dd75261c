-- What counting the rows tells of the verdict, and what the verdict makes of the promise. Assumes nothing.
use Rattle.std.specs.Prelude.{Ok, Err}
use Prim.Native.Nat.{ℕ}
use native.Mathlib.Omega.{arith}
use mathlib.Core.Path.{◌≡◌, refl}
use mathlib.Core.List.{List}
use Rattle.sums.proofs.Fill.{filled_none}
use Rattle.refusals.specs.declared.Refusal.{Refusal}
use Rattle.refusals.specs.Refusals.{Verdict}
use Rattle.sheet.specs.Counting.{counting_of}
use Rattle.sheet.specs.declared.Counts.{Counts}
use Rattle.sheet.proofs.Counted.{Counted, rows_counted, rows_refused}
use Rattle.mend.specs.Mend.{mend_room, mend_verdict, Mended}
use Rattle.mend.specs.Steps.{Mendable}

pub counted_mendable : (s : List ℕ) (c : Counts) → Counted s c → Mendable s c
counted_mendable s c k = let f = k.few in (k.counts, omega arith, k.long)

module _ (s : List ℕ) (copy report : ℕ) where
  pub rows_verdict_lem : (c : Counts)
      → counting_of s ≡ Ok c
      → mend_verdict s copy report ≡ mend_room s copy report
  unfolding mend_verdict
  rows_verdict_lem c e = rw (rows_counted s c e).0

  pub refused_verdict : (r : Refusal)
      → counting_of s ≡ Err r
      → mend_verdict s copy report ≡ Err r
  unfolding mend_verdict
  refused_verdict r e = rw (rows_refused s r e)

module _ (s copy report : List ℕ) where
  -- a refusal writes nothing
  pub refused_kept : (v : Verdict) (r : Refusal)
      → v ≡ Err r
      → Mended s copy report v (Err r) copy report
  refused_kept v r e = rw e (record { answer = refl; copied = filled_none _ _ _; reported = filled_none _ _ _ })

-- what the answers of `mend` follow from
pub ruleset answers = (counted_mendable, rows_counted, refused_verdict, refused_kept)
