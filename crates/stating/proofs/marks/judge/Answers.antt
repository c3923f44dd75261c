use Rattle.std.proofs.Common.{◌≤◌, ℕ, length, arith}
use lib.ListN.{replicate, length-replicate}
use lib.Seq.{length-take-le}
use Rattle.stating.specs.Rows.{all_rows}
use Rattle.stating.proofs.Marking.{rows_few, zeros_front}
use Rattle.stating.proofs.marks.judge.Goals as goal

-- so many marks fit into the scratch
pub judge_with-requires : goal.judge_with-requires
judge_with-requires c =
    let n = all_rows c.args.c in
    let few = rows_few c.args.c c.requires in
    let room : n ≤ length {A = ℕ} (replicate 385 0) = omega (arith, length-replicate {A = ℕ} 385 0, few) in
    (record { long = length-take-le n (replicate 385 0) room; few = few }, zeros_front 385 n few)
