-- A row adds its amount to two cells, its buyer's and its seller's, which are there and have room (`first_fits`, `second_fits`).
use Rattle.std.proofs.Common.{◌≡◌, ℕ, List, length, length-set, ap, ◌∙◌, arith}
use Rattle.limits.specs.Limits.{most_agents}
use Rattle.sums.specs.Lists.{at}
use Rattle.sums.proofs.Lists.{zeros_at}
use Rattle.sums.proofs.Keyed.{keyed_none}
use Rattle.rows.specs.Rows.{contract_of}
use Rattle.contracts.specs.Assign.{count_in, deal_in}
use Rattle.settle.proofs.Holdings.{first_fits, second_fits, both_added}
use Rattle.settle.proofs.agreed.hold.Goals as goal

pub loop-j-init : goal.loop-j-init
loop-j-init c = record {
  long = ap length c.requires.1;
  each =
      λ a l. omega (
        arith,
        ap (λ (l : List ℕ). at l a) c.requires.1,
        zeros_at most_agents a,
        keyed_none (λ j. (deal_in c.args.section.now j).buyer) (at c.args.amounts.now) a,
        keyed_none (λ j. (deal_in c.args.section.now j).seller) (at c.args.amounts.now) a,
      );
}

pub overflow_add-held : goal.overflow_add-held
overflow_add-held c =
    let i = c.loop-j.invariant in
    omega (
      arith,
      first_fits _ _ c.requires.0 c.loop-j.j (omega arith) _ (c.contract_of-k.ensures ∙ ap contract_of c.row_at.ensures) c.loop-j.held
          i.long i.each,
    )

pub overflow_add-held-in-loop-j : goal.overflow_add-held-in-loop-j
overflow_add-held-in-loop-j c =
    let i = c.loop-j.invariant in
    omega (
      arith,
      second_fits _ _ c.requires.0 c.loop-j.j (omega arith) _ (c.contract_of-k.ensures ∙ ap contract_of c.row_at.ensures) c.loop-j.held
          i.long i.each,
    )

pub loop-j-preserved : goal.loop-j-preserved
loop-j-preserved c =
    let i = c.loop-j.invariant in
    record {
      long = simp length-set i.long;
      each =
          both_added _ _ c.requires.0 c.loop-j.j (omega arith) _ (c.contract_of-k.ensures ∙ ap contract_of c.row_at.ensures) c.loop-j.held
          i.long i.each;
    }

pub returns : goal.returns
returns c =
    let e : c.loop-j.j ≡ count_in c.args.section.now = omega arith in
    record { each = rw e at c.loop-j.invariant.each; long = c.loop-j.invariant.long }
