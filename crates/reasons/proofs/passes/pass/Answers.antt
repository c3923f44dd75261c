use Rattle.std.proofs.Common.{◌≡◌, ℕ, Bool, ap, ◌∙◌, sym, arith}
use Rattle.limits.specs.declared.Contract.{Contract}
use Rattle.rows.specs.Rows.{contract_of}
use Rattle.sums.proofs.Sums.{sum_none, sum_step}
use Rattle.sheet.specs.Asking.{contract_at}
use Rattle.sheet.proofs.Accepted.{accepted_few}
use Rattle.reasons.specs.Parts.{counted_part, part_total}
use Rattle.reasons.proofs.Pass.{row_small, taken, left_out, of_another}
use Rattle.reasons.proofs.passes.pass.Goals.{then-k-buyer+then-counts, else-k-buyer, else-k-buyer-via-then-k-buyer+else-counts, else-k-buyer-via-else-k-buyer}
use Rattle.reasons.proofs.passes.pass.Goals as goal

pub overflow_add-start : goal.overflow_add-start
overflow_add-start g c = omega (arith, accepted_few _ _ c.requires.bytes_value)

pub overflow_add-start-2 : goal.overflow_add-start-2
overflow_add-start-2 g c = omega (arith, accepted_few _ _ c.requires.bytes_value)

pub overflow_add-start-in-loop-j : goal.overflow_add-start-in-loop-j
overflow_add-start-in-loop-j g c = omega (arith, accepted_few _ _ c.requires.bytes_value)

pub loop-j-init : goal.loop-j-init
loop-j-init g c = record { small = omega arith; total = λ t h. sym (sum_none _) }

pub overflow_add-sum : goal.overflow_add-sum
overflow_add-sum g c =
    let row = ap (λ (k : Contract). k.quantity) (c.contract_of-k.ensures ∙ ap contract_of c.row_at.ensures) in
    omega (
      arith,
      row,
      row_small _ _ c.requires.bytes_value c.loop-j.j c.loop-j-test.true,
      c.loop-j.invariant.small,
      (accepted_few _ _ c.requires.bytes_value).contracts,
    )

pub loop-j-preserved : goal.loop-j-preserved
loop-j-preserved g c =
    let a = c.args in
    let j = c.loop-j.j in
    let k = contract_at a.bytes.now a.c j in
    let row : c.contract_of-k.result ≡ k = c.contract_of-k.ensures ∙ ap contract_of c.row_at.ensures in
    let buyer = ap (λ (k : Contract). k.buyer) row in
    let quantity = ap (λ (k : Contract). k.quantity) row in
    let few = row_small _ _ c.requires.bytes_value j c.loop-j-test.true in
    let inv = c.loop-j.invariant in
    let step = λ (t : Contract → ℕ → Bool). sum_step j (λ j. counted_part a.buyer t (contract_at a.bytes.now a.c j) j) in
    elim c.if-k-buyer.branch [
      | then-k-buyer+then-counts w ↦ record {
        small = omega (arith, w.sum-is, quantity, few, inv.small);
        total = λ t h.
            let told = h j _ c.loop-j-test.true (rw row at w.counts.ensures) in
            omega (
              arith,
              w.sum-is,
              quantity,
              inv.total t h,
              step t,
              taken a.buyer t k j (sym buyer ∙ w.if-k-buyer.true) (sym told ∙ w.if-counts.true),
            );
      }
      | else-k-buyer w ↦ record {
        small = omega (arith, w.sum-is, inv.small);
        total = λ t h.
            elim w.else-k-buyer.branch [
              | else-k-buyer-via-then-k-buyer+else-counts w' ↦
                  let told = h j _ c.loop-j-test.true (rw row at w'.counts.ensures) in
                  omega (arith, w.sum-is, inv.total t h, step t, left_out a.buyer t k j (sym told ∙ w'.if-counts.false))
              | else-k-buyer-via-else-k-buyer w' ↦
                  omega (arith, w.sum-is, inv.total t h, step t, of_another a.buyer t k j (λ e. w'.if-k-buyer.false (buyer ∙ e)))
            ];
      }
    ]

pub returns : goal.returns
unfolding part_total
returns g c t h =
    let e : c.loop-j.j ≡ c.args.c.contracts = omega arith in
    rw e at c.loop-j.invariant.total t h
