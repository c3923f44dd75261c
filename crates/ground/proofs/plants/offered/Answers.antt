-- The plants so far come to at most so much each, so that one more fits.
use Rattle.std.proofs.Common.{◌≡◌, ap, ◌∙◌, sym, arith}
use Rattle.limits.specs.Limits.{most_available}
use Rattle.limits.specs.declared.Plant.{Plant}
use Rattle.sums.proofs.Sums.{sum_none, sum_step, sum_most}
use Rattle.sheet.proofs.Accepted.{accepted_few}
use Rattle.columns.specs.Columns.{columns_of}
use Rattle.columns.proofs.Columns.{available_at, must_at}
use Rattle.ground.proofs.Rows.{plant, bounded, column_sum}
use Rattle.ground.proofs.plants.offered.Goals as goal

pub loop-i-init : goal.loop-i-init
loop-i-init c = record { available = sym (sum_none _); must = sym (sum_none _) }

pub overflow_add-available : goal.overflow_add-available
overflow_add-available c =
    let b = c.section_of-section.result.now in
    let is : c.plant_of-p.result ≡ plant b c.loop-i.i = cc in
    let small = bounded _ _ c.requires _ c.section_of-section.ensures in
    omega (
      arith,
      c.loop-i.invariant.available,
      ap (λ (p : Plant). p.availability) is,
      (small c.loop-i.i (omega arith)).available,
      sum_most c.loop-i.i most_available (λ j. (plant b j).availability) (λ j m. (small j (omega arith)).available),
      (accepted_few _ _ c.requires).plants,
    )

pub overflow_add-must : goal.overflow_add-must
overflow_add-must c =
    let b = c.section_of-section.result.now in
    let is : c.plant_of-p.result ≡ plant b c.loop-i.i = cc in
    let small = bounded _ _ c.requires _ c.section_of-section.ensures in
    omega (
      arith,
      c.loop-i.invariant.must,
      ap (λ (p : Plant). p.must) is,
      (small c.loop-i.i (omega arith)).must,
      sum_most c.loop-i.i most_available (λ j. (plant b j).must) (λ j m. (small j (omega arith)).must),
      (accepted_few _ _ c.requires).plants,
    )

pub loop-i-preserved : goal.loop-i-preserved
loop-i-preserved c =
    let b = c.section_of-section.result.now in
    let is : c.plant_of-p.result ≡ plant b c.loop-i.i = cc in
    let l = c.loop-i.invariant in
    record {
      available =
          omega (arith, l.available, ap (λ (p : Plant). p.availability) is, sum_step c.loop-i.i (λ j. (plant b j).availability));
      must = omega (arith, l.must, ap (λ (p : Plant). p.must) is, sum_step c.loop-i.i (λ j. (plant b j).must));
    }

pub returns : goal.returns
returns c =
    let s = c.args.bytes.now in
    let k = c.args.c in
    let e : c.loop-i.i ≡ k.plants = omega arith in
    let total = column_sum s k c.requires _ c.section_of-section.ensures in (
      (rw e at c.loop-i.invariant.available) ∙ total (λ p. p.availability) (columns_of s k).available (available_at s k),
      (rw e at c.loop-i.invariant.must) ∙ total (λ p. p.must) (columns_of s k).must_run (must_at s k),
    )
