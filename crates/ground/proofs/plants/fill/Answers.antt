use Rattle.std.proofs.Common.{◌≡◌, ap, arith}
use Rattle.limits.specs.declared.Plant.{Plant}
use Rattle.sums.proofs.Fill.{filled_none, filled_more}
use Rattle.columns.specs.Columns.{columns_of}
use Rattle.columns.proofs.Columns.{holder_at, flag_at, must_at, offer_at, available_at}
use Rattle.ground.proofs.Rows.{plant, column_filled}
use Rattle.ground.proofs.plants.fill.Goals as goal

pub loop-i-init : goal.loop-i-init
loop-i-init c = record {
  holders = filled_none 0 _ _;
  flags = filled_none 0 _ _;
  musts = filled_none 0 _ _;
  offers = filled_none 0 _ _;
  available = filled_none 0 _ _;
}

pub loop-i-preserved : goal.loop-i-preserved
loop-i-preserved c =
    let is : c.plant_of-p.result ≡ plant c.section_of-section.result.now c.loop-i.i = cc in
    let l = c.loop-i.invariant in
    record {
      holders = filled_more 0 _ c.loop-i.holders c.loop-i.i _ _ (omega arith) (ap (λ (p : Plant). p.agent) is) l.holders;
      flags = filled_more 0 _ c.loop-i.flags c.loop-i.i _ _ (omega arith) (ap (λ (p : Plant). p.inflexible) is) l.flags;
      musts = filled_more 0 _ c.loop-i.musts c.loop-i.i _ _ (omega arith) (ap (λ (p : Plant). p.must) is) l.musts;
      offers = filled_more 0 _ c.loop-i.offers c.loop-i.i _ _ (omega arith) (ap (λ (p : Plant). p.price) is) l.offers;
      available = filled_more 0 _ c.loop-i.available c.loop-i.i _ _ (omega arith) (ap (λ (p : Plant). p.availability) is) l.available;
    }

pub returns : goal.returns
returns c =
    let s = c.args.bytes.now in
    let k = c.args.c in
    let e : c.loop-i.i ≡ k.plants = omega arith in
    let f = column_filled s k c.requires.bytes_value _ c.section_of-section.ensures in
    let l = c.loop-i.invariant in
    record {
      holders = f (λ p. p.agent) (columns_of s k).holders (holder_at s k) _ _ (rw e at l.holders);
      flags = f (λ p. p.inflexible) (columns_of s k).flags (flag_at s k) _ _ (rw e at l.flags);
      musts = f (λ p. p.must) (columns_of s k).must_run (must_at s k) _ _ (rw e at l.musts);
      offers = f (λ p. p.price) (columns_of s k).offers (offer_at s k) _ _ (rw e at l.offers);
      available = f (λ p. p.availability) (columns_of s k).available (available_at s k) _ _ (rw e at l.available);
    }
