-- The columns are the sheet's, so what the two passes find, and what is added to own energy, is the sheet's too.
use Rattle.std.proofs.Common.{sym, ◌∙◌}
use Rattle.sums.proofs.Fill.{front_fits, front_long}
use Rattle.sheet.proofs.Accepted.{accepted_few}
use Rattle.columns.proofs.Columns.{plants_long, sound}
use Rattle.ground.proofs.Rows.{front_is}
use Rattle.checking.proofs.Fronts.{count_holders, own_is, schedule_is}
use Rattle.checking.proofs.plants.judge.Goals as goal

pub slice_bounds-holders-end : goal.slice_bounds-holders-end
slice_bounds-holders-end c = front_fits _ _ _ _ c.columns.ensures.holders (accepted_few _ _ c.requires.bytes_value).plants

pub slice_bounds-tally-end : goal.slice_bounds-tally-end
slice_bounds-tally-end c = sym (front_long _ _ _ _ c.columns.ensures.holders (accepted_few _ _ c.requires.bytes_value).plants)

pub slice_bounds-flags-end : goal.slice_bounds-flags-end
slice_bounds-flags-end c = front_fits _ _ _ _ c.columns.ensures.flags (accepted_few _ _ c.requires.bytes_value).plants

pub slice_bounds-fleet-end : goal.slice_bounds-fleet-end
slice_bounds-fleet-end c = sym (front_long _ _ _ _ c.columns.ensures.flags (accepted_few _ _ c.requires.bytes_value).plants)

pub slice_bounds-musts-end : goal.slice_bounds-musts-end
slice_bounds-musts-end c = front_fits _ _ _ _ c.columns.ensures.musts (accepted_few _ _ c.requires.bytes_value).plants

pub slice_bounds-fleet-end-2 : goal.slice_bounds-fleet-end-2
slice_bounds-fleet-end-2 c = sym (front_long _ _ _ _ c.columns.ensures.musts (accepted_few _ _ c.requires.bytes_value).plants)

pub slice_bounds-offers-end : goal.slice_bounds-offers-end
slice_bounds-offers-end c = front_fits _ _ _ _ c.columns.ensures.offers (accepted_few _ _ c.requires.bytes_value).plants

pub slice_bounds-fleet-end-3 : goal.slice_bounds-fleet-end-3
slice_bounds-fleet-end-3 c = sym (front_long _ _ _ _ c.columns.ensures.offers (accepted_few _ _ c.requires.bytes_value).plants)

pub slice_bounds-available-end : goal.slice_bounds-available-end
slice_bounds-available-end c = front_fits _ _ _ _ c.columns.ensures.available (accepted_few _ _ c.requires.bytes_value).plants

pub slice_bounds-fleet-end-4 : goal.slice_bounds-fleet-end-4
slice_bounds-fleet-end-4 c = sym (front_long _ _ _ _ c.columns.ensures.available (accepted_few _ _ c.requires.bytes_value).plants)

pub tally-requires : goal.tally-requires
tally-requires c =
    let r = c.requires in
    let few = (accepted_few _ _ r.bytes_value).plants in
    count_holders _ _ r.bytes_value _ r.plants_in_bounds.0 _ _ (front_is _ _ _ _ few (plants_long _ _) c.columns.ensures.holders)
    r.plants_in_bounds.1

pub returns : goal.returns
returns c =
    let r = c.requires in
    let few = (accepted_few _ _ r.bytes_value).plants in
    let w = (sound _ _ r.bytes_value).whole in
    let n = plants_long c.args.bytes.now c.args.c in
    let t = c.columns.ensures in
    record {
      price = c.then_some.ensures
          ∙ schedule_is _ _ r.bytes_value _ r.plants_in_bounds.0 _ _ _ _ (front_is _ _ _ _ few (w.flags ∙ n) t.flags)
          (front_is _ _ _ _ few (w.must_run ∙ n) t.musts) (front_is _ _ _ _ few (w.offers ∙ n) t.offers)
          (front_is _ _ _ _ few (w.available ∙ n) t.available) _ c.run_all-v.ensures _ _ c.in_order-order.ensures;
      own =
          own_is _ _ r.bytes_value _ r.plants_in_bounds.0 _ _ _ (front_is _ _ _ _ few n t.holders) c.tally.ensures;
      long = c.tally.ensures.long;
    }
