-- The columns are the sheet's, and the steps over them those of `Planted`; the sums by agent and the price are of the schedule.
use Rattle.std.proofs.Common.{◌≤◌, ◌∙◌, sym, length, length-take-le, arith}
use Rattle.sums.proofs.Fill.{filled_count, front_fits, front_long}
use Rattle.sheet.proofs.Accepted.{accepted_few}
use Rattle.columns.proofs.Columns.{plants_long, sound}
use Rattle.settle.proofs.Stages.{price_is, plants_count, own_is, own_small}
use Rattle.settle.proofs.Planted.{front, apart_asked, spare_fits, musts_asked, filled}
use Rattle.settle.proofs.plants.generate.Goals as goal

pub slice_bounds-musts-end : goal.slice_bounds-musts-end
slice_bounds-musts-end c = front_fits _ _ _ _ c.columns.ensures.musts (accepted_few _ _ c.requires.bytes_value).plants

pub slice_bounds-musts-end-2 : goal.slice_bounds-musts-end-2
slice_bounds-musts-end-2 c = sym (front_long _ _ _ _ c.columns.ensures.musts (accepted_few _ _ c.requires.bytes_value).plants)

pub set_apart-must-requires : goal.set_apart-must-requires
set_apart-must-requires c =
    let few = (accepted_few _ _ c.requires.bytes_value).plants in
    apart_asked _ _ c.requires.bytes_value _ few _ c.columns.ensures _ _ _ c.requires.covered (omega arith)

pub slice_bounds-offers-end : goal.slice_bounds-offers-end
slice_bounds-offers-end c = front_fits _ _ _ _ c.columns.ensures.offers (accepted_few _ _ c.requires.bytes_value).plants

pub slice_bounds-dispatch-end : goal.slice_bounds-dispatch-end
slice_bounds-dispatch-end c = sym (front_long _ _ _ _ c.columns.ensures.offers (accepted_few _ _ c.requires.bytes_value).plants)

pub slice_bounds-spare-end : goal.slice_bounds-spare-end
slice_bounds-spare-end c =
    let few = (accepted_few _ _ c.requires.bytes_value).plants in
    spare_fits _ _ c.requires.bytes_value _ few _ c.columns.ensures _ _ _ c.requires.covered _ _ c.set_apart-must.ensures

pub slice_bounds-dispatch-end-2 : goal.slice_bounds-dispatch-end-2
slice_bounds-dispatch-end-2 c =
    let few = (accepted_few _ _ c.requires.bytes_value).plants in
    let fits = spare_fits _ _ c.requires.bytes_value _ few _ c.columns.ensures _ _ _ c.requires.covered _ _ c.set_apart-must.ensures in
    sym (length-take-le _ _ fits)

pub add_musts-requires-clause-musts_len : goal.add_musts-requires-clause-musts_len
add_musts-requires-clause-musts_len c =
    let few = (accepted_few _ _ c.requires.bytes_value).plants in
    (musts_asked _ _ c.requires.bytes_value _ few _ c.columns.ensures _ _ _ c.requires.covered _ _ c.set_apart-must.ensures _ c.saturating_sub-rest.ensures _ _ c.dispatch.ensures).0

pub add_musts-requires-clause-by_index : goal.add_musts-requires-clause-by_index
add_musts-requires-clause-by_index c =
    let few = (accepted_few _ _ c.requires.bytes_value).plants in
    (musts_asked _ _ c.requires.bytes_value _ few _ c.columns.ensures _ _ _ c.requires.covered _ _ c.set_apart-must.ensures _ c.saturating_sub-rest.ensures _ _ c.dispatch.ensures).1

pub slice_bounds-holders-end : goal.slice_bounds-holders-end
slice_bounds-holders-end c = front_fits _ _ _ _ c.columns.ensures.holders (accepted_few _ _ c.requires.bytes_value).plants

pub slice_bounds-tally-end : goal.slice_bounds-tally-end
slice_bounds-tally-end c = sym (front_long _ _ _ _ c.columns.ensures.holders (accepted_few _ _ c.requires.bytes_value).plants)

pub slice_bounds-tally-end-2 : goal.slice_bounds-tally-end-2
slice_bounds-tally-end-2 c =
    let few = (accepted_few _ _ c.requires.bytes_value).plants in
    let room : c.args.c.plants ≤ length c.args.schedule.now = omega (arith, plants_long c.args.bytes.now c.args.c, c.requires.covered.fits) in
    front_fits _ _ _ _ (filled _ _ c.requires.bytes_value _ few _ c.columns.ensures _ _ _ c.requires.covered _ _ c.set_apart-must.ensures _ c.saturating_sub-rest.ensures _ _ c.dispatch.ensures _ c.add_musts.ensures) room

pub slice_bounds-tally-end-3 : goal.slice_bounds-tally-end-3
slice_bounds-tally-end-3 c =
    let few = (accepted_few _ _ c.requires.bytes_value).plants in
    let room : c.args.c.plants ≤ length c.args.schedule.now = omega (arith, plants_long c.args.bytes.now c.args.c, c.requires.covered.fits) in
    sym (front_long _ _ _ _ (filled _ _ c.requires.bytes_value _ few _ c.columns.ensures _ _ _ c.requires.covered _ _ c.set_apart-must.ensures _ c.saturating_sub-rest.ensures _ _ c.dispatch.ensures _ c.add_musts.ensures) room)

pub tally-requires : goal.tally-requires
tally-requires c =
    let few = (accepted_few _ _ c.requires.bytes_value).plants in
    let room : c.args.c.plants ≤ length c.args.schedule.now = omega (arith, plants_long c.args.bytes.now c.args.c, c.requires.covered.fits) in
    let ok = sound _ _ c.requires.bytes_value in
    plants_count _ ok _ (plants_long _ _) _ _ room (filled _ _ c.requires.bytes_value _ few _ c.columns.ensures _ _ _ c.requires.covered _ _ c.set_apart-must.ensures _ c.saturating_sub-rest.ensures _ _ c.dispatch.ensures _ c.add_musts.ensures) _ _ (front _ _ c.requires.bytes_value _ few _ c.columns.ensures).holders c.requires.covered.own.long
    (own_small _ ok _ _ _ c.requires.covered)

pub slice_bounds-offers-end-2 : goal.slice_bounds-offers-end-2
slice_bounds-offers-end-2 c = front_fits _ _ _ _ c.columns.ensures.offers (accepted_few _ _ c.requires.bytes_value).plants

pub slice_bounds-price-end : goal.slice_bounds-price-end
slice_bounds-price-end c = sym (front_long _ _ _ _ c.columns.ensures.offers (accepted_few _ _ c.requires.bytes_value).plants)

pub slice_bounds-flags-end : goal.slice_bounds-flags-end
slice_bounds-flags-end c = front_fits _ _ _ _ c.columns.ensures.flags (accepted_few _ _ c.requires.bytes_value).plants

pub slice_bounds-price-end-2 : goal.slice_bounds-price-end-2
slice_bounds-price-end-2 c = sym (front_long _ _ _ _ c.columns.ensures.flags (accepted_few _ _ c.requires.bytes_value).plants)

pub slice_bounds-price-end-3 : goal.slice_bounds-price-end-3
slice_bounds-price-end-3 c =
    let few = (accepted_few _ _ c.requires.bytes_value).plants in
    let room : c.args.c.plants ≤ length c.args.schedule.now = omega (arith, plants_long c.args.bytes.now c.args.c, c.requires.covered.fits) in
    front_fits _ _ _ _ (filled _ _ c.requires.bytes_value _ few _ c.columns.ensures _ _ _ c.requires.covered _ _ c.set_apart-must.ensures _ c.saturating_sub-rest.ensures _ _ c.dispatch.ensures _ c.add_musts.ensures) room

pub slice_bounds-price-end-4 : goal.slice_bounds-price-end-4
slice_bounds-price-end-4 c =
    let few = (accepted_few _ _ c.requires.bytes_value).plants in
    let room : c.args.c.plants ≤ length c.args.schedule.now = omega (arith, plants_long c.args.bytes.now c.args.c, c.requires.covered.fits) in
    sym (front_long _ _ _ _ (filled _ _ c.requires.bytes_value _ few _ c.columns.ensures _ _ _ c.requires.covered _ _ c.set_apart-must.ensures _ c.saturating_sub-rest.ensures _ _ c.dispatch.ensures _ c.add_musts.ensures) room)

pub returns : goal.returns
returns c =
    let few = (accepted_few _ _ c.requires.bytes_value).plants in
    let room : c.args.c.plants ≤ length c.args.schedule.now = omega (arith, plants_long c.args.bytes.now c.args.c, c.requires.covered.fits) in
    let ok = sound _ _ c.requires.bytes_value in
    let count = plants_long _ _ in
    let f = front _ _ c.requires.bytes_value _ few _ c.columns.ensures in
    let k = filled _ _ c.requires.bytes_value _ few _ c.columns.ensures _ _ _ c.requires.covered _ _ c.set_apart-must.ensures _ c.saturating_sub-rest.ensures _ _ c.dispatch.ensures _ c.add_musts.ensures in
    record {
      price = c.price.ensures ∙ price_is _ ok _ count _ _ room k _ _ f.offers f.flags;
      own = own_is _ ok _ count _ _ room k _ c.args.own.now c.tally.new.out f.holders c.requires.covered.own c.tally.ensures;
      schedule = filled_count 0 _ _ _ _ _ (sym count) k;
    }
