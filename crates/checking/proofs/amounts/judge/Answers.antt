-- The rows are the sheet's contracts, so what each agent holds, and the test by three passes, are the definitions'.
use Rattle.std.proofs.Common.{ap, sym, ◌∙◌, arith}
use Rattle.sums.proofs.Fill.{front_fits, front_long}
use Rattle.sheet.proofs.Accepted.{accepted_few}
use Rattle.deals.specs.Hour.{Rows}
use Rattle.statement.specs.Hour.{hour_good}
use Rattle.checking.proofs.Fronts.{deals_are, dealt, holdable, held_is}
use Rattle.checking.proofs.amounts.judge.Goals as goal

pub slice_bounds-all-end : goal.slice_bounds-all-end
slice_bounds-all-end c =
    front_fits _ _ _ _ c.contracts.ensures (accepted_few _ _ c.requires.bytes_value).contracts

pub slice_bounds-rows-end : goal.slice_bounds-rows-end
slice_bounds-rows-end c =
    sym (front_long _ _ _ _ c.contracts.ensures (accepted_few _ _ c.requires.bytes_value).contracts)

pub hold-requires : goal.hold-requires
hold-requires c =
    let r = c.requires in
    holdable _ _ r.bytes_value _ c.contracts.ensures _ r.contracts_in_bounds.0 _ r.contracts_in_bounds.2

pub hour_follows-requires : goal.hour_follows-requires
hour_follows-requires c =
    let r = c.requires in
    dealt _ _ r.bytes_value _ c.contracts.ensures _ r.contracts_in_bounds.0 _ r.contracts_in_bounds.1
    (λ j. omega (arith, c.type_inv.amounts j))

pub returns : goal.returns
returns c =
    let r = c.requires in
    record {
      good = c.hour_follows.ensures
          ∙ ap (λ (d : Rows). hour_good d c.args.demands.now c.args.amounts.now)
          (deals_are _ _ r.bytes_value _ c.contracts.ensures);
      held = held_is _ _ r.bytes_value _ c.contracts.ensures _ r.contracts_in_bounds.0 _ _ c.hold.ensures;
      long = c.hold.ensures.long;
    }
