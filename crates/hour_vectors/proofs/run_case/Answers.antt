-- An accepted sheet has no more rows than the lists have cells.
use Rattle.std.proofs.Common.{arith, sym, length-take-le}
use Rattle.sheet.proofs.Accepted.{accepted_few}
use Rattle.hour_vectors.proofs.run_case.Goals as goal

pub overflow_mul-figures : goal.overflow_mul-figures
overflow_mul-figures g c =
    let f = accepted_few _ _ (sym c.in-Ok.ensures) in
    omega (arith, f.agents)

pub slice_bounds-figures-end : goal.slice_bounds-figures-end
slice_bounds-figures-end g c =
    let f = accepted_few _ _ (sym c.in-Ok.ensures) in
    omega (arith, f.agents, c.settle-s.ensures.figures.long)

pub slice_bounds-figures-end-2 : goal.slice_bounds-figures-end-2
slice_bounds-figures-end-2 g c =
    let f = accepted_few _ _ (sym c.in-Ok.ensures) in
    sym (length-take-le _ _ (omega (arith, f.agents, c.settle-s.ensures.figures.long)))

pub slice_bounds-money-end : goal.slice_bounds-money-end
slice_bounds-money-end g c =
    let f = accepted_few _ _ (sym c.in-Ok.ensures) in
    omega (arith, f.agents, c.settle-s.ensures.money.long)

pub slice_bounds-print_page-end-2 : goal.slice_bounds-print_page-end-2
slice_bounds-print_page-end-2 g c =
    let f = accepted_few _ _ (sym c.in-Ok.ensures) in
    sym (length-take-le _ _ (omega (arith, f.agents, c.settle-s.ensures.money.long)))

pub slice_bounds-schedule-end : goal.slice_bounds-schedule-end
slice_bounds-schedule-end g c =
    let f = accepted_few _ _ (sym c.in-Ok.ensures) in
    omega (arith, f.plants, c.settle-s.ensures.schedule.long)

pub slice_bounds-print_lists-end : goal.slice_bounds-print_lists-end
slice_bounds-print_lists-end g c =
    let f = accepted_few _ _ (sym c.in-Ok.ensures) in
    sym (length-take-le _ _ (omega (arith, f.plants, c.settle-s.ensures.schedule.long)))

pub slice_bounds-amounts-end : goal.slice_bounds-amounts-end
slice_bounds-amounts-end g c =
    let f = accepted_few _ _ (sym c.in-Ok.ensures) in
    omega (arith, f.contracts, c.settle-s.ensures.amounts.long)

pub slice_bounds-print_lists-end-2 : goal.slice_bounds-print_lists-end-2
slice_bounds-print_lists-end-2 g c =
    let f = accepted_few _ _ (sym c.in-Ok.ensures) in
    sym (length-take-le _ _ (omega (arith, f.contracts, c.settle-s.ensures.amounts.long)))
