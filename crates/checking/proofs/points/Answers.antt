-- Point 21 first: the loss shares, over what retailers used. Where it holds the demands are those with the statement's shares, and the
-- other points are judged by them (`points_on`).
use Rattle.std.proofs.Common.{sym, ◌∙◌, arith, rules}
use Rattle.sums.proofs.Fill.{front_fits, front_long}
use Rattle.refusals.proofs.Fine.{fine_test}
use Rattle.columns.proofs.Columns.{sound}
use Rattle.hour.specs.Answer.{Lent, lent}
use Rattle.checking.specs.declared.Stated.{Stated}
use Rattle.checking.proofs.Stating.{used_fits, shares_are, demand_fits, demands_are, points_on, points_21}
use Rattle.checking.proofs.points.Goals as goal

abbrev lists : Stated → Lent
lists a = lent a.figures.now a.money.now a.schedule.now a.amounts.now

pub total-consumed-requires : goal.total-consumed-requires
total-consumed-requires c =
    let r = c.requires in
    used_fits _ (sound _ _ r.bytes_value) (lists c.args.stated) _ _ _ _ _ r.roomy.1

pub good-good-requires : goal.good-good-requires
good-good-requires c =
    let w = c.requires.roomy.1.long in
    let few = (sound _ _ c.requires.bytes_value).few.agents in
    (omega (arith, w.kinds), w.taken ∙ sym w.kinds, omega (arith, w.kinds, c.requires.roomy.0.figures))

pub returns-in_err-refuse_unless : goal.returns-in_err-refuse_unless
returns-in_err-refuse_unless c =
    let r = c.requires in
    let h = sound _ _ r.bytes_value in
    let shared = shares_are _ h (lists c.args.stated) _ _ _ _ _ r.roomy.1 _ c.total-consumed.ensures in
    rw (points_21 _ h _ _ _ _ _ _ r.roomy.1 _ _
    (sym (rw (c.good-good.ensures, shared) at c.refuse_unless.ensures) ∙ c.in_err-refuse_unless.was)) (search rules)

pub demands-requires-clause-in_bounds : goal.demands-requires-clause-in_bounds
demands-requires-clause-in_bounds c =
    let w = c.requires.roomy.1.long in
    let few = (sound _ _ c.requires.bytes_value).few.agents in
    (omega (arith, w.taken), omega (arith, w.taken, c.requires.roomy.0.figures), omega (arith, w.taken))

pub demands-requires-clause-by_index : goal.demands-requires-clause-by_index
demands-requires-clause-by_index c =
    let r = c.requires in
    let h = sound _ _ r.bytes_value in
    let shared = shares_are _ h (lists c.args.stated) _ _ _ _ _ r.roomy.1 _ c.total-consumed.ensures in
    let passed = fine_test _ _ _ (sym (rw (c.good-good.ensures, shared) at c.refuse_unless.ensures) ∙ c.in_ok-refuse_unless.was) in
    λ a l. demand_fits _ h _ _ _ _ _ _ r.roomy.1 passed a (omega (arith, r.roomy.1.long.taken))

pub slice_bounds-demands-end-2 : goal.slice_bounds-demands-end-2
slice_bounds-demands-end-2 c =
    front_fits _ _ _ _ c.demands.ensures
    (omega (arith, c.requires.roomy.1.long.taken, (sound _ _ c.requires.bytes_value).few.agents))

pub slice_bounds-trades-end : goal.slice_bounds-trades-end
slice_bounds-trades-end c =
    sym (front_long _ _ _ _ c.demands.ensures
    (omega (arith, c.requires.roomy.1.long.taken, (sound _ _ c.requires.bytes_value).few.agents)))

pub trades-requires-clause-roomy : goal.trades-requires-clause-roomy
trades-requires-clause-roomy c =
    let r = c.requires in
    let h = sound _ _ r.bytes_value in
    let shared = shares_are _ h (lists c.args.stated) _ _ _ _ _ r.roomy.1 _ c.total-consumed.ensures in
    let passed = fine_test _ _ _ (sym (rw (c.good-good.ensures, shared) at c.refuse_unless.ensures) ∙ c.in_ok-refuse_unless.was) in
    (r.roomy.0, demands_are _ h _ _ _ _ _ _ r.roomy.1 passed _ r.roomy.1.long.taken _ c.demands.ensures)

pub returns : goal.returns
returns c =
    let r = c.requires in
    let h = sound _ _ r.bytes_value in
    let shared = shares_are _ h (lists c.args.stated) _ _ _ _ _ r.roomy.1 _ c.total-consumed.ensures in
    let passed = fine_test _ _ _ (sym (rw (c.good-good.ensures, shared) at c.refuse_unless.ensures) ∙ c.in_ok-refuse_unless.was) in
    c.trades.ensures ∙ sym (points_on _ h _ _ _ _ _ _ r.roomy.1 passed _)
