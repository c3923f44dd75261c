-- Points 22 to 25 in their order: each verdict of the code is the definition's, by the demand and the columns that it was handed,
-- so that the first which fails is the one told, and where none does all hold.
use Rattle.std.proofs.Common.{sym, ◌∙◌, arith, rules}
use borrow.Author.Tests.{eqb-true}
use Rattle.refusals.proofs.Fine.{fine_test}
use Rattle.columns.proofs.Columns.{agents_long, plants_long, contracts_long, sound}
use Rattle.checking.proofs.Stating.{retailers_fit, generators_fit, smalls_fit, addable, none_added}
use Rattle.checking.proofs.Stating.{schedule_none, schedule_some, price_are, price_fits, amounts_are, lines_are}
use Rattle.checking.proofs.Stating.{trades_22, trades_23, trades_24, trades_25}
use Rattle.checking.proofs.trades.Goals as goal

pub total-retailers-requires : goal.total-retailers-requires
total-retailers-requires c =
    let r = c.requires in
    retailers_fit _ (sound _ _ r.bytes_value) _ _ _ _ _ r.roomy.1

pub total-generators-requires : goal.total-generators-requires
total-generators-requires c =
    let r = c.requires in
    generators_fit _ (sound _ _ r.bytes_value) _ _ _ _ _ r.roomy.1

pub total-small-requires : goal.total-small-requires
total-small-requires c =
    let r = c.requires in
    smalls_fit _ (sound _ _ r.bytes_value) _ _ _ _ _ r.roomy.1

pub overflow_add-retailers : goal.overflow_add-retailers
overflow_add-retailers c =
    let r = c.requires in
    omega (
      arith,
      c.total-retailers.ensures,
      c.total-generators.ensures,
      retailers_fit _ (sound _ _ r.bytes_value) _ _ _ _ _ r.roomy.1,
      generators_fit _ (sound _ _ r.bytes_value) _ _ _ _ _ r.roomy.1,
    )

pub together-requires : goal.together-requires
together-requires c =
    let w = c.requires.roomy.1.long in
    let few = (sound _ _ c.requires.bytes_value).few.agents in
    (w.injects ∙ sym w.taken, omega (arith, w.taken))

pub judge-requires-clause-plants_in_bounds : goal.judge-requires-clause-plants_in_bounds
judge-requires-clause-plants_in_bounds c =
    let r = c.requires in (
      omega (arith, plants_long c.args.bytes.now c.args.c, r.roomy.0.schedule),
      addable _ (sound _ _ r.bytes_value) _ _ _ _ _ r.roomy.1 _ c.together.ensures,
    )

pub returns-in_default : goal.returns-in_default
returns-in_default c =
    let r = c.requires in
    c.refuse.ensures ∙ sym (trades_22 _ (sound _ _ r.bytes_value) _ _ _ _ _ r.roomy.1 _
    (schedule_none _ (sound _ _ r.bytes_value) _ _ _ _ _ r.roomy.1 _ _ _ _ c.total-retailers.ensures c.total-generators.ensures
    c.total-small.ensures c.saturating_sub-target.ensures _ _ _ c.together.ensures c.judge.ensures
    c.in_default.is))

pub returns-in_err-refuse_unless : goal.returns-in_err-refuse_unless
returns-in_err-refuse_unless c =
    let r = c.requires in
    let h = sound _ _ r.bytes_value in
    let passed = schedule_some _ (sound _ _ r.bytes_value) _ _ _ _ _ r.roomy.1 _ _ _ _ c.total-retailers.ensures c.total-generators.ensures
    c.total-small.ensures c.saturating_sub-target.ensures _ _ _ c.together.ensures c.judge.ensures
    _ c.in-Some.is in
    let same = price_are _ (sound _ _ r.bytes_value) _ _ _ _ _ r.roomy.1 _ _ _ _ c.total-retailers.ensures c.total-generators.ensures
    c.total-small.ensures c.saturating_sub-target.ensures _ _ _ c.together.ensures c.judge.ensures
    _ c.in-Some.is c.args.stated.price in
    rw (trades_23 _ h _ _ _ _ _ r.roomy.1 _ passed _ (sym (rw same at c.refuse_unless.ensures) ∙ c.in_err-refuse_unless.was)) (search rules)

pub judge-follow-requires-clause-contracts_in_bounds : goal.judge-follow-requires-clause-contracts_in_bounds
judge-follow-requires-clause-contracts_in_bounds c =
    let r = c.requires in (
      omega (arith, contracts_long c.args.bytes.now c.args.c, r.roomy.0.amounts),
      omega (arith, r.roomy.1.long.taken, agents_long c.args.bytes.now c.args.c),
      none_added _ (sound _ _ r.bytes_value) _ _ _ _ _ r.roomy.1,
    )

pub returns-in_err-refuse_unless-2 : goal.returns-in_err-refuse_unless-2
returns-in_err-refuse_unless-2 c =
    let r = c.requires in
    let h = sound _ _ r.bytes_value in
    let passed = schedule_some _ (sound _ _ r.bytes_value) _ _ _ _ _ r.roomy.1 _ _ _ _ c.total-retailers.ensures c.total-generators.ensures
    c.total-small.ensures c.saturating_sub-target.ensures _ _ _ c.together.ensures c.judge.ensures
    _ c.in-Some.is in
    let same = price_are _ (sound _ _ r.bytes_value) _ _ _ _ _ r.roomy.1 _ _ _ _ c.total-retailers.ensures c.total-generators.ensures
    c.total-small.ensures c.saturating_sub-target.ensures _ _ _ c.together.ensures c.judge.ensures
    _ c.in-Some.is c.args.stated.price in
    let priced = fine_test _ _ _ (sym (rw same at c.refuse_unless.ensures) ∙ c.in_ok-refuse_unless.was) in
    let agreed = amounts_are _ (sound _ _ r.bytes_value) _ _ _ _ _ r.roomy.1 _ _ _ _ c.total-retailers.ensures c.total-generators.ensures
    c.total-small.ensures c.saturating_sub-target.ensures _ _ _ c.together.ensures c.judge.ensures
    _ _ c.judge-follow.ensures in
    rw (trades_24 _ h _ _ _ _ _ r.roomy.1 _ passed priced _
    (sym (rw agreed at c.refuse_unless-2.ensures) ∙ c.in_err-refuse_unless-2.was)) (search rules)

pub good-good-requires-clause-price_fits : goal.good-good-requires-clause-price_fits
good-good-requires-clause-price_fits c =
    let r = c.requires in
    let equal = eqb-true _ _ (fine_test _ _ _ (sym c.refuse_unless.ensures ∙ c.in_ok-refuse_unless.was)) in
    let fits = price_fits _ (sound _ _ r.bytes_value) _ _ _ _ _ r.roomy.1 _ _ _ _ c.total-retailers.ensures c.total-generators.ensures
    c.total-small.ensures c.saturating_sub-target.ensures _ _ _ c.together.ensures c.judge.ensures
    _ c.in-Some.is in
    omega (arith, equal, fits)

pub good-good-requires-clause-in_bounds : goal.good-good-requires-clause-in_bounds
good-good-requires-clause-in_bounds c =
    let w = c.requires.roomy.1.long in
    let few = (sound _ _ c.requires.bytes_value).few.agents in
    let room = c.requires.roomy.0 in (
      omega (arith, w.kinds),
      omega (arith, w.kinds, c.judge.ensures.long, c.together.ensures.long),
      omega (arith, w.kinds, w.imports),
      omega (arith, w.kinds, c.judge-follow.ensures.long),
      omega (arith, w.kinds, room.figures),
      omega (arith, w.kinds, room.money),
    )

pub returns : goal.returns
returns c =
    let r = c.requires in
    let h = sound _ _ r.bytes_value in
    let passed = schedule_some _ (sound _ _ r.bytes_value) _ _ _ _ _ r.roomy.1 _ _ _ _ c.total-retailers.ensures c.total-generators.ensures
    c.total-small.ensures c.saturating_sub-target.ensures _ _ _ c.together.ensures c.judge.ensures
    _ c.in-Some.is in
    let same = price_are _ (sound _ _ r.bytes_value) _ _ _ _ _ r.roomy.1 _ _ _ _ c.total-retailers.ensures c.total-generators.ensures
    c.total-small.ensures c.saturating_sub-target.ensures _ _ _ c.together.ensures c.judge.ensures
    _ c.in-Some.is c.args.stated.price in
    let priced = fine_test _ _ _ (sym (rw same at c.refuse_unless.ensures) ∙ c.in_ok-refuse_unless.was) in
    let agreed = amounts_are _ (sound _ _ r.bytes_value) _ _ _ _ _ r.roomy.1 _ _ _ _ c.total-retailers.ensures c.total-generators.ensures
    c.total-small.ensures c.saturating_sub-target.ensures _ _ _ c.together.ensures c.judge.ensures
    _ _ c.judge-follow.ensures in
    let follow = fine_test _ _ _ (sym (rw agreed at c.refuse_unless-2.ensures) ∙ c.in_ok-refuse_unless-2.was) in
    let lined = lines_are _ (sound _ _ r.bytes_value) _ _ _ _ _ r.roomy.1 _ _ _ _ c.total-retailers.ensures c.total-generators.ensures
    c.total-small.ensures c.saturating_sub-target.ensures _ _ _ c.together.ensures c.judge.ensures
    _ _ c.judge-follow.ensures c.args.stated.price in
    rw (c.good-good.ensures, lined) at c.refuse_unless-3.ensures ∙ sym (trades_25 _ h _ _ _ _ _ r.roomy.1 _ passed priced follow)
