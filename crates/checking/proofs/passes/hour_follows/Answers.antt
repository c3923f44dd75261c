use Rattle.std.proofs.Common.{refl, ◌∙◌, arith}
use Rattle.checking.proofs.Accounts.{all_unseen, all_unsummed, hour_good_lem, rows_long, prices_are}
use Rattle.checking.proofs.passes.hour_follows.Goals as goal

pub look_rows-requires-clause-begun : goal.look_rows-requires-clause-begun
look_rows-requires-clause-begun c = all_unseen _ _ _ refl

pub add_rows-requires-clause-begun : goal.add_rows-requires-clause-begun
add_rows-requires-clause-begun c = all_unsummed _ _ _ _ refl

pub returns : goal.returns
returns c =
    c.agents_good.ensures
    ∙ hour_good_lem _ _ _ _ _ _ _ (rows_long _) c.requires.agents
    (λ i l. omega (arith, prices_are c.args.rows.now i l, c.requires.placed.small i l))
    c.look_rows.ensures c.add_rows.ensures
    c.group_rows-fine.ensures
