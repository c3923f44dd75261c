use Rattle.std.proofs.Common.{◌∙◌, sym, arith}
use Rattle.contracts.proofs.Walks.{quantities_long, quantities_at, group_none, group_shared, group_full, scattered_by}
use Rattle.contracts.proofs.walk.serve_group.Goals as goal

-- nothing is left, and all get nothing
pub returns-then-tally-eq0 : goal.returns-then-tally-eq0
returns-then-tally-eq0 c = (
  omega arith,
  scattered_by
      (λ u l. group_none _ _ u c.if-tally-eq0.true (omega (arith, quantities_long c.args.section.now c.args.keys.now)))
      c.nothing.ensures,
)

-- not all of it fits
pub returns-then-from-asked : goal.returns-then-from-asked
returns-then-from-asked c =
    (omega arith, scattered_by (λ u l. group_shared _ _ u (omega arith)) c.share_left.ensures)

-- all of it fits
pub returns : goal.returns
returns c = (
  omega arith,
  scattered_by (λ u l. sym (quantities_at _ _ u l) ∙ group_full _ _ u (omega arith)) c.in_full.ensures,
)
