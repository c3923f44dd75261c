-- A refusal of the sheet is told as it comes; where there is none, what was weighed is the sheet's, and the points are all that is left.
use Rattle.std.proofs.Common.{sym, ◌∙◌, rules}
use Rattle.columns.proofs.Columns.{agents_long}
use Rattle.ground.proofs.Admitted.{fine_room}
use Rattle.checking.proofs.Refusing.{turned, points_left, turned_away, let_in, weighs}
use Rattle.checking.proofs.check_read.Goals as goal

pub returns-in_err-w : goal.returns-in_err-w
returns-in_err-w c =
    rw (turned _ _ _ _ (turned_away _ _ _ (sym c.admit.ensures.answer ∙ c.in_err-w.was))) (search rules)

pub points-requires-clause-roomy : goal.points-requires-clause-roomy
points-requires-clause-roomy c =
    let w = c.admit.ensures in
    let h = let_in _ _ _ (sym w.answer ∙ c.in_ok-w.was) in (
      fine_room _ _ h.0,
      weighs _ _ (agents_long _ _) c.requires.few _ (w.columns h.0) _ h.1 _ _ c.differences.ensures c.differences-2.ensures,
    )

pub returns : goal.returns
returns c =
    let h = let_in _ _ _ (sym c.admit.ensures.answer ∙ c.in_ok-w.was) in
    c.points.ensures ∙ sym (points_left _ _ _ h.0)
