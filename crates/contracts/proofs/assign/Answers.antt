use Rattle.std.proofs.Common.{refl, sym}
use Rattle.contracts.proofs.SideSums.{added_none}
use Rattle.contracts.proofs.Uncut.{none_cut_full}
use Rattle.contracts.proofs.Verdicts.{fine_ready, assigned_all}
use Rattle.contracts.proofs.assign.Goals as goal

pub survey-requires : goal.survey-requires
survey-requires c = (added_none _ _ _, refl)

pub assign_some-requires-clause-ready : goal.assign_some-requires-clause-ready
assign_some-requires-clause-ready c = fine_ready _ _ c.args.out.now (c.in_ok-survey.ensures.surveyed _ refl).fine

pub returns-else-branch : goal.returns-else-branch
returns-else-branch c =
    let found = c.in_ok-survey.ensures.surveyed _ refl in
    let ready = (fine_ready _ _ c.args.out.now found.fine).0 in
    assigned_all _ _ _ _ (sym found.fine)
    (none_cut_full _ _ ready _ found.cuts _ _ (found.none c.if-branch.false) c.in_full.ensures)
