use Rattle.std.proofs.Common.{not, ap, ◌∙◌}
use Rattle.stating.proofs.Marking.{none_zero}
use Rattle.stating.proofs.marks.is_complete.Goals as goal

pub returns : goal.returns
returns c = ap not c.contains.ensures.value ∙ none_zero c.args.marks.now
