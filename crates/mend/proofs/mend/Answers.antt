use Rattle.std.proofs.Common.{sym, ◌∙◌}
use Rattle.mend.proofs.Verdicts.{rows_verdict_lem}
use Rattle.mend.proofs.mend.Goals as goal

pub returns : goal.returns
returns c =
    rw (rows_verdict_lem _ _ _ _ (sym c.count_rows.ensures ∙ c.in_ok-c.was)) c.mend_counted.ensures
