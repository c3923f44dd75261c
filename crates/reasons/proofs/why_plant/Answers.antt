use Rattle.std.proofs.Common.{◌≡◌, sym, ◌∙◌, Err, rules}
use Rattle.reasons.proofs.Told.{plant_unread}
use Rattle.reasons.proofs.why_plant.Goals as goal

pub returns-in_err-c : goal.returns-in_err-c
returns-in_err-c c =
    let f : c.from_residual.result ≡ Err c.in_err-c.field-0.0 = search rules in
    f ∙ plant_unread c.args.bytes.now c.args.plant _ (sym c.read.ensures ∙ c.in_err-c.was)
