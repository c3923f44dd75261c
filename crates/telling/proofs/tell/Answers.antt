use Rattle.std.proofs.Common.{◌≡◌, Err, sym, ◌∙◌, rules}
use Rattle.telling.proofs.Telling.{told_refusal, read_refusal}
use Rattle.telling.proofs.tell.Goals as goal

pub returns-in_err-c : goal.returns-in_err-c
returns-in_err-c c =
    let a = c.args in
    let why = c.in_err-c.field-0.0 in
    let same : c.from_residual.result ≡ Err why = search rules in
    rw same (told_refusal a.sheet.now a.out.now why (read_refusal a.sheet.now why (sym c.read.ensures ∙ c.in_err-c.was)))

pub tell_accepted-requires : goal.tell_accepted-requires
tell_accepted-requires c = sym c.read.ensures ∙ c.in_ok-c.was
