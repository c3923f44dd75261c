use Rattle.std.proofs.Common.{◌^◌, ◌∙◌, arith}
use Rattle.share.proofs.Lacks.{class_is, note_out, note_in}
use Rattle.share.proofs.note.Goals as goal

pub returns-then-c-lt63 : goal.returns-then-c-lt63
returns-then-c-lt63 c =
    let a = c.args in
    let q = c.class_of-c in
    note_in a.low (2 ^ a.s) a.k q.result a.counts.now
    (class_is a.low (2 ^ a.s) a.k q.result q.ensures.0 q.ensures.1 ∙ omega arith) (omega arith)

pub returns-else-c-lt63 : goal.returns-else-c-lt63
returns-else-c-lt63 c =
    let a = c.args in
    let q = c.class_of-c in
    note_out a.low (2 ^ a.s) a.k a.counts.now (class_is a.low (2 ^ a.s) a.k q.result q.ensures.0 q.ensures.1 ∙ omega arith)
