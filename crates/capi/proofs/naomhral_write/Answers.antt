use Rattle.std.proofs.Common.{length, sym, ◌∙◌, arith}
use Rattle.writing.specs.Numbers.{numbers}
use Rattle.capi.proofs.Told.{done_small}
use Rattle.capi.proofs.naomhral_write.Goals as goal

-- a sheet that was written is short
pub overflow_cast-n : goal.overflow_cast-n
overflow_cast-n c =
    let a = c.args in
    let small =
    done_small (numbers a.agents.now a.boundaries.now a.plants.now a.contracts.now)
    (length a.out.now) c.in-Ok.n
    (sym c.in-Ok.is ∙ c.write.ensures.answer) in
    omega arith
