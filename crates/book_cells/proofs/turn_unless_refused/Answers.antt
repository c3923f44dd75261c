use Rattle.std.proofs.Common.{sym, ◌∙◌}
use Rattle.book_cells.proofs.Turning.{fine_turnable}
use Rattle.book_cells.proofs.turn_unless_refused.Goals as goal

pub turn-requires : goal.turn-requires
turn-requires c =
    fine_turnable c.args.cells.now c.args.hour c.args.own _ c.requires
    (sym c.cells_verdict.ensures ∙ c.in_ok-cells_verdict.was)
