-- Each list lends the cells of hour h's part and gets them back as settling left them.
use Rattle.std.proofs.Common.{◌≡◌, ℕ, ◌+◌, ◌-◌, ◌*◌, arith}
use Rattle.day.specs.Day.{figures_part, money_part, schedule_part, amounts_part}
use Rattle.day.proofs.Hours.{one_hour}
use Rattle.day.proofs.settle_hour.Goals as goal

-- how many cells lie from the start of a part to its end
abbrev lent_cells : (w h : ℕ) → ℕ
lent_cells w h = w * h + w - w * h

all_cells_lem : (w h : ℕ) → lent_cells w h ≡ w
all_cells_lem w h = omega arith

pub returns : goal.returns
returns c =
    let h = c.args.h in
    one_hour h _ _ _ _ c.requires (lent_cells figures_part h) (lent_cells money_part h) (lent_cells schedule_part h)
    (lent_cells amounts_part h) (all_cells_lem figures_part h) (all_cells_lem money_part h) (all_cells_lem schedule_part h)
    (all_cells_lem amounts_part h) c.settle.ensures
