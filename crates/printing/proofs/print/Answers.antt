-- The lengths of the first line and of the others sum to the page's (`page_size`), so that the room is judged before a byte is written;
-- then first line and others are put one behind the other, and that is the page (`page_parts`).
use Rattle.std.proofs.Common.{ℕ, ◌+◌, List, [], ◌++◌, length, take, refl, sym, ◌∙◌, arith}
use Rattle.sums.proofs.Fill.{filled_none, filled_count}
use Rattle.printing.specs.Text.{lines_to}
use Rattle.printing.specs.Page.{line_of}
use Rattle.printing.specs.Put.{head_of}
use Rattle.printing.proofs.Printing.{bad_lists, no_room_lem, all_printed}
use Rattle.printing.proofs.Front.{page_parts, page_size, appended_more}
use Rattle.printing.proofs.print.Goals as goal

pub returns-then-not-lists_good : goal.returns-then-not-lists_good
returns-then-not-lists_good c = bad_lists _ _ _ _ _ (sym c.lists_good.ensures ∙ c.if-not-lists_good.true)

pub returns-then-out-size : goal.returns-then-out-size
returns-then-out-size c =
    let a = c.args in
    let n = c.lines_in-n.ensures in
    let size = page_size a.kinds.now a.figures.now a.money.now a.r _ _ _ n.0 n.1 c.head_length-head.ensures.0 c.lines_length.ensures.0 in
    no_room_lem _ _ _ _ _ (sym c.lists_good.ensures ∙ c.if-not-lists_good.false) (rw size at c.if-out-size.true)

pub returns : goal.returns
returns c =
    let a = c.args in
    let n = c.lines_in-n.ensures in
    let head_long = c.head_length-head.ensures.0 in
    let size = page_size a.kinds.now a.figures.now a.money.now a.r _ _ _ n.0 n.1 head_long c.lines_length.ensures.0 in
    let head : List ℕ = head_of a.r in
    let front : List ℕ = take c.lines_in-n.result a.kinds.now in
    let lines : List ℕ = lines_to (line_of front a.figures.now a.money.now) (length front) [] in
    let whole =
    appended_more head lines 0 _ _ _ _ (omega (arith, head_long)) c.write_head.ensures c.write_lines.ensures in
    let filled =
    filled_count 0 _ _ (0 + length (head ++ lines)) (length (head ++ lines)) _ (omega arith)
    (whole a.out.now [] refl (filled_none 0 _ _)) in
    let text = page_parts a.kinds.now a.figures.now a.money.now a.r _ n.0 n.1 in
    rw size
    (all_printed _ _ _ _ _ (sym c.lists_good.ensures ∙ c.if-not-lists_good.false) _ (rw size at c.if-out-size.false)
    (rw (sym text) at filled))
