-- Everything is judged before anything is written. The verdict is the hour's for the lent lists; a refusal leaves them as they were, and
-- where there is none, the columns are the sheet's own, so that the lines are too.
use Rattle.std.proofs.Common.{◌≡◌, Ok, refl, ap, arith}
use lib.IntN.{pos}
use Rattle.sheet.proofs.Accepted.{accepted_few}
use Rattle.columns.specs.Columns.{columns_of}
use Rattle.columns.proofs.Columns.{agents_long, plants_long, contracts_long, sound}
use Rattle.hour.specs.Answer.{lent}
use Rattle.hour.specs.declared.Summary.{Summary}
use Rattle.hour.proofs.Bounds.{price_le}
use Rattle.hour.proofs.Verdicts.{balanced}
use Rattle.lines.proofs.Sheets.{figures_are, money_are, lines_fit}
use Rattle.ground.specs.Ground.{admission_with}
use Rattle.ground.proofs.Admitted.{admission_is, room_there, none_told, admits}
use Rattle.settle.proofs.Judged.{settled_read, summary_refused, summary_fine, none_written}
use Rattle.settle.proofs.settle_read.Goals as goal

pub settle_columns-s-requires-clause-own_value : goal.settle_columns-s-requires-clause-own_value
settle_columns-s-requires-clause-own_value c =
    let a = c.args in
    let l = lent a.figures.now a.money.now a.schedule.now a.amounts.now in
    let room = room_there a.bytes.now a.c l _ c.has_room-room.ensures in (
      refl,
      λ r. (
        omega (arith, plants_long a.bytes.now a.c, (room r).schedule),
        omega (arith, contracts_long a.bytes.now a.c, (room r).amounts),
      ),
    )

-- a refusal
pub returns-then-s-ne0 : goal.returns-then-s-ne0
returns-then-s-ne0 c =
    let a = c.args in
    let l = lent a.figures.now a.money.now a.schedule.now a.amounts.now in
    let h = columns_of a.bytes.now a.c in
    let v = admission_with h c.has_room-room.result in
    let d = c.settle_columns-s.ensures in
    let q = summary_refused v h _ d.answered c.if-s-ne0.true in
    settled_read _ _ _ _ _ c.requires
    (rw (← admission_is a.bytes.now a.c l _ c.has_room-room.ensures)
    (record {
      answered = d.answered;
      figures = none_written v _ q 0 _ _ _;
      money = none_written v _ q (pos 0) _ _ _;
      schedule = d.schedule;
      amounts = d.amounts;
    }))

-- an hour that nothing turns away
pub write_lines-requires-clause-n_le_most_agents : goal.write_lines-requires-clause-n_le_most_agents
write_lines-requires-clause-n_le_most_agents c =
    let a = c.args in
    let l = lent a.figures.now a.money.now a.schedule.now a.amounts.now in
    let h = columns_of a.bytes.now a.c in
    let v = admission_with h c.has_room-room.result in
    let fine : v ≡ Ok tt = summary_fine v h _ c.settle_columns-s.ensures.answered (none_told _ _) c.if-s-ne0.false in
    let price = ap (λ (x : Summary). x.price) (rw fine at c.settle_columns-s.ensures.answered) in
    let r = room_there a.bytes.now a.c l _ c.has_room-room.ensures (admits _ _ fine).has_room in
    let count = agents_long a.bytes.now a.c in (
      (accepted_few _ _ c.requires).agents,
      omega (arith, count, r.figures),
      omega (arith, count, r.money),
      omega (arith, price, price_le h (sound _ _ c.requires)),
    )

pub write_lines-requires-clause-by_index : goal.write_lines-requires-clause-by_index
write_lines-requires-clause-by_index c =
    let h = columns_of c.args.bytes.now c.args.c in
    let v = admission_with h c.has_room-room.result in
    let fine : v ≡ Ok tt = summary_fine v h _ c.settle_columns-s.ensures.answered (none_told _ _) c.if-s-ne0.false in
    let l = c.settle_columns-s.ensures.columns fine in
    lines_fit h _ (agents_long _ _) _ _ _ _ _ l.kinds l.shares l.own l.imports l.held (sound _ _ c.requires)
    (balanced _ (admits _ _ fine).balance)

-- the lines that were written are the sheet's
pub returns : goal.returns
returns c =
    let a = c.args in
    let ls = lent a.figures.now a.money.now a.schedule.now a.amounts.now in
    let h = columns_of a.bytes.now a.c in
    let v = admission_with h c.has_room-room.result in
    let d = c.settle_columns-s.ensures in
    let fine : v ≡ Ok tt = summary_fine v h _ d.answered (none_told _ _) c.if-s-ne0.false in
    let price = ap (λ (x : Summary). x.price) (rw fine at d.answered) in
    let l = d.columns fine in
    settled_read _ _ _ _ _ c.requires
    (rw (← admission_is a.bytes.now a.c ls _ c.has_room-room.ensures)
    (record {
      answered = d.answered;
      figures =
          rw fine
          (figures_are h _ (agents_long _ _) _ _ _ _ _ l.kinds l.shares l.own l.imports l.held _ _ c.write_lines.ensures.filled);
      money =
          rw fine
          (money_are h _ (agents_long _ _) _ _ _ _ _ l.kinds l.shares l.own l.imports l.held _ price _ _
          c.write_lines.ensures.filled_2);
      schedule = d.schedule;
      amounts = d.amounts;
    }))
