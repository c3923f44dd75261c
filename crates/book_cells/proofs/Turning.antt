-- The totals of cells that could be a book's have room for another place: each holds what the old place has, and is no more than a day
-- can have. s is the place's first cell. Assumes nothing.
use Rattle.std.specs.Prelude.{Ok}
use Prim.Native.Nat.{ℕ, ◌+◌, ◌*◌, ◌≤◌, ◌<◌, ◌^◌}
use native.Mathlib.Omega.{arith}
use mathlib.Core.List.{List}
use mathlib.Core.Path.{◌≡◌, subst, sym}
use Rattle.sums.specs.Lists.{at}
use Rattle.refusals.specs.Refusals.{Verdict}
use Rattle.book.specs.Book.{most_energy, most_hour_price, Place, counted}
use Rattle.book.specs.Told.{Turns}
use Rattle.book.proofs.Laws.{money_most}
use Rattle.book_cells.specs.Cells.{cells_per_place, totals_start, day_energy, day_money}
use Rattle.book_cells.specs.Cells.{cells_verdict}
use Rattle.book_cells.specs.Steps.{Turnable, OwnGood}
use Rattle.book_cells.proofs.Looked.{Carried, Looked, looked_says, money_fits, fine_allowed}

turns : (total part day old new : ℕ) → Carried total part day → old ≡ part → day + new < 2 ^ 64 → Turns total old new
turns total part day old new c e f =
    let held = c.held in
    let within = c.within in
    record { held = omega arith; fits = omega arith }

module _ (l : List ℕ) (h : ℕ) (p : Place) (w : Turnable l h p) (s : ℕ) (es : s ≡ cells_per_place * h) where
  looks : Looked l s
  looks = subst (Looked l) (sym es) (looked_says l h w.looked)

  pub turns_demand : (old new : ℕ) → old ≡ at l (s + 1) → new ≡ (counted p).demand → Turns (at l totals_start) old new
  turns_demand old new e f =
      let m = w.proper.demand in turns _ _ day_energy old new looks.demand e (omega arith)

  pub turns_losses : (old new : ℕ) → old ≡ at l (s + 2) → new ≡ (counted p).losses → Turns (at l (totals_start + 1)) old new
  turns_losses old new e f =
      let m = w.proper.losses in turns _ _ day_energy old new looks.losses e (omega arith)

  pub turns_bought : (old new : ℕ) → old ≡ at l (s + 3) → new ≡ (counted p).bought → Turns (at l (totals_start + 2)) old new
  turns_bought old new e f =
      let m = w.proper.bought in turns _ _ day_energy old new looks.bought e (omega arith)

  module _ (b q : ℕ) (eb : b ≡ at l (s + 3)) (eq : q ≡ at l (s + 4)) where
    pub old_fits : b * q < 2 ^ 64
    old_fits = rw (eb, eq) (money_fits _ _ _ _ looks.fits)

    module _ (nb nq : ℕ) (fb : nb ≡ (counted p).bought) (fq : nq ≡ (counted p).price) where
      pub turns_money : Turns (at l (totals_start + 3)) (b * q) (nb * nq)
      turns_money =
          let m : nb * nq ≤ most_energy * most_hour_price = rw (fb, fq) (money_most p w.proper) in
          turns _ _ day_money (b * q) (nb * nq) looks.money (rw (eb, eq)) (omega arith)

-- ---- a call that nothing refuses may turn its place
pub fine_turnable : (l : List ℕ) (h : ℕ) (own : Verdict) (p : Place)
    → OwnGood own h p
    → cells_verdict l h own ≡ Ok tt
    → Turnable l h p
fine_turnable l h own p good e =
    let a = fine_allowed l h own e in
    let g = good a.own in
    record { room = a.room; hour = g.0; looked = a.looked; proper = g.1 }
