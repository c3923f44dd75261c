-- What one place and the totals show, as facts both ways, and the verdict of a call. Assumes nothing.
use Rattle.std.specs.Prelude.{Ok, Err}
use Prim.Native.Nat.{ℕ, ◌+◌, ◌*◌, ◌≤◌, ◌<◌, ◌^◌}
use native.Mathlib.Omega.{arith}
use native.Mathlib.Nat.{mul-le-mul}
use mathlib.Core.Bool.{true, ◌&&◌}
use mathlib.Core.List.{List, [], ◌∷◌}
use mathlib.Core.Path.{◌≡◌, refl}
use lib.Dec.{leb}
use lib.ListN.{length}
use borrow.Author.Tests.{leb-true, le-leb}
use Rattle.sums.specs.Lists.{at}
use Rattle.sums.proofs.Tests.{all_true, and_left, and_right}
use Rattle.refusals.specs.Refusals.{Verdict}
use Rattle.refusals.proofs.Fine.{fine_parts, fine_test}
use Rattle.book.specs.Book.{most_energy, most_hour_price, fits}
use Rattle.book_cells.specs.Cells.{cells_per_place, totals_start, all_cells, shaped, carried, day_energy}
use Rattle.book_cells.specs.Cells.{day_money, day_good, looked_good, room_for, looked_verdict, cells_verdict}

-- ---- the test as facts
pub record Carried (total part day : ℕ) : Type 0 where
  pub held : part ≤ total
  pub within : total ≤ day

pub carried_says : (total part day : ℕ) → carried total part day ≡ true → Carried total part day
carried_says total part day e = record {
  held = leb-true part total (and_left (leb part total) (leb total day) e);
  within = leb-true total day (and_right (leb part total) (leb total day) e);
}

pub record Fits (d l b p : ℕ) : Type 0 where
  pub demand : d ≤ most_energy
  pub losses : l ≤ most_energy
  pub bought : b ≤ most_energy
  pub price : p ≤ most_hour_price

pub fits_says : (d l b p : ℕ) → fits d l b p ≡ true → Fits d l b p
fits_says d l b p e =
    let (d', (l', (b', (p', _)))) =
    all_true (leb d most_energy) (leb l most_energy ∷ leb b most_energy ∷ leb p most_hour_price ∷ []) e in
    record {
      demand = leb-true d most_energy d';
      losses = leb-true l most_energy l';
      bought = leb-true b most_energy b';
      price = leb-true p most_hour_price p';
    }

pub money_fits : (d l b p : ℕ) → Fits d l b p → b * p < 2 ^ 64
money_fits d l b p w =
    let m : b * p ≤ most_energy * most_hour_price =
    mul-le-mul {n₂ = most_energy} {m₂ = most_hour_price} w.bought w.price in
    omega arith

-- what the limits of a place say of its numbers
pub ruleset limits = (fits_says, money_fits)

-- the place at cell s, with what the totals hold of it
pub record Looked (cs : List ℕ) (s : ℕ) : Type 0 where
  pub fits : Fits (at cs (s + 1)) (at cs (s + 2)) (at cs (s + 3)) (at cs (s + 4))
  pub demand : Carried (at cs totals_start) (at cs (s + 1)) day_energy
  pub losses : Carried (at cs (totals_start + 1)) (at cs (s + 2)) day_energy
  pub bought : Carried (at cs (totals_start + 2)) (at cs (s + 3)) day_energy
  pub money : Carried (at cs (totals_start + 3)) (at cs (s + 3) * at cs (s + 4)) day_money

pub looked_says : (cs : List ℕ) (h : ℕ) → looked_good cs h ≡ true → Looked cs (cells_per_place * h)
unfolding looked_good
looked_says cs h e =
    let s = cells_per_place * h in
    let d = at cs (s + 1) in
    let l = at cs (s + 2) in
    let b = at cs (s + 3) in
    let p = at cs (s + 4) in
    let place = fits d l b p && shaped (at cs s) d l b p in
    let day = and_right place (day_good cs d l b (b * p)) e in
    let (d', (l', (b', (m', _)))) =
    all_true (carried (at cs totals_start) d day_energy)
    (carried (at cs (totals_start + 1)) l day_energy ∷ carried (at cs (totals_start + 2)) b day_energy
    ∷ carried (at cs (totals_start + 3)) (b * p) day_money ∷ []) day in
    record {
      fits =
          fits_says d l b p (and_left (fits d l b p) (shaped (at cs s) d l b p)
          (and_left place (day_good cs d l b (b * p)) e));
      demand = carried_says _ _ _ d';
      losses = carried_says _ _ _ l';
      bought = carried_says _ _ _ b';
      money = carried_says _ _ _ m';
    }

-- ---- the verdict
-- where it is fine, there is room, the book itself is fine with it, and the cells look good
pub record Allowed (cs : List ℕ) (h : ℕ) (v : Verdict) : Type 0 where
  pub room : all_cells ≤ length cs
  pub own : v ≡ Ok tt
  pub looked : looked_good cs h ≡ true

pub fine_allowed : (cs : List ℕ) (h : ℕ) (v : Verdict) → cells_verdict cs h v ≡ Ok tt → Allowed cs h v
unfolding cells_verdict
fine_allowed cs h v e =
    let all = fine_parts (room_for cs ∷ v ∷ looked_verdict cs h ∷ []) e in
    record {
      room = leb-true all_cells (length cs) (fine_test _ _ _ all.0);
      own = all.1.0;
      looked = fine_test _ _ _ all.1.1.0;
    }

-- cells and the hour are fine: the answer is the book's own
pub own_verdict : (cs : List ℕ) (h : ℕ) (v : Verdict)
    → all_cells ≤ length cs
    → (v ≡ Ok tt → looked_good cs h ≡ true)
    → cells_verdict cs h v ≡ v
unfolding cells_verdict
own_verdict cs h (Ok tt) l w = rw (le-leb all_cells (length cs) l, w refl)
own_verdict cs h (Err r) l w = rw (le-leb all_cells (length cs) l)
