-- Document 02, P8: a day's book as cells in a lent list. A place has five cells, held (1, and 0 where it is empty), demand, losses, bought
-- and price; the 24 places stand one behind another, and behind them the totals: demand, losses, bought kWh, bought money.
-- Assumes nothing.
use Rattle.std.specs.Prelude.{is_some, Ok, Err}
use Rattle.std.specs.Prelude.{ℕ, ◌+◌, ◌-◌, ◌*◌, ◌≡◌, Bool, ◌&&◌, ◌||◌, cond, List, [], ◌∷◌, leb, ltb, eqb, length}
use Rattle.sums.specs.Lists.{at, list_to, Filled}
use Rattle.refusals.specs.Refusals.{no_room, refused_unless, first_of, cells}
use Rattle.refusals.specs.Refusals.{Verdict}
use Rattle.book.specs.Book.{hours, most_energy, most_hour_price, Place, hour_with, counted, fits, moved}
use Rattle.book.specs.declared.Hour.{Hour}
use Rattle.book.specs.declared.Totals.{Totals}

abbrev pub cells_per_place : ℕ
cells_per_place = 5

abbrev pub totals_start : ℕ
totals_start = cells_per_place * hours

abbrev pub all_cells : ℕ
all_cells = totals_start + 4

-- the cells of a place, and of totals
abbrev pub flag_of : Bool → ℕ
flag_of held = cond held 1 0

abbrev pub place_cells : Place → List ℕ
place_cells p =
    let hour = counted p in
    flag_of (is_some p) ∷ hour.demand ∷ hour.losses ∷ hour.bought ∷ hour.price ∷ []

abbrev pub totals_cells : Totals → List ℕ
totals_cells t = t.demand ∷ t.losses ∷ t.bought ∷ t.money ∷ []

-- what the cells say of hour h, held or not, and of the day
abbrev pub hour_in : List ℕ → ℕ → Hour
hour_in l h =
    let s = cells_per_place * h in
    hour_with (at l (s + 1)) (at l (s + 2)) (at l (s + 3)) (at l (s + 4))

abbrev pub totals_in : List ℕ → Totals
totals_in l =
    let s = totals_start in
    record { demand = at l s; losses = at l (s + 1); bought = at l (s + 2); money = at l (s + 3) }

-- ---- cells that calls from an empty book can have left, as far as one place and the totals show it

-- a place holds an hour, or is empty and has zeros
abbrev pub shaped : (held demand losses bought price : ℕ) → Bool
shaped held d l b p = eqb held 1 || (eqb held 0 && eqb d 0 && eqb l 0 && eqb b 0 && eqb p 0)

-- a total holds a part of it, and no more than a day can have
abbrev pub carried : (total part day : ℕ) → Bool
carried total part day = leb part total && leb total day

abbrev pub day_energy : ℕ
day_energy = most_energy * hours

abbrev pub day_money : ℕ
day_money = most_energy * most_hour_price * hours

abbrev pub day_good : List ℕ → (demand losses bought money : ℕ) → Bool
day_good cs d l b m =
    let t = totals_start in
    carried (at cs t) d day_energy && carried (at cs (t + 1)) l day_energy && carried (at cs (t + 2)) b day_energy
    && carried (at cs (t + 3)) m day_money

-- no number of the place is over its limit, and the totals hold them
unfoldable pub looked_good : List ℕ → (h : ℕ) → Bool
looked_good cs h =
    let s = cells_per_place * h in
    let d = at cs (s + 1) in
    let l = at cs (s + 2) in
    let b = at cs (s + 3) in
    let p = at cs (s + 4) in
    fits d l b p && shaped (at cs s) d l b p && day_good cs d l b (b * p)

-- ---- a call on the cells: 11 where they are too few, then the book's own refusals v, then 11 where the cells are no book's
abbrev pub room_for : List ℕ → Verdict
room_for l = refused_unless (leb all_cells (length l)) no_room 0

abbrev pub looked_verdict : List ℕ → (h : ℕ) → Verdict
looked_verdict l h = refused_unless (looked_good l h) no_room 0

unfoldable pub cells_verdict : List ℕ → (h : ℕ) → Verdict → Verdict
cells_verdict l h v = first_of (room_for l ∷ v ∷ looked_verdict l h ∷ [])

-- the list with the numbers ns from place s on
abbrev pub cell_with : List ℕ → (s : ℕ) → (ns : List ℕ) → ℕ → ℕ
cell_with l s ns k = cond (leb s k && ltb k (s + length ns)) (at ns (k - s)) (at l k)

unfoldable pub put : List ℕ → (s : ℕ) → (ns : List ℕ) → List ℕ
put l s ns = list_to (cell_with l s ns) (length l)

-- the cells with p at hour h, whatever stood there, and the totals brought up to date
abbrev pub with_place_cells : List ℕ → (h : ℕ) → Place → List ℕ
with_place_cells l h p =
    put (put l (cells_per_place * h) (place_cells p)) totals_start (totals_cells (moved (totals_in l) (hour_in l h) (counted p)))

-- what a call leaves: a refusal leaves the cells as they were
abbrev pub unless_refused_cells : Verdict → (before after : List ℕ) → List ℕ
unless_refused_cells (Ok tt) before after = after
unless_refused_cells (Err r) before after = before

pub record CellsDo (v : Verdict) (new before : List ℕ) (r : Verdict) (after : List ℕ) : Type 0 where
  pub answer : r ≡ v
  pub left : after ≡ unless_refused_cells v before new

-- an empty book: zeros
pub record Emptied (before : List ℕ) (r : Verdict) (after : List ℕ) : Type 0 where
  pub answer : r ≡ room_for before
  pub zeros : Filled 0 before after (cells (room_for before) all_cells) (λ k. 0)
