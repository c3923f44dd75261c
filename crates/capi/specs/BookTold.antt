-- What a C caller is told of a day's book in cells, and of the entry of an hour. Assumes nothing.
use Rattle.std.specs.Prelude.{Result, Ok, Err}
use Rattle.refusals.specs.declared.Refusal.{Refusal}
use Rattle.book.specs.declared.Hour.{Hour}
use Rattle.std.specs.Prelude.{ℕ, cond, List, [], ◌∷◌, ◌≡◌, length, leb}
use Rattle.sums.specs.Lists.{at, Filled}
use Rattle.refusals.specs.Refusals.{no_room, number_of, cells}
use Rattle.refusals.specs.Refusals.{Verdict}
use Rattle.hour.specs.declared.Summary.{Summary}
use Rattle.book_cells.specs.Cells.{all_cells, room_for, unless_refused_cells}
use Rattle.entry.specs.Entry.{entry_of}
use Rattle.capi.specs.Told.{Told}

-- emptying: the refusal's number, 0 where all is fine, and zeros
pub record EmptiedTold (before : List ℕ) (r : ℕ) (after : List ℕ) : Type 0 where
  pub number : r ≡ number_of (room_for before)
  pub zeros : Filled 0 before after (cells (room_for before) all_cells) (λ k. 0)

-- entering and removing: the refusal's number, and the cells
pub record CellsTold (v : Verdict) (new before : List ℕ) (r : ℕ) (after : List ℕ) : Type 0 where
  pub number : r ≡ number_of v
  pub left : after ≡ unless_refused_cells v before new

-- an hour's summary as settling lists it
abbrev pub summary_in : List ℕ → Summary
summary_in l = record { number = at l 0; place = at l 1; price = at l 2; demand = at l 3; losses = at l 4 }

-- its entry: number, place, demand, losses, bought kWh and price, 0 where refused
abbrev pub entry_answer : Result Hour Refusal → List ℕ
entry_answer (Ok x) = 0 ∷ 0 ∷ x.demand ∷ x.losses ∷ x.bought ∷ x.price ∷ []
entry_answer (Err r) = r.number ∷ r.place ∷ 0 ∷ 0 ∷ 0 ∷ 0 ∷ []

-- 11 where the summary has too few cells
unfoldable pub entry_told : (sheet summary figures : List ℕ) → List ℕ
entry_told sheet summary figures =
    cond (leb 5 (length summary)) (entry_answer (entry_of sheet (summary_in summary) figures))
    (no_room ∷ 0 ∷ 0 ∷ 0 ∷ 0 ∷ 0 ∷ [])

abbrev pub EntryTold : (sheet summary figures before : List ℕ) → ℕ → (after : List ℕ) → Type 0
EntryTold sheet summary figures = Told 6 (entry_told sheet summary figures)
