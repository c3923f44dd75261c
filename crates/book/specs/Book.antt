-- Document 02, P8: a day's book of 24 places, each empty or holding an hour's demand, losses, bought kWh and price, with the four
-- day totals stored beside them. Assumes nothing.
use Rattle.std.specs.Prelude.{Option, Some, None, unwrap_or, Ok, Err}
use Rattle.std.specs.Prelude.{ℕ, ◌+◌, ◌*◌, ◌-◌, ◌<◌, ◌≤◌, ◌≡◌, Bool, ◌&&◌, List, [], ◌∷◌, leb, ltb, length, get_or, set, replicate}
use Rattle.sums.specs.Sums.{sum}
pub use Rattle.sums.specs.Hours.{hours}
use Rattle.refusals.specs.Refusals.{Verdict}
use Rattle.refusals.specs.Refusals.{first_of, refused_unless, not_there, over_book}
use Rattle.book.specs.declared.Hour.{Hour}
use Rattle.book.specs.declared.Totals.{Totals}
use Rattle.book.specs.declared.Book.{Book}

-- a book has a place for each of a day's hours; the limits of what one holds: kWh, and centavos per kWh
abbrev pub most_energy : ℕ
most_energy = 4000000000

abbrev pub most_hour_price : ℕ
most_hour_price = 1000000

abbrev pub hour_with : (demand losses bought price : ℕ) → Hour
hour_with demand losses bought price = record { demand = demand; losses = losses; bought = bought; price = price }

-- a place is empty, or holds an hour
abbrev pub Place : Type 0
Place = Option Hour

abbrev pub blank : Place
blank = None

abbrev pub holding : (demand losses bought price : ℕ) → Place
holding demand losses bought price = Some (hour_with demand losses bought price)

-- what a place counts in the totals: its hour, and 0 in each where it is empty
abbrev pub counted : Place → Hour
counted p = unwrap_or p (hour_with 0 0 0 0)

-- the place of hour h
abbrev pub place_at : List Place → ℕ → Place
place_at places h = get_or places h blank

-- what the bought kWh of an hour cost
abbrev pub money_bought : Hour → ℕ
money_bought hour = hour.bought * hour.price

-- the totals as a fresh sum over the places
abbrev pub fresh : List Place → Totals
fresh places = record {
  demand = sum hours (λ h. (counted (place_at places h)).demand);
  losses = sum hours (λ h. (counted (place_at places h)).losses);
  bought = sum hours (λ h. (counted (place_at places h)).bought);
  money = sum hours (λ h. money_bought (counted (place_at places h)));
}

abbrev pub empty_book : Book
empty_book = record { places = replicate hours blank; totals = record { demand = 0; losses = 0; bought = 0; money = 0 } }

-- "the stored totals are brought up to date where they stand": one place's part is taken back, and another's added
abbrev pub moved : Totals → (old new : Hour) → Totals
moved t old new = record {
  demand = t.demand - old.demand + new.demand;
  losses = t.losses - old.losses + new.losses;
  bought = t.bought - old.bought + new.bought;
  money = t.money - money_bought old + money_bought new;
}

-- the book with p at hour h, whatever stood there
abbrev pub with_place : Book → ℕ → Place → Book
with_place b h p = record { places = set b.places h p; totals = moved b.totals (counted (place_at b.places h)) (counted p) }

-- refusals, place the hour: 12 for an hour outside 0 to 23
abbrev pub slot_verdict : ℕ → Verdict
slot_verdict h = refused_unless (ltb h hours) not_there h

-- then 16 if demand, losses or bought is over 4,000,000,000 or the price over 1,000,000
abbrev pub fits : (demand losses bought price : ℕ) → Bool
fits demand losses bought price = leb demand most_energy && leb losses most_energy && leb bought most_energy && leb price most_hour_price

abbrev pub numbers_verdict : (h demand losses bought price : ℕ) → Verdict
numbers_verdict h demand losses bought price = refused_unless (fits demand losses bought price) over_book h

abbrev pub entry_verdict : (h demand losses bought price : ℕ) → Verdict
entry_verdict h demand losses bought price = first_of (slot_verdict h ∷ numbers_verdict h demand losses bought price ∷ [])

-- the book that a call leaves: a refusal leaves it unchanged
abbrev pub unless_refused : Verdict → (before after : Book) → Book
unless_refused (Ok tt) before after = after
unless_refused (Err r) before after = before

-- an hour entered (replacing one held), and an hour removed (an empty place stays as it is)
abbrev pub entered : Book → (h demand losses bought price : ℕ) → Book
entered b h demand losses bought price =
    unless_refused (entry_verdict h demand losses bought price) b (with_place b h (holding demand losses bought price))

abbrev pub removed : Book → ℕ → Book
removed b h = unless_refused (slot_verdict h) b (with_place b h blank)

-- the promise of a call: its answer, and the whole book after it
pub record Does (verdict : Verdict) (book : Book) (r : Verdict) (after : Book) : Type 0 where
  pub answer : r ≡ verdict
  pub left : after ≡ book

-- a place that holds nothing over the limits
pub record Proper (p : Place) : Type 0 where
  pub demand : (counted p).demand ≤ most_energy
  pub losses : (counted p).losses ≤ most_energy
  pub bought : (counted p).bought ≤ most_energy
  pub price : (counted p).price ≤ most_hour_price

-- a book that came from the library's own calls: its totals are what a fresh sum over its places gives
pub record Kept (b : Book) : Type 0 where
  pub long : length b.places ≡ hours
  pub proper : (h : ℕ) → h < hours → Proper (place_at b.places h)
  pub true_totals : b.totals ≡ fresh b.places
