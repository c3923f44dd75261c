-- What the code of a day's book rests on: the totals of a book that came from the library's own calls hold what each place has, and
-- have room for what a place may have. Assumes nothing.
use Rattle.std.specs.Prelude.{Ok, Err}
use Prim.Native.Nat.{ℕ, ◌*◌, ◌<◌, ◌≤◌}
use native.Mathlib.Nat.{mul-le-mul}
use native.Mathlib.Omega.{arith}
use mathlib.Core.Path.{◌≡◌, refl, sym, ap, subst}
use mathlib.Core.Bool.{Bool, true, false, cond}
use mathlib.Core.List.{List, [], ◌∷◌}
use lib.Dec.{leb, ltb}
use lib.ListN.{set}
use lib.Seq.{set-get_or}
use borrow.Author.Tests.{lt-ltb, ltb-true, leb-true}
use Rattle.sums.specs.Sums.{sum}
use Rattle.sums.proofs.Sums.{sum_term, sum_most}
use Rattle.sums.proofs.Tests.{all_true}
use Rattle.refusals.specs.Refusals.{Verdict}
use Rattle.refusals.specs.Refusals.{not_there, over_book}
use Rattle.refusals.proofs.Fine.{fine_left, fine_right, fine_test}
use Rattle.book.specs.declared.Hour.{Hour}
use Rattle.book.specs.declared.Totals.{Totals}
use Rattle.book.specs.declared.Book.{Book}
use Rattle.book.specs.Book.{hours, most_energy, most_hour_price, Place, blank, holding, counted, place_at, money_bought}
use Rattle.book.specs.Book.{with_place, slot_verdict, fits, entry_verdict, unless_refused, Does, Proper, Kept}
use Rattle.book.specs.Told.{told_of, slot_of, Turns, Room, Carried, Carries}

-- ---- places
pub proper_blank : Proper blank
proper_blank =
    record { demand = omega arith; losses = omega arith; bought = omega arith; price = omega arith }

pub proper_held : (demand losses bought price : ℕ)
    → fits demand losses bought price ≡ true
    → Proper (holding demand losses bought price)
proper_held d l b p e =
    let (d', (l', (b', (p', _)))) = all_true (leb d most_energy)
    (leb l most_energy ∷ leb b most_energy ∷ leb p most_hour_price ∷ []) e in
    record {
      demand = leb-true d most_energy d';
      losses = leb-true l most_energy l';
      bought = leb-true b most_energy b';
      price = leb-true p most_hour_price p';
    }

pub money_most : (p : Place) → Proper p → money_bought (counted p) ≤ most_energy * most_hour_price
money_most p w = mul-le-mul {n₂ = most_energy} {m₂ = most_hour_price} w.bought w.price

-- ---- what a verdict that is fine says of the hour and of what is entered
pub fine_hour : (h : ℕ) → slot_verdict h ≡ Ok tt → h < hours
fine_hour h e = ltb-true h hours (fine_test (ltb h hours) not_there h e)

module _ (h d l b p : ℕ) (e : entry_verdict h d l b p ≡ Ok tt) where
  pub entry_hour : h < hours
  entry_hour = fine_hour h (fine_left (slot_verdict h) _ e)

  pub entry_proper : Proper (holding d l b p)
  entry_proper =
      proper_held d l b p (fine_test (fits d l b p) over_book h
      (fine_left _ (Ok tt) (fine_right (slot_verdict h) _ e)))

-- ---- totals
module _ (b : Book) (k : Kept b) (h : ℕ) (l : h < hours) where
  column : (f : Hour → ℕ) (m : ℕ)
      → ((p : Place) → Proper p → f (counted p) ≤ m)
      → Carried (sum hours (λ i. f (counted (place_at b.places i)))) (f (counted (place_at b.places h))) m
  column f m w = record {
    held = sum_term hours h (λ i. f (counted (place_at b.places i))) l;
    within = sum_most hours m (λ i. f (counted (place_at b.places i))) (λ i q. w (place_at b.places i) (k.proper i q));
  }

  pub kept_carries : Carries b.totals (counted (place_at b.places h))
  kept_carries =
      subst (λ (t : Totals). Carries t (counted (place_at b.places h))) (sym k.true_totals) record {
        demand = column (λ x. x.demand) most_energy (λ p w. w.demand);
        losses = column (λ x. x.losses) most_energy (λ p w. w.losses);
        bought = column (λ x. x.bought) most_energy (λ p w. w.bought);
        money = column money_bought (most_energy * most_hour_price) money_most;
      }

turns : (t p q m : ℕ) → m ≤ most_energy * most_hour_price → Carried t p m → q ≤ m → Turns t p q
turns t p q m s c w = record { held = c.held; fits = omega (arith, c.within) }

pub room : (t : Totals) (old new : Place) → Carries t (counted old) → Proper new → Room t (counted old) (counted new)
room t old new c w = record {
  demand = turns _ _ _ most_energy (omega arith) c.demand w.demand;
  losses = turns _ _ _ most_energy (omega arith) c.losses w.losses;
  bought = turns _ _ _ most_energy (omega arith) c.bought w.bought;
  money = turns _ _ _ (most_energy * most_hour_price) (omega arith) c.money (money_most new w);
}

-- ---- the place that a call looks at is one of the book, and putting there what the call told leaves the book that it promises
pub slot_hour : (h : ℕ) → h < hours → slot_of h ≡ h
unfolding slot_of
slot_hour h l = rw (lt-ltb h hours l)

pub slot_within : (h : ℕ) → slot_of h < hours
unfolding slot_of
slot_within h = go (ltb h hours) refl
  where
    go : (t : Bool) → ltb h hours ≡ t → cond t h 0 < hours
    go true e = ltb-true h hours e
    go false e = omega arith

module _ (b : Book) (h : ℕ) (new : Place) where
  abbrev old : Place
  old = place_at b.places (slot_of h)

  pub told_does : (v : Verdict) → (v ≡ Ok tt → h < hours)
      → Does v (unless_refused v b (with_place b h new)) (told_of v old b.totals new).verdict
      (record {
        places = set b.places (slot_of h) (told_of v old b.totals new).place;
        totals = (told_of v old b.totals new).totals;
      })
  unfolding told_of
  told_does (Ok tt) w = record { answer = refl; left = rw (slot_hour h (w refl)) }
  told_does (Err r) w = record {
    answer = refl;
    left = ap (λ (l : List Place). record { places = l; totals = b.totals }) (set-get_or b.places (slot_of h) blank);
  }
