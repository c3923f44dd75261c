-- Document 01, small cases 6 and 7 and the plants of its hour, and plants that must run, with edges on each side, as one statement
-- over a table.
-- Assumes nothing.
use Prim.Native.Nat.{ℕ}
use mathlib.Core.List.{List, [], ◌∷◌, map}
use mathlib.Core.Path.{◌≡◌, refl}
use lib.ListN.{length}
use Rattle.sums.specs.Sums.{sum, peak, pick}
use Rattle.sums.specs.Lists.{at, list_to}
use Rattle.merit.specs.Merit.{before, ahead, schedule, ideal_dispatch, hour_price}

-- plants with their offers, must-runs, availabilities and flags, the demand; the price and the schedule that are due
pub record Case : Type 0 where
  pub offers : List ℕ
  pub musts : List ℕ
  pub available : List ℕ
  pub flags : List ℕ
  pub demand : ℕ
  pub price : ℕ
  pub due : List ℕ

unfoldable pub answer : Case → List ℕ
answer c =
    let n = length c.offers in
    let s = ideal_dispatch (at c.offers) (at c.musts) (at c.available) n c.demand in
    hour_price (at c.offers) (at c.flags) s n ∷ list_to s n

unfoldable pub expected : Case → List ℕ
expected c = c.price ∷ c.due

unfoldable pub cases : List Case
cases =
    -- case 6, and with less demand the lower row first
    record {
      offers = 7 ∷ 7 ∷ [];
      musts = 0 ∷ 0 ∷ [];
      available = 4 ∷ 6 ∷ [];
      flags = 0 ∷ 0 ∷ [];
      demand = 10;
      price = 7;
      due = 4 ∷ 6 ∷ [];
    }
    ∷ record {
      offers = 7 ∷ 7 ∷ [];
      musts = 0 ∷ 0 ∷ [];
      available = 4 ∷ 6 ∷ [];
      flags = 0 ∷ 0 ∷ [];
      demand = 0;
      price = 0;
      due = 0 ∷ 0 ∷ [];
    }
    ∷ record {
      offers = 7 ∷ 7 ∷ [];
      musts = 0 ∷ 0 ∷ [];
      available = 4 ∷ 6 ∷ [];
      flags = 0 ∷ 0 ∷ [];
      demand = 5;
      price = 7;
      due = 4 ∷ 1 ∷ [];
    }
    ∷ record {
      offers = 7 ∷ 7 ∷ [];
      musts = 0 ∷ 0 ∷ [];
      available = 4 ∷ 6 ∷ [];
      flags = 0 ∷ 0 ∷ [];
      demand = 4;
      price = 7;
      due = 4 ∷ 0 ∷ [];
    }
    -- case 7, and with one kWh more the flexible plant sets the price
    ∷ record {
      offers = 3 ∷ 9 ∷ [];
      musts = 0 ∷ 0 ∷ [];
      available = 5 ∷ 5 ∷ [];
      flags = 1 ∷ 0 ∷ [];
      demand = 5;
      price = 0;
      due = 5 ∷ 0 ∷ [];
    }
    ∷ record {
      offers = 3 ∷ 9 ∷ [];
      musts = 0 ∷ 0 ∷ [];
      available = 5 ∷ 5 ∷ [];
      flags = 1 ∷ 0 ∷ [];
      demand = 6;
      price = 9;
      due = 5 ∷ 1 ∷ [];
    }
    -- the inflexible plant is the dearest that is scheduled
    ∷ record {
      offers = 3 ∷ 9 ∷ [];
      musts = 0 ∷ 0 ∷ [];
      available = 5 ∷ 5 ∷ [];
      flags = 0 ∷ 1 ∷ [];
      demand = 6;
      price = 3;
      due = 5 ∷ 1 ∷ [];
    }
    -- the cheaper plant in the higher row; a plant with nothing available sets no price
    ∷ record {
      offers = 9 ∷ 3 ∷ [];
      musts = 0 ∷ 0 ∷ [];
      available = 5 ∷ 5 ∷ [];
      flags = 0 ∷ 0 ∷ [];
      demand = 6;
      price = 9;
      due = 1 ∷ 5 ∷ [];
    }
    ∷ record {
      offers = 3 ∷ 9 ∷ [];
      musts = 0 ∷ 0 ∷ [];
      available = 5 ∷ 0 ∷ [];
      flags = 0 ∷ 0 ∷ [];
      demand = 5;
      price = 3;
      due = 5 ∷ 0 ∷ [];
    }
    -- no plants; an offer of 0
    ∷ record { offers = []; musts = []; available = []; flags = []; demand = 0; price = 0; due = [] }
    ∷ record {
      offers = 0 ∷ 1 ∷ [];
      musts = 0 ∷ 0 ∷ [];
      available = 2 ∷ 2 ∷ [];
      flags = 0 ∷ 0 ∷ [];
      demand = 2;
      price = 0;
      due = 2 ∷ 0 ∷ [];
    }
    -- the plants of the hour in full
    ∷ record {
      offers = 5000 ∷ 8000 ∷ 9000 ∷ [];
      musts = 0 ∷ 0 ∷ 0 ∷ [];
      available = 700 ∷ 500 ∷ 100 ∷ [];
      flags = 0 ∷ 0 ∷ 1 ∷ [];
      demand = 1010;
      price = 8000;
      due = 700 ∷ 310 ∷ 0 ∷ [];
    }
    -- a must-run dearer than all that is needed runs, the cheaper plant covers the rest and sets the price
    ∷ record {
      offers = 3 ∷ 9 ∷ [];
      musts = 0 ∷ 2 ∷ [];
      available = 5 ∷ 5 ∷ [];
      flags = 0 ∷ 1 ∷ [];
      demand = 4;
      price = 3;
      due = 2 ∷ 2 ∷ [];
    }
    -- must-runs that sum to the demand, to one less, and equal to the availability; above its must-run a plant stands in the order
    ∷ record {
      offers = 3 ∷ 9 ∷ [];
      musts = 1 ∷ 3 ∷ [];
      available = 5 ∷ 5 ∷ [];
      flags = 1 ∷ 1 ∷ [];
      demand = 4;
      price = 0;
      due = 1 ∷ 3 ∷ [];
    }
    ∷ record {
      offers = 3 ∷ 9 ∷ [];
      musts = 1 ∷ 2 ∷ [];
      available = 5 ∷ 5 ∷ [];
      flags = 1 ∷ 1 ∷ [];
      demand = 4;
      price = 0;
      due = 2 ∷ 2 ∷ [];
    }
    ∷ record {
      offers = 9 ∷ 3 ∷ [];
      musts = 5 ∷ 0 ∷ [];
      available = 5 ∷ 5 ∷ [];
      flags = 1 ∷ 0 ∷ [];
      demand = 7;
      price = 3;
      due = 5 ∷ 2 ∷ [];
    }
    ∷ record {
      offers = 9 ∷ 3 ∷ [];
      musts = 1 ∷ 0 ∷ [];
      available = 5 ∷ 5 ∷ [];
      flags = 1 ∷ 0 ∷ [];
      demand = 7;
      price = 3;
      due = 2 ∷ 5 ∷ [];
    }
    -- at equal price the lower row is filled first, above the must-runs of both
    ∷ record {
      offers = 7 ∷ 7 ∷ [];
      musts = 0 ∷ 3 ∷ [];
      available = 4 ∷ 6 ∷ [];
      flags = 0 ∷ 1 ∷ [];
      demand = 5;
      price = 7;
      due = 2 ∷ 3 ∷ [];
    }
    ∷ []

pub cases_hold : map answer cases ≡ map expected cases
unfolding answer expected cases sum peak pick list_to before ahead schedule ideal_dispatch hour_price
cases_hold = refl
