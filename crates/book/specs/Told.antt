-- For the code alone: what a call makes of one place and of the totals, and what it asks of the two. Assumes nothing.
use Rattle.std.specs.Prelude.{Ok, Err}
use Rattle.std.specs.Prelude.{ℕ, ◌+◌, ◌*◌, ◌-◌, ◌<◌, ◌≤◌, ◌^◌, cond, ltb}
use Rattle.refusals.specs.Refusals.{Verdict}
use Rattle.book.specs.declared.Hour.{Hour}
use Rattle.book.specs.declared.Totals.{Totals}
use Rattle.book.specs.declared.Told.{Told}
use Rattle.book.specs.Book.{hours, most_energy, most_hour_price, Place, counted, money_bought, moved}

-- what a call makes of its place and of the totals, by its verdict
unfoldable pub told_of : Verdict → (old : Place) → Totals → (new : Place) → Told
told_of (Ok tt) old totals new = record { place = new; totals = moved totals (counted old) (counted new); verdict = Ok tt }
told_of (Err r) old totals new = record { place = old; totals = totals; verdict = Err r }

-- the place that a call looks at: the hour's, and the first where there is no such hour
unfoldable pub slot_of : ℕ → ℕ
slot_of h = cond (ltb h hours) h 0

-- a total holds the part that is taken back, and has room for the part that is added
pub record Turns (total old new : ℕ) : Type 0 where
  pub held : old ≤ total
  pub fits : total - old + new < 2 ^ 64

pub record Room (t : Totals) (old new : Hour) : Type 0 where
  pub demand : Turns t.demand old.demand new.demand
  pub losses : Turns t.losses old.losses new.losses
  pub bought : Turns t.bought old.bought new.bought
  pub money : Turns t.money (money_bought old) (money_bought new)

-- the totals of a day hold what one hour has, and no more than the places can
pub record Carried (total part most : ℕ) : Type 0 where
  pub held : part ≤ total
  pub within : total ≤ most * hours

pub record Carries (t : Totals) (hour : Hour) : Type 0 where
  pub demand : Carried t.demand hour.demand most_energy
  pub losses : Carried t.losses hour.losses most_energy
  pub bought : Carried t.bought hour.bought most_energy
  pub money : Carried t.money (money_bought hour) (most_energy * most_hour_price)
