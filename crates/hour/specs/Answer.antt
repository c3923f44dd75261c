-- Document 01, 'When the sheet is turned away', of an accepted sheet and the four lent lists: refusals 7 to 10, 13 and 11,
-- in this order. Assumes nothing.
use Rattle.std.specs.Prelude.{Ok, Err}
use Rattle.std.specs.Prelude.{ℕ, ◌+◌, ◌*◌, ◌≤◌, ◌&&◌, ◌||◌, List, [], ◌∷◌, ℤ, pos, length, get_or, ltb, leb, eqb}
use Rattle.sums.specs.Sums.{sum, first}
use Rattle.sums.specs.Lists.{at}
use Rattle.refusals.specs.Refusals.{bad_exports, bad_gain, unshared, uncovered, overrun, no_room, refused_unless, first_of}
use Rattle.refusals.specs.Refusals.{Verdict}
use Rattle.hour.specs.Sheet.{Sheet, agents, plants, contracts, retails}
use Rattle.hour.specs.Balance.{imported, exported, consumed, entering, leaving, losses, hour_demand, dispatch_demand}
use Rattle.hour.specs.Lines.{bolsa_price, cells_per_agent}
use Rattle.hour.specs.declared.Summary.{Summary}

-- the four lent lists
pub record Lent : Type 0 where
  pub figures : List ℕ
  pub money : List ℤ
  pub schedule : List ℕ
  pub amounts : List ℕ

abbrev pub lent : List ℕ → List ℤ → List ℕ → List ℕ → Lent
lent figures money schedule amounts = record { figures = figures; money = money; schedule = schedule; amounts = amounts }

-- the same by agent, plant and contract
abbrev pub share_in : Lent → ℕ → ℕ
share_in l a = at l.figures (cells_per_agent * a)

abbrev pub own_in : Lent → ℕ → ℕ
own_in l a = at l.figures (cells_per_agent * a + 1)

abbrev pub import_in : Lent → ℕ → ℕ
import_in l a = at l.figures (cells_per_agent * a + 2)

abbrev pub contracted_in : Lent → ℕ → ℕ
contracted_in l a = at l.figures (cells_per_agent * a + 3)

abbrev pub bought_in : Lent → ℕ → ℕ
bought_in l a = at l.figures (cells_per_agent * a + 4)

abbrev pub sold_in : Lent → ℕ → ℕ
sold_in l a = at l.figures (cells_per_agent * a + 5)

abbrev pub money_in : Lent → ℕ → ℤ
money_in l a = get_or l.money a (pos 0)

abbrev pub schedule_in : Lent → ℕ → ℕ
schedule_in l i = at l.schedule i

abbrev pub amount_in : Lent → ℕ → ℕ
amount_in l j = at l.amounts j

-- the lowest retailer whose referred exports exceed its referred imports; the count of agents where there is none
unfoldable pub first_over : Sheet → ℕ
first_over s = first (agents s) (λ a. retails s a && ltb (imported s a) (exported s a))

-- refusals 7 to 9
unfoldable pub balance_verdict : Sheet → Verdict
balance_verdict s =
    first_of (refused_unless (leb (agents s) (first_over s)) bad_exports (first_over s)
    ∷ refused_unless (leb (leaving s) (entering s)) bad_gain 0
    ∷ refused_unless (eqb (losses s) 0 || ltb 0 (consumed s)) unshared 0
    ∷ [])

-- refusals 10 and 13: what central dispatch has to meet is more than all availabilities, or less than all must-runs
abbrev pub cover_of : (demand available must_run : ℕ) → Verdict
cover_of d a m = first_of (refused_unless (leb d a) uncovered 0 ∷ refused_unless (leb m d) overrun 0 ∷ [])

unfoldable pub cover_verdict : Sheet → Verdict
cover_verdict s = cover_of (dispatch_demand s) (sum (plants s) (at s.available)) (sum (plants s) (at s.must_run))

-- refusal 11: the cells of the figures and one money an agent, one cell a plant and a contract
unfoldable pub room_verdict : Sheet → Lent → Verdict
room_verdict s l =
    refused_unless
    (leb (cells_per_agent * agents s) (length l.figures) && leb (agents s) (length l.money)
    && leb (plants s) (length l.schedule) && leb (contracts s) (length l.amounts))
    no_room
    0

-- the same, as a fact: the lent lists have room
pub record Roomy (s : Sheet) (l : Lent) : Type 0 where
  pub figures : cells_per_agent * agents s ≤ length l.figures
  pub money : agents s ≤ length l.money
  pub schedule : plants s ≤ length l.schedule
  pub amounts : contracts s ≤ length l.amounts

unfoldable pub hour_verdict : Sheet → Lent → Verdict
hour_verdict s l = first_of (balance_verdict s ∷ cover_verdict s ∷ room_verdict s l ∷ [])

-- a settled hour has number 0 and place 0; a refusal has price, demand and losses 0
abbrev pub summary_of : Verdict → Sheet → Summary
summary_of (Ok tt) s =
    record { number = 0; place = 0; price = bolsa_price s; demand = hour_demand s; losses = losses s }
summary_of (Err r) s = record { number = r.number; place = r.place; price = 0; demand = 0; losses = 0 }
