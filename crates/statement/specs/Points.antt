-- Document 02, P6, 'Check the administrator's statement': the five points that a statement must meet, in the paper's order. It has a
-- price and four lists in the shape of a settlement's: loss shares and lines in the figures and the money, the schedule, and the contract
-- amounts. Cells past those that the counts ask for are not looked at. Assumes nothing.
use Rattle.std.specs.Prelude.{ℕ, ◌+◌, ◌<◌, true, false, ◌≡◌}
use Rattle.sums.specs.Sums.{sum}
use Rattle.sums.specs.Lists.{at, list_to}
use Rattle.merit.specs.Merit.{Possible, ByMerit, hour_price}
use Rattle.hour.specs.Sheet.{Sheet, agents, plants, retails}
use Rattle.hour.specs.Balance.{consumption, consumed, own_import, losses, dispatch_demand_by}
use Rattle.hour.specs.Lines.{Basis, own_by, contracted_by, bought_of, sold_of, money_of}
use Rattle.hour.specs.Answer.{Lent, share_in, own_in, import_in, contracted_in, bought_in, sold_in, money_in, schedule_in, amount_in}
use Rattle.statement.specs.Follows.{Near}
use Rattle.statement.specs.Hour.{HourFollows}

-- the commercial demand of agent a with its share in the statement
abbrev pub demand_in : Sheet → Lent → ℕ → ℕ
demand_in s l a = consumption s a + share_in l a

-- what a plant must run
abbrev pub least : Sheet → ℕ → ℕ
least s = at s.must_run

-- 21. Shares sum to the losses and each is less than 1 kWh from the exact proportion (0 for generators, all 0 where total
-- consumption is 0)
pub record SharesFollow (s : Sheet) (l : Lent) : Type 0 where
  pub whole : sum (agents s) (share_in l) ≡ losses s
  pub near : (a : ℕ) → a < agents s → retails s a ≡ true → 0 < consumed s
      → Near (losses s) (consumption s a) (consumed s) (share_in l a)
  pub generator : (a : ℕ) → a < agents s → retails s a ≡ false → share_in l a ≡ 0
  pub nobody : (a : ℕ) → a < agents s → consumed s ≡ 0 → share_in l a ≡ 0

-- 22. The schedule is possible, for what central dispatch has to meet of the demand with their shares, and no plant above its
-- must-run is dearer than another with energy left
pub record ScheduleFollows (s : Sheet) (l : Lent) : Type 0 where
  pub possible : Possible (least s) (at s.available) (plants s) (dispatch_demand_by s (demand_in s l)) (schedule_in l)
  pub merit : ByMerit (at s.offers) (least s) (at s.available) (plants s) (schedule_in l)

-- 23. The price is the highest flexible offer scheduled in it
abbrev pub PriceFollows : Sheet → (price : ℕ) → Lent → Type 0
PriceFollows s price l = price ≡ hour_price (at s.offers) (at s.flags) (schedule_in l) (plants s)

-- 24. Contract amounts follow document 01 on demands with their shares, for some order of equal prices
abbrev pub AmountsFollow : Sheet → Lent → Type 0
AmountsFollow s l = HourFollows s.deals (list_to (demand_in s l) (agents s)) l.amounts

-- 25. Lines follow from these: the line of agent a, each figure from those before it. A generator's import is added to what it
-- buys and never netted from what it sells
abbrev pub basis_in : Sheet → Lent → Basis
basis_in s l = record { demand = demand_in s l; schedule = schedule_in l; amount = amount_in l }

pub record LineFollows (s : Sheet) (price : ℕ) (l : Lent) (a : ℕ) : Type 0 where
  pub own : own_in l a ≡ own_by s (basis_in s l) a
  pub import : import_in l a ≡ own_import s a
  pub contracted : contracted_in l a ≡ contracted_by s (basis_in s l) a
  pub bought : bought_in l a ≡ bought_of s (own_in l) (contracted_in l) a
  pub sold : sold_in l a ≡ sold_of s (own_in l) (contracted_in l) a
  pub money : money_in l a ≡ money_of (sold_in l a) (bought_in l a) price

-- a statement that meets the five points
pub record Holds (s : Sheet) (p : ℕ) (l : Lent) : Type 0 where
  pub shares : SharesFollow s l
  pub schedule : ScheduleFollows s l
  pub price : PriceFollows s p l
  pub amounts : AmountsFollow s l
  pub lines : (a : ℕ) → a < agents s → LineFollows s p l a
