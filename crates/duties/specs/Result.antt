-- Words for the duties: the hour that the bytes tell, and what settling hands back in the lent lists. Assumes nothing.
use Rattle.std.specs.Prelude.{Ok}
use Rattle.std.specs.Prelude.{ℕ, Bool, not, List, ◌≡◌}
use Rattle.sums.specs.Lists.{at}
use Rattle.merit.specs.Merit.{Possible, cost}
use Rattle.sheet.specs.Reading.{read_verdict}
use Rattle.columns.specs.Columns.{hour_of}
use Rattle.hour.specs.Sheet.{agents, plants, contracts, retails}
use Rattle.hour.specs.Balance.{generated, small_exports, dispatch_demand}
use Rattle.hour.specs.Answer.{Lent, balance_verdict}
use Rattle.hour.specs.declared.Summary.{Summary}

-- ---- the hour that the bytes tell
abbrev pub agents_of : List ℕ → ℕ
agents_of bytes = agents (hour_of bytes)

abbrev pub plants_of : List ℕ → ℕ
plants_of bytes = plants (hour_of bytes)

abbrev pub contracts_of : List ℕ → ℕ
contracts_of bytes = contracts (hour_of bytes)

abbrev pub retailer_in : List ℕ → ℕ → Bool
retailer_in bytes a = retails (hour_of bytes) a

abbrev pub generator_in : List ℕ → ℕ → Bool
generator_in bytes a = not (retails (hour_of bytes) a)

-- the sum of generator exports, over the boundary rows of both kinds of generator
abbrev pub generated_in : List ℕ → ℕ
generated_in bytes = generated (hour_of bytes)

-- small generators' exports, over their boundary rows
abbrev pub small_exports_in : List ℕ → ℕ
small_exports_in bytes = small_exports (hour_of bytes)

-- what central dispatch has to meet: the hour's demand less these
abbrev pub dispatch_in : List ℕ → ℕ
dispatch_in bytes = dispatch_demand (hour_of bytes)

-- A schedule is possible if each plant has a whole number of kWh from its must-run to its availability and they sum to the demand d
abbrev pub PossibleFor : List ℕ → (d : ℕ) → (ℕ → ℕ) → Type 0
PossibleFor bytes d q = Possible (at (hour_of bytes).must_run) (at (hour_of bytes).available) (plants_of bytes) d q

-- what a schedule costs at the offer prices
abbrev pub cost_of : List ℕ → (ℕ → ℕ) → ℕ
cost_of bytes q = cost (at (hour_of bytes).offers) (plants_of bytes) q

-- the bytes pass refusals 1 to 9
pub record Passes (bytes : List ℕ) : Type 0 where
  pub read : read_verdict bytes ≡ Ok tt
  pub balance : balance_verdict (hour_of bytes) ≡ Ok tt

-- nothing is returned but a number and a place, and the lists are as they were
pub record Untouched (before after : Lent) (r : Summary) : Type 0 where
  pub price : r.price ≡ 0
  pub demand : r.demand ≡ 0
  pub losses : r.losses ≡ 0
  pub figures : after.figures ≡ before.figures
  pub money : after.money ≡ before.money
  pub schedule : after.schedule ≡ before.schedule
  pub amounts : after.amounts ≡ before.amounts
