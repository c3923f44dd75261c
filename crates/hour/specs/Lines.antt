-- Document 01, 'Ideal dispatch and price' and 'The agent's line', of a sheet. Assumes nothing.
use Rattle.std.specs.Prelude.{ℕ, zero, suc, ◌+◌, ◌-◌, ◌/◌, ◌%◌, cond, ℤ, pos, ◌-ℤ◌, ◌*ℤ◌}
use Rattle.sums.specs.Sums.{keyed}
use Rattle.sums.specs.Lists.{at}
use Rattle.merit.specs.Merit.{ideal_dispatch, hour_price}
use Rattle.deals.specs.Hour.{hour_amount}
use Rattle.hour.specs.Sheet.{Sheet, plants, contracts, retails, outside}
use Rattle.hour.specs.Balance.{injected, own_import, loss_share, commercial, demands, dispatch_demand}

-- what plant i is scheduled to deliver
unfoldable pub scheduled : Sheet → ℕ → ℕ
scheduled s i = ideal_dispatch (at s.offers) (at s.must_run) (at s.available) (plants s) (dispatch_demand s) i

unfoldable pub bolsa_price : Sheet → ℕ
bolsa_price s = hour_price (at s.offers) (at s.flags) (scheduled s) (plants s)

-- the amount of contract j; seller and buyer hold the same
unfoldable pub amount : Sheet → ℕ → ℕ
amount s j = hour_amount s.deals (demands s) j

-- ---- what the lines are worked out from: commercial demands, a schedule and the amounts of contracts
pub record Basis : Type 0 where
  pub demand : ℕ → ℕ
  pub schedule : ℕ → ℕ
  pub amount : ℕ → ℕ

-- own energy: commercial demand of a retailer, metered export of a small generator, schedule of any other
abbrev pub own_by : Sheet → Basis → ℕ → ℕ
own_by s t a =
    cond (retails s a) (t.demand a)
    (cond (outside s a) (injected s a) (keyed (at s.holders) t.schedule (plants s) a))

abbrev pub contracted_by : Sheet → Basis → ℕ → ℕ
contracted_by s t a =
    cond (retails s a) (keyed (at s.deals.buyers) t.amount (contracts s) a)
    (keyed (at s.sellers) t.amount (contracts s) a)

-- a retailer buys the demand that contracts don't cover; a generator buys what its own energy falls short of them, and its
-- own import is added to that
abbrev pub bought_of : Sheet → (own contracted : ℕ → ℕ) → ℕ → ℕ
bought_of s own contracted a = cond (retails s a) (own a - contracted a) (contracted a - own a + own_import s a)

-- a retailer sells the contracted excess, a generator its own energy above its contracted amount
abbrev pub sold_of : Sheet → (own contracted : ℕ → ℕ) → ℕ → ℕ
sold_of s own contracted a = cond (retails s a) (contracted a - own a) (own a - contracted a)

-- ---- the lines of the hour itself
abbrev pub basis_of : Sheet → Basis
basis_of s = record { demand = commercial s; schedule = scheduled s; amount = amount s }

unfoldable pub own : Sheet → ℕ → ℕ
own s a = own_by s (basis_of s) a

unfoldable pub contracted : Sheet → ℕ → ℕ
contracted s a = contracted_by s (basis_of s) a

unfoldable pub bought : Sheet → ℕ → ℕ
bought s a = bought_of s (own s) (contracted s) a

unfoldable pub sold : Sheet → ℕ → ℕ
sold s a = sold_of s (own s) (contracted s) a

-- money is sold less bought, times the price: positive is owed to the agent
unfoldable pub money_of : (sold bought price : ℕ) → ℤ
money_of sold bought price = (pos sold -ℤ pos bought) *ℤ pos price

unfoldable pub money : Sheet → ℕ → ℤ
money s a = money_of (sold s a) (bought s a) (bolsa_price s)

-- the cells of agent a in the figures: loss share, own energy, generator import, contracted, bought and sold
abbrev pub cells_per_agent : ℕ
cells_per_agent = 6

unfoldable pub cell_of : (share own import contracted bought sold : ℕ → ℕ) → (cell a : ℕ) → ℕ
cell_of f₀ f₁ f₂ f₃ f₄ f₅ zero a = f₀ a
cell_of f₀ f₁ f₂ f₃ f₄ f₅ (suc zero) a = f₁ a
cell_of f₀ f₁ f₂ f₃ f₄ f₅ (suc (suc zero)) a = f₂ a
cell_of f₀ f₁ f₂ f₃ f₄ f₅ (suc (suc (suc zero))) a = f₃ a
cell_of f₀ f₁ f₂ f₃ f₄ f₅ (suc (suc (suc (suc zero)))) a = f₄ a
cell_of f₀ f₁ f₂ f₃ f₄ f₅ (suc (suc (suc (suc (suc c))))) a = f₅ a

unfoldable pub figure : Sheet → ℕ → ℕ
figure s k =
    cell_of (loss_share s) (own s) (own_import s) (contracted s) (bought s) (sold s) (k % cells_per_agent)
    (k / cells_per_agent)
