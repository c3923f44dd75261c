-- What the parts of a settlement hand on to each other. Assumes nothing.
use Rattle.std.specs.Prelude.{Result, Ok, Err}
use Rattle.std.specs.Prelude.{ℕ, ◌+◌, ◌-◌, ◌*◌, ◌≤◌, ◌<◌, List, ◌≡◌, length}
use Rattle.sums.specs.Sums.{sum, keyed}
use Rattle.sums.specs.Lists.{at, list_to, Filled}
use Rattle.refusals.specs.Refusals.{cells}
use Rattle.refusals.specs.declared.Refusal.{Refusal}
use Rattle.refusals.specs.Refusals.{Verdict}
use Rattle.limits.specs.Limits.{most_agents, most_plants, most_contracts, most_available, most_quantity}
use Rattle.balance.specs.Balances.{zeros, unscheduled}
use Rattle.balance.specs.declared.Weight.{Weight}
use Rattle.contracts.specs.Assign.{count_in, deal_in}
use Rattle.hour.specs.Sheet.{Sheet, agents, plants, contracts}
use Rattle.hour.specs.Balance.{losses, loss_share, commercial, own_import, demands, hour_demand, dispatch_demand}
use Rattle.hour.specs.Answer.{balance_verdict, summary_of}
use Rattle.hour.specs.Lines.{scheduled, bolsa_price, amount, own, contracted}
use Rattle.hour.specs.declared.Summary.{Summary}

-- ---- sums by agent, added to what stands in their cells: nothing overflows
pub record Countable (keys values before : List ℕ) : Type 0 where
  pub few : length keys ≤ most_plants
  pub long : length keys ≤ length values
  pub agent : (j : ℕ) → j < length keys → at keys j < most_agents
  pub value : (j : ℕ) → j < length keys → at values j ≤ most_available
  pub cells : length before ≡ most_agents
  pub small : (a : ℕ) → a < most_agents → at before a + most_plants * most_available ≤ 4294967295

abbrev pub Tallied : (keys values before after : List ℕ) → Type 0
Tallied keys values before after =
    (a : ℕ) → a < most_agents → at after a ≡ keyed (at keys) (at values) (length keys) a + at before a

-- ---- a refusal, with price, demand and losses 0
abbrev pub turned_away : Refusal → Summary
turned_away r = record { number = r.number; place = r.place; price = 0; demand = 0; losses = 0 }

-- the verdict on a sheet, from what admitting it told
abbrev pub verdict_on : Result Weight Refusal → Verdict
verdict_on (Ok w) = Ok tt
verdict_on (Err r) = Err r

-- ---- the plants of the sheet h

-- what each has to spare above its must-run
unfoldable pub spare_of : Sheet → List ℕ
spare_of h = list_to (λ i. at h.available i - at h.must_run i) (plants h)

-- d is what central dispatch has to meet, the plants cover it and need not run beyond it, the lent list has a cell for each, and what
-- own energy no schedule gives stands in os
pub record Covered (h : Sheet) (d room : ℕ) (os : List ℕ) : Type 0 where
  pub balance : balance_verdict h ≡ Ok tt
  pub target : d ≡ dispatch_demand h
  pub enough : dispatch_demand h ≤ sum (plants h) (at h.available)
  pub runs : sum (plants h) (at h.must_run) ≤ dispatch_demand h
  pub fits : plants h ≤ room
  pub own : Filled 0 zeros os (agents h) (unscheduled h)

-- the price, each agent's own energy, and the schedule
pub record Generates (h : Sheet) (x : ℕ) (os before after : List ℕ) : Type 0 where
  pub price : x ≡ bolsa_price h
  pub own : (a : ℕ) → a < agents h → at os a ≡ own h a
  pub schedule : Filled 0 before after (plants h) (scheduled h)

-- ---- the contracts of the sheet h

-- rows of a contract section that name agents, and an amount for each
pub record Holding (section amounts : List ℕ) : Type 0 where
  pub few : count_in section ≤ most_contracts
  pub long : count_in section ≤ length amounts
  pub buyer : (j : ℕ) → j < count_in section → (deal_in section j).buyer < most_agents
  pub seller : (j : ℕ) → j < count_in section → (deal_in section j).seller < most_agents
  pub amount : (j : ℕ) → j < count_in section → at amounts j ≤ most_quantity

-- what each agent bought and what it sold under them, in one sum
pub record HeldByAgent (section amounts sums : List ℕ) : Type 0 where
  pub each : (a : ℕ) → a < most_agents
      → at sums a ≡ keyed (λ j. (deal_in section j).buyer) (at amounts) (count_in section) a
      + keyed (λ j. (deal_in section j).seller) (at amounts) (count_in section) a
  pub long : length sums ≡ most_agents

-- the agents' commercial demands, and a cell for each contract
pub record Demanding (h : Sheet) (ds : List ℕ) (room : ℕ) : Type 0 where
  pub demands : ds ≡ demands h
  pub fits : contracts h ≤ room

-- what each agent holds under contract, and the amounts
pub record Agrees (h : Sheet) (cs before after : List ℕ) : Type 0 where
  pub contracted : Filled 0 zeros cs (agents h) (contracted h)
  pub amounts : Filled 0 before after (contracts h) (amount h)

-- ---- the hour of the sheet h, but for its lines

-- weighed, and turned away by nothing: what w tells of it, the demands and own energy in columns, and cells for plants and contracts
pub record Tradable (h : Sheet) (w : Weight) (ds os : List ℕ) (for_plants for_contracts : ℕ) : Type 0 where
  pub covered : Covered h w.target for_plants os
  pub demands : (a : ℕ) → a < agents h → at ds a ≡ commercial h a
  pub fits : contracts h ≤ for_contracts
  pub demand : w.demand ≡ hour_demand h
  pub losses : w.losses ≡ losses h

-- by its verdict v: the summary r; where it is fine each agent's own energy and what it holds; and schedule and amounts, as they were
-- where it is refused
pub record Trades (v : Verdict) (h : Sheet) (os cs schedule₀ schedule₁ amounts₀ amounts₁ : List ℕ) (r : Summary) : Type 0 where
  pub answered : r ≡ summary_of v h
  pub own : v ≡ Ok tt → (a : ℕ) → a < agents h → at os a ≡ own h a
  pub held : v ≡ Ok tt → (a : ℕ) → a < agents h → at cs a ≡ contracted h a
  pub schedule : Filled 0 schedule₀ schedule₁ (cells v (plants h)) (scheduled h)
  pub amounts : Filled 0 amounts₀ amounts₁ (cells v (contracts h)) (amount h)

-- what the lines of n agents are made of, in columns: kinds, loss shares, own energy, own imports, and what is held under contract
pub record LineColumns (h : Sheet) (n : ℕ) (ks ss os is cs : List ℕ) : Type 0 where
  pub kinds : (a : ℕ) → a < n → at ks a ≡ at h.kinds a
  pub shares : (a : ℕ) → a < n → at ss a ≡ loss_share h a
  pub own : (a : ℕ) → a < n → at os a ≡ own h a
  pub imports : (a : ℕ) → a < n → at is a ≡ own_import h a
  pub held : (a : ℕ) → a < n → at cs a ≡ contracted h a

-- the same, with all columns that lines are made of
pub record SettledColumns (v : Verdict) (h : Sheet) (n : ℕ) (ks ss os is cs schedule₀ schedule₁ amounts₀ amounts₁ : List ℕ)
    (r : Summary) : Type 0 where
  pub answered : r ≡ summary_of v h
  pub columns : v ≡ Ok tt → LineColumns h n ks ss os is cs
  pub schedule : Filled 0 schedule₀ schedule₁ (cells v (plants h)) (scheduled h)
  pub amounts : Filled 0 amounts₀ amounts₁ (cells v (contracts h)) (amount h)
