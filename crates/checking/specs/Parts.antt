-- What the parts of a check hand on to each other. Assumes nothing.
use Rattle.std.specs.Bool.{then_some}
use Rattle.std.specs.Prelude.{ℕ, Option, ◌+◌, ◌*◌, ◌≤◌, ◌<◌, max, Bool, false, ◌&&◌, List, [], ◌∷◌, ◌≡◌, ltb, eqb, ℤ, pos, length, get_or}
use Rattle.sums.specs.Sums.{sum, peak, pick, keyed}
use Rattle.sums.specs.Lists.{at}
use Rattle.limits.specs.Limits.{most_agents, most_plants, most_contracts}
use Rattle.rows.specs.Rows.{carries_losses}
use Rattle.merit.specs.Merit.{hour_price}
use Rattle.refusals.specs.Refusals.{bad_schedule, bad_price, bad_amounts, bad_lines, refused_unless, first_of}
use Rattle.refusals.specs.Refusals.{Verdict}
use Rattle.hour.specs.Sheet.{Sheet, agents, plants, contracts, retails}
use Rattle.hour.specs.Balance.{consumption, own_import, losses, injected}
use Rattle.hour.specs.Lines.{money_of, cells_per_agent}
use Rattle.hour.specs.Answer.{Lent}
use Rattle.lines.specs.Lines.{buys, sells}
use Rattle.statement.specs.Decide.{every}
use Rattle.statement.specs.Hour.{hour_good}
use Rattle.statement.specs.Points.{demand_in}
use Rattle.statement.specs.Tests.{share_test, within_test, order_test, schedule_good, price_good, amounts_good, same_money, lines_good}
use Rattle.limits.specs.declared.Contract.{Contract}
use Rattle.checking.specs.Passes.{room}
use Rattle.checking.specs.Accounts.{deal}
use Rattle.checking.specs.declared.plants.Run.{Run}

-- ---- sums by agent, added to what stands in their cells: nothing overflows
pub record Spacious (before : List ℕ) : Type 0 where
  pub cells : length before ≡ most_agents
  pub small : (a : ℕ) → a < most_agents → at before a ≤ room 2

pub record CountableWide (keys values before : List ℕ) : Type 0 where
  pub few : length keys ≤ most_contracts
  pub long : length keys ≤ length values
  pub agent : (j : ℕ) → j < length keys → at keys j < most_agents
  pub cells : length before ≡ most_agents
  pub small : (a : ℕ) → a < most_agents → at before a ≤ room 1024

pub record Totalled (keys values before after : List ℕ) : Type 0 where
  pub each : (a : ℕ) → a < most_agents → at after a ≡ keyed (at keys) (at values) (length keys) a + at before a
  pub most : (a : ℕ) → a < most_agents → at after a ≤ room (length keys) + at before a
  pub long : length after ≡ length before

-- ---- the shares: all near their proportion, where there is one, and together the losses
abbrev pub share_at : (figures : List ℕ) → ℕ → ℕ
share_at f a = at f (cells_per_agent * a)

abbrev pub shares_test : (kinds used figures : List ℕ) → (n losses consumed : ℕ) → Bool
shares_test ks us f n x t =
    every n (λ a. share_test (carries_losses (at ks a)) x (at us a) t (share_at f a)) && eqb (sum n (share_at f)) x

-- ---- the passes over the plants

-- columns of one length, of no more rows than a sheet may have plants, with a delivery for each
pub record Fitted (ts ms ps vs qs : List ℕ) : Type 0 where
  pub few : length ts ≤ most_plants
  pub musts : length ms ≡ length ts
  pub offers : length ps ≡ length ts
  pub available : length vs ≡ length ts
  pub deliveries : length ts ≤ length qs

-- one plant more, of this flag, must-run, offer and availability, that is to deliver q
pub record Ran (v : Run) (flag must offer available q : ℕ) (r : Run) : Type 0 where
  pub good : r.good ≡ (v.good && within_test must available q)
  pub total : r.total ≡ v.total + q
  pub dearest : r.dearest ≡ max v.dearest (pick (ltb must q) offer)
  pub price : r.price ≡ max v.price (pick (eqb flag 0 && ltb 0 q) offer)

pub record RanTo (flags musts offers available schedule : List ℕ) (n : ℕ) (v : Run) : Type 0 where
  pub good : v.good ≡ every n (λ i. within_test (at musts i) (at available i) (at schedule i))
  pub total : v.total ≡ sum n (at schedule)
  pub most : v.total ≤ room n
  pub dearest : v.dearest ≡ peak n (λ i. pick (ltb (at musts i) (at schedule i)) (at offers i))
  pub price : v.price ≡ peak n (λ i. pick (eqb (at flags i) 0 && ltb 0 (at schedule i)) (at offers i))

-- the plants of the sheet h, for the demand d: whether the schedule is good, its price if it is, and what it adds to own energy
unfoldable pub schedule_test : Sheet → (demand : ℕ) → (schedule : List ℕ) → Bool
schedule_test h d q =
    every (plants h) (λ i. within_test (at h.must_run i) (at h.available i) (at q i))
    && eqb (sum (plants h) (at q)) d
    && every (plants h) (λ i. order_test
    (peak (plants h) (λ j. pick (ltb (at h.must_run j) (at q j)) (at h.offers j))) (at h.offers i)
    (at h.available i) (at q i))

pub record Scheduled (h : Sheet) (d : ℕ) (schedule before : List ℕ) (r : Option ℕ) (after : List ℕ) : Type 0 where
  pub price : r ≡ then_some (schedule_test h d schedule) (hour_price (at h.offers) (at h.flags) (at schedule) (plants h))
  pub own : (a : ℕ) → a < most_agents → at after a ≡ keyed (at h.holders) (at schedule) (plants h) a + at before a
  pub long : length after ≡ length before

-- ---- what each agent holds of contracts, added to what stands in its cell: nothing overflows
pub record Holdable (rs : List Contract) (xs before : List ℕ) : Type 0 where
  pub few : length rs ≤ most_contracts
  pub long : length rs ≤ length xs
  pub buyer : (j : ℕ) → j < length rs → (deal rs j).buyer < most_agents
  pub seller : (j : ℕ) → j < length rs → (deal rs j).seller < most_agents
  pub cells : Spacious before

-- after n rows
pub record HoldingTo (rs : List Contract) (xs before : List ℕ) (n : ℕ) (after : List ℕ) : Type 0 where
  pub each : (a : ℕ) → a < most_agents
      → at after a ≡ keyed (λ j. (deal rs j).buyer) (at xs) n a + keyed (λ j. (deal rs j).seller) (at xs) n a + at before a
  pub long : length after ≡ length before

abbrev pub Holding : (rs : List Contract) (xs before after : List ℕ) → Type 0
Holding rs xs before after = HoldingTo rs xs before (length rs) after

-- ---- the contracts of the sheet h, on these demands: whether the amounts are good, and what each agent holds
pub record Agreed (h : Sheet) (ds amounts before : List ℕ) (r : Bool) (after : List ℕ) : Type 0 where
  pub good : r ≡ hour_good h.deals ds amounts
  pub held : (a : ℕ) → a < most_agents
      → at after a ≡ keyed (at h.deals.buyers) (at amounts) (contracts h) a
      + keyed (at h.sellers) (at amounts) (contracts h) a + at before a
  pub long : length after ≡ length before

-- ---- a line, from the agent's kind and what it has, against the stated cells 1 to 5 and the money
abbrev pub line_test : (kind own import contracted price c1 c2 c3 c4 c5 : ℕ) → ℤ → Bool
line_test k o i h p c1 c2 c3 c4 c5 m =
    eqb c1 o && eqb c2 i && eqb c3 h && eqb c4 (buys k c1 i c3) && eqb c5 (sells k c1 c3)
    && same_money m (money_of c5 c4 p)

abbrev pub line_at : (kinds own imports held : List ℕ) → (price : ℕ) → (figures : List ℕ) → List ℤ → ℕ → Bool
line_at ks os is hs p f m a =
    let k = cells_per_agent * a in
    line_test (at ks a) (at os a) (at is a) (at hs a) p (at f (k + 1)) (at f (k + 2)) (at f (k + 3)) (at f (k + 4)) (at f (k + 5))
    (get_or m a (pos 0))

-- ---- columns with a cell for each agent of the sheet h
pub record Cells (h : Sheet) (ks us is js : List ℕ) : Type 0 where
  pub kinds : length ks ≡ agents h
  pub taken : length us ≡ agents h
  pub imports : length is ≡ agents h
  pub injects : length js ≡ agents h

-- ---- the agents of the sheet h, as weighing has them: kinds, consumptions, own imports and what small generators deliver, and the
-- losses
pub record Weighs (h : Sheet) (ks us is js : List ℕ) (x : ℕ) : Type 0 where
  pub long : Cells h ks us is js
  pub kinds : (a : ℕ) → a < agents h → at ks a ≡ at h.kinds a
  pub used : (a : ℕ) → a < agents h → at us a ≡ consumption h a
  pub imports : (a : ℕ) → a < agents h → at is a ≡ own_import h a
  pub injects : (a : ℕ) → a < agents h → at js a ≡ injected h a
  pub losses : x ≡ losses h

-- the same with the demands that their shares make
pub record Demands (h : Sheet) (l : Lent) (ks ds is js : List ℕ) : Type 0 where
  pub long : Cells h ks ds is js
  pub kinds : (a : ℕ) → a < agents h → at ks a ≡ at h.kinds a
  pub demands : (a : ℕ) → a < agents h → at ds a ≡ demand_in h l a
  pub small : (a : ℕ) → a < agents h → at ds a ≤ room 1
  pub whole : sum (agents h) (demand_in h l) ≤ room 1
  pub idle : (a : ℕ) → a < agents h → retails h a ≡ false → demand_in h l a ≡ 0
  pub imports : (a : ℕ) → a < agents h → at is a ≡ own_import h a
  pub own : sum (agents h) (own_import h) ≤ room 1
  pub injects : (a : ℕ) → a < agents h → at js a ≡ injected h a

-- points 22 to 25
unfoldable pub trade_verdict : Sheet → (price : ℕ) → Lent → Verdict
trade_verdict s price l =
    first_of (refused_unless (schedule_good s l) bad_schedule 0
    ∷ refused_unless (price_good s price l) bad_price 0
    ∷ refused_unless (amounts_good s l) bad_amounts 0
    ∷ refused_unless (lines_good s price l) bad_lines 0
    ∷ [])
