-- What each pass over the rows of all retailers has found, agent by agent. Assumes nothing.
use Rattle.std.specs.Prelude.{ℕ, ◌-◌, ◌*◌, ◌≤◌, ◌<◌, min, Bool, true, false, ◌&&◌, ◌||◌, List, ◌≡◌, ltb, leb, eqb}
use Rattle.std.specs.Prelude.{length, get_or, replicate}
use Rattle.limits.specs.Limits.{most_agents, most_contracts}
use Rattle.limits.specs.declared.Contract.{Contract}
use Rattle.sums.specs.Lists.{at, list_to}
use Rattle.deals.specs.Deals.{kind, price, quantity}
use Rattle.deals.specs.Hour.{Rows}
use Rattle.statement.specs.Decide.{every}
use Rattle.statement.specs.Quick.{group_good}
use Rattle.statement.specs.Hour.{only_of, emptied}
use Rattle.checking.specs.Passes.{above, room, SeenTo, SummedTo}
use Rattle.checking.specs.declared.passes.Seen.{Seen}
use Rattle.checking.specs.declared.passes.Summed.{Summed}

-- stands past the end of a list of these, and in each cell of an array before anything is written
abbrev pub no_contract : Contract
no_contract = record { seller = 0; buyer = 0; kind = 0; price = 0; quantity = 0 }

abbrev pub no_contracts : List Contract
no_contracts = replicate most_contracts no_contract

abbrev pub deal : List Contract → ℕ → Contract
deal rs j = get_or rs j no_contract

-- the columns of the definitions
unfoldable pub rows_from : List Contract → Rows
rows_from rs =
    record {
      buyers = list_to (λ j. (deal rs j).buyer) (length rs);
      kinds = list_to (λ j. (deal rs j).kind) (length rs);
      prices = list_to (λ j. (deal rs j).price) (length rs);
      quantities = list_to (λ j. (deal rs j).quantity) (length rs);
    }

abbrev pub unseen : Seen
unseen = record { good = true; reach = 0; depth = 0; top = 0; firm = 0; given = 0; asked = 0 }

-- stands past the end of a list of these
abbrev pub past_end : Seen
past_end = record { good = false; reach = 0; depth = 0; top = 0; firm = 0; given = 0; asked = 0 }

abbrev pub unsummed : Summed
unsummed = record { ahead = 0; largest = 0; under = 0; cheaper = 0; whole = 0 }

-- contracts, no more than a sheet may have, with an amount for each, and numbers of 32 bits; the buyers are agents that a sheet may have
pub record Placed (rs : List Contract) (xs : List ℕ) : Type 0 where
  pub few : length rs ≤ most_contracts
  pub amounts : length rs ≤ length xs
  pub buyer : (j : ℕ) → j < length rs → (deal rs j).buyer < most_agents
  pub small : (j : ℕ) → j < length rs → ((deal rs j).price ≤ room 1) × ((deal rs j).quantity ≤ room 1) × (at xs j ≤ room 1)

-- the same, where the buyers are among the agents that have these demands
pub record Dealt (rs : List Contract) (xs ds : List ℕ) : Type 0 where
  pub placed : Placed rs xs
  pub agents : length ds ≤ most_agents
  pub buyer : (j : ℕ) → j < length rs → (deal rs j).buyer < length ds

-- agent a, after n rows
pub record SeenOf (s : Rows) (xs : List ℕ) (n a : ℕ) (v : Seen) : Type 0 where
  pub seen : SeenTo (emptied s a) (only_of s.buyers a xs) n v
  pub firm : v.firm ≤ room n
  pub given : v.given ≤ room n
  pub asked : v.asked ≤ room n

pub record AllSeen (s : Rows) (xs : List ℕ) (n : ℕ) (all : List Seen) : Type 0 where
  pub long : length all ≡ most_agents
  pub each : (a : ℕ) → a < most_agents → SeenOf s xs n a (get_or all a past_end)

pub record SummedOf (s : Rows) (xs : List ℕ) (seen : List Seen) (n a : ℕ) (z : Summed) : Type 0 where
  pub summed : SummedTo (emptied s a) (only_of s.buyers a xs) ((get_or seen a past_end).reach - 1)
      (above - (get_or seen a past_end).depth) ((get_or seen a past_end).top - 1) n z
  pub ahead : z.ahead ≤ room (2 * n)
  pub under : z.under ≤ room (3 * n)
  pub cheaper : z.cheaper ≤ room n
  pub whole : z.whole ≤ room n

pub record AllSummed (s : Rows) (xs : List ℕ) (seen : List Seen) (n : ℕ) (all : List Summed) : Type 0 where
  pub long : length all ≡ most_agents
  pub each : (a : ℕ) → a < most_agents → SummedOf s xs seen n a (get_or all a unsummed)

abbrev pub fine_of : (s : Rows) (xs ds : List ℕ) (seen : List Seen) (sums : List Summed) → (a j : ℕ) → Bool
fine_of s xs ds seen sums a j =
    group_good (at ds a - (get_or seen a past_end).firm) (get_or seen a past_end).top (get_or sums a unsummed).cheaper
    (get_or sums a unsummed).whole
    (kind (emptied s a) j) (price (emptied s a) j) (quantity (emptied s a) j) (only_of s.buyers a xs j)

pub record AllFine (s : Rows) (xs ds : List ℕ) (seen : List Seen) (sums : List Summed) (n : ℕ) (all : List Bool) : Type
    0 where
  pub long : length all ≡ most_agents
  pub each : (a : ℕ) → a < most_agents → get_or all a false ≡ every n (fine_of s xs ds seen sums a)

-- what the passes find of one retailer, put together
abbrev pub retailer_test : Seen → Summed → (groups : Bool) → (left d : ℕ) → Bool
retailer_test v z groups left d =
    v.good && ((eqb v.reach 0 || ltb (z.ahead - z.largest) d)
    && ((eqb v.depth 0 || leb d z.under) && (groups && eqb v.given (min left v.asked))))

abbrev pub retailer_at : (seen : List Seen) (sums : List Summed) (fine : List Bool) (ds : List ℕ) → ℕ → Bool
retailer_at seen sums fine ds a =
    retailer_test (get_or seen a past_end) (get_or sums a unsummed) (get_or fine a false) (at ds a - (get_or seen a past_end).firm)
    (at ds a)
