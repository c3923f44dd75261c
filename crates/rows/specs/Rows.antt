-- Document 01, 'The hour sheet' and refusals 3 to 6: what each row says, and what makes it good. Assumes nothing.
use Rattle.std.specs.Prelude.{ℕ, ◌/◌, ◌%◌, Bool, ◌&&◌, ◌||◌, not, leb, eqb}
use Rattle.limits.specs.Limits.{most_factor, most_reading, most_offer, most_available, most_price, most_quantity}
use Rattle.octets.specs.declared.Words.{Words}
use Rattle.limits.specs.declared.Agent.{Agent}
use Rattle.limits.specs.declared.Boundary.{Boundary}
use Rattle.limits.specs.declared.Plant.{Plant}
use Rattle.limits.specs.declared.Contract.{Contract}

-- two 16-bit numbers stand in one of 32 bits
abbrev pub low : ℕ → ℕ
low x = x % 65536

abbrev pub high : ℕ → ℕ
high x = x / 65536

-- ---- what a row says
abbrev pub agent_of : Words → Agent
agent_of w = record { kind = w.first }

abbrev pub boundary_of : Words → Boundary
boundary_of w = record { agent = low w.first; factor = high w.first; import = w.third; export = w.fourth }

abbrev pub plant_of : Words → Plant
plant_of w =
    record {
      agent = low w.first;
      inflexible = high w.first;
      must = w.second;
      price = w.third;
      availability = w.fourth;
    }

abbrev pub contract_of : Words → Contract
contract_of w =
    record {
      seller = low w.first;
      buyer = high w.first;
      kind = w.second;
      price = w.third;
      quantity = w.fourth;
    }

-- ---- unused bytes are 0: bytes 4 to 15 of an agent, 4 to 7 of a boundary
abbrev pub agent_blank : Words → Bool
agent_blank w = eqb w.second 0 && eqb w.third 0 && eqb w.fourth 0

abbrev pub boundary_blank : Words → Bool
boundary_blank w = eqb w.second 0

-- ---- the kinds of agent: 1 retailer, 2 generator, 3 small generator outside central dispatch (document 02, P5). What each kind does
-- is asked by these tests; no other page names a kind's number

-- carries losses, in proportion to its consumption: it is metered as a retailer
abbrev pub carries_losses : ℕ → Bool
carries_losses kind = eqb kind 1

-- is metered as a generator: at 220 kV, so with no factor; export is net generation, import its own consumption
abbrev pub is_generator : ℕ → Bool
is_generator kind = eqb kind 2 || eqb kind 3

-- may sell under contracts, and may buy
abbrev pub may_sell : ℕ → Bool
may_sell kind = eqb kind 2 || eqb kind 3

abbrev pub may_buy : ℕ → Bool
may_buy kind = eqb kind 1

-- holds plants
abbrev pub holds_plants : ℕ → Bool
holds_plants kind = eqb kind 2

-- stands outside central dispatch: a generator without plants, whose own energy is its metered export
abbrev pub is_outside : ℕ → Bool
is_outside kind = is_generator kind && not (holds_plants kind)

abbrev pub is_agent : ℕ → Bool
is_agent kind = carries_losses kind || is_generator kind

-- ---- what makes a row good. A row that names an agent is judged with that agent's kind, 0 where there is no such agent
abbrev pub agent_good : Agent → Bool
agent_good a = is_agent a.kind

-- the agent is there, factor and readings are within their limits, and a generator has no factor
abbrev pub boundary_good : (kind : ℕ) → Boundary → Bool
boundary_good kind b =
    is_agent kind && leb b.factor most_factor && leb b.import most_reading && leb b.export most_reading
    && (not (is_generator kind) || eqb b.factor 0)

-- the agent holds plants, the flag is 0 or 1, price and availability are within their limits; the must-run is 0 for a flexible
-- plant, at most its availability for an inflexible one
abbrev pub plant_good : (kind : ℕ) → Plant → Bool
plant_good kind p =
    holds_plants kind && leb p.inflexible 1 && leb p.price most_offer && leb p.availability most_available
    && leb p.must p.availability && (not (eqb p.inflexible 0) || eqb p.must 0)

-- the seller may sell and the buyer buy; kind, price and quantity are within their ranges
abbrev pub contract_good : (seller buyer : ℕ) → Contract → Bool
contract_good seller buyer c =
    may_sell seller && may_buy buyer && leb 1 c.kind && leb c.kind 3 && leb c.price most_price
    && leb c.quantity most_quantity
