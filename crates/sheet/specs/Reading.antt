-- Document 01, 'The hour sheet' and 'When the sheet is turned away': reading gives refusals 1 to 6. The first bad row ends it.
-- Assumes nothing.
use Rattle.std.specs.Prelude.{Result, Ok, Err}
use Rattle.refusals.specs.declared.Refusal.{Refusal}
use Rattle.std.specs.Prelude.{ℕ, ◌+◌, ◌-◌, ◌*◌, ◌/◌, ◌%◌, Bool, ◌&&◌, cond, List, [], ◌∷◌, length, leb, ltb, eqb}
use Rattle.refusals.specs.Refusals.{bad_length, bad_layout, bad_agent, bad_boundary, bad_plant, bad_contract, refused_unless, first_of, first_bad}
use Rattle.refusals.specs.Refusals.{Verdict}
use Rattle.limits.specs.Limits.{most_agents, most_boundaries, most_plants, most_contracts}
use Rattle.octets.specs.Bytes.{words_at}
use Rattle.rows.specs.Rows.{agent_of, boundary_of, plant_of, contract_of, agent_blank, boundary_blank}
use Rattle.limits.specs.Limits.{few_rows}
use Rattle.rows.specs.Rows.{agent_good, boundary_good, plant_good, contract_good}
use Rattle.sheet.specs.declared.Counts.{Counts}

-- sections stand in the order agents, boundaries, plants, contracts from byte 0 with no gap: the first row of each, and of the trailer
abbrev pub boundary_start : Counts → ℕ
boundary_start c = c.agents

abbrev pub plant_start : Counts → ℕ
plant_start c = c.agents + c.boundaries

abbrev pub contract_start : Counts → ℕ
contract_start c = c.agents + c.boundaries + c.plants

abbrev pub trailer_start : Counts → ℕ
trailer_start c = c.agents + c.boundaries + c.plants + c.contracts

-- 16 bytes a row, and a trailer of 32 bytes
abbrev pub sheet_length : Counts → ℕ
sheet_length c = 16 * trailer_start c + 32

abbrev pub longest : ℕ
longest = 16 * (most_agents + most_boundaries + most_plants + most_contracts) + 32

-- ---- refusal 1 is given exactly where this is false
abbrev pub length_good : ℕ → Bool
length_good n = leb 32 n && leb n longest && eqb (n % 16) 0

-- ---- the trailer: four pairs of numbers, a distance and a count
unfoldable pub counts_of : List ℕ → Counts
counts_of s =
    let t = length s / 16 - 2 in
    record {
      agents = (words_at s t).second;
      boundaries = (words_at s t).fourth;
      plants = (words_at s (t + 1)).second;
      contracts = (words_at s (t + 1)).fourth;
    }

abbrev pub counts_good : Counts → Bool
counts_good c = few_rows c.agents c.boundaries c.plants c.contracts

-- each distance is the one back from the trailer's first byte to the section's first byte
unfoldable pub distances_good : List ℕ → Counts → Bool
distances_good s c =
    let t = length s / 16 - 2 in
    eqb (words_at s t).first (16 * trailer_start c) && eqb (words_at s t).third (16 * (trailer_start c - boundary_start c))
    && eqb (words_at s (t + 1)).first (16 * (trailer_start c - plant_start c))
    && eqb (words_at s (t + 1)).third (16 * (trailer_start c - contract_start c))

-- the counts are within their limits, and the length is the one that they ask for
abbrev pub counts_fit : List ℕ → Bool
counts_fit s = let c = counts_of s in counts_good c && eqb (length s) (sheet_length c)

-- refusal 2 is given exactly where this is false
unfoldable pub layout_good : List ℕ → Bool
layout_good s = counts_fit s && distances_good s (counts_of s)

-- ---- refusals 3 to 6

-- the kind of agent a, 0 where there is no such agent
unfoldable pub kind_at : List ℕ → Counts → ℕ → ℕ
kind_at s c a = cond (ltb a c.agents) (agent_of (words_at s a)).kind 0

unfoldable pub agent_verdict : List ℕ → Counts → ℕ → Verdict
agent_verdict s c i = let w = words_at s i in refused_unless (agent_blank w && agent_good (agent_of w)) bad_agent i

unfoldable pub boundary_verdict : List ℕ → Counts → ℕ → Verdict
boundary_verdict s c i =
    let w = words_at s (boundary_start c + i) in
    let b = boundary_of w in
    refused_unless (boundary_blank w && boundary_good (kind_at s c b.agent) b) bad_boundary i

unfoldable pub plant_verdict : List ℕ → Counts → ℕ → Verdict
plant_verdict s c i =
    let p = plant_of (words_at s (plant_start c + i)) in refused_unless (plant_good (kind_at s c p.agent) p) bad_plant i

unfoldable pub contract_verdict : List ℕ → Counts → ℕ → Verdict
contract_verdict s c i =
    let k = contract_of (words_at s (contract_start c + i)) in
    refused_unless (contract_good (kind_at s c k.seller) (kind_at s c k.buyer) k) bad_contract i

-- ---- reading: the refusals in their order
abbrev pub checks : List ℕ → List Verdict
checks s =
    let c = counts_of s in
    refused_unless (length_good (length s)) bad_length 0
    ∷ refused_unless (layout_good s) bad_layout 0
    ∷ first_bad (agent_verdict s c) 0 c.agents
    ∷ first_bad (boundary_verdict s c) 0 c.boundaries
    ∷ first_bad (plant_verdict s c) 0 c.plants
    ∷ first_bad (contract_verdict s c) 0 c.contracts
    ∷ []

unfoldable pub read_verdict : List ℕ → Verdict
read_verdict s = first_of (checks s)

abbrev pub reading : Verdict → Counts → Result Counts Refusal
reading (Ok tt) c = Ok c
reading (Err r) c = Err r

unfoldable pub read_of : List ℕ → Result Counts Refusal
read_of s = reading (read_verdict s) (counts_of s)
