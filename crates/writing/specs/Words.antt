-- Document 01, 'The hour sheet': the sheet that has these numbers, row by row and as bytes. Assumes nothing.
use Rattle.std.specs.Prelude.{ℕ, ◌+◌, ◌-◌, ◌*◌, cond, List, ltb, eqb}
use Rattle.octets.specs.Bytes.{words_of, bytes_of}
use Rattle.rows.specs.Rows.{low}
use Rattle.octets.specs.declared.Words.{Words}
use Rattle.limits.specs.declared.Agent.{Agent}
use Rattle.limits.specs.declared.Boundary.{Boundary}
use Rattle.limits.specs.declared.Plant.{Plant}
use Rattle.limits.specs.declared.Contract.{Contract}
use Rattle.sheet.specs.Reading.{boundary_start, plant_start, contract_start, trailer_start}
use Rattle.sheet.specs.declared.Counts.{Counts}
use Rattle.writing.specs.Numbers.{Numbers, counts_in, agent_in, boundary_in, plant_in, contract_in}

-- two 16-bit numbers in one of 32 bits
abbrev pub halves : ℕ → ℕ → ℕ
halves x y = low x + 65536 * low y

-- ---- each row, its fillers 0
abbrev pub agent_words : Agent → Words
agent_words a = words_of a.kind 0 0 0

abbrev pub boundary_words : Boundary → Words
boundary_words b = words_of (halves b.agent b.factor) 0 b.import b.export

abbrev pub plant_words : Plant → Words
plant_words p = words_of (halves p.agent p.inflexible) p.must p.price p.availability

abbrev pub contract_words : Contract → Words
contract_words k = words_of (halves k.seller k.buyer) k.kind k.price k.quantity

-- the trailer: a distance back from its first byte, and a count, a section
unfoldable pub trailer_words : Counts → ℕ → Words
trailer_words c i =
    let t = trailer_start c in
    cond (eqb i 0)
    (words_of (16 * t) c.agents (16 * (t - boundary_start c)) c.boundaries)
    (words_of (16 * (t - plant_start c)) c.plants (16 * (t - contract_start c)) c.contracts)

-- row r of the sheet; the trailer is two rows more
unfoldable pub sheet_row : Numbers → ℕ → Words
sheet_row n r =
    let c = counts_in n in
    cond (ltb r (boundary_start c)) (agent_words (agent_in n.agents r))
    (cond (ltb r (plant_start c)) (boundary_words (boundary_in n.boundaries (r - boundary_start c)))
    (cond (ltb r (contract_start c)) (plant_words (plant_in n.plants (r - plant_start c)))
    (cond (ltb r (trailer_start c)) (contract_words (contract_in n.contracts (r - contract_start c)))
    (trailer_words c (r - trailer_start c)))))

-- the whole sheet
unfoldable pub sheet_of : Numbers → List ℕ
sheet_of n = bytes_of (sheet_row n) (trailer_start (counts_in n) + 2)
