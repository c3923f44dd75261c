-- Document 01, 'When the sheet is turned away': writing gives refusal 2 (a count over its limit, or a list that isn't whole rows),
-- 3 to 6, then 11; and what it promises of the lent bytes. Assumes nothing.
use Rattle.std.specs.Prelude.{Result}
use Rattle.refusals.specs.declared.Refusal.{Refusal}
use Rattle.std.specs.Prelude.{Ok, Err}
use Rattle.std.specs.Prelude.{ℕ, ◌%◌, ◌≡◌, Bool, ◌&&◌, List, [], ◌∷◌, length, leb, eqb}
use Rattle.sums.specs.Lists.{at, Filled}
use Rattle.refusals.specs.Refusals.{bad_layout, bad_agent, bad_boundary, bad_plant, bad_contract}
use Rattle.refusals.specs.Refusals.{no_room, refused_unless, first_of, first_bad, cells}
use Rattle.refusals.specs.Refusals.{Verdict}
use Rattle.octets.specs.Bytes.{byte_of}
use Rattle.rows.specs.Rows.{agent_good, boundary_good, plant_good, contract_good}
use Rattle.sheet.specs.Reading.{counts_good, sheet_length}
use Rattle.sheet.specs.Asking.{by_section, rows_in}
use Rattle.writing.specs.Numbers.{Numbers, counts_in, agent_in, boundary_in, plant_in, contract_in}
use Rattle.writing.specs.Words.{sheet_row}

-- ---- refusal 2 is given exactly where this is false
abbrev pub lists_good : Numbers → Bool
lists_good n =
    counts_good (counts_in n) && eqb (length n.boundaries % 4) 0 && eqb (length n.plants % 5) 0
    && eqb (length n.contracts % 5) 0

-- ---- refusals 3 to 6, by the tests that reading uses. An agent that is not listed has kind 0, so that a number over 65,535 is
-- refused where it names an agent; elsewhere the field's own limit refuses it
unfoldable pub agent_listed : (agents : List ℕ) → ℕ → Verdict
agent_listed kinds i = refused_unless (agent_good (agent_in kinds i)) bad_agent i

unfoldable pub boundary_listed : (agents boundaries : List ℕ) → ℕ → Verdict
boundary_listed kinds l i =
    let b = boundary_in l i in refused_unless (boundary_good (at kinds b.agent) b) bad_boundary i

unfoldable pub plant_listed : (agents plants : List ℕ) → ℕ → Verdict
plant_listed kinds l i = let p = plant_in l i in refused_unless (plant_good (at kinds p.agent) p) bad_plant i

unfoldable pub contract_listed : (agents contracts : List ℕ) → ℕ → Verdict
contract_listed kinds l i =
    let k = contract_in l i in refused_unless (contract_good (at kinds k.seller) (at kinds k.buyer) k) bad_contract i

-- the rows of section 1, 2, 3 or 4
unfoldable pub row_listed : Numbers → ℕ → ℕ → Verdict
row_listed n section =
    by_section section (agent_listed n.agents) (boundary_listed n.agents n.boundaries)
    (plant_listed n.agents n.plants) (contract_listed n.agents n.contracts) (λ i. (Ok tt))

unfoldable pub section_listed : Numbers → ℕ → Verdict
section_listed n section = first_bad (row_listed n section) 0 (rows_in (counts_in n) section)

-- ---- what writing into `room` bytes answers: the refusals in their order
abbrev pub write_checks : Numbers → (room : ℕ) → List Verdict
write_checks n room =
    refused_unless (lists_good n) bad_layout 0
    ∷ section_listed n 1
    ∷ section_listed n 2
    ∷ section_listed n 3
    ∷ section_listed n 4
    ∷ refused_unless (leb (sheet_length (counts_in n)) room) no_room 0
    ∷ []

unfoldable pub write_verdict : Numbers → (room : ℕ) → Verdict
write_verdict n room = first_of (write_checks n room)

abbrev pub writing : Verdict → ℕ → Result ℕ Refusal
writing (Ok tt) length = Ok length
writing (Err r) length = Err r

-- success hands back the sheet's length, which has its bytes; bytes past it keep their values; a refusal writes nothing
pub record Written (n : Numbers) (before : List ℕ) (r : Result ℕ Refusal) (after : List ℕ) : Type 0 where
  pub answer : r ≡ writing (write_verdict n (length before)) (sheet_length (counts_in n))
  pub bytes : Filled 0 before after (cells (write_verdict n (length before)) (sheet_length (counts_in n)))
      (byte_of (sheet_row n))
