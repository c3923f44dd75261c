-- Document 01, 'The hour sheet' and refusal 12: a sheet's rows section by section, and what an accepted sheet is asked for.
-- Assumes nothing.
use Rattle.std.specs.Prelude.{Result, Ok, Err}
use Rattle.refusals.specs.declared.Refusal.{Refusal}
use Rattle.std.specs.Prelude.{ℕ, ◌+◌, ◌*◌, Bool, ◌&&◌, cond, List, [], ◌∷◌, take, drop, leb, ltb, eqb}
use Rattle.refusals.specs.Refusals.{not_there, refused_unless, first_of}
use Rattle.refusals.specs.Refusals.{Verdict}
use Rattle.octets.specs.Bytes.{words_at}
use Rattle.rows.specs.Rows.{agent_of, boundary_of, plant_of, contract_of}
use Rattle.limits.specs.declared.Agent.{Agent}
use Rattle.limits.specs.declared.Boundary.{Boundary}
use Rattle.limits.specs.declared.Plant.{Plant}
use Rattle.limits.specs.declared.Contract.{Contract}
use Rattle.sheet.specs.Reading.{boundary_start, plant_start, contract_start}
use Rattle.sheet.specs.declared.Counts.{Counts}
use Rattle.sheet.specs.declared.Fields.{Fields}

-- ---- the rows of each section, numbered from 0
abbrev pub agent_at : List ℕ → Counts → ℕ → Agent
agent_at s c i = agent_of (words_at s i)

abbrev pub boundary_at : List ℕ → Counts → ℕ → Boundary
boundary_at s c i = boundary_of (words_at s (boundary_start c + i))

abbrev pub plant_at : List ℕ → Counts → ℕ → Plant
plant_at s c i = plant_of (words_at s (plant_start c + i))

abbrev pub contract_at : List ℕ → Counts → ℕ → Contract
contract_at s c i = contract_of (words_at s (contract_start c + i))

-- ---- sections by their number: 1 agents, 2 boundaries, 3 plants, 4 contracts; `none` for any other
abbrev pub by_section : {A : Type 0} → ℕ → (agents boundaries plants contracts none : A) → A
by_section k a b p c none = cond (eqb k 1) a (cond (eqb k 2) b (cond (eqb k 3) p (cond (eqb k 4) c none)))

abbrev pub is_section : ℕ → Bool
is_section k = leb 1 k && leb k 4

-- how many rows section k has, and how many stand before it
unfoldable pub rows_in : Counts → ℕ → ℕ
rows_in c k = by_section k c.agents c.boundaries c.plants c.contracts 0

unfoldable pub rows_before : Counts → ℕ → ℕ
rows_before c k = by_section k 0 (boundary_start c) (plant_start c) (contract_start c) 0

-- ---- the named fields of a row in byte order, without fillers, the rest 0
abbrev pub fields : (first second third fourth fifth : ℕ) → Fields
fields a b c d e = record { first = a; second = b; third = c; fourth = d; fifth = e }

abbrev pub agent_fields : Agent → Fields
agent_fields a = fields a.kind 0 0 0 0

abbrev pub boundary_fields : Boundary → Fields
boundary_fields b = fields b.agent b.factor b.import b.export 0

abbrev pub plant_fields : Plant → Fields
plant_fields p = fields p.agent p.inflexible p.must p.price p.availability

abbrev pub contract_fields : Contract → Fields
contract_fields c = fields c.seller c.buyer c.kind c.price c.quantity

abbrev pub no_fields : Fields
no_fields = fields 0 0 0 0 0

-- row i of section k
unfoldable pub fields_at : List ℕ → Counts → ℕ → ℕ → Fields
fields_at s c k i =
    by_section k (agent_fields (agent_at s c i)) (boundary_fields (boundary_at s c i)) (plant_fields (plant_at s c i))
    (contract_fields (contract_at s c i)) no_fields

-- ---- what asking for a row answers: its numbers, all zeros where it is refused
abbrev pub row_read : Verdict → Fields → Result Fields Refusal
row_read (Ok tt) f = Ok f
row_read (Err r) f = Err r

abbrev pub verdict_in : Result Fields Refusal → Verdict
verdict_in (Ok f) = Ok tt
verdict_in (Err r) = Err r

abbrev pub fields_in : Result Fields Refusal → Fields
fields_in (Ok f) = f
fields_in (Err r) = no_fields

-- ---- asking an accepted sheet with these counts: 12 with the number asked for, a bad section before a bad row
abbrev pub asked_section : ℕ → Verdict
asked_section k = refused_unless (is_section k) not_there k

unfoldable pub asked_row : Counts → ℕ → ℕ → Verdict
asked_row c k i = first_of (asked_section k ∷ refused_unless (ltb i (rows_in c k)) not_there i ∷ [])

unfoldable pub row_of : List ℕ → Counts → ℕ → ℕ → Result Fields Refusal
row_of s c k i = row_read (asked_row c k i) (fields_at s c k i)

-- a section is that stretch of the sheet's own bytes, and empty where there is no such section
unfoldable pub section_of : List ℕ → Counts → ℕ → List ℕ
section_of s c k = take (16 * rows_in c k) (drop (16 * rows_before c k) s)

-- ---- asking any bytes: reading's refusals first
abbrev pub row_in : Result Counts Refusal → List ℕ → ℕ → ℕ → Result Fields Refusal
row_in (Ok c) s k i = row_of s c k i
row_in (Err r) s k i = Err r

abbrev pub section_in : Result Counts Refusal → List ℕ → ℕ → List ℕ
section_in (Ok c) s k = section_of s c k
section_in (Err r) s k = []

abbrev pub section_answer : Result Counts Refusal → ℕ → Verdict
section_answer (Ok c) k = asked_section k
section_answer (Err r) k = Err r
