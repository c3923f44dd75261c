-- The text of an accepted sheet: no line of it is wrong, since the sheet's counts are within their limits, and its numbers are the
-- sheet's, section by section. Assumes nothing.
use Rattle.std.specs.Prelude.{is_some}
use Rattle.std.specs.Prelude.{Ok}
use Prim.Native.Nat.{ℕ, zero, suc, ◌+◌, ◌*◌, ◌/◌, ◌%◌, ◌≤◌, ◌<◌}
use mathlib.Core.Path.{◌≡◌, refl, ap, sym, ◌∙◌}
use mathlib.Core.Bool.{true, false}
use mathlib.Core.List.{List, [], ◌∷◌, ◌++◌}
use native.Mathlib.Omega.{arith}
use native.Mathlib.Nat.{zero-add}
use borrow.Author.Tests.{le-leb}
use Rattle.sums.specs.Sums.{pick}
use Rattle.sums.specs.Lists.{at, list_to}
use Rattle.limits.specs.declared.Boundary.{Boundary}
use Rattle.limits.specs.declared.Plant.{Plant}
use Rattle.limits.specs.declared.Contract.{Contract}
use Rattle.octets.proofs.Trip.{Bytes}
use Rattle.sheet.specs.Reading.{read_of}
use Rattle.sheet.specs.Asking.{agent_at, boundary_at, plant_at, contract_at, rows_in, rows_before}
use Rattle.sheet.specs.declared.Counts.{Counts}
use Rattle.sheet.proofs.Accepted.{Few}
use Rattle.text.specs.Lines.{cut, lines, over, step, read_line, line_fault}
use Rattle.writing.specs.Numbers.{numbers, numbers_of, boundary_number, plant_number, contract_number}
use Rattle.typing.specs.Rows.{sheet_fault, counted_in, within_rooms, scan_row, scan_line, unscanned, scanned, gather_line}
use Rattle.typing.specs.Rows.{listed, numbers_in, sheet_rooms}
use Rattle.typing.specs.Text.{row_typed, boundary_typed, plant_typed, contract_typed, row_of_sheet, section_text, sheet_text}
use Rattle.typing.specs.declared.Scan.{Scan}
use Rattle.typing.proofs.Gathering.{gather_skip}
use Rattle.typing.proofs.Putting.{few_rows_lem}
use Rattle.typing.proofs.Rows.{rows_to, rows_listed}
use Rattle.typing.proofs.Back.{agent_section, boundary_section, plant_section, contract_section, added, Going, own}
use Rattle.typing.proofs.Back.{other, scan_section}

-- no section is over its room
within_of : (c m : Counts) → c.agents ≤ m.agents → c.boundaries ≤ m.boundaries → c.plants ≤ m.plants → c.contracts ≤ m.contracts
    → within_rooms c m ≡ true
within_of c m a b p k =
    rw (
      le-leb c.agents m.agents a,
      le-leb c.boundaries m.boundaries b,
      le-leb c.plants m.plants p,
      le-leb c.contracts m.contracts k,
    )

-- what follows the last row is an empty line
empty_line_lem : (read_line []).word ≡ 0
unfolding read_line over step cut
empty_line_lem = refl

gather_end : (k : ℕ) → (0 ≡ k → ⊥) → (ns : List ℕ) → over (gather_line k) ns (lines []) ≡ ns
unfolding over cut
gather_end k h ns = gather_skip k ns [] (λ e. h (sym empty_line_lem ∙ e))

scan_end : (m : Counts) (j : Scan) (d : Counts)
    → Going j d
    → within_rooms d m ≡ true
    → is_some (over (scan_line m) j (lines [])).fault ≡ false
unfolding over cut scan_line scan_row sheet_fault line_fault read_line step counted_in pick
scan_end m j d g h =
    let a : d.agents + 0 ≡ d.agents = omega arith in
    let b : d.boundaries + 0 ≡ d.boundaries = omega arith in
    let p : d.plants + 0 ≡ d.plants = omega arith in
    let k : d.contracts + 0 ≡ d.contracts = omega arith in
    rw (g.fine, g.counts, a, b, p, k, h)

-- ---- number j of a row, as it is typed and as it is listed
boundary_at_lem : (b : Boundary) (j : ℕ) → j < 4 → at (boundary_typed b) j ≡ boundary_number b j
unfolding boundary_number
boundary_at_lem b zero l = refl
boundary_at_lem b (suc zero) l = refl
boundary_at_lem b (suc (suc zero)) l = refl
boundary_at_lem b (suc (suc (suc zero))) l = refl
boundary_at_lem b (suc (suc (suc (suc j)))) l = absurd (omega arith)

plant_at_lem : (p : Plant) (j : ℕ) → j < 5 → at (plant_typed p) j ≡ plant_number p j
unfolding plant_number
plant_at_lem p zero l = refl
plant_at_lem p (suc zero) l = refl
plant_at_lem p (suc (suc zero)) l = refl
plant_at_lem p (suc (suc (suc zero))) l = refl
plant_at_lem p (suc (suc (suc (suc zero)))) l = refl
plant_at_lem p (suc (suc (suc (suc (suc j))))) l = absurd (omega arith)

contract_at_lem : (k : Contract) (j : ℕ) → j < 5 → at (contract_typed k) j ≡ contract_number k j
unfolding contract_number
contract_at_lem k zero l = refl
contract_at_lem k (suc zero) l = refl
contract_at_lem k (suc (suc zero)) l = refl
contract_at_lem k (suc (suc (suc zero))) l = refl
contract_at_lem k (suc (suc (suc (suc zero)))) l = refl
contract_at_lem k (suc (suc (suc (suc (suc j))))) l = absurd (omega arith)

-- the rows of a sheet's section, one after the other, are the list of its numbers
module _ (s : List ℕ) (c : Counts) where
  agents_listed : (n : ℕ) → rows_to (row_of_sheet s c 1) n ≡ list_to (λ i. (agent_at s c i).kind) n
  unfolding rows_to list_to row_typed rows_before
  agents_listed zero = refl
  agents_listed (suc n) =
      ap (λ (l : List ℕ). l ++ row_of_sheet s c 1 n) (agents_listed n)
      ∙ ap (λ (i : ℕ). list_to (λ j. (agent_at s c j).kind) n ++ ((agent_at s c i).kind ∷ [])) (zero-add n)

  boundaries_listed : (n : ℕ) → rows_to (row_of_sheet s c 2) n ≡ list_to (λ k. boundary_number (boundary_at s c (k / 4)) (k % 4)) (4 * n)
  unfolding row_typed rows_before
  boundaries_listed n =
      rows_listed 4 (row_of_sheet s c 2) (λ i. refl) (λ q j. boundary_number (boundary_at s c q) j) n
      (λ q j l. boundary_at_lem (boundary_at s c q) j l)

  plants_listed : (n : ℕ) → rows_to (row_of_sheet s c 3) n ≡ list_to (λ k. plant_number (plant_at s c (k / 5)) (k % 5)) (5 * n)
  unfolding row_typed rows_before
  plants_listed n =
      rows_listed 5 (row_of_sheet s c 3) (λ i. refl) (λ q j. plant_number (plant_at s c q) j) n (λ q j l. plant_at_lem (plant_at s c q) j l)

  contracts_listed : (n : ℕ) → rows_to (row_of_sheet s c 4) n ≡ list_to (λ k. contract_number (contract_at s c (k / 5)) (k % 5)) (5 * n)
  unfolding row_typed rows_before
  contracts_listed n =
      rows_listed 5 (row_of_sheet s c 4) (λ i. refl) (λ q j. contract_number (contract_at s c q) j) n
      (λ q j l. contract_at_lem (contract_at s c q) j l)

module _ (s : List ℕ) (by : Bytes s) (c : Counts) (e : read_of s ≡ Ok c) where
  few : Few c
  few = few_rows_lem s c e

  -- the rows counted behind each section
  abbrev rows1 : Counts
  rows1 = added 1 c.agents unscanned.counts

  abbrev rows2 : Counts
  rows2 = added 2 c.boundaries rows1

  abbrev rows3 : Counts
  rows3 = added 3 c.plants rows2

  abbrev rows4 : Counts
  rows4 = added 4 c.contracts rows3

  abbrev Right : Scan → List ℕ → Type 0
  Right j rest = is_some (over (scan_line sheet_rooms) j (lines rest)).fault ≡ false

  right5 : (j : Scan) → Going j rows4 → Right j []
  unfolding pick
  right5 j g =
      let f = few in
      scan_end sheet_rooms j rows4 g
      (within_of rows4 sheet_rooms (omega (arith, f.agents)) (omega (arith, f.boundaries)) (omega (arith, f.plants))
      (omega (arith, f.contracts)))

  right4 : (j : Scan) → Going j rows3 → Right j (section_text s c 4 [])
  unfolding pick rows_in
  right4 j g =
      let f = few in
      scan_section s by c 4 contract_section sheet_rooms j rows3 [] g
      (λ i l. within_of (added 4 i rows3) sheet_rooms (omega (arith, f.agents)) (omega (arith, f.boundaries)) (omega (arith, f.plants))
      (omega (arith, f.contracts, l)))
      right5

  right3 : (j : Scan) → Going j rows2 → Right j (section_text s c 3 (section_text s c 4 []))
  unfolding pick rows_in
  right3 j g =
      let f = few in
      scan_section s by c 3 plant_section sheet_rooms j rows2 (section_text s c 4 []) g
      (λ i l. within_of (added 3 i rows2) sheet_rooms (omega (arith, f.agents)) (omega (arith, f.boundaries))
      (omega (arith, f.plants, l)) (omega arith))
      right4

  right2 : (j : Scan) → Going j rows1 → Right j (section_text s c 2 (section_text s c 3 (section_text s c 4 [])))
  unfolding pick rows_in
  right2 j g =
      let f = few in
      scan_section s by c 2 boundary_section sheet_rooms j rows1 (section_text s c 3 (section_text s c 4 [])) g
      (λ i l. within_of (added 2 i rows1) sheet_rooms (omega (arith, f.agents)) (omega (arith, f.boundaries, l)) (omega arith)
      (omega arith))
      right3

  -- no line of the text is wrong
  pub text_right : is_some (scanned sheet_rooms (sheet_text s c)).fault ≡ false
  unfolding scanned sheet_text pick rows_in
  text_right =
      let f = few in
      scan_section s by c 1 agent_section sheet_rooms unscanned unscanned.counts
      (section_text s c 2 (section_text s c 3 (section_text s c 4 [])))
      (record { fine = refl; counts = refl })
      (λ i l. within_of (added 1 i unscanned.counts) sheet_rooms (omega (arith, f.agents, l)) (omega arith) (omega arith) (omega arith))
      right2

  -- each section's list is its rows
  listed_agents : listed 1 (sheet_text s c) ≡ rows_to (row_of_sheet s c 1) c.agents
  unfolding listed sheet_text rows_in
  listed_agents =
      own s by c 1 agent_section [] _ ∙ other s by c 2 boundary_section 1 (λ q. absurd (omega arith)) _ _
      ∙ other s by c 3 plant_section 1 (λ q. absurd (omega arith)) _ _
      ∙ other s by c 4 contract_section 1 (λ q. absurd (omega arith)) _ []
      ∙ gather_end 1 (λ q. absurd (omega arith)) _

  listed_boundaries : listed 2 (sheet_text s c) ≡ rows_to (row_of_sheet s c 2) c.boundaries
  unfolding listed sheet_text rows_in
  listed_boundaries =
      other s by c 1 agent_section 2 (λ q. absurd (omega arith)) [] _ ∙ own s by c 2 boundary_section [] _
      ∙ other s by c 3 plant_section 2 (λ q. absurd (omega arith)) _ _
      ∙ other s by c 4 contract_section 2 (λ q. absurd (omega arith)) _ []
      ∙ gather_end 2 (λ q. absurd (omega arith)) _

  listed_plants : listed 3 (sheet_text s c) ≡ rows_to (row_of_sheet s c 3) c.plants
  unfolding listed sheet_text rows_in
  listed_plants =
      other s by c 1 agent_section 3 (λ q. absurd (omega arith)) [] _
      ∙ other s by c 2 boundary_section 3 (λ q. absurd (omega arith)) [] _
      ∙ own s by c 3 plant_section [] _
      ∙ other s by c 4 contract_section 3 (λ q. absurd (omega arith)) _ []
      ∙ gather_end 3 (λ q. absurd (omega arith)) _

  listed_contracts : listed 4 (sheet_text s c) ≡ rows_to (row_of_sheet s c 4) c.contracts
  unfolding listed sheet_text rows_in
  listed_contracts =
      other s by c 1 agent_section 4 (λ q. absurd (omega arith)) [] _
      ∙ other s by c 2 boundary_section 4 (λ q. absurd (omega arith)) [] _
      ∙ other s by c 3 plant_section 4 (λ q. absurd (omega arith)) [] _
      ∙ own s by c 4 contract_section [] []
      ∙ gather_end 4 (λ q. absurd (omega arith)) _

  -- so the text has the sheet's numbers
  pub numbers_back : numbers_in (sheet_text s c) ≡ numbers_of s c
  unfolding numbers_of
  numbers_back = λ i.
      numbers ((listed_agents ∙ agents_listed s c c.agents) i) ((listed_boundaries ∙ boundaries_listed s c c.boundaries) i)
      ((listed_plants ∙ plants_listed s c c.plants) i) ((listed_contracts ∙ contracts_listed s c c.contracts) i)
