-- Where `make` refuses a row, the line that it tells is that row's. A refusal 3 to 6 of writing names a row that is there, since the first
-- bad row of a section is one of its rows; and such a row stands on the line told (`row_stands`). Assumes nothing.
use Rattle.std.specs.Prelude.{is_some}
use Rattle.std.specs.Prelude.{Result}
use Rattle.std.specs.Prelude.{Ok, Err}
use Prim.Native.Nat.{ℕ, zero, suc, ◌+◌, ◌-◌, ◌*◌, ◌≤◌, ◌<◌}
use mathlib.Core.Path.{◌≡◌, ap, sym, ◌∙◌, subst}
use mathlib.Core.Bool.{Bool, true, false}
use mathlib.Core.List.{List, [], ◌∷◌}
use native.Mathlib.Omega.{arith}
use borrow.Author.Tests.{le-leb}
use lib.Dec.{leb}
use lib.ListN.{length}
use Rattle.refusals.specs.Refusals.{bad_layout, bad_agent, bad_boundary, bad_plant, bad_contract, no_room, refusal, refused_unless}
use Rattle.refusals.specs.Refusals.{or_else, first_of, first_bad}
use Rattle.refusals.specs.declared.Refusal.{Refusal}
use Rattle.refusals.specs.Refusals.{Verdict}
use Rattle.refusals.proofs.Fine.{not_fine}
use Rattle.rows.specs.Rows.{agent_good, boundary_good, plant_good, contract_good}
use Rattle.sums.specs.Lists.{at}
use Rattle.sheet.specs.Reading.{sheet_length}
use Rattle.sheet.specs.Asking.{rows_in}
use Rattle.writing.specs.Numbers.{Numbers, counts_in, agent_in, boundary_in, plant_in, contract_in}
use Rattle.writing.specs.Judged.{lists_good, agent_listed, boundary_listed, plant_listed, contract_listed, row_listed, section_listed}
use Rattle.writing.specs.Judged.{write_checks, write_verdict, writing}
use Rattle.typing.specs.Rows.{sheet_rooms, wants, scanned, listed, numbers_in}
use Rattle.typing.specs.Made.{line_of_row, refused_line, made_by, writing_in, made, MadeInto}
use Rattle.typing.specs.declared.Unmade.{Unmade}
use Rattle.text.proofs.Faults.{no_fault}
use Rattle.typing.proofs.Counting.{fits}
use Rattle.typing.proofs.Standing.{StandsOn, row_stands}
use Rattle.typing.proofs.Trips.{refused_says}

-- ---- the first bad row is one of the rows
bad_place : (ok : ℕ → Bool) (number i n : ℕ) (r : Refusal) → first_bad (λ j. refused_unless (ok j) number j) i n ≡ Err r
    → (r.number ≡ number) × (r.place < i + n)
unfolding first_bad
bad_place ok number i zero r e = not_fine r (sym e)
bad_place ok number i (suc n) r e = go (ok i) e (λ h. bad_place ok number (suc i) n r h)
  where
    go : (t : Bool)
        → or_else (refused_unless t number i) (first_bad (λ j. refused_unless (ok j) number j) (suc i) n) ≡ Err r
        → (first_bad (λ j. refused_unless (ok j) number j) (suc i) n ≡ Err r → (r.number ≡ number) × (r.place < suc i + n))
        → (r.number ≡ number) × (r.place < i + suc n)
    go true h next = let p = next h in (p.0, omega (arith, p.1))
    go false h next =
        let q : refusal number i ≡ r = cc in
        (sym (ap (λ (x : Refusal). x.number) q), (let z = ap (λ (x : Refusal). x.place) q in omega (arith, z)))

-- the refusal of a list of verdicts is one's of them
abbrev Each : List Verdict → Refusal → Type 0 → Type 0
Each [] r A = Unit {0}
Each (v ∷ vs) r A = (v ≡ Err r → A) × Each vs r A

whoever : (vs : List Verdict) (r : Refusal) {A : Type 0} → Each vs r A → first_of vs ≡ Err r → A
whoever [] r h e = not_fine r (sym e)
whoever ((Ok tt) ∷ vs) r h e = whoever vs r h.1 e
whoever (Err q ∷ vs) r h e = h.0 e

test_number : (t : Bool) (number : ℕ) (r : Refusal) → refused_unless t number 0 ≡ Err r → r.number ≡ number
test_number true number r e = not_fine r (sym e)
test_number false number r e = let q : refusal number 0 ≡ r = cc in sym (ap (λ (x : Refusal). x.number) q)

-- ---- what a refusal 3 to 6 of writing names
module _ (n : Numbers) (r : Refusal) (low : bad_agent ≤ r.number) (high : r.number ≤ bad_contract) where
  abbrev There : Type 0
  There = r.place < rows_in (counts_in n) (r.number - 2)

  there : (k : ℕ) → (r.number ≡ k + 2) × (r.place < 0 + rows_in (counts_in n) k) → There
  there k p =
      let e : r.number - 2 ≡ k = omega (arith, p.0) in
      subst (λ (j : ℕ). r.place < rows_in (counts_in n) j) (sym e) (omega (arith, p.1))

  abbrev kind : ℕ → ℕ
  kind a = at n.agents a

  agents_there : section_listed n 1 ≡ Err r → There
  unfolding section_listed row_listed agent_listed
  agents_there h = there 1 (bad_place (λ i. agent_good (agent_in n.agents i)) bad_agent 0 (rows_in (counts_in n) 1) r h)

  boundaries_there : section_listed n 2 ≡ Err r → There
  unfolding section_listed row_listed boundary_listed
  boundaries_there h =
      let good : ℕ → Bool = λ i. let b = boundary_in n.boundaries i in boundary_good (kind b.agent) b in
      there 2 (bad_place good bad_boundary 0 (rows_in (counts_in n) 2) r h)

  plants_there : section_listed n 3 ≡ Err r → There
  unfolding section_listed row_listed plant_listed
  plants_there h =
      let good : ℕ → Bool = λ i. let p = plant_in n.plants i in plant_good (kind p.agent) p in
      there 3 (bad_place good bad_plant 0 (rows_in (counts_in n) 3) r h)

  contracts_there : section_listed n 4 ≡ Err r → There
  unfolding section_listed row_listed contract_listed
  contracts_there h =
      let good : ℕ → Bool = λ i. let k = contract_in n.contracts i in contract_good (kind k.seller) (kind k.buyer) k in
      there 4 (bad_place good bad_contract 0 (rows_in (counts_in n) 4) r h)

  not_layout : refused_unless (lists_good n) bad_layout 0 ≡ Err r → There
  not_layout h = let z = test_number (lists_good n) bad_layout r h in absurd (omega (arith, z, low))

  not_room : (room : ℕ) → refused_unless (leb (sheet_length (counts_in n)) room) no_room 0 ≡ Err r → There
  not_room room h = let z = test_number (leb (sheet_length (counts_in n)) room) no_room r h in absurd (omega (arith, z, high))

  refused_there : (room : ℕ) → write_verdict n room ≡ Err r → There
  unfolding write_verdict
  refused_there room e =
      whoever (write_checks n room) r
      (not_layout, (agents_there, (boundaries_there, (plants_there, (contracts_there, (not_room room, tt)))))) e

-- ---- of a text in which no line is wrong: row i of section k begins before the end of the section's list
module _ (text : List ℕ) (f : is_some (scanned sheet_rooms text).fault ≡ false) (i : ℕ) where
  abbrev Begins : ℕ → Type 0
  Begins k = i < rows_in (counts_in (numbers_in text)) k → wants k * i < length (listed k text)

  begins : (k : ℕ) → 1 ≤ k → k ≤ 4 → Begins k
  unfolding rows_in wants
  begins zero l h = absurd (omega arith)
  begins (suc zero) l h = λ m. omega (arith, m)
  begins (suc (suc zero)) l h = λ m. let g = fits sheet_rooms text f in omega (arith, m, g.boundaries)
  begins (suc (suc (suc zero))) l h = λ m. let g = fits sheet_rooms text f in omega (arith, m, g.plants)
  begins (suc (suc (suc (suc zero)))) l h = λ m. let g = fits sheet_rooms text f in omega (arith, m, g.contracts)
  begins (suc (suc (suc (suc (suc k))))) l h = absurd (omega arith)

refused_writing : (v : Verdict) (m : ℕ) (r : Refusal) → writing v m ≡ Err r → v ≡ Err r
refused_writing (Ok tt) m r e = let z : ◌≡◌ {A = ℕ} 0 1 = cc in absurd (omega arith)
refused_writing (Err q) m r e = cc

-- TOLD. Where `make` refuses with 3 to 6, row `place` of that section stands on the line told.
pub refused_stands : (text before after : List ℕ) (n : ℕ) (r : Refusal) → MadeInto text before (Err (Unmade.Refused n r)) after
    → bad_agent ≤ r.number → r.number ≤ bad_contract → StandsOn (r.number - 2) r.place text n
unfolding made refused_line
refused_stands text before after n r x low high =
    let j = scanned sheet_rooms text in
    let w = writing_in text (length before) in
    let d = refused_says j.fault j.line w text n r x.answer in
    let v = write_verdict (numbers_in text) (length before) in
    let t =
    refused_there (numbers_in text) r low high (length before) (refused_writing v (sheet_length (counts_in (numbers_in text))) r d.1) in
    let a : Err (Unmade.Refused n r) ≡ made_by (Err r) text = x.answer ∙ (rw (no_fault _ d.0)) ∙ ap (λ (y : Result ℕ Refusal). made_by y text) d.1 in
    let e : n ≡ refused_line text r = cc in
    let l : refused_line text r ≡ line_of_row (r.number - 2) r.place text = rw (le-leb 3 r.number low, le-leb r.number 6 high) in
    subst (λ (q : ℕ). StandsOn (r.number - 2) r.place text q) (sym (e ∙ l))
    (row_stands (r.number - 2) r.place text
    (begins text d.0 r.place (r.number - 2) (omega (arith, low)) (omega (arith, high)) t))
