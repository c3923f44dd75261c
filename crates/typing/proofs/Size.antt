-- How long a sheet's text is: a word has at most 8 bytes, each of at most five numbers 21 with its space, the line end is one, so a row
-- has at most 114 and 72,960 bytes have room for the text of every sheet. Assumes nothing.
use Rattle.std.specs.Prelude.{Result, Ok}
use Rattle.refusals.specs.declared.Refusal.{Refusal}
use Prim.Native.Nat.{ℕ, zero, suc, ◌+◌, ◌*◌, ◌≤◌}
use mathlib.Core.Path.{◌≡◌, ◌∙◌}
use mathlib.Core.List.{List, [], ◌∷◌}
use native.Mathlib.Omega.{arith}
use borrow.Author.Tests.{le-leb}
use lib.ListN.{length, length-append}
use Rattle.octets.specs.Bytes.{words_at}
use Rattle.sheet.specs.Reading.{read_of, trailer_start}
use Rattle.sheet.specs.Asking.{rows_in, rows_before}
use Rattle.sheet.specs.declared.Counts.{Counts}
use Rattle.printing.specs.Text.{lines_to}
use Rattle.printing.specs.Page.{Prints}
use Rattle.printing.proofs.Length.{spell_most}
use Rattle.text.specs.Written.{joined, row_text}
use Rattle.typing.specs.Text.{word_for, row_of_sheet, section_text, sheet_text, text_verdict, text_of}
use Rattle.typing.specs.Steps.{row_room, text_room}
use Rattle.typing.proofs.Gathering.{wants_few}
use Rattle.typing.proofs.Putting.{few_rows_lem}
use Rattle.typing.proofs.Back.{Section, agent_section, boundary_section, plant_section, contract_section}

joined_most : (ns rest : List ℕ) → length (joined ns rest) ≤ 21 * length ns + length rest
unfolding joined
joined_most [] rest = omega arith
joined_most (n ∷ ns) rest = omega (arith, spell_most 19 n (joined ns rest), joined_most ns rest)

row_most : (word ns rest : List ℕ) → length word + 21 * length ns ≤ 113 → length (row_text word ns rest) ≤ row_room + length rest
unfolding row_text
row_most word ns rest h = omega (arith, length-append word (joined ns (10 ∷ rest)), joined_most ns (10 ∷ rest), h)

rows_most : (g : ℕ → List ℕ → List ℕ) → ((i : ℕ) (rest : List ℕ) → length (g i rest) ≤ row_room + length rest) → (n : ℕ) (rest : List ℕ)
    → length (lines_to g n rest) ≤ row_room * n + length rest
unfolding lines_to
rows_most g h zero rest = omega arith
rows_most g h (suc n) rest = omega (arith, rows_most g h n (g n rest), h n rest)

module _ (s : List ℕ) (c : Counts) where
  section_most : (k : ℕ) → Section k → length (word_for k) ≤ 8 → (rest : List ℕ)
      → length (section_text s c k rest) ≤ row_room * rows_in c k + length rest
  section_most k S h rest =
      rows_most (λ i. row_text (word_for k) (row_of_sheet s c k i))
      (λ i r.
      let w = S.wide (words_at s (rows_before c k + i)) in
      let f = wants_few k in row_most (word_for k) (row_of_sheet s c k i) r (omega (arith, w, f, h))) (rows_in c k) rest

  pub text_most : length (sheet_text s c) ≤ row_room * trailer_start c
  unfolding sheet_text rows_in word_for
  text_most =
      let p4 = section_most 4 contract_section (omega arith) [] in
      let p3 = section_most 3 plant_section (omega arith) (section_text s c 4 []) in
      let p2 = section_most 2 boundary_section (omega arith) (section_text s c 3 (section_text s c 4 [])) in
      let p1 = section_most 1 agent_section (omega arith) (section_text s c 2 (section_text s c 3 (section_text s c 4 []))) in
      omega (arith, p1, p2, p3, p4)

-- ROOM. Given 72,960 bytes, `texts::write` never refuses an accepted sheet.
pub text_given : (s before after : List ℕ) (c : Counts) (r : Result ℕ Refusal) → read_of s ≡ Ok c → text_room ≤ length before
    → Prints (text_verdict (read_of s) s (length before)) (text_of (read_of s) s) before r after
    → r ≡ Ok (length (sheet_text s c))
text_given s before after c r e h p =
    let f = few_rows_lem s c e in
    let m = text_most s c in
    let l : length (sheet_text s c) ≤ length before = omega (arith, h, m, f.agents, f.boundaries, f.plants, f.contracts) in
    p.answer ∙ (rw (e, le-leb (length (sheet_text s c)) (length before) l))
