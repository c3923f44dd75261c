-- Laws of sections by their number, and of reading. Assumes nothing.
use Rattle.std.specs.Prelude.{Ok, Err}
use Prim.Native.Nat.{ℕ, zero, suc, ◌+◌, ◌*◌, ◌/◌, ◌%◌, ◌≤◌, ◌<◌}
use mathlib.Core.Path.{◌≡◌, refl, sym, ap, ◌∙◌, fun_ext}
use mathlib.Core.Bool.{Bool, true, false, ◌&&◌, cond}
use mathlib.Core.List.{List}
use native.Mathlib.Omega.{arith}
use native.Mathlib.Decide.{dec_lt}
use lib.ListN.{length}
use lib.Dec.{leb, eqb}
use borrow.Author.Tests.{leb-true, eqb-true, lt-ltb, le-ltb}
use Rattle.refusals.specs.Refusals.{bad_length, bad_layout, refusal, first_bad}
use Rattle.refusals.specs.Refusals.{Verdict}
use Rattle.octets.specs.Bytes.{words_of, words_at}
use Rattle.rows.specs.Rows.{agent_of}
use Rattle.sums.proofs.Tests.{and_left, and_right}
use Rattle.octets.proofs.Stretch.{stretch_length, stretch_row}
use Rattle.sheet.specs.Reading.{boundary_start, plant_start, contract_start, trailer_start, sheet_length, longest}
use Rattle.sheet.specs.Reading.{length_good, counts_of, counts_good, distances_good, layout_good, kind_at, agent_verdict}
use Rattle.sheet.specs.Reading.{boundary_verdict, plant_verdict, contract_verdict, read_verdict, reading, read_of}
use Rattle.sheet.specs.Asking.{rows_in, rows_before, section_of, is_section, fields_at, asked_row, row_of, row_in}
use Rattle.sheet.specs.Sections.{kind_in, section_row_good, told_in, row_verdict, section_verdict, rows_verdict}
use Rattle.sheet.specs.declared.Counts.{Counts}
use Rattle.sheet.proofs.Accepted.{Few, good_few, kind_of_lem, no_kind, accepted_length}

-- a section's rows are among the sheet's
pub section_within : (c : Counts) (k : ℕ) → rows_before c k + rows_in c k ≤ trailer_start c
unfolding rows_before rows_in
section_within c k = go (eqb k 1) (eqb k 2) (eqb k 3) (eqb k 4)
  where
    go : (x y z w : Bool)
        → cond x 0 (cond y c.agents
        (cond z (c.agents + c.boundaries) (cond w (c.agents + c.boundaries + c.plants) 0)))
        + cond x c.agents (cond y c.boundaries (cond z c.plants (cond w c.contracts 0)))
        ≤ c.agents + c.boundaries + c.plants + c.contracts
    go true y z w = omega arith
    go false true z w = omega arith
    go false false true w = omega arith
    go false false false true = omega arith
    go false false false false = omega arith

-- ---- reading, step by step
pub has_trailer : (n : ℕ) → length_good n ≡ true → 32 ≤ n
has_trailer n e =
    leb-true _ _ (and_left (leb 32 n) (leb n longest) (and_left (leb 32 n && leb n longest) (eqb (n % 16) 0) e))

module _ (s : List ℕ) where
  -- the agents' rows are the sheet's first
  agents_told : (c : Counts) → row_verdict s c 1 ≡ agent_verdict s c
  unfolding row_verdict section_row_good rows_before agent_verdict
  agents_told c = fun_ext (λ i. let z : 0 + i ≡ i = omega arith in rw z)

  pub read_short : length_good (length s) ≡ false → read_of s ≡ Err (refusal bad_length 0)
  unfolding read_of read_verdict
  read_short e = rw e

  module _ (e : length_good (length s) ≡ true) where
    pub read_crooked : layout_good s ≡ false → read_of s ≡ Err (refusal bad_layout 0)
    unfolding read_of read_verdict
    read_crooked h = rw (e, h)

    pub read_rows : layout_good s ≡ true → read_of s ≡ reading (rows_verdict s (counts_of s)) (counts_of s)
    unfolding read_of read_verdict rows_verdict section_verdict row_verdict section_row_good rows_in rows_before agent_verdict
        boundary_verdict plant_verdict contract_verdict
    read_rows h = rw (e, h, agents_told (counts_of s))

  -- a good layout has few rows, and the length that they ask for
  pub layout_few : layout_good s ≡ true → Few (counts_of s)
  unfolding layout_good
  layout_few e =
      let c = counts_of s in
      let l = eqb (length s) (sheet_length c) in
      good_few c (and_left (counts_good c) l (and_left (counts_good c && l) (distances_good s c) e))

  pub layout_long : layout_good s ≡ true → length s ≡ sheet_length (counts_of s)
  unfolding layout_good
  layout_long e =
      let c = counts_of s in
      let l = eqb (length s) (sheet_length c) in
      eqb-true _ _ (and_right (counts_good c) l (and_left (counts_good c && l) (distances_good s c) e))

-- rows that are told the same have the same first refusal
first_same : (f g : ℕ → Verdict) (n i : ℕ) → ((j : ℕ) → j < i + n → f j ≡ g j) → first_bad f i n ≡ first_bad g i n
unfolding first_bad
first_same f g zero i h = refl
first_same f g (suc n) i h = rw (h i (omega arith), first_same f g n (suc i) (λ j l. h j (omega arith)))

-- ---- the sections, cut out of the sheet
no_row : (s : List ℕ) (r : ℕ) → length s / 16 ≤ r → words_at s r ≡ words_of 0 0 0 0
unfolding words_at
no_row s r h = rw (le-ltb _ _ h)

module _ (s : List ℕ) (c : Counts) (e : length s ≡ sheet_length c) where
  within : (k : ℕ) → 16 * rows_before c k + 16 * rows_in c k ≤ length s
  within k = omega (arith, section_within c k)

  -- a section has all the bytes of its rows
  pub part_length : (k : ℕ) → length (section_of s c k) ≡ 16 * rows_in c k
  unfolding section_of
  part_length k = stretch_length s (rows_before c k) (rows_in c k) (within k)

  pub part_count : (k : ℕ) → length (section_of s c k) / 16 ≡ rows_in c k
  part_count k = omega (arith, part_length k)

  part_row : (k i : ℕ) → i < rows_in c k → words_at (section_of s c k) i ≡ words_at s (rows_before c k + i)
  unfolding section_of
  part_row k i h = stretch_row s (rows_before c k) (rows_in c k) (within k) i h

  -- an agent's kind is in the agents' section
  part_kind : (a : ℕ) → kind_in (section_of s c 1) a ≡ kind_at s c a
  unfolding rows_in rows_before
  part_kind a = go (dec_lt a c.agents)
    where
      go : Dec (a < c.agents) → kind_in (section_of s c 1) a ≡ kind_at s c a
      go (yes h) =
          let z : 0 + a ≡ a = omega arith in
          ap (λ w. (agent_of w).kind) (part_row 1 a h) ∙ ap (λ j. (agent_of (words_at s j)).kind) z ∙ sym (kind_of_lem s c a h)
      go (no h) =
          let l : length (section_of s c 1) / 16 ≤ a = omega (arith, part_count 1) in
          ap (λ w. (agent_of w).kind) (no_row (section_of s c 1) a l) ∙ sym (no_kind s c a (omega arith))

  part_kinds : kind_in (section_of s c 1) ≡ kind_at s c
  part_kinds = fun_ext part_kind

  -- what a row is told by the sections is what it is told by the sheet
  row_told_lem : (k i : ℕ) → i < rows_in c k → told_in (section_of s c 1) (section_of s c k) k i ≡ row_verdict s c k i
  unfolding row_verdict
  row_told_lem k i h = rw (part_row k i h, part_kinds)

  pub section_told : (k : ℕ)
      → first_bad (told_in (section_of s c 1) (section_of s c k) k) 0 (length (section_of s c k) / 16) ≡ section_verdict s c k
  unfolding section_verdict
  section_told k = rw (part_count k) (first_same _ _ (rows_in c k) 0 (λ i h. row_told_lem k i (omega arith)))

-- ---- of an accepted sheet
module _ (s : List ℕ) (c : Counts) (e : read_of s ≡ Ok c) where
  -- a section has all the bytes of its rows
  pub section_length : (k : ℕ) → length (section_of s c k) ≡ 16 * rows_in c k
  section_length = part_length s c (accepted_length s c e)

  -- the rows of each section are the sheet's, from where it starts
  section_row : (k i : ℕ) → i < rows_in c k → words_at (section_of s c k) i ≡ words_at s (rows_before c k + i)
  section_row = part_row s c (accepted_length s c e)

  pub agent_row : (i : ℕ) → i < c.agents → words_at (section_of s c 1) i ≡ words_at s i
  unfolding rows_in rows_before
  agent_row i h = let z : 0 + i ≡ i = omega arith in section_row 1 i h ∙ ap (words_at s) z

  pub boundary_row : (i : ℕ) → i < c.boundaries → words_at (section_of s c 2) i ≡ words_at s (boundary_start c + i)
  unfolding rows_in rows_before
  boundary_row = section_row 2

  pub plant_row : (i : ℕ) → i < c.plants → words_at (section_of s c 3) i ≡ words_at s (plant_start c + i)
  unfolding rows_in rows_before
  plant_row = section_row 3

  pub contract_row : (i : ℕ) → i < c.contracts → words_at (section_of s c 4) i ≡ words_at s (contract_start c + i)
  unfolding rows_in rows_before
  contract_row = section_row 4

  -- a row that is there is handed back
  pub row_there : (k i : ℕ)
      → is_section k ≡ true
      → i < rows_in c k
      → row_in (read_of s) s k i ≡ Ok (fields_at s c k i)
  unfolding row_of asked_row
  row_there k i h l = rw (e, h, lt-ltb _ _ l)

-- what reading's steps follow from
pub ruleset reading_steps = (has_trailer, read_short, read_crooked, read_rows, layout_few, layout_long)
