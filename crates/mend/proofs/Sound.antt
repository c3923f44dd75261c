-- The mended sheet, whole: its rows are the mended rows, so its counts stay, its layout is good, its unused bytes are 0, and mending it
-- again changes nothing; nor does mending a sheet that reading accepts. Assumes nothing.
use Rattle.std.specs.Prelude.{Ok}
use Prim.Native.Nat.{ℕ, ◌+◌, ◌-◌, ◌*◌, ◌/◌, ◌<◌}
use native.Mathlib.Omega.{arith}
use native.Mathlib.Decide.{dec_lt}
use mathlib.Core.Bool.{true, not}
use mathlib.Core.List.{List, [], ◌∷◌}
use mathlib.Core.Path.{◌≡◌, refl, ap, sym, subst, ◌∙◌}
use lib.Dec.{eqb}
use lib.ListN.{length, get_or-eq_default}
use borrow.Author.Tests.{eq-eqb, eqb-true}
use Rattle.sums.specs.Lists.{at, list_to}
use Rattle.sums.proofs.Lists.{length_list_to, get_d_list_to}
use Rattle.sums.proofs.Sums.{sum_zero}
use Rattle.sums.proofs.Picks.{pick_false}
use Rattle.sums.proofs.Tests.{all_true}
use Rattle.refusals.proofs.Fine.{fine_parts, fine_test}
use Rattle.octets.specs.Bytes.{words_at, byte_of, bytes_of}
use Rattle.rows.specs.Rows.{agent_blank, boundary_blank}
use Rattle.octets.specs.declared.Words.{Words}
use Rattle.rows.proofs.Good.{agent_blank_lem, boundary_blank_lem}
use Rattle.octets.proofs.Trip.{Bytes, row_narrow, rows_back, bytes_back, bytes_of_bytes}
use Rattle.sheet.specs.Reading.{boundary_start, plant_start, contract_start, trailer_start, sheet_length, length_good}
use Rattle.sheet.specs.Reading.{counts_of, distances_good, layout_good, checks, read_verdict, read_of}
use Rattle.sheet.specs.Counting.{count_verdict}
use Rattle.sheet.specs.declared.Counts.{Counts}
use Rattle.sheet.proofs.Accepted.{good_few, few_good, Whole, accepted_whole, accepted_fine}
use Rattle.sheet.proofs.Counted.{Counted}
use Rattle.mend.specs.Mend.{distance, agents_and_boundaries, plants_and_contracts}
use Rattle.mend.specs.Mend.{row_mended, mended_row, mended_at, count_to, changed, changes}
use Rattle.mend.proofs.Range.{Range, agent, boundary, kept, head, tail, range, row_agent, row_boundary}
use Rattle.mend.proofs.Range.{row_kept, row_head, row_tail, row_twice, mended_narrow, row_same}
use Rattle.mend.proofs.Verdicts.{counted_mendable}

unfoldable pub mended_sheet : List ℕ → List ℕ
mended_sheet s = list_to (mended_at s) (length s)

pub mended_length : (s : List ℕ) → length (mended_sheet s) ≡ length s
unfolding mended_sheet
mended_length s = length_list_to (mended_at s) (length s)

pub mended_byte : (s : List ℕ) (k : ℕ) → k < length s → at (mended_sheet s) k ≡ mended_at s k
unfolding mended_sheet
mended_byte s k h = get_d_list_to 0 (mended_at s) (length s) k h

-- a trailer with the same counts
counts_same : (s m : List ℕ) (t : ℕ) → length s / 16 - 2 ≡ t → length m / 16 - 2 ≡ t
    → (words_at m t).second ≡ (words_at s t).second → (words_at m t).fourth ≡ (words_at s t).fourth
    → (words_at m (t + 1)).second ≡ (words_at s (t + 1)).second → (words_at m (t + 1)).fourth ≡ (words_at s (t + 1)).fourth
    → counts_of m ≡ counts_of s
unfolding counts_of
counts_same s m t e f a b c d = rw (e, f, a, b, c, d)

-- a trailer with the distances worked out
distances_hold : (m : List ℕ) (c : Counts) (u v : Words) → length m / 16 - 2 ≡ trailer_start c
    → words_at m (trailer_start c) ≡ agents_and_boundaries c u → words_at m (trailer_start c + 1) ≡ plants_and_contracts c v
    → distances_good m c ≡ true
unfolding distances_good
distances_hold m c u v e f g =
    let a : 16 * (trailer_start c - 0) ≡ 16 * trailer_start c = omega arith in
    rw (
      e,
      f,
      g,
      eq-eqb _ _ a,
      eq-eqb (16 * (trailer_start c - boundary_start c)) _ refl,
      eq-eqb (16 * (trailer_start c - plant_start c)) _ refl,
      eq-eqb (16 * (trailer_start c - contract_start c)) _ refl,
    )

module _ (s : List ℕ) (k : Counted s (counts_of s)) (by : Bytes s) where
  abbrev c : Counts
  c = counts_of s

  -- how many rows there are, the trailer's two among them
  abbrev n : ℕ
  n = trailer_start c + 2

  sheet_is : mended_sheet s ≡ bytes_of (mended_row s) n
  unfolding mended_sheet mended_at bytes_of
  sheet_is = let l = k.long in ap (list_to (byte_of (mended_row s))) (omega arith)

  pub mended_row_lem : (r : ℕ) → r < n → words_at (mended_sheet s) r ≡ row_mended c r (words_at s r)
  mended_row_lem r h =
      let small = (counted_mendable s c k).1 in
      rw sheet_is (rows_back (mended_row s) n r h (mended_narrow c r (words_at s r) small (row_narrow s by r)))

  -- where mending leaves every row, it leaves the sheet
  pub rows_same : ((r : ℕ) → r < n → mended_row s r ≡ words_at s r) → mended_sheet s ≡ s
  rows_same h = let l = k.long in sheet_is ∙ bytes_back s by (mended_row s) n (omega arith) h

  -- a byte of a row that mending leaves is left
  pub byte_same : (j : ℕ) → j < length s → mended_row s (j / 16) ≡ words_at s (j / 16) → mended_at s j ≡ at s j
  unfolding mended_at byte_of bytes_of
  byte_same j h e =
      let l = k.long in
      let all : bytes_of (words_at s) n ≡ s = bytes_back s by (words_at s) n (omega arith) (λ r q. refl) in
      rw e (sym (get_d_list_to 0 (byte_of (words_at s)) (16 * n) j (omega arith)) ∙ ap (λ (q : List ℕ). at q j) all)

  -- ---- refusals 1 and 2
  starts : length s / 16 - 2 ≡ trailer_start c
  starts = let l = k.long in omega arith

  mended_starts : length (mended_sheet s) / 16 - 2 ≡ trailer_start c
  mended_starts = let l = k.long in let m = mended_length s in omega arith

  first_row : words_at (mended_sheet s) (trailer_start c) ≡ agents_and_boundaries c (words_at s (trailer_start c))
  first_row = mended_row_lem (trailer_start c) (omega arith) ∙ row_head c (trailer_start c) _ refl

  second_row : words_at (mended_sheet s) (trailer_start c + 1) ≡ plants_and_contracts c (words_at s (trailer_start c + 1))
  second_row = mended_row_lem (trailer_start c + 1) (omega arith) ∙ row_tail c (trailer_start c + 1) _ (omega arith)

  pub mended_counts : counts_of (mended_sheet s) ≡ counts_of s
  mended_counts =
      counts_same s (mended_sheet s) (trailer_start c) starts mended_starts
      (ap (λ (w : Words). w.second) first_row) (ap (λ (w : Words). w.fourth) first_row)
      (ap (λ (w : Words). w.second) second_row) (ap (λ (w : Words). w.fourth) second_row)

  pub mended_layout : layout_good (mended_sheet s) ≡ true
  unfolding layout_good
  mended_layout =
      let l : length (mended_sheet s) ≡ sheet_length c = mended_length s ∙ k.long in
      rw (
        mended_counts,
        few_good c k.few,
        eq-eqb _ _ l,
        distances_hold (mended_sheet s) c (words_at s (trailer_start c)) (words_at s (trailer_start c + 1)) mended_starts
            first_row second_row,
      )

  -- ---- no unused byte is left
  pub agent_blanks_lem : (i : ℕ) → i < c.agents → agent_blank (words_at (mended_sheet s) i) ≡ true
  agent_blanks_lem i h = rw (mended_row_lem i (omega arith), row_agent c i (words_at s i) h)

  pub boundary_blanks_lem : (i : ℕ)
      → i < c.boundaries
      → boundary_blank (words_at (mended_sheet s) (boundary_start c + i)) ≡ true
  boundary_blanks_lem i h =
      rw (
        mended_row_lem (boundary_start c + i) (omega arith),
        row_boundary c (boundary_start c + i) (words_at s (boundary_start c + i)) (omega arith) (omega arith),
      )

  -- ---- mending again
  mended_bytes : Bytes (mended_sheet s)
  mended_bytes i = go (dec_lt i (16 * n))
    where
      go : Dec (i < 16 * n) → at (mended_sheet s) i < 256
      go (yes h) = rw sheet_is (bytes_of_bytes (mended_row s) n i h)
      go (no h) =
          let l = k.long in
          let e = get_or-eq_default (mended_sheet s) 0 {n = i} (omega (arith, mended_length s)) in
          omega arith

  pub mended_counted : Counted (mended_sheet s) (counts_of (mended_sheet s))
  mended_counted =
      rw mended_counts (record { counts = sym mended_counts; few = k.few; long = mended_length s ∙ k.long })

-- MENDED TWICE A SHEET IS AS MENDED ONCE
pub sheet_twice : (s : List ℕ) → Counted s (counts_of s) → Bytes s → mended_sheet (mended_sheet s) ≡ mended_sheet s
sheet_twice s k by =
    let m = mended_sheet s in
    let e = mended_counts s k by in
    rows_same m (mended_counted s k by) (mended_bytes s k by)
    (λ r h.
    let l : r < trailer_start (counts_of s) + 2 = rw e at h in
    let q = mended_row_lem s k by r l in
    rw (e, q) (row_twice (counts_of s) r (words_at s r)))

-- A SHEET THAT READING ACCEPTS IS LEFT
module _ (s : List ℕ) (w : Whole s (counts_of s)) where
  abbrev k : Counts
  k = counts_of s

  -- what the trailer's distances are
  record Distances (c : Counts) : Type 0 where
    agents : (words_at s (trailer_start c)).first ≡ distance c 0
    boundaries : (words_at s (trailer_start c)).third ≡ distance c (boundary_start c)
    plants : (words_at s (trailer_start c + 1)).first ≡ distance c (plant_start c)
    contracts : (words_at s (trailer_start c + 1)).third ≡ distance c (contract_start c)

  distances_are : Distances (counts_of s)
  unfolding distances_good
  distances_are =
      let c = counts_of s in
      let t = trailer_start c in
      let l = w.long in
      let e : length s / 16 - 2 ≡ t = omega arith in
      let u = words_at s t in
      let v = words_at s (t + 1) in
      let all =
      all_true (eqb u.first (16 * t))
      (eqb u.third (distance c (boundary_start c)) ∷ eqb v.first (distance c (plant_start c))
      ∷ eqb v.third (distance c (contract_start c)) ∷ []) (rw e at w.distances) in
      let first : u.first ≡ 16 * t = eqb-true _ _ all.0 in
      record {
        agents = omega arith;
        boundaries = eqb-true _ _ all.1.0;
        plants = eqb-true _ _ all.1.1.0;
        contracts = eqb-true _ _ all.1.1.1.0;
      }

  accepted_row : (r : ℕ) → r < trailer_start (counts_of s) + 2 → mended_row s r ≡ words_at s r
  accepted_row r h = go (range k r)
    where
      go : Range k r → mended_row s r ≡ words_at s r
      go (agent l) =
          let b = agent_blank_lem (words_at s r) (w.agent_blanks r l) in
          row_agent k r _ l ∙ row_same (words_at s r) _ _ _ _ refl b.second b.third b.fourth
      go (boundary a l) =
          let e : boundary_start k + (r - boundary_start k) ≡ r = omega arith in
          let b : boundary_blank (words_at s r)
          ≡ true = rw e at (w.boundary_blanks (r - boundary_start k) (omega arith)) in
          row_boundary k r _ a l ∙ row_same (words_at s r) _ _ _ _ refl (boundary_blank_lem (words_at s r) b) refl refl
      go (kept b l) = row_kept k r _ b l
      go (head e) =
          let d = distances_are in
          rw e (row_head k (trailer_start k) _ refl
          ∙ row_same (words_at s (trailer_start k)) _ _ _ _ d.agents refl d.boundaries refl)
      go (tail l) =
          let d = distances_are in
          let e : r ≡ trailer_start k + 1 = omega arith in
          rw e
          (row_tail k (trailer_start k + 1) _ (omega arith)
          ∙ row_same (words_at s (trailer_start k + 1)) _ _ _ _ d.plants refl d.contracts refl)

  whole_counted : Counted s (counts_of s)
  whole_counted = record { counts = refl; few = good_few _ w.few; long = w.long }

  whole_left : Bytes s → mended_sheet s ≡ s
  whole_left by = rows_same s whole_counted by accepted_row

pub accepted_left : (s : List ℕ) (c : Counts)
    → Bytes s
    → read_of s ≡ Ok c
    → Counted s (counts_of s) × (mended_sheet s ≡ s)
accepted_left s c by e =
    let w = accepted_whole s c e in
    let w' = subst (λ (k : Counts). Whole s k) (sym w.counts) w in
    (whole_counted s w', whole_left s w' by)

-- a sheet that reading accepts passes what mending asks
pub accepted_length : (s : List ℕ) (c : Counts) → read_of s ≡ Ok c → length_good (length s) ≡ true
unfolding read_verdict
accepted_length s c e = fine_test _ _ _ (fine_parts (checks s) (accepted_fine s c e)).0

pub counted_verdict : (s : List ℕ)
    → length_good (length s) ≡ true
    → Counted s (counts_of s)
    → count_verdict s ≡ Ok tt
unfolding count_verdict
counted_verdict s e k = rw (e, few_good _ k.few, eq-eqb _ _ k.long)

-- where mending leaves the sheet, no change is counted
pub left_unchanged : (s : List ℕ) → mended_sheet s ≡ s → changes s ≡ 0
unfolding count_to changed
left_unchanged s e =
    sum_zero (length s) _
    (λ k h.
    let q : at s k ≡ mended_at s k = sym (ap (λ (l : List ℕ). at l k) e) ∙ mended_byte s k h in
    pick_false (not (eqb (at s k) (mended_at s k))) 1 (rw (eq-eqb _ _ q)))
