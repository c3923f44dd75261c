-- WHAT MENDING GIVES. Each theorem is of what `mend` leaves in the lent lists, by its promise `Mends` alone; `take (length s) copy` is
-- the copy, the first cells of `report` are the report. `Bytes s` says that every element is a byte, as it is in code.
-- Assumes nothing.
use Rattle.std.specs.Prelude.{Result, Ok, Err}
use Prim.Native.Nat.{ℕ, ◌+◌, ◌*◌, ◌/◌, ◌≤◌, ◌<◌}
use native.Mathlib.Omega.{arith}
use mathlib.Core.Bool.{true}
use mathlib.Core.List.{List}
use mathlib.Core.Path.{◌≡◌, refl, ap, sym, ◌∙◌}
use lib.Dec.{leb}
use lib.ListN.{length, take}
use lib.Seq.{get_or-take}
use borrow.Author.Tests.{leb-true, le-leb}
use Rattle.sums.specs.Lists.{at, Filled}
use Rattle.sums.proofs.Fill.{filled_front, filled_unique, filled_same}
use Rattle.sums.proofs.Tests.{and_left}
use Rattle.refusals.specs.declared.Refusal.{Refusal}
use Rattle.refusals.specs.Refusals.{Verdict}
use Rattle.refusals.proofs.Fine.{fine_left, fine_right, fine_test}
use Rattle.octets.specs.Bytes.{words_at}
use Rattle.rows.specs.Rows.{agent_blank, boundary_blank}
use Rattle.octets.proofs.Trip.{Bytes}
use Rattle.sheet.specs.Reading.{boundary_start, plant_start, trailer_start, length_good, counts_of, layout_good, read_of}
use Rattle.sheet.specs.Counting.{count_verdict}
use Rattle.sheet.specs.declared.Counts.{Counts}
use Rattle.sheet.proofs.Counted.{Counted, fits_counted, verdict_fits}
use Rattle.mend.specs.Mend.{mended_at, changes, report_at}
use Rattle.mend.specs.Mend.{mend_verdict, mending, Mends}
use Rattle.mend.proofs.Range.{row_kept}
use Rattle.mend.proofs.Sound.{mended_sheet, mended_length, mended_byte, byte_same, mended_counts}
use Rattle.mend.proofs.Sound.{mended_layout, agent_blanks_lem, boundary_blanks_lem, mended_counted, sheet_twice}
use Rattle.mend.proofs.Sound.{accepted_left, accepted_length, counted_verdict, left_unchanged}

-- ---- one outcome, and a refusal's
pub mend_unique : (s copy report copy' copy'' report' report'' : List ℕ) (r r' : Result ℕ Refusal)
    → Mends s copy report r copy' report'
    → Mends s copy report r' copy'' report'' → (r ≡ r') × (copy' ≡ copy'') × (report' ≡ report'')
mend_unique s copy report copy' copy'' report' report'' r r' m m' = (
  m.answer ∙ sym m'.answer,
  filled_unique 0 copy copy' copy'' _ (mended_at s) m.copied m'.copied,
  filled_unique 0 report report' report'' _ (report_at s) m.reported m'.reported,
)

refused_says : (v : Verdict) (r : Refusal) (n : ℕ) → Err r ≡ mending v n → v ≡ Err r
refused_says (Ok tt) r n e = let z : ◌≡◌ {A = ℕ} 0 1 = cc in absurd (omega arith)
refused_says (Err q) r n e = cc

pub refused_untouched : (s copy report copy' report' : List ℕ) (r : Refusal)
    → Mends s copy report (Err r) copy' report'
    → (copy' ≡ copy) × (report' ≡ report)
refused_untouched s copy report copy' report' r m =
    let e = refused_says (mend_verdict s (length copy) (length report)) r (changes s) m.answer in (
      filled_same 0 copy copy' (mended_at s) (rw e at m.copied),
      filled_same 0 report report' (report_at s) (rw e at m.reported),
    )

-- ---- what a sheet that was mended is
done_says : (v : Verdict) (n k : ℕ) → Ok n ≡ mending v k → (v ≡ Ok tt) × (n ≡ k)
done_says (Ok tt) n k e = (refl, cc)
done_says (Err r) n k e = let z : ◌≡◌ {A = ℕ} 0 1 = cc in absurd (omega arith)

pub record Done (s copy report : List ℕ) (n : ℕ) (copy' report' : List ℕ) : Type 0 where
  pub good : length_good (length s) ≡ true
  pub counted : Counted s (counts_of s)
  pub count : n ≡ changes s
  pub copied : take (length s) copy' ≡ mended_sheet s
  pub cell : (q : ℕ) → q < 3 * n → at report' q ≡ report_at s q

pub done : (s copy report copy' report' : List ℕ) (n : ℕ)
    → Mends s copy report (Ok n) copy' report'
    → Done s copy report n copy' report'
unfolding mend_verdict mended_sheet
done s copy report copy' report' n m =
    let d = done_says (mend_verdict s (length copy) (length report)) n (changes s) m.answer in
    let e = d.0 in
    let fits = verdict_fits s (fine_left (count_verdict s) _ e) in
    let room = fine_test _ _ _ (fine_right (count_verdict s) _ e) in
    let a = leb (length s) (length copy) in
    let b = leb (3 * changes s) (length report) in
    let f : Filled 0 copy copy' (length s) (mended_at s) = rw e at m.copied in
    let g : Filled 0 report report' (3 * changes s) (report_at s) = rw e at m.reported in
    record {
      good = fits.0;
      counted = fits_counted s fits.1;
      count = d.1;
      copied = filled_front 0 copy copy' (length s) (mended_at s) (leb-true _ _ (and_left a b room)) f;
      cell = λ q h. let c = d.1 in g.done q (omega arith);
    }

-- byte k of the copy
pub copied_at : (s copy report copy' report' : List ℕ) (n : ℕ) → Mends s copy report (Ok n) copy' report'
    → (k : ℕ) → k < length s → at copy' k ≡ mended_at s k
copied_at s copy report copy' report' n m k h =
    let d = done s copy report copy' report' n m in
    sym (get_or-take (length s) copy' k 0 h) ∙ ap (λ (l : List ℕ). at l k) d.copied ∙ mended_byte s k h

-- ---- WHAT IS MENDED PASSES REFUSALS 1 AND 2, and no agent or boundary row of it is refused for an unused byte
pub record Passes (m : List ℕ) : Type 0 where
  pub refusal_1 : length_good (length m) ≡ true
  pub refusal_2 : layout_good m ≡ true
  pub agents : (i : ℕ) → i < (counts_of m).agents → agent_blank (words_at m i) ≡ true
  pub boundaries : (i : ℕ)
      → i < (counts_of m).boundaries
      → boundary_blank (words_at m (boundary_start (counts_of m) + i)) ≡ true

pub mended_passes : (s copy report copy' report' : List ℕ) (n : ℕ)
    → Bytes s
    → Mends s copy report (Ok n) copy' report'
    → Passes (take (length s) copy')
mended_passes s copy report copy' report' n by m =
    let d = done s copy report copy' report' n m in
    let k = d.counted in
    let e = mended_counts s k by in
    rw d.copied
    (record {
      refusal_1 = rw (mended_length s) d.good;
      refusal_2 = mended_layout s k by;
      agents = λ i h. agent_blanks_lem s k by i (rw e at h);
      boundaries = λ i h. rw e (boundary_blanks_lem s k by i (rw e at h));
    })

-- ---- NOTHING ELSE DIFFERS: the counts, and every byte of a plant and of a contract
pub others_kept : (s copy report copy' report' : List ℕ) (n : ℕ)
    → Bytes s
    → Mends s copy report (Ok n) copy' report'
    → (k : ℕ) → 16 * plant_start (counts_of s) ≤ k → k < 16 * trailer_start (counts_of s) → at copy' k ≡ at s k
others_kept s copy report copy' report' n by m k a l =
    let d = done s copy report copy' report' n m in
    let long = d.counted.long in
    let h : k < length s = omega arith in
    copied_at s copy report copy' report' n m k h
    ∙ byte_same s d.counted by k h (row_kept (counts_of s) (k / 16) _ (omega arith) (omega arith))

-- ---- a sheet that mending leaves: no change, an empty report
left : (s copy report copy' report' : List ℕ) (r : Result ℕ Refusal)
    → length_good (length s) ≡ true
    → Counted s (counts_of s)
    → mended_sheet s ≡ s
    → length s ≤ length copy → Mends s copy report r copy' report'
    → (r ≡ Ok 0) × (take (length s) copy' ≡ s) × (report' ≡ report)
unfolding mend_verdict
left s copy report copy' report' r good k e room m =
    let z = left_unchanged s e in
    let w : 3 * changes s ≤ length report = omega arith in
    let v : mend_verdict s (length copy) (length report) ≡ Ok tt
    = rw (counted_verdict s good k, le-leb _ _ room, le-leb _ _ w) in
    let a : r ≡ Ok 0 = m.answer ∙ rw (v, z) in
    let d = done s copy report copy' report' 0 (rw a at m) in
    (a, d.copied ∙ e, filled_same 0 report report' (report_at s) (rw (v, z) at m.reported))

-- MENDING TWICE EQUALS MENDING ONCE, and the second report is empty
pub mended_once : (s copy report copy' report' : List ℕ) (n : ℕ)
    → Bytes s
    → Mends s copy report (Ok n) copy' report'
    → (other list other' list' : List ℕ) (r : Result ℕ Refusal) → length s ≤ length other
    → Mends (take (length s) copy') other list r other' list'
    → (r ≡ Ok 0) × (take (length s) other' ≡ take (length s) copy') × (list' ≡ list)
mended_once s copy report copy' report' n by m other list other' list' r room m' =
    let d = done s copy report copy' report' n m in
    let k = d.counted in
    let l = mended_length s in
    let good : length_good (length (mended_sheet s)) ≡ true = rw l d.good in
    let q : Mends (mended_sheet s) other list r other' list' = rw d.copied at m' in
    let (a, b, c) = left (mended_sheet s) other list other' list' r good (mended_counted s k by) (sheet_twice s k by)
    (omega arith) q in
    (a, ap (λ (j : ℕ). take j other') (sym l) ∙ b ∙ sym d.copied, c)

-- A SHEET THAT READING ACCEPTS is copied as it is, with an empty report
pub accepted_copied : (s : List ℕ) (c : Counts) → Bytes s → read_of s ≡ Ok c
    → (copy report copy' report' : List ℕ) (r : Result ℕ Refusal) → length s ≤ length copy → Mends s copy report r copy' report'
    → (r ≡ Ok 0) × (take (length s) copy' ≡ s) × (report' ≡ report)
accepted_copied s c by e copy report copy' report' r room m =
    let a = accepted_left s c by e in
    left s copy report copy' report' r (accepted_length s c e) a.0 a.1 room m
