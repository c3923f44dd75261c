-- Where no line is wrong, a section's numbers are as many as its rows want, and its rows are no more than there is room for.
-- Assumes nothing.
use Rattle.std.specs.Prelude.{Some, None, is_some}
use Prim.Native.Nat.{ℕ, ◌+◌, ◌*◌, ◌≤◌}
use mathlib.Core.Path.{◌≡◌, refl, ap, sym, ◌∙◌}
use mathlib.Core.Bool.{Bool, true, false, cond, true≢false}
use mathlib.Core.List.{List, [], ◌∷◌}
use native.Mathlib.Omega.{arith}
use native.Mathlib.Nat.{mul-add, mul-zero, one-mul}
use lib.Dec.{eqb, leb}
use lib.ListN.{length, take, length-append}
use borrow.Author.Tests.{leb-true, le-leb}
use Rattle.sums.specs.Sums.{pick}
use Rattle.sums.proofs.Tests.{clash, all_true}
use Rattle.sheet.specs.declared.Counts.{Counts}
use Rattle.text.specs.Lines.{lines, over, read_line}
use Rattle.text.specs.declared.Fault.{Fault}
use Rattle.text.specs.declared.Line.{Line}
use Rattle.text.proofs.Faults.{later_right}
use Rattle.typing.specs.Rows.{wants, sheet_fault, counted_in, within_rooms, scan_row, scan_line, unscanned, scanned, gather_line, listed}
use Rattle.typing.specs.declared.Scan.{Scan}
use Rattle.typing.proofs.Gathering.{row_long}

rows_fine : (t : Bool) → is_some (cond t None (Some Fault.Rows)) ≡ false → t ≡ true
rows_fine true e = refl
rows_fine false e = absurd (true≢false e)

-- a text that is read with a fault behind it keeps the fault
module _ (m : Counts) where
  frozen : (j : Scan) (ls : List (List ℕ)) → is_some j.fault ≡ true → over (scan_line m) j ls ≡ j
  unfolding over scan_line
  frozen j [] h = refl
  frozen j (x ∷ xs) h = rw h (frozen j xs h)

  goes : (j : Scan) (x : List ℕ) → is_some j.fault ≡ false → scan_line m j x ≡ scan_row m j (read_line x)
  unfolding scan_line
  goes j x h = rw h

  -- so no line on the way was wrong
  was_fine : (j : Scan) (ls : List (List ℕ)) → is_some (over (scan_line m) j ls).fault ≡ false → is_some j.fault ≡ false
  was_fine j ls e = go (is_some j.fault) refl
    where
      go : (t : Bool) → is_some j.fault ≡ t → is_some j.fault ≡ false
      go true p = absurd (clash (is_some j.fault) p (ap (λ (k : Scan). is_some k.fault) (sym (frozen j ls p)) ∙ e))
      go false p = p

  row_within : (j : Scan) (l : Line) → is_some (scan_row m j l).fault ≡ false → within_rooms (scan_row m j l).counts m ≡ true
  unfolding scan_row
  row_within j l q =
      rows_fine (within_rooms (counted_in j.counts l.word) m)
      (later_right (sheet_fault l) (cond (within_rooms (counted_in j.counts l.word) m) None (Some Fault.Rows)) q)

  over_within : (j : Scan) (ls : List (List ℕ)) → within_rooms j.counts m ≡ true → is_some (over (scan_line m) j ls).fault ≡ false
      → within_rooms (over (scan_line m) j ls).counts m ≡ true
  unfolding over
  over_within j [] h e = h
  over_within j (x ∷ xs) h e =
      let f : is_some j.fault ≡ false = was_fine j (x ∷ xs) e in
      let g : is_some (scan_line m j x).fault ≡ false = was_fine (scan_line m j x) xs e in
      let i = goes j x f in
      let w : within_rooms (scan_line m j x).counts m ≡ true =
      ap (λ (k : Scan). within_rooms k.counts m) i
      ∙ row_within j (read_line x) (ap (λ (k : Scan). is_some k.fault) (sym i) ∙ g) in
      over_within (scan_line m j x) xs w e

  -- a section: its number, its count, and what a row more adds
  module _ (k : ℕ) (count : Counts → ℕ) (more : (c : Counts) (w : ℕ) → count (counted_in c w) ≡ count c + pick (eqb w k) 1) where
    gather_counts : (ns x : List ℕ) → length (gather_line k ns x) ≡ length ns + wants k * pick (eqb (read_line x).word k) 1
    unfolding gather_line pick
    gather_counts ns x =
        length-append ns (cond (eqb (read_line x).word k) (take (wants k) (read_line x).numbers) []) ∙ go (eqb (read_line x).word k)
      where
        go : (t : Bool) → length ns + length (cond t (take (wants k) (read_line x).numbers) []) ≡ length ns + wants k * pick t 1
        go true = let r = row_long k x in omega arith
        go false = omega arith

    row_counts : (j : Scan) (ns x : List ℕ) → length ns ≡ wants k * count j.counts
        → length (gather_line k ns x) ≡ wants k * count (scan_row m j (read_line x)).counts
    unfolding scan_row
    row_counts j ns x e =
        let p = pick (eqb (read_line x).word k) 1 in
        gather_counts ns x
        ∙ ap (λ (n : ℕ). n + wants k * p) e
        ∙ sym (mul-add (wants k) (count j.counts) p)
        ∙ ap (λ (n : ℕ). wants k * n) (sym (more j.counts (read_line x).word))

    over_counts : (j : Scan) (ns : List ℕ) (ls : List (List ℕ)) → length ns ≡ wants k * count j.counts
        → is_some (over (scan_line m) j ls).fault ≡ false
        → length (over (gather_line k) ns ls) ≡ wants k * count (over (scan_line m) j ls).counts
    unfolding over
    over_counts j ns [] e f = e
    over_counts j ns (x ∷ xs) e f =
        let i = goes j x (was_fine j (x ∷ xs) f) in
        over_counts (scan_line m j x) (gather_line k ns x) xs
        (row_counts j ns x e ∙ ap (λ (l : Scan). wants k * count l.counts) (sym i)) f

    pub long_listed : (text : List ℕ) → count unscanned.counts ≡ 0 → is_some (scanned m text).fault ≡ false
        → length (listed k text) ≡ wants k * count (scanned m text).counts
    unfolding scanned listed
    long_listed text z f = over_counts unscanned [] (lines text) (sym (ap (λ (n : ℕ). wants k * n) z ∙ mul-zero (wants k))) f

-- what is known of a text in which no line is wrong: each section's numbers are whole rows, and there is room for them
pub record Fits (m : Counts) (text : List ℕ) : Type 0 where
  pub agents : length (listed 1 text) ≡ (scanned m text).counts.agents
  pub boundaries : length (listed 2 text) ≡ 4 * (scanned m text).counts.boundaries
  pub plants : length (listed 3 text) ≡ 5 * (scanned m text).counts.plants
  pub contracts : length (listed 4 text) ≡ 5 * (scanned m text).counts.contracts
  pub few_agents : (scanned m text).counts.agents ≤ m.agents
  pub few_boundaries : (scanned m text).counts.boundaries ≤ m.boundaries
  pub few_plants : (scanned m text).counts.plants ≤ m.plants
  pub few_contracts : (scanned m text).counts.contracts ≤ m.contracts

scanned_within : (m : Counts) (text : List ℕ) → is_some (scanned m text).fault ≡ false → within_rooms (scanned m text).counts m ≡ true
unfolding scanned
scanned_within m text f = over_within m unscanned (lines text) none f
  where
    none : within_rooms unscanned.counts m ≡ true
    none =
        rw (
          le-leb 0 m.agents (omega arith),
          le-leb 0 m.boundaries (omega arith),
          le-leb 0 m.plants (omega arith),
          le-leb 0 m.contracts (omega arith),
        )

pub fits : (m : Counts) (text : List ℕ) → is_some (scanned m text).fault ≡ false → Fits m text
unfolding wants counted_in
fits m text f =
    let c = (scanned m text).counts in
    let w =
    all_true (leb c.agents m.agents)
    (leb c.boundaries m.boundaries ∷ leb c.plants m.plants ∷ leb c.contracts m.contracts ∷ [])
    (scanned_within m text f) in
    let a = long_listed m 1 (λ c. c.agents) (λ c w. refl) text refl f in
    record {
      agents = a ∙ one-mul c.agents;
      boundaries = long_listed m 2 (λ c. c.boundaries) (λ c w. refl) text refl f;
      plants = long_listed m 3 (λ c. c.plants) (λ c w. refl) text refl f;
      contracts = long_listed m 4 (λ c. c.contracts) (λ c w. refl) text refl f;
      few_agents = leb-true c.agents m.agents w.0;
      few_boundaries = leb-true c.boundaries m.boundaries w.1.0;
      few_plants = leb-true c.plants m.plants w.1.1.0;
      few_contracts = leb-true c.contracts m.contracts w.1.1.1.0;
    }
