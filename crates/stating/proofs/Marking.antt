-- Laws of the marks: a row that the sheet has, has a place among them; a line that is right is about such a row. Assumes nothing.
use Rattle.std.specs.Prelude.{Some, None, is_some}
use Prim.Native.Nat.{ℕ, suc, ◌+◌, ◌≤◌, ◌<◌}
use mathlib.Core.Path.{◌≡◌, refl, sym, ◌∙◌}
use mathlib.Core.Bool.{Bool, true, false, cond, not, ◌||◌, true≢false}
use mathlib.Core.List.{List, [], ◌∷◌}
use native.Mathlib.Omega.{arith}
use native.Mathlib.Decide.{dec_lt}
use borrow.Author.Tests.{ltb-true, leb-true, ne_eqb, lt-leb, le-leb}
use lib.Dec.{eqb, ltb, leb}
use lib.ListN.{length, take, replicate, length-replicate}
use lib.Seq.{get_or-take, length-take-le}
use Rattle.std.specs.List.{list_any}
use Rattle.sums.specs.Sums.{stop, first}
use Rattle.sums.specs.Lists.{at, list_to}
use Rattle.sums.proofs.Lists.{zeros_at, list_to_is}
use Rattle.sums.proofs.Tests.{all_true}
use Rattle.limits.specs.Limits.{most_agents, most_boundaries, most_plants, most_contracts}
use Rattle.sheet.specs.Reading.{counts_good}
use Rattle.sheet.specs.declared.Counts.{Counts}
use Rattle.text.specs.Lines.{read_line, line_fault}
use Rattle.text.specs.declared.Fault.{Fault}
use Rattle.text.specs.declared.Line.{Line}
use Rattle.text.proofs.Faults.{later_right}
use Rattle.stating.specs.Rows.{Marked, asks, rows_for, rows_ahead, all_rows, row_number, row_place, row_fault, statement_fault}
use Rattle.stating.specs.Rows.{mark_row, mark_line, complete}

-- ---- the place of a row
pub place_within : (c : Counts) (l : Line) → row_number l < rows_for c l.word → row_place c l < all_rows c
unfolding rows_for rows_ahead
place_within c l h = go (eqb l.word 1) (eqb l.word 3) (eqb l.word 4) (eqb l.word 5) (row_number l) h
  where
    go : (a p k x : Bool) (n : ℕ)
        → n < cond a c.agents (cond p c.plants (cond k c.contracts (cond x 1 0)))
        → cond a 1 (cond p (1 + c.agents) (cond k (1 + c.agents + c.plants) (cond x 0 0))) + n < all_rows c
    go true p k x n q = omega arith
    go false true k x n q = omega arith
    go false false true x n q = omega arith
    go false false false true n q = omega arith
    go false false false false n q = absurd (omega arith)

rows_right : (t u : Bool) → is_some (cond t (cond u None (Some Fault.Twice)) (Some Fault.Rows)) ≡ false → t ≡ true
rows_right true u e = refl
rows_right false u e = absurd (true≢false e)

pub right_row : (c : Counts) (marks : List ℕ) (l : Line) → is_some (statement_fault c marks l) ≡ false → (l.word ≡ 0 → ⊥)
    → row_number l < rows_for c l.word
unfolding statement_fault row_fault
right_row c marks l e w =
    let own = line_fault (not (eqb l.word 2)) (asks l.word) l in
    let r = later_right own (cond (eqb l.word 0) None (row_fault c marks l)) e in
    let q : is_some (row_fault c marks l) ≡ false = rw (ne_eqb l.word 0 w) at r in
    ltb-true (row_number l) (rows_for c l.word)
    (rows_right (ltb (row_number l) (rows_for c l.word)) (eqb (at marks (row_place c l)) 0) q)

-- ---- a line counts once at most
either : (P : Marked → Type 0) (t : Bool) (j k : Marked) → P j → P k → P (cond t j k)
either P true j k p q = p
either P false j k p q = q

pub line_once : (c : Counts) (j : Marked) (s : List ℕ) → (mark_line c j s).line ≤ j.line + 1
unfolding mark_line mark_row
line_once c j s = either (λ k. k.line ≤ j.line + 1) (is_some j.fault) j (mark_row c j (read_line s)) (omega arith) (omega arith)

-- ---- every row has its mark: none of the marks is 0
after_one : (n m : ℕ) → leb n m ≡ leb (suc n) (suc m)
after_one n m = go (dec_lt m n)
  where
    go : Dec (m < n) → leb n m ≡ leb (suc n) (suc m)
    go (yes l) = rw (lt-leb n m l, lt-leb (suc n) (suc m) (omega arith))
    go (no l) = rw (le-leb n m (omega arith), le-leb (suc n) (suc m) (omega arith))

pub none_zero : (marks : List ℕ) → not (list_any (λ y. eqb y 0) marks) ≡ complete marks
unfolding first stop
none_zero [] = refl
none_zero (x ∷ xs) = go (eqb x 0) (none_zero xs)
  where
    go : (t : Bool) → not (list_any (λ y. eqb y 0) xs) ≡ complete xs
        → not (t || list_any (λ y. eqb y 0) xs) ≡ leb (suc (length xs)) (stop t (first (length xs) (λ i. eqb (at xs i) 0)))
    go true e = sym (lt-leb (suc (length xs)) 0 (omega arith))
    go false e = e ∙ after_one (length xs) (first (length xs) (λ i. eqb (at xs i) 0))

-- ---- the counts of a sheet
pub record Limited (c : Counts) : Type 0 where
  pub agents : c.agents ≤ most_agents
  pub plants : c.plants ≤ most_plants
  pub contracts : c.contracts ≤ most_contracts

pub limited : (c : Counts) → counts_good c ≡ true → Limited c
limited c e =
    let w = all_true (leb c.agents most_agents)
    (leb c.boundaries most_boundaries ∷ leb c.plants most_plants ∷ leb c.contracts most_contracts ∷ []) e in
    record {
      agents = leb-true c.agents most_agents w.0;
      plants = leb-true c.plants most_plants w.1.1.0;
      contracts = leb-true c.contracts most_contracts w.1.1.1.0;
    }

pub rows_few : (c : Counts) → counts_good c ≡ true → all_rows c ≤ 385
rows_few c e = let l = limited c e in omega (arith, l.agents, l.plants, l.contracts)

-- ---- none has at first
pub zeros_front : (m n : ℕ) → n ≤ m → take {A = ℕ} n (replicate m 0) ≡ list_to (λ i. 0) n
zeros_front m n h =
    let r = length-replicate {A = ℕ} m 0 in
    list_to_is 0 (λ i. 0) n (take {A = ℕ} n (replicate m 0)) (length-take-le n (replicate m 0) (omega (arith, r)))
    (λ i l. get_or-take n (replicate m 0) i 0 l ∙ zeros_at m i)
