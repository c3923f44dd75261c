-- The marks of a written statement: its lines are right by themselves and mark the rows in their order, the price's first, so that none
-- is marked twice and in the end none is missing. Assumes nothing.
use Rattle.std.specs.Prelude.{None, is_some}
use Prim.Native.Nat.{ℕ, zero, suc, ◌+◌, ◌≤◌, ◌<◌}
use mathlib.Core.Path.{◌≡◌, refl, ap, sym, subst, ◌∙◌}
use mathlib.Core.Bool.{false, cond, not}
use mathlib.Core.List.{List, [], ◌∷◌}
use native.Mathlib.Omega.{arith}
use native.Mathlib.Nat.{le_refl}
use borrow.Author.Tests.{lt-ltb, le-leb}
use lib.Dec.{eqb}
use lib.ListN.{length, set}
use Rattle.sums.specs.Sums.{first}
use Rattle.sums.specs.Lists.{at, list_to, Filled}
use Rattle.sums.proofs.Lists.{length_list_to, get_d_list_to}
use Rattle.sums.proofs.Fill.{filled_none, filled_more}
use Rattle.sums.proofs.First.{first_none}
use Rattle.sheet.specs.declared.Counts.{Counts}
use Rattle.hour.specs.Answer.{Lent, money_in, schedule_in, amount_in}
use Rattle.text.specs.Lines.{agent_word, plant_word, contract_word, price_word, empty_line, word_of, line_fault}
use Rattle.text.specs.declared.Line.{Line}
use Rattle.text.proofs.Back.{line_right}
use Rattle.text.proofs.Money.{owed_right}
use Rattle.stating.specs.Rows.{asks, rows_for, rows_ahead, all_rows, row_number, row_place, Marked, row_fault, statement_fault}
use Rattle.stating.specs.Rows.{with_mark, mark_row, mark_line, unmarked, marked_in, last_fault}
use Rattle.telling.specs.Text.{agent_numbers, statement_text}
use Rattle.told.proofs.Walks.{Writable, walk, price_read, agent_read, plant_read, contract_read}
use Rattle.told.proofs.Over.{over_statement}

-- a line as it is read, where no earlier one is wrong
abbrev marking : Counts → Line → Marked → Marked
marking c l j = cond (is_some j.fault) j (mark_row c j l)

-- the first k rows had their lines
record Going (c : Counts) (j : Marked) (k : ℕ) : Type 0 where
  fine : j.fault ≡ None
  marks : Filled 0 (list_to (λ i. 0) (all_rows c)) j.marks k (λ i. 1)

-- a line that is right by itself, of row k
record Fits (c : Counts) (l : Line) (k : ℕ) : Type 0 where
  right : line_fault (not (eqb l.word 2)) (asks l.word) l ≡ None
  some : eqb l.word 0 ≡ false
  row : row_number l < rows_for c l.word
  place : row_place c l ≡ k

statement_right : (c : Counts) (marks : List ℕ) (l : Line) (k : ℕ) → Fits c l k → at marks k ≡ 0
    → statement_fault c marks l ≡ None
unfolding statement_fault row_fault
statement_right c marks l k t z =
    rw (t.right, t.some, lt-ltb (row_number l) (rows_for c l.word) t.row, t.place, z)

mark_one : (c : Counts) (j : Marked) (l : Line) (k : ℕ) → k < all_rows c → Fits c l k → Going c j k → Going c (marking c l j) (k + 1)
unfolding mark_row with_mark
mark_one c j l k h t g =
    let z : at j.marks k ≡ 0 = g.marks.kept k (le_refl k) ∙ get_d_list_to 0 (λ i. 0) (all_rows c) k h in
    let e = statement_right c j.marks l k t z in
    let n = length_list_to {A = ℕ} (λ i. 0) (all_rows c) in
    let long : k < length j.marks = omega (arith, g.marks.long, n, h) in
    let next : Marked = record { line = j.line + 1; fault = None; marks = set j.marks k 1 } in
    let is : marking c l j ≡ next = rw (g.fine, e, t.some, t.place) in
    subst (λ (x : Marked). Going c x (k + 1)) (sym is)
    (record { fine = refl; marks = filled_more 0 (list_to (λ i. 0) (all_rows c)) j.marks k 1 (λ i. 1) long refl g.marks })

mark_rows : (c : Counts) (reads : ℕ → Line) (j : Marked) (k n : ℕ) → k + n ≤ all_rows c
    → ((i : ℕ) → i < n → Fits c (reads i) (k + i)) → Going c j k → Going c (walk (λ i. marking c (reads i)) n j) (k + n)
unfolding walk
mark_rows c reads j k zero h t g = let e : k + 0 ≡ k = omega arith in rw e g
mark_rows c reads j k (suc n) h t g =
    let e : k + suc n ≡ k + n + 1 = omega arith in
    rw e
    (mark_one c (walk (λ i. marking c (reads i)) n j) (reads n) (k + n) (omega arith) (t n (omega arith))
    (mark_rows c reads j k n (omega arith) (λ i l. t i (omega arith)) g))

-- the empty line behind the last marks none
mark_end : (c : Counts) (j : Marked) (k : ℕ) → Going c j k → Going c (marking c empty_line j) k
unfolding mark_row with_mark statement_fault line_fault
mark_end c j k g =
    let next : Marked = record { line = j.line + 1; fault = None; marks = j.marks } in
    let is : marking c empty_line j ≡ next = rw g.fine in
    subst (λ (x : Marked). Going c x k) (sym is) (record { fine = refl; marks = g.marks })

module _ (c : Counts) (p : ℕ) (l : Lent) where
  price_fits : Fits c (price_read p) 0
  unfolding word_of asks rows_for rows_ahead row_number
  price_fits = record { right = line_right price_word (p ∷ []) 1 refl; some = refl; row = omega arith; place = refl }

  agent_fits : (a : ℕ) → a < c.agents → Fits c (agent_read l a) (1 + a)
  unfolding word_of asks rows_for rows_ahead row_number
  agent_fits a h =
      record { right = owed_right agent_word (agent_numbers l a) (money_in l a) refl; some = refl; row = h; place = refl }

  plant_fits : (i : ℕ) → i < c.plants → Fits c (plant_read l i) (1 + c.agents + i)
  unfolding word_of asks rows_for rows_ahead row_number
  plant_fits i h =
      record { right = line_right plant_word (i ∷ schedule_in l i ∷ []) 2 refl; some = refl; row = h; place = refl }

  contract_fits : (j : ℕ) → j < c.contracts → Fits c (contract_read l j) (1 + c.agents + c.plants + j)
  unfolding word_of asks rows_for rows_ahead row_number
  contract_fits j h =
      record { right = line_right contract_word (j ∷ amount_in l j ∷ []) 2 refl; some = refl; row = h; place = refl }

  -- all rows had their lines
  all_marked : Writable c p l → Going c (marked_in c (statement_text c p l)) (all_rows c)
  unfolding marked_in mark_line unmarked
  all_marked w =
      let start : Going c (unmarked c) 0 = record { fine = refl; marks = filled_none 0 (list_to (λ i. 0) (all_rows c)) (λ i. 1) } in
      let price = mark_one c (unmarked c) (price_read p) 0 (omega arith) price_fits start in
      let agents = mark_rows c (agent_read l) _ 1 c.agents (omega arith) agent_fits price in
      let plants = mark_rows c (plant_read l) _ (1 + c.agents) c.plants (omega arith) plant_fits agents in
      let contracts = mark_rows c (contract_read l) _ (1 + c.agents + c.plants) c.contracts (omega arith) contract_fits plants in
      subst (λ (x : Marked). Going c x (all_rows c)) (sym (over_statement (marking c) (mark_line c) (λ j b. refl) c p l w (unmarked c)))
      (mark_end c _ (all_rows c) contracts)

  -- NO LINE OF A WRITTEN STATEMENT IS WRONG, AND NO ROW IS MISSING
  pub no_fault : Writable c p l → last_fault (marked_in c (statement_text c p l)) ≡ None
  unfolding last_fault
  no_fault w =
      let g = all_marked w in
      let marks = (marked_in c (statement_text c p l)).marks in
      let long : length marks ≡ all_rows c = g.marks.long ∙ length_list_to {A = ℕ} (λ i. 0) (all_rows c) in
      let none : first (length marks) (λ i. eqb (at marks i) 0) ≡ length marks =
      first_none (length marks) (λ i. eqb (at marks i) 0) (λ k h. ap (λ (x : ℕ). eqb x 0) (g.marks.done k (omega (arith, long, h)))) in
      let whole : length marks ≤ first (length marks) (λ i. eqb (at marks i) 0) = omega (arith, none) in
      rw (g.fine, le-leb (length marks) (first (length marks) (λ i. eqb (at marks i) 0)) whole)
