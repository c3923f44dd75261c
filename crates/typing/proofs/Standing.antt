-- The line of a row is the line that it was read from: row i of section k, where there is one, stands on the line that `line_of_row` tells,
-- whose word is the section's and whose numbers are row i of the section's list. By induction over the lines: a line of another section
-- moves no row, one of the section is its first row or leaves one row less to pass. Assumes nothing.
use Prim.Native.Nat.{ℕ, zero, suc, ◌+◌, ◌-◌, ◌*◌, ◌<◌}
use mathlib.Core.Path.{◌≡◌, refl, ap, sym, ◌∙◌}
use mathlib.Core.Bool.{Bool, true, false}
use mathlib.Core.List.{List, [], ◌∷◌, ◌++◌, append_assoc, append-nil}
use native.Mathlib.Omega.{arith}
use native.Mathlib.Nat.{mul-suc, mul-zero}
use borrow.Author.Tests.{eqb-true, eq-eqb, ne_eqb}
use lib.Dec.{eqb}
use lib.ListN.{length, take, drop, get_or, length-append}
use lib.Seq.{take_at, drop-append-add}
use Rattle.sums.specs.Sums.{pick}
use Rattle.sums.proofs.Tests.{clash}
use Rattle.text.specs.Lines.{lines, over, read_line}
use Rattle.typing.specs.Rows.{wants, gather_line, listed}
use Rattle.typing.specs.Made.{line_from, line_of_row}
use Rattle.typing.proofs.Gathering.{gather_take, gather_skip, row_long}

module _ (k : ℕ) where
  -- the numbers of the section in these lines
  abbrev in_lines : List (List ℕ) → List ℕ
  in_lines xs = over (gather_line k) [] xs

  behind : (ns : List ℕ) (xs : List (List ℕ)) → over (gather_line k) ns xs ≡ ns ++ in_lines xs
  unfolding over gather_line
  behind ns [] = sym (append-nil ns)
  behind ns (x ∷ xs) =
      behind (gather_line k ns x) xs ∙ append_assoc ns (gather_line k [] x) (in_lines xs)
      ∙ ap (λ (l : List ℕ). ns ++ l) (sym (behind (gather_line k [] x) xs))

  -- `passed` lines stand before it
  record Stands (i line : ℕ) (xs : List (List ℕ)) : Type 0 where
    passed : ℕ
    told : line_from k i line xs ≡ line + passed + 1
    word : (read_line (get_or xs passed [])).word ≡ k
    numbers : take (wants k) (drop (wants k * i) (in_lines xs)) ≡ take (wants k) (read_line (get_or xs passed [])).numbers

  module _ (x : List ℕ) (xs : List (List ℕ)) (line : ℕ) where
    with_line_lem : in_lines (x ∷ xs) ≡ gather_line k [] x ++ in_lines xs
    unfolding over
    with_line_lem = behind (gather_line k [] x) xs

    -- a line of the section
    module _ (e : eqb (read_line x).word k ≡ true) where
      abbrev row : List ℕ
      row = take (wants k) (read_line x).numbers

      with_row : in_lines (x ∷ xs) ≡ row ++ in_lines xs
      with_row = with_line_lem ∙ ap (λ (l : List ℕ). l ++ in_lines xs) (gather_take k [] x (eqb-true (read_line x).word k e))

      first_row : Stands 0 line (x ∷ xs)
      unfolding line_from
      first_row =
          record {
            passed = 0;
            told = rw e (omega arith);
            word = eqb-true (read_line x).word k e;
            numbers =
                ap (λ (n : ℕ). take (wants k) (drop n (in_lines (x ∷ xs)))) (mul-zero (wants k)) ∙ ap (take (wants k)) with_row
                ∙ take_at row (in_lines xs) (wants k) (row_long k x);
          }

      later_row : (j : ℕ) → Stands j (line + 1) xs → Stands (suc j) line (x ∷ xs)
      unfolding line_from pick
      later_row j s =
          let m : wants k * suc j ≡ length row + wants k * j = omega (arith, mul-suc (wants k) j, row_long k x) in
          let z : suc j - 1 ≡ j = omega arith in
          let t : line_from k j (line + 1) xs ≡ line + suc s.passed + 1 = s.told ∙ omega arith in
          record {
            passed = suc s.passed;
            told = rw (e, ne_eqb (suc j) 0 (λ q. absurd (omega arith)), z) t;
            word = s.word;
            numbers =
                ap (λ (l : List ℕ). take (wants k) (drop (wants k * suc j) l)) with_row
                ∙ ap (λ (n : ℕ). take (wants k) (drop n (row ++ in_lines xs))) m
                ∙ ap (take (wants k)) (drop-append-add row (in_lines xs) (wants k * j))
                ∙ s.numbers;
          }

      fewer : (j : ℕ) → wants k * suc j < length (in_lines (x ∷ xs)) → wants k * j < length (in_lines xs)
      fewer j h =
          let a = ap (length {A = ℕ}) with_row ∙ length-append row (in_lines xs) in
          omega (arith, h, a, mul-suc (wants k) j, row_long k x)

    -- a line of none, or of another
    module _ (e : eqb (read_line x).word k ≡ false) where
      same_rows : in_lines (x ∷ xs) ≡ in_lines xs
      same_rows =
          with_line_lem
          ∙ ap (λ (l : List ℕ). l ++ in_lines xs)
          (gather_skip k [] x (λ q. clash (eqb (read_line x).word k) (eq-eqb (read_line x).word k q) e))

      same_row : (i : ℕ) → Stands i (line + 1) xs → Stands i line (x ∷ xs)
      unfolding line_from pick
      same_row i s =
          let z : i - 0 ≡ i = omega arith in
          let t : line_from k i (line + 1) xs ≡ line + suc s.passed + 1 = s.told ∙ omega arith in
          record {
            passed = suc s.passed;
            told = rw (e, z) t;
            word = s.word;
            numbers = ap (λ (l : List ℕ). take (wants k) (drop (wants k * i) l)) same_rows ∙ s.numbers;
          }

  stands : (xs : List (List ℕ)) (i line : ℕ) → wants k * i < length (in_lines xs) → Stands i line xs
  unfolding over
  stands [] i line h = absurd (omega (arith, h))
  stands (x ∷ xs) i line h = go (eqb (read_line x).word k) refl i h (λ j l. stands xs j (line + 1) l)
    where
      go : (t : Bool) → eqb (read_line x).word k ≡ t → (i : ℕ) → wants k * i < length (in_lines (x ∷ xs))
          → ((j : ℕ) → wants k * j < length (in_lines xs) → Stands j (line + 1) xs) → Stands i line (x ∷ xs)
      go true e zero l r = first_row x xs line e
      go true e (suc j) l r = later_row x xs line e j (r j (fewer x xs line e j l))
      go false e i l r =
          same_row x xs line e i (r i (let a = ap (length {A = ℕ}) (same_rows x xs line e) in omega (arith, l, a)))

-- line n of a text, from 1
abbrev pub line_at : List ℕ → ℕ → List ℕ
line_at text n = get_or (lines text) (n - 1) []

-- THE LINE TOLD. Row i of section k stands on it.
pub record StandsOn (k i : ℕ) (text : List ℕ) (n : ℕ) : Type 0 where
  pub from_one : 0 < n
  pub word : (read_line (line_at text n)).word ≡ k
  pub numbers : take (wants k) (drop (wants k * i) (listed k text)) ≡ take (wants k) (read_line (line_at text n)).numbers

pub row_stands : (k i : ℕ) (text : List ℕ) → wants k * i < length (listed k text) → StandsOn k i text (line_of_row k i text)
unfolding line_of_row listed
row_stands k i text h =
    let s = stands k (lines text) i 0 h in
    let e : line_from k i 0 (lines text) - 1 ≡ s.passed = omega (arith, s.told) in
    record {
      from_one = omega (arith, s.told);
      word = rw e s.word;
      numbers = rw e s.numbers;
    }
