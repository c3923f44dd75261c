-- Laws of a row's line that is looked for line by line: what was passed and the search from here tell the whole. Assumes nothing.
use Prim.Native.Nat.{ℕ, suc, ◌+◌, ◌-◌, ◌≤◌, ◌<◌}
use mathlib.Core.Path.{◌≡◌, ap, sym, ◌∙◌}
use mathlib.Core.List.{List, ◌∷◌}
use native.Mathlib.Omega.{arith}
use borrow.Author.Tests.{eq-eqb, ne_eqb}
use lib.ListN.{length, drop, get_or, drop_of_length-le}
use lib.Seq.{drop-cons}
use Rattle.std.specs.List.{slice_split, enumerate_from}
use Rattle.std.proofs.lemmas.List.FromFn.{length-enumerate_from, get_or-enumerate_from}
use Rattle.sums.specs.Sums.{pick}
use Rattle.text.specs.Lines.{newline, lines, read_line}
use Rattle.text.proofs.Parts.{cut_parts}
use Rattle.typing.specs.Made.{line_from}

-- the line that a walk over numbered parts has come to
pub line_at : (s : List ℕ) (n i : ℕ) (x : List ℕ)
    → (n < length (enumerate_from 0 (slice_split newline s))) × ((i, x) ≡ get_or (enumerate_from 0 (slice_split newline s)) n (i, x))
    → (i ≡ n) × ((n < length (lines s)) × (x ≡ get_or (lines s) n x))
line_at s n i x h =
    let e = rw (cut_parts newline s) at h in
    let p : n < length (lines s) = omega (arith, length-enumerate_from 0 (lines s), e.0) in
    let q : (i, x) ≡ (0 + n, get_or (lines s) n x) = e.1 ∙ get_or-enumerate_from 0 (lines s) n (i, x) p in
    let j : i ≡ 0 + n = ap (λ (z : ℕ × List ℕ). z.0) q in
    (omega arith, (p, ap (λ (z : ℕ × List ℕ). z.1) q))

pub lines_end : (s : List ℕ) (n : ℕ) → n ≡ length (enumerate_from 0 (slice_split newline s)) → n ≡ length (lines s)
lines_end s n e = e ∙ length-enumerate_from 0 (slice_split newline s) ∙ ap (length {A = List ℕ}) (cut_parts newline s)

module _ (k left : ℕ) (xs : List (List ℕ)) (n : ℕ) where
  -- no line is left
  pub find_none : length xs ≤ n → line_from k left n (drop n xs) ≡ 0
  unfolding line_from
  find_none h = ap (line_from k left n) (drop_of_length-le xs h)

  module _ (x : List ℕ) (h : (n < length xs) × (x ≡ get_or xs n x)) where
    next_line : line_from k left n (drop n xs) ≡ line_from k left n (x ∷ drop (n + 1) xs)
    next_line =
        let i : suc n ≡ n + 1 = omega arith in
        ap (line_from k left n) (
        drop-cons xs n x h.0
        ∙ ap (λ (y : List ℕ). y ∷ drop (suc n) xs) (sym h.1)
        ∙ ap (λ (j : ℕ). x ∷ drop j xs) i
        )

    -- it is this line's row,
    pub find_here : (read_line x).word ≡ k → left ≡ 0 → line_from k left n (drop n xs) ≡ n + 1
    unfolding line_from
    find_here e z = next_line ∙ (rw (eq-eqb _ _ e, eq-eqb _ _ z))

    -- or this line is a row before it,
    pub find_later : (read_line x).word ≡ k → (left ≡ 0 → ⊥)
        → line_from k left n (drop n xs) ≡ line_from k (left - 1) (n + 1) (drop (n + 1) xs)
    unfolding line_from pick
    find_later e z = next_line ∙ (rw (eq-eqb _ _ e, ne_eqb _ _ z))

    -- or none of the section
    pub find_other : ((read_line x).word ≡ k → ⊥)
        → line_from k left n (drop n xs) ≡ line_from k left (n + 1) (drop (n + 1) xs)
    unfolding line_from pick
    find_other e = let i : left - 0 ≡ left = omega arith in next_line ∙ (rw (ne_eqb _ _ e, i))
