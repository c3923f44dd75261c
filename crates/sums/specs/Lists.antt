-- Lists by their index, and lists that are filled from the front. Assumes nothing.
use Rattle.std.specs.Prelude.{ℕ, zero, suc, ◌≤◌, ◌<◌, List, [], ◌∷◌, ◌++◌, ◌≡◌, length, get_or}
use Rattle.sums.specs.Sums.{sum}

-- the i-th number of a list, 0 past its end
abbrev pub at : List ℕ → ℕ → ℕ
at l i = get_or l i 0

-- the sum of a list
unfoldable pub total : List ℕ → ℕ
total l = sum (length l) (at l)

-- f 0, f 1, .., f (n - 1)
unfoldable pub list_to : {A : Type 0} → (ℕ → A) → ℕ → List A
list_to f zero = []
list_to f (suc n) = list_to f n ++ (f n ∷ [])

-- the first n cells of `after` are f 0, .. f (n - 1), and the rest are those of `before`; d stands past a list's end
pub record Filled {A : Type 0} (d : A) (before after : List A) (n : ℕ) (f : ℕ → A) : Type 0 where
  pub done : (k : ℕ) → k < n → get_or after k d ≡ f k
  pub kept : (k : ℕ) → n ≤ k → get_or after k d ≡ get_or before k d
  pub long : length after ≡ length before
