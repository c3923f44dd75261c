-- Laws of `list_to` and `total`. Assumes nothing.
use Prim.Native.Nat.{ℕ, zero, suc, ◌<◌}
use native.Mathlib.Omega.{arith}
use native.Mathlib.Decide.{dec_lt}
use mathlib.Core.List.{List, [], ◌∷◌, ◌++◌}
use mathlib.Core.Path.{◌≡◌, refl, ◌∙◌, sym}
use lib.ListN.{length, get_or, replicate, length-append, get_or-append}
use lib.Seq.{get_or_at, ext_get_or}
use Rattle.sums.specs.Sums.{sum}
use Rattle.sums.specs.Lists.{at, total, list_to}
use Rattle.sums.proofs.Sums.{sum_eq}

-- a fresh array of zeros holds 0 everywhere
pub zeros_at : (n k : ℕ) → at (replicate n 0) k ≡ 0
zeros_at zero k = refl
zeros_at (suc n) zero = refl
zeros_at (suc n) (suc k) = zeros_at n k

module _ {A : Type 0} where
  pub length_list_to : (f : ℕ → A) (n : ℕ) → length (list_to f n) ≡ n
  unfolding list_to
  length_list_to f zero = refl
  length_list_to f (suc n) = rw length-append (omega (arith, length_list_to f n))

  pub get_d_list_to : (d : A) (f : ℕ → A) (n i : ℕ) → i < n → get_or (list_to f n) i d ≡ f i
  unfolding list_to
  get_d_list_to d f zero i h = absurd (omega arith)
  get_d_list_to d f (suc n) i h = go (dec_lt i n) (λ m. get_d_list_to d f n i m)
    where
      go : Dec (i < n) → (i < n → get_or (list_to f n) i d ≡ f i) → get_or (list_to f n ++ (f n ∷ [])) i d ≡ f i
      go (yes l) r = get_or-append (list_to f n) (f n ∷ []) d i (omega (arith, length_list_to f n)) ∙ r l
      go (no l) r = let e : i ≡ n = omega arith in rw e (get_or_at (list_to f n) (f n) [] d n (length_list_to f n))

  -- a list is told by its length and its elements
  pub list_to_is : (d : A) (f : ℕ → A) (n : ℕ) (l : List A) → length l ≡ n → ((i : ℕ) → i < n → get_or l i d ≡ f i) → l ≡ list_to f n
  list_to_is d f n l e h =
      ext_get_or d l (list_to f n) (e ∙ sym (length_list_to f n))
      (λ i m. let q : i < n = omega arith in h i q ∙ sym (get_d_list_to d f n i q))

  pub list_to_eq : (f g : ℕ → A) (n : ℕ) → ((i : ℕ) → i < n → f i ≡ g i) → list_to f n ≡ list_to g n
  unfolding list_to
  list_to_eq f g zero h = refl
  list_to_eq f g (suc n) h = rw (list_to_eq f g n (λ i l. h i (omega arith)), h n (omega arith))

-- the sum of a list made of a function
pub total_list_to : (f : ℕ → ℕ) (n : ℕ) → total (list_to f n) ≡ sum n f
unfolding total
total_list_to f n = rw (length_list_to f n) (sum_eq n (at (list_to f n)) f (λ i l. get_d_list_to 0 f n i l))
