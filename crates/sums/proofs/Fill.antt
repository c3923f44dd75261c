-- A list that is filled from the front: the law of one store, and that one statement tells the whole list. Assumes nothing.
use Prim.Native.Nat.{ℕ, ◌+◌, ◌≤◌, ◌<◌}
use native.Mathlib.Omega.{arith}
use native.Mathlib.Decide.{dec_lt}
use mathlib.Core.List.{List}
use mathlib.Core.Path.{◌≡◌, refl, ◌∙◌, sym}
use lib.ListN.{length, set, get_or, take, length-set}
use lib.Seq.{ext_get_or, get_or-set_same, get_or-set_other, get_or-take, length-take-le}
use Rattle.sums.specs.Lists.{Filled, list_to}
use Rattle.sums.proofs.Lists.{list_to_is}

module _ {A : Type 0} (d : A) where
  pub filled_none : (l : List A) (f : ℕ → A) → Filled d l l 0 f
  filled_none l f = record { done = λ k h. absurd (omega arith); kept = λ k h. refl; long = refl }

  -- one store more
  pub filled_more : (l₀ l : List A) (n : ℕ) (v : A) (f : ℕ → A)
      → n < length l
      → v ≡ f n
      → Filled d l₀ l n f
      → Filled d l₀ (set l n v) (n + 1) f
  filled_more l₀ l n v f h e r =
      record {
        done = λ k m. go k m (dec_lt k n);
        kept = λ k m. get_or-set_other l n k v d (omega arith) ∙ r.kept k (omega arith);
        long = length-set l n v ∙ r.long;
      }
    where
      go : (k : ℕ) → k < n + 1 → Dec (k < n) → get_or (set l n v) k d ≡ f k
      go k m (yes q) = get_or-set_other l n k v d (omega arith) ∙ r.done k q
      go k m (no q) = let i : k ≡ n = omega arith in rw i (get_or-set_same l n v d h ∙ e)

  -- two lists that meet one such statement are one list
  pub filled_unique : (l₀ l m : List A) (n : ℕ) (f : ℕ → A) → Filled d l₀ l n f → Filled d l₀ m n f → l ≡ m
  filled_unique l₀ l m n f r s = ext_get_or d l m (r.long ∙ sym s.long) (λ k h. go k (dec_lt k n))
    where
      go : (k : ℕ) → Dec (k < n) → get_or l k d ≡ get_or m k d
      go k (yes q) = r.done k q ∙ sym (s.done k q)
      go k (no q) = r.kept k (omega arith) ∙ sym (s.kept k (omega arith))

  -- with no cell filled the list is as it was
  pub filled_same : (l₀ l : List A) (f : ℕ → A) → Filled d l₀ l 0 f → l ≡ l₀
  filled_same l₀ l f r = filled_unique l₀ l l₀ 0 f r (filled_none l₀ f)

  -- another name of the count
  pub filled_count : (l₀ l : List A) (m n : ℕ) (f : ℕ → A) → m ≡ n → Filled d l₀ l m f → Filled d l₀ l n f
  filled_count l₀ l m n f e r = rw e at r

  -- another name of the function
  pub filled_by : (l₀ l : List A) (n : ℕ) (f g : ℕ → A) → ((k : ℕ) → k < n → f k ≡ g k) → Filled d l₀ l n f → Filled d l₀ l n g
  filled_by l₀ l n f g h r = record { done = λ k m. r.done k m ∙ h k m; kept = r.kept; long = r.long }

  -- filled once, and filled again over the same cells
  pub filled_then : (l₀ l m : List A) (n : ℕ) (f g : ℕ → A) → Filled d l₀ l n f → Filled d l m n g → Filled d l₀ m n g
  filled_then l₀ l m n f g r s =
      record { done = s.done; kept = λ k h. s.kept k h ∙ r.kept k h; long = s.long ∙ r.long }

-- the front of a filled list: cell by cell, its length, and that it is the list of the function
module _ {A : Type 0} {d : A} (before after : List A) (n : ℕ) (f : ℕ → A) (r : Filled d before after n f) where
  pub front_at : (i : ℕ) → i < n → get_or (take n after) i d ≡ f i
  front_at i l = get_or-take n after i d l ∙ r.done i l

  pub front_fits : n ≤ length before → n ≤ length after
  front_fits l = omega (arith, r.long)

  pub front_long : n ≤ length before → length (take n after) ≡ n
  front_long l = length-take-le n after (front_fits l)

module _ {A : Type 0} (d : A) where
  pub filled_front : (l₀ l : List A) (n : ℕ) (f : ℕ → A) → n ≤ length l₀ → Filled d l₀ l n f → take n l ≡ list_to f n
  filled_front l₀ l n f h r = list_to_is d f n (take n l) (front_long l₀ l n f r h) (front_at l₀ l n f r)
