-- Laws of text that is built from its end. Assumes nothing.
use Prim.Native.Nat.{ℕ, zero, suc, ◌+◌, ◌-◌, ◌*◌, ◌/◌, ◌%◌, ◌^◌, ◌<◌, ◌≤◌}
use mathlib.Core.Path.{◌≡◌, refl, ap, ◌∙◌}
use mathlib.Core.List.{List, [], ◌∷◌, ◌++◌, map, reverse}
use Rattle.std.proofs.lemmas.List.{map-append, reverse-append}
use native.Mathlib.Omega.{arith}
use native.Mathlib.Nat.{pow-suc}
use native.Mathlib.Numerals.{add-one}
use borrow.Author.Tests.{lt-ltb, le-ltb}
use lib.ListN.{length, drop, length-drop}
use lib.Seq.{drop-cons}
use Rattle.sums.specs.Lists.{at}
use Rattle.printing.specs.Text.{spell, lines_to}
use Rattle.printing.specs.Put.{Put}

-- a byte put in front takes one
pub one_byte : (before after : List ℕ) (b i r : ℕ) → 1 ≤ i → i ≤ length before → length after ≡ length before
    → Put (b ∷ drop i before) after i 1 r → r + 1 ≡ i
one_byte before after b i r some within long put =
    omega (arith, ap length put.text_is, length-drop r after, length-drop i before, put.low, put.high)

pub spell_more : (k n : ℕ) (rest : List ℕ)
    → 10 ≤ n
    → 0 < k
    → spell k n rest ≡ spell (k - 1) (n / 10) ((48 + n % 10) ∷ rest)
unfolding spell
spell_more zero n rest h p = absurd (omega arith)
spell_more (suc k) n rest h p = let e : suc k - 1 ≡ k = omega arith in rw (le-ltb n 10 h, e)

pub spell_last : (k n : ℕ) (rest : List ℕ) → n < 10 → spell k n rest ≡ (48 + n % 10) ∷ rest
unfolding spell
spell_last zero n rest h = refl
spell_last (suc k) n rest h = rw (lt-ltb n 10 h)

pub some_left : (k n : ℕ) → 10 ≤ n → n < 10 ^ (k + 1) → 0 < k
some_left zero n h l = omega arith
some_left (suc k) n h l = omega arith

pub fewer : (k n : ℕ) → 0 < k → n < 10 ^ (k + 1) → n / 10 < 10 ^ (k - 1 + 1)
fewer zero n p l = absurd (omega arith)
fewer (suc k) n p l =
    let e : suc k - 1 + 1 ≡ suc k = omega arith in
    let f : n < 10 ^ suc k * 10 = rw (add-one, pow-suc) at l in
    rw e (omega arith)

-- what is left, with the byte before it
pub drop_more : (v : List ℕ) (k : ℕ) → 0 < k → k ≤ length v → drop (k - 1) v ≡ at v (k - 1) ∷ drop k v
drop_more v k p h =
    let e : suc (k - 1) ≡ k = omega arith in
    drop-cons v (k - 1) 0 (omega arith) ∙ ap (λ (j : ℕ). at v (k - 1) ∷ drop j v) e

-- the last that was taken stands before those taken from behind it
pub one_before : {A : Type 0} (f : A → ℕ) (xs : List A) (x : A) → reverse (map f (xs ++ x ∷ [])) ≡ f x ∷ reverse (map f xs)
one_before f xs x = simp (map-append, reverse-append)

-- the last line of what is left goes in front of what stands
pub lines_more : (g : ℕ → List ℕ → List ℕ) (k : ℕ) (rest : List ℕ)
    → 0 < k
    → lines_to g k rest ≡ lines_to g (k - 1) (g (k - 1) rest)
unfolding lines_to
lines_more g zero rest p = absurd (omega arith)
lines_more g (suc k) rest p = let e : suc k - 1 ≡ k = omega arith in rw e

pub lines_none : (g : ℕ → List ℕ → List ℕ) (k : ℕ) (rest : List ℕ) → k ≤ 0 → lines_to g k rest ≡ rest
unfolding lines_to
lines_none g zero rest h = refl
lines_none g (suc k) rest h = absurd (omega arith)

-- lines that are alike below n
pub lines_same : (g h : ℕ → List ℕ → List ℕ) (n : ℕ) (rest : List ℕ) → ((i : ℕ) → i < n → (r : List ℕ) → g i r ≡ h i r)
    → lines_to g n rest ≡ lines_to h n rest
unfolding lines_to
lines_same g h zero rest e = refl
lines_same g h (suc n) rest e =
    lines_same g h n (g n rest) (λ i l. e i (omega arith)) ∙ ap (lines_to h n) (e n (omega arith) rest)
