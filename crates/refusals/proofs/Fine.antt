-- What a verdict that is fine gives, and when nothing is refused. Assumes nothing.
use Rattle.std.specs.Prelude.{Ok, Err}
use Prim.Native.Nat.{ℕ, zero, suc, ◌+◌, ◌<◌}
use mathlib.Core.Path.{◌≡◌, refl}
use mathlib.Core.Bool.{Bool, true, false}
use mathlib.Core.List.{List, [], ◌∷◌}
use native.Mathlib.Omega.{arith}
use Rattle.refusals.specs.Refusals.{or_else, refused_unless, first_of, first_bad}
use Rattle.refusals.specs.declared.Refusal.{Refusal}
use Rattle.refusals.specs.Refusals.{Verdict}

-- a refusal is not fine
pub not_fine : {A : Type 0} (r : Refusal) → ◌≡◌ {A = Verdict} (Err r) (Ok tt) → A
not_fine r e = let z : ◌≡◌ {A = ℕ} 0 1 = cc in let no : ⊥ = omega arith in absurd no

pub else_fine : (v : Verdict) → or_else v (Ok tt) ≡ v
else_fine (Ok tt) = refl
else_fine (Err r) = refl

-- ---- of two, neither is refused
pub fine_left : (v w : Verdict) → or_else v w ≡ Ok tt → v ≡ Ok tt
fine_left (Ok tt) w e = refl
fine_left (Err r) w e = e

pub fine_right : (v w : Verdict) → or_else v w ≡ Ok tt → w ≡ Ok tt
fine_right (Ok tt) w e = e
fine_right (Err r) w e = not_fine r e

pub both_fine : (v w : Verdict) → or_else v w ≡ Ok tt → (v ≡ Ok tt) × (w ≡ Ok tt)
both_fine v w e = (fine_left v w e, fine_right v w e)

-- ---- of a list, none is refused
abbrev pub AllFine : List Verdict → Type 0
AllFine [] = Unit {0}
AllFine (v ∷ vs) = (v ≡ Ok tt) × AllFine vs

pub fine_parts : (vs : List Verdict) → first_of vs ≡ Ok tt → AllFine vs
fine_parts [] e = tt
fine_parts (v ∷ vs) e = (fine_left v (first_of vs) e, fine_parts vs (fine_right v (first_of vs) e))

pub parts_fine : (vs : List Verdict) → AllFine vs → first_of vs ≡ Ok tt
parts_fine [] h = refl
parts_fine (v ∷ vs) h = rw h.0 (parts_fine vs h.1)

-- ---- the test holds
pub fine_test : (ok : Bool) (number place : ℕ) → refused_unless ok number place ≡ Ok tt → ok ≡ true
fine_test true number place e = refl
fine_test false number place e = not_fine _ e

-- ---- of n rows none is refused
each_from : (f : ℕ → Verdict) (n i j : ℕ) → first_bad f i n ≡ Ok tt → j < n → f (i + j) ≡ Ok tt
unfolding first_bad
each_from f zero i j e h = absurd (omega arith)
each_from f (suc n) i zero e h = let z : i + 0 ≡ i = omega arith in rw z (fine_left (f i) (first_bad f (suc i) n) e)
each_from f (suc n) i (suc j) e h =
    let z : i + suc j ≡ suc i + j = omega arith in
    rw z (each_from f n (suc i) j (fine_right (f i) (first_bad f (suc i) n) e) (omega arith))

pub each_fine : (f : ℕ → Verdict) (n j : ℕ) → first_bad f 0 n ≡ Ok tt → j < n → f j ≡ Ok tt
each_fine f n j e h = let z : 0 + j ≡ j = omega arith in rw z at (each_from f n 0 j e h)

all_from : (f : ℕ → Verdict) (n i : ℕ) → ((j : ℕ) → j < i + n → f j ≡ Ok tt) → first_bad f i n ≡ Ok tt
unfolding first_bad
all_from f zero i h = refl
all_from f (suc n) i h = rw (h i (omega arith)) (all_from f n (suc i) (λ j l. h j (omega arith)))

pub all_fine : (f : ℕ → Verdict) (n : ℕ) → ((j : ℕ) → j < n → f j ≡ Ok tt) → first_bad f 0 n ≡ Ok tt
all_fine f n h = all_from f n 0 (λ j l. h j (omega arith))
