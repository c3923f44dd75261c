-- The stretches of a text are the parts that `split` gives, and a walk over them goes on by one part. Assumes nothing.
use Prim.Native.Nat.{ℕ, suc, ◌+◌, ◌<◌}
use mathlib.Core.Path.{◌≡◌, refl, ap, sym, ◌∙◌}
use mathlib.Core.Bool.{Bool, true, false, cond}
use mathlib.Core.List.{List, [], ◌∷◌, ◌++◌, append_assoc, append-nil, map}
use native.Mathlib.Omega.{arith}
use denote.Ref.{Bor}
use lib.ListN.{length, take, drop, get_or}
use lib.Seq.{drop-cons}
use Rattle.std.specs.List.{slice_split, onto_first}
use Rattle.std.proofs.lemmas.List.{take-append-drop}
use Rattle.std.proofs.lemmas.List.Splits.{length-slice_split}
use Rattle.text.specs.Lines.{cut, over}

-- a stretch so far, and the parts behind it
abbrev onto : List ℕ → List (List ℕ) → List (List ℕ)
onto f [] = f ∷ []
onto f (x ∷ xs) = (f ++ x) ∷ xs

onto_none : (xs : List (List ℕ)) → 0 < length xs → onto [] xs ≡ xs
onto_none [] h = absurd (omega arith)
onto_none (x ∷ xs) h = refl

onto_more : (f : List ℕ) (b : ℕ) (xs : List (List ℕ)) → onto (f ++ (b ∷ [])) xs ≡ onto f (onto_first b xs)
onto_more f b [] = refl
onto_more f b (x ∷ xs) = ap (λ (g : List ℕ). g ∷ xs) (append_assoc f (b ∷ []) x)

some_part : (t : ℕ → Bool) (s : List ℕ) → 0 < length (slice_split t s)
some_part t s = omega (arith, length-slice_split t s)

cut_onto : (t : ℕ → Bool) (f s : List ℕ) → cut t f s ≡ onto f (slice_split t s)
unfolding cut
cut_onto t f [] = ap (λ (g : List ℕ). g ∷ []) (sym (append-nil f))
cut_onto t f (b ∷ bs) = go (t b) (cut_onto t [] bs) (cut_onto t (f ++ (b ∷ [])) bs)
  where
    go : (u : Bool) → cut t [] bs ≡ onto [] (slice_split t bs) → cut t (f ++ (b ∷ [])) bs ≡ onto (f ++ (b ∷ [])) (slice_split t bs)
        → cond u (f ∷ cut t [] bs) (cut t (f ++ (b ∷ [])) bs)
        ≡ onto f (cond u ([] ∷ slice_split t bs) (onto_first b (slice_split t bs)))
    go true p q =
        ap (λ (xs : List (List ℕ)). f ∷ xs) (p ∙ onto_none (slice_split t bs) (some_part t bs))
        ∙ ap (λ (g : List ℕ). g ∷ slice_split t bs) (sym (append-nil f))
    go false p q = q ∙ onto_more f b (slice_split t bs)

pub cut_parts : (t : ℕ → Bool) (s : List ℕ) → slice_split t s ≡ cut t [] s
cut_parts t s = sym (cut_onto t [] s ∙ onto_none (slice_split t s) (some_part t s))

-- ---- a walk over parts that are lent
over_then : {S : Type 0} (g : S → List ℕ → S) (a : S) (xs ys : List (List ℕ)) → over g a (xs ++ ys) ≡ over g (over g a xs) ys
unfolding over
over_then g a [] ys = refl
over_then g a (x ∷ xs) ys = over_then g (g a x) xs ys

abbrev pub lent_parts : List (Bor (List ℕ)) → List (List ℕ)
lent_parts xs = map (λ x. x.now) xs

parts_then : (xs : List (Bor (List ℕ))) (x : Bor (List ℕ)) → lent_parts (xs ++ (x ∷ [])) ≡ lent_parts xs ++ (x.now ∷ [])
parts_then [] x = refl
parts_then (y ∷ ys) x = ap (λ (zs : List (List ℕ)). y.now ∷ zs) (parts_then ys x)

pub over_one_more : {S : Type 0} (g : S → List ℕ → S) (a : S) (xs : List (Bor (List ℕ))) (x : Bor (List ℕ))
    → over g a (lent_parts (xs ++ (x ∷ []))) ≡ g (over g a (lent_parts xs)) x.now
unfolding over
over_one_more g a xs x = ap (over g a) (parts_then xs x) ∙ over_then g a (lent_parts xs) (x.now ∷ [])

-- through this part, and then what is behind it
pub over_through : {S : Type 0} (g : S → List ℕ → S) (a : S) (all : List (List ℕ)) (xs : List (Bor (List ℕ))) (x : List ℕ)
    → lent_parts xs ≡ take (length xs) all → (length xs < length all) × (x ≡ get_or all (length xs) x)
    → over g a all ≡ over g (g (over g a (lent_parts xs)) x) (drop (length xs + 1) all)
unfolding over
over_through g a all xs x e h =
    let n = length xs in
    let i : suc n ≡ n + 1 = omega arith in
    let d : drop n all ≡ x ∷ drop (n + 1) all =
    drop-cons all n x h.0
    ∙ ap (λ (y : List ℕ). y ∷ drop (suc n) all) (sym h.1)
    ∙ ap (λ (j : ℕ). x ∷ drop j all) i in
    ap (over g a) (sym (take-append-drop n all))
    ∙ over_then g a (take n all) (drop n all)
    ∙ ap (λ (ys : List (List ℕ)). over g (over g a ys) (drop n all)) (sym e)
    ∙ ap (over g (over g a (lent_parts xs))) d
