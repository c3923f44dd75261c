-- What is held below a key, and where a demand crosses, by the rows of lists: one row more, a stretch of rows in front, and rows that
-- lie within longer lists. Assumes nothing.
use Prim.Native.Nat.{ℕ, ◌+◌, ◌<◌}
use native.Mathlib.Omega.{arith}
use mathlib.Core.List.{List, ◌++◌}
use mathlib.Core.Path.{◌≡◌, ap, ap₂, ◌∙◌, sym}
use lib.Dec.{ltb}
use lib.ListN.{length, take, length-append, get_or-append}
use lib.Seq.{get_or-take}
use Rattle.std.proofs.lemmas.List.{get_or-append-add}
use Rattle.sums.specs.Sums.{pick}
use Rattle.sums.specs.Lists.{at}
use Rattle.sums.proofs.Sums.{sum_none, sum_step, sum_eq}
use Rattle.sums.proofs.Cut.{sum_on}
use Rattle.crossing.specs.Crossing.{held_below, Crossing}

pub held_none : (key v : ℕ → ℕ) (x : ℕ) → held_below key v 0 x ≡ 0
unfolding held_below
held_none key v x = sum_none (λ j. pick (ltb (key j) x) (v j))

pub held_step : (key v : ℕ → ℕ) (n x : ℕ) → held_below key v (n + 1) x ≡ held_below key v n x + pick (ltb (key n) x) (v n)
unfolding held_below
held_step key v n x = sum_step n (λ j. pick (ltb (key j) x) (v j))

pub held_eq : (key key' v w : ℕ → ℕ) (n x : ℕ)
    → ((i : ℕ) → i < n → key i ≡ key' i)
    → ((i : ℕ) → i < n → v i ≡ w i)
    → held_below key v n x ≡ held_below key' w n x
unfolding held_below
held_eq key key' v w n x g h =
    sum_eq n (λ j. pick (ltb (key j) x) (v j)) (λ j. pick (ltb (key' j) x) (w j))
    (λ i l. ap₂ (λ (y z : ℕ). pick (ltb y x) z) (g i l) (h i l))

held_on : (key v : ℕ → ℕ) (a b x : ℕ)
    → held_below key v (a + b) x ≡ held_below key v a x + held_below (λ i. key (a + i)) (λ i. v (a + i)) b x
unfolding held_below
held_on key v a b x = sum_on a b (λ j. pick (ltb (key j) x) (v j))

-- rows ks with the values vs stand before all others
pub held_stretch : (ks keys vs values : List ℕ) (x : ℕ)
    → length vs ≡ length ks
    → held_below (at (ks ++ keys)) (at (vs ++ values)) (length (ks ++ keys)) x
    ≡ held_below (at ks) (at vs) (length ks) x + held_below (at keys) (at values) (length keys) x
held_stretch ks keys vs values x e =
    ap (λ (n : ℕ). held_below (at (ks ++ keys)) (at (vs ++ values)) n x) (length-append ks keys)
    ∙ held_on (at (ks ++ keys)) (at (vs ++ values)) (length ks) (length keys) x
    ∙ ap₂ ◌+◌
    (held_eq (at (ks ++ keys)) (at ks) (at (vs ++ values)) (at vs) (length ks) x
    (λ i l. get_or-append ks keys 0 i l)
    (λ i l. get_or-append vs values 0 i (omega arith)))
    (held_eq (λ i. at (ks ++ keys) (length ks + i)) (at keys) (λ i. at (vs ++ values) (length ks + i)) (at values) (length keys) x
    (λ i l. get_or-append-add ks keys i 0)
    (λ i l. ap (λ (n : ℕ). at (vs ++ values) (n + i)) (sym e) ∙ get_or-append-add vs values i 0))

-- the first n rows of longer lists
module _ (keys values : List ℕ) (n : ℕ) where
  pub held_front : (x : ℕ) → held_below (at (take n keys)) (at (take n values)) n x ≡ held_below (at keys) (at values) n x
  held_front x =
      held_eq (at (take n keys)) (at keys) (at (take n values)) (at values) n x
      (λ i l. get_or-take n keys i 0 l)
      (λ i l. get_or-take n values i 0 l)

  pub crossing_front : (d x : ℕ)
      → Crossing (at (take n keys)) (at (take n values)) n d x
      → Crossing (at keys) (at values) n d x
  crossing_front d x r =
      record {
        wanted = omega (arith, r.wanted, held_front x);
        enough =
            λ i l m.
            let e : at (take n keys) i ≡ at keys i = get_or-take n keys i 0 l in
            omega (
              arith,
              r.enough i l (omega arith),
              ap (held_below (at (take n keys)) (at (take n values)) n) e,
              held_front (at keys i),
            );
      }
