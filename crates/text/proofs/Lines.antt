-- The first of what is left of a list. Assumes nothing.
use Prim.Native.Nat.{ℕ, suc, ◌+◌, ◌<◌}
use mathlib.Core.Path.{◌≡◌, ap, ◌∙◌}
use mathlib.Core.List.{List, ◌∷◌}
use native.Mathlib.Omega.{arith}
use lib.ListN.{length, drop}
use lib.Seq.{drop-cons}
use Rattle.sums.specs.Lists.{at}

pub next : (s : List ℕ) (e : ℕ) → e < length s → drop e s ≡ at s e ∷ drop (e + 1) s
next s e h = let i : suc e ≡ e + 1 = omega arith in drop-cons s e 0 h ∙ ap (λ (j : ℕ). at s e ∷ drop j s) i
