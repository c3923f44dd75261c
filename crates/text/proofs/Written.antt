-- Laws of a row that is put from its end. Assumes nothing.
use Prim.Native.Nat.{ℕ, ◌-◌, ◌≤◌, ◌<◌}
use mathlib.Core.Path.{◌≡◌, ap, ◌∙◌}
use mathlib.Core.List.{List, ◌∷◌, reverse}
use native.Mathlib.Omega.{arith}
use lib.ListN.{length, drop, get_or}
use Rattle.std.proofs.lemmas.List.{get_or-reverse, get_or_default}
use Rattle.sums.specs.Lists.{at}
use Rattle.printing.specs.Text.{decimal}
use Rattle.printing.proofs.Text.{drop_more}
use Rattle.text.specs.Written.{joined}

-- the last number of what is left goes in front of what stands
pub joined_more : (v : List ℕ) (k : ℕ) (rest : List ℕ) → 0 < k → k ≤ length v
    → joined (drop (k - 1) v) rest ≡ 32 ∷ decimal (at v (k - 1)) (joined (drop k v) rest)
unfolding joined
joined_more v k rest p h = ap (λ (l : List ℕ). joined l rest) (drop_more v k p h)

-- the number that a walk from the back takes behind k others
pub from_back : (v : List ℕ) (k x : ℕ) → k < length v → x ≡ get_or (reverse v) k x → x ≡ at v (length v - k - 1)
from_back v k x h e =
    let i : length v - 1 - k ≡ length v - k - 1 = omega arith in
    e
    ∙ get_or-reverse v k x h
    ∙ ap (λ (j : ℕ). get_or v j x) i
    ∙ get_or_default v (length v - k - 1) x 0 (omega arith)
