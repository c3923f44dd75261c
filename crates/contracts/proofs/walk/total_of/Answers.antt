use Rattle.std.proofs.Common.{rules, ◌≡◌, ◌∙◌, sym, suc, ℕ, ◌+◌, List, [], ◌∷◌, length, arith}
use Rattle.std.proofs.Math.Numerals.{one-add}
use Rattle.std.proofs.lemmas.List.Sums.{sum_by-append}
use Rattle.std.specs.List.{sum_by}
use Rattle.sums.specs.Sums.{sum}
use Rattle.sums.specs.Lists.{at}
use Rattle.sums.proofs.Sums.{sum_eq, sum_none, sum_step}
use Rattle.sums.proofs.Cut.{sum_on}
use Rattle.contracts.specs.Walk.{quantity_of}
use Rattle.contracts.proofs.Walks.{quantities_total}
use Rattle.contracts.proofs.walk.total_of.Goals as goal

-- the sum over the elements of a list, by place
sum_places : (f : ℕ → ℕ) (l : List ℕ) → sum_by f l ≡ sum (length l) (λ u. f (at l u))
sum_places f [] = sym (sum_none _)
sum_places f (x ∷ l) =
    let g : ℕ → ℕ = λ u. f (at (x ∷ l) u) in
    let e : 1 + length l ≡ suc (length l) = omega arith in
    omega (
      arith,
      sum_by-append f (x ∷ []) l,
      sum_places f l,
      rw e at (sum_on 1 (length l) g),
      sum_step 0 g,
      sum_none g,
      sum_eq (length l) (λ u. g (1 + u)) (λ u. f (at l u)) (λ u h. rw one-add),
    )

pub returns : goal.returns
returns c =
    let h : c.sum.result ≡ sum_by (quantity_of c.args.section.now) c.args.keys.now = search rules in
    h ∙ sum_places _ _ ∙ sym (quantities_total _ _)
