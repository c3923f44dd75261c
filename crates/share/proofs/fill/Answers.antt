use Rattle.std.proofs.Common.{◌≡◌, ◌+◌, ◌-◌, ◌≤◌, ℕ, List, ◌++◌, length}
use Rattle.std.proofs.Common.{drop, replicate, arith, ap, ◌∙◌, length-take-le, length-append, length-drop}
use Rattle.std.proofs.Math.ListN.{get_or-append, length-replicate}
use Rattle.std.proofs.Math.Seq.{get_or-drop}
use Rattle.std.proofs.lemmas.List.{get_or-append_right}
use Rattle.sums.specs.Lists.{at, Filled}
use Rattle.sums.proofs.Lists.{zeros_at}
use Rattle.share.proofs.Lacks.{zero_shares}
use Rattle.share.proofs.fill.Goals as goal

-- the first n cells are 0, the rest stay
cleared : (n : ℕ) (before front : List ℕ)
    → n ≤ length before
    → front ≡ replicate n 0
    → Filled 0 before (front ++ drop n before) n (λ _. 0)
cleared n before front h e =
    let long : length front ≡ n = ap length e ∙ length-replicate n 0 in
    record {
      done = λ k m. get_or-append front (drop n before) 0 k (omega arith) ∙ ap (λ l. at l k) e ∙ zeros_at n k;
      kept =
          λ k m.
          let s : n + (k - n) ≡ k = omega arith in
          get_or-append_right front (drop n before) n k 0 long m ∙ get_or-drop n before (k - n) 0 ∙ ap (at before) s;
      long = omega (arith, length-append front (drop n before), length-drop n before);
    }

pub returns-then-total-eq0 : goal.returns-then-total-eq0
returns-then-total-eq0 c =
    let a = c.args in
    let n = length a.weights.now in
    let e = length-take-le n a.out.now (omega arith) in
    zero_shares a.amount a.weights.now a.out.now _ (omega (arith, c.total_of-total.ensures.0))
    (cleared n a.out.now c.fill.new.self (omega arith) (c.fill.ensures.after (λ y q. q) ∙ ap (λ m. replicate m 0) e))
