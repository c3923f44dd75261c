-- One plant more in the pass over a schedule. Assumes nothing.
use Prim.Native.Nat.{ℕ, ◌+◌, ◌≤◌, max}
use native.Mathlib.Omega.{arith}
use mathlib.Core.Bool.{Bool, true, ◌&&◌}
use mathlib.Core.List.{List}
use mathlib.Core.Path.{◌≡◌, ap, ◌∙◌, sym}
use lib.Dec.{ltb, eqb}
use Rattle.sums.specs.Sums.{pick}
use Rattle.sums.specs.Lists.{at}
use Rattle.sums.proofs.Sums.{sum_none, sum_step, peak_step}
use Rattle.statement.specs.Tests.{within_test}
use Rattle.checking.specs.Parts.{Ran, RanTo}
use Rattle.checking.specs.declared.plants.Run.{Run}
use Rattle.checking.proofs.Loops.{every_none, every_step, peak_none}

module _ (ts ms ps vs qs : List ℕ) where
  pub ran_none : (v : Run) → v.good ≡ true → v.total ≡ 0 → v.dearest ≡ 0 → v.price ≡ 0 → RanTo ts ms ps vs qs 0 v
  ran_none v a b c e =
      record {
        good = a ∙ sym (every_none _);
        total = b ∙ sym (sum_none _);
        most = omega arith;
        dearest = c ∙ sym (peak_none _);
        price = e ∙ sym (peak_none _);
      }

  pub ran_more : (n : ℕ) (v r : Run) → Ran v (at ts n) (at ms n) (at ps n) (at vs n) (at qs n) r → at qs n ≤ 4294967295
      → RanTo ts ms ps vs qs n v → RanTo ts ms ps vs qs (n + 1) r
  ran_more n v r l fits h =
      record {
        good = l.good ∙ ap (λ (t : Bool). t && within_test (at ms n) (at vs n) (at qs n)) h.good
            ∙ sym (every_step n (λ i. within_test (at ms i) (at vs i) (at qs i)));
        total = omega (arith, l.total, h.total, sum_step n (at qs));
        most = omega (arith, l.total, h.most);
        dearest = l.dearest ∙ ap (λ (z : ℕ). max z (pick (ltb (at ms n) (at qs n)) (at ps n))) h.dearest ∙ sym (peak_step n _);
        price = l.price ∙ ap (λ (z : ℕ). max z (pick (eqb (at ts n) 0 && ltb 0 (at qs n)) (at ps n))) h.price ∙ sym (peak_step n _);
      }
