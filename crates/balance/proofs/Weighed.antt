-- From what all agents come to: the verdict, and where it is fine the losses, their shares, the commercial demands and the hour's demand.
-- No sum of them is more than the energy entering the system. Assumes nothing.
use Rattle.std.specs.Prelude.{Result, Ok, Err}
use Prim.Native.Nat.{ℕ, ◌≤◌, ◌<◌, ◌-◌, ◌+◌}
use native.Mathlib.Omega.{arith}
use mathlib.Core.List.{List}
use mathlib.Core.Path.{◌≡◌, ◌∙◌, sym, ap, ap₂}
use lib.ListN.{length, take}
use Rattle.limits.specs.Limits.{most_agents}
use Rattle.refusals.specs.Refusals.{Verdict}
use Rattle.refusals.specs.declared.Refusal.{Refusal}
use Rattle.refusals.proofs.Fine.{not_fine}
use Rattle.share.specs.Share.{Shared}
use Rattle.sums.specs.Sums.{sum}
use Rattle.sums.specs.Lists.{Filled}
use Rattle.sums.proofs.Sums.{sum_eq}
use Rattle.hour.specs.Sheet.{Sheet, agents}
use Rattle.hour.specs.Sound.{Sound}
use Rattle.hour.specs.Balance.{losses, loss_share, commercial, consumption, hour_demand, injected, leaving, dispatch_demand}
use Rattle.hour.specs.Answer.{balance_verdict}
use Rattle.hour.proofs.Verdicts.{Balanced, balanced}
use Rattle.hour.proofs.Bounds.{leaving_le, exported_le, injected_le}
use Rattle.hour.proofs.Demand.{small_within}
use Rattle.hour.proofs.Fits.{commercial_most, demand_most}
use Rattle.balance.specs.Balances.{Ledger, Weighing, weighed}
use Rattle.balance.specs.declared.Weight.{Weight}
use Rattle.balance.specs.Parts.{Read, SharesFit, with_share, of_small, weighed_by}
use Rattle.balance.specs.declared.Metering.{Metering}
use Rattle.balance.proofs.ByAgent.{leaving_is, verdict_is, shares_are, weights_are, demand_is, injected_is, small_is, target_is}

module _ (h : Sheet) (ok : Sound h) (n : ℕ) (count : agents h ≡ n) (k₀ k t₀ t g₀ g u₀ u : List ℕ) (m : Metering)
    (r : Read h n k₀ k t₀ t g₀ g u₀ u m) where
  left : m.consumed + m.drawn ≡ leaving h
  left = ap₂ ◌+◌ r.consumed r.drawn ∙ leaving_is _ _ count

  pub leaves : m.consumed + m.drawn ≤ 4294967295
  leaves = omega (arith, left, leaving_le h ok)

  pub verdict : weighed_by m.over m.entering (m.consumed + m.drawn) m.consumed ≡ balance_verdict h
  verdict = verdict_is h n count _ _ _ _ r.over r.entering left r.consumed

  pub lost : m.entering - (m.consumed + m.drawn) ≡ losses h
  unfolding losses
  lost = ap₂ ◌-◌ r.entering left

  pub shared : (s₀ s : List ℕ) (v : Verdict) → n ≤ most_agents → length u₀ ≡ most_agents → length s₀ ≡ most_agents
      → Shared (m.entering - (m.consumed + m.drawn)) (take n u) s₀ v s
      → Filled 0 s₀ s n (loss_share h)
  shared s₀ s v few ul sl p =
      shares_are h n count _ _ _ _ _ lost (weights_are h n count u₀ u (omega (arith, ul)) r.used) few sl p

  module _ (s : List ℕ) (share : (a : ℕ) → a < n → with_share u s a ≡ commercial h a) where
    pub injects : (a : ℕ) → a < n → of_small k g a ≡ injected h a
    injects a l = injected_is h a _ _ (r.kinds.done a l) (r.given.done a l)

    pub all_is : sum n (with_share u s) + m.drawn ≡ hour_demand h
    all_is = ap₂ ◌+◌ (sum_eq _ _ _ share) r.drawn ∙ demand_is h n count

    pub target : (x y : ℕ) → x ≡ hour_demand h → y ≡ sum n (of_small k g) → x - y ≡ dispatch_demand h
    target x y p q = target_is h n count _ _ ok p (q ∙ sum_eq _ _ _ injects)

    module _ (fine : balance_verdict h ≡ Ok tt) where
      clear : Balanced h
      clear = balanced h fine

      pub within : sum n (of_small k g) ≤ hour_demand h
      within = omega (arith, sum_eq n (of_small k g) (injected h) injects, small_is h n count ok, small_within h ok clear)

      pub most : hour_demand h ≤ 4294967295
      most = omega (arith, demand_most h ok clear)

      pub fits : SharesFit k s n u g
      fits = record {
        each =
            λ a l.
            let m : a < agents h = omega (arith, count) in
            omega (arith, share a l, injects a l, commercial_most h ok clear a m, injected_le h a, exported_le h ok a);
        all = omega (arith, all_is, most);
        small = omega (arith, within, most);
      }

-- what an agent consumed with its share is its commercial demand
pub demands : (h : Sheet) (u s : List ℕ) (n : ℕ) (u₀ s₀ : List ℕ) → Filled 0 u₀ u n (consumption h)
    → Filled 0 s₀ s n (loss_share h)
    → (a : ℕ) → a < n → with_share u s a ≡ commercial h a
unfolding commercial
demands h u s n u₀ s₀ p q a l = ap₂ ◌+◌ (p.done a l) (q.done a l)

-- a refusal: of the columns nothing is said
pub refused : (h : Sheet) (v : Verdict) (q : Refusal) (before after : Ledger) (r : Result Weight Refusal) → v ≡ Err q → r ≡ Err q
    → Weighing v h before after r
refused h v q before after r e f =
    record { answer = f ∙ sym (ap (λ (w : Verdict). weighed w h) e); columns = λ g. not_fine q (sym e ∙ g) }
