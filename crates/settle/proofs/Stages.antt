-- What dispatch, contracts and the sums by agent give for the columns of a sound sheet is what the definitions say. Assumes nothing.
use Prim.Native.Nat.{ℕ, ◌+◌, ◌-◌, ◌*◌, ◌≤◌, ◌<◌}
use native.Mathlib.Omega.{arith}
use native.Mathlib.Decide.{dec_lt}
use mathlib.Core.List.{List}
use mathlib.Core.Path.{◌≡◌, refl, ap, ap₂, ◌∙◌, sym}
use lib.Dec.{ltb, eqb}
use lib.ListN.{length, take}
use Rattle.sums.specs.Sums.{sum, pick, keyed}
use Rattle.sums.specs.Lists.{at, Filled}
use Rattle.sums.proofs.Sums.{sum_eq, peak_eq}
use Rattle.sums.proofs.Lists.{zeros_at, length_list_to, get_d_list_to, list_to_eq}
use Rattle.sums.proofs.Keyed.{keyed_eq}
use Rattle.sums.proofs.Fill.{filled_by, filled_then, filled_front, front_at, front_long}
use Rattle.refusals.specs.Refusals.{Verdict}
use Rattle.limits.specs.Limits.{most_agents, most_plants, most_available}
use Rattle.merit.specs.Merit.{schedule, ideal_dispatch, hour_price}
use Rattle.merit.proofs.Schedule.{schedule_eq}
use Rattle.merit.proofs.MustRun.{sum_above}
use Rattle.dispatch.specs.Dispatch.{Dispatched, price_of}
use Rattle.dispatch.proofs.Dispatched.{dispatched_plain, price_plain}
use Rattle.hour.specs.Sheet.{Sheet, agents, plants}
use Rattle.hour.specs.Sound.{Sound}
use Rattle.hour.specs.Balance.{dispatch_demand}
use Rattle.hour.specs.Lines.{scheduled, bolsa_price, own}
use Rattle.hour.proofs.Balance.{own_all}
use Rattle.hour.proofs.Bounds.{scheduled_le, exported_le, injected_le}
use Rattle.hour.proofs.Fits.{commercial_most}
use Rattle.hour.proofs.Verdicts.{balanced}
use Rattle.balance.specs.Balances.{zeros, unscheduled}
use Rattle.settle.specs.Parts.{Countable, Tallied, spare_of, Covered}

-- ---- what each plant has to spare, from its columns
pub spare_are : (h : Sheet) (n : ℕ)
    → plants h ≡ n
    → (ms vs l : List ℕ)
    → n ≤ length vs
    → ((i : ℕ) → i < n → at ms i ≡ at h.must_run i)
    → ((i : ℕ) → i < n → at vs i ≡ at h.available i)
    → Filled 0 vs l n (λ i. at vs i - at ms i)
    → take n l ≡ spare_of h
unfolding spare_of
spare_are h n e ms vs l room m v f =
    filled_front 0 vs l n _ room f ∙ rw e (list_to_eq _ _ _ (λ i k. ap₂ ◌-◌ (v i k) (m i k)))

-- ---- the schedule: the price order over what is spare, for the demand that the must-runs leave, and then the must-runs added
module _ (h : Sheet) (ok : Sound h) (d : ℕ) (before cs : List ℕ) (cover : Covered h d (length before) cs) where
  spare_at : (i : ℕ) → i < plants h → at (spare_of h) i ≡ at h.available i - at h.must_run i
  unfolding spare_of
  spare_at i l = get_d_list_to 0 _ _ i l

  -- the demand that the must-runs leave
  left : ℕ
  left = dispatch_demand h - sum (plants h) (at h.must_run)

  left_covered : left ≤ sum (plants h) (at (spare_of h))
  unfolding left
  left_covered =
      omega (
        arith,
        cover.enough,
        sum_above (at h.offers) (at h.must_run) (at h.available) (plants h) d (λ i l. (ok.plant i l).must_run),
        sum_eq (plants h) (at (spare_of h)) (λ i. at h.available i - at h.must_run i) spare_at,
      )

  module _ (rest : ℕ) (e : rest ≡ d - sum (plants h) (at h.must_run)) (r : Verdict) (mid : List ℕ)
      (w : Dispatched h.offers (spare_of h) rest before r mid) where
    above_filled : Filled 0 before mid (plants h) (schedule (at h.offers) (at (spare_of h)) (plants h) left)
    unfolding left spare_of
    above_filled =
        let k : Dispatched h.offers (spare_of h) left before r mid = rw (e, cover.target) at w in
        (dispatched_plain h.offers (spare_of h) (plants h) ok.whole.offers (length_list_to _ _) left before r mid
        left_covered cover.fits k).1

    pub scheduled_at : (i : ℕ) → i < plants h → at h.must_run i + at mid i ≡ scheduled h i
    unfolding scheduled ideal_dispatch left
    scheduled_at i l =
        ap (λ (x : ℕ). at h.must_run i + x)
        (above_filled.done i l
        ∙ schedule_eq (at h.offers) (at h.offers) (at (spare_of h)) (λ j. at h.available j - at h.must_run j)
        (plants h) _ i l (λ j m. refl) spare_at)

    pub scheduled_are : (after : List ℕ)
        → Filled 0 mid after (plants h) (λ i. at h.must_run i + at mid i)
        → Filled 0 before after (plants h) (scheduled h)
    scheduled_are after f =
        filled_by 0 _ _ _ _ _ scheduled_at
        (filled_then 0 _ _ _ _ _ _ above_filled f)

module _ (h : Sheet) (ok : Sound h) where
  -- ---- plants
  module _ (n : ℕ) (e : plants h ≡ n) where
    module _ (before after : List ℕ) (l : n ≤ length before) (f : Filled 0 before after n (scheduled h)) where
      pub price_is : (os ts : List ℕ) → os ≡ h.offers → ts ≡ h.flags → price_of os ts (take n after) ≡ bolsa_price h
      unfolding bolsa_price hour_price
      price_is os ts p q =
          rw (p, q)
          (price_plain h.offers h.available (plants h) ok.whole.offers ok.whole.available h.flags
          (take n after) ok.whole.flags (front_long _ _ _ _ f l ∙ sym e)
          ∙ peak_eq (plants h) _ _
          (λ i m. ap (λ (x : ℕ). pick (eqb (at h.flags i) 0) (pick (ltb 0 x) (at h.offers i)))
          (front_at _ _ _ _ f i (omega arith))))

      pub plants_count : (ks os : List ℕ)
          → ks ≡ h.holders
          → length os ≡ most_agents
          → ((a : ℕ) → a < most_agents → at os a + most_plants * most_available ≤ 4294967295)
          → Countable ks (take n after) os
      plants_count ks os p cells small =
          rw p
          (record {
            few = omega (arith, ok.few.plants);
            long = omega (arith, front_long _ _ _ _ f l);
            agent = λ j m. omega (arith, (ok.plant j m).there, ok.few.agents);
            value = λ j m. omega (arith, front_at _ _ _ _ f j (omega arith), scheduled_le h ok j m);
            cells = cells;
            small = small;
          })

      pub own_is : (ks ds os : List ℕ)
          → ks ≡ h.holders
          → Filled 0 zeros ds (agents h) (unscheduled h)
          → Tallied ks (take n after) ds os
          → (a : ℕ)
          → a < agents h
          → at os a ≡ own h a
      own_is ks ds os p c t a m =
          let k : at os a ≡ keyed (at h.holders) (at (take n after)) (plants h) a
          + at ds a = (rw p at t) a (omega (arith, ok.few.agents)) in
          let s =
          keyed_eq (at h.holders) (at h.holders) (at (take n after)) (scheduled h) (plants h) a (λ j q. refl)
          (λ j q. front_at _ _ _ _ f j (omega arith)) in
          omega (arith, k, s, c.done a m, own_all h ok a m)

  -- what no schedule gives is bounded by what is metered, and so leaves room for a schedule
  pub own_small : (d room : ℕ) (os : List ℕ)
      → Covered h d room os
      → (a : ℕ)
      → a < most_agents
      → at os a + most_plants * most_available ≤ 4294967295
  own_small d room os c a m = go (dec_lt a (agents h))
    where
      go : Dec (a < agents h) → at os a + most_plants * most_available ≤ 4294967295
      go (yes l) =
          omega (
            arith,
            c.own.done a l,
            commercial_most h ok (balanced h c.balance) a l,
            injected_le h a,
            exported_le h ok a,
          )
      go (no l) = omega (arith, c.own.kept a (omega arith), zeros_at most_agents a)
