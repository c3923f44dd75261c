-- What a statement that meets the five points has: its demand is the hour's, its schedule is possible and costs least for it, bought
-- equals sold, and the money sums to 0. Assumes nothing.
use Prim.Native.Nat.{ℕ, ◌+◌, ◌-◌, ◌≤◌, ◌<◌}
use native.Mathlib.Omega.{arith}
use mathlib.Core.Path.{◌≡◌, ap, ◌∙◌, sym}
use lib.IntN.{pos}
use Rattle.sums.specs.Sums.{sum}
use Rattle.sums.specs.Lists.{at}
use Rattle.sums.proofs.Sums.{sum_eq, sum_add, sum_term}
use Rattle.merit.specs.Merit.{Possible, cost}
use Rattle.merit.proofs.LeastCost.{merit_least}
use Rattle.hour.specs.Sheet.{Sheet, agents, plants}
use Rattle.hour.specs.Sound.{Sound}
use Rattle.hour.specs.Balance.{consumption, own_import, losses, loss_share, commercial, demand_by}
use Rattle.hour.specs.Balance.{hour_demand, small_exports, dispatch_demand_by, dispatch_demand}
use Rattle.hour.specs.Lines.{bought_of, sold_of, money_of}
use Rattle.hour.specs.Signed.{signed_sum}
use Rattle.hour.specs.Answer.{Lent, share_in, own_in, contracted_in, bought_in, sold_in, money_in, schedule_in}
use Rattle.hour.proofs.Verdicts.{Balanced}
use Rattle.hour.proofs.Demand.{generator_consumption, loss_shares, small_within}
use Rattle.hour.proofs.Money.{signed_eq}
use Rattle.hour.proofs.Balance.{Idle, bought_sold_by, money_none_by}
use Rattle.statement.specs.Points.{demand_in, least, basis_in, SharesFollow, ScheduleFollows, Holds}

module _ (s : Sheet) (l : Lent) where
  -- generators have no demand, with their shares either
  pub idle_in : SharesFollow s l → Idle s (demand_in s l)
  idle_in f a h e = omega (arith, generator_consumption s a e, f.generator a h e)

  -- a share is at most the losses
  pub share_in_le : SharesFollow s l → (a : ℕ) → a < agents s → share_in l a ≤ losses s
  share_in_le f a h = omega (arith, sum_term (agents s) a (share_in l) h, f.whole)

  -- shares that sum to the losses leave the hour's demand what it is
  pub demand_same : Balanced s → SharesFollow s l → demand_by s (demand_in s l) ≡ hour_demand s
  unfolding hour_demand commercial
  demand_same b f =
      let n = agents s in
      omega (
        arith,
        sum_add n (demand_in s l) (own_import s),
        sum_add n (consumption s) (share_in l),
        sum_add n (λ a. consumption s a + loss_share s a) (own_import s),
        sum_add n (consumption s) (loss_share s),
        f.whole,
        loss_shares s b,
      )

  -- and so what central dispatch has to meet
  pub dispatch_same : Balanced s → SharesFollow s l → dispatch_demand_by s (demand_in s l) ≡ dispatch_demand s
  unfolding dispatch_demand hour_demand
  dispatch_same b f = ap (λ (d : ℕ). d - small_exports s) (demand_same b f)

  -- no possible schedule costs less at the offer prices
  pub least_cost : ScheduleFollows s l → (q : ℕ → ℕ)
      → Possible (least s) (at s.available) (plants s) (dispatch_demand_by s (demand_in s l)) q
      → cost (at s.offers) (plants s) (schedule_in l) ≤ cost (at s.offers) (plants s) q
  least_cost f q p =
      merit_least (at s.offers) (least s) (at s.available) (plants s) (dispatch_demand_by s (demand_in s l)) (schedule_in l)
      q f.possible f.merit p

module _ (s : Sheet) (ok : Sound s) (b : Balanced s) (price : ℕ) (l : Lent) (h : Holds s price l) where
  -- the kWh bought over all agents equal the kWh sold
  pub held_balanced : sum (agents s) (bought_in l) ≡ sum (agents s) (sold_in l)
  held_balanced =
      sum_eq (agents s) (bought_in l) (bought_of s (own_in l) (contracted_in l)) (λ a k. (h.lines a k).bought)
      ∙ bought_sold_by s ok (basis_in s l) (idle_in s l h.shares) (own_in l) (contracted_in l)
      (λ a k. (h.lines a k).own) (λ a k. (h.lines a k).contracted)
      h.schedule.possible.meets (omega (arith, small_within s ok b, demand_same s l b h.shares))
      ∙ sym (sum_eq (agents s) (sold_in l) (sold_of s (own_in l) (contracted_in l)) (λ a k. (h.lines a k).sold))

  -- the money over all agents sums to 0
  pub held_money : signed_sum (agents s) (money_in l) ≡ pos 0
  held_money =
      signed_eq (agents s) (money_in l) (λ a. money_of (sold_in l a) (bought_in l a) price) (λ a k. (h.lines a k).money)
      ∙ money_none_by (agents s) (sold_in l) (bought_in l) price held_balanced
