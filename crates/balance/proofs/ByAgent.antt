-- What the code has read, agent by agent, is what the definitions say. Assumes nothing.
use Rattle.std.specs.Prelude.{Option}
use Prim.Native.Nat.{ℕ, ◌+◌, ◌-◌, ◌≤◌, ◌<◌}
use native.Mathlib.Omega.{arith}
use mathlib.Core.Bool.{◌&&◌, not}
use mathlib.Core.List.{List}
use mathlib.Core.Path.{◌≡◌, ap, ap₂, ◌∙◌, sym}
use lib.Dec.{ltb}
use lib.ListN.{length, take}
use Rattle.sums.specs.Sums.{sum, first, pick}
use Rattle.sums.specs.Lists.{at, Filled}
use Rattle.sums.proofs.Fill.{filled_count, filled_by, filled_front}
use Rattle.refusals.specs.Refusals.{Verdict}
use Rattle.share.specs.Share.{share_of, Shared}
use Rattle.share.proofs.Laws.{share_fine}
use Rattle.limits.specs.Limits.{most_agents}
use Rattle.sums.proofs.Sums.{sum_eq, sum_add}
use Rattle.sums.proofs.First.{first_eq}
use Rattle.rows.specs.Rows.{carries_losses, is_outside}
use Rattle.hour.specs.Sheet.{Sheet, agents, retails, outside}
use Rattle.hour.specs.Sound.{Sound}
use Rattle.hour.specs.Balance.{rounded, imported, exported, consumption, consumed, consumptions, own_import, delivered, entering}
use Rattle.hour.specs.Balance.{leaving, losses, loss_share, commercial, hour_demand, injected, small_exports, dispatch_demand}
use Rattle.hour.specs.Answer.{first_over, balance_verdict}
use Rattle.hour.proofs.Demand.{weights_long, small_metered}
use Rattle.balance.specs.Parts.{found, weighed_by}
use Rattle.balance.proofs.Found.{found_verdict}

-- ---- the columns, taken together
module _ (h : Sheet) (n : ℕ) (e : agents h ≡ n) where
  pub over_is : (kinds imports exports : List ℕ)
      → ((a : ℕ) → a < n → at kinds a ≡ at h.kinds a)
      → ((a : ℕ) → a < n → at imports a ≡ imported h a)
      → ((a : ℕ) → a < n → at exports a ≡ exported h a)
      → first n (λ a. carries_losses (at kinds a) && ltb (at imports a) (at exports a)) ≡ first_over h
  unfolding first_over retails
  over_is kinds imports exports kind took gave =
      rw e
      (first_eq n _ _
      (λ a l. ap (λ (k : ℕ). carries_losses k && ltb (at imports a) (at exports a)) (kind a l)
      ∙ ap₂ (λ (x y : ℕ). carries_losses (at h.kinds a) && ltb x y) (took a l) (gave a l)))

  pub consumed_is : (used : ℕ → ℕ) → ((a : ℕ) → a < n → used a ≡ consumption h a) → sum n used ≡ consumed h
  unfolding consumed
  consumed_is used f = rw e (sum_eq n _ _ f)

  pub entering_is : (given : ℕ → ℕ) → ((a : ℕ) → a < n → given a ≡ delivered h a) → sum n given ≡ entering h
  unfolding entering
  entering_is given f = rw e (sum_eq n _ _ f)

  pub leaving_is : consumed h + sum n (own_import h) ≡ leaving h
  unfolding consumed leaving
  leaving_is = rw e (sym (sum_add n (consumption h) (own_import h)))

  -- the verdict by those numbers is the sheet's
  pub verdict_is : (over : Option ℕ) (x y u : ℕ)
      → over ≡ found n (first_over h)
      → x ≡ entering h
      → y ≡ leaving h
      → u ≡ consumed h
      → weighed_by over x y u ≡ balance_verdict h
  unfolding balance_verdict losses
  verdict_is over x y u p q r t = rw (p, q, r, t) (rw (found_verdict n (first_over h), sym e))

-- ---- one agent
module _ (h : Sheet) (a k x y : ℕ) (p : k ≡ at h.kinds a) (q : x ≡ imported h a) where
  pub used_is : y ≡ exported h a → pick (carries_losses k) (rounded (x - y)) ≡ consumption h a
  unfolding consumption retails
  used_is r = rw (p, q, r)

  pub taken_is : pick (not (carries_losses k)) (rounded x) ≡ own_import h a
  unfolding own_import retails
  taken_is = rw (p, q)

pub given_is : (h : Sheet) (a k y : ℕ)
    → k ≡ at h.kinds a
    → y ≡ exported h a
    → pick (not (carries_losses k)) (rounded y) ≡ delivered h a
unfolding delivered retails
given_is h a k y p q = rw (p, q)

pub injected_is : (h : Sheet) (a k y : ℕ) → k ≡ at h.kinds a → y ≡ delivered h a → pick (is_outside k) y ≡ injected h a
unfolding injected outside
injected_is h a k y p q = rw (p, q)

-- ---- all agents
module _ (h : Sheet) where
  module _ (n : ℕ) (e : agents h ≡ n) where
    -- the shares of an amount that is the losses, over weights that are the consumptions
    pub shares_are : (amount : ℕ) (weights before : List ℕ) (r : Verdict) (after : List ℕ) → amount ≡ losses h → weights ≡ consumptions h
        → n ≤ most_agents → length before ≡ most_agents → Shared amount weights before r after → Filled 0 before after n (loss_share h)
    unfolding loss_share
    shares_are amount weights before r after p q few long s =
        let m : length weights ≡ n = ap length q ∙ weights_long h ∙ e in
        filled_count 0 _ _ _ _ _ m
        (filled_by 0 _ _ _ _ _ (λ a l. ap₂ (λ (x : ℕ) (w : List ℕ). share_of x w a) p q) (share_fine (omega arith) (omega arith) s).filled)

    pub weights_are : (before l : List ℕ) → n ≤ length before → Filled 0 before l n (consumption h) → take n l ≡ consumptions h
    unfolding consumptions
    weights_are before l few f = rw e (filled_front 0 before l n (consumption h) few f)

    pub demand_is : sum n (commercial h) + sum n (own_import h) ≡ hour_demand h
    unfolding hour_demand
    demand_is = rw e (sym (sum_add n _ _))

    -- small generators' exports, and the demand without them
    pub small_is : Sound h → sum n (injected h) ≡ small_exports h
    small_is ok = rw (sym e) (small_metered h ok)

    pub target_is : (x y : ℕ) → Sound h → x ≡ hour_demand h → y ≡ sum n (injected h) → x - y ≡ dispatch_demand h
    unfolding dispatch_demand hour_demand
    target_is x y ok p q = ap₂ ◌-◌ p (q ∙ small_is ok)
