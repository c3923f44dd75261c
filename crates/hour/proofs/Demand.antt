-- Document 01, 'From readings to commercial demand': loss shares sum to the losses, generators carry none, and the hour's demand
-- is what the generators deliver, small ones among them. Assumes nothing.
use Prim.Native.Nat.{ℕ, ◌+◌, ◌-◌, ◌*◌, ◌≤◌, ◌<◌}
use native.Mathlib.Omega.{arith}
use mathlib.Core.Bool.{Bool, true, false, not, true≢false}
use mathlib.Core.Logic.{◌⊎◌, inl, inr}
use mathlib.Core.Path.{◌≡◌, refl, ap, ◌∙◌, sym}
use lib.ListN.{length}
use lib.Dec.{eqb}
use borrow.Author.Tests.{eqb-true, not-true}
use Rattle.rows.proofs.ByKind.{outside_carries_none}
use Rattle.sums.specs.Sums.{sum, pick, keyed}
use Rattle.sums.specs.Lists.{at, total}
use Rattle.sums.proofs.Sums.{sum_eq, sum_le, sum_add, sum_mul, sum_zero, sum_term}
use Rattle.sums.proofs.Picks.{pick_true, pick_false, pick_same, pick_zero}
use Rattle.sums.proofs.Keyed.{keyed_total}
use Rattle.sums.proofs.Lists.{length_list_to, get_d_list_to, total_list_to}
use Rattle.share.specs.Share.{share_of}
use Rattle.share.proofs.Laws.{shares_sum, share_no_weight, share_no_amount}
use Rattle.hour.specs.Sheet.{Sheet, agents, boundaries, retails, outside}
use Rattle.hour.specs.Sound.{Sound}
use Rattle.hour.specs.Balance.{referred, rounded, imported, exported, consumption, consumed, own_import, delivered, entering}
use Rattle.hour.specs.Balance.{leaving, losses, consumptions, loss_share, commercial, hour_demand, generated, injected}
use Rattle.hour.specs.Balance.{small_exports}
use Rattle.hour.proofs.Verdicts.{Balanced}
use Rattle.hour.proofs.Bounds.{rounded_whole, injected_part}

-- a small generator is metered as a generator
pub outside_retails : (s : Sheet) (a : ℕ) → outside s a ≡ true → retails s a ≡ false
unfolding outside retails
outside_retails s a e = outside_carries_none (at s.kinds a) e

module _ (s : Sheet) where
  -- ---- the loss shares
  pub weights_long : length (consumptions s) ≡ agents s
  unfolding consumptions
  weights_long = length_list_to _ (agents s)

  pub weight_at : (a : ℕ) → a < agents s → at (consumptions s) a ≡ consumption s a
  unfolding consumptions
  weight_at a l = get_d_list_to 0 (consumption s) (agents s) a l

  pub weights_total : total (consumptions s) ≡ consumed s
  unfolding consumptions consumed
  weights_total = total_list_to (consumption s) (agents s)

  -- a generator has no consumption, and carries none
  pub generator_consumption : (a : ℕ) → retails s a ≡ false → consumption s a ≡ 0
  unfolding consumption
  generator_consumption a e = pick_false (retails s a) (rounded (imported s a - exported s a)) e

  pub generator_share : (a : ℕ) → a < agents s → retails s a ≡ false → loss_share s a ≡ 0
  unfolding loss_share
  generator_share a l e = share_no_weight _ (consumptions s) a (weight_at a l ∙ generator_consumption a e)

  module _ (b : Balanced s) where
    -- loss shares sum to the losses
    pub loss_shares : sum (agents s) (loss_share s) ≡ losses s
    unfolding loss_share
    loss_shares = go b.shared
      where
        go : (losses s ≡ 0) ⊎ (0 < consumed s) → sum (agents s) (share_of (losses s) (consumptions s)) ≡ losses s
        go (inl z) =
            sum_zero (agents s) (share_of (losses s) (consumptions s))
            (λ a l. ap (λ (x : ℕ). share_of x (consumptions s) a) z ∙ share_no_amount (consumptions s) a)
            ∙ sym z
        go (inr h) = rw weights_long at (shares_sum (losses s) (consumptions s) (omega (arith, weights_total)))

    -- ---- the hour's demand
    demand_parts : hour_demand s ≡ sum (agents s) (λ a. consumption s a + own_import s a) + losses s
    unfolding hour_demand commercial
    demand_parts =
        let n = agents s in
        omega (
          arith,
          sum_add n (λ a. consumption s a + loss_share s a) (own_import s),
          sum_add n (consumption s) (loss_share s),
          sum_add n (consumption s) (own_import s),
          loss_shares,
        )

    pub demand_le : hour_demand s ≤ entering s
    unfolding losses leaving
    demand_le =
        omega (arith, demand_parts, b.gain)

    pub commercial_le : (a : ℕ) → a < agents s → commercial s a + own_import s a ≤ hour_demand s
    unfolding hour_demand
    commercial_le a l = sum_term (agents s) a (λ k. commercial s k + own_import s k) l

    -- it equals what the generators deliver
    pub demand_delivered : hour_demand s ≡ sum (agents s) (delivered s)
    unfolding losses leaving entering
    demand_delivered = omega (arith, demand_parts, b.gain)

-- ---- generators are metered where the system begins: their exports are the readings themselves
referred_plain : (x f : ℕ) → f ≡ 0 → referred x f ≡ 10000 * x
unfolding referred
referred_plain x f e = rw e (omega arith)

pick_tenths : (t : Bool) (v w : ℕ) → (t ≡ true → v ≡ 10000 * w) → pick t v ≡ 10000 * pick t w
unfolding pick
pick_tenths true v w h = h refl
pick_tenths false v w h = omega arith

module _ (s : Sheet) (ok : Sound s) where
  -- the exports of some of the generators, by agent and by boundary row
  module _ (some : ℕ → Bool) (plain : (a : ℕ) → some a ≡ true → retails s a ≡ false) where
    reads : ℕ → ℕ
    reads j = pick (some (at s.owners j)) (at s.exports j)

    one_metered : (a : ℕ) → pick (some a) (rounded (exported s a)) ≡ keyed (at s.owners) reads (boundaries s) a
    unfolding exported keyed reads
    one_metered a = go (some a) refl
      where
        own : ℕ → Bool
        own j = eqb (at s.owners j) a

        same : (j : ℕ) (t : Bool) → some a ≡ t → own j ≡ true → some (at s.owners j) ≡ t
        same j t e q = ap some (eqb-true (at s.owners j) a q) ∙ e

        tenths : some a ≡ true → exported s a ≡ 10000 * sum (boundaries s) (λ j. pick (own j) (reads j))
        tenths e =
            sum_eq (boundaries s) (λ j. pick (own j) (referred (at s.exports j) (at s.factors j)))
            (λ j. 10000 * pick (own j) (reads j))
            (λ j l. pick_tenths (own j) _ (reads j)
            (λ q. referred_plain _ _ ((ok.boundary j l).unreferred (plain _ (same j true e q)))
            ∙ ap (λ (x : ℕ). 10000 * x) (sym (pick_true _ (at s.exports j) (same j true e q)))))
            ∙ sum_mul (boundaries s) 10000 (λ j. pick (own j) (reads j))

        go : (t : Bool)
            → some a ≡ t
            → pick t (rounded (exported s a)) ≡ sum (boundaries s) (λ j. pick (own j) (reads j))
        go false e =
            pick_false false (rounded (exported s a)) refl
            ∙ sym (sum_zero (boundaries s) (λ j. pick (own j) (reads j))
            (λ j l. pick_same (own j) (reads j) 0
            (λ q. pick_false _ (at s.exports j) (same j false e q)) ∙ pick_zero _))
        go true e =
            pick_true true (rounded (exported s a)) refl
            ∙ ap rounded (tenths e)
            ∙ rounded_whole (sum (boundaries s) (λ j. pick (own j) (reads j)))

    all_metered : sum (agents s) (λ a. pick (some a) (rounded (exported s a)))
        ≡ sum (boundaries s) (λ j. pick (some (at s.owners j)) (at s.exports j))
    unfolding reads
    all_metered =
        sum_eq (agents s) (λ a. pick (some a) (rounded (exported s a)))
        (λ a. keyed (at s.owners) reads (boundaries s) a) (λ a l. one_metered a)
        ∙ keyed_total (at s.owners) reads (agents s) (boundaries s) (λ j l. (ok.boundary j l).there)

  pub generators_metered : sum (agents s) (delivered s) ≡ generated s
  unfolding generated delivered
  generators_metered = all_metered (λ a. not (retails s a)) (λ a e. not-true (retails s a) e)

  -- ---- small generators: they are generators
  pub small_metered : sum (agents s) (injected s) ≡ small_exports s
  unfolding small_exports injected delivered pick
  small_metered =
      sum_eq (agents s) (injected s) (λ a. pick (outside s a) (rounded (exported s a)))
      (λ a l. go (outside s a) (retails s a) (rounded (exported s a)) (outside_retails s a))
      ∙ all_metered (outside s) (outside_retails s)
    where
      go : (t u : Bool) (x : ℕ) → (t ≡ true → u ≡ false) → pick t (pick (not u) x) ≡ pick t x
      go true true x h = absurd (true≢false (h refl))
      go true false x h = refl
      go false u x h = refl

  -- so the hour's demand is no less than what they deliver
  pub small_within : Balanced s → small_exports s ≤ hour_demand s
  small_within b =
      omega (
        arith,
        small_metered,
        demand_delivered s b,
        sum_le (agents s) (injected s) (delivered s) (λ a l. injected_part s a),
      )
