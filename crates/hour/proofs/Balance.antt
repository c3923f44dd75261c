-- Duty 3, of an accepted sheet that passes refusals 7 to 9: possible, cheapest and balanced. Assumes nothing.
use Rattle.std.specs.Prelude.{Ok}
use Prim.Native.Nat.{ℕ, ◌+◌, ◌-◌, ◌≤◌, ◌<◌}
use native.Mathlib.Omega.{arith}
use native.Mathlib.Decide.{dec_lt}
use mathlib.Core.Bool.{Bool, true, false, not, cond, false≢true, true≢false}
use mathlib.Core.Logic.{◌↔◌, ◌⊎◌, inl, inr}
use mathlib.Core.Path.{◌≡◌, refl, ap, ◌∙◌, sym}
use lib.IntN.{pos}
use Rattle.sums.specs.Sums.{sum, pick, keyed}
use Rattle.sums.specs.Lists.{at}
use Rattle.sums.proofs.Sums.{sum_eq, sum_add}
use Rattle.sums.proofs.Picks.{pick_false}
use Rattle.sums.proofs.Keyed.{keyed_absent, keyed_total}
use Rattle.merit.specs.Merit.{Possible, cost}
use Rattle.merit.proofs.MustRun.{ideal_possible, ideal_least, ideal_none}
use Rattle.hour.specs.Sheet.{Sheet, agents, plants, contracts, retails, outside}
use Rattle.hour.specs.Sound.{Sound}
use Rattle.hour.specs.Balance.{rounded, imported, delivered, consumption, own_import, commercial, demand_by}
use Rattle.hour.specs.Balance.{hour_demand, injected, small_exports, dispatch_demand_by, dispatch_demand}
use Rattle.hour.specs.Lines.{scheduled, bolsa_price, amount, Basis, own_by, contracted_by, bought_of}
use Rattle.hour.specs.Lines.{sold_of, basis_of, own, contracted, bought, sold, money_of, money}
use Rattle.hour.specs.Signed.{signed_sum}
use Rattle.hour.specs.Answer.{cover_verdict}
use Rattle.refusals.proofs.Fine.{not_fine}
use Rattle.hour.proofs.Verdicts.{Balanced, covered, cover_fine, Uncovered, cover_told}
use Rattle.hour.proofs.Demand.{generator_consumption, generator_share, outside_retails, small_metered, small_within}
use Rattle.hour.proofs.Money.{money_sum, money_even}

-- ---- refusals 10 and 13, and the schedule
module _ (s : Sheet) (ok : Sound s) where
  -- what the plants can deliver in the hour: each from its must-run to its availability
  abbrev pub CanDeliver : (ℕ → ℕ) → Type 0
  CanDeliver q = Possible (at s.must_run) (at s.available) (plants s) (dispatch_demand s) q

  runs_within : (i : ℕ) → i < plants s → at s.must_run i ≤ at s.available i
  runs_within i l = (ok.plant i l).must_run

  -- refusal 10 or 13 is given exactly if no schedule is possible
  pub refused_exactly : Uncovered s ↔ ((q : ℕ → ℕ) → CanDeliver q → ⊥)
  refused_exactly = (λ h. none.0 (outside h (dec_lt a d) (dec_lt d m)), λ h. told (none.1 h) (cover_told s))
    where
      a : ℕ
      a = sum (plants s) (at s.available)

      m : ℕ
      m = sum (plants s) (at s.must_run)

      d : ℕ
      d = dispatch_demand s

      none : ((a < d) ⊎ (d < m)) ↔ ((q : ℕ → ℕ) → CanDeliver q → ⊥)
      none = ideal_none (at s.offers) (at s.must_run) (at s.available) (plants s) d runs_within

      fine : cover_verdict s ≡ Ok tt → Uncovered s → ⊥
      fine e (inl h) = not_fine _ (sym h ∙ e)
      fine e (inr h) = not_fine _ (sym h ∙ e)

      outside : Uncovered s → Dec (a < d) → Dec (d < m) → (a < d) ⊎ (d < m)
      outside h (yes l) r = inl l
      outside h (no l) (yes r) = inr r
      outside h (no l) (no r) = absurd (fine (cover_fine s (omega arith) (omega arith)) h)

      told : (a < d) ⊎ (d < m) → (cover_verdict s ≡ Ok tt) ⊎ Uncovered s → Uncovered s
      told h (inr u) = u
      told (inl h) (inl e) = absurd (omega (arith, (covered s e).enough))
      told (inr h) (inl e) = absurd (omega (arith, (covered s e).runs))

  module _ (fine : cover_verdict s ≡ Ok tt) where
    -- the schedule is possible
    pub schedule_possible : CanDeliver (scheduled s)
    unfolding scheduled
    schedule_possible =
        let c = covered s fine in
        ideal_possible (at s.offers) (at s.must_run) (at s.available) (plants s) (dispatch_demand s) runs_within
        c.runs c.enough

    -- no possible schedule costs less at the offer prices
    pub schedule_cheapest : (q : ℕ → ℕ)
        → CanDeliver q
        → cost (at s.offers) (plants s) (scheduled s) ≤ cost (at s.offers) (plants s) q
    unfolding scheduled
    schedule_cheapest =
        let c = covered s fine in
        ideal_least (at s.offers) (at s.must_run) (at s.available) (plants s) (dispatch_demand s) runs_within
        c.runs c.enough

-- ---- rows of one kind of agent: an agent of the other kind has none
keyed_kind : (t : ℕ → Bool) (key v : ℕ → ℕ) (m : ℕ) (b : Bool)
    → ((j : ℕ) → j < m → t (key j) ≡ b)
    → (a : ℕ)
    → t a ≡ not b
    → keyed key v m a ≡ 0
keyed_kind t key v m true h a e = keyed_absent key v m a (λ j l q. false≢true (sym e ∙ (sym (ap t q) ∙ h j l)))
keyed_kind t key v m false h a e = keyed_absent key v m a (λ j l q. false≢true (sym (sym (ap t q) ∙ h j l) ∙ e))

-- ---- the lines, worked out from any demands, schedule and amounts t: the laws of this section ask no more than they name

-- what agent a's plants are scheduled to deliver, and what it holds as buyer and as seller
module _ (s : Sheet) (t : Basis) where
  abbrev made : ℕ → ℕ
  made a = keyed (at s.holders) t.schedule (plants s) a

  abbrev buys : ℕ → ℕ
  buys a = keyed (at s.deals.buyers) t.amount (contracts s) a

  abbrev sells : ℕ → ℕ
  sells a = keyed (at s.sellers) t.amount (contracts s) a

-- generators have no commercial demand
abbrev pub Idle : Sheet → (demand : ℕ → ℕ) → Type 0
Idle s demand = (a : ℕ) → a < agents s → retails s a ≡ false → demand a ≡ 0

module _ (s : Sheet) (ok : Sound s) where
  retailer_import : (a : ℕ) → retails s a ≡ true → own_import s a ≡ 0
  unfolding own_import
  retailer_import a e = pick_false (not (retails s a)) (rounded (imported s a)) (ap not e)

  inside_injects : (a : ℕ) → outside s a ≡ false → injected s a ≡ 0
  unfolding injected
  inside_injects a e = pick_false (outside s a) (delivered s a) e

  retailer_injects : (a : ℕ) → retails s a ≡ true → injected s a ≡ 0
  retailer_injects a e = inside_injects a (not_so (outside s a) (λ f. true≢false (sym e ∙ outside_retails s a f)))
    where
      not_so : (t : Bool) → (t ≡ true → ⊥) → t ≡ false
      not_so true n = absurd (n refl)
      not_so false n = refl

  module _ (t : Basis) where
    retailer_made : (a : ℕ) → retails s a ≡ true → made s t a ≡ 0
    retailer_made a e = keyed_kind (retails s) (at s.holders) t.schedule (plants s) false (λ i l. (ok.plant i l).generator) a e

    outside_made : (a : ℕ) → outside s a ≡ true → made s t a ≡ 0
    outside_made a e = keyed_kind (outside s) (at s.holders) t.schedule (plants s) false (λ i l. (ok.plant i l).inside) a e

    retailer_sells : (a : ℕ) → retails s a ≡ true → sells s t a ≡ 0
    retailer_sells a e = keyed_kind (retails s) (at s.sellers) t.amount (contracts s) false (λ j l. (ok.contract j l).generator) a e

    generator_buys : (a : ℕ) → retails s a ≡ false → buys s t a ≡ 0
    generator_buys a e =
        keyed_kind (retails s) (at s.deals.buyers) t.amount (contracts s) true (λ j l. (ok.contract j l).retailer) a e

    -- nobody does both: what an agent bought and what it sold under contract, together, are what it holds
    pub contracted_by_both : (a : ℕ) → buys s t a + sells s t a ≡ contracted_by s t a
    contracted_by_both a = go (retails s a) refl
      where
        go : (b : Bool) → retails s a ≡ b → buys s t a + sells s t a ≡ cond b (buys s t a) (sells s t a)
        go true e = omega (arith, retailer_sells a e)
        go false e = omega (arith, generator_buys a e)

    all_made : sum (agents s) (made s t) ≡ sum (plants s) t.schedule
    all_made = keyed_total (at s.holders) t.schedule (agents s) (plants s) (λ i l. (ok.plant i l).there)

    all_buys : sum (agents s) (buys s t) ≡ sum (contracts s) t.amount
    all_buys = keyed_total (at s.deals.buyers) t.amount (agents s) (contracts s) (λ j l. (ok.contract j l).buyer_there)

    all_sells : sum (agents s) (sells s t) ≡ sum (contracts s) t.amount
    all_sells = keyed_total (at s.sellers) t.amount (agents s) (contracts s) (λ j l. (ok.contract j l).seller_there)

    -- the amounts contracted, summed by sellers and by buyers
    pub sellers_by : sum (agents s) (λ a. pick (not (retails s a)) (contracted_by s t a)) ≡ sum (contracts s) t.amount
    unfolding pick
    sellers_by =
        sum_eq (agents s) (λ a. pick (not (retails s a)) (contracted_by s t a)) (sells s t) (λ a l. go a (retails s a) refl) ∙ all_sells
      where
        go : (a : ℕ) (b : Bool) → retails s a ≡ b → pick (not b) (cond b (buys s t a) (sells s t a)) ≡ sells s t a
        go a true e = sym (retailer_sells a e)
        go a false e = refl

    pub buyers_by : sum (agents s) (λ a. pick (retails s a) (contracted_by s t a)) ≡ sum (contracts s) t.amount
    unfolding pick
    buyers_by = sum_eq (agents s) (λ a. pick (retails s a) (contracted_by s t a)) (buys s t) (λ a l. go a (retails s a) refl) ∙ all_buys
      where
        go : (a : ℕ) (b : Bool) → retails s a ≡ b → pick b (cond b (buys s t a) (sells s t a)) ≡ buys s t a
        go a true e = refl
        go a false e = sym (generator_buys a e)

    module _ (idle : Idle s t.demand) where
      -- nobody has two of them: an agent's commercial demand, what a small generator delivers and what an agent's plants are scheduled
      -- to deliver, together, are its own energy
      pub own_by_all : (a : ℕ) → a < agents s → made s t a + (t.demand a + injected s a) ≡ own_by s t a
      own_by_all a l = go (retails s a) (outside s a) refl refl
        where
          go : (b o : Bool) → retails s a ≡ b → outside s a ≡ o
              → made s t a + (t.demand a + injected s a) ≡ cond b (t.demand a) (cond o (injected s a) (made s t a))
          go true o e f = omega (arith, retailer_made a e, retailer_injects a e)
          go false true e f = omega (arith, outside_made a f, idle a l e)
          go false false e f = omega (arith, idle a l e, inside_injects a f)

      -- lines that have this own energy and these contracts
      module _ (o h : ℕ → ℕ) (owns : (a : ℕ) → a < agents s → o a ≡ own_by s t a)
          (holds : (a : ℕ) → a < agents s → h a ≡ contracted_by s t a) where
        -- one agent: what it buys and what others owe to it, against what it sells and what it owes
        even : (a : ℕ) → a < agents s
            → bought_of s o h a + (made s t a + injected s a + buys s t a) ≡ sold_of s o h a + (t.demand a + own_import s a + sells s t a)
        even a l = go (retails s a) refl (owns a l ∙ sym (own_by_all a l)) (holds a l)
          where
            go : (b : Bool) → retails s a ≡ b → o a ≡ made s t a + (t.demand a + injected s a)
                → h a ≡ cond b (buys s t a) (sells s t a)
                → cond b (o a - h a) (h a - o a + own_import s a) + (made s t a + injected s a + buys s t a)
                ≡ cond b (h a - o a) (o a - h a) + (t.demand a + own_import s a + sells s t a)
            go true e eo eh = omega (arith, retailer_made a e, retailer_injects a e, retailer_sells a e, retailer_import a e)
            go false e eo eh = omega (arith, generator_buys a e, idle a l e)

        module _ (met : sum (plants s) t.schedule ≡ dispatch_demand_by s t.demand)
            (enough : small_exports s ≤ demand_by s t.demand) where
          -- the kWh bought over all agents equal the kWh sold
          pub bought_sold_by : sum (agents s) (bought_of s o h) ≡ sum (agents s) (sold_of s o h)
          bought_sold_by =
              let n = agents s in
              omega (
                arith,
                sum_eq n (λ a. bought_of s o h a + (made s t a + injected s a + buys s t a))
                    (λ a. sold_of s o h a + (t.demand a + own_import s a + sells s t a)) even,
                sum_add n (bought_of s o h) (λ a. made s t a + injected s a + buys s t a),
                sum_add n (sold_of s o h) (λ a. t.demand a + own_import s a + sells s t a),
                sum_add n (λ a. made s t a + injected s a) (buys s t),
                sum_add n (made s t) (injected s),
                sum_add n (λ a. t.demand a + own_import s a) (sells s t),
                all_made,
                all_buys,
                all_sells,
                small_metered s ok,
                met,
                enough,
              )

-- as much sold as bought over all agents, the money sums to 0, whatever the price
pub money_none_by : (n : ℕ) (sold bought : ℕ → ℕ) (p : ℕ)
    → sum n bought ≡ sum n sold
    → signed_sum n (λ a. money_of (sold a) (bought a) p) ≡ pos 0
money_none_by n sold bought p e = money_sum n sold bought p ∙ money_even (sum n sold) (sum n bought) p (sym e)

-- ---- the lines of the hour itself
module _ (s : Sheet) (ok : Sound s) where
  pub contracted_both : (a : ℕ)
      → keyed (at s.deals.buyers) (amount s) (contracts s) a + keyed (at s.sellers) (amount s) (contracts s) a ≡ contracted s a
  unfolding contracted
  contracted_both = contracted_by_both s ok (basis_of s)

  -- the amounts contracted, summed by buyers and by sellers
  pub contracted_sellers : sum (agents s) (λ a. pick (not (retails s a)) (contracted s a)) ≡ sum (contracts s) (amount s)
  unfolding contracted
  contracted_sellers = sellers_by s ok (basis_of s)

  pub contracted_buyers : sum (agents s) (λ a. pick (retails s a) (contracted s a)) ≡ sum (contracts s) (amount s)
  unfolding contracted
  contracted_buyers = buyers_by s ok (basis_of s)

  generator_demand : Idle s (commercial s)
  unfolding commercial consumption
  generator_demand a l e =
      omega (arith, generator_consumption s a e, generator_share s a l e)

  pub own_all : (a : ℕ)
      → a < agents s
      → keyed (at s.holders) (scheduled s) (plants s) a + (commercial s a + injected s a) ≡ own s a
  unfolding own
  own_all = own_by_all s ok (basis_of s) generator_demand

  module _ (fine : cover_verdict s ≡ Ok tt) where
    -- the schedules sum to the hour's demand less small generators' exports
    pub schedule_met : sum (plants s) (scheduled s) ≡ dispatch_demand s
    schedule_met = (schedule_possible s ok fine).meets

    -- the kWh bought over all agents equal the kWh sold
    pub bought_sold : Balanced s → sum (agents s) (bought s) ≡ sum (agents s) (sold s)
    unfolding bought sold own contracted hour_demand dispatch_demand
    bought_sold b =
        bought_sold_by s ok (basis_of s) generator_demand (own s) (contracted s) (λ a l. refl) (λ a l. refl) schedule_met
        (small_within s ok b)

    -- the money over all agents sums to 0
    pub money_none : Balanced s → signed_sum (agents s) (money s) ≡ pos 0
    unfolding money
    money_none b = money_none_by (agents s) (sold s) (bought s) (bolsa_price s) (bought_sold b)
