-- What the parts of a check find is what the five tests say, and the ways out of each. Assumes nothing.
use Rattle.std.specs.Prelude.{Err, Option, Some, None}
use Rattle.std.specs.Bool.{then_some}
use Prim.Native.Nat.{ℕ, ◌+◌, ◌-◌, ◌≤◌, ◌<◌}
use native.Mathlib.Omega.{arith}
use mathlib.Core.Bool.{Bool, true, false, ◌&&◌}
use mathlib.Core.List.{List}
use mathlib.Core.Logic.{◌⊎◌, inl, inr}
use mathlib.Core.Path.{◌≡◌, refl, ap, ◌∙◌, sym}
use lib.Dec.{eqb}
use lib.ListN.{length, take}
use Rattle.sums.specs.Sums.{sum}
use Rattle.sums.specs.Lists.{at, Filled}
use Rattle.sums.proofs.Sums.{sum_eq, sum_add}
use Rattle.sums.proofs.Lists.{zeros_at, list_to_is}
use Rattle.sums.proofs.Cut.{cut}
use Rattle.sums.proofs.Fill.{front_at, front_long}
use Rattle.limits.specs.Limits.{most_agents, most_offer}
use Rattle.refusals.specs.Refusals.{bad_shares, bad_schedule, bad_price, bad_amounts, bad_lines, refused, refused_unless}
use Rattle.refusals.specs.declared.Refusal.{Refusal}
use Rattle.refusals.proofs.Fine.{else_fine}
use Rattle.merit.specs.Merit.{hour_price}
use Rattle.merit.proofs.Price.{price_most}
use Rattle.hour.specs.Sheet.{Sheet, agents, plants, retails}
use Rattle.hour.specs.Sound.{Sound}
use Rattle.hour.specs.Balance.{consumption, consumed, own_import, entering, losses, injected, small_exports, dispatch_demand_by}
use Rattle.hour.specs.Lines.{own_by, contracted_by}
use Rattle.hour.specs.Answer.{Lent, share_in, schedule_in}
use Rattle.hour.proofs.Bounds.{consumption_le, injected_le, imported_le, exported_le, leaving_le, entering_le}
use Rattle.hour.proofs.Bounds.{imports_within, injects_within, consumed_most}
use Rattle.hour.proofs.Demand.{small_metered}
use Rattle.hour.proofs.Balance.{contracted_by_both, own_by_all}
use Rattle.balance.specs.Balances.{zeros}
use Rattle.statement.specs.Decide.{every}
use Rattle.statement.specs.Points.{demand_in, basis_in, SharesFollow}
use Rattle.statement.specs.Tests.{share_good, shares_good, dearest, schedule_good, price_good, amounts_good, line_good, lines_good}
use Rattle.statement.specs.Tests.{points_verdict}
use Rattle.statement.proofs.Points.{shares_exact}
use Rattle.statement.proofs.Held.{idle_in, share_in_le}
use Rattle.checking.specs.Passes.{room}
use Rattle.checking.specs.Parts.{Spacious, shares_test, Scheduled, schedule_test, Agreed, line_at, Weighs, Demands, trade_verdict}
use Rattle.checking.proofs.Accounts.{every_eq}

-- ---- a number where a test holds
some_told : (b : Bool) (x y : ℕ) → then_some b x ≡ Some y → (b ≡ true) × (x ≡ y)
some_told true x y e = (refl, cc)
some_told false x y e = cc

none_told : (b : Bool) (x : ℕ) → then_some b x ≡ None → b ≡ false
none_told true x e = cc
none_told false x e = refl

-- ---- point 21
consumed_sum : (h : Sheet) → sum (agents h) (consumption h) ≡ consumed h
unfolding consumed
consumed_sum h = refl

losses_le : (h : Sheet) → losses h ≤ entering h
unfolding losses
losses_le h = omega arith

module _ (h : Sheet) (ok : Sound h) (l : Lent) (ks us is js : List ℕ) (x : ℕ) (w : Weighs h ks us is js x) where
  -- all that is consumed
  pub used_sum : sum (agents h) (at us) ≡ consumed h
  unfolding consumed
  used_sum = sum_eq (agents h) (at us) (consumption h) w.used

  pub used_fits : sum (length us) (at us) ≤ room 1
  used_fits = rw w.long.taken (omega (arith, used_sum, consumed_most h ok))

  pub shares_are : (t : ℕ) → t ≡ sum (length us) (at us) → shares_test ks us l.figures (length ks) x t ≡ shares_good h l
  unfolding shares_good share_good retails
  shares_are t e =
      let all : t ≡ consumed h = e ∙ ap (λ (k : ℕ). sum k (at us)) w.long.taken ∙ used_sum in
      rw (w.long.kinds, all, w.losses)
      (ap (λ (b : Bool). b && eqb (sum (agents h) (share_in l)) (losses h))
      (every_eq (agents h) _ _ (λ a m. rw (w.kinds a m, w.used a m))))

  module _ (good : shares_good h l ≡ true) where
    follow : SharesFollow h l
    follow = (shares_exact h l).0 good

    pub demand_fits : (a : ℕ) → a < agents h → at us a + share_in l a ≤ room 1
    demand_fits a m =
        omega (
          arith,
          w.used a m,
          consumption_le h a,
          imported_le h ok a,
          share_in_le h l follow a m,
          losses_le h,
          entering_le h ok,
        )

    pub demands_are : (n : ℕ) → n ≡ agents h → (ds : List ℕ) → Filled 0 zeros ds (length us) (λ a. at us a + share_in l a)
        → Demands h l ks (take n ds) is js
    demands_are n en ds f =
        let g = rw w.long.taken at f in
        let room_in : agents h ≤ most_agents = omega (arith, ok.few.agents) in
        let cell : (a : ℕ) → a < agents h → at (take n ds) a ≡ at us a + share_in l a =
        rw en (front_at zeros ds (agents h) (λ a. at us a + share_in l a) g) in
        record {
          long = record {
            kinds = w.long.kinds;
            taken = rw en (front_long zeros ds (agents h) (λ a. at us a + share_in l a) g room_in);
            imports = w.long.imports;
            injects = w.long.injects;
          };
          kinds = w.kinds;
          demands = λ a m. cell a m ∙ omega (arith, w.used a m);
          small = λ a m. omega (arith, cell a m, demand_fits a m);
          whole =
              omega (
                arith,
                sum_add (agents h) (consumption h) (share_in l),
                consumed_sum h,
                follow.whole,
                consumed_most h ok,
                losses_le h,
                entering_le h ok,
              );
          idle = idle_in h l follow;
          imports = w.imports;
          own =
              omega (
                arith,
                imports_within h,
                leaving_le h ok,
              );
          injects = w.injects;
        }

    pub points_on : (p : ℕ) → points_verdict h p l ≡ trade_verdict h p l
    unfolding points_verdict trade_verdict
    points_on p = rw good

  pub points_21 : (p : ℕ) (q : Refusal) → refused_unless (shares_good h l) bad_shares 0 ≡ Err q → points_verdict h p l ≡ Err q
  unfolding points_verdict
  points_21 p q e = rw e

-- ---- points 22 to 25
module _ (h : Sheet) (ok : Sound h) (l : Lent) (ks ds is js : List ℕ) (w : Demands h l ks ds is js) where
  pub demand_sum : sum (agents h) (at ds) ≡ sum (agents h) (demand_in h l)
  demand_sum = sum_eq (agents h) (at ds) (demand_in h l) w.demands

  pub import_sum : sum (agents h) (at is) ≡ sum (agents h) (own_import h)
  import_sum = sum_eq (agents h) (at is) (own_import h) w.imports

  pub retailers_fit : sum (length ds) (at ds) ≤ room 1
  retailers_fit = rw w.long.taken (omega (arith, demand_sum, w.whole))

  pub generators_fit : sum (length is) (at is) ≤ room 1
  generators_fit = rw w.long.imports (omega (arith, import_sum, w.own))

  pub small_sum : sum (agents h) (at js) ≡ small_exports h
  small_sum = sum_eq (agents h) (at js) (injected h) w.injects ∙ small_metered h ok

  pub smalls_fit : sum (length js) (at js) ≤ room 1
  smalls_fit =
      rw w.long.injects
      (omega (
        arith,
        sum_eq (agents h) (at js) (injected h) w.injects,
        injects_within h,
        entering_le h ok,
      ))

  -- what dispatch has to meet is that of the demand with their shares
  pub target_is : (x y z : ℕ)
      → x ≡ sum (agents h) (at ds)
      → y ≡ sum (agents h) (at is)
      → z ≡ sum (agents h) (at js)
      → x + y - z ≡ dispatch_demand_by h (demand_in h l)
  target_is x y z e f g =
      omega (arith, demand_sum, import_sum, small_sum, sum_add (agents h) (demand_in h l) (own_import h))

  -- the same of the columns as they are, which have a cell an agent
  target_whole : (x y z : ℕ)
      → x ≡ sum (length ds) (at ds)
      → y ≡ sum (length is) (at is)
      → z ≡ sum (length js) (at js)
      → x + y - z ≡ dispatch_demand_by h (demand_in h l)
  target_whole x y z e f g =
      target_is x y z (rw w.long.taken at e) (rw w.long.imports at f) (rw w.long.injects at g)

  -- cells for own energy that hold what no schedule gives, and cells that hold nothing
  pub addable : (os : List ℕ) → Filled 0 zeros os (length ds) (λ a. at ds a + at js a) → Spacious os
  addable os f = record { cells = f.long; small = λ a m. go a (cut a (agents h)) }
    where
      g : Filled 0 zeros os (agents h) (λ a. at ds a + at js a)
      g = rw w.long.taken at f

      go : (a : ℕ) → (a < agents h) ⊎ (agents h ≤ a) → at os a ≤ room 2
      go a (inl m) =
          omega (arith, g.done a m, w.small a m, w.injects a m, injected_le h a, exported_le h ok a)
      go a (inr m) = omega (arith, g.kept a m, zeros_at most_agents a)

  pub none_added : Spacious zeros
  none_added = record { cells = refl; small = λ a m. omega (arith, zeros_at most_agents a) }

  module _ (x y z d : ℕ) (ex : x ≡ sum (length ds) (at ds)) (ey : y ≡ sum (length is) (at is)) (ez : z ≡ sum (length js) (at js))
      (ed : d ≡ x + y - z) (os os₂ : List ℕ) (v : Option ℕ) (f : Filled 0 zeros os (length ds) (λ a. at ds a + at js a))
      (r : Scheduled h d l.schedule os v os₂) where
    e : d ≡ dispatch_demand_by h (demand_in h l)
    e = ed ∙ target_whole x y z ex ey ez

    answer : v ≡ then_some (schedule_good h l) (hour_price (at h.offers) (at h.flags) (schedule_in l) (plants h))
    unfolding schedule_test schedule_good dearest
    answer = r.price ∙ rw e

    pub schedule_none : v ≡ None → schedule_good h l ≡ false
    schedule_none n = none_told _ _ (sym answer ∙ n)

    own_are : (a : ℕ) → a < agents h → at os₂ a ≡ own_by h (basis_in h l) a
    own_are a m =
        r.own a (omega (arith, ok.few.agents)) ∙ omega (arith, (rw w.long.taken at f).done a m, w.demands a m, w.injects a m)
        ∙ own_by_all h ok (basis_in h l) w.idle a m

    module _ (t : ℕ) (s : v ≡ Some t) where
      told : (schedule_good h l ≡ true) × (hour_price (at h.offers) (at h.flags) (schedule_in l) (plants h) ≡ t)
      told = some_told _ _ _ (sym answer ∙ s)

      pub schedule_some : schedule_good h l ≡ true
      schedule_some = told.0

      pub price_are : (p : ℕ) → eqb p t ≡ price_good h p l
      unfolding price_good
      price_are p = rw (← told.1)

      pub price_fits : t ≤ most_offer
      price_fits =
          omega (
            arith,
            told.1,
            price_most (at h.offers) (at h.flags) (schedule_in l) (plants h) most_offer (λ i m. (ok.plant i m).offer),
          )

    module _ (hs : List ℕ) (b : Bool) (g : Agreed h ds l.amounts zeros b hs) where
      pub amounts_are : b ≡ amounts_good h l
      unfolding amounts_good
      amounts_are = rw (list_to_is 0 (demand_in h l) (agents h) ds w.long.taken w.demands) at g.good

      held_are : (a : ℕ) → a < agents h → at hs a ≡ contracted_by h (basis_in h l) a
      held_are a m =
          g.held a (omega (arith, ok.few.agents)) ∙ omega (arith, zeros_at most_agents a)
          ∙ contracted_by_both h ok (basis_in h l) a

      pub lines_are : (p : ℕ) → every (length ks) (line_at ks os₂ is hs p l.figures l.money) ≡ lines_good h p l
      unfolding lines_good line_good retails
      lines_are p =
          rw w.long.kinds
          (every_eq (agents h) _ _ (λ a m. rw (w.kinds a m, own_are a m, w.imports a m, held_are a m)))

  -- ---- the ways out
  module _ (p : ℕ) where
    pub trades_22 : schedule_good h l ≡ false → trade_verdict h p l ≡ refused bad_schedule 0
    unfolding trade_verdict
    trades_22 e = rw e

    module _ (a : schedule_good h l ≡ true) where
      pub trades_23 : (q : Refusal) → refused_unless (price_good h p l) bad_price 0 ≡ Err q → trade_verdict h p l ≡ Err q
      unfolding trade_verdict
      trades_23 q e = rw (a, e)

      module _ (b : price_good h p l ≡ true) where
        pub trades_24 : (q : Refusal) → refused_unless (amounts_good h l) bad_amounts 0 ≡ Err q → trade_verdict h p l ≡ Err q
        unfolding trade_verdict
        trades_24 q e = rw (a, b, e)

        pub trades_25 : amounts_good h l ≡ true → trade_verdict h p l ≡ refused_unless (lines_good h p l) bad_lines 0
        unfolding trade_verdict
        trades_25 e = rw (a, b, e) (else_fine _)
