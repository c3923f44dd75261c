-- What the sums by agent and the passes ask of the columns of an accepted sheet holds, and what they find is the sheet's. Assumes nothing.
use Rattle.std.specs.Prelude.{Ok}
use Rattle.std.specs.Bool.{then_some}
use Prim.Native.Nat.{ℕ, ◌+◌, ◌≤◌, ◌<◌}
use native.Mathlib.Omega.{arith}
use mathlib.Core.Bool.{Bool, ◌&&◌}
use mathlib.Core.List.{List}
use mathlib.Core.Path.{◌≡◌, refl, ap, ◌∙◌, sym}
use lib.Dec.{ltb, eqb}
use lib.ListN.{length, take}
use Rattle.sums.specs.Sums.{keyed}
use Rattle.sums.specs.Lists.{at, Filled}
use Rattle.sums.proofs.Sums.{peak_eq}
use Rattle.sums.proofs.Picks.{pick_both}
use Rattle.limits.specs.Limits.{most_agents}
use Rattle.sheet.specs.Reading.{read_of}
use Rattle.sheet.specs.declared.Counts.{Counts}
use Rattle.columns.specs.Columns.{columns_of}
use Rattle.columns.proofs.Columns.{agents_long, plants_long, contracts_long, sound, seller_at, buyer_at, price_at_lem, quantity_at_lem}
use Rattle.merit.specs.Merit.{hour_price}
use Rattle.hour.specs.Sheet.{Sheet, plants, contracts}
use Rattle.hour.specs.Sound.{Sound, ContractSound}
use Rattle.statement.specs.Decide.{every}
use Rattle.statement.specs.Tests.{order_test}
use Rattle.checking.specs.Passes.{room}
use Rattle.limits.specs.declared.Contract.{Contract}
use Rattle.sheet.specs.Asking.{contract_at}
use Rattle.sums.proofs.Lists.{list_to_eq}
use Rattle.sums.proofs.Fill.{front_at, front_long}
use Rattle.sums.proofs.Keyed.{keyed_eq}
use Rattle.checking.specs.Accounts.{no_contract, no_contracts, deal, rows_from, Dealt}
use Rattle.checking.specs.Parts.{Spacious, Holdable, Holding, CountableWide, Totalled, RanTo, schedule_test}
use Rattle.checking.specs.declared.plants.Run.{Run}

module _ (s : List ℕ) (c : Counts) (e : read_of s ≡ Ok c) where
  abbrev h : Sheet
  h = columns_of s c

  ok : Sound (columns_of s c)
  ok = sound s c e

  -- ---- the contracts of an accepted sheet
  module _ (all : List Contract) (f : Filled no_contract no_contracts all c.contracts (contract_at s c)) where
    abbrev rs : List Contract
    rs = take c.contracts all

    n : length rs ≡ c.contracts
    n = front_long no_contracts all c.contracts (contract_at s c) f (omega (arith, ok.few.contracts, contracts_long s c))

    is : (j : ℕ) → j < c.contracts → deal rs j ≡ contract_at s c j
    is = front_at no_contracts all c.contracts (contract_at s c) f

    buyer_is : (j : ℕ) → j < c.contracts → (deal rs j).buyer ≡ at h.deals.buyers j
    buyer_is j l = ap (λ (d : Contract). d.buyer) (is j l) ∙ sym (buyer_at s c j l)

    seller_is : (j : ℕ) → j < c.contracts → (deal rs j).seller ≡ at h.sellers j
    seller_is j l = ap (λ (d : Contract). d.seller) (is j l) ∙ sym (seller_at s c j l)

    there : (j : ℕ) → j < c.contracts → ContractSound h j
    there j l = ok.contract j (omega (arith, contracts_long s c))

    pub deals_are : rows_from rs ≡ h.deals
    unfolding rows_from columns_of
    deals_are =
        rw (
          n,
          list_to_eq (λ j. (deal rs j).buyer) (λ j. (contract_at s c j).buyer) c.contracts (λ j l. ap (λ (d : Contract). d.buyer) (is j l)),
          list_to_eq (λ j. (deal rs j).kind) (λ j. (contract_at s c j).kind) c.contracts (λ j l. ap (λ (d : Contract). d.kind) (is j l)),
          list_to_eq (λ j. (deal rs j).price) (λ j. (contract_at s c j).price) c.contracts (λ j l. ap (λ (d : Contract). d.price) (is j l)),
          list_to_eq (λ j. (deal rs j).quantity) (λ j. (contract_at s c j).quantity) c.contracts
              (λ j l. ap (λ (d : Contract). d.quantity) (is j l)),
        )

    module _ (xs : List ℕ) (long : c.contracts ≤ length xs) where
      pub dealt : (ds : List ℕ) → length ds ≡ c.agents → ((j : ℕ) → at xs j ≤ room 1) → Dealt rs xs ds
      dealt ds m small =
          let rows : length rs ≡ c.contracts = n in
          record {
            placed = record {
              few = omega (arith, ok.few.contracts, contracts_long s c);
              amounts = omega arith;
              buyer = λ j l. omega (arith, buyer_is j (omega arith), (there j (omega arith)).buyer_there, ok.few.agents);
              small = λ j l. (
                omega (
                  arith,
                  ap (λ (d : Contract). d.price) (is j (omega arith)),
                  price_at_lem s c j (omega arith),
                  (there j (omega arith)).price,
                ),
                omega (
                  arith,
                  ap (λ (d : Contract). d.quantity) (is j (omega arith)),
                  quantity_at_lem s c j (omega arith),
                  (there j (omega arith)).quantity,
                ),
                small j,
              );
            };
            agents = omega (arith, ok.few.agents, agents_long s c);
            buyer = λ j l. omega (arith, buyer_is j (omega arith), (there j (omega arith)).buyer_there, agents_long s c);
          }

      pub holdable : (before : List ℕ) → Spacious before → Holdable rs xs before
      holdable before d =
          let rows : length rs ≡ c.contracts = n in
          record {
            few = omega (arith, ok.few.contracts, contracts_long s c);
            long = omega arith;
            buyer = λ j l. omega (arith, buyer_is j (omega arith), (there j (omega arith)).buyer_there, ok.few.agents);
            seller = λ j l. omega (arith, seller_is j (omega arith), (there j (omega arith)).seller_there, ok.few.agents);
            cells = d;
          }

      pub held_is : (before after : List ℕ) → Holding rs xs before after → (a : ℕ) → a < most_agents
          → at after a ≡ keyed (at h.deals.buyers) (at xs) (contracts h) a
          + keyed (at h.sellers) (at xs) (contracts h) a + at before a
      held_is before after t a m =
          let k : contracts h ≡ c.contracts = contracts_long s c in
          let x : at after a ≡ keyed (λ j. (deal rs j).buyer) (at xs) c.contracts a
          + keyed (λ j. (deal rs j).seller) (at xs) c.contracts a + at before a = rw n at (t.each a m) in
          rw k
          (omega (
            arith,
            x,
            keyed_eq (λ j. (deal rs j).buyer) (at h.deals.buyers) (at xs) (at xs) c.contracts a buyer_is (λ j l. refl),
            keyed_eq (λ j. (deal rs j).seller) (at h.sellers) (at xs) (at xs) c.contracts a seller_is (λ j l. refl),
          ))

  -- ---- its plants
  module _ (qs : List ℕ) (long : c.plants ≤ length qs) where
    pub count_holders : (hs before : List ℕ) → hs ≡ h.holders → Spacious before → CountableWide hs qs before
    count_holders hs before q d =
        rw q
        (record {
          few = omega (arith, ok.few.plants);
          long = omega (arith, plants_long s c);
          agent = λ j m. omega (arith, (ok.plant j m).there, ok.few.agents);
          cells = d.cells;
          small = λ a m. omega (arith, d.small a m);
        })

    pub own_is : (hs before after : List ℕ) → hs ≡ h.holders → Totalled hs qs before after → (a : ℕ) → a < most_agents
        → at after a ≡ keyed (at h.holders) (at qs) (plants h) a + at before a
    own_is hs before after q t a m = rw q at (t.each a m)

    module _ (ts ms ps vs : List ℕ) (et : ts ≡ h.flags) (em : ms ≡ h.must_run) (ep : ps ≡ h.offers) (ev : vs ≡ h.available)
      where
        module _ (v : Run) (r : RanTo ts ms ps vs qs (length ts) v) where
          ran : RanTo h.flags h.must_run h.offers h.available qs (plants h) v
          ran = rw ok.whole.flags at (rw (et, em, ep, ev) at r)

          priced : v.price ≡ hour_price (at h.offers) (at h.flags) (at qs) (plants h)
          unfolding hour_price
          priced =
              ran.price ∙ peak_eq (plants h) _ _
              (λ i m. pick_both (eqb (at h.flags i) 0) (ltb 0 (at qs i)) (at h.offers i))

          pub schedule_is : (o : Bool) (d : ℕ)
              → o ≡ every (length ts) (λ i. order_test v.dearest (at ps i) (at vs i) (at qs i))
              → then_some (v.good && eqb v.total d && o) v.price
              ≡ then_some (schedule_test h d qs) (hour_price (at h.offers) (at h.flags) (at qs) (plants h))
          unfolding schedule_test
          schedule_is o d q =
              let p : o ≡ every (plants h) (λ i. order_test v.dearest (at h.offers i) (at h.available i) (at qs i)) =
              rw ok.whole.flags at (rw (et, ep, ev) at q) in
              rw (priced, p, ran.good, ran.total, ran.dearest)
