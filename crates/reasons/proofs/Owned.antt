-- The passes over all contract rows are the sums over the buyer's own: a row of another buyer adds nothing, and the buyer's own rows stand
-- in the sheet's order. Assumes nothing.
use Rattle.std.specs.Prelude.{Ok}
use Prim.Native.Nat.{ℕ, ◌-◌, ◌≤◌, ◌<◌}
use native.Mathlib.Omega.{arith}
use native.Mathlib.Decide.{dec_lt}
use mathlib.Core.Bool.{Bool, ◌&&◌, ◌||◌}
use mathlib.Core.List.{List}
use mathlib.Core.Path.{◌≡◌, refl, ap, ap₂, ◌∙◌, sym}
use lib.Dec.{ltb, eqb}
use lib.ListN.{length}
use borrow.Author.Tests.{lt-ltb, le-ltb, eqb-true}
use Rattle.sums.specs.Sums.{sum, pick}
use Rattle.sums.specs.Lists.{at, total}
use Rattle.sums.proofs.Sums.{sum_eq, sum_zero, sum_term}
use Rattle.sums.proofs.Cut.{sum_few}
use Rattle.sums.proofs.Picks.{pick_both, pick_same, pick_le, pick_lt, pick_ge, pick_zero}
use Rattle.limits.specs.declared.Contract.{Contract}
use Rattle.sheet.specs.Reading.{read_of}
use Rattle.sheet.specs.Asking.{contract_at}
use Rattle.sheet.specs.declared.Counts.{Counts}
use Rattle.deals.specs.Deals.{Deals, count, kind, price, quantity, demanded, stands, ahead_of, rest_of, cheaper_of, group_of}
use Rattle.deals.specs.Hour.{Rows, own_count, own_of}
use Rattle.deals.proofs.Own.{own_place_lem, own_order, count_own, own_kind, own_price, own_rows}
use Rattle.deals.proofs.Demanded.{group_total}
use Rattle.deals.proofs.Rest.{rest_total}
use Rattle.columns.specs.Columns.{columns_of}
use Rattle.columns.proofs.Columns.{contracts_long, buyer_at, deal_at, price_at_lem, quantity_at_lem, sound}
use Rattle.hour.specs.Sheet.{Sheet}
use Rattle.hour.specs.Sound.{Sound}
use Rattle.reasons.specs.Reasons.{contract_reason_by}
use Rattle.reasons.specs.Parts.{ahead, firm, cheaper, beside, part_total, reason_in}

module _ (s : List ℕ) (c : Counts) (e : read_of s ≡ Ok c) (i : ℕ) (l : i < c.contracts) where
  abbrev sheet : Sheet
  sheet = columns_of s c

  abbrev rows : Rows
  rows = sheet.deals

  abbrev me : Contract
  me = contract_at s c i

  -- the buyer, its own contracts, and the place of a row among them
  abbrev b : ℕ
  b = at rows.buyers i

  abbrev own : Deals
  own = own_of rows b

  abbrev place : ℕ → ℕ
  place j = own_count rows.buyers b j

  ok : Sound sheet
  ok = sound s c e

  long : length rows.buyers ≡ c.contracts
  long = ok.whole.buyers ∙ contracts_long s c

  kind_is : kind own (place i) ≡ me.kind
  kind_is = own_kind rows b i (omega (arith, long)) refl ∙ deal_at s c i l

  price_is : price own (place i) ≡ me.price
  price_is = own_price rows b i (omega (arith, long)) refl ∙ price_at_lem s c i l

  -- a sum over the buyer's own contracts, as a pass over all rows: t is the test of a row beside its buyer's
  own_pass : (t : Contract → ℕ → Bool) (f : ℕ → ℕ → ℕ → ℕ → ℕ)
      → ((j : ℕ) → j < c.contracts → at rows.buyers j ≡ b
      → f (at rows.kinds j) (at rows.prices j) (at rows.quantities j) (place j)
      ≡ pick (t (contract_at s c j) j) (contract_at s c j).quantity)
      → sum (count own) (λ k. f (kind own k) (price own k) (quantity own k) k)
      ≡ sum c.contracts (λ j. pick (eqb (contract_at s c j).buyer me.buyer && t (contract_at s c j) j) (contract_at s c j).quantity)
  own_pass t f h =
      own_rows rows b f
      ∙ ap (λ (n : ℕ). sum n (λ j. pick (eqb (at rows.buyers j) b) (part j))) long
      ∙ sum_eq c.contracts (λ j. pick (eqb (at rows.buyers j) b) (part j))
      (λ j. pick (eqb (contract_at s c j).buyer me.buyer && t (contract_at s c j) j) (contract_at s c j).quantity) each
    where
      part : ℕ → ℕ
      part j = f (at rows.kinds j) (at rows.prices j) (at rows.quantities j) (place j)

      each : (j : ℕ) → j < c.contracts
          → pick (eqb (at rows.buyers j) b) (part j)
          ≡ pick (eqb (contract_at s c j).buyer me.buyer && t (contract_at s c j) j) (contract_at s c j).quantity
      each j k =
          pick_same (eqb (at rows.buyers j) b) (part j) (pick (t (contract_at s c j) j) (contract_at s c j).quantity)
          (λ q. h j k (eqb-true (at rows.buyers j) b q))
          ∙ sym (pick_both (eqb (at rows.buyers j) b) (t (contract_at s c j) j) (contract_at s c j).quantity)
          ∙ ap₂ (λ (x y : ℕ). pick (eqb x y && t (contract_at s c j) j) (contract_at s c j).quantity) (buyer_at s c j k)
          (buyer_at s c i l)

  -- ---- kinds 1 and 2

  -- the buyer's own rows keep their order
  place_order : (j : ℕ) → at rows.buyers j ≡ b → ltb (place j) (place i) ≡ ltb j i
  place_order j q = go (dec_lt j i)
    where
      go : Dec (j < i) → ltb (place j) (place i) ≡ ltb j i
      go (yes h) = lt-ltb (place j) (place i) (own_place_lem rows.buyers b j i h q) ∙ sym (lt-ltb j i h)
      go (no h) =
          let k : i ≤ j = omega arith in
          le-ltb (place j) (place i) (own_order rows.buyers b i j k) ∙ sym (le-ltb j i k)

  same_stand : (y k : ℕ) (j : ℕ) → at rows.buyers j ≡ b
      → stands y k (place j) me.price me.kind (place i) ≡ stands y k j me.price me.kind i
  unfolding stands
  same_stand y k j q =
      ap (λ (t : Bool). ltb y me.price || (eqb y me.price && (ltb k me.kind || (eqb k me.kind && t))))
      (place_order j q)

  ahead_is : ahead_of own (place i) ≡ part_total s c me.buyer (ahead me i)
  unfolding ahead_of part_total
  ahead_is =
      rw (kind_is, price_is)
      (own_pass (λ k j. ltb k.kind demanded && stands k.price k.kind j me.price me.kind i)
      (λ kd x q t. pick (ltb kd demanded && stands x kd t me.price me.kind (place i)) q)
      (λ j k q. rw (deal_at s c j k, price_at_lem s c j k, quantity_at_lem s c j k)
      (ap (λ (t : Bool). pick (ltb (contract_at s c j).kind demanded && t) (contract_at s c j).quantity)
      (same_stand (contract_at s c j).price (contract_at s c j).kind j q))))

  firm_is : sum (count own) (λ k. pick (ltb (kind own k) demanded) (quantity own k)) ≡ part_total s c me.buyer firm
  unfolding part_total
  firm_is =
      own_pass (λ k j. ltb k.kind demanded) (λ kd x q t. pick (ltb kd demanded) q)
      (λ j k q. rw (deal_at s c j k, quantity_at_lem s c j k))

  -- a sheet has few contracts, and none is of kind 0
  own_few : count own ≤ 256
  unfolding own_count
  own_few =
      omega (
        arith,
        count_own rows b,
        sum_few (length rows.buyers) (λ j. pick (eqb (at rows.buyers j) b) 1)
            (λ j k. pick_le (eqb (at rows.buyers j) b) 1),
        ok.whole.buyers,
        ok.few.contracts,
      )

  own_known : (k : ℕ) → k < count own → 1 ≤ kind own k
  own_known k h = go (dec_lt (kind own k) 1)
    where
      none : sum (count own) (λ j. pick (ltb (kind own j) 1) 1) ≡ 0
      none =
          own_rows rows b (λ kd x q t. pick (ltb kd 1) 1)
          ∙ sum_zero (length rows.buyers) (λ j. pick (eqb (at rows.buyers j) b) (pick (ltb (at rows.kinds j) 1) 1))
          (λ j g. rw (pick_ge (at rows.kinds j) 1 1 (ok.contract j (omega (arith, ok.whole.buyers))).least)
          (pick_zero (eqb (at rows.buyers j) b)))

      go : Dec (kind own k < 1) → 1 ≤ kind own k
      go (yes z) = absurd (omega (
        arith,
        none,
        sum_term (count own) k (λ j. pick (ltb (kind own j) 1) 1) h,
        pick_lt (kind own k) 1 1 z,
      ))
      go (no z) = omega arith

  rest_is : (d : ℕ) → rest_of own d ≡ d - part_total s c me.buyer firm
  rest_is d = rest_total own d own_few own_known ∙ ap (λ (x : ℕ). d - x) firm_is

  -- ---- kind 3
  cheaper_is : cheaper_of own me.price ≡ part_total s c me.buyer (cheaper me)
  unfolding cheaper_of part_total
  cheaper_is =
      own_pass (λ k j. eqb k.kind demanded && ltb k.price me.price)
      (λ kd x q t. pick (eqb kd demanded && ltb x me.price) q)
      (λ j k q. rw (deal_at s c j k, price_at_lem s c j k, quantity_at_lem s c j k))

  group_is : total (group_of own me.price) ≡ part_total s c me.buyer (beside me)
  unfolding part_total
  group_is =
      group_total own me.price
      ∙ own_pass (λ k j. eqb k.kind demanded && eqb k.price me.price)
      (λ kd x q t. pick (eqb kd demanded && eqb x me.price) q)
      (λ j k q. rw (deal_at s c j k, price_at_lem s c j k, quantity_at_lem s c j k))

  -- THE REASON BY THESE PASSES IS THE CONTRACT'S
  pub reason_is : (d : ℕ) → reason_in s c me i d ≡ contract_reason_by own d (place i)
  unfolding reason_in contract_reason_by
  reason_is d = rw (kind_is, price_is, ahead_is, rest_is d, cheaper_is, group_is)
