-- Of a buyer's two sides the demand cuts one at the most, and the other needs no order: its rows are assigned in full where they fit, and
-- get nothing where kinds 1 and 2 are cut and leave nothing for kind 3. Assumes nothing.
use Prim.Native.Nat.{ℕ, ◌+◌, ◌-◌, ◌≤◌, ◌<◌}
use native.Mathlib.Omega.{arith}
use native.Mathlib.Decide.{dec_lt, ℕ_discrete}
use mathlib.Core.Bool.{Bool, cond}
use mathlib.Core.List.{List}
use mathlib.Core.Path.{◌≡◌, sym, ap, ap₂, ◌∙◌}
use lib.ListN.{length}
use borrow.Author.Tests.{lt-ltb, le-ltb}
use Rattle.sums.specs.Lists.{at, Filled}
use Rattle.sums.proofs.Picks.{pick_ne}
use Rattle.limits.specs.Limits.{most_agents}
use Rattle.deals.specs.Deals.{Deals, count, kind, quantity}
use Rattle.deals.specs.Deals.{demanded, amount_at}
use Rattle.deals.specs.Hour.{own_of, own_count, hour_amount}
use Rattle.deals.proofs.Own.{own_lt, own_kind, own_quantity}
use Rattle.deals.proofs.Hours.{hour_is}
use Rattle.contracts.specs.Assign.{count_in, deal_in, deals_in}
use Rattle.contracts.specs.Keys.{Ready}
use Rattle.contracts.specs.Sides.{side_of, held_in, AddedUp, cut_of, side_start, Decided, Cuts}
use Rattle.contracts.specs.Sides.{uncut_of, CutBelow}
use Rattle.contracts.proofs.Decode.{side_demanded}
use Rattle.contracts.proofs.Known.{own_few, own_known}
use Rattle.contracts.proofs.OwnKeys.{firm_sum}
use Rattle.contracts.proofs.Section.{count_is, buyer_in, kind_in_lem, quantity_in}
use Rattle.contracts.proofs.Fitting.{firm_full, asked_full, asked_none}
use Rattle.contracts.proofs.Deciding.{start_firm, start_asked, cut_firm, cut_asked, cut_none}
use Rattle.contracts.proofs.Deciding.{firm_is_cut, asked_is_cut, side_most, tag_cut, tag_not}
use Rattle.contracts.proofs.SideSums.{bounded, kind_most, held_firm, held_asked}

module _ (s ds : List ℕ) (ready : Ready (deals_in s) ds) where
  abbrev own : ℕ → Deals
  own b = own_of (deals_in s) b

  -- what was decided of the totals is what the sides of the section ask for
  pub decided_cuts : (totals decided : List ℕ)
      → AddedUp s (count_in s) totals
      → Decided (length ds) ds totals decided
      → Cuts s ds decided
  decided_cuts totals decided a c =
      record {
        start = λ b l. c.start b l ∙ ap (side_start (at ds b)) (a.each b (omega (arith, ready.agents)));
        cut =
            λ b l. c.cut b l
            ∙ ap₂ (cut_of (at ds b)) (a.each b (omega (arith, ready.agents)))
            (a.each (most_agents + b) (omega (arith, ready.agents)));
        long = c.long ∙ a.long;
      }

  module _ (decided : List ℕ) (c : Cuts s ds decided) where
    -- where the side that is cut begins
    pub begins_firm : (b : ℕ) → b < length ds → at decided (most_agents + b) ≡ 0 → at decided b ≡ at ds b
    begins_firm b l e =
        c.start b l
        ∙ start_firm (at ds b) (held_in s (count_in s) b)
        (firm_is_cut (at ds b) (held_in s (count_in s) b) (held_in s (count_in s) (most_agents + b)) (sym (c.cut b l) ∙ e))

    pub begins_asked : (b : ℕ)
        → b < length ds
        → at decided (most_agents + b) ≡ 1
        → at decided b ≡ at ds b - firm_sum (deals_in s) b
    begins_asked b l e =
        c.start b l
        ∙ start_asked (at ds b) (held_in s (count_in s) b)
        (asked_is_cut (at ds b) (held_in s (count_in s) b) (held_in s (count_in s) (most_agents + b)) (sym (c.cut b l) ∙ e))
        ∙ ap (λ (x : ℕ). at ds b - x) (held_firm s ds ready b (omega (arith, ready.agents)))

    -- a row whose side is not cut
    module _ (j : ℕ) (l : j < count_in s) (not_cut : at decided (most_agents + (deal_in s j).buyer) ≡ side_of (deal_in s j).kind → ⊥) where
      abbrev b : ℕ
      b = (deal_in s j).buyer

      abbrev d : ℕ
      d = at ds (deal_in s j).buyer

      lj : j < length (deals_in s).buyers
      lj = omega (arith, count_is s)

      lb : (deal_in s j).buyer < length ds
      lb = omega (arith, buyer_in s j l, ready.buyer j lj)

      abbrev spot : ℕ
      spot = own_count (deals_in s).buyers (deal_in s j).buyer j

      spot_lt : spot < count (own b)
      spot_lt = own_lt (deals_in s) b j lj (buyer_in s j l)

      spot_kind : kind (own b) spot ≡ (deal_in s j).kind
      spot_kind = own_kind (deals_in s) b j lj (buyer_in s j l) ∙ kind_in_lem s j l

      spot_quantity : quantity (own b) spot ≡ (deal_in s j).quantity
      spot_quantity = own_quantity (deals_in s) b j lj (buyer_in s j l) ∙ quantity_in s j l

      amount : hour_amount (deals_in s) ds j ≡ amount_at (own b) d spot
      amount = hour_is (deals_in s) ds b j lj (buyer_in s j l)

      firm_is : held_in s (count_in s) b ≡ firm_sum (deals_in s) b
      firm_is = held_firm s ds ready b (omega (arith, lb, ready.agents))

      cut_is : at decided (most_agents + b) ≡ cut_of d (held_in s (count_in s) b) (held_in s (count_in s) (most_agents + b))
      cut_is = c.cut b lb

      all : side_of (deal_in s j).kind ≤ at decided (most_agents + b) → uncut_of decided (deal_in s j) ≡ (deal_in s j).quantity
      all h =
          ap (λ (t : Bool). cond t 0 (deal_in s j).quantity)
          (le-ltb (at decided (most_agents + b)) (side_of (deal_in s j).kind) h)

      full : amount_at (own b) d spot ≡ quantity (own b) spot
          → side_of (deal_in s j).kind ≤ at decided (most_agents + b)
          → uncut_of decided (deal_in s j) ≡ hour_amount (deals_in s) ds j
      full e h = all h ∙ sym (amount ∙ e ∙ spot_quantity)

      firm_fits : held_in s (count_in s) b ≤ d → (deal_in s j).kind < demanded → amount_at (own b) d spot ≡ quantity (own b) spot
      firm_fits h k =
          firm_full (own b) d (own_few (deals_in s) ds ready b) (own_known (deals_in s) ds ready b) spot spot_lt
          (omega (arith, firm_is)) (omega (arith, spot_kind))

      uncut_is : uncut_of decided (deal_in s j) ≡ hour_amount (deals_in s) ds j
      uncut_is =
          go (dec_lt d (held_in s (count_in s) b)) (dec_lt (d - held_in s (count_in s) b) (held_in s (count_in s) (most_agents + b)))
          (ℕ_discrete (deal_in s j).kind demanded)
        where
          go : Dec (d < held_in s (count_in s) b)
              → Dec (d - held_in s (count_in s) b < held_in s (count_in s) (most_agents + b))
              → Dec ((deal_in s j).kind ≡ demanded)
              → uncut_of decided (deal_in s j) ≡ hour_amount (deals_in s) ds j
          go (yes f) a (yes k) =
              ap (λ (t : Bool). cond t 0 (deal_in s j).quantity)
              (lt-ltb (at decided (most_agents + b)) (side_of (deal_in s j).kind)
              (omega (
                arith,
                cut_is,
                cut_firm d (held_in s (count_in s) b) (held_in s (count_in s) (most_agents + b)) f,
                side_demanded (deal_in s j).kind k,
              )))
              ∙ sym (amount
              ∙ asked_none (own b) d (own_few (deals_in s) ds ready b) (own_known (deals_in s) ds ready b) spot spot_lt
              (omega (arith, firm_is)) (spot_kind ∙ k))
          go (yes f) a (no k) =
              absurd (not_cut (omega (
                arith,
                cut_is,
                cut_firm d (held_in s (count_in s) b) (held_in s (count_in s) (most_agents + b)) f,
                pick_ne (deal_in s j).kind demanded 1 k,
              )))
          go (no f) (yes a) (yes k) =
              absurd (not_cut (omega (
                arith,
                cut_is,
                cut_asked d (held_in s (count_in s) b) (held_in s (count_in s) (most_agents + b)) (omega arith) a,
                side_demanded (deal_in s j).kind k,
              )))
          go (no f) (yes a) (no k) =
              full (firm_fits (omega arith) (omega (arith, kind_most s ds ready j l)))
              (omega (arith, pick_ne (deal_in s j).kind demanded 1 k))
          go (no f) (no a) (yes k) =
              full
              (asked_full (own b) d (own_few (deals_in s) ds ready b) (own_known (deals_in s) ds ready b) spot spot_lt
              (omega (arith, firm_is, held_asked s ds ready b)) (spot_kind ∙ k))
              (omega (
                arith,
                cut_is,
                cut_none d (held_in s (count_in s) b) (held_in s (count_in s) (most_agents + b)) (omega arith) (omega arith),
                side_most (deal_in s j).kind,
              ))
          go (no f) (no a) (no k) =
              full (firm_fits (omega arith) (omega (arith, kind_most s ds ready j l)))
              (omega (arith, pick_ne (deal_in s j).kind demanded 1 k))

    -- THE ROWS OF SIDES THAT ARE NOT CUT, AND THEN THOSE OF THE OTHERS
    pub cut_full : (start before after : List ℕ)
        → Filled 0 start before (count_in s) (λ i. uncut_of decided (deal_in s i))
        → CutBelow s ds decided (length ds) before after
        → Filled 0 start after (count_in s) (hour_amount (deals_in s) ds)
    cut_full start before after f z =
        record {
          done = λ j l. row j l (ℕ_discrete (at decided (most_agents + (deal_in s j).buyer)) (side_of (deal_in s j).kind));
          kept = λ j l. z.behind j l ∙ f.kept j l;
          long = z.long ∙ f.long;
        }
      where
        row : (j : ℕ)
            → j < count_in s
            → Dec (at decided (most_agents + (deal_in s j).buyer) ≡ side_of (deal_in s j).kind)
            → at after j ≡ hour_amount (deals_in s) ds j
        row j l (yes e) = z.done j l (omega (arith, tag_cut s decided j e, (bounded s ds ready).buyer j l))
        row j l (no e) =
            z.others j l (omega (arith, tag_not s decided j e, ready.agents)) ∙ (f.done j l ∙ uncut_is j l e)

    -- WHERE NO SIDE IS CUT EVERY ROW IS ASSIGNED IN FULL
    pub none_cut_full : (start after : List ℕ)
        → ((b : ℕ) → b < length ds → at decided (most_agents + b) ≡ 2)
        → Filled 0 start after (count_in s) (λ i. (deal_in s i).quantity)
        → Filled 0 start after (count_in s) (hour_amount (deals_in s) ds)
    none_cut_full start after none f =
        record { done = λ j l. f.done j l ∙ row j l (none (deal_in s j).buyer (buyer_lt j l)); kept = f.kept; long = f.long }
      where
        buyer_lt : (j : ℕ) → j < count_in s → (deal_in s j).buyer < length ds
        buyer_lt j l = omega (arith, buyer_in s j l, ready.buyer j (omega (arith, count_is s)))

        row : (j : ℕ)
            → j < count_in s
            → at decided (most_agents + (deal_in s j).buyer) ≡ 2
            → (deal_in s j).quantity ≡ hour_amount (deals_in s) ds j
        row j l e =
            let differs : at decided (most_agents + (deal_in s j).buyer) ≡ side_of (deal_in s j).kind → ⊥ =
            λ z. omega (arith, side_most (deal_in s j).kind) in
            sym (all j l differs (omega (arith, side_most (deal_in s j).kind))) ∙ uncut_is j l differs
