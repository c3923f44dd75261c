-- What the two sides of each buyer hold, added up row by row in a cell each: the cells have what the buyer's own contracts of kinds 1 and
-- 2, and of kind 3, hold together. Assumes nothing.
use Prim.Native.Nat.{ℕ, ◌+◌, ◌*◌, ◌≤◌, ◌<◌}
use native.Mathlib.Omega.{arith}
use native.Mathlib.Decide.{dec_lt, ℕ_discrete}
use mathlib.Core.List.{List}
use mathlib.Core.Path.{◌≡◌, sym, ap, ◌∙◌}
use lib.Dec.{ltb, eqb}
use lib.ListN.{length, set, replicate, length-set, length-replicate, get_or-replicate}
use Rattle.sums.specs.Sums.{sum, pick, keyed}
use Rattle.sums.specs.Lists.{at}
use Rattle.sums.proofs.Sums.{sum_eq}
use Rattle.sums.proofs.Picks.{pick_eq, pick_ne, pick_lt, pick_ge, pick_zero}
use Rattle.sums.proofs.Keyed.{keyed_none, keyed_most, keyed_put}
use Rattle.limits.specs.Limits.{most_agents}
use Rattle.limits.specs.declared.Contract.{Contract}
use Rattle.deals.specs.Deals.{Deals, count, kind, quantity}
use Rattle.deals.specs.Deals.{demanded}
use Rattle.deals.specs.Hour.{own_of}
use Rattle.deals.proofs.Own.{own_rows}
use Rattle.contracts.specs.Assign.{count_in, deal_in, deals_in}
use Rattle.contracts.specs.Keys.{Ready}
use Rattle.contracts.specs.Sides.{Bounded, side_cell, held_in, BySide}
use Rattle.contracts.proofs.Decode.{side_demanded, side_firm}
use Rattle.contracts.proofs.OwnKeys.{firm_sum}
use Rattle.contracts.proofs.Section.{count_is, few_rows_lem, buyer_in, kind_in_lem, price_in_lem, quantity_in}

-- ---- what is added up by side
module _ (s : List ℕ) (f : ℕ → ℕ) (cells : ℕ) where
  pub added_none : BySide s f cells 0 (replicate cells 0)
  added_none =
      record {
        each = λ b l. get_or-replicate cells b 0 0 l ∙ sym (keyed_none (λ j. side_cell (deal_in s j)) f b);
        long = length-replicate {A = ℕ} cells 0;
      }

  module _ (l : List ℕ) (n v : ℕ) (in_cells : v < cells) (a : BySide s f cells n l) where
    pub added_most : (most : ℕ) → ((j : ℕ) → j < n → f j ≤ most) → at l v ≤ most * n
    added_most most h = omega (arith, a.each v in_cells, keyed_most (λ j. side_cell (deal_in s j)) f n v most h)

    pub added_more : (q : ℕ) → v ≡ side_cell (deal_in s n) → q ≡ f n → BySide s f cells (n + 1) (set l v (at l v + q))
    added_more q e g =
        record {
          each = keyed_put (λ j. side_cell (deal_in s j)) f n cells l v q e g in_cells a.long a.each;
          long = length-set l v (at l v + q) ∙ a.long;
        }

-- ---- the rows of a section
module _ (s ds : List ℕ) (ready : Ready (deals_in s) ds) where
  pub bounded : Bounded s (length ds)
  bounded =
      record {
        few = few_rows_lem s ds ready;
        most = ready.agents;
        buyer = λ i l. omega (arith, buyer_in s i l, ready.buyer i (omega (arith, count_is s)));
        price = λ i l. omega (arith, price_in_lem s i l, ready.price i (omega (arith, count_is s)));
      }

  abbrev own : ℕ → Deals
  own b = own_of (deals_in s) b

  abbrev pub asked_sum : ℕ → ℕ
  asked_sum b = sum (count (own b)) (λ k. pick (eqb (kind (own b) k) demanded) (quantity (own b) k))

  pub kind_most : (j : ℕ) → j < count_in s → (deal_in s j).kind ≤ demanded
  kind_most j l = omega (arith, kind_in_lem s j l, ready.most j (omega (arith, count_is s)))

  -- a sum over a buyer's own contracts, by the rows of the section
  own_in_lem : (b : ℕ) (f : ℕ → ℕ → ℕ)
      → sum (count (own b)) (λ k. f (kind (own b) k) (quantity (own b) k))
      ≡ sum (count_in s) (λ j. pick (eqb (deal_in s j).buyer b) (f (deal_in s j).kind (deal_in s j).quantity))
  own_in_lem b f =
      own_rows (deals_in s) b (λ k x q u. f k q)
      ∙ ap (λ (n : ℕ). sum n (λ j. pick (eqb (at (deals_in s).buyers j) b)
      (f (at (deals_in s).kinds j) (at (deals_in s).quantities j)))) (count_is s)
      ∙ sum_eq (count_in s)
      (λ j. pick (eqb (at (deals_in s).buyers j) b) (f (at (deals_in s).kinds j) (at (deals_in s).quantities j)))
      (λ j. pick (eqb (deal_in s j).buyer b) (f (deal_in s j).kind (deal_in s j).quantity))
      (λ j l. rw (buyer_in s j l, kind_in_lem s j l, quantity_in s j l))

  -- the cells hold what the buyer's own contracts of each side do
  pub held_firm : (b : ℕ) → b < most_agents → held_in s (count_in s) b ≡ firm_sum (deals_in s) b
  unfolding keyed
  held_firm b m =
      sum_eq (count_in s) (λ j. pick (eqb (side_cell (deal_in s j)) b) (deal_in s j).quantity)
      (λ j. pick (eqb (deal_in s j).buyer b) (pick (ltb (deal_in s j).kind demanded) (deal_in s j).quantity))
      (λ j l. each (deal_in s j) (dec_lt (deal_in s j).kind demanded) (kind_most j l))
      ∙ sym (own_in_lem b (λ k q. pick (ltb k demanded) q))
    where
      each : (k : Contract)
          → Dec (k.kind < demanded)
          → k.kind ≤ demanded
          → pick (eqb (side_cell k) b) k.quantity ≡ pick (eqb k.buyer b) (pick (ltb k.kind demanded) k.quantity)
      each k (yes h) h3 =
          let z : side_cell k ≡ k.buyer = omega (arith, side_firm k.kind h) in
          ap (λ (x : ℕ). pick (eqb x b) k.quantity) z
          ∙ sym (ap (pick (eqb k.buyer b)) (pick_lt k.kind demanded k.quantity h))
      each k (no h) h3 =
          pick_ne (side_cell k) b k.quantity (λ e. omega (arith, side_demanded k.kind (omega arith)))
          ∙ sym (ap (pick (eqb k.buyer b)) (pick_ge k.kind demanded k.quantity (omega arith))
          ∙ pick_zero (eqb k.buyer b))

  pub held_asked : (b : ℕ) → held_in s (count_in s) (most_agents + b) ≡ asked_sum b
  unfolding keyed
  held_asked b =
      sum_eq (count_in s) (λ j. pick (eqb (side_cell (deal_in s j)) (most_agents + b)) (deal_in s j).quantity)
      (λ j. pick (eqb (deal_in s j).buyer b) (pick (eqb (deal_in s j).kind demanded) (deal_in s j).quantity))
      (λ j l. each (deal_in s j) (ℕ_discrete (deal_in s j).kind demanded) (ℕ_discrete (deal_in s j).buyer b)
      (omega (arith, bounded.buyer j l, ready.agents)))
      ∙ sym (own_in_lem b (λ k q. pick (eqb k demanded) q))
    where
      each : (k : Contract)
          → Dec (k.kind ≡ demanded)
          → Dec (k.buyer ≡ b)
          → k.buyer < most_agents
          → pick (eqb (side_cell k) (most_agents + b)) k.quantity
          ≡ pick (eqb k.buyer b) (pick (eqb k.kind demanded) k.quantity)
      each k (yes h) (yes e) m =
          pick_eq (side_cell k) (most_agents + b) k.quantity (omega (arith, side_demanded k.kind h))
          ∙ sym (pick_eq k.buyer b _ e ∙ pick_eq k.kind demanded k.quantity h)
      each k (yes h) (no e) m =
          pick_ne (side_cell k) (most_agents + b) k.quantity (λ z. e (omega (arith, side_demanded k.kind h)))
          ∙ sym (pick_ne k.buyer b _ e)
      each k (no h) e m =
          pick_ne (side_cell k) (most_agents + b) k.quantity (λ z. omega (arith, pick_ne k.kind demanded 1 h))
          ∙ sym (ap (pick (eqb k.buyer b)) (pick_ne k.kind demanded k.quantity h) ∙ pick_zero (eqb k.buyer b))
