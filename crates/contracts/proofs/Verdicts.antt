-- When the rows can be assigned: what each test tells, and that good rows are never turned away. Assumes nothing.
use Rattle.std.specs.Prelude.{Ok, Err}
use Prim.Native.Nat.{ℕ, ◌+◌, ◌-◌, ◌%◌, ◌≤◌, ◌<◌}
use native.Mathlib.Omega.{arith}
use mathlib.Core.Bool.{Bool, true, ◌&&◌}
use mathlib.Core.List.{List, [], ◌∷◌}
use mathlib.Core.Path.{◌≡◌, ap, ◌∙◌, sym}
use lib.Dec.{ltb, leb, eqb}
use lib.ListN.{length}
use borrow.Author.Tests.{ltb-true, leb-true, eqb-true, lt-ltb, le-leb, eq-eqb}
use Rattle.sums.specs.Lists.{Filled}
use Rattle.sums.proofs.Tests.{all_true}
use Rattle.sums.proofs.Fill.{filled_count, filled_unique}
use Rattle.refusals.proofs.Fine.{not_fine, fine_parts, parts_fine, fine_test, each_fine, all_fine}
use Rattle.refusals.proofs.FirstBad.{good_row, bad_row}
use Rattle.refusals.specs.Refusals.{refused_unless, first_bad, cells, bad_layout, bad_contract, no_room}
use Rattle.refusals.specs.Refusals.{Verdict}
use Rattle.refusals.specs.declared.Refusal.{Refusal}
use Rattle.limits.specs.Limits.{most_agents, most_contracts, most_quantity, most_price}
use Rattle.limits.specs.declared.Contract.{Contract}
use Rattle.deals.specs.Deals.{fixed, demanded}
use Rattle.deals.specs.Hour.{hour_amount}
use Rattle.contracts.specs.Assign.{count_in, deal_in, deals_in, section_fits, deal_good, deal_verdict}
use Rattle.contracts.specs.Assign.{layout_verdict, deals_verdict, amounts_verdict, assign_verdict, Assigned}
use Rattle.contracts.specs.Keys.{row_count, Ready}
use Rattle.contracts.specs.Sides.{SidesTotalled, Surveyed, Planned}
use Rattle.contracts.proofs.Section.{count_is, buyer_in, kind_in_lem, price_in_lem, quantity_in}

-- ---- what the layout's test tells
module _ (s ds : List ℕ) where
  pub record Laid : Type 0 where
    pub whole : length s % 16 ≡ 0
    pub few : count_in s ≤ most_contracts
    pub agents : length ds ≤ most_agents

  pub laid : section_fits s ds ≡ true → Laid
  laid e =
      let all =
      all_true (eqb (length s % 16) 0) ((leb (count_in s) most_contracts && leb (length ds) most_agents) ∷ []) e in
      let few = all_true (leb (count_in s) most_contracts) (leb (length ds) most_agents ∷ []) all.1.0 in
      record { whole = eqb-true _ _ all.0; few = leb-true _ _ few.0; agents = leb-true _ _ few.1.0 }

  layout_holds : Laid → section_fits s ds ≡ true
  layout_holds r =
      rw (
        eq-eqb (length s % 16) 0 r.whole,
        le-leb (count_in s) most_contracts r.few,
        le-leb (length ds) most_agents r.agents,
      )

-- ---- what the test of a row tells
module _ (a : ℕ) (k : Contract) where
  pub record Row : Type 0 where
    pub buyer : k.buyer < a
    pub least : fixed ≤ k.kind
    pub most : k.kind ≤ demanded
    pub price : k.price ≤ most_price
    pub quantity : k.quantity ≤ most_quantity

  abbrev size_good : Bool
  size_good = leb k.price most_price && leb k.quantity most_quantity

  pub row_tells : deal_good a k ≡ true → Row
  row_tells e =
      let all = all_true (ltb k.buyer a) ((leb fixed k.kind && leb k.kind demanded && size_good) ∷ []) e in
      let kind = all_true (leb fixed k.kind) (leb k.kind demanded ∷ size_good ∷ []) all.1.0 in
      let size = all_true (leb k.price most_price) (leb k.quantity most_quantity ∷ []) kind.1.1.0 in
      record {
        buyer = ltb-true _ _ all.0;
        least = leb-true _ _ kind.0;
        most = leb-true _ _ kind.1.0;
        price = leb-true _ _ size.0;
        quantity = leb-true _ _ size.1.0;
      }

  row_holds : Row → deal_good a k ≡ true
  row_holds r =
      rw (
        lt-ltb k.buyer a r.buyer,
        le-leb fixed k.kind r.least,
        le-leb k.kind demanded r.most,
        le-leb k.price most_price r.price,
        le-leb k.quantity most_quantity r.quantity,
      )

module _ (s ds out : List ℕ) where
  -- a call that is not refused has rows that nothing is wrong with, and room for them
  pub fine_ready : assign_verdict s ds out ≡ Ok tt → Ready (deals_in s) ds × (count_in s ≤ length out)
  fine_ready e =
      let all = fine_parts (layout_verdict s ds ∷ deals_verdict s (length ds) ∷ amounts_verdict s out ∷ []) e in
      let a : Laid s ds = laid s ds (fine_test (section_fits s ds) bad_layout 0 all.0) in
      let row : (i : ℕ) → i < count_in s → Row (length ds) (deal_in s i) =
      λ i l. row_tells (length ds) (deal_in s i)
      (fine_test (deal_good (length ds) (deal_in s i)) bad_contract i
      (each_fine (deal_verdict s (length ds)) (count_in s) i all.1.0 l)) in
      let among : (i : ℕ) → i < row_count (deals_in s) → i < count_in s = λ i l. omega (arith, count_is s) in (
        record {
          few = omega (arith, count_is s, a.few);
          agents = a.agents;
          buyer = λ i l. omega (arith, buyer_in s i (among i l), (row i (among i l)).buyer);
          least = λ i l. omega (arith, kind_in_lem s i (among i l), (row i (among i l)).least);
          most = λ i l. omega (arith, kind_in_lem s i (among i l), (row i (among i l)).most);
          price = λ i l. omega (arith, price_in_lem s i (among i l), (row i (among i l)).price);
          quantity = λ i l. omega (arith, quantity_in s i (among i l), (row i (among i l)).quantity);
        },
        leb-true (count_in s) (length out) (fine_test (leb (count_in s) (length out)) no_room 0 all.1.1.0),
      )

  -- ROWS THAT WERE READ ARE NEVER REFUSED
  pub assign_fine : Laid s ds
      → ((i : ℕ) → i < count_in s → Row (length ds) (deal_in s i))
      → count_in s ≤ length out
      → assign_verdict s ds out ≡ Ok tt
  assign_fine a h l =
      parts_fine (layout_verdict s ds ∷ deals_verdict s (length ds) ∷ amounts_verdict s out ∷ []) (
        ap (λ (t : Bool). refused_unless t bad_layout 0) (layout_holds s ds a),
        (
          all_fine (deal_verdict s (length ds)) (count_in s)
              (λ i m. ap (λ (t : Bool). refused_unless t bad_contract i) (row_holds (length ds) (deal_in s i) (h i m))),
          (ap (λ (t : Bool). refused_unless t no_room 0) (le-leb (count_in s) (length out) l), tt),
        ),
      )

-- ---- the pass over the rows, at row i
module _ (s : List ℕ) (agents i : ℕ) (l : i < count_in s)
    (here : deals_verdict s agents ≡ first_bad (deal_verdict s agents) i (count_in s - i)) (good : Bool)
    (is : good ≡ deal_good agents (deal_in s i)) where
  verdict_is : deal_verdict s agents i ≡ refused_unless good bad_contract i
  verdict_is = ap (λ (u : Bool). refused_unless u bad_contract i) (sym is)

  pub row_stop : (v : Verdict) (r : Refusal)
      → v ≡ Err r
      → refused_unless good bad_contract i ≡ Err r
      → (totals counts : List ℕ)
      → SidesTotalled (deals_verdict s agents) s v totals counts
  row_stop v r e f totals counts =
      record {
        answer = e ∙ sym (here ∙ bad_row (deal_verdict s agents) (count_in s) i r l (verdict_is ∙ f));
        held = λ z. not_fine r (sym e ∙ z);
        counted = λ z. not_fine r (sym e ∙ z);
      }

  pub row_pass : refused_unless good bad_contract i ≡ Ok tt
      → deals_verdict s agents ≡ first_bad (deal_verdict s agents) (i + 1) (count_in s - (i + 1))
  row_pass f = here ∙ good_row (deal_verdict s agents) (count_in s) i l (verdict_is ∙ f)

-- ---- what a survey tells: a refusal, or what was found
module _ (s ds out decided next : List ℕ) (long : length next ≡ most_agents) where
  pub planned : (some : Bool) → Surveyed s ds out some decided next → Planned s ds out (Ok some) decided next
  planned some k =
      record {
        refused = λ why f. absurd cc;
        surveyed = λ t f. let e : some ≡ t = cc in rw e at k;
        long = long;
      }

-- ---- a refusal writes no cell, and fine rows are all written
module _ (s ds before : List ℕ) where
  pub assigned_all : (after : List ℕ)
      → Ok tt ≡ assign_verdict s ds before
      → Filled 0 before after (count_in s) (hour_amount (deals_in s) ds)
      → Assigned s ds before (Ok tt) after
  assigned_all after e f =
      record {
        answer = e;
        result =
            filled_count 0 before after (count_in s) (cells (assign_verdict s ds before) (count_in s))
            (hour_amount (deals_in s) ds) (ap (λ (w : Verdict). cells w (count_in s)) e) f;
      }

-- TWO OUTCOMES THAT MEET THE PROMISE ARE EQUAL
pub one_outcome : {s ds before : List ℕ} {r q : Verdict} {l m : List ℕ}
    → Assigned s ds before r l
    → Assigned s ds before q m
    → (r ≡ q) × (l ≡ m)
one_outcome {s} {ds} {before} {r} {q} {l} {m} a b = (
  a.answer ∙ sym b.answer,
  filled_unique 0 before l m (cells (assign_verdict s ds before) (count_in s)) (hour_amount (deals_in s) ds) a.result
      b.result,
)
