-- A buyer's own sums by keys. What is ahead of its row of kind 1 or 2 is what its rows of lower keys hold, since kind 3 has the higher
-- keys; of kind 3 the lower groups are the cheaper ones, and the rows of one group are the weights of the definition. Assumes nothing.
use Prim.Native.Nat.{ℕ, ◌+◌, ◌*◌, ◌≤◌, ◌<◌}
use native.Mathlib.Omega.{arith}
use native.Mathlib.Decide.{dec_lt, ℕ_discrete}
use mathlib.Core.Bool.{Bool, ◌&&◌}
use mathlib.Core.List.{List}
use mathlib.Core.Path.{◌≡◌, ap, ◌∙◌, sym}
use lib.Dec.{ltb, eqb}
use lib.ListN.{length}
use borrow.Author.Tests.{lt-ltb, le-ltb, eq-eqb, ne_eqb, eqb-true}
use Rattle.limits.specs.Limits.{most_price}
use Rattle.sums.specs.Sums.{sum, pick}
use Rattle.sums.specs.Lists.{at}
use Rattle.sums.proofs.Sums.{sum_eq}
use Rattle.sums.proofs.Tests.{and_both, and_early, and_late}
use Rattle.sums.proofs.Picks.{pick_le, pick_same, pick_both, pick_swap, pick_out, pick_ne}
use Rattle.deals.specs.Deals as deal
use Rattle.deals.specs.Deals.{Deals, count, kind, price, quantity, conditional, demanded, stands, ahead_of, cheaper_of}
use Rattle.deals.specs.Hour.{Rows, own_count, own_of}
use Rattle.deals.proofs.Own.{own_place_lem, own_order, own_lt, own_kind, own_price, own_rows}
use Rattle.deals.proofs.Rest.{stands_order}
use Rattle.deals.proofs.Demanded.{length_group, group_at_lem}
use Rattle.contracts.specs.Keys.{deal_key, key_group, price_span, row_count, Ready}
use Rattle.contracts.proofs.Decode.{both_lt, both_ge, side_demanded, side_firm, bit_demanded}
use Rattle.contracts.proofs.Known.{own_few}
use Rattle.contracts.proofs.Columns.{buyer, kind_at, price_at, quantity_at, key}
use Rattle.contracts.proofs.RowKeys.{order_key, row_key_group}

-- what kinds 1 and 2 of buyer b hold
abbrev pub firm_sum : Rows → (b : ℕ) → ℕ
firm_sum s b = sum (count (own_of s b)) (λ k. pick (ltb (kind (own_of s b) k) demanded) (quantity (own_of s b) k))

-- the group of its kind 3 at the price x
abbrev pub asked_group : (b x : ℕ) → ℕ
asked_group b x = ((b * 2 + 1) * price_span + x) * 2

module _ (s : Rows) (ds : List ℕ) (ready : Ready s ds) (b : ℕ) where
  abbrev own : Deals
  own = own_of s b

  abbrev place : ℕ → ℕ
  place j = own_count s.buyers b j

  -- ---- kinds 1 and 2: of one buyer's rows, j stands before i where its key is lower
  module _ (i : ℕ) (li : i < row_count s) (ei : buyer s i ≡ b) (fi : kind_at s i < demanded) where
    stands_key : (j : ℕ) → j < row_count s → buyer s j ≡ b → kind_at s j < demanded
        → ltb (key s j) (key s i) ≡ stands (price_at s j) (kind_at s j) (place j) (price_at s i) (kind_at s i) (place i)
    stands_key j lj ej fj =
        ap (λ (z : ℕ). ltb (deal_key z (kind_at s j) (price_at s j) j) (key s i)) (ej ∙ sym ei)
        ∙ order_key (buyer s i) (price_at s j) (kind_at s j) j (place j) (price_at s i) (kind_at s i) i (place i)
        (ready.least j lj) fj (ready.least i li) fi (omega (arith, ready.few)) (omega (arith, ready.few))
        (omega (arith, own_lt s b j lj ej, own_few s ds ready b)) (omega (arith, own_lt s b i li ei, own_few s ds ready b))
        (λ h. own_place_lem s.buyers b j i h ej) (λ h. own_order s.buyers b i j h)
        ∙ sym (stands_order (price_at s j) (kind_at s j) (place j) (price_at s i) (kind_at s i) (place i) (omega arith)
        (omega arith) (omega (arith, own_lt s b j lj ej, own_few s ds ready b)) (omega (arith, own_lt s b i li ei, own_few s ds ready b)))

    -- a row of kind 3 has the higher key
    pub behind_key : (j : ℕ) → j < row_count s → buyer s j ≡ b → demanded ≤ kind_at s j → key s i ≤ key s j
    behind_key j lj ej dj =
        omega (
          arith,
          ei,
          ej,
          ready.price i li,
          ready.few,
          side_firm (kind_at s i) fi,
          side_demanded (kind_at s j) (omega (arith, ready.most j lj)),
          pick_le (eqb (kind_at s i) conditional) 1,
        )

    same_test : (j : ℕ) → j < row_count s → buyer s j ≡ b → Dec (kind_at s j < demanded)
        → (ltb (kind_at s j) demanded && stands (price_at s j) (kind_at s j) (place j) (price_at s i) (kind_at s i) (place i))
        ≡ ltb (key s j) (key s i)
    same_test j lj ej (yes f) = rw (lt-ltb (kind_at s j) demanded f) (sym (stands_key j lj ej f))
    same_test j lj ej (no f) = rw (
      le-ltb (kind_at s j) demanded (omega arith),
      le-ltb (key s j) (key s i) (behind_key j lj ej (omega arith)),
    )

    pub ahead_is : ahead_of own (place i)
        ≡ sum (row_count s) (λ j. pick (ltb (key s j) (key s i)) (pick (eqb (buyer s j) b) (quantity_at s j)))
    unfolding ahead_of
    ahead_is =
        rw (own_kind s b i li ei, own_price s b i li ei)
        (own_rows s b (λ kd x q t. pick (ltb kd demanded && stands x kd t (price_at s i) (kind_at s i) (place i)) q)
        ∙ sum_eq (row_count s) (λ j. pick (eqb (buyer s j) b)
        (pick (ltb (kind_at s j) demanded && stands (price_at s j) (kind_at s j) (place j) (price_at s i) (kind_at s i) (place i))
        (quantity_at s j)))
        (λ j. pick (ltb (key s j) (key s i)) (pick (eqb (buyer s j) b) (quantity_at s j)))
        (λ j lj. pick_same (eqb (buyer s j) b) _ (pick (ltb (key s j) (key s i)) (quantity_at s j))
        (λ e. ap (λ (t : Bool). pick t (quantity_at s j))
        (same_test j lj (eqb-true (buyer s j) b e) (dec_lt (kind_at s j) demanded)))
        ∙ pick_swap (eqb (buyer s j) b) (ltb (key s j) (key s i)) (quantity_at s j)))

  -- ---- kind 3 below a price
  pub cheaper_is : (x : ℕ)
      → sum (row_count s) (λ j. pick (eqb (buyer s j) b) (pick (eqb (kind_at s j) demanded && ltb (price_at s j) x) (quantity_at s j)))
      ≡ cheaper_of own x
  unfolding cheaper_of
  cheaper_is x = sym (own_rows s b (λ kd y q t. pick (eqb kd demanded && ltb y x) q))

  -- ---- kind 3 at the price x
  module _ (x : ℕ) (hx : x ≤ most_price) where
    -- of kind 3 what has a lower group is cheaper
    pub lower_group : (j : ℕ)
        → j < row_count s
        → buyer s j ≡ b
        → kind_at s j ≡ demanded
        → ltb (key_group (key s j)) (asked_group b x) ≡ ltb (price_at s j) x
    lower_group j lj ej e = go (dec_lt (price_at s j) x)
      where
        is : key_group (key s j) ≡ ((b * 2 + 1) * price_span + price_at s j) * 2
        is = omega (arith, ej, row_key_group s ds ready j lj, side_demanded (kind_at s j) e, bit_demanded (kind_at s j) e)

        go : Dec (price_at s j < x) → ltb (key_group (key s j)) (asked_group b x) ≡ ltb (price_at s j) x
        go (yes l) = both_lt (key_group (key s j)) (asked_group b x) (price_at s j) x (omega (arith, is)) l
        go (no l) = both_ge (key_group (key s j)) (asked_group b x) (price_at s j) x (omega (arith, is)) (omega arith)

    -- the rows of the group
    in_group : (j : ℕ)
        → j < row_count s
        → eqb (key_group (key s j)) (asked_group b x) ≡ (eqb (buyer s j) b && (eqb (kind_at s j) demanded && eqb (price_at s j) x))
    in_group j lj = go (ℕ_discrete (buyer s j) b) (ℕ_discrete (kind_at s j) demanded) (ℕ_discrete (price_at s j) x)
      where
        go : Dec (buyer s j ≡ b)
            → Dec (kind_at s j ≡ demanded)
            → Dec (price_at s j ≡ x)
            → eqb (key_group (key s j)) (asked_group b x) ≡ (eqb (buyer s j) b && (eqb (kind_at s j) demanded && eqb (price_at s j) x))
        go (yes p) (yes q) (yes r) =
            eq-eqb (key_group (key s j)) (asked_group b x)
            (omega (arith, row_key_group s ds ready j lj, side_demanded (kind_at s j) q, bit_demanded (kind_at s j) q))
            ∙ sym (and_both (eq-eqb (buyer s j) b p) (and_both (eq-eqb (kind_at s j) demanded q) (eq-eqb (price_at s j) x r)))
        go (yes p) (yes q) (no r) =
            ne_eqb (key_group (key s j)) (asked_group b x)
            (λ z. r (omega (arith, row_key_group s ds ready j lj, side_demanded (kind_at s j) q, bit_demanded (kind_at s j) q)))
            ∙ sym (and_late (eqb (buyer s j) b) (and_late (eqb (kind_at s j) demanded) (ne_eqb (price_at s j) x r)))
        go (yes p) (no q) r =
            ne_eqb (key_group (key s j)) (asked_group b x)
            (λ z. omega (
              arith,
              row_key_group s ds ready j lj,
              ready.price j lj,
              pick_ne (kind_at s j) demanded 1 q,
              pick_le (eqb (kind_at s j) conditional) 1,
            ))
            ∙ sym (and_late (eqb (buyer s j) b) (and_early (eqb (price_at s j) x) (ne_eqb (kind_at s j) demanded q)))
        go (no p) q r =
            ne_eqb (key_group (key s j)) (asked_group b x) (λ z. p (omega (
              arith,
              row_key_group s ds ready j lj,
              ready.price j lj,
              pick_le (eqb (kind_at s j) demanded) 1,
              pick_le (eqb (kind_at s j) conditional) 1,
            )))
            ∙ sym (and_early (eqb (kind_at s j) demanded && eqb (price_at s j) x) (ne_eqb (buyer s j) b p))

    -- a sum over the group's rows, of what is 0 for no weight, is one over the weights of the definition
    pub group_sum : (f : ℕ → ℕ → ℕ) → ((t : ℕ) → f 0 t ≡ 0)
        → sum (row_count s) (λ j. pick (eqb (key_group (key s j)) (asked_group b x)) (f (quantity_at s j) (place j)))
        ≡ sum (length (deal.group_of own x)) (λ k. f (at (deal.group_of own x) k) k)
    group_sum f z =
        sum_eq (row_count s) (λ j. pick (eqb (key_group (key s j)) (asked_group b x)) (f (quantity_at s j) (place j)))
        (λ j. pick (eqb (buyer s j) b)
        (pick (eqb (kind_at s j) demanded && eqb (price_at s j) x) (f (quantity_at s j) (place j))))
        (λ j lj. ap (λ (t : Bool). pick t (f (quantity_at s j) (place j))) (in_group j lj)
        ∙ pick_both (eqb (buyer s j) b) (eqb (kind_at s j) demanded && eqb (price_at s j) x) (f (quantity_at s j) (place j)))
        ∙ sym (own_rows s b (λ kd y q t. pick (eqb kd demanded && eqb y x) (f q t)))
        ∙ sum_eq (count own) (λ k. pick (eqb (kind own k) demanded && eqb (price own k) x) (f (quantity own k) k))
        (λ k. f (at (deal.group_of own x) k) k)
        (λ k l. sym (ap (λ (v : ℕ). f v k) (group_at_lem own x k l)
        ∙ pick_out (eqb (kind own k) demanded && eqb (price own k) x) (quantity own k) (λ v. f v k) (z k)))
        ∙ ap (λ (m : ℕ). sum m (λ k. f (at (deal.group_of own x) k) k)) (sym (length_group own x))
