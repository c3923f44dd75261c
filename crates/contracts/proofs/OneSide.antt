-- One side of a buyer: from the keys that the code holds, which leave out buyer and side, to the rows of the section. Assumes nothing.
use Prim.Native.Nat.{ℕ, ◌+◌, ◌-◌, ◌*◌, ◌/◌, ◌%◌, ◌≤◌, ◌<◌}
use native.Mathlib.Omega.{arith}
use mathlib.Core.Bool.{◌||◌}
use mathlib.Core.List.{List}
use mathlib.Core.Path.{◌≡◌, ap, ap₂, ◌∙◌, sym}
use lib.Dec.{ltb, eqb}
use lib.ListN.{length}
use Rattle.sums.specs.Sums.{sum, pick}
use Rattle.sums.specs.Lists.{at, list_to}
use Rattle.sums.proofs.Sums.{sum_eq}
use Rattle.sums.proofs.Lists.{length_list_to, get_d_list_to, list_to_eq}
use Rattle.order.specs.Order.{Sorted}
use Rattle.deals.specs.Hour.{hour_amount}
use Rattle.contracts.specs.Assign.{count_in, deal_in, deals_in}
use Rattle.contracts.specs.Keys.{deal_key, low_key, key_in, wholes, is_fixed, key_group, key_row, price_span, side_span, row_span, Ready}
use Rattle.contracts.specs.Sides.{side_of, Picked, FrontKeys, Cut}
use Rattle.contracts.specs.Walk.{quantity_of, quantities_of, between, Scattered, Rowed, firm_amount}
use Rattle.contracts.specs.Walk.{Group, group_amount, GivenAt, Walked, RisingKeys}
use Rattle.contracts.proofs.OwnKeys.{firm_sum}
use Rattle.contracts.proofs.Walks.{part_long, part_at}
use Rattle.contracts.proofs.Section.{few_rows_lem, section_picked, section_rowed, section_firm, section_group, section_back}

-- ---- a whole key
pub key_low : (b k x j : ℕ) → deal_key b k x j ≡ (b * 2 + side_of k) * side_span + low_key k x j
key_low b k x j = omega arith

whole_row : (v k : ℕ) → key_row (v * side_span + k) ≡ key_row k
whole_row v k = omega arith

whole_group : (v k : ℕ) → key_group (v * side_span + k) ≡ v * (price_span * 2) + key_group k
whole_group v k = omega arith

whole_fixed : (v k : ℕ) → is_fixed (v * side_span + k) ≡ is_fixed k
whole_fixed v k =
    let e : (v * side_span + k) / row_span % 2 ≡ k / row_span % 2 = omega arith in ap (λ (z : ℕ). eqb z 0) e

module _ (v : ℕ) (ks : List ℕ) where
  pub whole_long : length (wholes v ks) ≡ length ks
  unfolding wholes
  whole_long = length_list_to _ _

  pub whole_at : (u : ℕ) → u < length ks → at (wholes v ks) u ≡ v * side_span + at ks u
  unfolding wholes
  whole_at u h = get_d_list_to 0 _ _ u h

  row_at_lem : (u : ℕ) → u < length ks → key_row (at (wholes v ks) u) ≡ key_row (at ks u)
  row_at_lem u h = ap key_row (whole_at u h) ∙ whole_row v (at ks u)

  group_at_lem : (u : ℕ) → u < length ks → key_group (at (wholes v ks) u) ≡ v * (price_span * 2) + key_group (at ks u)
  group_at_lem u h = ap key_group (whole_at u h) ∙ whole_group v (at ks u)

  group_whole : (p e : ℕ) → Group ks p e → Group (wholes v ks) p e
  group_whole p e g =
      record {
        some = g.some;
        within = omega (arith, whole_long, g.within);
        same =
            λ u h k. omega (
              arith,
              group_at_lem u (omega (arith, g.within)),
              group_at_lem p (omega (arith, g.some, g.within)),
              g.same u h k,
            );
        next =
            λ h z. g.next (omega (arith, whole_long)) (omega (
              arith,
              group_at_lem e (omega (arith, whole_long)),
              group_at_lem p (omega (arith, g.some, g.within)),
            ));
      }

-- whole keys are put in order as what stands behind their side is
sorted_whole : (v : ℕ) (l m : List ℕ) → Sorted l m → Sorted (wholes v l) (wholes v m)
sorted_whole v l m o =
    record {
      same = record {
        sums = λ g.
            ap (λ (n : ℕ). sum n (λ q. g (at (wholes v m) q))) (whole_long v l)
            ∙ sum_eq (length l) (λ q. g (at (wholes v m) q)) (λ q. g (v * side_span + at m q))
            (λ q h. ap g (whole_at v m q (omega (arith, o.long))))
            ∙ o.same.sums (λ k. g (v * side_span + k))
            ∙ sym (ap (λ (n : ℕ). sum n (λ q. g (at (wholes v l) q))) (whole_long v l)
            ∙ sum_eq (length l) (λ q. g (at (wholes v l) q)) (λ q. g (v * side_span + at l q)) (λ q h. ap g (whole_at v l q h)));
      };
      rise =
          λ q r h k. omega (
            arith,
            whole_at v m q (omega (arith, o.long, whole_long v l)),
            whole_at v m r (omega (arith, o.long, whole_long v l)),
            o.rise q r h (omega (arith, whole_long v l)),
          );
      long = whole_long v m ∙ o.long ∙ sym (whole_long v l);
    }

-- ---- the rows of side t of buyer b, in the order of what stands behind their keys
module _ (s ds : List ℕ) (ready : Ready (deals_in s) ds) (b t : ℕ) (bit : t ≤ 1) (l ks : List ℕ)
    (front : FrontKeys (eqb (b * 2 + t)) (key_in s) (count_in s) (wholes (b * 2 + t) l)) (sorted : Sorted l ks) where
  abbrev v : ℕ
  v = b * 2 + t

  abbrev m : List ℕ
  m = wholes v ks

  size : length m ≡ length ks
  size = whole_long v ks

  picked : Picked (eqb v) (key_in s) (count_in s) (length m) m
  picked = section_picked s ds ready (eqb v) (wholes v l) m front (sorted_whole v l ks sorted)

  pub side_rowed : (most : ℕ) → count_in s ≤ most → Rowed ks (length ks) most
  side_rowed most h =
      let w = section_rowed s ds ready b t bit m picked most h in
      record {
        below = λ u k. omega (arith, w.below u (omega (arith, size)), row_at_lem v ks u k);
        apart =
            λ q r k z e. w.apart q r k (omega (arith, size))
            (row_at_lem v ks q (omega arith) ∙ e ∙ sym (row_at_lem v ks r z));
      }

  pub side_rising : (most : ℕ) → count_in s ≤ most → RisingKeys ks most
  side_rising most h =
      record {
        rowed = side_rowed most h;
        less =
            λ q r k z. omega (
              arith,
              picked.less q r k (omega (arith, size)),
              whole_at v ks q (omega arith),
              whole_at v ks r z,
            );
        few = omega (arith, sorted.long, whole_long v l, front.few, few_rows_lem s ds ready);
      }

  held_at : (u : ℕ) → u < length ks → quantity_of s (at m u) ≡ quantity_of s (at ks u)
  held_at u h = ap (λ (j : ℕ). (deal_in s j).quantity) (row_at_lem v ks u h)

  held_sum : (u : ℕ) → u ≤ length ks → sum u (λ w. quantity_of s (at m w)) ≡ sum u (λ w. quantity_of s (at ks w))
  held_sum u h =
      sum_eq u (λ w. quantity_of s (at m w)) (λ w. quantity_of s (at ks w)) (λ w k. held_at w (omega arith))

  weights_are : (from to : ℕ)
      → to ≤ length ks
      → quantities_of s (between from to ks) ≡ list_to (λ w. quantity_of s (at m (from + w))) (to - from)
  unfolding quantities_of
  weights_are from to h =
      ap (list_to (λ w. quantity_of s (at (between from to ks) w))) (part_long ks from to h)
      ∙ list_to_eq (λ w. quantity_of s (at (between from to ks) w)) (λ w. quantity_of s (at m (from + w))) (to - from)
      (λ w k. ap (quantity_of s) (part_at ks from to w k) ∙ sym (held_at (from + w) (omega arith)))

  done : (before after : List ℕ)
      → ((u : ℕ) → u < length ks → at after (key_row (at ks u)) ≡ hour_amount (deals_in s) ds (key_row (at m u)))
      → ((j : ℕ) → ((u : ℕ) → u < length ks → key_row (at ks u) ≡ j → ⊥) → at after j ≡ at before j)
      → length after ≡ length before
      → Cut s ds (eqb v) before after
  done before after each kept long =
      section_back s ds ready b t bit m picked before after
      (λ u h. ap (at after) (row_at_lem v ks u (omega (arith, size))) ∙ each u (omega (arith, size)))
      (λ j h. kept j (λ u k z. h u (omega (arith, size)) (row_at_lem v ks u k ∙ z))) long

  -- KINDS 1 AND 2, PLACE BY PLACE, HAVE THEIR AMOUNTS
  pub firm_cut : t ≡ 0
      → (d : ℕ)
      → d ≡ at ds b
      → (before after : List ℕ)
      → Scattered ks (length ks) (firm_amount s ks d) before after
      → Cut s ds (eqb v) before after
  firm_cut zero d begins before after c =
      done before after
      (λ u h. c.each u h
      ∙ ap₂ (λ (y z : ℕ). pick (is_fixed (at ks u) || ltb 0 (d - y)) z) (sym (held_sum u (omega arith))) (sym (held_at u h))
      ∙ ap (λ y. pick (y || ltb 0 (d - sum u (λ w. quantity_of s (at m w)))) (quantity_of s (at m u)))
      (sym (ap is_fixed (whole_at v ks u h) ∙ whole_fixed v (at ks u)))
      ∙ section_firm s ds ready b t bit m picked u (omega (arith, size)) zero d begins)
      c.kept c.long

  -- SO HAS KIND 3, GROUP BY GROUP
  pub asked_cut : t ≡ 1
      → (d : ℕ)
      → d ≡ at ds b - firm_sum (deals_in s) b
      → (before after : List ℕ)
      → Walked s ks d (length ks) before after
      → Cut s ds (eqb v) before after
  asked_cut one d begins before after w =
      done before after (λ u h. given u h (w.each u h)) w.kept w.long
    where
      given : (u : ℕ)
          → u < length ks
          → GivenAt s ks d after u
          → at after (key_row (at ks u)) ≡ hour_amount (deals_in s) ds (key_row (at m u))
      given u h g =
          let z : g.from + (u - g.from) ≡ u = omega (arith, g.first) in
          g.amount
          ∙ ap₂ (λ (y : ℕ) (qs : List ℕ). group_amount (d - y) qs (u - g.from))
          (sym (held_sum g.from (omega (arith, g.group.some, g.group.within))))
          (weights_are g.from g.to g.group.within)
          ∙ section_group s ds ready b t bit m picked one d begins g.from g.to
          (group_whole v ks g.from g.to g.group)
          (λ q k. omega (
            arith,
            g.alone q k,
            group_at_lem v ks q (omega (arith, g.group.some, g.group.within)),
            group_at_lem v ks g.from (omega (arith, g.group.some, g.group.within)),
          ))
          (u - g.from) (omega (arith, g.first, g.last))
          ∙ ap (λ (y : ℕ). hour_amount (deals_in s) ds (key_row (at m y))) z
