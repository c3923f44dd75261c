-- KIND 3, A ROW OF A GROUP: the group is one stretch of places, and its rows keep their order there. So sharing over the stretch, and
-- over all of the buyer's rows with weight 0 outside the group, are the same, and what is left where the group begins decides alike
-- whether it is assigned in full, shared or gets nothing. Assumes nothing.
use Prim.Native.Nat.{ℕ, ◌+◌, ◌-◌, ◌*◌, ◌≤◌, ◌<◌}
use native.Mathlib.Omega.{arith}
use native.Mathlib.Decide.{dec_le, ℕ_discrete}
use mathlib.Core.Bool.{Bool, ◌&&◌}
use mathlib.Core.List.{List}
use mathlib.Core.Logic.{⊎_elim}
use mathlib.Core.Path.{◌≡◌, refl, ap, ◌∙◌, sym}
use lib.Dec.{eqb}
use lib.ListN.{length}
use borrow.Author.Tests.{eq-eqb, ne_eqb}
use Rattle.sums.specs.Sums.{sum, pick}
use Rattle.sums.specs.Lists.{at, total, list_to}
use Rattle.sums.proofs.Sums.{sum_eq}
use Rattle.sums.proofs.Tests.{and_both}
use Rattle.sums.proofs.Lists.{length_list_to, get_d_list_to}
use Rattle.sums.proofs.Picks.{pick_true, pick_zero, pick_ne}
use Rattle.sums.proofs.Cut.{cut}
use Rattle.share.specs.Share.{share_of}
use Rattle.share.proofs.Tagged.{Tags, same_total, share_same}
use Rattle.deals.specs.Deals.{Deals, kind, price, quantity, demanded, rest_of, cheaper_of, group_of, demanded_at}
use Rattle.deals.specs.Hour.{Rows, own_count, own_of, hour_amount}
use Rattle.deals.proofs.Own.{own_place_lem, own_lt, own_kind, own_price, own_quantity}
use Rattle.deals.proofs.Demanded.{group_at_lem, demanded_full, demanded_shared, demanded_dearer, amount_demanded}
use Rattle.deals.proofs.Hours.{hour_is}
use Rattle.contracts.specs.Keys.{key_side, key_group, key_row, row_count}
use Rattle.contracts.specs.Walk.{group_amount}
use Rattle.contracts.proofs.Decode.{group_mono, group_row, group_side}
use Rattle.contracts.proofs.Scan.{stretch, row_over}
use Rattle.contracts.proofs.Walks.{group_shared, group_full, group_none}
use Rattle.contracts.proofs.Columns.{buyer, quantity_at, key}
use Rattle.contracts.proofs.RowKeys.{row_key_row}
use Rattle.contracts.proofs.OwnKeys.{firm_sum, asked_group, group_sum}
use Rattle.contracts.proofs.SidePlaces.{row, held, row_below, buyer_at}
use Rattle.contracts.proofs.GroupPlaces.{AskedPlaces, price_from, begin_below, price_fits, demanded_at_lem, group_from, price_same}
use Rattle.contracts.proofs.GroupPlaces.{group_left}

module _ {s : Rows} {ds : List ℕ} {b t : ℕ} {m : List ℕ} {from to : ℕ} (a : AskedPlaces s ds b t m from to) where
  abbrev own : Deals
  own = own_of s b

  -- what the definition shares by
  abbrev theirs : List ℕ
  theirs = group_of own (price_from s m from)

  abbrev the_group : ℕ
  the_group = asked_group b (price_from s m from)

  abbrev over : ℕ → Bool
  over = eqb (b * 2 + t)

  -- the quantities by place, tagged with the places among the buyer's own rows
  abbrev weights : List ℕ
  weights = list_to (λ v. held s m (from + v)) (to - from)

  abbrev tag : ℕ → ℕ
  tag v = own_count s.buyers b (row m (from + v))

  long : length weights ≡ to - from
  long = length_list_to _ _

  weight_at : (v : ℕ) → v < to - from → at weights v ≡ held s m (from + v)
  weight_at v h = get_d_list_to 0 _ _ v h

  weights_same : (f : ℕ → ℕ → ℕ) → ((t : ℕ) → f 0 t ≡ 0)
      → sum (length weights) (λ v. f (at weights v) (tag v)) ≡ sum (length theirs) (λ k. f (at theirs k) k)
  weights_same f z =
      ap (λ (d : ℕ). sum d (λ v. f (at weights v) (tag v))) long
      ∙ sum_eq (to - from) (λ v. f (at weights v) (tag v)) (λ v. f (held s m (from + v)) (tag v))
      (λ v h. ap (λ (w : ℕ). f w (tag v)) (weight_at v h))
      ∙ stretch a.keys.picked from (to - from) (length m - to) (omega (arith, a.group.some, a.group.within))
      (λ k. eqb (key_group k) the_group)
      (λ q h. ne_eqb (key_group (at m q)) the_group (λ e. omega (arith, a.alone q h, group_from a)))
      (λ v h. eq-eqb (key_group (at m (from + v))) the_group
      (a.group.same (from + v) (omega arith) (omega arith) ∙ group_from a))
      (λ v h. ne_eqb (key_group (at m (from + (to - from + v)))) the_group (λ e. omega (arith, behind v h, group_from a)))
      (λ k. f (quantity_at s (key_row k)) (own_count s.buyers b (key_row k)))
      ∙ sum_eq (row_count s) (λ j. pick (over (key_side (key s j))) (pick (eqb (key_group (key s j)) the_group)
      (f (quantity_at s (key_row (key s j))) (own_count s.buyers b (key_row (key s j))))))
      (λ j. pick (eqb (key_group (key s j)) the_group) (f (quantity_at s j) (own_count s.buyers b j)))
      (λ j h. ap (λ (r : ℕ). pick (over (key_side (key s j))) (pick (eqb (key_group (key s j)) the_group)
      (f (quantity_at s r) (own_count s.buyers b r)))) (row_key_row s ds a.keys.ready j h)
      ∙ all_in j (f (quantity_at s j) (own_count s.buyers b j)) (ℕ_discrete (key_group (key s j)) the_group))
      ∙ group_sum s ds a.keys.ready b (price_from s m from) (price_fits a) f z
    where
      -- all rows of the group are of the side
      all_in : (j v : ℕ) → Dec (key_group (key s j) ≡ the_group)
          → pick (over (key_side (key s j))) (pick (eqb (key_group (key s j)) the_group) v)
          ≡ pick (eqb (key_group (key s j)) the_group) v
      all_in j v (yes e) =
          pick_true (over (key_side (key s j))) (pick (eqb (key_group (key s j)) the_group) v)
          (ap over (group_side (key s j) (at m from) (e ∙ sym (group_from a)))
          ∙ row_over a.keys.picked from (begin_below a))
      all_in j v (no e) = rw (pick_ne (key_group (key s j)) the_group v e) (pick_zero (over (key_side (key s j))))

      -- what stands behind the group is of a higher one
      behind : (v : ℕ) → v < length m - to → key_group (at m from) < key_group (at m (from + (to - from + v)))
      behind v h =
          let e : from + (to - from + v) ≡ to + v = omega (arith, a.group.some) in
          let lt : to < length m = omega arith in
          let y : key_group (at m from) < key_group (at m to) = omega (
            arith,
            a.group.next lt,
            group_mono (at m from) (at m to) (omega (arith, a.keys.picked.less from to a.group.some lt)),
          ) in
          rw e (⊎_elim (λ p. omega (
            arith,
            y,
            group_mono (at m to) (at m (to + v)) (omega (arith, a.keys.picked.less to (to + v) (omega arith) (omega arith))),
          ))
          (λ p. let q : to + v ≡ to = omega arith in rw q y) (cut 0 v))

  same_weight : total weights ≡ total theirs
  same_weight = same_total 0 weights theirs tag (λ k. k) weights_same

  -- two rows of the group stand among the buyer's own as their places do
  tags : (v : ℕ) → v < to - from → Tags weights tag v
  tags v h =
      record {
        lower = λ j k p q. up j v q h;
        higher =
            λ j k p q. ⊎_elim (λ z. omega (arith, up v j z (omega (arith, long))))
            (λ (z : j ≤ v). let e : j ≡ v = omega arith in rw e (omega arith)) (cut v j);
      }
    where
      up : (j v : ℕ) → j < v → v < to - from → tag j < tag v
      up j v q h =
          own_place_lem s.buyers b (row m (from + j)) (row m (from + v))
          (group_row (at m (from + j)) (at m (from + v))
          (a.group.same (from + j) (omega arith) (omega arith) ∙ sym (a.group.same (from + v) (omega arith) (omega arith)))
          (a.keys.picked.less (from + j) (from + v) (omega arith) (omega (arith, a.group.within))))
          (buyer_at a.keys (from + j) (omega (arith, a.group.within)))

  -- ---- one row of it
  module _ (v : ℕ) (h : v < to - from) where
    abbrev r : ℕ
    r = row m (from + v)

    abbrev spot : ℕ
    spot = own_count s.buyers b r

    lv : from + v < length m
    lv = omega (arith, a.group.within)

    lr : r < row_count s
    lr = row_below a.keys (from + v) lv

    er : buyer s r ≡ b
    er = buyer_at a.keys (from + v) lv

    price_own : price own spot ≡ price_from s m from
    price_own = own_price s b r lr er ∙ price_same a (from + v) (omega arith) (omega arith)

    kind_own : kind own spot ≡ demanded
    kind_own = own_kind s b r lr er ∙ demanded_at_lem a (from + v) lv

    weight_own : at weights v ≡ quantity own spot
    weight_own = weight_at v h ∙ sym (own_quantity s b r lr er)

    weight_group : at weights v ≡ at theirs spot
    weight_group =
        weight_own ∙ sym (group_at_lem own (price_from s m from) spot (own_lt s b r lr er)
        ∙ pick_true (eqb (kind own spot) demanded && eqb (price own spot) (price_from s m from)) (quantity own spot)
        (and_both (eq-eqb (kind own spot) demanded kind_own) (eq-eqb (price own spot) (price_from s m from) price_own)))

    abbrev rest : ℕ
    rest = rest_of own (at ds b)

    abbrev cheap : ℕ
    cheap = cheaper_of own (price_from s m from)

    by_way : Dec (cheap ≤ rest)
        → Dec (total theirs ≤ rest - cheap)
        → group_amount (rest - cheap) weights v ≡ demanded_at own rest spot
    by_way (no c) f =
        sym (group_none (rest - cheap) weights v (omega arith) (omega (arith, long)))
        ∙ sym (demanded_dearer own rest spot (rw price_own (omega arith)))
    by_way (yes c) (yes f) =
        sym (group_full (rest - cheap) weights v (omega (arith, same_weight)))
        ∙ weight_own ∙ sym (demanded_full own rest spot (rw price_own (omega arith)))
    by_way (yes c) (no f) =
        sym (group_shared (rest - cheap) weights v (omega (arith, same_weight)))
        ∙ share_same (rest - cheap) weights theirs tag (λ k. k) weights_same v spot weight_group refl (tags v h)
        (record { lower = λ j k p q. q; higher = λ j k p q. q })
        ∙ sym (demanded_shared own rest spot (rw price_own (omega arith)) (rw price_own (omega arith))
        ∙ ap (λ (z : ℕ). share_of (rest - cheaper_of own z) (group_of own z) spot) price_own)

    -- A ROW OF KIND 3 GETS ITS AMOUNT
    pub group_place : (d : ℕ)
        → d ≡ at ds b - firm_sum s b
        → group_amount (d - sum from (held s m)) weights v ≡ hour_amount s ds r
    group_place d begins =
        ap (λ (y : ℕ). group_amount y weights v) (group_left a d begins)
        ∙ by_way (dec_le cheap rest) (dec_le (total theirs) (rest - cheap))
        ∙ sym (hour_is s ds b r lr er ∙ amount_demanded own (at ds b) spot kind_own)
