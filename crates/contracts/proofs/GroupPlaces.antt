-- KIND 3, A GROUP: the rows of one price stand in one stretch of places, since of kind 3 the lower group is cheaper. So what has passed
-- where the group begins is what the definition's cheaper groups ask for; and where the sum began with what kinds 1 and 2 leave of the
-- demand, what is left is what the definition has for the group. Assumes nothing.
use Prim.Native.Nat.{ℕ, ◌+◌, ◌-◌, ◌*◌, ◌≤◌, ◌<◌}
use native.Mathlib.Omega.{arith}
use native.Mathlib.Decide.{ℕ_discrete}
use mathlib.Core.Bool.{Bool, ◌&&◌}
use mathlib.Core.List.{List}
use mathlib.Core.Logic.{⊎_elim}
use mathlib.Core.Path.{◌≡◌, ap, ◌∙◌, sym}
use lib.Dec.{ltb, eqb}
use lib.ListN.{length}
use borrow.Author.Tests.{eq-eqb}
use Rattle.limits.specs.Limits.{most_price}
use Rattle.sums.specs.Sums.{sum, pick}
use Rattle.sums.specs.Lists.{at}
use Rattle.sums.proofs.Sums.{sum_eq}
use Rattle.sums.proofs.Picks.{pick_le, pick_zero, pick_both, pick_eq, pick_ne}
use Rattle.sums.proofs.Cut.{cut}
use Rattle.deals.specs.Deals.{demanded, rest_of, cheaper_of}
use Rattle.deals.specs.Hour.{Rows, own_of}
use Rattle.deals.proofs.Rest.{rest_total}
use Rattle.contracts.specs.Keys.{key_group, row_count}
use Rattle.contracts.specs.Walk.{Group}
use Rattle.contracts.proofs.Decode.{both_lt, both_ge, group_mono, side_demanded, bit_demanded}
use Rattle.contracts.proofs.Known.{own_few, own_known}
use Rattle.contracts.proofs.Columns.{buyer, kind_at, price_at, quantity_at, key, side}
use Rattle.contracts.proofs.RowKeys.{row_key_group}
use Rattle.contracts.proofs.OwnKeys.{firm_sum, asked_group, cheaper_is, lower_group}
use Rattle.contracts.proofs.SidePlaces.{SideKeys, row, held, row_below, key_at_lem, side_at, buyer_at, held_before, place_of}

-- the rows of one price of kind 3 of buyer b have the places from one up to another, and no earlier one
pub record AskedPlaces (s : Rows) (ds : List ℕ) (b t : ℕ) (m : List ℕ) (from to : ℕ) : Type 0 where
  pub keys : SideKeys s ds b t m
  pub one : t ≡ 1
  pub group : Group m from to
  pub alone : (v : ℕ) → v < from → key_group (at m v) < key_group (at m from)

-- their price
abbrev pub price_from : (s : Rows) → (keys : List ℕ) → (from : ℕ) → ℕ
price_from s m from = price_at s (row m from)

module _ {s : Rows} {ds : List ℕ} {b t : ℕ} {m : List ℕ} {from to : ℕ} (a : AskedPlaces s ds b t m from to) where
  abbrev the_group : ℕ
  the_group = asked_group b (price_from s m from)

  pub begin_below : from < length m
  begin_below = omega (arith, a.group.some, a.group.within)

  pub price_fits : price_from s m from ≤ most_price
  price_fits = a.keys.ready.price (row m from) (row_below a.keys from begin_below)

  -- ---- the rows of the side
  pub demanded_at_lem : (u : ℕ) → u < length m → kind_at s (row m u) ≡ demanded
  demanded_at_lem u h = go (ℕ_discrete (kind_at s (row m u)) demanded)
    where
      go : Dec (kind_at s (row m u) ≡ demanded) → kind_at s (row m u) ≡ demanded
      go (yes e) = e
      go (no e) = absurd (omega (arith, a.one, side_at a.keys u h, pick_ne (kind_at s (row m u)) demanded 1 e))

  group_is : (u : ℕ) → u < length m → key_group (at m u) ≡ asked_group b (price_at s (row m u))
  group_is u h =
      ap key_group (key_at_lem a.keys u h) ∙ row_key_group s ds a.keys.ready (row m u) (row_below a.keys u h) ∙ omega (
        arith,
        buyer_at a.keys u h,
        side_demanded (kind_at s (row m u)) (demanded_at_lem u h),
        bit_demanded (kind_at s (row m u)) (demanded_at_lem u h),
      )

  pub group_from : key_group (at m from) ≡ the_group
  group_from = group_is from begin_below

  pub price_same : (u : ℕ) → from ≤ u → u < to → price_at s (row m u) ≡ price_from s m from
  price_same u h k =
      omega (arith, group_is u (omega (arith, a.group.within)), group_from, a.group.same u h k)

  -- ---- what has passed
  side_is : (j : ℕ) → buyer s j ≡ b → kind_at s j ≡ demanded → b * 2 + t ≡ side s j
  side_is j e k = omega (arith, a.one, side_demanded (kind_at s j) k)

  -- of the side the keys below the group's first have the lower groups
  lower_key : (j : ℕ)
      → j < row_count s
      → buyer s j ≡ b
      → kind_at s j ≡ demanded
      → ltb (key s j) (at m from) ≡ ltb (key_group (key s j)) the_group
  lower_key j h f k = go (place_of a.keys j h (eq-eqb (b * 2 + t) (side s j) (side_is j f k)))
    where
      late : (q : ℕ) → q < length m → from ≤ q → at m from ≤ at m q
      late q lq z =
          ⊎_elim (λ y. omega (arith, a.keys.picked.less from q y lq))
          (λ (y : q ≤ from). let e : q ≡ from = omega arith in rw e (omega arith)) (cut from q)

      go : (q : ℕ) × (q < length m) × (row m q ≡ j) → ltb (key s j) (at m from) ≡ ltb (key_group (key s j)) the_group
      go (q, lq, eq) =
          let e : at m q ≡ key s j = key_at_lem a.keys q lq ∙ ap (key s) eq in
          rw (← e)
          (⊎_elim
          (λ z. both_lt (at m q) (at m from) (key_group (at m q)) the_group (a.keys.picked.less q from z begin_below)
          (omega (arith, a.alone q z, group_from)))
          (λ z. both_ge (at m q) (at m from) (key_group (at m q)) the_group (late q lq z)
          (omega (arith, group_mono (at m from) (at m q) (late q lq z), group_from)))
          (cut q from))

  -- so what has passed is what cheaper groups ask for
  passed_cheaper : (j : ℕ)
      → j < row_count s
      → Dec (buyer s j ≡ b)
      → Dec (kind_at s j ≡ demanded)
      → pick (eqb (b * 2 + t) (side s j)) (pick (ltb (key s j) (at m from)) (quantity_at s j))
      ≡ pick (eqb (buyer s j) b) (pick (eqb (kind_at s j) demanded && ltb (price_at s j) (price_from s m from)) (quantity_at s j))
  passed_cheaper j l (no e) k =
      pick_ne (b * 2 + t) (side s j) _ (λ z. e (omega (arith, a.one, pick_le (eqb (kind_at s j) demanded) 1)))
      ∙ sym (pick_ne (buyer s j) b _ e)
  passed_cheaper j l (yes e) (no k) =
      pick_ne (b * 2 + t) (side s j) _ (λ z. omega (arith, a.one, pick_ne (kind_at s j) demanded 1 k))
      ∙ sym (ap (pick (eqb (buyer s j) b))
      (pick_both (eqb (kind_at s j) demanded) (ltb (price_at s j) (price_from s m from)) (quantity_at s j)
      ∙ pick_ne (kind_at s j) demanded _ k)
      ∙ pick_zero (eqb (buyer s j) b))
  passed_cheaper j l (yes e) (yes k) =
      pick_eq (b * 2 + t) (side s j) _ (side_is j e k)
      ∙ ap (λ (y : Bool). pick y (quantity_at s j))
      (lower_key j l e k ∙ lower_group s ds a.keys.ready b (price_from s m from) price_fits j l e k)
      ∙ sym (pick_eq (buyer s j) b _ e
      ∙ pick_both (eqb (kind_at s j) demanded) (ltb (price_at s j) (price_from s m from)) (quantity_at s j)
      ∙ pick_eq (kind_at s j) demanded _ k)

  -- WHAT IS LEFT FOR THE GROUP
  pub group_left : (d : ℕ)
      → d ≡ at ds b - firm_sum s b
      → d - sum from (held s m) ≡ rest_of (own_of s b) (at ds b) - cheaper_of (own_of s b) (price_from s m from)
  group_left d begins =
      omega (
        arith,
        begins,
        held_before a.keys from begin_below
            ∙ sum_eq (row_count s)
            (λ j. pick (eqb (b * 2 + t) (side s j)) (pick (ltb (key s j) (at m from)) (quantity_at s j)))
            (λ j. pick (eqb (buyer s j) b)
            (pick (eqb (kind_at s j) demanded && ltb (price_at s j) (price_from s m from)) (quantity_at s j)))
            (λ j l. passed_cheaper j l (ℕ_discrete (buyer s j) b) (ℕ_discrete (kind_at s j) demanded))
            ∙ cheaper_is s ds a.keys.ready b (price_from s m from),
        rest_total (own_of s b) (at ds b) (own_few s ds a.keys.ready b) (own_known s ds a.keys.ready b),
      )
