-- The rows of one side of a buyer by their places: the order of their keys. A key carries its row, so the places have rows of their own,
-- each row of the side has its place, and what has passed before a place is what the side's rows of lower keys hold. Assumes nothing.
use Prim.Native.Nat.{ℕ, ◌+◌, ◌*◌, ◌%◌, ◌≤◌, ◌<◌}
use native.Mathlib.Omega.{arith}
use mathlib.Core.Bool.{Bool, true, false}
use mathlib.Core.List.{List}
use mathlib.Core.Path.{◌≡◌, ap, ap₂, ◌∙◌, sym}
use lib.Dec.{ltb, eqb}
use lib.ListN.{length}
use borrow.Author.Tests.{eq-eqb, eqb-true}
use Rattle.sums.specs.Sums.{sum, pick}
use Rattle.sums.specs.Lists.{at}
use Rattle.sums.proofs.Sums.{sum_eq, Some}
use Rattle.sums.proofs.Tests.{clash}
use Rattle.sums.proofs.Picks.{pick_le}
use Rattle.sums.proofs.Cut.{pick_what}
use Rattle.deals.specs.Deals.{demanded}
use Rattle.deals.specs.Hour.{Rows, hour_amount}
use Rattle.contracts.specs.Keys.{key_side, key_row, row_span, row_count, Ready}
use Rattle.contracts.specs.Sides.{Picked}
use Rattle.contracts.specs.Walk.{Rowed}
use Rattle.contracts.proofs.Columns.{buyer, kind_at, quantity_at, key, side}
use Rattle.contracts.proofs.Scan.{ahead, row_over, row_lt, row_key, row_apart, row_place_lem}
use Rattle.contracts.proofs.RowKeys.{row_key_row, row_key_side}

-- of rows that nothing is wrong with those of side t of buyer b, in the order m of their keys
pub record SideKeys (s : Rows) (ds : List ℕ) (b t : ℕ) (m : List ℕ) : Type 0 where
  pub ready : Ready s ds
  pub bit : t ≤ 1
  pub picked : Picked (eqb (b * 2 + t)) (key s) (row_count s) (length m) m

-- the row at a place, and what it holds
abbrev pub row : (keys : List ℕ) → ℕ → ℕ
row m u = key_row (at m u)

abbrev pub held : (s : Rows) → (keys : List ℕ) → ℕ → ℕ
held s m u = quantity_at s (row m u)

module _ {s : Rows} {ds : List ℕ} {b t : ℕ} {m : List ℕ} (w : SideKeys s ds b t m) where
  abbrev over : ℕ → Bool
  over = eqb (b * 2 + t)

  carry : (j : ℕ) → j < row_count s → key s j % row_span ≡ j
  carry j h = row_key_row s ds w.ready j h

  pub row_below : (u : ℕ) → u < length m → row m u < row_count s
  row_below u h = row_lt w.picked carry u h

  -- the places have rows of their own
  pub rowed : (most : ℕ) → row_count s ≤ most → Rowed m (length m) most
  rowed most h =
      record { below = λ u k. omega (arith, row_below u k); apart = λ q r k z e. row_apart w.picked carry q r k z e }

  pub key_at_lem : (u : ℕ) → u < length m → at m u ≡ key s (row m u)
  key_at_lem u h = row_key w.picked carry u h

  pub side_at : (u : ℕ) → u < length m → b * 2 + t ≡ side s (row m u)
  side_at u h =
      eqb-true (b * 2 + t) (key_side (at m u)) (row_over w.picked u h)
      ∙ ap key_side (key_at_lem u h) ∙ row_key_side s ds w.ready (row m u) (row_below u h)

  pub buyer_at : (u : ℕ) → u < length m → buyer s (row m u) ≡ b
  buyer_at u h = omega (arith, w.bit, side_at u h, pick_le (eqb (kind_at s (row m u)) demanded) 1)

  pub held_before : (u : ℕ)
      → u < length m
      → sum u (held s m) ≡ sum (row_count s) (λ j. pick (over (side s j)) (pick (ltb (key s j) (at m u)) (quantity_at s j)))
  held_before u h =
      ahead w.picked u h (λ k. quantity_at s (key_row k))
      ∙ sum_eq (row_count s)
      (λ j. pick (over (key_side (key s j))) (pick (ltb (key s j) (at m u)) (quantity_at s (key_row (key s j)))))
      (λ j. pick (over (side s j)) (pick (ltb (key s j) (at m u)) (quantity_at s j)))
      (λ j k. ap₂ (λ (y z : ℕ). pick (over y) (pick (ltb (key s j) (at m u)) (quantity_at s z)))
      (row_key_side s ds w.ready j k) (row_key_row s ds w.ready j k))

  -- each row of the side has its place
  pub place_of : (j : ℕ) → j < row_count s → over (side s j) ≡ true → (q : ℕ) × (q < length m) × (row m q ≡ j)
  place_of j h e =
      let f : Some (length m) (λ q. pick (eqb j (at m q % row_span)) 1) =
      row_place_lem w.picked carry j h (ap over (row_key_side s ds w.ready j h) ∙ e) in
      (f.which, f.within, sym (pick_what j (row m f.which) 1 f.above))

  -- SO WHAT IS WRITTEN PLACE BY PLACE THE ROWS OF THE SIDE HAVE, AND NO OTHER ROW
  pub put_back : (before after : List ℕ)
      → ((u : ℕ) → u < length m → at after (row m u) ≡ hour_amount s ds (row m u))
      → ((j : ℕ) → ((u : ℕ) → u < length m → row m u ≡ j → ⊥) → at after j ≡ at before j)
      → ((j : ℕ) → j < row_count s → over (side s j) ≡ true → at after j ≡ hour_amount s ds j)
      × ((j : ℕ) → j < row_count s → over (side s j) ≡ false → at after j ≡ at before j)
      × ((j : ℕ) → row_count s ≤ j → at after j ≡ at before j)
  put_back before after each kept = (
    (λ j h e. there j (place_of j h e)),
    (λ j h e. kept j (λ u k z. clash (over (side s j)) (eq-eqb (b * 2 + t) (side s j) (side_at u k ∙ ap (side s) z)) e)),
    (λ j h. kept j (λ u k e. omega (arith, row_below u k))),
  )
    where
      there : (j : ℕ) → (q : ℕ) × (q < length m) × (row m q ≡ j) → at after j ≡ hour_amount s ds j
      there j (q, lq, e) = rw (← e) (each q lq)
