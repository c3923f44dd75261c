-- The rows of a plant section are the sheet's plants, in each column; and the front of a list that a column was filled into is the column.
-- Assumes nothing.
use Rattle.std.specs.Prelude.{Ok}
use Prim.Native.Nat.{ℕ, ◌≤◌, ◌<◌}
use native.Mathlib.Omega.{arith}
use mathlib.Core.List.{List}
use mathlib.Core.Path.{◌≡◌, refl, ap, ◌∙◌, sym}
use lib.ListN.{length, take}
use Rattle.sums.specs.Sums.{sum}
use Rattle.sums.specs.Lists.{at, Filled}
use Rattle.sums.proofs.Sums.{sum_eq}
use Rattle.sums.proofs.Lists.{list_to_is}
use Rattle.sums.proofs.Fill.{filled_front, filled_by}
use Rattle.limits.specs.Limits.{most_available}
use Rattle.octets.specs.Bytes.{words_at}
use Rattle.rows.specs.Rows.{plant_of}
use Rattle.limits.specs.declared.Plant.{Plant}
use Rattle.sheet.specs.Reading.{read_of}
use Rattle.sheet.specs.Asking.{plant_at, section_of}
use Rattle.sheet.specs.declared.Counts.{Counts}
use Rattle.sheet.proofs.Accepted.{accepted_plant}
use Rattle.sheet.proofs.Sections.{plant_row}
use Rattle.columns.specs.Columns.{columns_of}
use Rattle.columns.proofs.Columns.{plants_long, sound}
use Rattle.hour.specs.Sheet.{Sheet, plants}
use Rattle.ground.specs.Ground.{Fleet, Tabled}
use Rattle.ground.specs.Parts.{Wide}

-- row j of a plant section
abbrev pub plant : (section : List ℕ) → ℕ → Plant
plant b j = plant_of (words_at b j)

pub record Bounded (p : Plant) : Type 0 where
  pub available : p.availability ≤ most_available
  pub must : p.must ≤ most_available

module _ (s : List ℕ) (c : Counts) (e : read_of s ≡ Ok c) (b : List ℕ) (is : b ≡ section_of s c 3) where
  pub plant_is : (j : ℕ) → j < c.plants → plant b j ≡ plant_at s c j
  plant_is j l = ap (λ (x : List ℕ). plant x j) is ∙ ap plant_of (plant_row s c e j l)

  pub bounded : (j : ℕ) → j < c.plants → Bounded (plant b j)
  bounded j l =
      let r = (accepted_plant s c e j l).fits in
      rw (plant_is j l)
      (record { available = r.availability; must = omega (arith, r.within, r.availability) })

  -- a column that holds the field f of each plant
  module _ (f : Plant → ℕ) (column : List ℕ) (same : (j : ℕ) → j < c.plants → at column j ≡ f (plant_at s c j)) where
    field_at : (j : ℕ) → j < c.plants → f (plant b j) ≡ at column j
    field_at j l = ap f (plant_is j l) ∙ sym (same j l)

    pub column_sum : sum c.plants (λ j. f (plant b j)) ≡ sum (plants (columns_of s c)) (at column)
    column_sum = rw (plants_long s c) (sum_eq _ _ _ field_at)

    pub column_filled : (before after : List ℕ)
        → Filled 0 before after c.plants (λ j. f (plant b j))
        → Filled 0 before after c.plants (at column)
    column_filled before after r = filled_by 0 _ _ _ _ _ field_at r

pub front_is : (before after column : List ℕ) (n : ℕ)
    → n ≤ length before
    → length column ≡ n
    → Filled 0 before after n (at column)
    → take n after ≡ column
front_is before after column n room long f =
    filled_front 0 before after n (at column) room f ∙ sym (list_to_is 0 (at column) n column long (λ i l. refl))

-- the fronts of lists that the columns of an accepted sheet's plants were filled into
pub record Fronts (h : Sheet) (n : ℕ) (f : Fleet) : Type 0 where
  pub holders : take n f.holders ≡ h.holders
  pub flags : take n f.flags ≡ h.flags
  pub musts : take n f.musts ≡ h.must_run
  pub offers : take n f.offers ≡ h.offers
  pub available : take n f.available ≡ h.available

pub fronts : (s : List ℕ) (c : Counts)
    → read_of s ≡ Ok c
    → (before after : Fleet)
    → Wide c.plants before
    → Tabled (columns_of s c) c.plants before after
    → Fronts (columns_of s c) c.plants after
fronts s c e before after room l =
    let whole = (sound s c e).whole in
    let n = plants_long s c in
    record {
      holders = front_is _ _ _ _ room.holders n l.holders;
      flags = front_is _ _ _ _ room.flags (whole.flags ∙ n) l.flags;
      musts = front_is _ _ _ _ room.musts (whole.must_run ∙ n) l.musts;
      offers = front_is _ _ _ _ room.offers (whole.offers ∙ n) l.offers;
      available = front_is _ _ _ _ room.available (whole.available ∙ n) l.available;
    }
