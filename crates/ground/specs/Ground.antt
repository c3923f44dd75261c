-- What settling and checking both stand on: whether an hour is settled at all, and the plants of a sheet by their columns.
-- Assumes nothing.
use Rattle.std.specs.Prelude.{ℕ, Bool, List, [], ◌∷◌, ℤ}
use Rattle.sums.specs.Lists.{at, Filled}
use Rattle.refusals.specs.Refusals.{no_room, refused_unless, first_of}
use Rattle.refusals.specs.Refusals.{Verdict}
use Rattle.hour.specs.Sheet.{Sheet}
use Rattle.hour.specs.Answer.{lent, balance_verdict, cover_verdict, hour_verdict}

-- the verdict on the hour of the sheet h: refusals 7 to 10 and 13, and 11 unless there is room
unfoldable pub admission_with : (h : Sheet) (room : Bool) → Verdict
admission_with h room = first_of (balance_verdict h ∷ cover_verdict h ∷ refused_unless room no_room 0 ∷ [])

-- the same, for these four lists
abbrev pub admission : (h : Sheet) (figures : List ℕ) (money : List ℤ) (schedule amounts : List ℕ) → Verdict
admission h f m s a = hour_verdict h (lent f m s a)

-- the columns of a sheet's plants, a cell a plant
pub record Fleet : Type 0 where
  pub holders : List ℕ
  pub flags : List ℕ
  pub musts : List ℕ
  pub offers : List ℕ
  pub available : List ℕ

abbrev pub fleet : (holders flags musts offers available : List ℕ) → Fleet
fleet h f m o v = record { holders = h; flags = f; musts = m; offers = o; available = v }

-- in the first n cells the columns of the sheet h; what stands behind is as it was
pub record Tabled (h : Sheet) (n : ℕ) (before after : Fleet) : Type 0 where
  pub holders : Filled 0 before.holders after.holders n (at h.holders)
  pub flags : Filled 0 before.flags after.flags n (at h.flags)
  pub musts : Filled 0 before.musts after.musts n (at h.must_run)
  pub offers : Filled 0 before.offers after.offers n (at h.offers)
  pub available : Filled 0 before.available after.available n (at h.available)
