-- The rows of a sheet by where they stand, and what mending makes of each. Assumes nothing.
use Prim.Native.Nat.{ℕ, ◌≤◌, ◌<◌}
use native.Mathlib.Omega.{arith}
use native.Mathlib.Decide.{dec_lt}
use mathlib.Core.Path.{◌≡◌}
use borrow.Author.Tests.{lt-ltb, le-ltb, eq-eqb, ne_eqb}
use Rattle.octets.specs.Bytes.{words_of}
use Rattle.octets.specs.declared.Words.{Words}
use Rattle.octets.proofs.Trip.{Narrow}
use Rattle.sheet.specs.Reading.{boundary_start, plant_start, trailer_start}
use Rattle.sheet.specs.declared.Counts.{Counts}
use Rattle.mend.specs.Mend.{agent_mended, boundary_mended, agents_and_boundaries, plants_and_contracts, row_mended}
use Rattle.mend.specs.Steps.{Small}

-- an agent, a boundary, a plant or a contract, the trailer's first row, its second
pub data Range (c : Counts) (r : ℕ) : Type 0 where
  agent : r < boundary_start c → Range c r
  boundary : boundary_start c ≤ r → r < plant_start c → Range c r
  kept : plant_start c ≤ r → r < trailer_start c → Range c r
  head : r ≡ trailer_start c → Range c r
  tail : trailer_start c < r → Range c r

pub range : (c : Counts) (r : ℕ) → Range c r
range c r =
    go (dec_lt r (boundary_start c)) (dec_lt r (plant_start c)) (dec_lt r (trailer_start c)) (dec_lt (trailer_start c) r)
  where
    go : Dec (r < boundary_start c) → Dec (r < plant_start c) → Dec (r < trailer_start c) → Dec (trailer_start c < r) → Range c r
    go (yes l) _ _ _ = agent l
    go (no a) (yes l) _ _ = boundary (omega arith) l
    go (no a) (no b) (yes l) _ = kept (omega arith) l
    go (no a) (no b) (no k) (yes l) = tail l
    go (no a) (no b) (no k) (no l) = head (omega arith)

-- ---- what a row becomes
module _ (c : Counts) (r : ℕ) (w : Words) where
  pub row_agent : r < boundary_start c → row_mended c r w ≡ agent_mended w
  unfolding row_mended
  row_agent l = rw (lt-ltb r (boundary_start c) l)

  pub row_boundary : boundary_start c ≤ r → r < plant_start c → row_mended c r w ≡ boundary_mended w
  unfolding row_mended
  row_boundary a l = rw (le-ltb r (boundary_start c) a, lt-ltb r (plant_start c) l)

  pub row_kept : plant_start c ≤ r → r < trailer_start c → row_mended c r w ≡ w
  unfolding row_mended
  row_kept b l =
      let a : boundary_start c ≤ r = omega arith in
      rw (le-ltb r (boundary_start c) a, le-ltb r (plant_start c) b, lt-ltb r (trailer_start c) l)

  past : trailer_start c ≤ r → (boundary_start c ≤ r) × (plant_start c ≤ r)
  past h = (omega arith, omega arith)

  pub row_head : r ≡ trailer_start c → row_mended c r w ≡ agents_and_boundaries c w
  unfolding row_mended
  row_head e =
      let k : trailer_start c ≤ r = omega arith in
      let (a, b) = past k in
      rw (le-ltb r (boundary_start c) a, le-ltb r (plant_start c) b, le-ltb r (trailer_start c) k, eq-eqb r (trailer_start c) e)

  pub row_tail : trailer_start c < r → row_mended c r w ≡ plants_and_contracts c w
  unfolding row_mended
  row_tail l =
      let k : trailer_start c ≤ r = omega arith in
      let (a, b) = past k in
      let n : r ≡ trailer_start c → ⊥ = λ q. omega arith in
      rw (le-ltb r (boundary_start c) a, le-ltb r (plant_start c) b, le-ltb r (trailer_start c) k, ne_eqb r (trailer_start c) n)

-- MENDED TWICE A ROW IS AS MENDED ONCE
pub row_twice : (c : Counts) (r : ℕ) (w : Words) → row_mended c r (row_mended c r w) ≡ row_mended c r w
row_twice c r w = go (range c r)
  where
    go : Range c r → row_mended c r (row_mended c r w) ≡ row_mended c r w
    go (agent l) = rw (row_agent c r w l) (row_agent c r (agent_mended w) l)
    go (boundary a l) = rw (row_boundary c r w a l) (row_boundary c r (boundary_mended w) a l)
    go (kept b l) = rw (row_kept c r w b l) (row_kept c r w b l)
    go (head e) = rw (row_head c r w e) (row_head c r (agents_and_boundaries c w) e)
    go (tail l) = rw (row_tail c r w l) (row_tail c r (plants_and_contracts c w) l)

-- its numbers fit 32 bits
pub mended_narrow : (c : Counts) (r : ℕ) (w : Words) → Small c → Narrow w → Narrow (row_mended c r w)
mended_narrow c r w h n = go (range c r)
  where
    go : Range c r → Narrow (row_mended c r w)
    go (agent l) =
        rw (row_agent c r w l) (record { first = n.first; second = omega arith; third = omega arith; fourth = omega arith })
    go (boundary a l) =
        rw (row_boundary c r w a l) (record { first = n.first; second = omega arith; third = n.third; fourth = n.fourth })
    go (kept b l) = rw (row_kept c r w b l) n
    go (head e) =
        rw (row_head c r w e) (record { first = omega arith; second = n.second; third = omega arith; fourth = n.fourth })
    go (tail l) =
        rw (row_tail c r w l) (record { first = omega arith; second = n.second; third = omega arith; fourth = n.fourth })

-- four numbers that a row has are the row
pub row_same : (w : Words) (a b c d : ℕ) → w.first ≡ a → w.second ≡ b → w.third ≡ c → w.fourth ≡ d → words_of a b c d ≡ w
row_same w a b c d p q r t = rw (← p, ← q, ← r, ← t)
