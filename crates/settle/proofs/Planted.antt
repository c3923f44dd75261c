-- The schedule step by step: with the columns the sheet's, dispatch fills the demand that the must-runs leave from what is spare above
-- them, and with them added the list is the schedule. Assumes nothing.
use Rattle.std.specs.Prelude.{Ok}
use native.Mathlib.Omega.{arith}
use Prim.Native.Nat.{ℕ, ◌+◌, ◌-◌, ◌≤◌, ◌<◌}
use mathlib.Core.List.{List}
use mathlib.Core.Path.{◌≡◌, refl, ap, ◌∙◌, sym}
use lib.ListN.{length, take}
use Rattle.sums.specs.Sums.{sum}
use Rattle.sums.specs.Lists.{at, Filled}
use Rattle.sums.proofs.Fill.{filled_count, front_fits}
use Rattle.refusals.specs.Refusals.{Verdict}
use Rattle.sheet.specs.Reading.{read_of}
use Rattle.sheet.specs.declared.Counts.{Counts}
use Rattle.columns.specs.Columns.{columns_of}
use Rattle.columns.proofs.Columns.{plants_long, sound}
use Rattle.hour.specs.Sheet.{Sheet, plants}
use Rattle.hour.specs.Sound.{Sound}
use Rattle.hour.specs.Lines.{scheduled}
use Rattle.hour.proofs.Bounds.{scheduled_le}
use Rattle.dispatch.specs.Dispatch.{Dispatched}
use Rattle.ground.specs.Ground.{Fleet, Tabled, fleet}
use Rattle.ground.proofs.Rows.{Fronts, fronts}
use Rattle.settle.specs.Parts.{Covered, spare_of}
use Rattle.settle.proofs.Stages.{spare_are, scheduled_at, scheduled_are}

-- f has the columns, filled into lists as long as z
module _ (bytes : List ℕ) (c : Counts) (e : read_of bytes ≡ Ok c) (z : List ℕ) (few : c.plants ≤ length z) (f : Fleet)
    (t : Tabled (columns_of bytes c) c.plants (fleet z z z z z) f) where
  abbrev h : Sheet
  h = columns_of bytes c

  abbrev ms : List ℕ
  ms = take c.plants f.musts

  ok : Sound h
  ok = sound bytes c e

  count : plants h ≡ c.plants
  count = plants_long bytes c

  pub front : Fronts h c.plants f
  front =
      fronts bytes c e (fleet z z z z z) f (record { holders = few; flags = few; musts = few; offers = few; available = few }) t

  abbrev n_musts : length h.must_run ≡ c.plants
  n_musts = ok.whole.must_run ∙ count

  module _ (d : ℕ) (before os : List ℕ) (cover : Covered h d (length before) os) where
    -- all must-runs together are at most the demand
    pub apart_asked : d ≤ 4294967295 → (length ms ≤ length f.available) × (sum (length ms) (at ms) ≤ 4294967295)
    apart_asked l =
        rw (front.musts, n_musts) (
          front_fits _ _ _ _ t.available few,
          omega (arith, ap (λ (n : ℕ). sum n (at h.must_run)) count, cover.runs, cover.target),
        )

    module _ (m : ℕ) (vs : List ℕ)
        (a : (m ≡ sum (length ms) (at ms)) × Filled 0 f.available vs (length ms) (λ i. at f.available i - at ms i)) where
      apart : (m ≡ sum c.plants (at h.must_run)) × Filled 0 f.available vs c.plants (λ i. at f.available i - at h.must_run i)
      apart = rw (front.musts, n_musts) at a

      pub spare_fits : c.plants ≤ length vs
      spare_fits = front_fits _ _ _ _ apart.1 (front_fits _ _ _ _ t.available few)

      spare : take c.plants vs ≡ spare_of h
      spare =
          spare_are h _ count h.must_run f.available vs (front_fits _ _ _ _ t.available few) (λ i l. refl)
          t.available.done apart.1

      module _ (x : ℕ) (left : x ≡ d - m) (r : Verdict) (mid : List ℕ)
          (w : Dispatched (take c.plants f.offers) (take c.plants vs) x before r mid) where
        rest : x ≡ d - sum (plants h) (at h.must_run)
        rest = rw count (left ∙ ap (λ (m : ℕ). d - m) apart.0)

        above : Dispatched h.offers (spare_of h) x before r mid
        above = rw (front.offers, spare) at w

        -- a must-run and what lies above it fit one cell
        pub musts_asked : (length ms ≤ length mid) × ((i : ℕ) → i < length ms → at ms i + at mid i ≤ 4294967295)
        musts_asked =
            rw (front.musts, n_musts) (
              omega (arith, count, cover.fits, above.result.long),
              λ i l.
                  let p : i < plants h = omega (arith, count) in
                  omega (arith, scheduled_at h ok d before os cover x rest r mid above i p, scheduled_le h ok i p),
            )

        pub filled : (after : List ℕ)
            → Filled 0 mid after (length ms) (λ i. at ms i + at mid i)
            → Filled 0 before after c.plants (scheduled h)
        filled after g =
            let k : Filled 0 mid after c.plants (λ i. at h.must_run i + at mid i) = rw (front.musts, n_musts) at g in
            filled_count 0 _ _ _ _ _ count
            (scheduled_are h ok d before os cover x rest r mid above after (filled_count 0 _ _ _ _ _ (sym count) k))
