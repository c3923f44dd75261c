-- What the agents' and boundary rows of an accepted sheet hold, read from their sections, and the sums of the readings by agent.
-- Assumes nothing.
use Rattle.std.specs.Prelude.{Ok}
use Prim.Native.Nat.{ℕ, ◌*◌, ◌≤◌, ◌<◌}
use native.Mathlib.Omega.{arith}
use mathlib.Core.List.{List}
use mathlib.Core.Path.{◌≡◌, ap, ap₂, ◌∙◌, sym}
use Rattle.sums.specs.Sums.{keyed}
use Rattle.sums.specs.Lists.{at}
use Rattle.sums.proofs.Keyed.{keyed_eq, keyed_most}
use Rattle.limits.specs.Limits.{most_agents, most_factor, most_reading}
use Rattle.octets.specs.Bytes.{words_at}
use Rattle.rows.specs.Rows.{agent_of, boundary_of}
use Rattle.octets.specs.declared.Words.{Words}
use Rattle.limits.specs.declared.Boundary.{Boundary}
use Rattle.sheet.specs.Reading.{read_of}
use Rattle.sheet.specs.Asking.{boundary_at, section_of}
use Rattle.sheet.specs.declared.Counts.{Counts}
use Rattle.sheet.proofs.Accepted.{accepted_few, accepted_boundary}
use Rattle.sheet.proofs.Sections.{agent_row, boundary_row}
use Rattle.columns.specs.Columns.{columns_of}
use Rattle.columns.proofs.Columns.{boundaries_long, kind_at_lem, owner_at, factor_at, import_at, export_at}
use Rattle.hour.specs.Balance.{referred, imported, exported}
use Rattle.hour.proofs.Bounds.{most_referred, referred_le}

-- row j of a boundary section
abbrev pub row : (section : List ℕ) → ℕ → Boundary
row b j = boundary_of (words_at b j)

abbrev pub owner : (section : List ℕ) → ℕ → ℕ
owner b j = (row b j).agent

abbrev pub taken : (section : List ℕ) → ℕ → ℕ
taken b j = referred (row b j).import (row b j).factor

abbrev pub given : (section : List ℕ) → ℕ → ℕ
given b j = referred (row b j).export (row b j).factor

pub record RowSound (b : Boundary) : Type 0 where
  pub there : b.agent < most_agents
  pub factor : b.factor ≤ most_factor
  pub import : b.import ≤ most_reading
  pub export : b.export ≤ most_reading

module _ (s : List ℕ) (c : Counts) (e : read_of s ≡ Ok c) where
  -- the agents' section has the column of kinds
  pub kind_is : (b : List ℕ) → b ≡ section_of s c 1 → (a : ℕ) → a < c.agents → (agent_of (words_at b a)).kind ≡ at (columns_of s c).kinds a
  kind_is b is a l =
      ap (λ (x : List ℕ). (agent_of (words_at x a)).kind) is ∙ ap (λ (w : Words). (agent_of w).kind) (agent_row s c e a l)
      ∙ sym (kind_at_lem s c a l)

  module _ (b : List ℕ) (is : b ≡ section_of s c 2) where
    row_is : (j : ℕ) → j < c.boundaries → row b j ≡ boundary_at s c j
    row_is j l = ap (λ (x : List ℕ). row x j) is ∙ ap boundary_of (boundary_row s c e j l)

    owner_is : (j : ℕ) → j < c.boundaries → owner b j ≡ at (columns_of s c).owners j
    owner_is j l = ap (λ (x : Boundary). x.agent) (row_is j l) ∙ sym (owner_at s c j l)

    -- the sums by agent are those of the columns
    pub imported_is : (a : ℕ) → keyed (owner b) (taken b) c.boundaries a ≡ imported (columns_of s c) a
    unfolding imported
    imported_is a =
        rw (boundaries_long s c)
        (keyed_eq _ _ _ _ c.boundaries a owner_is
        (λ j l. ap (λ (x : Boundary). referred x.import x.factor) (row_is j l)
        ∙ sym (ap₂ referred (import_at s c j l) (factor_at s c j l))))

    pub exported_is : (a : ℕ) → keyed (owner b) (given b) c.boundaries a ≡ exported (columns_of s c) a
    unfolding exported
    exported_is a =
        rw (boundaries_long s c)
        (keyed_eq _ _ _ _ c.boundaries a owner_is
        (λ j l. ap (λ (x : Boundary). referred x.export x.factor) (row_is j l)
        ∙ sym (ap₂ referred (export_at s c j l) (factor_at s c j l))))

    pub row_sound : (j : ℕ) → j < c.boundaries → RowSound (row b j)
    row_sound j l =
        let r = accepted_boundary s c e j l in
        rw (row_is j l)
        (record {
          there = omega (arith, r.there, (accepted_few s c e).agents);
          factor = r.fits.factor;
          import = r.fits.import;
          export = r.fits.export;
        })

    -- j rows of one agent come to at most so much each
    module _ (j a : ℕ) (h : j ≤ c.boundaries) where
      pub taken_most : keyed (owner b) (taken b) j a ≤ most_referred * j
      taken_most =
          keyed_most (owner b) (taken b) j a most_referred
          (λ k l. let r = row_sound k (omega arith) in referred_le _ _ r.import r.factor)

      pub given_most : keyed (owner b) (given b) j a ≤ most_referred * j
      given_most =
          keyed_most (owner b) (given b) j a most_referred
          (λ k l. let r = row_sound k (omega arith) in referred_le _ _ r.export r.factor)
