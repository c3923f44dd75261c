-- What sorting out the agents goes by, their rows and the exact columns, is the sheet's; and from the bounds on an hour's sums it follows
-- that no sum of it is too large. Assumes nothing.
use Rattle.std.specs.Prelude.{Ok}
use Prim.Native.Nat.{ℕ, ◌+◌, ◌-◌, ◌≤◌, ◌<◌}
use native.Mathlib.Omega.{arith}
use mathlib.Core.Bool.{Bool, true, false, not, ◌&&◌, ◌||◌}
use mathlib.Core.List.{List}
use mathlib.Core.Path.{◌≡◌, refl, ap, ◌∙◌}
use lib.Dec.{ltb}
use Rattle.limits.specs.Limits.{most_agents}
use Rattle.octets.specs.Bytes.{words_at}
use Rattle.rows.specs.Rows.{agent_of, carries_losses}
use Rattle.sums.specs.Sums.{sum, pick}
use Rattle.sums.specs.Lists.{at}
use Rattle.sums.proofs.Sums.{sum_eq, sum_step, sum_mono}
use Rattle.sums.proofs.Tests.{clash}
use Rattle.sheet.specs.Reading.{read_of}
use Rattle.sheet.specs.Asking.{section_of}
use Rattle.sheet.specs.declared.Counts.{Counts}
use Rattle.sheet.proofs.Accepted.{accepted_few}
use Rattle.columns.specs.Columns.{columns_of}
use Rattle.columns.proofs.Columns.{agents_long, sound}
use Rattle.hour.specs.Balance.{rounded, imported, exported, own_import, delivered, consumption}
use Rattle.hour.proofs.Bounds.{imported_tenths, exported_tenths, entering_le, leaving_le}
use Rattle.balance.specs.Parts.{most_exact, Metered}
use Rattle.balance.proofs.Rows.{kind_is}
use Rattle.balance.proofs.ByAgent.{used_is, taken_is, given_is, consumed_is, entering_is, leaving_is}

abbrev pub kind_of : (section : List ℕ) → ℕ → ℕ
kind_of s k = (agent_of (words_at s k)).kind

abbrev pub taken_of : (section imports : List ℕ) → ℕ → ℕ
taken_of s i k = pick (not (carries_losses (kind_of s k))) (rounded (at i k))

abbrev pub used_of : (section imports exports : List ℕ) → ℕ → ℕ
used_of s i e k = pick (carries_losses (kind_of s k)) (rounded (at i k - at e k))

abbrev pub over_of : (section imports exports : List ℕ) → ℕ → Bool
over_of s i e k = carries_losses (kind_of s k) && ltb (at i k) (at e k)

-- ---- what is told of one agent, from the kind in its row
module _ (b i : List ℕ) (a k : ℕ) (is : k ≡ kind_of b a) where
  pub taken_here : (r : ℕ) → r ≡ pick (not (carries_losses k)) (rounded (at i a)) → r ≡ taken_of b i a
  taken_here r e = e ∙ ap (λ (x : ℕ). pick (not (carries_losses x)) (rounded (at i a))) is

  module _ (x : List ℕ) where
    pub used_here : (r : ℕ) → r ≡ pick (carries_losses k) (rounded (at i a - at x a)) → r ≡ used_of b i x a
    used_here r e = e ∙ ap (λ (y : ℕ). pick (carries_losses y) (rounded (at i a - at x a))) is

    pub over_here : (r : Bool) → r ≡ (carries_losses k && ltb (at i a) (at x a)) → r ≡ over_of b i x a
    over_here r e = e ∙ ap (λ (y : ℕ). carries_losses y && ltb (at i a) (at x a)) is

pub neither : (t u : Bool) → (t || u) ≡ false → (t ≡ false) × (u ≡ false)
neither false u e = (refl, e)
neither true u e = absurd (clash true refl e)

module _ (s : List ℕ) (c : Counts) (ok : read_of s ≡ Ok c) (imports exports : List ℕ) (m : Metered (columns_of s c) imports exports) where
  pub few : c.agents ≤ most_agents
  few = (accepted_few s c ok).agents

  pub took : (k : ℕ) → k < c.agents → at imports k ≡ imported (columns_of s c) k
  took k l = m.took k (omega (arith, few))

  pub gave : (k : ℕ) → k < c.agents → at exports k ≡ exported (columns_of s c) k
  gave k l = m.gave k (omega (arith, few))

  pub exact : (k : ℕ) → k < c.agents → (at imports k ≤ most_exact) × (at exports k ≤ most_exact)
  exact k l = (
    omega (arith, took k l, imported_tenths (columns_of s c) (sound s c ok) k),
    omega (arith, gave k l, exported_tenths (columns_of s c) (sound s c ok) k),
  )

  module _ (b : List ℕ) (is : b ≡ section_of s c 1) where
    pub kinds_are : (k : ℕ) → k < c.agents → kind_of b k ≡ at (columns_of s c).kinds k
    kinds_are k l = kind_is s c ok b is k l

    pub takes : (k : ℕ) → k < c.agents → taken_of b imports k ≡ own_import (columns_of s c) k
    takes k l = taken_is _ k _ _ 0 (kinds_are k l) (took k l)

    pub gives : (k : ℕ) → k < c.agents → taken_of b exports k ≡ delivered (columns_of s c) k
    gives k l = given_is _ k _ _ (kinds_are k l) (gave k l)

    pub uses : (k : ℕ) → k < c.agents → used_of b imports exports k ≡ consumption (columns_of s c) k
    uses k l = used_is _ k _ _ _ (kinds_are k l) (took k l) (gave k l)

    pub entering_fits : (a : ℕ) → a < c.agents → sum a (taken_of b exports) + taken_of b exports a ≤ 4294967295
    entering_fits a l =
        omega (
          arith,
          sum_step a (taken_of b exports),
          sum_mono (a + 1) c.agents (taken_of b exports) (omega arith),
          entering_is (columns_of s c) _ (agents_long s c) (taken_of b exports) gives,
          entering_le _ (sound s c ok),
        )

    pub leaving_fits : (a : ℕ) → a < c.agents
        → (sum a (used_of b imports exports) + used_of b imports exports a)
        + (sum a (taken_of b imports) + taken_of b imports a) ≤ 4294967295
    leaving_fits a l =
        omega (
          arith,
          sum_step a (used_of b imports exports),
          sum_step a (taken_of b imports),
          sum_mono (a + 1) c.agents (used_of b imports exports) (omega arith),
          sum_mono (a + 1) c.agents (taken_of b imports) (omega arith),
          consumed_is (columns_of s c) _ (agents_long s c) (used_of b imports exports) uses,
          sum_eq _ _ _ takes,
          leaving_is (columns_of s c) _ (agents_long s c),
          leaving_le _ (sound s c ok),
        )
