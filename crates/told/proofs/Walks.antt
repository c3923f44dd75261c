-- The lines of a written statement as they are read, for numbers that a line can hold, and steps one after the other. Assumes nothing.
use Prim.Native.Nat.{ℕ, zero, suc, ◌*◌, ◌^◌, ◌≤◌, ◌<◌}
use mathlib.Core.Path.{◌≡◌, refl, ◌∙◌}
use mathlib.Core.List.{[], ◌∷◌}
use lib.IntN.{nat_abs}
use Rattle.sums.specs.Lists.{at}
use Rattle.limits.specs.Limits.{most_agents, most_plants, most_contracts}
use Rattle.sheet.specs.declared.Counts.{Counts}
use Rattle.hour.specs.Answer.{Lent, money_in, schedule_in, amount_in}
use Rattle.text.specs.Lines.{agent_word, plant_word, contract_word, price_word}
use Rattle.text.specs.declared.Line.{Line}
use Rattle.text.proofs.Back.{row_line}
use Rattle.text.proofs.Money.{owed_line}
use Rattle.telling.specs.Text.{agent_numbers}

-- numbers that a line can hold: of 32 bits, and money of up to 18 digits
pub record Writable (c : Counts) (p : ℕ) (l : Lent) : Type 0 where
  pub agents : c.agents ≤ most_agents
  pub plants : c.plants ≤ most_plants
  pub contracts : c.contracts ≤ most_contracts
  pub price : p < 2 ^ 32
  pub figures : (k : ℕ) → k < 6 * c.agents → at l.figures k < 2 ^ 32
  pub money : (a : ℕ) → a < c.agents → nat_abs (money_in l a) < 1000000000000000000
  pub schedule : (i : ℕ) → i < c.plants → schedule_in l i < 2 ^ 32
  pub amounts : (j : ℕ) → j < c.contracts → amount_in l j < 2 ^ 32

-- ---- the lines as they are read
abbrev pub price_read : ℕ → Line
price_read p = row_line price_word (p ∷ [])

abbrev pub agent_read : Lent → ℕ → Line
agent_read l a = owed_line agent_word (agent_numbers l a) (money_in l a)

abbrev pub plant_read : Lent → ℕ → Line
plant_read l i = row_line plant_word (i ∷ schedule_in l i ∷ [])

abbrev pub contract_read : Lent → ℕ → Line
contract_read l j = row_line contract_word (j ∷ amount_in l j ∷ [])

-- ---- steps 0 to n - 1
unfoldable pub walk : {S : Type 0} → (ℕ → S → S) → ℕ → S → S
walk h zero a = a
walk h (suc n) a = h n (walk h n a)

pub walk_still : {S : Type 0} (h : ℕ → S → S) (n : ℕ) (a : S) → ((i : ℕ) (s : S) → h i s ≡ s) → walk h n a ≡ a
unfolding walk
walk_still h zero a e = refl
walk_still h (suc n) a e = e n (walk h n a) ∙ walk_still h n a e
