-- How the tests of an agent's kind hang together. Each is of a few numbers, so each law is read off them. Assumes nothing.
use Prim.Native.Nat.{ℕ, ◌≤◌, ◌<◌}
use native.Mathlib.Omega.{arith}
use mathlib.Core.Bool.{Bool, true, false, ◌&&◌, ◌||◌, not, true≢false, false≢true}
use mathlib.Core.Logic.{◌⊎◌, inl, inr}
use mathlib.Core.Path.{◌≡◌, refl, sym, ◌∙◌}
use lib.Dec.{eqb}
use borrow.Author.Tests.{eqb-true, ne_eqb}
use Rattle.sums.proofs.Tests.{and_left, or_cases}
use Rattle.rows.specs.Rows.{carries_losses, is_generator, may_sell, may_buy, holds_plants, is_outside, is_agent}

-- two numbers are not one
apart : (kind x y : ℕ) → eqb kind x ≡ true → (x ≡ y → ⊥) → eqb kind y ≡ false
apart kind x y e n = ne_eqb kind y (λ q. n (sym (eqb-true kind x e) ∙ q))

-- an agent is metered as a retailer or as a generator, and not as both
pub metered : (kind : ℕ) → is_agent kind ≡ true → carries_losses kind ≡ false → is_generator kind ≡ true
metered kind e f = go (carries_losses kind) (is_generator kind) e f
  where
    go : (t u : Bool) → (t || u) ≡ true → t ≡ false → u ≡ true
    go true u h g = absurd (true≢false g)
    go false u h g = h

pub generator_carries_none : (kind : ℕ) → is_generator kind ≡ true → carries_losses kind ≡ false
generator_carries_none kind e = go (or_cases (eqb kind 2) (eqb kind 3) e)
  where
    go : (eqb kind 2 ≡ true) ⊎ (eqb kind 3 ≡ true) → eqb kind 1 ≡ false
    go (inl h) = apart kind 2 1 h (λ q. omega arith)
    go (inr h) = apart kind 3 1 h (λ q. omega arith)

-- who holds plants is a generator, and inside central dispatch; who stands outside it is a generator too
pub holder_carries_none : (kind : ℕ) → holds_plants kind ≡ true → carries_losses kind ≡ false
holder_carries_none kind e = apart kind 2 1 e (λ q. omega arith)

pub holder_inside : (kind : ℕ) → holds_plants kind ≡ true → is_outside kind ≡ false
holder_inside kind e = go (is_generator kind) (holds_plants kind) e
  where
    go : (t u : Bool) → u ≡ true → (t && not u) ≡ false
    go t false h = absurd (false≢true h)
    go true true h = refl
    go false true h = refl

pub outside_carries_none : (kind : ℕ) → is_outside kind ≡ true → carries_losses kind ≡ false
outside_carries_none kind e = generator_carries_none kind (and_left (is_generator kind) (not (holds_plants kind)) e)

-- who sells is metered as a generator, who buys as a retailer
pub seller_carries_none : (kind : ℕ) → may_sell kind ≡ true → carries_losses kind ≡ false
seller_carries_none kind e = generator_carries_none kind e

pub buyer_carries : (kind : ℕ) → may_buy kind ≡ true → carries_losses kind ≡ true
buyer_carries kind e = e

-- an agent's kind is 1 to 3, and so is that of whoever holds plants, sells or buys
pub record Known (kind : ℕ) : Type 0 where
  pub least : 0 < kind
  pub most : kind ≤ 3

known_as : (kind x : ℕ) → 0 < x → x ≤ 3 → eqb kind x ≡ true → Known kind
known_as kind x l m e = let q = eqb-true kind x e in record { least = omega (arith, q); most = omega (arith, q) }

generator_known : (kind : ℕ) → is_generator kind ≡ true → Known kind
generator_known kind e = go (or_cases (eqb kind 2) (eqb kind 3) e)
  where
    go : (eqb kind 2 ≡ true) ⊎ (eqb kind 3 ≡ true) → Known kind
    go (inl h) = known_as kind 2 (omega arith) (omega arith) h
    go (inr h) = known_as kind 3 (omega arith) (omega arith) h

pub agent_known : (kind : ℕ) → is_agent kind ≡ true → Known kind
agent_known kind e = go (or_cases (carries_losses kind) (is_generator kind) e)
  where
    go : (carries_losses kind ≡ true) ⊎ (is_generator kind ≡ true) → Known kind
    go (inl h) = known_as kind 1 (omega arith) (omega arith) h
    go (inr h) = generator_known kind h

pub holder_known : (kind : ℕ) → holds_plants kind ≡ true → Known kind
holder_known kind e = known_as kind 2 (omega arith) (omega arith) e

pub seller_known : (kind : ℕ) → may_sell kind ≡ true → Known kind
seller_known kind e = generator_known kind e

pub buyer_known : (kind : ℕ) → may_buy kind ≡ true → Known kind
buyer_known kind e = known_as kind 1 (omega arith) (omega arith) e
