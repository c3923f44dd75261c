-- The cells of all agents in one row: cell k is figure k % cells_per_agent of agent k / cells_per_agent. Assumes nothing.
use Prim.Native.Nat.{ℕ, zero, suc, ◌+◌, ◌*◌, ◌/◌, ◌%◌, ◌<◌}
use native.Mathlib.Omega.{arith}
use mathlib.Core.Path.{◌≡◌, ◌∙◌}
use Rattle.sums.specs.Lists.{at}
use Rattle.hour.specs.Sheet.{Sheet, agents}
use Rattle.hour.specs.Balance.{own_import, loss_share}
use Rattle.hour.specs.Answer.{Lent, share_in, own_in, import_in, contracted_in, bought_in, sold_in}
use Rattle.hour.specs.Lines.{own, contracted, bought, sold, cells_per_agent, cell_of, figure}

-- equal figures, equal cells
pub cells_by : (f₀ f₁ f₂ f₃ f₄ f₅ g₀ g₁ g₂ g₃ g₄ g₅ : ℕ → ℕ) (n : ℕ)
    → ((a : ℕ) → a < n → (f₀ a ≡ g₀ a) × (f₁ a ≡ g₁ a) × (f₂ a ≡ g₂ a) × (f₃ a ≡ g₃ a) × (f₄ a ≡ g₄ a) × (f₅ a ≡ g₅ a))
    → (k : ℕ) → k < cells_per_agent * n → cell_of f₀ f₁ f₂ f₃ f₄ f₅ (k % cells_per_agent) (k / cells_per_agent)
    ≡ cell_of g₀ g₁ g₂ g₃ g₄ g₅ (k % cells_per_agent) (k / cells_per_agent)
unfolding cell_of
cells_by f₀ f₁ f₂ f₃ f₄ f₅ g₀ g₁ g₂ g₃ g₄ g₅ n h k l = go (k % cells_per_agent) (k / cells_per_agent) (omega arith)
  where
    go : (c a : ℕ) → a < n → cell_of f₀ f₁ f₂ f₃ f₄ f₅ c a ≡ cell_of g₀ g₁ g₂ g₃ g₄ g₅ c a
    go zero a l = (h a l).0
    go (suc zero) a l = (h a l).1
    go (suc (suc zero)) a l = (h a l).2
    go (suc (suc (suc zero))) a l = (h a l).3
    go (suc (suc (suc (suc zero)))) a l = (h a l).4
    go (suc (suc (suc (suc (suc c))))) a l = (h a l).5

-- the cells of a sheet by its figures
module _ (s : Sheet) where
  pub figure_is : (f₀ f₁ f₂ f₃ f₄ f₅ : ℕ → ℕ)
      → ((a : ℕ) → a < agents s → (f₀ a ≡ loss_share s a) × (f₁ a ≡ own s a) × (f₂ a ≡ own_import s a)
      × (f₃ a ≡ contracted s a) × (f₄ a ≡ bought s a) × (f₅ a ≡ sold s a))
      → (k : ℕ) → k < cells_per_agent * agents s → cell_of f₀ f₁ f₂ f₃ f₄ f₅ (k % cells_per_agent) (k / cells_per_agent)
      ≡ figure s k
  unfolding figure
  figure_is f₀ f₁ f₂ f₃ f₄ f₅ h k l =
      cells_by f₀ f₁ f₂ f₃ f₄ f₅ (loss_share s) (own s) (own_import s) (contracted s) (bought s) (sold s) (agents s) h k l

  -- where each figure of agent a stands
  cell_at : (a c : ℕ)
      → c < cells_per_agent
      → figure s (cells_per_agent * a + c)
      ≡ cell_of (loss_share s) (own s) (own_import s) (contracted s) (bought s) (sold s) c a
  unfolding figure
  cell_at a c l =
      let q : (cells_per_agent * a + c) % cells_per_agent ≡ c = omega arith in
      let e : (cells_per_agent * a + c) / cells_per_agent ≡ a = omega arith in
      rw (q, e)

  pub figure_share : (a : ℕ) → figure s (cells_per_agent * a) ≡ loss_share s a
  unfolding cell_of
  figure_share a = let e : cells_per_agent * a ≡ cells_per_agent * a + 0 = omega arith in rw e (cell_at a 0 (omega arith))

  pub figure_own : (a : ℕ) → figure s (cells_per_agent * a + 1) ≡ own s a
  unfolding cell_of
  figure_own a = cell_at a 1 (omega arith)

  pub figure_import : (a : ℕ) → figure s (cells_per_agent * a + 2) ≡ own_import s a
  unfolding cell_of
  figure_import a = cell_at a 2 (omega arith)

  pub figure_contracted : (a : ℕ) → figure s (cells_per_agent * a + 3) ≡ contracted s a
  unfolding cell_of
  figure_contracted a = cell_at a 3 (omega arith)

  pub figure_bought : (a : ℕ) → figure s (cells_per_agent * a + 4) ≡ bought s a
  unfolding cell_of
  figure_bought a = cell_at a 4 (omega arith)

  pub figure_sold : (a : ℕ) → figure s (cells_per_agent * a + 5) ≡ sold s a
  unfolding cell_of
  figure_sold a = cell_at a 5 (omega arith)

-- lists that hold the sheet's figures, told by agent
module _ (s : Sheet) (l : Lent) (same : (k : ℕ) → k < cells_per_agent * agents s → at l.figures k ≡ figure s k)
    (a : ℕ) (h : a < agents s) where
  pub share_told : share_in l a ≡ loss_share s a
  share_told = same (cells_per_agent * a) (omega arith) ∙ figure_share s a

  pub own_told : own_in l a ≡ own s a
  own_told = same (cells_per_agent * a + 1) (omega arith) ∙ figure_own s a

  pub import_told : import_in l a ≡ own_import s a
  import_told = same (cells_per_agent * a + 2) (omega arith) ∙ figure_import s a

  pub contracted_told : contracted_in l a ≡ contracted s a
  contracted_told = same (cells_per_agent * a + 3) (omega arith) ∙ figure_contracted s a

  pub bought_told : bought_in l a ≡ bought s a
  bought_told = same (cells_per_agent * a + 4) (omega arith) ∙ figure_bought s a

  pub sold_told : sold_in l a ≡ sold s a
  sold_told = same (cells_per_agent * a + 5) (omega arith) ∙ figure_sold s a
