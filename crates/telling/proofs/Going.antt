-- Lines put from the last: what is still to be put, each of at most w bytes, where there is room for all of it. Assumes nothing.
use Prim.Native.Nat.{ℕ, ◌+◌, ◌-◌, ◌*◌, ◌≤◌, ◌<◌}
use mathlib.Core.Path.{◌≡◌, ap, sym, ◌∙◌}
use mathlib.Core.List.{List}
use lib.ListN.{drop}
use Rattle.printing.specs.Text.{lines_to}
use Rattle.printing.proofs.Text.{lines_more, lines_none}

pub record Going (w : ℕ) (g : ℕ → List ℕ → List ℕ) (s₀ : List ℕ) (at n : ℕ) (s : List ℕ) (i left : ℕ) : Type 0 where
  pub low : at + w * left ≤ i + w * n
  pub high : i ≤ at
  pub text : lines_to g n (drop at s₀) ≡ lines_to g left (drop i s)

module _ (g : ℕ → List ℕ → List ℕ) (n : ℕ) (start : List ℕ) (s : List ℕ) (i left : ℕ)
    (text : lines_to g n start ≡ lines_to g left (drop i s)) where
  -- one line more,
  pub going_more : (next : List ℕ) → 0 < left → next ≡ g (left - 1) (drop i s) → lines_to g n start ≡ lines_to g (left - 1) next
  going_more next p e = text ∙ lines_more g left (drop i s) p ∙ ap (lines_to g (left - 1)) (sym e)

  -- and none
  pub going_done : left ≤ 0 → drop i s ≡ lines_to g n start
  going_done e = sym (text ∙ lines_none g left (drop i s) e)
