-- Lines from columns that are a sheet's are the sheet's lines, and what each agent buys fits its cell. Assumes nothing.
use Prim.Native.Nat.{ℕ, ◌*◌, ◌≤◌, ◌<◌}
use native.Mathlib.Omega.{arith}
use mathlib.Core.List.{List}
use mathlib.Core.Path.{◌≡◌, sym}
use lib.IntN.{ℤ, pos}
use Rattle.sums.specs.Lists.{at, Filled}
use Rattle.sums.proofs.Fill.{filled_count, filled_by}
use Rattle.hour.specs.Sheet.{Sheet, agents, retails}
use Rattle.hour.specs.Sound.{Sound}
use Rattle.hour.specs.Balance.{loss_share, own_import}
use Rattle.hour.specs.Lines.{bolsa_price, own, contracted, bought, sold, money, cells_per_agent, figure}
use Rattle.hour.proofs.Fits.{bought_le}
use Rattle.hour.proofs.Verdicts.{Balanced}
use Rattle.hour.proofs.Cells.{figure_is}
use Rattle.lines.specs.Lines.{buys, sells, line_cell, line_money}

module _ (h : Sheet) (n : ℕ) (e : agents h ≡ n) (ks ss os is cs : List ℕ)
    (k : (a : ℕ) → a < n → at ks a ≡ at h.kinds a)
    (s : (a : ℕ) → a < n → at ss a ≡ loss_share h a) (o : (a : ℕ) → a < n → at os a ≡ own h a)
    (i : (a : ℕ) → a < n → at is a ≡ own_import h a) (c : (a : ℕ) → a < n → at cs a ≡ contracted h a) where
  bought_is : (a : ℕ) → a < n → buys (at ks a) (at os a) (at is a) (at cs a) ≡ bought h a
  unfolding bought retails
  bought_is a l = rw (k a l, o a l, i a l, c a l)

  sold_is : (a : ℕ) → a < n → sells (at ks a) (at os a) (at cs a) ≡ sold h a
  unfolding sold retails
  sold_is a l = rw (k a l, o a l, c a l)

  pub figures_are : (before after : List ℕ)
      → Filled 0 before after (cells_per_agent * n) (line_cell ks ss os is cs)
      → Filled 0 before after (cells_per_agent * agents h) (figure h)
  figures_are before after f =
      let m : cells_per_agent * n ≡ cells_per_agent * agents h = omega arith in
      filled_by 0 _ _ _ _ _
      (figure_is h _ _ _ _ _ _
      (λ a q. let l : a < n = omega arith in (s a l, o a l, i a l, c a l, bought_is a l, sold_is a l)))
      (filled_count 0 _ _ _ _ _ m f)

  pub money_are : (p : ℕ)
      → p ≡ bolsa_price h
      → (before after : List ℤ)
      → Filled (pos 0) before after n (line_money ks os is cs p)
      → Filled (pos 0) before after (agents h) (money h)
  unfolding money
  money_are p q before after f =
      filled_count (pos 0) _ _ _ _ _ (sym e)
      (filled_by (pos 0) _ _ _ _ _ (λ a l. rw (bought_is a l, sold_is a l, q)) f)

  -- what each buys fits its cell
  pub lines_fit : Sound h → Balanced h → (a : ℕ) → a < n → buys (at ks a) (at os a) (at is a) (at cs a) ≤ 4294967295
  lines_fit ok b a l = omega (arith, bought_is a l, bought_le h ok b a (omega arith))
