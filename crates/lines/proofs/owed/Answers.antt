-- What the code works out, in 64 bits throughout, is the money of the paper.
use Rattle.std.proofs.Common.{◌≡◌, ℤ, pos, ◌-ℤ◌, ◌*ℤ◌, ap, ◌∙◌, arith}
use mathlib.Core.Path.{ap₂}
use mir.Syntax.{w64}
use mir.Val.{SFits, to_z, of_z}
use mir.ValLaws.{to_z-of_z}
use Rattle.hour.specs.Lines.{money_of}
use Rattle.hour.proofs.Money.{diff_fits, money_fits}
use Rattle.lines.proofs.owed.Goals as goal

-- a number that fits is kept
kept : (x z : ℤ) → x ≡ z → SFits w64 z → to_z w64 (of_z w64 x) ≡ z
kept x z e h = rw e (to_z-of_z w64 z h)

pub returns : goal.returns
unfolding money_of
returns c =
    let a = c.args in
    let x = kept _ _ c.from.ensures (record { sfits = omega arith }) in
    let y = kept _ _ c.from-2.ensures (record { sfits = omega arith }) in
    let z = kept _ _ (c.from-3.ensures ∙ ap pos c.min.ensures) (record { sfits = omega arith }) in
    kept _ _ (ap₂ ◌*ℤ◌ (kept _ _ (ap₂ ◌-ℤ◌ x y) (diff_fits a.sold a.bought (omega arith) (omega arith))) z)
    (money_fits a.sold a.bought _ (omega arith) (omega arith) (omega arith))
