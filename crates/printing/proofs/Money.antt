-- Signed numbers and how far they are from 0. Assumes nothing.
use mathlib.Core.Path.{◌≡◌, refl}
use native.Mathlib.Omega.{arith}
use borrow.Author.Tests.{le-ltb}
use lib.IntN.{ℤ, pos, negsuc}
use lib.Signed.{lt_z}
use Rattle.printing.specs.Text.{minus}

pub below_is : (x : ℤ) → lt_z x (pos 0) ≡ minus x
unfolding minus
below_is (pos n) = le-ltb n 0 (omega arith)
below_is (negsuc n) = refl
