-- The sum of signed numbers over an index: the money of all agents together. Assumes nothing.
use Rattle.std.specs.Prelude.{ℕ, zero, suc, ℤ, pos, ◌+ℤ◌}

-- f 0 + f 1 + .. + f (n - 1)
unfoldable pub signed_sum : ℕ → (ℕ → ℤ) → ℤ
signed_sum zero f = pos 0
signed_sum (suc n) f = signed_sum n f +ℤ f n
