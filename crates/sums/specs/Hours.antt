-- Document 02: a day has 24 hours. Assumes nothing.
use Rattle.std.specs.Prelude.{ℕ}

abbrev pub hours : ℕ
hours = 24
