-- An agent's line, from its kind and what it has, and the lines of all agents, from their columns. Assumes nothing.
use Rattle.std.specs.Prelude.{ℕ, ◌+◌, ◌-◌, ◌/◌, ◌%◌, cond, List, ℤ}
use Rattle.sums.specs.Lists.{at}
use Rattle.rows.specs.Rows.{carries_losses}
use Rattle.hour.specs.Lines.{money_of, cells_per_agent, cell_of}

-- what an agent buys and sells
abbrev pub buys : (kind own import contracted : ℕ) → ℕ
buys kind own import contracted = cond (carries_losses kind) (own - contracted) (contracted - own + import)

abbrev pub sells : (kind own contracted : ℕ) → ℕ
sells kind own contracted = cond (carries_losses kind) (contracted - own) (own - contracted)

-- cell k of the figures, and the money of agent a, from the columns of all agents
abbrev pub line_cell : (kinds shares own imports contracted : List ℕ) → ℕ → ℕ
line_cell ks ss os is cs k =
    cell_of (at ss) (at os) (at is) (at cs) (λ a. buys (at ks a) (at os a) (at is a) (at cs a))
    (λ a. sells (at ks a) (at os a) (at cs a)) (k % cells_per_agent) (k / cells_per_agent)

abbrev pub line_money : (kinds own imports contracted : List ℕ) → ℕ → ℕ → ℤ
line_money ks os is cs price a =
    money_of (sells (at ks a) (at os a) (at cs a)) (buys (at ks a) (at os a) (at is a) (at cs a)) price
