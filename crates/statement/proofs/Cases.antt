-- Statements that are accepted, and that are not: one table, and one statement over it. Assumes nothing.
use mathlib.Core.Path.{◌≡◌, refl}
use mathlib.Core.List.{List, [], ◌∷◌, map}
use mathlib.Core.Bool.{Bool, true, false}
use Prim.Native.Nat.{ℕ}
use Rattle.sums.specs.Sums.{sum, peak, pick}
use Rattle.sums.specs.Lists.{at, total, list_to}
use Rattle.deals.specs.Deals.{Deals, cheaper_of, group_of}
use Rattle.statement.specs.Follows.{left_by, given_at}
use Rattle.statement.specs.Decide.{every, below, fixed_at, taken_at, largest_at, conditional_good, is_near, demanded_good, row_good, good}

pub record Case : Type 0 where
  pub demand : ℕ
  pub deals : Deals
  pub amounts : List ℕ
  pub accepted : Bool

abbrev rows : ℕ → (kinds prices quantities amounts : List ℕ) → Bool → Case
rows d ks ps qs xs b = record { demand = d; deals = record { kinds = ks; prices = ps; quantities = qs }; amounts = xs; accepted = b }

abbrev pub cases : List Case
cases =
    -- kind 1 against kind 2 at one price: either may come first; kind 1 is full in any case, and kind 2 is never cut
    rows 10 (2 ∷ 1 ∷ []) (5 ∷ 5 ∷ []) (8 ∷ 10 ∷ []) (0 ∷ 10 ∷ []) true
    ∷ rows 10 (2 ∷ 1 ∷ []) (5 ∷ 5 ∷ []) (8 ∷ 10 ∷ []) (8 ∷ 10 ∷ []) true
    ∷ rows 10 (2 ∷ 1 ∷ []) (5 ∷ 5 ∷ []) (8 ∷ 10 ∷ []) (8 ∷ 2 ∷ []) false
    ∷ rows 10 (2 ∷ 1 ∷ []) (5 ∷ 5 ∷ []) (8 ∷ 10 ∷ []) (7 ∷ 10 ∷ []) false
    -- not at different prices
    ∷ rows 10 (2 ∷ 1 ∷ []) (6 ∷ 5 ∷ []) (8 ∷ 10 ∷ []) (8 ∷ 10 ∷ []) false
    ∷ rows 10 (2 ∷ 1 ∷ []) (4 ∷ 5 ∷ []) (8 ∷ 10 ∷ []) (0 ∷ 10 ∷ []) false
    -- three of kind 2: the largest may come last of those taken, and one is left only where the others cover the demand
    ∷ rows 10 (2 ∷ 2 ∷ 2 ∷ []) (5 ∷ 5 ∷ 5 ∷ []) (9 ∷ 4 ∷ 5 ∷ []) (9 ∷ 4 ∷ 5 ∷ []) true
    ∷ rows 9 (2 ∷ 2 ∷ 2 ∷ []) (5 ∷ 5 ∷ 5 ∷ []) (9 ∷ 4 ∷ 5 ∷ []) (9 ∷ 4 ∷ 5 ∷ []) false
    ∷ rows 9 (2 ∷ 2 ∷ 2 ∷ []) (5 ∷ 5 ∷ 5 ∷ []) (9 ∷ 4 ∷ 5 ∷ []) (9 ∷ 0 ∷ 0 ∷ []) true
    ∷ rows 9 (2 ∷ 2 ∷ 2 ∷ []) (5 ∷ 5 ∷ 5 ∷ []) (9 ∷ 4 ∷ 5 ∷ []) (0 ∷ 4 ∷ 5 ∷ []) true
    ∷ rows 10 (2 ∷ 2 ∷ 2 ∷ []) (5 ∷ 5 ∷ 5 ∷ []) (9 ∷ 4 ∷ 5 ∷ []) (0 ∷ 4 ∷ 5 ∷ []) false
    -- a quantity of 0 is full and 0; at demand 0 nothing of kind 2 is taken
    ∷ rows 0 (2 ∷ 2 ∷ []) (5 ∷ 5 ∷ []) (0 ∷ 3 ∷ []) (0 ∷ 0 ∷ []) true
    ∷ rows 0 (2 ∷ 2 ∷ []) (5 ∷ 5 ∷ []) (0 ∷ 3 ∷ []) (0 ∷ 3 ∷ []) false
    -- kind 3 shares 2 over 1, 1, 1: any two of the three may get one
    ∷ rows 2 (3 ∷ 3 ∷ 3 ∷ []) (5 ∷ 5 ∷ 5 ∷ []) (1 ∷ 1 ∷ 1 ∷ []) (0 ∷ 1 ∷ 1 ∷ []) true
    ∷ rows 2 (3 ∷ 3 ∷ 3 ∷ []) (5 ∷ 5 ∷ 5 ∷ []) (1 ∷ 1 ∷ 1 ∷ []) (1 ∷ 1 ∷ 1 ∷ []) false
    ∷ rows 2 (3 ∷ 3 ∷ 3 ∷ []) (5 ∷ 5 ∷ 5 ∷ []) (1 ∷ 1 ∷ 1 ∷ []) (0 ∷ 0 ∷ 2 ∷ []) false
    -- strictly less than 1 kWh: an exact proportion is kept exactly
    ∷ rows 3 (3 ∷ 3 ∷ []) (5 ∷ 5 ∷ []) (2 ∷ 4 ∷ []) (1 ∷ 2 ∷ []) true
    ∷ rows 3 (3 ∷ 3 ∷ []) (5 ∷ 5 ∷ []) (2 ∷ 4 ∷ []) (2 ∷ 1 ∷ []) false
    -- a cheaper group first, a dearer one 0; kind 3 is not merged into the order of kinds 1 and 2
    ∷ rows 10 (3 ∷ 3 ∷ 3 ∷ []) (1 ∷ 2 ∷ 2 ∷ []) (4 ∷ 6 ∷ 6 ∷ []) (4 ∷ 3 ∷ 3 ∷ []) true
    ∷ rows 10 (3 ∷ 3 ∷ 3 ∷ []) (1 ∷ 2 ∷ 2 ∷ []) (4 ∷ 6 ∷ 6 ∷ []) (3 ∷ 3 ∷ 4 ∷ []) false
    ∷ rows 10 (3 ∷ 1 ∷ 2 ∷ []) (1 ∷ 5 ∷ 6 ∷ []) (9 ∷ 4 ∷ 5 ∷ []) (1 ∷ 4 ∷ 5 ∷ []) true
    ∷ rows 10 (3 ∷ 1 ∷ 2 ∷ []) (1 ∷ 5 ∷ 6 ∷ []) (9 ∷ 4 ∷ 5 ∷ []) (9 ∷ 4 ∷ 0 ∷ []) false
    ∷ []

pub cases_hold : map (λ (c : Case). good c.deals c.demand (at c.amounts)) cases ≡ map (λ (c : Case). c.accepted) cases
unfolding sum peak pick total list_to cheaper_of group_of left_by given_at every below fixed_at taken_at largest_at conditional_good is_near
    demanded_good row_good good
cases_hold = refl
