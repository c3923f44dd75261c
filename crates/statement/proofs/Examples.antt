-- Whole statements of 'One hour in full', as tables: of each set of the five points that fail the first is told; cells past those
-- needed are not looked at; and another rounding of the loss shares is accepted with the lines that follow from it. Assumes nothing.
use Prim.Native.Nat.{ℕ, ◌/◌, ◌%◌, ◌^◌}
use mathlib.Core.Bool.{Bool, cond}
use mathlib.Core.List.{List, [], ◌∷◌, ◌++◌}
use mathlib.Core.Path.{◌≡◌, refl}
use lib.Dec.{eqb}
use lib.IntN.{ℤ, pos, neg_ℤ}
use Rattle.sums.specs.Sums.{sum, peak, pick, keyed}
use Rattle.sums.specs.Lists.{total, list_to}
use Rattle.refusals.specs.Refusals.{number_of}
use Rattle.merit.specs.Merit.{hour_price}
use Rattle.deals.specs.Deals.{cheaper_of, group_of}
use Rattle.deals.specs.Hour.{own_to, own_of}
use Rattle.hour.specs.Sheet.{retails, outside}
use Rattle.hour.specs.Balance.{referred, rounded, imported, exported, consumption, consumed, own_import}
use Rattle.hour.specs.Balance.{delivered, entering, leaving, losses, injected, small_exports}
use Rattle.hour.specs.Lines.{money_of}
use Rattle.hour.specs.Answer.{Lent}
use Rattle.hour.proofs.Cases.{whole_hour}
use Rattle.statement.specs.Follows.{left_by, given_at}
use Rattle.statement.specs.Decide.{every, below, fixed_at, taken_at, largest_at, conditional_good, is_near, demanded_good, row_good, good}
use Rattle.statement.specs.Hour.{stated_of, hour_good}
use Rattle.statement.specs.Tests.{share_good, shares_good, dearest, schedule_good, price_good}
use Rattle.statement.specs.Tests.{amounts_good, line_good, lines_good, points_verdict}

-- ---- the hour's own statement with faults: n has a bit a point, 21 the lowest
abbrev fails : (n k : ℕ) → Bool
fails n k = eqb (n / 2 ^ k % 2) 1

-- 21: shares 33 and 27, not 32 and 28. 25: agent 3 buys 278, its own import netted
abbrev figures_of : ℕ → List ℕ
figures_of n =
    0 ∷ 700 ∷ 0 ∷ 444 ∷ 0 ∷ 256
    ∷ cond (fails n 0) 33 32 ∷ 532 ∷ 0 ∷ 532 ∷ 0 ∷ 0
    ∷ cond (fails n 0) 27 28 ∷ 468 ∷ 0 ∷ 500 ∷ 0 ∷ 32
    ∷ 0 ∷ 310 ∷ 10 ∷ 588 ∷ cond (fails n 4) 278 288 ∷ 0 ∷ []

abbrev money_stated : List ℤ
money_stated = pos 2048000 ∷ pos 0 ∷ pos 256000 ∷ neg_ℤ (pos 2304000) ∷ []

-- 22: plant 0 has 1 kWh left, and plant 1 is dearer. 24: a row of the group that shares is a whole kWh from its proportion
abbrev stated : ℕ → Lent
stated n =
    record {
      figures = figures_of n;
      money = money_stated;
      schedule = cond (fails n 1) 699 700 ∷ cond (fails n 1) 311 310 ∷ 0 ∷ [];
      amounts = 400 ∷ cond (fails n 3) 89 88 ∷ cond (fails n 3) 43 44 ∷ 500 ∷ [];
    }

abbrev price_stated : ℕ → ℕ
price_stated n = cond (fails n 2) 8001 8000

abbrev due : ℕ → ℕ
due n =
    cond (fails n 0) 21
    (cond (fails n 1) 22
    (cond (fails n 2) 23
    (cond (fails n 3) 24
    (cond (fails n 4) 25
    0))))

pub first_told : list_to (λ n. number_of (points_verdict whole_hour (price_stated n) (stated n))) 32 ≡ list_to due 32
unfolding sum peak pick keyed total list_to hour_price cheaper_of group_of own_to own_of retails referred rounded imported exported
    delivered consumption
    consumed own_import entering leaving losses outside injected small_exports money_of left_by given_at every below fixed_at taken_at largest_at
    conditional_good
    is_near demanded_good row_good good stated_of hour_good share_good shares_good dearest schedule_good price_good amounts_good line_good
    lines_good points_verdict
first_told = refl

-- ---- one cell more in each list, of whatever value; then shares 31 and 29, and contracts 1 and 2 with 87 and 44 of the 131 that are left
abbrev longer : Lent
longer =
    record {
      figures = figures_of 0 ++ (9 ∷ []);
      money = money_stated ++ (pos 9 ∷ []);
      schedule = 700 ∷ 310 ∷ 0 ∷ 9 ∷ [];
      amounts = 400 ∷ 88 ∷ 44 ∷ 500 ∷ 9 ∷ [];
    }

abbrev other_rounding : Lent
other_rounding =
    record {
      figures =
          0 ∷ 700 ∷ 0 ∷ 444 ∷ 0 ∷ 256
          ∷ 31 ∷ 531 ∷ 0 ∷ 531 ∷ 0 ∷ 0
          ∷ 29 ∷ 469 ∷ 0 ∷ 500 ∷ 0 ∷ 31
          ∷ 0 ∷ 310 ∷ 10 ∷ 587 ∷ 287 ∷ 0 ∷ [];
      money = pos 2048000 ∷ pos 0 ∷ pos 248000 ∷ neg_ℤ (pos 2296000) ∷ [];
      schedule = 700 ∷ 310 ∷ 0 ∷ [];
      amounts = 400 ∷ 87 ∷ 44 ∷ 500 ∷ [];
    }

pub accepted : (number_of (points_verdict whole_hour 8000 longer) ≡ 0) × (number_of (points_verdict whole_hour 8000 other_rounding) ≡ 0)
unfolding sum peak pick keyed total list_to hour_price cheaper_of group_of own_to own_of retails referred rounded imported exported
    delivered consumption
    consumed own_import entering leaving losses outside injected small_exports money_of left_by given_at every below fixed_at taken_at largest_at
    conditional_good
    is_near demanded_good row_good good stated_of hour_good share_good shares_good dearest schedule_good price_good amounts_good line_good
    lines_good points_verdict
accepted = (refl, refl)
