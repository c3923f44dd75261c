-- The five points as tests, with no order in them, and the verdict on a statement: 21 to 25 for the first that fails. Assumes nothing.
use Rattle.std.specs.Prelude.{ℕ, Bool, cond, ◌&&◌, ◌||◌, [], ◌∷◌, ltb, leb, eqb, ℤ}
use Rattle.std.specs.Int.Signed.{le_z}
use Rattle.sums.specs.Sums.{sum, peak, pick}
use Rattle.sums.specs.Lists.{at, list_to}
use Rattle.refusals.specs.Refusals.{bad_shares, bad_schedule, bad_price, bad_amounts, bad_lines, refused_unless, first_of}
use Rattle.refusals.specs.Refusals.{Verdict}
use Rattle.merit.specs.Merit.{hour_price}
use Rattle.hour.specs.Sheet.{Sheet, agents, plants, retails}
use Rattle.hour.specs.Balance.{consumption, consumed, own_import, losses, dispatch_demand_by}
use Rattle.hour.specs.Lines.{own_by, contracted_by, bought_of, sold_of, money_of}
use Rattle.hour.specs.Answer.{Lent, share_in, own_in, import_in, contracted_in, bought_in, sold_in, money_in, schedule_in}
use Rattle.statement.specs.Decide.{every, is_near}
use Rattle.statement.specs.Hour.{hour_good}
use Rattle.statement.specs.Points.{demand_in, least, basis_in}

-- ---- 21. a share, and all of them
abbrev pub share_test : (retailer : Bool) (losses consumption consumed share : ℕ) → Bool
share_test r a w t x = cond (r && ltb 0 t) (is_near a w t x) (eqb x 0)

unfoldable pub share_good : Sheet → Lent → ℕ → Bool
share_good s l a = share_test (retails s a) (losses s) (consumption s a) (consumed s) (share_in l a)

unfoldable pub shares_good : Sheet → Lent → Bool
shares_good s l = every (agents s) (share_good s l) && eqb (sum (agents s) (share_in l)) (losses s)

-- ---- 22. each plant within its bounds, all together what dispatch has to meet, and where a plant has energy left no dearer one is
-- above its must-run
abbrev pub within_test : (least available q : ℕ) → Bool
within_test m a q = leb m q && leb q a

abbrev pub order_test : (dearest offer available q : ℕ) → Bool
order_test d p a q = leb a q || leb d p

-- the dearest offer of a plant above its must-run
unfoldable pub dearest : Sheet → Lent → ℕ
dearest s l = peak (plants s) (λ i. pick (ltb (least s i) (schedule_in l i)) (at s.offers i))

unfoldable pub schedule_good : Sheet → Lent → Bool
schedule_good s l =
    every (plants s) (λ i. within_test (least s i) (at s.available i) (schedule_in l i))
    && eqb (sum (plants s) (schedule_in l)) (dispatch_demand_by s (demand_in s l))
    && every (plants s) (λ i. order_test (dearest s l) (at s.offers i) (at s.available i) (schedule_in l i))

-- ---- 23
unfoldable pub price_good : Sheet → (price : ℕ) → Lent → Bool
price_good s price l = eqb price (hour_price (at s.offers) (at s.flags) (schedule_in l) (plants s))

-- ---- 24
unfoldable pub amounts_good : Sheet → Lent → Bool
amounts_good s l = hour_good s.deals (list_to (demand_in s l) (agents s)) l.amounts

-- ---- 25. a line, and all of them
abbrev pub same_money : ℤ → ℤ → Bool
same_money x y = le_z x y && le_z y x

unfoldable pub line_good : Sheet → (price : ℕ) → Lent → ℕ → Bool
line_good s price l a =
    eqb (own_in l a) (own_by s (basis_in s l) a)
    && eqb (import_in l a) (own_import s a)
    && eqb (contracted_in l a) (contracted_by s (basis_in s l) a)
    && eqb (bought_in l a) (bought_of s (own_in l) (contracted_in l) a)
    && eqb (sold_in l a) (sold_of s (own_in l) (contracted_in l) a)
    && same_money (money_in l a) (money_of (sold_in l a) (bought_in l a) price)

unfoldable pub lines_good : Sheet → (price : ℕ) → Lent → Bool
lines_good s price l = every (agents s) (line_good s price l)

-- ---- the first point that fails
unfoldable pub points_verdict : Sheet → (price : ℕ) → Lent → Verdict
points_verdict s price l =
    first_of (refused_unless (shares_good s l) bad_shares 0
    ∷ refused_unless (schedule_good s l) bad_schedule 0
    ∷ refused_unless (price_good s price l) bad_price 0
    ∷ refused_unless (amounts_good s l) bad_amounts 0
    ∷ refused_unless (lines_good s price l) bad_lines 0
    ∷ [])
