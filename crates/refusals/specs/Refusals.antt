-- Document 01, 'When the sheet is turned away': the numbers, and the first refusal of several. Assumes nothing.
use Rattle.std.specs.Prelude.{ℕ, zero, suc, Bool, cond, List, [], ◌∷◌, Result, Ok, Err}
use Rattle.refusals.specs.declared.Refusal.{Refusal}

-- 1: the length is under 32, over the longest sheet's, or not a multiple of 16
abbrev pub bad_length : ℕ
bad_length = 1

-- 2: a count over its limit, a length other than the layout's, or a distance other than the layout's
abbrev pub bad_layout : ℕ
bad_layout = 2

-- 3 to 6: a bad agent, boundary, plant or contract row
abbrev pub bad_agent : ℕ
bad_agent = 3

abbrev pub bad_boundary : ℕ
bad_boundary = 4

abbrev pub bad_plant : ℕ
bad_plant = 5

abbrev pub bad_contract : ℕ
bad_contract = 6

-- 7: a retailer's referred exports exceed its referred imports
abbrev pub bad_exports : ℕ
bad_exports = 7

-- 8: losses below zero
abbrev pub bad_gain : ℕ
bad_gain = 8

-- 9: losses above zero and total retailer consumption zero
abbrev pub unshared : ℕ
unshared = 9

-- 10: availabilities sum to less than the hour's demand
abbrev pub uncovered : ℕ
uncovered = 10

-- 11: a lent list or output buffer is too short for the counts
abbrev pub no_room : ℕ
no_room = 11

-- 12: a row or section asked for does not exist
abbrev pub not_there : ℕ
not_there = 12

-- 13: must-runs sum to more than the hour's demand
abbrev pub overrun : ℕ
overrun = 13

-- 16: an hour's numbers are over what a day's book holds
abbrev pub over_book : ℕ
over_book = 16

-- 21 to 25, of an administrator's statement: loss shares, schedule, price, contract amounts or lines that do not follow
abbrev pub bad_shares : ℕ
bad_shares = 21

abbrev pub bad_schedule : ℕ
bad_schedule = 22

abbrev pub bad_price : ℕ
bad_price = 23

abbrev pub bad_amounts : ℕ
bad_amounts = 24

abbrev pub bad_lines : ℕ
bad_lines = 25

-- what a check answers: it is fine, or refused
abbrev pub Verdict : Type 0
Verdict = Result (Unit {0}) Refusal

abbrev pub refusal : ℕ → ℕ → Refusal
refusal number place = record { number = number; place = place }

abbrev pub refused : ℕ → ℕ → Verdict
refused number place = Err (refusal number place)

-- the refusal, unless the test holds
abbrev pub refused_unless : Bool → ℕ → ℕ → Verdict
refused_unless ok number place = cond ok (Ok tt) (refused number place)

-- the first refusal of two
abbrev pub or_else : Verdict → Verdict → Verdict
or_else (Ok tt) v = v
or_else (Err r) v = Err r

-- the first refusal of a list, in the list's order
abbrev pub first_of : List Verdict → Verdict
first_of [] = Ok tt
first_of (v ∷ vs) = or_else v (first_of vs)

-- the first refusal that f gives to one of the n rows from i on
unfoldable pub first_bad : (ℕ → Verdict) → ℕ → ℕ → Verdict
first_bad f i zero = Ok tt
first_bad f i (suc n) = or_else (f i) (first_bad f (suc i) n)

-- how many cells of a lent list are written: n where all is fine, none where it is refused
abbrev pub cells : Verdict → ℕ → ℕ
cells (Ok tt) n = n
cells (Err r) n = 0

-- the number and the place that a verdict is told by: 0 and 0 where all is fine
abbrev pub number_of : Verdict → ℕ
number_of (Ok tt) = 0
number_of (Err r) = r.number
