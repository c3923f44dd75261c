-- Document 02, 'A day at one go': 24 sheets one behind another, a length for each, and the four lent lists, of which each hour has its
-- own equal part, sized for the largest sheet. Assumes nothing.
use Rattle.std.specs.Prelude.{Ok, Err}
use Rattle.std.specs.Prelude.{ℕ, ◌*◌, ◌≤◌, ◌<◌, Bool, ◌&&◌, List, [], ◌∷◌, ◌≡◌, leb, pos, length, get_or, take, drop}
use Rattle.sums.specs.Sums.{sum}
use Rattle.sums.specs.Lists.{at}
pub use Rattle.sums.specs.Hours.{hours}
use Rattle.refusals.specs.Refusals.{bad_length, no_room, refused_unless, first_of, cells}
use Rattle.refusals.specs.Refusals.{Verdict}
use Rattle.limits.specs.Limits.{most_agents, most_plants, most_contracts}
use Rattle.columns.specs.Columns.{hour_of}
use Rattle.hour.specs.Lines.{cells_per_agent}
use Rattle.hour.specs.Answer.{Lent, lent, summary_of}
use Rattle.hour.specs.declared.Summary.{Summary}
use Rattle.settle.specs.Settled.{Settled}

-- 'one behind another, with a length for each': where hour h's sheet begins, and the sheet
abbrev pub start_of : (lengths : List ℕ) → ℕ → ℕ
start_of lengths h = sum h (at lengths)

abbrev pub hour_sheet : (bytes lengths : List ℕ) → ℕ → List ℕ
hour_sheet bytes lengths h = take (at lengths h) (drop (start_of lengths h) bytes)

-- 'its own equal part of the four lent lists, sized for the largest sheet': how many cells each part has
abbrev pub figures_part : ℕ
figures_part = cells_per_agent * most_agents

abbrev pub money_part : ℕ
money_part = most_agents

abbrev pub schedule_part : ℕ
schedule_part = most_plants

abbrev pub amounts_part : ℕ
amounts_part = most_contracts

-- hour h's part of w cells, and its part of all four lists
unfoldable pub part : {A : Type 0} → (w : ℕ) → List A → ℕ → List A
part w l h = take w (drop (w * h) l)

abbrev pub part_of : Lent → ℕ → Lent
part_of l h =
    lent (part figures_part l.figures h) (part money_part l.money h) (part schedule_part l.schedule h)
    (part amounts_part l.amounts h)

-- Refusals 'before any hour is read, in all 24 summaries, 1 if the lengths sum to more than the bytes lent, then 11 if a list is too
-- short for 24 such parts'; the lists by their lengths
abbrev pub room_for_day : (figures money schedule amounts : ℕ) → Bool
room_for_day f m s t =
    leb (figures_part * hours) f && leb (money_part * hours) m && leb (schedule_part * hours) s
    && leb (amounts_part * hours) t

unfoldable pub whole_verdict : (bytes : ℕ) (lengths : List ℕ) (figures money schedule amounts : ℕ) → Verdict
whole_verdict n lengths f m s t =
    first_of (refused_unless (leb (start_of lengths hours) n) bad_length 0
    ∷ refused_unless (room_for_day f m s t) no_room 0
    ∷ [])

abbrev pub day_verdict : (bytes lengths : List ℕ) → Lent → Verdict
day_verdict bytes lengths l =
    whole_verdict (length bytes) lengths (length l.figures) (length l.money) (length l.schedule)
    (length l.amounts)

-- an hour's summary and its part: what its sheet gives alone with that part lent; where the whole call is refused, that refusal
abbrev pub HourIs : Verdict → (sheet : List ℕ) (before after : Lent) → Summary → Type 0
HourIs (Ok tt) sheet before after r = Settled sheet before after r
HourIs (Err q) sheet before after r = r ≡ summary_of (Err q) (hour_of sheet)

-- a list keeps its length and all cells from n on; d stands past a list's end
pub record KeptFrom {A : Type 0} (d : A) (n : ℕ) (before after : List A) : Type 0 where
  pub long : length after ≡ length before
  pub same : (k : ℕ) → n ≤ k → get_or after k d ≡ get_or before k d

-- past the end of the summaries
abbrev pub no_summary : Summary
no_summary = record { number = 0; place = 0; price = 0; demand = 0; losses = 0 }

-- the promise of a day by the verdict v of the whole call: 24 summaries, each hour as it is alone, and everything else in the lists as
-- it was, which is all of them where the call is refused
pub record DayOutcome (v : Verdict) (bytes lengths : List ℕ) (before after : Lent) (r : List Summary) : Type 0 where
  pub count : length r ≡ hours
  pub hour : (h : ℕ)
      → h < hours
      → HourIs v (hour_sheet bytes lengths h) (part_of before h) (part_of after h) (get_or r h no_summary)
  pub figures : KeptFrom 0 (cells v (figures_part * hours)) before.figures after.figures
  pub money : KeptFrom (pos 0) (cells v (money_part * hours)) before.money after.money
  pub schedule : KeptFrom 0 (cells v (schedule_part * hours)) before.schedule after.schedule
  pub amounts : KeptFrom 0 (cells v (amounts_part * hours)) before.amounts after.amounts

abbrev pub DaySettled : (bytes lengths : List ℕ) (before after : Lent) → List Summary → Type 0
DaySettled bytes lengths before after r = DayOutcome (day_verdict bytes lengths before) bytes lengths before after r
