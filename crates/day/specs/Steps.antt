-- What the steps of a day hand on to each other. Assumes nothing.
use Rattle.std.specs.Prelude.{ℕ, ◌+◌, ◌*◌, ◌≤◌, ◌<◌, List, ◌≡◌, pos, length, get_or}
use Rattle.hour.specs.Answer.{Lent}
use Rattle.hour.specs.declared.Summary.{Summary}
use Rattle.settle.specs.Settled.{Settled}
use Rattle.day.specs.Day.{hours, start_of, hour_sheet, figures_part, money_part, schedule_part, amounts_part, part_of, KeptFrom, no_summary}

-- the sheets lie within the bytes, and each list has 24 parts
pub record Fits (bytes lengths : List ℕ) (l : Lent) : Type 0 where
  pub sheets : start_of lengths hours ≤ length bytes
  pub figures : figures_part * hours ≤ length l.figures
  pub money : money_part * hours ≤ length l.money
  pub schedule : schedule_part * hours ≤ length l.schedule
  pub amounts : amounts_part * hours ≤ length l.amounts

-- each list has hour h's part
pub record HasPart (h : ℕ) (l : Lent) : Type 0 where
  pub in_day : h < hours
  pub figures : figures_part * h + figures_part ≤ length l.figures
  pub money : money_part * h + money_part ≤ length l.money
  pub schedule : schedule_part * h + schedule_part ≤ length l.schedule
  pub amounts : amounts_part * h + amounts_part ≤ length l.amounts

-- nothing changes but the part of hour h
pub record OnlyPart {A : Type 0} (d : A) (w h : ℕ) (before after : List A) : Type 0 where
  pub long : length after ≡ length before
  pub ahead : (k : ℕ) → k < w * h → get_or after k d ≡ get_or before k d
  pub behind : (k : ℕ) → w * h + w ≤ k → get_or after k d ≡ get_or before k d

-- one hour settled into its parts
pub record OneHour (h : ℕ) (sheet : List ℕ) (before after : Lent) (r : Summary) : Type 0 where
  pub settled : Settled sheet (part_of before h) (part_of after h) r
  pub figures : OnlyPart 0 figures_part h before.figures after.figures
  pub money : OnlyPart (pos 0) money_part h before.money after.money
  pub schedule : OnlyPart 0 schedule_part h before.schedule after.schedule
  pub amounts : OnlyPart 0 amounts_part h before.amounts after.amounts

-- the first n hours settled, each as it is alone
pub record HoursDone (n : ℕ) (bytes lengths : List ℕ) (before after : Lent) (r : List Summary) : Type 0 where
  pub count : length r ≡ hours
  pub hour : (h : ℕ)
      → h < n
      → Settled (hour_sheet bytes lengths h) (part_of before h) (part_of after h) (get_or r h no_summary)
  pub figures : KeptFrom 0 (figures_part * n) before.figures after.figures
  pub money : KeptFrom (pos 0) (money_part * n) before.money after.money
  pub schedule : KeptFrom 0 (schedule_part * n) before.schedule after.schedule
  pub amounts : KeptFrom 0 (amounts_part * n) before.amounts after.amounts
