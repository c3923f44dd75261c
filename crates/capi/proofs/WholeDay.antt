-- The summaries of a day are those that its promise tells, and a list that is too short changes nothing. Assumes nothing.
use Rattle.std.specs.Prelude.{Ok, Err}
use Prim.Native.Nat.{ℕ, ◌≤◌, ◌<◌}
use native.Mathlib.Omega.{arith}
use mathlib.Core.List.{List}
use mathlib.Core.Path.{◌≡◌, sym, ◌∙◌}
use lib.IntN.{pos}
use lib.ListN.{length}
use lib.Seq.{ext_get_or}
use borrow.Author.Tests.{le-leb, lt-leb}
use Rattle.sums.specs.Lists.{Filled}
use Rattle.sums.proofs.Fill.{filled_none, filled_unique}
use Rattle.sums.proofs.Lists.{length_list_to, get_d_list_to}
use Rattle.refusals.specs.Refusals.{no_room, number_of}
use Rattle.refusals.specs.declared.Refusal.{Refusal}
use Rattle.refusals.specs.Refusals.{Verdict}
use Rattle.hour.specs.Answer.{Lent}
use Rattle.hour.specs.declared.Summary.{Summary}
use Rattle.day.specs.Day.{hours, hour_sheet, part_of, day_verdict, HourIs, no_summary, DayOutcome, DaySettled}
use Rattle.day.proofs.Parts.{kept_none}
use Rattle.day.proofs.Outcome.{outcome_one}
use Rattle.capi.specs.WholeDay.{day_numbers, day_cell, summary_at, summaries_of, DayTold}

module _ (bytes lengths : List ℕ) (before : Lent) where
  summary_at_lem : (v : Verdict) (h : ℕ) (after : Lent) (s : Summary)
      → HourIs v (hour_sheet bytes lengths h) (part_of before h) after s
      → s ≡ summary_at v bytes lengths before h
  summary_at_lem (Ok tt) h after s d = d.answered
  summary_at_lem (Err q) h after s d = d

  pub summaries_are : (v : Verdict) (after : Lent) (r : List Summary)
      → DayOutcome v bytes lengths before after r
      → r ≡ summaries_of v bytes lengths before
  unfolding summaries_of
  summaries_are v after r d =
      ext_get_or no_summary _ _ (d.count ∙ sym (length_list_to _ hours))
      (λ h l. let m : h < hours = omega (arith, d.count) in
      summary_at_lem v h (part_of after h) _ (d.hour h m)
      ∙ sym (get_d_list_to no_summary (summary_at v bytes lengths before) hours h m))

  -- a refusal of the whole call changes nothing
  pub nothing_done : (q : Refusal)
      → DayOutcome (Err q) bytes lengths before before (summaries_of (Err q) bytes lengths before)
  unfolding summaries_of
  nothing_done q =
      record {
        count = length_list_to _ hours;
        hour = λ h l. get_d_list_to no_summary (summary_at (Err q) bytes lengths before) hours h l;
        figures = kept_none 0 _ _;
        money = kept_none (pos 0) _ _;
        schedule = kept_none 0 _ _;
        amounts = kept_none 0 _ _;
      }

  pub day_short : (list : List ℕ)
      → length list < day_numbers
      → DayTold bytes lengths before before list no_room list
  day_short list l =
      let short = lt-leb day_numbers (length list) l in
      record {
        number = rw short;
        told = rw short (filled_none 0 list _);
        day = rw short (nothing_done _);
      }

  pub day_told : (after : Lent) (list list' : List ℕ) (r : ℕ) (all : List Summary)
      → day_numbers ≤ length list
      → r ≡ number_of (day_verdict bytes lengths before)
      → DaySettled bytes lengths before after all
      → Filled 0 list list' day_numbers (day_cell all)
      → DayTold bytes lengths before after list r list'
  day_told after list list' r all l e d f =
      let room = le-leb day_numbers (length list) l in
      let same = summaries_are (day_verdict bytes lengths before) after all d in
      record { number = rw room e; told = rw (room, ← same) f; day = rw (room, ← same) d }

  -- any two outcomes that meet the promise are equal
  pub day_unique : (x y : Lent) (list list₁ list₂ : List ℕ) (r r' : ℕ)
      → DayTold bytes lengths before x list r list₁
      → DayTold bytes lengths before y list r' list₂
      → (r ≡ r') × (x ≡ y) × (list₁ ≡ list₂)
  day_unique x y list list₁ list₂ r r' h k = (
    h.number ∙ sym k.number,
    (outcome_one _ bytes lengths before x y _ _ h.day k.day).1,
    filled_unique 0 _ _ _ _ _ h.told k.told,
  )
