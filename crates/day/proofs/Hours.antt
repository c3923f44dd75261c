-- The hours of a day one after another: each is settled into its own part, which later hours leave alone and earlier ones have not
-- touched. Assumes nothing.
use Rattle.std.specs.Prelude.{Ok, Err}
use Prim.Native.Nat.{ℕ, ◌+◌, ◌*◌, ◌<◌}
use native.Mathlib.Omega.{arith}
use native.Mathlib.Decide.{dec_lt}
use mathlib.Core.List.{List, [], ◌∷◌}
use mathlib.Core.Path.{◌≡◌, ◌∙◌}
use lib.Dec.{leb}
use lib.IntN.{ℤ, pos}
use lib.ListN.{length, get_or, take, drop, set, replicate, length-set, length-replicate, get_or-replicate}
use lib.Seq.{get_or-set_same, get_or-set_other}
use borrow.Author.Tests.{leb-true}
use borrow.Rule.Slice.PartMut.{put_mid}
use Rattle.sums.proofs.Tests.{all_true}
use Rattle.refusals.specs.Refusals.{bad_length, no_room, refused_unless}
use Rattle.refusals.specs.declared.Refusal.{Refusal}
use Rattle.refusals.specs.Refusals.{Verdict}
use Rattle.refusals.proofs.Fine.{fine_parts, fine_test}
use Rattle.hour.specs.Answer.{Lent, lent}
use Rattle.hour.specs.declared.Summary.{Summary}
use Rattle.settle.specs.Settled.{Settled}
use Rattle.day.specs.Day.{hours, start_of, hour_sheet, figures_part, money_part, schedule_part, amounts_part, part}
use Rattle.day.specs.Day.{part_of, room_for_day, whole_verdict, day_verdict, no_summary, DayOutcome}
use Rattle.day.specs.Steps.{Fits, HasPart, OneHour, HoursDone}
use Rattle.day.proofs.Parts.{part_long, part_back, only_back, part_other, part_kept, kept_none, kept_next}

-- ---- a call that is not refused has room for all
pub fits_of : (bytes lengths : List ℕ) (l : Lent) → day_verdict bytes lengths l ≡ Ok tt → Fits bytes lengths l
unfolding whole_verdict
fits_of bytes lengths l e =
    let v =
    fine_parts (refused_unless (leb (start_of lengths hours) (length bytes)) bad_length 0
    ∷ refused_unless
    (room_for_day (length l.figures) (length l.money) (length l.schedule) (length l.amounts)) no_room 0
    ∷ []) e in
    let all =
    all_true (leb (figures_part * hours) (length l.figures))
    (leb (money_part * hours) (length l.money) ∷ leb (schedule_part * hours) (length l.schedule)
    ∷ leb (amounts_part * hours) (length l.amounts) ∷ []) (fine_test _ no_room 0 v.1.0) in
    record {
      sheets = leb-true _ _ (fine_test _ bad_length 0 v.0);
      figures = leb-true _ _ all.0;
      money = leb-true _ _ all.1.0;
      schedule = leb-true _ _ all.1.1.0;
      amounts = leb-true _ _ all.1.1.1.0;
    }

-- ---- one hour, from what settling its parts left in them
module _ (h : ℕ) (sheet : List ℕ) (l mid : Lent) (r : Summary) (has : HasPart h l) where
  in_parts : Settled sheet (part_of l h) mid r
      → OneHour h sheet l
      (lent (put_mid (figures_part * h) figures_part l.figures mid.figures)
      (put_mid (money_part * h) money_part l.money mid.money)
      (put_mid (schedule_part * h) schedule_part l.schedule mid.schedule)
      (put_mid (amounts_part * h) amounts_part l.amounts mid.amounts))
      r
  in_parts s =
      let f = s.figures.long ∙ part_long 0 figures_part h l.figures has.figures in
      let m = s.money.long ∙ part_long (pos 0) money_part h l.money has.money in
      let c = s.schedule.long ∙ part_long 0 schedule_part h l.schedule has.schedule in
      let a = s.amounts.long ∙ part_long 0 amounts_part h l.amounts has.amounts in
      record {
        settled = rw (
          part_back {A = ℕ} 0 figures_part h l.figures mid.figures has.figures f,
          part_back {A = ℤ} (pos 0) money_part h l.money mid.money has.money m,
          part_back {A = ℕ} 0 schedule_part h l.schedule mid.schedule has.schedule c,
          part_back {A = ℕ} 0 amounts_part h l.amounts mid.amounts has.amounts a,
        ) s;
        figures = only_back 0 figures_part h l.figures mid.figures has.figures f;
        money = only_back (pos 0) money_part h l.money mid.money has.money m;
        schedule = only_back 0 schedule_part h l.schedule mid.schedule has.schedule c;
        amounts = only_back 0 amounts_part h l.amounts mid.amounts has.amounts a;
      }

  -- as many cells were lent as a part has
  pub one_hour : (n k p q : ℕ)
      → n ≡ figures_part
      → k ≡ money_part
      → p ≡ schedule_part
      → q ≡ amounts_part
      → Settled sheet
      (lent (take n (drop (figures_part * h) l.figures)) (take k (drop (money_part * h) l.money))
      (take p (drop (schedule_part * h) l.schedule)) (take q (drop (amounts_part * h) l.amounts))) mid r
      → OneHour h sheet l
      (lent (put_mid (figures_part * h) n l.figures mid.figures) (put_mid (money_part * h) k l.money mid.money)
      (put_mid (schedule_part * h) p l.schedule mid.schedule)
      (put_mid (amounts_part * h) q l.amounts mid.amounts))
      r
  unfolding part
  one_hour n k p q en ek ep eq d = rw (en, ek, ep, eq) (in_parts (rw (en, ek, ep, eq) at d))

module _ (bytes lengths : List ℕ) (before : Lent) where
  -- ---- before the first hour
  pub hours_none : (r : List Summary) → length r ≡ hours → HoursDone 0 bytes lengths before before r
  hours_none r n =
      record {
        count = n;
        hour = λ h l. absurd (omega arith);
        figures = kept_none 0 _ _;
        money = kept_none (pos 0) _ _;
        schedule = kept_none 0 _ _;
        amounts = kept_none 0 _ _;
      }

  -- ---- one hour more
  module _ (h : ℕ) (now next : Lent) (r : List Summary) (s : Summary) (l : h < hours)
      (d : HoursDone h bytes lengths before now r)
      (sheet : List ℕ) (e : sheet ≡ hour_sheet bytes lengths h) (o : OneHour h sheet now next s) where
    -- its own part is as on entry
    own_part : part_of now h ≡ part_of before h
    own_part =
        rw (
          part_kept 0 figures_part h _ _ d.figures,
          part_kept (pos 0) money_part h _ _ d.money,
          part_kept 0 schedule_part h _ _ d.schedule,
          part_kept 0 amounts_part h _ _ d.amounts,
        )

    -- the parts of the hours before it stay
    other_part : (i : ℕ) → i < h → part_of next i ≡ part_of now i
    other_part i m =
        rw (
          part_other 0 figures_part h i _ _ m o.figures,
          part_other (pos 0) money_part h i _ _ m o.money,
          part_other 0 schedule_part h i _ _ m o.schedule,
          part_other 0 amounts_part h i _ _ m o.amounts,
        )

    each : (i : ℕ)
        → Dec (i < h)
        → i < h + 1
        → Settled (hour_sheet bytes lengths i) (part_of before i) (part_of next i) (get_or (set r h s) i no_summary)
    each i (yes m) q = rw (other_part i m, get_or-set_other r h i s no_summary (omega arith)) (d.hour i m)
    each i (no m) q =
        let here : i ≡ h = omega arith in
        rw (here, get_or-set_same r h s no_summary (omega (arith, d.count)), ← own_part, ← e) o.settled

    pub hours_next : HoursDone (h + 1) bytes lengths before next (set r h s)
    hours_next =
        record {
          count = length-set r h s ∙ d.count;
          hour = λ i q. each i (dec_lt i h) q;
          figures = kept_next 0 figures_part h _ _ _ d.figures o.figures;
          money = kept_next (pos 0) money_part h _ _ _ d.money o.money;
          schedule = kept_next 0 schedule_part h _ _ _ d.schedule o.schedule;
          amounts = kept_next 0 amounts_part h _ _ _ d.amounts o.amounts;
        }

  -- ---- all hours, and a call that is refused
  pub day_done : (v : Verdict) (after : Lent) (r : List Summary)
      → v ≡ Ok tt
      → HoursDone hours bytes lengths before after r
      → DayOutcome v bytes lengths before after r
  day_done v after r e d =
      rw e
      (record {
        count = d.count;
        hour = d.hour;
        figures = d.figures;
        money = d.money;
        schedule = d.schedule;
        amounts = d.amounts;
      })

  pub day_refused : (v : Verdict) (q : Refusal)
      → v ≡ Err q
      → DayOutcome v bytes lengths before before
      (replicate hours (record { number = q.number; place = q.place; price = 0; demand = 0; losses = 0 }))
  day_refused v q e =
      let s : Summary = record { number = q.number; place = q.place; price = 0; demand = 0; losses = 0 } in
      rw e
      (record {
        count = length-replicate hours s;
        hour = λ h l. get_or-replicate hours h s no_summary l;
        figures = kept_none 0 _ _;
        money = kept_none (pos 0) _ _;
        schedule = kept_none 0 _ _;
        amounts = kept_none 0 _ _;
      })
