-- WHAT A DAY GIVES, by the promise of `settle_day` alone: `DaySettled bytes lengths before after r` says that for these bytes and
-- lengths it returns the summaries r, and that the four lent lists, `before` at entry, are `after` at exit. Assumes nothing.
use Rattle.std.specs.Prelude.{Ok, Err}
use Prim.Native.Nat.{ℕ, zero, suc, ◌+◌, ◌-◌, ◌*◌, ◌<◌}
use native.Mathlib.Omega.{arith}
use native.Mathlib.Decide.{dec_lt}
use mathlib.Core.List.{List}
use mathlib.Core.Path.{◌≡◌, refl, ◌∙◌, ap, sym}
use lib.IntN.{pos}
use lib.ListN.{get_or}
use lib.Seq.{ext_get_or}
use Rattle.refusals.specs.Refusals.{cells}
use Rattle.refusals.specs.declared.Refusal.{Refusal}
use Rattle.refusals.specs.Refusals.{Verdict}
use Rattle.refusals.proofs.Fine.{not_fine}
use Rattle.hour.specs.Answer.{Lent, lent}
use Rattle.hour.specs.declared.Summary.{Summary}
use Rattle.settle.specs.Settled.{Settled}
use Rattle.settle.proofs.Judged.{settled_unique}
use Rattle.day.specs.Day.{hours, hour_sheet, figures_part, money_part, schedule_part, amounts_part, part}
use Rattle.day.specs.Day.{part_of, day_verdict, HourIs, KeptFrom, no_summary, DayOutcome, DaySettled}
use Rattle.day.proofs.Parts.{part_at, kept_all}

-- ---- a list is told by its parts and by what lies behind them
module _ {A : Type 0} (d : A) (w : ℕ) where
  below : (x y : List A) (k n : ℕ) → ((h : ℕ) → h < n → part w x h ≡ part w y h) → k < w * n → get_or x k d ≡ get_or y k d
  below x y k zero same l = absurd (omega arith)
  below x y k (suc n) same l = go (dec_lt k (w * n)) (λ m. below x y k n (λ h q. same h (omega arith)) m)
    where
      go : Dec (k < w * n) → (k < w * n → get_or x k d ≡ get_or y k d) → get_or x k d ≡ get_or y k d
      go (yes m) r = r m
      go (no m) r =
          let e : k ≡ w * n + (k - w * n) = omega arith in
          let q : k - w * n < w = omega arith in
          rw e
          (sym (part_at d w n x (k - w * n) q) ∙ ap (λ (p : List A). get_or p (k - w * n) d) (same n (omega arith))
          ∙ part_at d w n y (k - w * n) q)

  list_one : (v : Verdict) (before x y : List A)
      → KeptFrom d (cells v (w * hours)) before x
      → KeptFrom d (cells v (w * hours)) before y
      → (v ≡ Ok tt → (h : ℕ) → h < hours → part w x h ≡ part w y h)
      → x ≡ y
  list_one (Ok tt) before x y p q same =
      ext_get_or d x y (p.long ∙ sym q.long) (λ k l. go k (dec_lt k (w * hours)))
    where
      go : (k : ℕ) → Dec (k < w * hours) → get_or x k d ≡ get_or y k d
      go k (yes m) = below x y k hours (same refl) m
      go k (no m) = p.same k (omega arith) ∙ sym (q.same k (omega arith))
  list_one (Err r) before x y p q same = kept_all d before x p ∙ sym (kept_all d before y q)

-- ---- an hour's summary and, where the call is not refused, its part
summary_one : (v : Verdict) (sheet : List ℕ) (before x y : Lent) (q r : Summary)
    → HourIs v sheet before x q
    → HourIs v sheet before y r
    → q ≡ r
summary_one (Ok tt) sheet before x y q r h k = (settled_unique sheet before x y q r h k).0
summary_one (Err w) sheet before x y q r h k = h ∙ sym k

part_one : (v : Verdict) (sheet : List ℕ) (before x y : Lent) (q r : Summary)
    → v ≡ Ok tt
    → HourIs v sheet before x q
    → HourIs v sheet before y r
    → x ≡ y
part_one (Ok tt) sheet before x y q r e h k = (settled_unique sheet before x y q r h k).1
part_one (Err w) sheet before x y q r e h k = not_fine w e

-- For one verdict of the whole call there is one outcome,
pub outcome_one : (v : Verdict) (bytes lengths : List ℕ) (before x y : Lent) (q r : List Summary)
    → DayOutcome v bytes lengths before x q
    → DayOutcome v bytes lengths before y r
    → (q ≡ r) × (x ≡ y)
outcome_one v bytes lengths before x y q r a b = (
  ext_get_or no_summary q r (a.count ∙ sym b.count)
      (λ h l. let m : h < hours = omega (arith, a.count) in summary_one v _ _ _ _ _ _ (a.hour h m) (b.hour h m)),
  same x y
      (list_one 0 figures_part v _ _ _ a.figures b.figures (λ e h l. ap (λ (t : Lent). t.figures) (parts e h l)))
      (list_one (pos 0) money_part v _ _ _ a.money b.money (λ e h l. ap (λ (t : Lent). t.money) (parts e h l)))
      (list_one 0 schedule_part v _ _ _ a.schedule b.schedule
      (λ e h l. ap (λ (t : Lent). t.schedule) (parts e h l)))
      (list_one 0 amounts_part v _ _ _ a.amounts b.amounts
      (λ e h l. ap (λ (t : Lent). t.amounts) (parts e h l))),
)
  where
    parts : v ≡ Ok tt → (h : ℕ) → h < hours → part_of x h ≡ part_of y h
    parts e h l = part_one v _ _ _ _ _ _ e (a.hour h l) (b.hour h l)

    same : (x y : Lent)
        → x.figures ≡ y.figures
        → x.money ≡ y.money
        → x.schedule ≡ y.schedule
        → x.amounts ≡ y.amounts
        → lent x.figures x.money x.schedule x.amounts
        ≡ lent y.figures y.money y.schedule y.amounts
    same x y f m s t = rw (f, m, s, t)

-- and so for one stretch of bytes, the same lengths and the same lists at entry.
pub one_outcome : (bytes lengths : List ℕ) (before x y : Lent) (q r : List Summary)
    → DaySettled bytes lengths before x q
    → DaySettled bytes lengths before y r
    → (q ≡ r) × (x ≡ y)
one_outcome bytes lengths before = outcome_one (day_verdict bytes lengths before) bytes lengths before

module _ (bytes lengths : List ℕ) (before after : Lent) (r : List Summary)
    (done : DaySettled bytes lengths before after r) where
  -- Where the call is not refused, each hour is what its sheet gives alone with its part lent.
  pub hour_alone : day_verdict bytes lengths before ≡ Ok tt
      → (h : ℕ)
      → h < hours
      → Settled (hour_sheet bytes lengths h) (part_of before h) (part_of after h) (get_or r h no_summary)
  hour_alone e h l = (rw e at done).hour h l

  -- A call that is refused has that refusal in all 24 summaries and leaves the lists as they were.
  pub refused_whole : (q : Refusal)
      → day_verdict bytes lengths before ≡ Err q
      → ((h : ℕ)
      → h < hours
      → get_or r h no_summary ≡ record { number = q.number; place = q.place; price = 0; demand = 0; losses = 0 })
      × (after ≡ before)
  refused_whole q e =
      let d = rw e at done in
      let f = kept_all 0 _ _ d.figures in
      let m = kept_all (pos 0) _ _ d.money in
      let s = kept_all 0 _ _ d.schedule in
      let t = kept_all 0 _ _ d.amounts in
      (d.hour, rw (f, m, s, t))
