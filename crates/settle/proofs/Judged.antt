-- The promise from a sheet that is read to its bytes; what trading asks for, and what comes of it; what a summary says of the verdict; and
-- a refusal, which leaves everything as it was. Assumes nothing.
use Rattle.std.specs.Prelude.{Result, Ok, Err, IfOk}
use Prim.Native.Nat.{ℕ, ◌≤◌, ◌<◌}
use native.Mathlib.Omega.{arith}
use mathlib.Core.Bool.{Bool, true}
use mathlib.Core.List.{List}
use mathlib.Core.Path.{◌≡◌, refl, ap, ◌∙◌, sym}
use lib.IntN.{pos}
use lib.ListN.{length, take}
use lib.Seq.{get_or-take, length-take-le}
use Rattle.sums.specs.Lists.{at, Filled}
use Rattle.sums.proofs.Lists.{list_to_is}
use Rattle.sums.proofs.Fill.{filled_none, filled_count, filled_unique}
use Rattle.refusals.specs.Refusals.{cells, number_of}
use Rattle.refusals.specs.declared.Refusal.{Refusal}
use Rattle.refusals.specs.Refusals.{Verdict}
use Rattle.refusals.proofs.Fine.{not_fine}
use Rattle.sheet.specs.Reading.{read_of, read_verdict, counts_of}
use Rattle.sheet.specs.declared.Counts.{Counts}
use Rattle.sheet.proofs.Accepted.{accepted_counts, accepted_fine, refused_verdict}
use Rattle.columns.specs.Columns.{columns_of, hour_of, sheet_verdict}
use Rattle.columns.proofs.Columns.{hour_is}
use Rattle.hour.specs.Sheet.{Sheet, agents, plants, contracts}
use Rattle.hour.specs.Balance.{commercial, demands}
use Rattle.hour.specs.Answer.{Lent, lent, summary_of}
use Rattle.hour.specs.declared.Summary.{Summary}
use Rattle.balance.specs.Balances.{zeros, Ledger, Weighing, weighed}
use Rattle.balance.specs.declared.Weight.{Weight}
use Rattle.ground.specs.Ground.{admission_with}
use Rattle.ground.proofs.Admitted.{admits, admission_all}
use Rattle.settle.specs.Parts.{Generates, Agrees, Tradable, Trades, SettledColumns, turned_away, verdict_on}
use Rattle.settle.specs.Settled.{verdict_of, Outcome, Settles, Settled}

-- ---- from reading to the bytes
pub settled_read : (bytes : List ℕ) (c : Counts) (before after : Lent) (r : Summary)
    → read_of bytes ≡ Ok c
    → Settles (columns_of bytes c) before after r
    → Settled bytes before after r
unfolding verdict_of hour_of
settled_read bytes c before after r e o =
    let k : c ≡ counts_of bytes = accepted_counts bytes c e in
    let v : read_verdict bytes ≡ (Ok tt) = accepted_fine bytes c e in
    rw v (rw k at o)

pub refused_read : (bytes : List ℕ) (l : Lent) (q : Refusal) → read_of bytes ≡ Err q → verdict_of bytes l ≡ Err q
unfolding verdict_of
refused_read bytes l q e = let v : read_verdict bytes ≡ Err q = refused_verdict bytes q e in rw v

-- ---- the demands that contracts are assigned by, at the front of their column
pub demands_are : (h : Sheet) (n : ℕ) (ds : List ℕ)
    → agents h ≡ n
    → n ≤ length ds
    → ((a : ℕ) → a < agents h → at ds a ≡ commercial h a)
    → take n ds ≡ demands h
unfolding demands
demands_are h n ds e few f =
    rw e (list_to_is 0 (commercial h) n (take n ds) (length-take-le n ds few) (λ a l. get_or-take n ds a 0 l ∙ f a (omega arith)))

-- ---- of a sheet that nothing turns away, from what agreeing and generating come to
pub traded : (v : Verdict) → v ≡ Ok tt
    → (h : Sheet) (w : Weight) (ds unscheduled : List ℕ) (for_plants for_contracts : ℕ)
    → Tradable h w ds unscheduled for_plants for_contracts
    → (x : ℕ) (os cs schedule₀ schedule amounts₀ amounts : List ℕ)
    → Generates h x os schedule₀ schedule
    → Agrees h cs amounts₀ amounts
    → Trades v h os cs schedule₀ schedule amounts₀ amounts
    (record { number = 0; place = 0; price = x; demand = w.demand; losses = w.losses })
traded v fine h w ds unscheduled for_plants for_contracts o x os cs schedule₀ schedule amounts₀ amounts g a =
    rw fine
    (record {
      answered = rw (← g.price, ← o.demand, ← o.losses);
      own = λ _. g.own;
      held = λ _. a.contracted.done;
      schedule = g.schedule;
      amounts = a.amounts;
    })

-- ---- of a sheet that was weighed into columns: what trading asks for, and what comes of it
module _ (h : Sheet) (room : Bool) (before after : Ledger) (r : Result Weight Refusal)
    (w : Weighing (admission_with h room) h before after r) where
  told_verdict : (v : Verdict) → verdict_on (weighed v h) ≡ v
  told_verdict (Ok tt) = refl
  told_verdict (Err q) = refl

  pub told : verdict_on r ≡ admission_with h room
  told = ap verdict_on w.answer ∙ told_verdict (admission_with h room)

  tradable_one : before.own ≡ zeros
      → (for_plants for_contracts : ℕ)
      → (room ≡ true → (plants h ≤ for_plants) × (contracts h ≤ for_contracts))
      → (x : Weight) → r ≡ Ok x
      → Tradable h x after.commercial after.own for_plants for_contracts
  tradable_one none for_plants for_contracts fits x told_ok =
      let fine : admission_with h room ≡ (Ok tt) = sym told ∙ ap verdict_on told_ok in
      let answer : weighed (Ok tt) h ≡ Ok x = sym (rw fine at w.answer) ∙ told_ok in
      let passed = admits h room fine in
      let posted = w.columns fine in
      record {
        covered = record {
          balance = passed.balance;
          target = cc;
          enough = passed.cover.enough;
          runs = passed.cover.runs;
          fits = (fits passed.has_room).0;
          own = rw none at posted.own;
        };
        demands = posted.commercial.done;
        fits = (fits passed.has_room).1;
        demand = cc;
        losses = cc;
      }

  pub tradable : before.own ≡ zeros
      → (for_plants for_contracts : ℕ)
      → (room ≡ true → (plants h ≤ for_plants) × (contracts h ≤ for_contracts))
      → IfOk r (λ x. Tradable h x after.commercial after.own for_plants for_contracts)
  tradable none for_plants for_contracts fits = go r (tradable_one none for_plants for_contracts fits)
    where
      go : (q : Result Weight Refusal)
          → ((x : Weight) → q ≡ Ok x → Tradable h x after.commercial after.own for_plants for_contracts)
          → IfOk q (λ x. Tradable h x after.commercial after.own for_plants for_contracts)
      go (Ok x) f = f x refl
      go (Err e) f = tt

  pub columns_traded : (n : ℕ)
      → agents h ≡ n
      → (os cs schedule₀ schedule amounts₀ amounts : List ℕ) (s : Summary)
      → Trades (verdict_on r) h os cs schedule₀ schedule amounts₀ amounts s
      → SettledColumns (admission_with h room) h n after.kinds after.shares os after.imports cs schedule₀ schedule amounts₀
      amounts s
  columns_traded n e os cs schedule₀ schedule amounts₀ amounts s t =
      let v = told in
      record {
        answered = rw (← v) t.answered;
        columns =
            λ fine. rw (sym e)
            (record {
              kinds = (w.columns fine).kinds.done;
              shares = (w.columns fine).shares.done;
              own = t.own (v ∙ fine);
              imports = (w.columns fine).imports.done;
              held = t.held (v ∙ fine);
            });
        schedule = rw (← v) t.schedule;
        amounts = rw (← v) t.amounts;
      }

-- ---- with room for every sheet the verdict on the columns is that of the bytes alone
pub settled_all : (bytes : List ℕ) (c : Counts)
    → read_of bytes ≡ Ok c
    → (n : ℕ) (ks ss os is cs schedule₀ schedule amounts₀ amounts : List ℕ) (r : Summary)
    → SettledColumns (admission_with (columns_of bytes c) true) (columns_of bytes c) n ks ss os is cs schedule₀ schedule amounts₀ amounts r
    → SettledColumns (sheet_verdict bytes) (hour_of bytes) n ks ss os is cs schedule₀ schedule amounts₀ amounts r
settled_all bytes c e n ks ss os is cs schedule₀ schedule amounts₀ amounts r d =
    rw (← admission_all bytes c e, hour_is bytes c e) d

-- ---- what the summary says of the verdict
module _ (v : Verdict) (h : Sheet) (r : Summary) (e : r ≡ summary_of v h) where
  summary_number : r.number ≡ number_of v
  summary_number = ap (λ (x : Summary). x.number) e ∙ go v
    where
      go : (v : Verdict) → (summary_of v h).number ≡ number_of v
      go (Ok tt) = refl
      go (Err q) = refl

  pub summary_refused : (r.number ≡ 0 → ⊥) → v ≡ Err (record { number = r.number; place = r.place })
  summary_refused n = rw e (go v (λ z. n (summary_number ∙ z)))
    where
      go : (v : Verdict)
          → (number_of v ≡ 0 → ⊥)
          → v ≡ Err (record { number = (summary_of v h).number; place = (summary_of v h).place })
      go (Ok tt) n = absurd (n refl)
      go (Err q) n = refl

  pub summary_fine : (number_of v ≡ 0 → v ≡ Ok tt) → r.number ≡ 0 → v ≡ Ok tt
  summary_fine f z = f (sym summary_number ∙ z)

-- ---- a refusal
module _ (v : Verdict) (r : Refusal) (e : v ≡ Err r) where
  pub none_written : {A : Type 0} (d : A) (l : List A) (k : ℕ) (f : ℕ → A) → Filled d l l (cells v k) f
  none_written d l k f = filled_count d l l 0 (cells v k) f (rw e) (filled_none d l f)

  pub turned_away_lem : (h : Sheet) (l : Lent) → Outcome v h l l (turned_away r)
  turned_away_lem h l =
      record {
        answered = rw e;
        figures = none_written 0 _ _ _;
        money = none_written (pos 0) _ _ _;
        schedule = none_written 0 _ _ _;
        amounts = none_written 0 _ _ _;
      }

  pub trade_refused : (h : Sheet) (os cs schedule amounts : List ℕ) → Trades v h os cs schedule schedule amounts amounts (turned_away r)
  trade_refused h os cs schedule amounts =
      record {
        answered = rw e;
        own = λ fine. not_fine r (sym e ∙ fine);
        held = λ fine. not_fine r (sym e ∙ fine);
        schedule = none_written 0 _ _ _;
        amounts = none_written 0 _ _ _;
      }

-- ---- two outcomes that meet the promise are one
pub outcome_unique : (v : Verdict) (h : Sheet) (before x y : Lent) (q r : Summary)
    → Outcome v h before x q
    → Outcome v h before y r
    → (q ≡ r) × (x ≡ y)
outcome_unique v h before x y q r o p = (
  o.answered ∙ sym p.answered,
  same x y (filled_unique 0 _ _ _ _ _ o.figures p.figures) (filled_unique (pos 0) _ _ _ _ _ o.money p.money)
      (filled_unique 0 _ _ _ _ _ o.schedule p.schedule) (filled_unique 0 _ _ _ _ _ o.amounts p.amounts),
)
  where
    same : (x y : Lent)
        → x.figures ≡ y.figures
        → x.money ≡ y.money
        → x.schedule ≡ y.schedule
        → x.amounts ≡ y.amounts
        → lent x.figures x.money x.schedule x.amounts
        ≡ lent y.figures y.money y.schedule y.amounts
    same x y f m s a = rw (f, m, s, a)

pub settled_unique : (bytes : List ℕ) (before x y : Lent) (q r : Summary)
    → Settled bytes before x q
    → Settled bytes before y r
    → (q ≡ r) × (x ≡ y)
settled_unique bytes before x y q r = outcome_unique _ _ before x y q r
