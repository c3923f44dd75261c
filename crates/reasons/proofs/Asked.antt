-- The refusals in their order: those of the sheet are those of a settlement with room, and then comes 12. Assumes nothing.
use Rattle.std.specs.Prelude.{Result, Ok, Err}
use Prim.Native.Nat.{ℕ, ◌≤◌, ◌<◌}
use mathlib.Core.Bool.{true}
use mathlib.Core.List.{List}
use mathlib.Core.Path.{◌≡◌, refl, subst, ◌∙◌, sym}
use borrow.Author.Tests.{lt-ltb, le-ltb}
use Rattle.refusals.specs.Refusals.{Verdict, not_there, refused}
use Rattle.refusals.specs.declared.Refusal.{Refusal}
use Rattle.refusals.proofs.Fine.{not_fine}
use Rattle.balance.specs.Balances.{Ledger, Weighing}
use Rattle.balance.specs.declared.Weight.{Weight}
use Rattle.sheet.specs.Reading.{read_of}
use Rattle.sheet.specs.declared.Counts.{Counts}
use Rattle.sheet.proofs.Accepted.{refused_verdict}
use Rattle.columns.specs.Columns.{columns_of, hour_of, sheet_verdict}
use Rattle.columns.proofs.Columns.{hour_is}
use Rattle.hour.specs.Sheet.{Sheet}
use Rattle.hour.specs.declared.Summary.{Summary}
use Rattle.ground.specs.Ground.{admission_with}
use Rattle.ground.proofs.Admitted.{admission_all}
use Rattle.settle.specs.Parts.{Trades, verdict_on}
use Rattle.settle.proofs.Judged.{told, none_written}
use Rattle.reasons.specs.Reasons.{why_verdict}
use Rattle.reasons.specs.Parts.{HourSettled, price_by}

-- ---- with room for every sheet what the columns and the lists hold is the hour's
module _ (bytes : List ℕ) (c : Counts) (e : read_of bytes ≡ Ok c) (before after : Ledger) where
  abbrev Weighed : Result Weight Refusal → Type 0
  Weighed = Weighing (admission_with (columns_of bytes c) true) (columns_of bytes c) before after

  verdict_is : (r : Result Weight Refusal) → Weighed r → sheet_verdict bytes ≡ verdict_on r
  verdict_is r w = sym (told (columns_of bytes c) true before after r w ∙ admission_all bytes c e)

  pub hour_settled : (x : Weight) → Weighed (Ok x)
      → (os cs s s' a a' : List ℕ) (r : Summary)
      → Trades (Ok tt) (columns_of bytes c) os cs s s' a a' r
      → HourSettled bytes os s s' a a' (Ok r.price)
  hour_settled x w os cs s s' a a' r t =
      let fine : sheet_verdict bytes ≡ Ok tt = verdict_is (Ok x) w in
      let hour : columns_of bytes c ≡ hour_of bytes = sym (hour_is bytes c e) in
      let t : Trades (Ok tt) (hour_of bytes) os cs s s' a a' r = subst (λ h. Trades (Ok tt) h os cs s s' a a' r) hour t in
      record {
        answer = rw (fine, t.answered);
        own = λ f b l. t.own refl b l;
        schedule = rw fine t.schedule;
        amounts = rw fine t.amounts;
      }

  pub hour_refused : (q : Refusal) → Weighed (Err q) → (os s a : List ℕ) → HourSettled bytes os s s a a (Err q)
  hour_refused q w os s a =
      let no : sheet_verdict bytes ≡ Err q = verdict_is (Err q) w in
      record {
        answer = rw no;
        own = λ f. not_fine q (sym no ∙ f);
        schedule = none_written (sheet_verdict bytes) q no 0 s _ _;
        amounts = none_written (sheet_verdict bytes) q no 0 a _ _;
      }

-- and its answer tells the verdict
module _ (v : Verdict) (h : Sheet) where
  pub answered_fine : (x : ℕ) → Ok x ≡ price_by v h → v ≡ Ok tt
  answered_fine x e = go v e
    where
      go : (v : Verdict) → Ok x ≡ price_by v h → v ≡ Ok tt
      go (Ok tt) e = refl
      go (Err q) e = cc

  pub answered_refused : (q : Refusal) → Err q ≡ price_by v h → v ≡ Err q
  answered_refused q e = go v e
    where
      go : (v : Verdict) → Err q ≡ price_by v h → v ≡ Err q
      go (Ok tt) e = cc
      go (Err r) e = cc

-- ---- the ways through the verdict on a question
module _ (bytes : List ℕ) (n i : ℕ) where
  pub why_refused : (q : Refusal) → sheet_verdict bytes ≡ Err q → why_verdict bytes n i ≡ Err q
  unfolding why_verdict
  why_refused q e = rw e

  pub why_unread : (q : Refusal) → read_of bytes ≡ Err q → why_verdict bytes n i ≡ Err q
  unfolding sheet_verdict
  why_unread q e = why_refused q (rw (refused_verdict bytes q e))

  pub why_absent : sheet_verdict bytes ≡ Ok tt → n ≤ i → why_verdict bytes n i ≡ refused not_there i
  unfolding why_verdict
  why_absent e l = rw (e, le-ltb i n l)

  pub why_there : sheet_verdict bytes ≡ Ok tt → i < n → why_verdict bytes n i ≡ Ok tt
  unfolding why_verdict
  why_there e l = rw (e, lt-ltb i n l)
