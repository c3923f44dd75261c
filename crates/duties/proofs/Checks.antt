-- From the promise of `check` to the laws of statements: what was answered, and what it says of the sheet. Assumes nothing.
use Rattle.std.specs.Prelude.{Ok, Err}
use Prim.Native.Nat.{ℕ, ◌≤◌}
use native.Mathlib.Omega.{arith}
use mathlib.Core.List.{List, [], ◌∷◌}
use mathlib.Core.Logic.{◌↔◌}
use mathlib.Core.Path.{◌≡◌, ap, ◌∙◌, sym}
use lib.IntN.{pos}
use Rattle.sums.specs.Sums.{sum}
use Rattle.refusals.specs.Refusals.{or_else}
use Rattle.refusals.specs.declared.Refusal.{Refusal}
use Rattle.refusals.specs.Refusals.{Verdict}
use Rattle.refusals.proofs.Fine.{not_fine, else_fine, fine_parts, both_fine}
use Rattle.sheet.specs.Reading.{read_verdict}
use Rattle.columns.specs.Columns.{hour_of}
use Rattle.hour.specs.Sound.{Sound}
use Rattle.hour.specs.Lines.{bolsa_price}
use Rattle.hour.specs.Signed.{signed_sum}
use Rattle.hour.specs.Answer.{Lent, bought_in, sold_in, money_in, schedule_in, balance_verdict, cover_verdict, room_verdict, hour_verdict}
use Rattle.hour.specs.declared.Summary.{Summary}
use Rattle.hour.proofs.Verdicts.{Balanced, balanced, roomy, room_fine}
use Rattle.statement.specs.Points.{Holds}
use Rattle.statement.specs.Tests.{points_verdict}
use Rattle.statement.proofs.Points.{points_exact}
use Rattle.statement.proofs.Held.{dispatch_same, least_cost, held_balanced, held_money}
use Rattle.statement.proofs.Settled.{ours_hold}
use Rattle.checking.specs.Check.{check_verdict}
use Rattle.settle.specs.Settled.{verdict_of, Settled}
use Rattle.duties.specs.Result.{dispatch_in, agents_of, PossibleFor, cost_of, Passes}
use Rattle.duties.proofs.Steps.{passes_sound, verdict_is}
use Rattle.duties.proofs.Stages.{settled_hour}

-- ---- a sheet that settles, and a statement that meets the points of it
pub record Met (bytes : List ℕ) (price : ℕ) (l : Lent) : Type 0 where
  pub sound : Sound (hour_of bytes)
  pub balanced : Balanced (hour_of bytes)
  pub holds : Holds (hour_of bytes) price l

-- what settling passes
pub record Settles (bytes : List ℕ) (l : Lent) : Type 0 where
  pub passes : Passes bytes
  pub cover : cover_verdict (hour_of bytes) ≡ Ok tt
  pub room : room_verdict (hour_of bytes) l ≡ Ok tt

module _ (bytes : List ℕ) (l : Lent) where
  settles : read_verdict bytes ≡ Ok tt → hour_verdict (hour_of bytes) l ≡ Ok tt → Settles bytes l
  unfolding hour_verdict
  settles e f =
      let all =
      fine_parts (balance_verdict (hour_of bytes) ∷ cover_verdict (hour_of bytes) ∷ room_verdict (hour_of bytes) l ∷ []) f in
      record { passes = record { read = e; balance = all.0 }; cover = all.1.0; room = all.1.1.0 }

  parts : verdict_of bytes l ≡ Ok tt
      → (read_verdict bytes ≡ Ok tt) × (hour_verdict (hour_of bytes) l ≡ Ok tt)
  unfolding verdict_of
  parts e = both_fine (read_verdict bytes) (hour_verdict (hour_of bytes) l) e

module _ (bytes : List ℕ) (price : ℕ) (l : Lent) where
  -- with the sheet fine, the answer is that of the points
  only_points : verdict_of bytes l ≡ Ok tt → check_verdict bytes price l ≡ points_verdict (hour_of bytes) price l
  unfolding check_verdict
  only_points e = let p = parts bytes l e in rw (p.0, p.1) (else_fine _)

  pub all_met : (r : Verdict) → r ≡ check_verdict bytes price l → r ≡ Ok tt → Met bytes price l
  unfolding check_verdict
  all_met r done accepted =
      let all =
      fine_parts (read_verdict bytes ∷ hour_verdict (hour_of bytes) l ∷ points_verdict (hour_of bytes) price l ∷ [])
      (sym done ∙ accepted) in
      let s = settles bytes l all.0 all.1.0 in
      let ok = passes_sound bytes s.passes in
      record {
        sound = ok;
        balanced = balanced (hour_of bytes) s.passes.balance;
        holds = (points_exact (hour_of bytes) price l ok).0 all.1.1.0;
      }

  pub points_decide : (r : Verdict) → r ≡ check_verdict bytes price l → verdict_of bytes l ≡ Ok tt
      → (r ≡ Ok tt) ↔ Holds (hour_of bytes) price l
  points_decide r done fine =
      let p = parts bytes l fine in
      let ok = passes_sound bytes (settles bytes l p.0 p.1).passes in
      let exact = points_exact (hour_of bytes) price l ok in
      (λ e. exact.0 (sym (only_points fine) ∙ sym done ∙ e), λ h. done ∙ only_points fine ∙ exact.1 h)

  pub sheet_first : (r : Verdict)
      → r ≡ check_verdict bytes price l
      → (q : Refusal)
      → verdict_of bytes l ≡ Err q
      → r ≡ Err q
  unfolding check_verdict verdict_of
  sheet_first r done q e = done ∙ go (read_verdict bytes) (hour_verdict (hour_of bytes) l) e
    where
      go : (x y : Verdict) → or_else x y ≡ Err q
          → or_else x (or_else y (or_else (points_verdict (hour_of bytes) price l) (Ok tt))) ≡ Err q
      go (Ok _) (Ok _) t = not_fine q (sym t)
      go (Ok _) (Err y) t = t
      go (Err x) y t = t

-- ---- what is accepted
module _ {bytes : List ℕ} {price : ℕ} {l : Lent} (m : Met bytes price l) where
  pub met_possible : PossibleFor bytes (dispatch_in bytes) (schedule_in l)
  met_possible = rw (dispatch_same (hour_of bytes) l m.balanced m.holds.shares) at m.holds.schedule.possible

  pub met_cheapest : (q : ℕ → ℕ)
      → PossibleFor bytes (dispatch_in bytes) q
      → cost_of bytes (schedule_in l) ≤ cost_of bytes q
  met_cheapest q p =
      least_cost (hour_of bytes) l m.holds.schedule q
      (rw (dispatch_same (hour_of bytes) l m.balanced m.holds.shares) p)

  pub met_balanced : sum (agents_of bytes) (bought_in l) ≡ sum (agents_of bytes) (sold_in l)
  met_balanced = held_balanced (hour_of bytes) m.sound m.balanced price l m.holds

  pub met_money : signed_sum (agents_of bytes) (money_in l) ≡ pos 0
  met_money = held_money (hour_of bytes) m.sound m.balanced price l m.holds

-- ---- our own lists

pub own_lists_lem : (bytes : List ℕ) (before after : Lent) (s : Summary) → Settled bytes before after s → s.number ≡ 0
    → (r : Verdict) → r ≡ check_verdict bytes s.price after → r ≡ Ok tt
own_lists_lem bytes before after s done zero r answer =
    let t = settled_hour bytes done zero in
    let e = parts bytes before t.fine in
    let room = roomy (hour_of bytes) before (settles bytes before e.0 e.1).room in
    let room_after : room_verdict (hour_of bytes) after ≡ (Ok tt) =
    room_fine (hour_of bytes) after
    (record {
      figures = omega (arith, room.figures, done.figures.long);
      money = omega (arith, room.money, done.money.long);
      schedule = omega (arith, room.schedule, done.schedule.long);
      amounts = omega (arith, room.amounts, done.amounts.long);
    }) in
    let fine_after : verdict_of bytes after ≡ (Ok tt) =
    verdict_is bytes after ∙ rw (t.passes.read, t.passes.balance, t.cover, room_after) in
    let price : s.price ≡ bolsa_price (hour_of bytes) = ap (λ (x : Summary). x.price) done.answered ∙ rw t.fine in
    let holds : Holds (hour_of bytes) s.price after =
    rw price
    (ours_hold (hour_of bytes) (passes_sound bytes t.passes) (balanced (hour_of bytes) t.passes.balance)
    t.cover after
    (record {
      figures = λ k h. done.figures.done k (rw t.fine h);
      money = λ a h. done.money.done a (rw t.fine h);
      schedule = λ i h. done.schedule.done i (rw t.fine h);
      amounts = λ j h. done.amounts.done j (rw t.fine h);
    })) in
    (points_decide bytes s.price after r answer fine_after).1 holds
