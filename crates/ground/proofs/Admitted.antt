-- The verdict that the code comes to is the hour's, and of an hour that nothing turns away what was weighed is the sheet's.
-- Assumes nothing.
use Rattle.std.specs.Prelude.{Result, Ok, Err}
use Prim.Native.Nat.{ℕ}
use native.Mathlib.Omega.{arith}
use mathlib.Core.Bool.{Bool, true, false}
use mathlib.Core.List.{List, [], ◌∷◌}
use mathlib.Core.Path.{◌≡◌, refl, ◌∙◌, sym}
use lib.ListN.{length}
use Rattle.sums.specs.Sums.{sum}
use Rattle.sums.specs.Lists.{at}
use Rattle.refusals.specs.Refusals.{no_room, refused_unless, or_else, number_of}
use Rattle.refusals.specs.declared.Refusal.{Refusal}
use Rattle.refusals.specs.Refusals.{Verdict}
use Rattle.refusals.proofs.Fine.{fine_parts, fine_test}
use Rattle.sheet.specs.Reading.{read_of}
use Rattle.sheet.specs.declared.Counts.{Counts}
use Rattle.sheet.proofs.Accepted.{accepted_fine}
use Rattle.columns.specs.Columns.{columns_of, sheet_verdict}
use Rattle.columns.proofs.Columns.{agents_long, plants_long, contracts_long, hour_is}
use Rattle.columns.proofs.Numbers.{balance_between, cover_between}
use Rattle.columns.proofs.Refusing.{none_of, or_none}
use Rattle.hour.specs.Sheet.{Sheet, plants}
use Rattle.hour.specs.Balance.{dispatch_demand}
use Rattle.hour.specs.Answer.{Lent, Roomy, balance_verdict, cover_verdict, room_verdict, hour_verdict}
use Rattle.hour.proofs.Verdicts.{Covers, covered}
use Rattle.hour.proofs.Verdicts as verdicts
use Rattle.balance.specs.Balances.{Ledger, Weighing, weighed}
use Rattle.balance.proofs.Weighed.{refused}
use Rattle.balance.specs.declared.Weight.{Weight}
use Rattle.ground.specs.Ground.{admission_with}
use Rattle.ground.specs.Parts.{roomy, late_verdict}

-- ---- what weighing told, and of what verdict
weighed_err : (h : Sheet) (v : Verdict) (q : Refusal) → weighed v h ≡ Err q → v ≡ Err q
weighed_err h (Ok tt) q e = cc
weighed_err h (Err p) q e = cc

weighed_ok : (h : Sheet) (v : Verdict) (x : Weight) → weighed v h ≡ Ok x → (v ≡ Ok tt) × (x.target ≡ dispatch_demand h)
weighed_ok h (Ok tt) x e = (refl, cc)
weighed_ok h (Err p) x e = cc

module _ (h : Sheet) (room : Bool) where
  -- ---- behind the balance refusals 10, 13 and 11 by the sheet's own demand, from what weighing told and what the plants offer
  module _ (before after : Ledger) (r : Result Weight Refusal) (w : Weighing (balance_verdict h) h before after r) where
    -- weighing's own refusal stands
    pub refused_weighing : (q : Refusal) (r' : Result Weight Refusal) → r ≡ Err q → r' ≡ Err q
        → Weighing (admission_with h room) h before after r'
    unfolding admission_with
    refused_weighing q r' e f =
        let v : balance_verdict h ≡ Err q = weighed_err h _ _ (sym w.answer ∙ e) in
        refused h (admission_with h room) q before after r' (rw v) f

    module _ (x : Weight) (fine : r ≡ Ok x) where
      balance : balance_verdict h ≡ Ok tt
      balance = (weighed_ok h _ _ (sym w.answer ∙ fine)).0

      pub verdict_is : (a m : ℕ)
          → a ≡ sum (plants h) (at h.available)
          → m ≡ sum (plants h) (at h.must_run)
          → late_verdict x.target a m room ≡ admission_with h room
      unfolding admission_with cover_verdict
      verdict_is a m ea em =
          let d : x.target ≡ dispatch_demand h = (weighed_ok h _ _ (sym w.answer ∙ fine)).1 in
          rw (balance, d, ea, em)

      pub fine_weighing : admission_with h room ≡ Ok tt → Weighing (admission_with h room) h before after (Ok x)
      fine_weighing e = rw (e ∙ sym balance, sym fine) w

  -- ---- what an hour passes that nothing turns away
  pub record Admits : Type 0 where
    pub balance : balance_verdict h ≡ Ok tt
    pub cover : Covers h
    pub has_room : room ≡ true

  pub admits : admission_with h room ≡ Ok tt → Admits
  unfolding admission_with
  admits fine =
      let tests = fine_parts (balance_verdict h ∷ cover_verdict h ∷ refused_unless room no_room 0 ∷ []) fine in
      record {
        balance = tests.0;
        cover = covered h tests.1.0;
        has_room = fine_test room no_room 0 tests.1.1.0;
      }

  -- ---- a refusal has a number above 0
  pub none_told : number_of (admission_with h room) ≡ 0 → admission_with h room ≡ Ok tt
  unfolding admission_with
  none_told =
      or_none (balance_verdict h) (or_else (cover_verdict h) (or_else last (Ok tt)))
      (none_of 7 9 (balance_verdict h) (omega arith) (balance_between h))
      (or_none (cover_verdict h) (or_else last (Ok tt)) (none_of 10 13 (cover_verdict h) (omega arith) (cover_between h))
      (or_none last (Ok tt) (λ e. go room e) (λ e. refl)))
    where
      last : Verdict
      last = refused_unless room no_room 0

      go : (t : Bool) → number_of (refused_unless t no_room 0) ≡ 0 → refused_unless t no_room 0 ≡ Ok tt
      go true e = refl
      go false e = absurd (omega arith)

-- ---- with the room of four lists it is the verdict for these lists
module _ (bytes : List ℕ) (c : Counts) (l : Lent) (room : Bool)
    (e : room ≡ roomy c (length l.figures) (length l.money) (length l.schedule) (length l.amounts)) where
  room_told : refused_unless room no_room 0 ≡ room_verdict (columns_of bytes c) l
  unfolding room_verdict
  room_told = rw (e, agents_long bytes c, plants_long bytes c, contracts_long bytes c)

  pub admission_is : admission_with (columns_of bytes c) room ≡ hour_verdict (columns_of bytes c) l
  unfolding admission_with hour_verdict
  admission_is = rw room_told

  pub room_there : room ≡ true → Roomy (columns_of bytes c) l
  room_there t = verdicts.roomy (columns_of bytes c) l (sym room_told ∙ rw t)

-- and where that is fine they have room
pub fine_room : (h : Sheet) (l : Lent) → hour_verdict h l ≡ Ok tt → Roomy h l
unfolding hour_verdict
fine_room h l fine =
    verdicts.roomy h l (fine_parts (balance_verdict h ∷ cover_verdict h ∷ room_verdict h l ∷ []) fine).1.1.0

-- ---- with room for every sheet it is the verdict of the bytes alone
pub admission_all : (bytes : List ℕ) (c : Counts)
    → read_of bytes ≡ Ok c
    → admission_with (columns_of bytes c) true ≡ sheet_verdict bytes
unfolding admission_with sheet_verdict
admission_all bytes c e = rw (accepted_fine bytes c e, hour_is bytes c e)
