-- Which way a settlement went, by the number it returns. Assumes nothing.
use Rattle.std.specs.Prelude.{Ok, Err}
use Prim.Native.Nat.{ℕ, ◌≤◌, ◌<◌}
use native.Mathlib.Omega.{arith}
use mathlib.Core.List.{List}
use mathlib.Core.Logic.{◌↔◌, ◌⊎◌, inl, inr}
use mathlib.Core.Path.{◌≡◌, refl, ap, ◌∙◌, sym}
use lib.IntN.{pos}
use Rattle.sums.proofs.Fill.{filled_count, filled_same}
use Rattle.refusals.specs.Refusals.{refused, cells, number_of}
use Rattle.refusals.specs.Refusals.{Verdict}
use Rattle.sheet.specs.Reading.{read_verdict}
use Rattle.columns.specs.Columns.{hour_of}
use Rattle.hour.specs.Answer.{Lent, Roomy, balance_verdict, cover_verdict, room_verdict}
use Rattle.hour.specs.declared.Summary.{Summary}
use Rattle.hour.proofs.Verdicts.{Uncovered, cover_told, room_fine}
use Rattle.hour.proofs.Balance.{refused_exactly}
use Rattle.settle.specs.Settled.{verdict_of, Settled}
use Rattle.duties.specs.Result.{dispatch_in, PossibleFor, Passes, Untouched}
use Rattle.columns.proofs.Numbers.{Between, read_between, balance_between, cover_between, room_between}
use Rattle.columns.proofs.Numbers.{in_order, listed, early_passed, late_number, not_uncovered}
use Rattle.duties.proofs.Steps.{verdict_is, number_is, passes_sound, Hour}

module _ (bytes : List ℕ) {before after : Lent} {r : Summary} (done : Settled bytes before after r) where
  pub number_known : (r.number ≡ 0) ⊎ (((1 ≤ r.number) × (r.number ≤ 11)) ⊎ (r.number ≡ 13))
  number_known =
      rw (number_is bytes before after r done)
      (listed (read_verdict bytes) (balance_verdict (hour_of bytes)) (cover_verdict (hour_of bytes))
      (room_verdict (hour_of bytes) before)
      (read_between bytes) (balance_between (hour_of bytes)) (cover_told (hour_of bytes))
      (room_between (hour_of bytes) before))

  number_passes : (r.number ≡ 0) ⊎ (9 < r.number) → Passes bytes
  number_passes h =
      let (p, b) =
      early_passed (read_verdict bytes) (balance_verdict (hour_of bytes)) (cover_verdict (hour_of bytes))
      (room_verdict (hour_of bytes) before)
      (read_between bytes) (balance_between (hour_of bytes))
      (rw (number_is bytes before after r done) at h) in
      record { read = p; balance = b }

  passes_number : Passes bytes → (r.number ≡ 0) ⊎ (9 < r.number)
  passes_number p =
      rw (number_is bytes before after r done, p.read, p.balance)
      (late_number (cover_verdict (hour_of bytes)) (room_verdict (hour_of bytes) before) (cover_between (hour_of bytes))
      (room_between (hour_of bytes) before))

  pub number_tells : ((r.number ≡ 0) ⊎ (9 < r.number)) ↔ Passes bytes
  number_tells = (number_passes, passes_number)

  -- any other number than 0 is a refusal's
  pub refused_leaves : (r.number ≡ 0 → ⊥) → Untouched before after r
  refused_leaves no_zero = go (verdict_of bytes before) refl
    where
      go : (v : Verdict) → verdict_of bytes before ≡ v → Untouched before after r
      go (Ok _) e = absurd (no_zero (ap (λ (x : Summary). x.number) done.answered ∙ rw e))
      go (Err q) e =
          let none : (n : ℕ) → cells (verdict_of bytes before) n ≡ 0 = λ n. rw e in
          record {
            price = ap (λ (x : Summary). x.price) done.answered ∙ rw e;
            demand = ap (λ (x : Summary). x.demand) done.answered ∙ rw e;
            losses = ap (λ (x : Summary). x.losses) done.answered ∙ rw e;
            figures = filled_same 0 _ _ _ (filled_count 0 _ _ _ 0 _ (none _) done.figures);
            money = filled_same (pos 0) _ _ _ (filled_count (pos 0) _ _ _ 0 _ (none _) done.money);
            schedule = filled_same 0 _ _ _ (filled_count 0 _ _ _ 0 _ (none _) done.schedule);
            amounts = filled_same 0 _ _ _ (filled_count 0 _ _ _ 0 _ (none _) done.amounts);
          }

  module _ (passes : Passes bytes) where
    late : r.number ≡ number_of
        (in_order (Ok tt) (Ok tt) (cover_verdict (hour_of bytes)) (room_verdict (hour_of bytes) before))
    late = rw (passes.read, passes.balance) at (number_is bytes before after r done)

    -- the number that the plants alone are refused with is the one returned
    told : (n : ℕ) → cover_verdict (hour_of bytes) ≡ refused n 0 → r.number ≡ n
    told n e = late ∙ rw e

    -- with no refusal of the plants another number is returned
    other : cover_verdict (hour_of bytes) ≡ Ok tt → (r.number ≡ 10) ⊎ (r.number ≡ 13) → ⊥
    other e =
        not_uncovered (room_verdict (hour_of bytes) before) (room_between (hour_of bytes) before) r.number
        (sym (rw e at late))

    told_uncovered : Uncovered (hour_of bytes) → (r.number ≡ 10) ⊎ (r.number ≡ 13)
    told_uncovered (inl e) = inl (told 10 e)
    told_uncovered (inr e) = inr (told 13 e)

    pub impossible_tells : ((r.number ≡ 10) ⊎ (r.number ≡ 13))
        ↔ ((q : ℕ → ℕ) → PossibleFor bytes (dispatch_in bytes) q → ⊥)
    impossible_tells =
        let none = refused_exactly (hour_of bytes) (passes_sound bytes passes) in
        (λ h. none.0 (turned h (cover_told (hour_of bytes))), λ h. told_uncovered (none.1 h))
      where
        turned : (r.number ≡ 10) ⊎ (r.number ≡ 13)
            → (cover_verdict (hour_of bytes) ≡ Ok tt) ⊎ Uncovered (hour_of bytes)
            → Uncovered (hour_of bytes)
        turned h (inl e) = absurd (other e h)
        turned h (inr u) = u

    module _ (room : Roomy (hour_of bytes) before) (otherwise : (r.number ≡ 10) ⊎ (r.number ≡ 13) → ⊥) where
      covers : cover_verdict (hour_of bytes) ≡ Ok tt
      covers = go (cover_told (hour_of bytes))
        where
          go : (cover_verdict (hour_of bytes) ≡ Ok tt) ⊎ Uncovered (hour_of bytes)
              → cover_verdict (hour_of bytes) ≡ Ok tt
          go (inl e) = e
          go (inr u) = absurd (otherwise (told_uncovered u))

      pub the_hour : Hour bytes before after r
      the_hour =
          record {
            done = done;
            passes = passes;
            cover = covers;
            fine =
                verdict_is bytes before ∙ rw (
                  passes.read,
                  passes.balance,
                  covers,
                  room_fine (hour_of bytes) before room,
                );
          }

-- ---- a settlement that returns 0
zero_fine : (c m : Verdict) → Between 10 13 c → Between 11 11 m → number_of (in_order (Ok tt) (Ok tt) c m) ≡ 0
    → (c ≡ Ok tt) × (m ≡ Ok tt)
zero_fine (Ok _) (Ok _) hc hm e = (refl, refl)
zero_fine (Ok _) (Err q) hc hm e = absurd (omega arith)
zero_fine (Err q) m hc hm e = absurd (omega arith)

pub settled_hour : (bytes : List ℕ) {before after : Lent} {r : Summary}
    → Settled bytes before after r
    → r.number ≡ 0
    → Hour bytes before after r
settled_hour bytes {before} {after} {r} done e =
    let passes = number_passes bytes done (inl e) in
    let (c, m) =
    zero_fine (cover_verdict (hour_of bytes)) (room_verdict (hour_of bytes) before) (cover_between (hour_of bytes))
    (room_between (hour_of bytes) before)
    (sym (late bytes done passes) ∙ e) in
    record {
      done = done;
      passes = passes;
      cover = c;
      fine = verdict_is bytes before ∙ rw (passes.read, passes.balance, c, m);
    }
