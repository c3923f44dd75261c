-- Refusals 7 to 10, 13 and 11: what each answer says of the sheet, and the answer in each case. Assumes nothing.
use Rattle.std.specs.Prelude.{Ok}
use Prim.Native.Nat.{ℕ, ◌*◌, ◌≤◌, ◌<◌}
use native.Mathlib.Omega.{arith}
use native.Mathlib.Decide.{dec_lt}
use mathlib.Core.Bool.{true, false, ◌&&◌, ◌||◌}
use mathlib.Core.List.{List, [], ◌∷◌}
use mathlib.Core.Logic.{◌⊎◌, inl, inr, ⊎_elim}
use mathlib.Core.Path.{◌≡◌}
use lib.Dec.{ltb, leb, eqb}
use lib.ListN.{length}
use borrow.Author.Tests.{ltb-false, leb-true, eqb-true, ltb-true, le-leb, lt-leb}
use Rattle.sums.specs.Sums.{sum}
use Rattle.sums.specs.Lists.{at}
use Rattle.sums.proofs.First.{first_below}
use Rattle.sums.proofs.Tests.{all_true, or_cases}
use Rattle.refusals.specs.Refusals.{bad_exports, bad_gain, unshared, uncovered, overrun, no_room, refused, refused_unless}
use Rattle.refusals.specs.Refusals.{Verdict}
use Rattle.hour.specs.Sheet.{Sheet, agents, plants, contracts, retails}
use Rattle.hour.specs.Balance.{imported, exported, consumed, entering, leaving, losses, dispatch_demand}
use Rattle.hour.specs.Lines.{cells_per_agent}
use Rattle.hour.specs.Answer.{Lent, Roomy, first_over, balance_verdict, cover_verdict, room_verdict}
use Rattle.refusals.proofs.Fine.{fine_parts, fine_test}

-- ---- what passing refusals 7 to 9 says
pub record Balanced (s : Sheet) : Type 0 where
  pub exports : (a : ℕ) → a < agents s → retails s a ≡ true → exported s a ≤ imported s a
  pub gain : leaving s ≤ entering s
  pub shared : (losses s ≡ 0) ⊎ (0 < consumed s)

abbrev tests : Sheet → List Verdict
tests s =
    refused_unless (leb (agents s) (first_over s)) bad_exports (first_over s)
    ∷ refused_unless (leb (leaving s) (entering s)) bad_gain 0
    ∷ refused_unless (eqb (losses s) 0 || ltb 0 (consumed s)) unshared 0
    ∷ []

module _ (s : Sheet) where
  pub balanced : balance_verdict s ≡ Ok tt → Balanced s
  unfolding balance_verdict first_over
  balanced h =
      let all = fine_parts (tests s) h in
      let none : agents s ≤ first_over s = leb-true _ _ (fine_test _ bad_exports (first_over s) all.0) in
      record {
        exports =
            λ a l r. within a r
            (first_below (agents s) a (λ b. retails s b && ltb (imported s b) (exported s b)) (omega arith));
        gain = leb-true _ _ (fine_test _ bad_gain 0 all.1.0);
        shared =
            ⊎_elim (λ e. inl (eqb-true (losses s) 0 e)) (λ e. inr (ltb-true 0 (consumed s) e))
            (or_cases (eqb (losses s) 0) (ltb 0 (consumed s)) (fine_test _ unshared 0 all.1.1.0));
      }
    where
      within : (a : ℕ)
          → retails s a ≡ true
          → (retails s a && ltb (imported s a) (exported s a)) ≡ false
          → exported s a ≤ imported s a
      within a r e = ltb-false _ _ (rw r at e)

  -- ---- refusals 7 to 9, in each case
  pub balance_7 : first_over s < agents s → balance_verdict s ≡ refused bad_exports (first_over s)
  unfolding balance_verdict
  balance_7 h = simp (lt-leb _ _ h)

  module _ (a : agents s ≤ first_over s) where
    pub balance_8 : entering s < leaving s → balance_verdict s ≡ refused bad_gain 0
    unfolding balance_verdict
    balance_8 h = simp (le-leb _ _ a, lt-leb _ _ h)

    module _ (b : leaving s ≤ entering s) where
      pub balance_9 : (eqb (losses s) 0 || ltb 0 (consumed s)) ≡ false → balance_verdict s ≡ refused unshared 0
      unfolding balance_verdict
      balance_9 h = simp (le-leb _ _ a, le-leb _ _ b, h)

      pub balance_fine : (eqb (losses s) 0 || ltb 0 (consumed s)) ≡ true → balance_verdict s ≡ Ok tt
      unfolding balance_verdict
      balance_fine h = simp (le-leb _ _ a, le-leb _ _ b, h)

  -- ---- refusals 10 and 13
  pub record Covers : Type 0 where
    pub enough : dispatch_demand s ≤ sum (plants s) (at s.available)
    pub runs : sum (plants s) (at s.must_run) ≤ dispatch_demand s

  pub covered : cover_verdict s ≡ Ok tt → Covers
  unfolding cover_verdict
  covered h =
      let all =
      fine_parts (refused_unless (leb (dispatch_demand s) (sum (plants s) (at s.available))) uncovered 0
      ∷ refused_unless (leb (sum (plants s) (at s.must_run)) (dispatch_demand s)) overrun 0 ∷ []) h in
      record {
        enough = leb-true _ _ (fine_test _ uncovered 0 all.0);
        runs = leb-true _ _ (fine_test _ overrun 0 all.1.0);
      }

  pub cover_10 : sum (plants s) (at s.available) < dispatch_demand s → cover_verdict s ≡ refused uncovered 0
  unfolding cover_verdict
  cover_10 h = simp (lt-leb _ _ h)

  module _ (enough : dispatch_demand s ≤ sum (plants s) (at s.available)) where
    pub cover_13 : dispatch_demand s < sum (plants s) (at s.must_run) → cover_verdict s ≡ refused overrun 0
    unfolding cover_verdict
    cover_13 h = simp (le-leb _ _ enough, lt-leb _ _ h)

    pub cover_fine : sum (plants s) (at s.must_run) ≤ dispatch_demand s → cover_verdict s ≡ Ok tt
    unfolding cover_verdict
    cover_fine h = simp (le-leb _ _ enough, le-leb _ _ h)

  -- refused with 10 or with 13
  abbrev pub Uncovered : Type 0
  Uncovered = (cover_verdict s ≡ refused uncovered 0) ⊎ (cover_verdict s ≡ refused overrun 0)

  pub cover_told : (cover_verdict s ≡ Ok tt) ⊎ Uncovered
  cover_told =
      go (dec_lt (sum (plants s) (at s.available)) (dispatch_demand s))
      (dec_lt (dispatch_demand s) (sum (plants s) (at s.must_run)))
    where
      go : Dec (sum (plants s) (at s.available) < dispatch_demand s)
          → Dec (dispatch_demand s < sum (plants s) (at s.must_run))
          → (cover_verdict s ≡ Ok tt) ⊎ Uncovered
      go (yes l) k = inr (inl (cover_10 l))
      go (no l) (yes k) = inr (inr (cover_13 (omega arith) k))
      go (no l) (no k) = inl (cover_fine (omega arith) (omega arith))

-- ---- refusal 11
module _ (s : Sheet) (l : Lent) where
  pub roomy : room_verdict s l ≡ Ok tt → Roomy s l
  unfolding room_verdict
  roomy h =
      let all =
      all_true (leb (cells_per_agent * agents s) (length l.figures))
      (leb (agents s) (length l.money) ∷ leb (plants s) (length l.schedule)
      ∷ leb (contracts s) (length l.amounts) ∷ []) (fine_test _ no_room 0 h) in
      record {
        figures = leb-true _ _ all.0;
        money = leb-true _ _ all.1.0;
        schedule = leb-true _ _ all.1.1.0;
        amounts = leb-true _ _ all.1.1.1.0;
      }

  pub room_fine : Roomy s l → room_verdict s l ≡ Ok tt
  unfolding room_verdict
  room_fine r = simp (le-leb _ _ r.figures, le-leb _ _ r.money, le-leb _ _ r.schedule, le-leb _ _ r.amounts)
