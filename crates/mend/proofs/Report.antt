-- WHAT THE REPORT SAYS, of what `mend` leaves in the lent lists: exactly the places where copy and original differ, in rising order, and
-- with the copy it gives the original back. Assumes nothing.
use Rattle.std.specs.Prelude.{Ok}
use Prim.Native.Nat.{ℕ, zero, suc, ◌+◌, ◌*◌, ◌/◌, ◌%◌, ◌≤◌, ◌<◌}
use native.Mathlib.Omega.{arith}
use native.Mathlib.Decide.{dec_lt, ℕ_discrete}
use mathlib.Core.Bool.{Bool, true, false}
use mathlib.Core.List.{List}
use mathlib.Core.Logic.{◌⊎◌, inl, inr}
use mathlib.Core.Path.{◌≡◌, refl, ap, sym, ◌∙◌}
use lib.ListN.{length, take, length-set}
use lib.Seq.{ext_get_or, get_or-set_same, get_or-set_other, get_or-take}
use borrow.Author.Tests.{eqb-true, eqb-false, not-true, not-false}
use Rattle.sums.specs.Lists.{at}
use Rattle.mend.specs.Mend.{mended_at, count_to, changed, change_place, report_at, Mends, undone}
use Rattle.mend.proofs.Places.{Found, place_is, place_found, count_rises, count_mono}
use Rattle.mend.proofs.Changes.{other_changed}
use Rattle.mend.proofs.Sound.{mended_length}
use Rattle.mend.proofs.Promises.{done, copied_at}

-- ---- a place is changed, or the byte is the same
same_byte : (s : List ℕ) (k : ℕ) → changed s k ≡ false → mended_at s k ≡ at s k
unfolding changed
same_byte s k e = sym (eqb-true _ _ (not-false _ e))

other_byte : (s : List ℕ) (k : ℕ) → changed s k ≡ true → mended_at s k ≡ at s k → ⊥
unfolding changed
other_byte s k e q = eqb-false _ _ (not-true _ e) (sym q)

-- change i of a report: its place lies in the sheet, copy and original differ there, and these are the two bytes
pub record Change (s copy report : List ℕ) (i : ℕ) : Type 0 where
  pub within : at report (3 * i) < length s
  pub differs : at copy (at report (3 * i)) ≡ at s (at report (3 * i)) → ⊥
  pub old : at report (3 * i + 1) ≡ at s (at report (3 * i))
  pub new : at report (3 * i + 2) ≡ at copy (at report (3 * i))

module _ (s copy report copy' report' : List ℕ) (n : ℕ) (m : Mends s copy report (Ok n) copy' report') where
  abbrev place : ℕ → ℕ
  place i = at report' (3 * i)

  -- the cells of change i
  place_cell : (i : ℕ) → i < n → place i ≡ change_place s i
  unfolding report_at
  place_cell i h =
      let z : 3 * i / 3 ≡ i = omega arith in
      let q : 3 * i % 3 ≡ 0 = omega arith in
      (done s copy report copy' report' n m).cell (3 * i) (omega arith) ∙ rw (q, z)

  old_cell : (i : ℕ) → i < n → at report' (3 * i + 1) ≡ at s (change_place s i)
  unfolding report_at
  old_cell i h =
      let z : (3 * i + 1) / 3 ≡ i = omega arith in
      let q : (3 * i + 1) % 3 ≡ 1 = omega arith in
      (done s copy report copy' report' n m).cell (3 * i + 1) (omega arith) ∙ rw (q, z)

  new_cell : (i : ℕ) → i < n → at report' (3 * i + 2) ≡ mended_at s (change_place s i)
  unfolding report_at
  new_cell i h =
      let z : (3 * i + 2) / 3 ≡ i = omega arith in
      let q : (3 * i + 2) % 3 ≡ 2 = omega arith in
      (done s copy report copy' report' n m).cell (3 * i + 2) (omega arith) ∙ rw (q, z)

  found : (i : ℕ) → i < n → Found (changed s) (length s) i (change_place s i)
  found i h = let c = (done s copy report copy' report' n m).count in place_found (changed s) (length s) i (omega arith)

  -- EVERY CHANGE REPORTED IS ONE, by its place, its old byte and its new one
  pub reported : (i : ℕ) → i < n → Change s copy' report' i
  reported i h =
      let f = found i h in
      let e = place_cell i h in
      let c = copied_at s copy report copy' report' n m (change_place s i) f.within in
      record {
        within = rw e f.within;
        differs = λ q. other_byte s (change_place s i) f.holds (sym c ∙ (rw e at q));
        old = old_cell i h ∙ ap (at s) (sym e);
        new = new_cell i h ∙ sym c ∙ ap (at copy') (sym e);
      }

  -- EVERY PLACE WHERE COPY AND ORIGINAL DIFFER IS REPORTED
  pub every_change : (k : ℕ) → k < length s → (at copy' k ≡ at s k → ⊥) → (i : ℕ) × (i < n) × (place i ≡ k)
  every_change k h e =
      let c = (done s copy report copy' report' n m).count in
      let t = other_changed s k (λ q. e (copied_at s copy report copy' report' n m k h ∙ sym q)) in
      let i = count_to (changed s) k in
      let l : i < n = omega (arith, count_rises (changed s) k (length s) h t) in
      (i, l, place_cell i l ∙ place_is (changed s) (length s) k h t)

  -- IN RISING ORDER
  pub rising : (i j : ℕ) → i < j → j < n → place i < place j
  rising i j l h =
      let f = found i (omega arith) in
      let g = found j h in
      go f g (dec_lt (change_place s i) (change_place s j))
    where
      go : Found (changed s) (length s) i (change_place s i) → Found (changed s) (length s) j (change_place s j)
          → Dec (change_place s i < change_place s j) → place i < place j
      go f g (yes q) = omega (arith, place_cell i (omega arith), place_cell j h)
      go f g (no q) =
          absurd (omega (
            arith,
            f.before,
            g.before,
            count_mono (changed s) (change_place s j) (change_place s i) (omega arith),
          ))

  -- ---- COPY AND REPORT TOGETHER GIVE THE ORIGINAL BACK
  abbrev back : ℕ → List ℕ
  back i = undone (take (length s) copy') report' i

  back_length : (i : ℕ) → length (back i) ≡ length s
  unfolding undone
  back_length zero = ap length (done s copy report copy' report' n m).copied ∙ mended_length s
  back_length (suc i) = length-set (back i) _ _ ∙ back_length i

  -- after i changes a byte is the original's, or it is a change still to come
  abbrev Way : ℕ → ℕ → Type 0
  Way i k = (at (back i) k ≡ at s k) ⊎ ((changed s k ≡ true) × (i ≤ count_to (changed s) k))

  way : (i : ℕ) → i ≤ n → (k : ℕ) → k < length s → Way i k
  unfolding undone
  way zero l k h = go (changed s k) refl
    where
      go : (b : Bool) → changed s k ≡ b → Way 0 k
      go true e = inr (e, omega arith)
      go false e =
          inl (get_or-take (length s) copy' k 0 h ∙ copied_at s copy report copy' report' n m k h ∙ same_byte s k e)
  way (suc i) l k h = go (ℕ_discrete k (place i)) (way i (omega arith) k h)
    where
      go : Dec (k ≡ place i) → Way i k → Way (suc i) k
      go (yes e) _ =
          let r = reported i (omega arith) in
          inl (ap (at (back (suc i))) e
          ∙ get_or-set_same (back i) (place i) _ 0 (omega (arith, r.within, back_length i)) ∙ r.old ∙ ap (at s) (sym e))
      go (no e) (inl q) = inl (get_or-set_other (back i) (place i) k _ 0 e ∙ q)
      go (no e) (inr (t, q)) =
          let p = place_is (changed s) (length s) k h t in
          let x : count_to (changed s) k ≡ i → ⊥ = λ z. e (sym (place_cell i (omega arith) ∙ (rw z at p))) in
          inr (t, omega arith)

  pub given_back : undone (take (length s) copy') report' n ≡ s
  given_back =
      ext_get_or 0 (back n) s (back_length n)
      (λ k h. let l : k < length s = omega (arith, back_length n) in go k l (way n (omega arith) k l))
    where
      go : (k : ℕ) → k < length s → Way n k → at (back n) k ≡ at s k
      go k h (inl q) = q
      go k h (inr (t, l)) =
          absurd (omega (arith, (done s copy report copy' report' n m).count, count_rises (changed s) k (length s) h t))
