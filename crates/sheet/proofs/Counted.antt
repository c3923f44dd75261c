-- What counting the rows answers, case by case, and what it has made sure of. Assumes nothing.
use Rattle.std.specs.Prelude.{Ok, Err}
use Prim.Native.Nat.{ℕ}
use mathlib.Core.Path.{◌≡◌, refl, subst}
use mathlib.Core.Bool.{true, false}
use native.Mathlib.Omega.{arith}
use mathlib.Core.List.{List, [], ◌∷◌}
use lib.ListN.{length}
use lib.Dec.{eqb}
use borrow.Author.Tests.{eqb-true}
use Rattle.refusals.specs.Refusals.{bad_length, bad_layout, refusal, refused_unless}
use Rattle.refusals.specs.declared.Refusal.{Refusal}
use Rattle.refusals.specs.Refusals.{Verdict}
use Rattle.refusals.proofs.Fine.{fine_parts, fine_test}
use Rattle.sums.proofs.Tests.{and_left, and_right}
use Rattle.sheet.specs.Reading.{sheet_length, length_good, counts_of, counts_good, counts_fit}
use Rattle.sheet.specs.Counting.{count_verdict, counting, counting_of}
use Rattle.sheet.specs.declared.Counts.{Counts}
use Rattle.sheet.proofs.Accepted.{Few, good_few}
use Rattle.sheet.proofs.Sections.{has_trailer}

module _ (s : List ℕ) where
  pub count_short : length_good (length s) ≡ false → counting_of s ≡ Err (refusal bad_length 0)
  unfolding counting_of count_verdict
  count_short e = rw e

  pub count_crooked : length_good (length s) ≡ true → counts_fit s ≡ false → counting_of s ≡ Err (refusal bad_layout 0)
  unfolding counting_of count_verdict
  count_crooked e h = rw (e, h)

  pub count_fits : length_good (length s) ≡ true → counts_fit s ≡ true → counting_of s ≡ Ok (counts_of s)
  unfolding counting_of count_verdict
  count_fits e h = rw (e, h)

-- the counts are those of the trailer, few, and fit the length
pub record Counted (s : List ℕ) (c : Counts) : Type 0 where
  pub counts : c ≡ counts_of s
  pub few : Few c
  pub long : length s ≡ sheet_length c

pub fits_counted : (s : List ℕ) → counts_fit s ≡ true → Counted s (counts_of s)
fits_counted s e =
    let c = counts_of s in
    record {
      counts = refl;
      few = good_few c (and_left (counts_good c) (eqb (length s) (sheet_length c)) e);
      long = eqb-true _ _ (and_right (counts_good c) (eqb (length s) (sheet_length c)) e);
    }

pub verdict_fits : (s : List ℕ) → count_verdict s ≡ Ok tt → (length_good (length s) ≡ true) × (counts_fit s ≡ true)
unfolding count_verdict
verdict_fits s e =
    let all
    = fine_parts (refused_unless (length_good (length s)) bad_length 0 ∷ refused_unless (counts_fit s) bad_layout 0 ∷ []) e in
    (fine_test _ _ _ all.0, fine_test _ _ _ all.1.0)

-- ---- from the answer
pub rows_counted : (s : List ℕ) (c : Counts) → counting_of s ≡ Ok c → (count_verdict s ≡ Ok tt) × Counted s c
unfolding counting_of
rows_counted s c e = go (count_verdict s) refl e
  where
    go : (v : Verdict) → count_verdict s ≡ v → counting v (counts_of s) ≡ Ok c → (count_verdict s ≡ Ok tt) × Counted s c
    go (Ok tt) q h =
        let k : counts_of s ≡ c = cc in
        (q, subst (λ (d : Counts). Counted s d) k (fits_counted s (verdict_fits s q).1))
    go (Err r) q h = let z : ◌≡◌ {A = ℕ} 0 1 = cc in absurd (omega arith)

pub rows_refused : (s : List ℕ) (r : Refusal) → counting_of s ≡ Err r → count_verdict s ≡ Err r
unfolding counting_of
rows_refused s r e = go (count_verdict s) e
  where
    go : (v : Verdict) → counting v (counts_of s) ≡ Err r → v ≡ Err r
    go (Ok tt) h = let z : ◌≡◌ {A = ℕ} 0 1 = cc in absurd (omega arith)
    go (Err q) h = cc

-- what counting's steps follow from
pub ruleset counting_steps = (has_trailer, count_short, count_crooked, count_fits)
