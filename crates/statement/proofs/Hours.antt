-- The hour's contract amounts: the test is exact, and our own settlement passes it. Assumes nothing.
use Prim.Native.Nat.{ℕ, ◌+◌, ◌-◌, ◌≤◌, ◌<◌}
use native.Mathlib.Omega.{arith}
use mathlib.Core.Bool.{true}
use mathlib.Core.List.{List}
use mathlib.Core.Logic.{◌↔◌}
use mathlib.Core.Path.{◌≡◌, ap, ◌∙◌, sym}
use lib.Dec.{eqb}
use lib.ListN.{length}
use borrow.Author.Tests.{eqb-true}
use Rattle.sums.specs.Sums.{sum}
use Rattle.sums.specs.Lists.{at}
use Rattle.sums.proofs.Sums.{sum_zero, sum_term}
use Rattle.sums.proofs.Lists.{get_d_list_to}
use Rattle.sums.proofs.Picks.{pick_same, pick_zero}
use Rattle.deals.specs.Deals.{count, kind, amount_at, amounts_of}
use Rattle.deals.specs.Hour.{Rows, own_count, own_of, hour_amount}
use Rattle.deals.proofs.Own.{own_sum, own_at, count_own}
use Rattle.statement.specs.Hour.{stated_of, HourFollows, hour_good}
use Rattle.statement.proofs.Every.{every_holds, every_from}
use Rattle.statement.proofs.Ours.{exact, ours_follow}

module _ (s : Rows) (known : (i : ℕ) → i < length s.buyers → 1 ≤ at s.kinds i) where
  -- what holds of each of b's rows holds of each of its own
  module _ (b : ℕ) where
    -- a number that is 0 at every row of b is 0 at every place of its own
    pub own_none : (f : ℕ → ℕ)
        → ((j : ℕ) → j < length s.buyers → at s.buyers j ≡ b → f (own_count s.buyers b j) ≡ 0)
        → (k : ℕ)
        → k < count (own_of s b)
        → f k ≡ 0
    own_none f h k l =
        let z : sum (count (own_of s b)) f ≡ 0 =
        ap (λ (n : ℕ). sum n f) (count_own s b)
        ∙ sym (own_sum s.buyers b f (length s.buyers))
        ∙ sum_zero (length s.buyers) _
        (λ j m. pick_same (eqb (at s.buyers j) b) (f (own_count s.buyers b j)) 0
        (λ t. h j m (eqb-true (at s.buyers j) b t)) ∙ pick_zero (eqb (at s.buyers j) b)) in
        omega (arith, sum_term (count (own_of s b)) k f l)

    pub own_known : (k : ℕ) → k < count (own_of s b) → 1 ≤ kind (own_of s b) k
    own_known k l =
        let z : 1 - kind (own_of s b) k ≡ 0 =
        own_none (λ k. 1 - kind (own_of s b) k)
        (λ j m e. omega (arith, known j m, Rattle.deals.proofs.Own.own_kind s b j m e)) k l in
        omega arith

  -- THE TEST OF THE HOUR IS EXACT
  pub hour_exact : (ds xs : List ℕ) → (hour_good s ds xs ≡ true) ↔ HourFollows s ds xs
  unfolding hour_good
  hour_exact ds xs = (
    λ t. record {
      each = λ b l. (exact (own_of s b) (at ds b) (stated_of s xs b) (own_known b)).0
          (every_holds (length ds) _ t b l);
    },
    λ h. every_from (length ds) _ (λ b l. (exact (own_of s b) (at ds b) (stated_of s xs b) (own_known b)).1 (h.each b l)),
  )

  -- amounts that are ours row by row, at b's own places
  module _ (ds xs : List ℕ) (same : (j : ℕ) → j < length s.buyers → at xs j ≡ hour_amount s ds j) where
    stated_ours : (b k : ℕ) → k < count (own_of s b) → stated_of s xs b k ≡ amount_at (own_of s b) (at ds b) k
    unfolding stated_of hour_amount amounts_of
    stated_ours b k l =
        let z : apart k ≡ 0 = own_none b apart none k l in
        omega (arith, get_d_list_to 0 (amount_at (own_of s b) (at ds b)) (count (own_of s b)) k l)
      where
        theirs : ℕ → ℕ
        theirs k = stated_of s xs b k

        ours : ℕ → ℕ
        ours k = at (amounts_of (own_of s b) (at ds b)) k

        apart : ℕ → ℕ
        apart k = theirs k - ours k + (ours k - theirs k)

        none : (j : ℕ) → j < length s.buyers → at s.buyers j ≡ b → apart (own_count s.buyers b j) ≡ 0
        none j m e =
            let p : theirs (own_count s.buyers b j)
            ≡ hour_amount s ds j = own_at s.buyers b xs j (length s.buyers) m e ∙ same j m in
            let q : hour_amount s ds j
            ≡ ours (own_count s.buyers b j) = ap
            (λ (a : ℕ). at (amounts_of (own_of s a) (at ds a)) (own_count s.buyers a j)) e in
            omega arith

    -- OUR OWN AMOUNTS FOLLOW
    pub hour_settled : HourFollows s ds xs
    hour_settled =
        record { each = λ b l. ours_follow (own_of s b) (at ds b) (stated_of s xs b) (own_known b) (stated_ours b) }
