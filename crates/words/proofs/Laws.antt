-- Words. Two are the same where each byte is; and once a byte is no digit, or one too many, no byte behind it makes the word a number
-- again. Assumes nothing.
use Rattle.std.proofs.Common.{◌≡◌, ℕ, zero, suc, ◌+◌, true, ◌&&◌, List, length, eqb, Decides, Option, Some, None, refl, sym, ap, ◌∙◌}
use Rattle.std.proofs.Math.Bool.{and_comm}
use Rattle.std.proofs.lemmas.Bool.Decides.{Decides-and, Decides-below_and, Decides-eqb, Decides-like}
use Rattle.std.proofs.lemmas.List.{ext_get_or}
use native.Mathlib.Numerals.{unary_clauses}
use Rattle.sums.specs.Lists.{at}
use Rattle.words.specs.Words.{same_to, same_word, with_digit, spelled_to}

-- ---- the same word

same_to_nil : (a b : List ℕ) → same_to a b 0 ≡ true
unfolding same_to
same_to_nil a b = refl

-- one byte more
pub same_more : (a b : List ℕ) (k : ℕ) → same_to a b (k + 1) ≡ (same_to a b k && eqb (at a k) (at b k))
unfolding same_to
same_more a b k = simp unary_clauses refl

same_next : (a b : List ℕ) (k : ℕ) → same_to a b (suc k) ≡ (eqb (at a k) (at b k) && same_to a b k)
unfolding same_to
same_next a b k = and_comm (same_to a b k) (eqb (at a k) (at b k))

pub same_word-Decides : (a b : List ℕ) → Decides (same_word a b) (a ≡ b)
unfolding same_word
same_word-Decides a b =
    let each = Decides-below_and (λ k. eqb (at a k) (at b k)) (λ k. at a k ≡ at b k) (same_to a b)
    (λ k. Decides-eqb (at a k) (at b k)) (same_to_nil a b) (same_next a b) (length a) in
    Decides-like _ (λ h. ext_get_or 0 a b h.0 h.1) (λ e. (ap length e, λ k w. ap (λ l. at l k) e))
    (Decides-and _ _ (Decides-eqb (length a) (length b)) each)

-- ---- the number that a word spells

-- one byte more
pub spelled_more : (w : List ℕ) (k : ℕ) → spelled_to w (k + 1) ≡ with_digit (spelled_to w k) (at w k)
unfolding spelled_to
spelled_more w k = simp unary_clauses refl

pub one_more : (w : List ℕ) (k v : ℕ) (next : Option ℕ) → spelled_to w k ≡ Some v → next ≡ with_digit (Some v) (at w k)
    → spelled_to w (k + 1) ≡ next
one_more w k v next is then = spelled_more w k ∙ rw is (sym then)

pub not_for_good : (w : List ℕ) (k n : ℕ) → spelled_to w k ≡ None → spelled_to w (k + n) ≡ None
unfolding spelled_to with_digit
not_for_good w k zero e = simp unary_clauses e
not_for_good w k (suc n) e = simp unary_clauses (rw (not_for_good w k n e) refl)
