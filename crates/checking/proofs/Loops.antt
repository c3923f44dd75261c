-- One row more in each pass, and what the passes find together. Assumes nothing.
use Rattle.std.specs.List.{list_all, range_with_len}
use Prim.Native.Nat.{ℕ, zero, suc, ◌+◌, ◌-◌, ◌*◌, ◌≤◌, max}
use native.Mathlib.Numerals.{add-one}
use native.Mathlib.Omega.{arith}
use mathlib.Core.Bool.{Bool, true, false, ◌&&◌, and-true}
use mathlib.Core.Path.{◌≡◌, refl, ap, ap₂, ◌∙◌, sym}
use lib.Dec.{ltb, eqb}
use Rattle.sums.specs.Sums.{peak, pick}
use Rattle.sums.proofs.Sums.{sum_none, sum_step, peak_step}
use Rattle.sums.proofs.Picks.{pick_le}
use Rattle.deals.specs.Deals.{Deals, kind, price, quantity, fixed, conditional, demanded}
use Rattle.statement.specs.Decide.{every}
use Rattle.statement.specs.Quick.{shape_good}
use Rattle.checking.specs.Passes.{above, room, Looked, SeenTo, Added, SummedTo}
use Rattle.checking.specs.declared.passes.Seen.{Seen}
use Rattle.checking.specs.declared.passes.Summed.{Summed}

pub every_none : (t : ℕ → Bool) → every 0 t ≡ true
unfolding every
every_none t = refl

pub every_step : (n : ℕ) (t : ℕ → Bool) → every (n + 1) t ≡ (every n t && t n)
unfolding every
every_step n t = rw add-one

-- the test of one more
pub every_more : (n : ℕ) (t : ℕ → Bool) (y z : Bool) → y ≡ every n t → z ≡ t n → (y && z) ≡ every (n + 1) t
every_more n t y z e f = ap₂ (λ (a b : Bool). a && b) e f ∙ sym (every_step n t)

-- the test of a range from a on is that of every index below its length
every_first : (n : ℕ) (t : ℕ → Bool) → every (suc n) t ≡ (t 0 && every n (λ i. t (suc i)))
unfolding every
every_first zero t = sym (and-true (t 0))
every_first (suc n) t = ap (λ (y : Bool). y && t (suc n)) (every_first n t) ∙ assoc (t 0) (every n (λ i. t (suc i))) (t (suc n))
  where
    assoc : (a b c : Bool) → ((a && b) && c) ≡ (a && (b && c))
    assoc true b c = refl
    assoc false b c = refl

every_alike : (n : ℕ) (t u : ℕ → Bool) → ((i : ℕ) → t i ≡ u i) → every n t ≡ every n u
unfolding every
every_alike zero t u h = refl
every_alike (suc n) t u h = rw (every_alike n t u h, h n)

all_range : (n a : ℕ) (t : ℕ → Bool) → list_all t (range_with_len a n) ≡ every n (λ i. t (a + i))
unfolding every
all_range zero a t = refl
all_range (suc n) a t =
    ap₂ (λ (x y : Bool). x && y) (ap t (omega arith))
    (all_range n (a + 1) t ∙ every_alike n _ _ (λ i. ap t (omega arith)))
    ∙ sym (every_first n (λ i. t (a + i)))

pub all_below : (n : ℕ) (t : ℕ → Bool) → list_all t (range_with_len 0 n) ≡ every n t
all_below n t = all_range n 0 t ∙ every_alike n _ _ (λ i. ap t (omega arith))

pub peak_none : (f : ℕ → ℕ) → peak 0 f ≡ 0
unfolding peak
peak_none f = refl

-- ---- first pass
module _ (s : Deals) (x : ℕ → ℕ) where
  pub seen_none : (v : Seen)
      → v.good ≡ true
      → v.reach ≡ 0
      → v.depth ≡ 0
      → v.top ≡ 0
      → v.firm ≡ 0
      → v.given ≡ 0
      → v.asked ≡ 0
      → SeenTo s x 0 v
  seen_none v a b c e f g h =
      record {
        good = a ∙ sym (every_none _);
        reach = b ∙ sym (peak_none _);
        depth = c ∙ sym (peak_none _);
        top = e ∙ sym (peak_none _);
        firm = f ∙ sym (sum_none _);
        given = g ∙ sym (sum_none _);
        asked = h ∙ sym (sum_none _);
      }

  pub seen_more : (n : ℕ) (v r : Seen)
      → Looked v (kind s n) (price s n) (quantity s n) (x n) r
      → SeenTo s x n v
      → SeenTo s x (n + 1) r
  seen_more n v r l h =
      record {
        good =
            l.good ∙ ap (λ (t : Bool). t && shape_good (kind s n) (quantity s n) (x n)) h.good
            ∙ sym (every_step n (λ i. shape_good (kind s i) (quantity s i) (x i)));
        reach =
            l.reach ∙ ap (λ (z : ℕ). max z (pick (eqb (kind s n) conditional && ltb 0 (x n)) (price s n + 1)))
            h.reach ∙ sym (peak_step n _);
        depth =
            l.depth ∙ ap (λ (z : ℕ). max z
            (pick (eqb (kind s n) conditional && (eqb (x n) 0 && ltb 0 (quantity s n))) (above - price s n)))
            h.depth ∙ sym (peak_step n _);
        top =
            l.top ∙ ap (λ (z : ℕ). max z (pick (eqb (kind s n) demanded && ltb 0 (x n)) (price s n + 1))) h.top
            ∙ sym (peak_step n _);
        firm = omega (arith, l.firm, h.firm, sum_step n (λ j. pick (ltb (kind s j) demanded) (x j)));
        given = omega (arith, l.given, h.given, sum_step n (λ j. pick (eqb (kind s j) demanded) (x j)));
        asked = omega (arith, l.asked, h.asked, sum_step n (λ j. pick (eqb (kind s j) demanded) (quantity s j)));
      }

abbrev pub SeenRoom : ℕ → Seen → Type 0
SeenRoom n v = (v.firm ≤ room n) × (v.given ≤ room n) × (v.asked ≤ room n)

pub seen_room : (k p q x n : ℕ) (v r : Seen)
    → Looked v k p q x r
    → q ≤ 4294967295
    → x ≤ 4294967295
    → SeenRoom n v
    → SeenRoom (n + 1) r
seen_room k p q x n v r l a b h = (
  omega (arith, l.firm, pick_le (ltb k demanded) x),
  omega (arith, l.given, pick_le (eqb k demanded) x),
  omega (arith, l.asked, pick_le (eqb k demanded) q),
)

-- ---- second pass
module _ (s : Deals) (x : ℕ → ℕ) (u w g : ℕ) where
  abbrev ahead_term : ℕ → ℕ
  ahead_term j =
      pick (ltb (kind s j) demanded && ltb (price s j) u) (quantity s j)
      + pick (eqb (kind s j) conditional && eqb (price s j) u) (x j)

  abbrev under_term : ℕ → ℕ
  under_term j =
      pick (ltb (kind s j) demanded && ltb (price s j) w) (quantity s j)
      + pick (eqb (kind s j) conditional && eqb (price s j) w) (x j)
      + pick (eqb (kind s j) fixed && eqb (price s j) w) (quantity s j)

  pub summed_none : (v : Summed)
      → v.ahead ≡ 0
      → v.largest ≡ 0
      → v.under ≡ 0
      → v.cheaper ≡ 0
      → v.whole ≡ 0
      → SummedTo s x u w g 0 v
  summed_none v a b c e f =
      record {
        ahead = a ∙ sym (sum_none _);
        largest = b ∙ sym (peak_none _);
        under = c ∙ sym (sum_none _);
        cheaper = e ∙ sym (sum_none _);
        whole = f ∙ sym (sum_none _);
      }

  pub summed_more : (n : ℕ) (v r : Summed)
      → Added u w g v (kind s n) (price s n) (quantity s n) (x n) r
      → SummedTo s x u w g n v
      → SummedTo s x u w g (n + 1) r
  summed_more n v r l h =
      record {
        ahead = omega (arith, l.ahead, h.ahead, sum_step n ahead_term);
        largest =
            l.largest ∙ ap (λ (z : ℕ). max z (pick (eqb (kind s n) conditional && eqb (price s n) u) (x n)))
            h.largest ∙ sym (peak_step n _);
        under = omega (arith, l.under, h.under, sum_step n under_term);
        cheaper =
            omega (
              arith,
              l.cheaper,
              h.cheaper,
              sum_step n (λ j. pick (eqb (kind s j) demanded && ltb (price s j) g) (quantity s j)),
            );
        whole =
            omega (
              arith,
              l.whole,
              h.whole,
              sum_step n (λ j. pick (eqb (kind s j) demanded && eqb (price s j) g) (quantity s j)),
            );
      }

abbrev pub Room : ℕ → Summed → Type 0
Room n v = (v.ahead ≤ room (2 * n)) × (v.under ≤ room (3 * n)) × (v.cheaper ≤ room n) × (v.whole ≤ room n)

pub summed_room : (u w g k p q x n : ℕ) (v r : Summed)
    → Added u w g v k p q x r
    → q ≤ 4294967295
    → x ≤ 4294967295
    → Room n v
    → Room (n + 1) r
summed_room u w g k p q x n v r l a b h = (
  omega (arith, l.ahead, pick_le (ltb k demanded && ltb p u) q, pick_le (eqb k conditional && eqb p u) x),
  omega (
    arith,
    l.under,
    pick_le (ltb k demanded && ltb p w) q,
    pick_le (eqb k conditional && eqb p w) x,
    pick_le (eqb k fixed && eqb p w) q,
  ),
  omega (arith, l.cheaper, pick_le (eqb k demanded && ltb p g) q),
  omega (arith, l.whole, pick_le (eqb k demanded && eqb p g) q),
)
