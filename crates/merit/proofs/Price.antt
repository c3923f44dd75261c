-- The bolsa price: 0, or the offer of a flexible plant that is scheduled, and at least every such offer. Assumes nothing.
use Prim.Native.Nat.{ℕ, ◌≤◌, ◌<◌}
use native.Mathlib.Omega.{arith}
use native.Mathlib.Decide.{dec_lt, ℕ_discrete}
use mathlib.Core.Logic.{◌⊎◌, inl, inr}
use mathlib.Core.Path.{◌≡◌}
use lib.Dec.{ltb, eqb}
use Rattle.sums.specs.Sums.{peak, pick}
use Rattle.sums.proofs.Sums.{peak_ge, peak_hit, peak_most}
use Rattle.sums.proofs.Picks.{pick_le, pick_lt, pick_ge, pick_eq, pick_ne}
use Rattle.merit.specs.Merit.{hour_price}

-- what plant i says to the price: its offer where it may set it, else 0
abbrev pub bid : (p t q : ℕ → ℕ) → ℕ → ℕ
bid p t q i = pick (eqb (t i) 0) (pick (ltb 0 (q i)) (p i))

-- plant `which` sets the price x
pub record Sets (p t q : ℕ → ℕ) (n x : ℕ) : Type 0 where
  pub which : ℕ
  pub row : which < n
  pub flexible : t which ≡ 0
  pub scheduled : 0 < q which
  pub offer : p which ≡ x

module _ (p t q : ℕ → ℕ) where
  pub bid_le : (i : ℕ) → bid p t q i ≤ p i
  bid_le i = omega (arith, pick_le (eqb (t i) 0) (pick (ltb 0 (q i)) (p i)), pick_le (ltb 0 (q i)) (p i))

  module _ (n : ℕ) where
    -- at most what bounds every offer
    pub price_most : (b : ℕ) → ((i : ℕ) → i < n → p i ≤ b) → hour_price p t q n ≤ b
    unfolding hour_price
    price_most b h = peak_most n b (bid p t q) (λ i l. omega (arith, bid_le i, h i l))

    -- at least the offer of every flexible plant that is scheduled
    pub price_ge : (i : ℕ) → i < n → t i ≡ 0 → 0 < q i → p i ≤ hour_price p t q n
    unfolding hour_price
    price_ge i l f s =
        omega (arith, peak_ge n i (bid p t q) l, pick_eq (t i) 0 (pick (ltb 0 (q i)) (p i)) f, pick_lt 0 (q i) (p i) s)

    -- 0, or the offer of one of them
    pub price_set : (hour_price p t q n ≡ 0) ⊎ Sets p t q n (hour_price p t q n)
    unfolding hour_price
    price_set = go (dec_lt 0 (peak n (bid p t q)))
      where
        of : (k : ℕ)
            → k < n
            → bid p t q k ≡ peak n (bid p t q)
            → 0 < peak n (bid p t q)
            → Dec (t k ≡ 0)
            → Dec (0 < q k)
            → Sets p t q n (peak n (bid p t q))
        of k l e h (yes f) (yes s) =
            record {
              which = k;
              row = l;
              flexible = f;
              scheduled = s;
              offer = omega (arith, pick_eq (t k) 0 (pick (ltb 0 (q k)) (p k)) f, pick_lt 0 (q k) (p k) s);
            }
        of k l e h (yes f) (no s) = absurd
            (omega (arith, pick_eq (t k) 0 (pick (ltb 0 (q k)) (p k)) f, pick_ge 0 (q k) (p k) (omega arith)))
        of k l e h (no f) s = absurd (omega (arith, pick_ne (t k) 0 (pick (ltb 0 (q k)) (p k)) f))

        go : Dec (0 < peak n (bid p t q)) → (peak n (bid p t q) ≡ 0) ⊎ Sets p t q n (peak n (bid p t q))
        go (no z) = inl (omega arith)
        go (yes h) =
            let (k, l, e) = peak_hit n (bid p t q) h in
            inr (of k l e h (ℕ_discrete (t k) 0) (dec_lt 0 (q k)))
