-- Our own amounts follow document 01 as it is read in P6, and so pass: the house order is one of the orders of equal prices.
-- Assumes nothing.
use Prim.Native.Nat.{ℕ, ◌+◌, ◌-◌, ◌*◌, ◌≤◌, ◌<◌, min}
use native.Mathlib.Omega.{arith}
use mathlib.Core.Bool.{Bool, true, false, ◌&&◌, ◌||◌}
use mathlib.Core.Logic.{◌⊎◌, inl, inr, ◌↔◌}
use mathlib.Core.Path.{◌≡◌, refl, ap, ◌∙◌, sym}
use lib.Dec.{ltb, eqb}
use borrow.Author.Tests.{lt-ltb, le-ltb, eq-eqb, ne_eqb, ltb-true, eqb-true}
use Rattle.sums.specs.Sums.{sum, pick}
use Rattle.sums.specs.Lists.{at, total}
use Rattle.sums.proofs.Sums.{sum_eq}
use Rattle.sums.proofs.Lists.{get_d_list_to}
use Rattle.sums.proofs.Picks.{pick_lt, pick_ge, pick_same, pick_both}
use Rattle.sums.proofs.Tests.{and_left}
use Rattle.sums.proofs.Cut.{cut}
use Rattle.share.specs.Share.{share_of}
use Rattle.share.proofs.Laws.{share_near}
use Rattle.deals.specs.Deals.{Deals, count, kind, price, quantity, conditional, demanded, stands, ahead_of}
use Rattle.deals.specs.Deals.{firm_at, rest_of, cheaper_of, group_of, demanded_at, amount_at, amounts_of}
use Rattle.deals.proofs.Firm.{firm_fixed, firm_needed, firm_covered, firm_none}
use Rattle.deals.proofs.Demanded.{group_at_lem, demanded_full, demanded_shared, demanded_dearer, amount_demanded, amount_firm}
use Rattle.deals.proofs.Amounts.{takes_rest}
use Rattle.statement.specs.Follows.{Rising, ahead_by, left_by, given_at, Shares, Follows}
use Rattle.statement.specs.Decide.{good}
use Rattle.statement.proofs.Every.{pick_two, digits_less, digits_second}
use Rattle.statement.proofs.Told.{good_rows, rows_good}
use Rattle.statement.proofs.Sound.{follows_rows}
use Rattle.statement.proofs.Complete.{rows_follow}

-- THE TEST BY SUMS IS EXACT
pub exact : (s : Deals) (d : ℕ) (x : ℕ → ℕ)
    → ((i : ℕ) → i < count s → 1 ≤ kind s i)
    → (good s d x ≡ true) ↔ Follows s d x
exact s d x known = (λ e. rows_follow s d x (good_rows s d x e), λ f. rows_good s d x (follows_rows s d x f known))

-- ---- the house order: price, kind, row
rank : (n y l j : ℕ) → ℕ
rank n y l j = (y * 4 + min l 3) * n + j

-- one row stands before another where its rank is lower
stands_rank : (n y l j x k i : ℕ)
    → l < 3
    → k < 3
    → j < n
    → i < n
    → stands y l j x k i ≡ ltb (rank n y l j) (rank n x k i)
unfolding stands rank
stands_rank n y l j x k i hl hk hj hi = go (cut y x) (cut x y) (cut l k) (cut k l) (cut j i)
  where
    a : ℕ
    a = y * 4 + min l 3

    b : ℕ
    b = x * 4 + min k 3

    less : a < b → ltb (a * n + j) (b * n + i) ≡ true
    less h = lt-ltb (a * n + j) (b * n + i) (digits_less n a b j i hj h)

    more : b < a → ltb (a * n + j) (b * n + i) ≡ false
    more h = le-ltb (a * n + j) (b * n + i) (omega (arith, digits_less n b a i j hi h))

    go : (y < x) ⊎ (x ≤ y) → (x < y) ⊎ (y ≤ x) → (l < k) ⊎ (k ≤ l) → (k < l) ⊎ (l ≤ k) → (j < i) ⊎ (i ≤ j)
        → (ltb y x || (eqb y x && (ltb l k || (eqb l k && ltb j i)))) ≡ ltb (a * n + j) (b * n + i)
    go (inl p) q r t w = rw (lt-ltb y x p, less (omega arith))
    go (inr p) (inl q) r t w = rw (le-ltb y x p, ne_eqb y x (λ z. omega arith), more (omega arith))
    go (inr p) (inr q) (inl r) t w = rw (le-ltb y x p, eq-eqb y x (omega arith), lt-ltb l k r, less (omega arith))
    go (inr p) (inr q) (inr r) (inl t) w = rw (
      le-ltb y x p,
      eq-eqb y x (omega arith),
      le-ltb l k r,
      ne_eqb l k (λ z. omega arith),
      more (omega arith),
    )
    go (inr p) (inr q) (inr r) (inr t) (inl w) =
        rw (
          le-ltb y x p,
          eq-eqb y x (omega arith),
          le-ltb l k r,
          eq-eqb l k (omega arith),
          lt-ltb j i w,
          lt-ltb (a * n + j) (b * n + i) (same (omega arith) (omega arith)),
        )
      where
        same : y ≡ x → l ≡ k → a * n + j < b * n + i
        same e f = rw (e, f) (omega arith)
    go (inr p) (inr q) (inr r) (inr t) (inr w) =
        rw (
          le-ltb y x p,
          eq-eqb y x (omega arith),
          le-ltb l k r,
          eq-eqb l k (omega arith),
          le-ltb j i w,
          le-ltb (a * n + j) (b * n + i) (same (omega arith) (omega arith)),
        )
      where
        same : y ≡ x → l ≡ k → b * n + i ≤ a * n + j
        same e f = rw (e, f) (omega arith)

module _ (s : Deals) where
  house : ℕ → ℕ
  house i = rank (count s) (price s i) (kind s i) i

  house_rising : Rising s house
  unfolding house rank
  house_rising =
      record {
        apart =
            λ i j li lj e. digits_second (count s) (price s i * 4 + min (kind s i) 3)
            (price s j * 4 + min (kind s j) 3) i j li lj e;
        rising =
            λ i j li lj h. digits_less (count s) (price s i * 4 + min (kind s i) 3) (price s j * 4 + min (kind s j) 3)
            i j li (omega arith);
      }

  ahead_house : (i : ℕ) → i < count s → kind s i < demanded → ahead_of s i ≡ ahead_by s house i
  unfolding ahead_of ahead_by house
  ahead_house i l k =
      sum_eq (count s) _ _
      (λ j m. pick_both (ltb (kind s j) demanded) _ (quantity s j)
      ∙ pick_same (ltb (kind s j) demanded) _ _
      (λ t. ap (λ (u : Bool). pick u (quantity s j))
      (stands_rank (count s) (price s j) (kind s j) j (price s i) (kind s i) i (low j t) k m l))
      ∙ sym (pick_both (ltb (kind s j) demanded) _ (quantity s j)))
    where
      low : (j : ℕ) → ltb (kind s j) demanded ≡ true → kind s j < demanded
      low j t = ltb-true (kind s j) demanded t

-- amounts that are ours, row by row
module _ (s : Deals) (d : ℕ) (x : ℕ → ℕ) (known : (i : ℕ) → i < count s → 1 ≤ kind s i)
    (same : (i : ℕ) → i < count s → x i ≡ amount_at s d i) where
  left_ours : left_by s d x ≡ rest_of s d
  unfolding left_by rest_of
  left_ours = ap (λ (z : ℕ). d - z) (sum_eq (count s) _ _ (λ i l. go i l (cut (kind s i) demanded)))
    where
      go : (i : ℕ)
          → i < count s
          → (kind s i < demanded) ⊎ (demanded ≤ kind s i)
          → pick (ltb (kind s i) demanded) (x i) ≡ firm_at s d i
      go i l (inl h) = pick_lt (kind s i) demanded (x i) h ∙ same i l ∙ amount_firm s d i (λ z. omega arith)
      go i l (inr h) = pick_ge (kind s i) demanded (x i) h ∙ sym (firm_none s d i (λ z. omega arith) (λ z. omega arith))

  given_ours : (p : ℕ)
      → given_at s x p ≡ sum (count s)
      (λ i. pick (eqb (kind s i) demanded && eqb (price s i) p) (demanded_at s (rest_of s d) i))
  unfolding given_at
  given_ours p =
      sum_eq (count s) _ _
      (λ i l. pick_same (eqb (kind s i) demanded && eqb (price s i) p) (x i) (demanded_at s (rest_of s d) i)
      (λ t. same i l ∙ amount_demanded s d i
      (eqb-true (kind s i) demanded (and_left (eqb (kind s i) demanded) (eqb (price s i) p) t))))

  module _ (i : ℕ) (l : i < count s) where
    ours_three : kind s i ≡ demanded → x i ≡ demanded_at s (rest_of s d) i
    ours_three e = same i l ∙ amount_demanded s d i e

    ours_two : kind s i ≡ conditional → x i ≡ pick (ltb (ahead_by s (house s) i) d) (quantity s i)
    ours_two e = same i l ∙ amount_firm s d i (λ z. omega arith) ∙ go (cut (ahead_of s i) d)
      where
        go : (ahead_of s i < d) ⊎ (d ≤ ahead_of s i) → firm_at s d i ≡ pick (ltb (ahead_by s (house s) i) d) (quantity s i)
        go (inl h) = firm_needed s d i e h
            ∙ sym (pick_lt (ahead_by s (house s) i) d (quantity s i) (omega (arith, ahead_house s i l (omega arith))))
        go (inr h) = firm_covered s d i e h
            ∙ sym (pick_ge (ahead_by s (house s) i) d (quantity s i) (omega (arith, ahead_house s i l (omega arith))))

    shares_ours : kind s i ≡ demanded
        → rest_of s d < cheaper_of s (price s i) + total (group_of s (price s i))
        → cheaper_of s (price s i) ≤ rest_of s d
        → Shares s (rest_of s d) x i
    shares_ours e h m =
        let a : ℕ = rest_of s d - cheaper_of s (price s i) in
        let w : at (group_of s (price s i)) i ≡ quantity s i =
        group_at_lem s (price s i) i l
        ∙ pick_two (eqb (kind s i) demanded) (eqb (price s i) (price s i)) (quantity s i)
        (eq-eqb (kind s i) demanded e) (eq-eqb (price s i) (price s i) refl) in
        let v : x i ≡ share_of a (group_of s (price s i)) i = ours_three e ∙ demanded_shared s (rest_of s d) i h m in
        let n = share_near a (group_of s (price s i)) (omega arith) i in
        record {
          near = rw (v, ← w) (record { over = n.0; under = n.1 });
          whole = given_ours (price s i) ∙ takes_rest s (rest_of s d) (price s i) m h;
        }

  -- OUR OWN AMOUNTS FOLLOW ..
  pub ours_follow : Follows s d x
  ours_follow =
      record {
        place = house s;
        order = house_rising s;
        one = λ i l e. same i l ∙ amount_firm s d i (λ z. omega arith) ∙ firm_fixed s d i e;
        two = ours_two;
        fits = λ i l e h. ours_three i l e ∙ demanded_full s (rest_of s d) i (rw left_ours at h);
        shares = λ i l e h m. rw left_ours (shares_ours i l e (rw left_ours at h) (rw left_ours at m));
        dearer = λ i l e h. ours_three i l e ∙ demanded_dearer s (rest_of s d) i (rw left_ours at h);
      }

  -- .. and pass
  pub ours_good : good s d x ≡ true
  ours_good = (exact s d x known).1 ours_follow

-- OUR OWN AMOUNTS ARE ACCEPTED
pub ours_accepted : (s : Deals) (d : ℕ)
    → ((i : ℕ) → i < count s → 1 ≤ kind s i)
    → Follows s d (at (amounts_of s d)) × (good s d (at (amounts_of s d)) ≡ true)
unfolding amounts_of
ours_accepted s d known =
    let same : (i : ℕ) → i < count s → at (amounts_of s d) i
    ≡ amount_at s d i = λ i l. get_d_list_to 0 (amount_at s d) (count s) i l in
    (ours_follow s d (at (amounts_of s d)) known same, ours_good s d (at (amounts_of s d)) known same)
