use Rattle.std.proofs.Common.{ℕ, ◌≤◌, ◌<◌, ◌-◌, ◌/◌, ltb, arith, length}
use native.Mathlib.Decide.{dec_lt}
use Rattle.sums.specs.Sums.{peak, pick}
use Rattle.sums.specs.Lists.{at}
use Rattle.sums.proofs.Sums.{peak_ge, peak_most}
use Rattle.sums.proofs.Picks.{pick_lt, pick_ge}
use Rattle.crossing.proofs.Crossing.{below_zero, below_mono, below_gap}
use Rattle.crossing.proofs.close_in.Goals as goal

-- the highest key below x is below x, and what is above it is from x on
module _ (p : ℕ → ℕ) (n x : ℕ) where
  peak_under : 0 < x → peak n (λ i. pick (ltb (p i) x) (p i)) ≤ x - 1
  peak_under h = peak_most n (x - 1) (λ i. pick (ltb (p i) x) (p i)) (λ i l. go i (dec_lt (p i) x))
    where
      go : (i : ℕ) → Dec (p i < x) → pick (ltb (p i) x) (p i) ≤ x - 1
      go i (yes m) = omega (arith, pick_lt (p i) x (p i) m)
      go i (no m) = omega (arith, pick_ge (p i) x (p i) (omega arith))

  peak_over : (k : ℕ) → k < n → peak n (λ i. pick (ltb (p i) x) (p i)) < p k → x ≤ p k
  peak_over k l h = go (dec_lt (p k) x)
    where
      go : Dec (p k < x) → x ≤ p k
      go (yes m) = absurd (omega (arith, peak_ge n k (λ i. pick (ltb (p i) x) (p i)) l, pick_lt (p k) x (p k) m))
      go (no m) = omega arith

pub loop-low-init : goal.loop-low-init
loop-low-init c =
    let keys = at c.args.keys.now in
    let n = length c.args.keys.now in
    record {
      wanted = omega (arith, below_zero keys (at c.args.values.now) n);
      enough = λ k l h. absurd (omega (arith, peak_ge n k keys l));
    }

pub loop-low-smaller-then-left_of-eq0 : goal.loop-low-smaller-then-left_of-eq0
loop-low-smaller-then-left_of-eq0 c =
    let middle : ℕ = c.loop-low.high - (c.loop-low.high - c.loop-low.low) / 2 in
    omega (arith, c.highest_below-high.ensures, peak_under (at c.args.keys.now) (length c.args.keys.now) middle (omega arith))

pub loop-low-preserved-then-left_of-eq0 : goal.loop-low-preserved-then-left_of-eq0
loop-low-preserved-then-left_of-eq0 c =
    let p : ℕ → ℕ = at c.args.keys.now in
    let n : ℕ = length c.args.keys.now in
    let middle : ℕ = c.loop-low.high - (c.loop-low.high - c.loop-low.low) / 2 in
    record {
      wanted = c.loop-low.invariant.wanted;
      enough =
          λ k m h.
          let over : middle ≤ p k = peak_over p n middle k m (omega (arith, c.highest_below-high.ensures)) in
          omega (arith, c.left_of.ensures, below_mono p (at c.args.values.now) n middle (p k) over);
    }

pub loop-low-preserved : goal.loop-low-preserved
loop-low-preserved c =
    let middle : ℕ = c.loop-low.high - (c.loop-low.high - c.loop-low.low) / 2 in
    record {
      wanted =
          omega (
            arith,
            c.left_of.ensures,
            below_gap (at c.args.keys.now) (at c.args.values.now) (length c.args.keys.now) middle c.lowest_from-low.result
                c.lowest_from-low.ensures.2,
          );
      enough = c.loop-low.invariant.enough;
    }
