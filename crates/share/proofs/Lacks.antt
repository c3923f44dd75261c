-- The kWh left over cross the weights by what these lack: how the crossing is closed in on, and what is given by it.
-- Assumes nothing.
use mathlib.Core.Path.{◌≡◌, refl, sym, ap, ◌∙◌}
use mathlib.Core.List.{List}
use mathlib.Core.Bool.{Bool, true, false}
use Prim.Native.Nat.{ℕ, suc, ◌+◌, ◌-◌, ◌*◌, ◌/◌, ◌%◌, ◌≤◌, ◌<◌, min}
use native.Mathlib.Nat.{le_refl, mul-le-mul_left}
use native.Mathlib.Decide.{dec_lt, ℕ_discrete}
use native.Mathlib.Omega.{arith}
use lib.Dec.{ltb, eqb}
use mir.Val.{bool_byte}
use lib.ListN.{length, set, length-set}
use lib.Seq.{get_or-set_same, get_or-set_other}
use borrow.Author.Tests.{lt-ltb, le-ltb, eq-eqb, ne_eqb}
use Rattle.sums.specs.Sums.{sum, pick, keyed}
use Rattle.sums.specs.Lists.{at, total, Filled}
use Rattle.sums.proofs.Sums.{sum_step, sum_eq}
use Rattle.sums.proofs.Picks.{pick_lt, pick_ge, pick_eq, pick_ne}
use Rattle.sums.proofs.Keyed.{keyed_none, keyed_step, keyed_most, keyed_absent}
use Rattle.sums.proofs.Fill.{filled_by}
use Rattle.crossing.specs.Crossing.{held_below, comes_before, standing, Above, Bracket, taken, class_of}
use Rattle.crossing.proofs.Crossing.{below_zero, below_suc, below_mono, below_gap, below_classes, class_outside, class_inside}
use Rattle.crossing.proofs.Crossing.{above_from, bracket_crossing, bracket_up, bracket_down, taken_below_lem, taken_level, taken_above}
use Rattle.crossing.proofs.Crossing.{taken_is}
use Rattle.share.specs.Share.{most_weights, floor_of, remainder_of, left_over, goes_before, rank_of, share_of}
use Rattle.share.specs.Lacks.{most_total, Sharing, FloorsHeld, lack_of, one, Lesser, NextLack}
use Rattle.share.specs.Lacks.{Narrowed, Noted, Cleared, Classed, Levelled}
use Rattle.share.proofs.Proportion.{remainder_lt}
use Rattle.share.proofs.Laws.{share_is, share_no_total}
use Rattle.share.proofs.Ranks.{before_larger, before_smaller, before_lower, before_higher}

pub total_pos : (ws : List ℕ) (t : ℕ) → Sharing ws t → 0 < total ws
total_pos ws t sh = omega (arith, sh.is, sh.above)

-- ---- the rank in the rule is what stands before a weight by its lack

before_yes : (y x j i : ℕ) → y < x → comes_before y x j i ≡ true
unfolding comes_before
before_yes y x j i h = rw (lt-ltb y x h)

before_no : (y x j i : ℕ) → x < y → comes_before y x j i ≡ false
unfolding comes_before
before_no y x j i h = rw (le-ltb y x (omega arith), ne_eqb y x (omega arith))

before_tie : (y x j i : ℕ) → y ≡ x → comes_before y x j i ≡ ltb j i
unfolding comes_before
before_tie y x j i h = rw (le-ltb y x (omega arith), eq-eqb y x h)

module _ (a : ℕ) (ws : List ℕ) (pos : 0 < total ws) where
  lack_before : (j i : ℕ) → goes_before (remainder_of a ws) j i ≡ comes_before (lack_of a ws j) (lack_of a ws i) j i
  lack_before j i =
      go (remainder_lt a ws pos j) (remainder_lt a ws pos i) (dec_lt (remainder_of a ws i) (remainder_of a ws j))
      (dec_lt (remainder_of a ws j) (remainder_of a ws i)) (dec_lt j i)
    where
      go : remainder_of a ws j < total ws
          → remainder_of a ws i < total ws
          → Dec (remainder_of a ws i < remainder_of a ws j)
          → Dec (remainder_of a ws j < remainder_of a ws i)
          → Dec (j < i)
          → goes_before (remainder_of a ws) j i ≡ comes_before (lack_of a ws j) (lack_of a ws i) j i
      go l m (yes p) q s = before_larger (remainder_of a ws) j i p
          ∙ sym (before_yes (lack_of a ws j) (lack_of a ws i) j i (omega arith))
      go l m (no p) (yes q) s = before_smaller (remainder_of a ws) j i q
          ∙ sym (before_no (lack_of a ws j) (lack_of a ws i) j i (omega arith))
      go l m (no p) (no q) (yes s) = before_lower (remainder_of a ws) j i (omega arith) s
          ∙ sym (before_tie (lack_of a ws j) (lack_of a ws i) j i (omega arith) ∙ lt-ltb j i s)
      go l m (no p) (no q) (no s) = before_higher (remainder_of a ws) j i (omega arith) (omega arith)
          ∙ sym (before_tie (lack_of a ws j) (lack_of a ws i) j i (omega arith) ∙ le-ltb j i (omega arith))

  pub rank_standing : (i : ℕ) → rank_of a ws i ≡ standing (lack_of a ws) one (length ws) i
  unfolding rank_of standing
  rank_standing i =
      sum_eq (length ws) (λ j. pick (goes_before (remainder_of a ws) j i) 1)
      (λ j. pick (comes_before (lack_of a ws j) (lack_of a ws i) j i) 1)
      (λ j m. ap (λ (b : Bool). pick b 1) (lack_before j i))

  -- one where the rank is below d
  one_of : (r d : ℕ) → pick (ltb r d) 1 ≡ min 1 (d - r)
  one_of r d = go (dec_lt r d)
    where
      go : Dec (r < d) → pick (ltb r d) 1 ≡ min 1 (d - r)
      go (yes h) = omega (arith, pick_lt r d 1 h)
      go (no h) = omega (arith, pick_ge r d 1 (omega arith))

  -- A SHARE IS THE FLOOR AND WHAT THE WEIGHT TAKES OF THE kWh LEFT OVER
  pub share_taken : (x left : ℕ)
      → Bracket (lack_of a ws) one (length ws) (left_over a ws) x x left
      → (i rest : ℕ)
      → i < length ws
      → rest ≡ left - keyed (lack_of a ws) one i x
      → share_of a ws i ≡ floor_of a ws i + taken (lack_of a ws i) x 1 rest
  share_taken x left b i rest l e =
      omega (
        arith,
        share_is a ws pos i,
        one_of (rank_of a ws i) (left_over a ws),
        ap (λ (z : ℕ). min 1 (left_over a ws - z)) (rank_standing i),
        b.reached,
        taken_is (lack_of a ws) one (length ws) (left_over a ws) x
            (bracket_crossing (lack_of a ws) one (length ws) (left_over a ws) x x left (le_refl x) b) i rest l
            (omega (arith, b.reached)),
      )

-- a test as a number
pub byte_is : (b : Bool) → bool_byte b ≡ pick b 1
unfolding pick
byte_is true = refl
byte_is false = refl

-- a unit without a branch
pub unit_is : (k x left : ℕ) → pick (ltb k x) 1 + min (pick (eqb k x) 1) left ≡ taken k x 1 left
unit_is k x left = go (dec_lt k x) (dec_lt x k)
  where
    go : Dec (k < x) → Dec (x < k) → pick (ltb k x) 1 + min (pick (eqb k x) 1) left ≡ taken k x 1 left
    go (yes h) m = omega (arith, taken_below_lem k x 1 left h, pick_lt k x 1 h, pick_ne k x 1 (λ e. omega arith))
    go (no h) (yes m) = omega (
      arith,
      taken_above k x 1 left m,
      pick_ge k x 1 (omega arith),
      pick_ne k x 1 (λ e. omega arith),
    )
    go (no h) (no m) = omega (
      arith,
      taken_level k x 1 left (omega arith),
      pick_ge k x 1 (omega arith),
      pick_eq k x 1 (omega arith),
    )

-- ---- the next group, by a fresh pass

module _ (key : ℕ → ℕ) (low high : ℕ) where
  pub next_none : low ≤ high → NextLack key 0 low high high 0
  next_none h =
      record {
        from = h;
        within = le_refl high;
        gap = λ i l m. absurd (omega arith);
        group = sym (keyed_none key one high);
      }

  pub next_more : (n k x c y e : ℕ)
      → k ≡ key n
      → Lesser low k x c y e
      → NextLack key n low high x c
      → NextLack key (n + 1) low high y e
  next_more n k x c y e q r s = go (dec_lt k low) (dec_lt x k) (dec_lt k x)
    where
      -- the same group, as k is not of it
      keep : (k ≡ x → ⊥) → (k < x → k < low) → (y ≡ x) × (e ≡ c) → NextLack key (n + 1) low high y e
      keep ne g (p, o) =
          rw (p, o) (record {
            from = s.from;
            within = s.within;
            gap = λ i l m. gap i l m (dec_lt i n);
            group = omega (arith, s.group, keyed_step key one n x, pick_ne (key n) x 1 (λ z. ne (q ∙ z)));
          })
        where
          gap : (i : ℕ) → i < n + 1 → key i < x → Dec (i < n) → key i < low
          gap i l m (yes h) = s.gap i h m
          gap i l m (no h) = let z : i ≡ n = omega arith in rw z (omega (arith, g (omega (arith, q, ap key z)), q))

      fresh : low ≤ k → k < x → (y ≡ k) × (e ≡ 1) → NextLack key (n + 1) low high y e
      fresh h m (p, o) =
          rw (p, o) (record {
            from = h;
            within = omega (arith, s.within);
            gap = λ i l z. gap i l z (dec_lt i n);
            group =
                omega (
                  arith,
                  keyed_step key one n k,
                  pick_eq (key n) k 1 (sym q),
                  keyed_absent key one n k (λ j l z. omega (arith, s.gap j l (omega arith))),
                );
          })
        where
          gap : (i : ℕ) → i < n + 1 → key i < k → Dec (i < n) → key i < low
          gap i l z (yes w) = s.gap i w (omega arith)
          gap i l z (no w) = let v : i ≡ n = omega arith in absurd (omega (arith, q, ap key v))

      another : low ≤ k → k ≡ x → (y ≡ x) × (e ≡ c + 1) → NextLack key (n + 1) low high y e
      another h m (p, o) =
          rw (p, o) (record {
            from = s.from;
            within = s.within;
            gap = λ i l z. gap i l z (dec_lt i n);
            group = omega (arith, s.group, keyed_step key one n x, pick_eq (key n) x 1 (sym q ∙ m));
          })
        where
          gap : (i : ℕ) → i < n + 1 → key i < x → Dec (i < n) → key i < low
          gap i l z (yes w) = s.gap i w z
          gap i l z (no w) = let v : i ≡ n = omega arith in absurd (omega (arith, q, ap key v))

      go : Dec (k < low) → Dec (x < k) → Dec (k < x) → NextLack key (n + 1) low high y e
      go (yes h) m z = keep (λ w. omega (arith, s.from)) (λ w. h) (r.out h)
      go (no h) (yes m) z = keep (λ w. omega arith) (λ w. absurd (omega arith)) (r.past m)
      go (no h) (no m) (yes z) = fresh (omega arith) z (r.new (omega arith) z)
      go (no h) (no m) (no z) = another (omega arith) (omega arith) (r.same (omega arith) (omega arith))

pub next_few : (key : ℕ → ℕ) (n low high x c : ℕ) → NextLack key n low high x c → c ≤ n
next_few key n low high x c s = omega (arith, s.group, keyed_most key one n x 1 (λ j _. le_refl 1))

-- the group is the crossing, or it is passed
module _ (key : ℕ → ℕ) (n low high left x c : ℕ) (s : NextLack key n low high x c) where
  flat : held_below key one n x ≡ held_below key one n low
  flat = omega (arith, below_gap key one n low x s.gap, below_mono key one n low x s.from)

  pub pass_stop : low < high → left ≤ c → Narrowed key n low high left x x left
  pass_stop l h =
      record {
        still = λ d b. bracket_down key one n d x high left x
            (above_from key one n d x (suc x) (omega arith)
            (omega (arith, b.reached, flat, below_suc key one n x, s.group)))
            (record { reached = omega (arith, b.reached, flat); enough = b.enough });
        falls = omega arith;
        small = s.within;
      }

  pub pass_on : low < high → c ≤ left → Narrowed key n low high left (x + 1) high (left - c)
  pass_on l h =
      record {
        still = λ d b. bracket_up key one n d low high left c (x + 1) h (one_more b) b;
        falls = omega (arith, s.from);
        small = le_refl high;
      }
    where
      one_more : {d : ℕ} → Bracket key one n d low high left → held_below key one n (x + 1) ≡ held_below key one n low + c
      one_more b = let z : x + 1 ≡ suc x = omega arith in rw z (omega (arith, flat, below_suc key one n x, s.group))

-- ---- classes

pub class_is : (low w k q : ℕ) → (k < low → q ≡ 63) → (low ≤ k → q ≡ (k - low) / w) → class_of low w k ≡ min 63 q
class_is low w k q out inside = go (dec_lt k low)
  where
    go : Dec (k < low) → class_of low w k ≡ min 63 q
    go (yes h) = omega (arith, class_outside low w k h, out h)
    go (no h) = omega (arith, class_inside low w k (omega arith), inside (omega arith))

pub note_out : (low w k : ℕ) (l : List ℕ) → class_of low w k ≡ 63 → Noted low w k l l
note_out low w k l e =
    record { more = λ c h. omega (arith, pick_ne (class_of low w k) c 1 (λ z. omega arith)); long = refl }

pub note_in : (low w k q : ℕ) (l : List ℕ) → class_of low w k ≡ q → q < length l → Noted low w k l (set l q (at l q + 1))
note_in low w k q l e h = record { more = λ c m. go c (ℕ_discrete q c); long = length-set l q (at l q + 1) }
  where
    go : (c : ℕ) → Dec (q ≡ c) → at (set l q (at l q + 1)) c ≡ at l c + pick (eqb (class_of low w k) c) 1
    go c (yes z) = omega (
      arith,
      ap (at (set l q (at l q + 1))) (sym z),
      get_or-set_same l q (at l q + 1) 0 h,
      ap (at l) z,
      pick_eq (class_of low w k) c 1 (e ∙ z),
    )
    go c (no z) = omega (
      arith,
      get_or-set_other l q c (at l q + 1) 0 (λ w. z (sym w)),
      pick_ne (class_of low w k) c 1 (λ w. z (sym e ∙ w)),
    )

module _ (key : ℕ → ℕ) (low w : ℕ) where
  pub classed_none : (l : List ℕ) → Cleared l → Classed key 0 low w l
  classed_none l z =
      record { held = λ c h. z.none c h ∙ sym (keyed_none (λ j. class_of low w (key j)) one c); long = z.long }

  pub classed_more : (n k : ℕ) (l m : List ℕ)
      → k ≡ key n
      → Noted low w k l m
      → Classed key n low w l
      → Classed key (n + 1) low w m
  classed_more n k l m q r s =
      record {
        held =
            λ c h. omega (
              arith,
              r.more c h,
              s.held c h,
              keyed_step (λ j. class_of low w (key j)) one n c,
              ap (λ (z : ℕ). pick (eqb (class_of low w z) c) 1) q,
            );
        long = r.long ∙ s.long;
      }

  pub classed_few : (n : ℕ) (l : List ℕ) → n ≤ most_weights → Classed key n low w l → (c : ℕ) → c < 63 → at l c < 4294967295
  classed_few n l h s c m =
      omega (arith, s.held c m, keyed_most (λ j. class_of low w (key j)) one n c 1 (λ j _. le_refl 1))

-- the span of a class
module _ (key : ℕ → ℕ) (n low high left w : ℕ) (counts : List ℕ) (class rest : ℕ) (pos : 0 < w) (fits : w ≤ high - low)
    (s : Classed key n low w counts) (r : Levelled counts left class rest) where
  held_to : (c : ℕ) → c ≤ 63 → held_below key one n (low + w * c) ≡ held_below key one n low + sum c (at counts)
  held_to c h =
      below_classes key one n low w c pos h
      ∙ ap (λ (z : ℕ). held_below key one n low + z)
      (sum_eq c (λ k. keyed (λ j. class_of low w (key j)) one n k) (at counts) (λ i l. sym (s.held i (omega arith))))

  up : (d : ℕ) → Bracket key one n d low high left → Bracket key one n d (low + w * class) high rest
  up d b = record { reached = omega (arith, b.reached, r.passed, held_to class r.most); enough = b.enough }

  -- what is held below the end of the class
  class_end : class < 63
      → held_below key one n (low + w * class + w) ≡ held_below key one n (low + w * class) + at counts class
  class_end h =
      let z : low + w * class + w ≡ low + w * (class + 1) = omega arith in
      rw z (omega (arith, held_to class r.most, held_to (class + 1) (omega arith), sum_step class (at counts)))

  pub narrow_last : class ≡ 63 → Narrowed key n low high left (low + w * class) high rest
  narrow_last e =
      let m : w * 1 ≤ w * class = mul-le-mul_left w (omega arith) in
      record { still = up; falls = omega arith; small = le_refl high }

  above_end : class < 63
      → (d : ℕ)
      → Bracket key one n d low high left
      → Above key one n d (min (low + w * class + (w - 1)) high)
  above_end h d b = go (dec_lt (low + w * class + (w - 1)) high)
    where
      go : Dec (low + w * class + (w - 1) < high) → Above key one n d (min (low + w * class + (w - 1)) high)
      go (yes l) i m k =
          above_from key one n d (low + w * class + (w - 1)) (low + w * class + w) (omega arith)
          (omega (arith, class_end h, (up d b).reached, r.ends h)) i m (omega arith)
      go (no l) i m k = b.enough i m (omega arith)

  pub narrow_class : class < 63
      → Narrowed key n low high left (low + w * class) (min (low + w * class + (w - 1)) high) rest
  narrow_class h =
      record {
        still = λ d b. record { reached = (up d b).reached; enough = above_end h d b };
        falls = omega arith;
        small = omega arith;
      }

  pub narrow_whole : class < 63
      → at counts class ≤ rest
      → Narrowed key n low high left (low + w * class + (w - 1) + 1) (min (low + w * class + (w - 1)) high) 0
  narrow_whole h e =
      let z : low + w * class + (w - 1) + 1 ≡ low + w * class + w = omega arith in
      rw z (record {
        still =
            λ d b. record {
              reached = omega (arith, class_end h, (up d b).reached, r.ends h);
              enough = above_end h d b;
            };
        falls = omega arith;
        small = omega arith;
      })

-- the whole of it
pub bracket_start : (a : ℕ) (ws : List ℕ) (t left d : ℕ)
    → left ≡ d
    → Sharing ws t
    → Bracket (lack_of a ws) one (length ws) d 0 t left
bracket_start a ws t left d e sh =
    record {
      reached = omega (arith, below_zero (lack_of a ws) one (length ws));
      enough = λ i l m. absurd (omega (arith, sh.is));
    }

-- nothing is left over: the floors are the shares
pub no_left : (a : ℕ) (ws before after : List ℕ)
    → 0 < total ws
    → left_over a ws ≡ 0
    → Filled 0 before after (length ws) (floor_of a ws)
    → Filled 0 before after (length ws) (share_of a ws)
no_left a ws before after pos e r =
    filled_by 0 before after (length ws) (floor_of a ws) (share_of a ws)
    (λ i _. omega (arith, share_is a ws pos i, pick_ge (rank_of a ws i) (left_over a ws) 1 (omega arith))) r

pub zero_shares : (a : ℕ) (ws before after : List ℕ)
    → total ws ≡ 0
    → Filled 0 before after (length ws) (λ _. 0)
    → Filled 0 before after (length ws) (share_of a ws)
zero_shares a ws before after e r =
    filled_by 0 before after (length ws) (λ _. 0) (share_of a ws) (λ i _. sym (share_no_total a ws i e)) r

-- ---- what a pass asks and learns of weight i, where the list has its floor still
module _ (a : ℕ) (ws : List ℕ) (t : ℕ) (out : List ℕ) (h : FloorsHeld a ws t out) (i : ℕ) (l : i < length ws) where
  pub lack_asked : (f : ℕ) → f ≡ at out i → (0 < t) × (t ≤ most_total) × (f ≡ a * at ws i / t)
  lack_asked f e =
      (h.sharing.above, h.sharing.small, e ∙ h.floors i l ∙ ap (λ (z : ℕ). a * at ws i / z) (sym h.sharing.is))

  pub lack_is : (r : ℕ) → r ≡ t - a * at ws i % t → r ≡ lack_of a ws i
  lack_is r e = e ∙ ap (λ (z : ℕ). z - a * at ws i % z) h.sharing.is
