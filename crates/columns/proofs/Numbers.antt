-- Which numbers each stage of the settlement refuses with, so that the number tells the stage. Assumes nothing.
use Rattle.std.specs.Prelude.{Ok, Err}
use Prim.Native.Nat.{ℕ, zero, suc, ◌+◌, ◌*◌, ◌≤◌, ◌<◌}
use native.Mathlib.Omega.{arith}
use mathlib.Core.Bool.{Bool, true, false, ◌&&◌, ◌||◌}
use mathlib.Core.List.{List, [], ◌∷◌}
use mathlib.Core.Logic.{◌⊎◌, inl, inr}
use mathlib.Core.Path.{◌≡◌, refl}
use lib.Dec.{ltb, leb, eqb}
use lib.ListN.{length}
use Rattle.sums.specs.Sums.{sum}
use Rattle.sums.specs.Lists.{at}
use Rattle.refusals.specs.Refusals.{bad_length, bad_layout, bad_agent, bad_boundary, bad_plant, bad_contract, bad_exports, bad_gain, unshared}
use Rattle.refusals.specs.Refusals.{uncovered, overrun, no_room, refused, refused_unless, or_else, first_of, first_bad, number_of}
use Rattle.refusals.specs.Refusals.{Verdict}
use Rattle.octets.specs.Bytes.{words_at}
use Rattle.rows.specs.Rows.{agent_blank, boundary_blank, agent_good, boundary_good, plant_good, contract_good}
use Rattle.sheet.specs.Reading.{boundary_start, length_good, counts_of, layout_good, kind_at, agent_verdict}
use Rattle.sheet.specs.Reading.{boundary_verdict, plant_verdict, contract_verdict, checks, read_verdict}
use Rattle.sheet.specs.Asking.{agent_at, boundary_at, plant_at, contract_at}
use Rattle.sheet.specs.declared.Counts.{Counts}
use Rattle.hour.specs.Sheet.{Sheet, agents, plants, contracts}
use Rattle.hour.specs.Balance.{consumed, entering, leaving, losses, dispatch_demand}
use Rattle.hour.specs.Lines.{cells_per_agent}
use Rattle.hour.specs.Answer.{Lent, first_over, balance_verdict, cover_verdict, room_verdict}

-- fine, or refused with a number from lo to hi
abbrev pub Between : (lo hi : ℕ) → Verdict → Type 0
Between lo hi (Ok _) = Unit {0}
Between lo hi (Err r) = (lo ≤ r.number) × (r.number ≤ hi)

abbrev AllBetween : (lo hi : ℕ) → List Verdict → Type 0
AllBetween lo hi [] = Unit {0}
AllBetween lo hi (v ∷ vs) = Between lo hi v × AllBetween lo hi vs

module _ (lo hi : ℕ) where
  unless_between : (ok : Bool) (n p : ℕ) → lo ≤ n → n ≤ hi → Between lo hi (refused_unless ok n p)
  unless_between true n p h k = tt
  unless_between false n p h k = (h, k)

  or_between : (v w : Verdict) → Between lo hi v → Between lo hi w → Between lo hi (or_else v w)
  or_between (Ok _) w h k = k
  or_between (Err r) w h k = h

  first_between : (vs : List Verdict) → AllBetween lo hi vs → Between lo hi (first_of vs)
  first_between [] h = tt
  first_between (v ∷ vs) h = or_between v (first_of vs) h.0 (first_between vs h.1)

  bad_between : (f : ℕ → Verdict) (i n : ℕ) → ((j : ℕ) → Between lo hi (f j)) → Between lo hi (first_bad f i n)
  unfolding first_bad
  bad_between f i zero h = tt
  bad_between f i (suc n) h = or_between (f i) (first_bad f (suc i) n) (h i) (bad_between f (suc i) n h)

-- reading refuses with 1 to 6
pub read_between : (bytes : List ℕ) → Between 1 6 (read_verdict bytes)
unfolding read_verdict agent_verdict boundary_verdict plant_verdict contract_verdict
read_between bytes =
    let c = counts_of bytes in
    first_between 1 6 (checks bytes) (
      unless_between 1 6 (length_good (length bytes)) bad_length 0 (omega arith) (omega arith),
      (
        unless_between 1 6 (layout_good bytes) bad_layout 0 (omega arith) (omega arith),
        (
          bad_between 1 6 (agent_verdict bytes c) 0 c.agents
              (λ j. unless_between 1 6 (agent_test bytes c j) bad_agent j (omega arith) (omega arith)),
          (
            bad_between 1 6 (boundary_verdict bytes c) 0 c.boundaries
                (λ j. unless_between 1 6 (boundary_test bytes c j) bad_boundary j (omega arith) (omega arith)),
            (
              bad_between 1 6 (plant_verdict bytes c) 0 c.plants
                  (λ j. unless_between 1 6 (plant_test bytes c j) bad_plant j (omega arith) (omega arith)),
              (
                bad_between 1 6 (contract_verdict bytes c) 0 c.contracts
                    (λ j. unless_between 1 6 (contract_test bytes c j) bad_contract j (omega arith) (omega arith)),
                tt,
              ),
            ),
          ),
        ),
      ),
    )
  where
    agent_test : List ℕ → Counts → ℕ → Bool
    agent_test s c i = agent_blank (words_at s i) && agent_good (agent_at s c i)

    boundary_test : List ℕ → Counts → ℕ → Bool
    boundary_test s c i =
        boundary_blank (words_at s (boundary_start c + i))
        && boundary_good (kind_at s c (boundary_at s c i).agent) (boundary_at s c i)

    plant_test : List ℕ → Counts → ℕ → Bool
    plant_test s c i = plant_good (kind_at s c (plant_at s c i).agent) (plant_at s c i)

    contract_test : List ℕ → Counts → ℕ → Bool
    contract_test s c i =
        contract_good (kind_at s c (contract_at s c i).seller) (kind_at s c (contract_at s c i).buyer) (contract_at s c i)

-- the balance with 7 to 9
pub balance_between : (s : Sheet) → Between 7 9 (balance_verdict s)
unfolding balance_verdict
balance_between s =
    first_between 7 9 (refused_unless over bad_exports (first_over s) ∷ refused_unless gain bad_gain 0
    ∷ refused_unless shared unshared 0 ∷ []) (
      unless_between 7 9 over bad_exports (first_over s) (omega arith) (omega arith),
      (
        unless_between 7 9 gain bad_gain 0 (omega arith) (omega arith),
        (
          unless_between 7 9 shared unshared 0 (omega arith) (omega arith),
          tt,
        ),
      ),
    )
  where
    over : Bool
    over = leb (agents s) (first_over s)

    gain : Bool
    gain = leb (leaving s) (entering s)

    shared : Bool
    shared = eqb (losses s) 0 || ltb 0 (consumed s)

-- the plants with 10 or 13
pub cover_between : (s : Sheet) → Between 10 13 (cover_verdict s)
unfolding cover_verdict
cover_between s =
    first_between 10 13 (refused_unless enough uncovered 0 ∷ refused_unless runs overrun 0 ∷ []) (
      unless_between 10 13 enough uncovered 0 (omega arith) (omega arith),
      (
        unless_between 10 13 runs overrun 0 (omega arith) (omega arith),
        tt,
      ),
    )
  where
    enough : Bool
    enough = leb (dispatch_demand s) (sum (plants s) (at s.available))

    runs : Bool
    runs = leb (sum (plants s) (at s.must_run)) (dispatch_demand s)

-- the room with 11
pub room_between : (s : Sheet) (l : Lent) → Between 11 11 (room_verdict s l)
unfolding room_verdict
room_between s l =
    unless_between 11 11
    (leb (cells_per_agent * agents s) (length l.figures) && leb (agents s) (length l.money)
    && leb (plants s) (length l.schedule) && leb (contracts s) (length l.amounts))
    no_room
    0
    (omega arith)
    (omega arith)

-- ---- the number tells the stage: reading, balance, plants and room, in this order
abbrev pub in_order : (reads balance cover room : Verdict) → Verdict
in_order r b c m = or_else r (or_else b (or_else c (or_else m (Ok tt))))

-- 0, or one of 1 to 11, or 13
pub listed : (r b c m : Verdict)
    → Between 1 6 r
    → Between 7 9 b
    → (c ≡ Ok tt) ⊎ ((c ≡ refused uncovered 0) ⊎ (c ≡ refused overrun 0))
    → Between 11 11 m
    → let n = number_of (in_order r b c m) in (n ≡ 0) ⊎ (((1 ≤ n) × (n ≤ 11)) ⊎ (n ≡ 13))
listed (Err q) b c m hr hb hc hm = inr (inl (omega arith, omega arith))
listed (Ok _) (Err q) c m hr hb hc hm = inr (inl (omega arith, omega arith))
listed (Ok _) (Ok _) c m hr hb (inr (inl e)) hm = rw e (inr (inl (omega arith, omega arith)))
listed (Ok _) (Ok _) c m hr hb (inr (inr e)) hm = rw e (inr (inr refl))
listed (Ok _) (Ok _) c (Ok _) hr hb (inl e) hm = rw e (inl refl)
listed (Ok _) (Ok _) c (Err q) hr hb (inl e) hm = rw e (inr (inl (omega arith, omega arith)))

-- 0 or above 9: reading and balance were passed
pub early_passed : (r b c m : Verdict)
    → Between 1 6 r
    → Between 7 9 b
    → (number_of (in_order r b c m) ≡ 0) ⊎ (9 < number_of (in_order r b c m))
    → (r ≡ Ok tt) × (b ≡ Ok tt)
early_passed (Ok _) (Ok _) c m hr hb h = (refl, refl)
early_passed (Err q) b c m hr hb (inl e) = absurd (omega arith)
early_passed (Err q) b c m hr hb (inr e) = absurd (omega arith)
early_passed (Ok _) (Err q) c m hr hb (inl e) = absurd (omega arith)
early_passed (Ok _) (Err q) c m hr hb (inr e) = absurd (omega arith)

-- and the other way
pub late_number : (c m : Verdict) → Between 10 13 c → Between 11 11 m
    → (number_of (in_order (Ok tt) (Ok tt) c m) ≡ 0) ⊎ (9 < number_of (in_order (Ok tt) (Ok tt) c m))
late_number (Ok _) (Ok _) hc hm = inl refl
late_number (Ok _) (Err q) hc hm = inr (omega arith)
late_number (Err q) m hc hm = inr (omega arith)

-- with the plants passed the number is neither 10 nor 13
pub not_uncovered : (m : Verdict)
    → Between 11 11 m
    → (n : ℕ)
    → number_of (in_order (Ok tt) (Ok tt) (Ok tt) m) ≡ n
    → (n ≡ 10) ⊎ (n ≡ 13)
    → ⊥
not_uncovered (Ok _) hm n e (inl h) = omega arith
not_uncovered (Ok _) hm n e (inr h) = omega arith
not_uncovered (Err q) hm n e (inl h) = omega arith
not_uncovered (Err q) hm n e (inr h) = omega arith
