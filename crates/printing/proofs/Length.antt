-- A page is short where its numbers are: at most 35 bytes and 78 more an agent. A number below 10 ^ m has at most m digits, so a line
-- has 2 for its agent, 1 for the kind, 10 for each of five figures and 17 for the money, with a byte behind each. Assumes nothing.
use Prim.Native.Nat.{ℕ, zero, suc, ◌+◌, ◌*◌, ◌/◌, ◌%◌, ◌^◌, ◌≤◌, ◌<◌}
use mathlib.Core.Path.{◌≡◌}
use mathlib.Core.Bool.{Bool, true, false, cond}
use mathlib.Core.List.{List, [], ◌∷◌}
use native.Mathlib.Omega.{arith}
use borrow.Author.Tests.{lt-ltb, eq-eqb, ne_eqb}
use lib.Dec.{ltb}
use lib.IntN.{ℤ, pos, nat_abs}
use lib.ListN.{length, get_or}
use Rattle.sums.specs.Lists.{at}
use Rattle.hour.specs.declared.Summary.{Summary}
use Rattle.printing.specs.Text.{spell, decimal, minus, signed, spaced, lines_to}
use Rattle.printing.specs.Page.{line_of, hour_text, refused_text, page_of}
use Rattle.printing.proofs.Digits.{tenth}

either : (b : Bool) (x y : List ℕ) (m : ℕ) → length x ≤ m → length y ≤ m → length (cond b x y) ≤ m
either true x y m p q = p
either false x y m p q = q

-- ---- numbers: below 10 ^ (m + 1)
spell_within : (k m n : ℕ) (rest : List ℕ) → n < 10 ^ (m + 1) → length (spell k n rest) ≤ m + 1 + length rest
unfolding spell
spell_within zero m n rest h = omega arith
spell_within (suc k) zero n rest h = let l : n < 10 = h in rw (lt-ltb n 10 l) (omega arith)
spell_within (suc k) (suc m) n rest h =
    either (ltb n 10) ((48 + n % 10) ∷ rest) (spell k (n / 10) ((48 + n % 10) ∷ rest)) (suc m + 1 + length rest)
    (omega arith)
    (omega (arith, spell_within k m (n / 10) ((48 + n % 10) ∷ rest) (tenth m n h)))

-- of any number
pub spell_most : (k n : ℕ) (rest : List ℕ) → length (spell k n rest) ≤ k + 1 + length rest
unfolding spell
spell_most zero n rest = omega arith
spell_most (suc k) n rest =
    either (ltb n 10) ((48 + n % 10) ∷ rest) (spell k (n / 10) ((48 + n % 10) ∷ rest)) (suc k + 1 + length rest)
    (omega arith)
    (omega (arith, spell_most k (n / 10) ((48 + n % 10) ∷ rest)))

decimal_within : (m n : ℕ) (rest : List ℕ) → n < 10 ^ (m + 1) → length (decimal n rest) ≤ m + 1 + length rest
decimal_within m n rest h = spell_within 19 m n rest h

signed_within : (m : ℕ) (x : ℤ) (rest : List ℕ) → nat_abs x < 10 ^ (m + 1) → length (signed x rest) ≤ m + 2 + length rest
unfolding signed
signed_within m x rest h =
    either (minus x) (45 ∷ decimal (nat_abs x) rest) (decimal (nat_abs x) rest) (m + 2 + length rest)
    (omega (arith, decimal_within m (nat_abs x) rest h))
    (omega (arith, decimal_within m (nat_abs x) rest h))

spaced_within : (m n : ℕ) (ns rest : List ℕ) → n < 10 ^ (m + 1)
    → length (spaced (n ∷ ns) rest) ≤ m + 2 + length (spaced ns rest)
unfolding spaced
spaced_within m n ns rest h = omega (arith, decimal_within m n (32 ∷ spaced ns rest) h)

spaced_none : (rest : List ℕ) → length (spaced [] rest) ≤ length rest
unfolding spaced
spaced_none rest = omega arith

-- ---- lines
pub record ShortLine (kinds figures : List ℕ) (money : List ℤ) (a : ℕ) : Type 0 where
  pub agent : a < 10 ^ (1 + 1)
  pub kind : at kinds a < 10 ^ (0 + 1)
  pub own : at figures (6 * a + 1) < 10 ^ (9 + 1)
  pub import : at figures (6 * a + 2) < 10 ^ (9 + 1)
  pub contracted : at figures (6 * a + 3) < 10 ^ (9 + 1)
  pub bought : at figures (6 * a + 4) < 10 ^ (9 + 1)
  pub sold : at figures (6 * a + 5) < 10 ^ (9 + 1)
  pub owed : nat_abs (get_or money a (pos 0)) < 10 ^ (15 + 1)

module _ (kinds figures : List ℕ) (money : List ℤ) where
  line_short : (a : ℕ) (rest : List ℕ)
      → ShortLine kinds figures money a
      → length (line_of kinds figures money a rest) ≤ 78 + length rest
  unfolding line_of
  line_short a rest s =
      let behind = signed (get_or money a (pos 0)) (10 ∷ rest) in
      let f : ℕ → ℕ = λ j. at figures (6 * a + j) in
      omega (
        arith,
        spaced_within 1 a (at kinds a ∷ f 1 ∷ f 2 ∷ f 3 ∷ f 4 ∷ f 5 ∷ []) behind s.agent,
        spaced_within 0 (at kinds a) (f 1 ∷ f 2 ∷ f 3 ∷ f 4 ∷ f 5 ∷ []) behind s.kind,
        spaced_within 9 (f 1) (f 2 ∷ f 3 ∷ f 4 ∷ f 5 ∷ []) behind s.own,
        spaced_within 9 (f 2) (f 3 ∷ f 4 ∷ f 5 ∷ []) behind s.import,
        spaced_within 9 (f 3) (f 4 ∷ f 5 ∷ []) behind s.contracted,
        spaced_within 9 (f 4) (f 5 ∷ []) behind s.bought,
        spaced_within 9 (f 5) [] behind s.sold,
        spaced_none behind,
        signed_within 15 (get_or money a (pos 0)) (10 ∷ rest) s.owed,
      )

  lines_short : (n : ℕ) (rest : List ℕ) → ((a : ℕ) → a < n → ShortLine kinds figures money a)
      → length (lines_to (line_of kinds figures money) n rest) ≤ 78 * n + length rest
  unfolding lines_to
  lines_short zero rest s = omega arith
  lines_short (suc n) rest s =
      omega (
        arith,
        lines_short n (line_of kinds figures money n rest) (λ a l. s a (omega arith)),
        line_short n rest (s n (omega arith)),
      )

-- ---- the page
pub record ShortPage (r : Summary) (kinds figures : List ℕ) (money : List ℤ) : Type 0 where
  pub price : r.price < 10 ^ (6 + 1)
  pub demand : r.demand < 10 ^ (9 + 1)
  pub losses : r.losses < 10 ^ (9 + 1)
  pub lines : (a : ℕ) → a < length kinds → ShortLine kinds figures money a

hour_short : (r : Summary) (kinds figures : List ℕ) (money : List ℤ) → ShortPage r kinds figures money
    → length (hour_text r kinds figures money) ≤ 35 + 78 * length kinds
unfolding hour_text
hour_short r kinds figures money s =
    let lines = lines_to (line_of kinds figures money) (length kinds) [] in
    let behind = decimal r.losses (10 ∷ lines) in
    omega (
      arith,
      spaced_within 6 r.price (r.demand ∷ []) behind s.price,
      spaced_within 9 r.demand [] behind s.demand,
      spaced_none behind,
      decimal_within 9 r.losses (10 ∷ lines) s.losses,
      lines_short kinds figures money (length kinds) [] s.lines,
    )

-- a refusal's, whatever its number and place
refused_short : (r : Summary) → length (refused_text r) ≤ 50
unfolding refused_text spaced
refused_short r =
    let place = decimal r.place (10 ∷ []) in
    omega (arith, spell_most 19 r.number (32 ∷ place), spell_most 19 r.place (10 ∷ []))

pub refused_page : (r : Summary) (kinds figures : List ℕ) (money : List ℤ)
    → (r.number ≡ 0 → ⊥)
    → length (page_of r kinds figures money) ≤ 50
unfolding page_of
refused_page r kinds figures money h = rw (ne_eqb r.number 0 h) (refused_short r)

pub hour_page : (r : Summary) (kinds figures : List ℕ) (money : List ℤ)
    → r.number ≡ 0
    → ShortPage r kinds figures money
    → length (page_of r kinds figures money) ≤ 35 + 78 * length kinds
unfolding page_of
hour_page r kinds figures money e s = rw (eq-eqb r.number 0 e) (hour_short r kinds figures money s)
