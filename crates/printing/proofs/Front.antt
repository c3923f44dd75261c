-- A page line by line. Each piece of it is a text that stands before whatever follows it (`Stands`), and such pieces put together are
-- one again. Assumes nothing.
use Prim.Native.Nat.{ℕ, zero, suc, ◌+◌, ◌/◌, ◌%◌, ◌≤◌, ◌<◌}
use mathlib.Core.Path.{◌≡◌, refl, ap, sym, ◌∙◌}
use mathlib.Core.Bool.{Bool, true, false, cond}
use mathlib.Core.List.{List, [], ◌∷◌, ◌++◌, append_assoc, append-nil}
use native.Mathlib.Omega.{arith}
use native.Mathlib.Decide.{dec_lt}
use native.Mathlib.Numerals.{add-one}
use lib.Dec.{ltb, eqb}
use lib.IntN.{ℤ, pos, nat_abs}
use lib.ListN.{length, take, get_or, length-append, get_or-append}
use Rattle.std.proofs.lemmas.List.{length-take-le, get_or-take}
use Rattle.sums.specs.Lists.{at, Filled}
use Rattle.sums.proofs.Fill.{filled_count}
use Rattle.hour.specs.declared.Summary.{Summary}
use Rattle.printing.specs.Text.{spell, decimal, minus, signed, spaced, lines_to}
use Rattle.printing.specs.Page.{hour_word, line_numbers, line_of, hour_text, refused_text, page_of}
use Rattle.printing.specs.Put.{hour_head, head_of, lines_in, Appended}
use Rattle.printing.proofs.Text.{lines_same}

abbrev Stands : (List ℕ → List ℕ) → Type 0
Stands f = (rest : List ℕ) → f rest ≡ f [] ++ rest

both : (f g : List ℕ → List ℕ) → Stands f → Stands g → Stands (λ rest. f (g rest))
both f g p q rest =
    p (g rest) ∙ ap (λ (l : List ℕ). f [] ++ l) (q rest) ∙ sym (append_assoc (f []) (g []) rest)
    ∙ ap (λ (l : List ℕ). l ++ rest) (sym (p (g [])))

either : (b : Bool) (f g : List ℕ → List ℕ) → Stands f → Stands g → Stands (λ rest. cond b (f rest) (g rest))
either true f g p q = p
either false f g p q = q

spell_stands : (k n : ℕ) → Stands (spell k n)
unfolding spell
spell_stands zero n = λ rest. refl
spell_stands (suc k) n =
    let byte : List ℕ → List ℕ = λ rest. (48 + n % 10) ∷ rest in
    either (ltb n 10) byte (λ rest. spell k (n / 10) (byte rest)) (λ rest. refl)
    (both (spell k (n / 10)) byte (spell_stands k (n / 10)) (λ rest. refl))

signed_stands : (x : ℤ) → Stands (signed x)
unfolding signed
signed_stands x =
    let n = nat_abs x in
    either (minus x) (λ rest. 45 ∷ decimal n rest) (decimal n)
    (both (λ rest. 45 ∷ rest) (decimal n) (λ rest. refl) (spell_stands 19 n)) (spell_stands 19 n)

spaced_stands : (ns : List ℕ) → Stands (spaced ns)
unfolding spaced
spaced_stands [] = λ rest. refl
spaced_stands (n ∷ ns) =
    both (decimal n) (λ rest. 32 ∷ spaced ns rest) (spell_stands 19 n)
    (both (λ rest. 32 ∷ rest) (spaced ns) (λ rest. refl) (spaced_stands ns))

line_stands : (kinds figures : List ℕ) (money : List ℤ) (a : ℕ) → Stands (line_of kinds figures money a)
unfolding line_of
line_stands kinds figures money a =
    let owed = get_or money a (pos 0) in
    both (spaced (line_numbers kinds figures a)) (λ rest. signed owed (10 ∷ rest))
    (spaced_stands (line_numbers kinds figures a))
    (both (signed owed) (λ rest. 10 ∷ rest) (signed_stands owed) (λ rest. refl))

lines_stand : (g : ℕ → List ℕ → List ℕ) → ((a : ℕ) → Stands (g a)) → (n : ℕ) → Stands (lines_to g n)
unfolding lines_to
lines_stand g h zero = λ rest. refl
lines_stand g h (suc n) = both (lines_to g n) (g n) (lines_stand g h n) (h n)

hour_stands : (r : Summary) (rest : List ℕ)
    → hour_word ++ spaced (r.price ∷ r.demand ∷ []) (decimal r.losses (10 ∷ rest)) ≡ hour_head r ++ rest
unfolding hour_head
hour_stands r =
    let numbers : List ℕ = r.price ∷ r.demand ∷ [] in
    both (λ rest. hour_word ++ rest) (λ rest. spaced numbers (decimal r.losses (10 ∷ rest))) (λ rest. refl)
    (both (spaced numbers) (λ rest. decimal r.losses (10 ∷ rest)) (spaced_stands numbers)
    (both (decimal r.losses) (λ rest. 10 ∷ rest) (spell_stands 19 r.losses) (λ rest. refl)))

module _ (kinds figures : List ℕ) (money : List ℤ) where
  pub lines_next : (a : ℕ)
      → lines_to (line_of kinds figures money) (a + 1) []
      ≡ lines_to (line_of kinds figures money) a [] ++ line_of kinds figures money a []
  unfolding lines_to
  lines_next a =
      ap (λ (n : ℕ). lines_to (line_of kinds figures money) n []) (add-one a)
      ∙ lines_stand (line_of kinds figures money) (line_stands kinds figures money) a (line_of kinds figures money a [])

  pub lines_longer : (a : ℕ)
      → length (lines_to (line_of kinds figures money) (a + 1) [])
      ≡ length (lines_to (line_of kinds figures money) a []) + length (line_of kinds figures money a [])
  lines_longer a =
      ap length (lines_next a)
      ∙ length-append (lines_to (line_of kinds figures money) a []) (line_of kinds figures money a [])

  pub lines_grow : (a n : ℕ)
      → a ≤ n
      → length (lines_to (line_of kinds figures money) a []) ≤ length (lines_to (line_of kinds figures money) n [])
  lines_grow a zero h = let e : a ≡ 0 = omega arith in rw e (omega arith)
  lines_grow a (suc n) h = go (dec_lt n a) (lines_grow a n)
    where
      long : ℕ → ℕ
      long k = length (lines_to (line_of kinds figures money) k [])

      go : Dec (n < a) → (a ≤ n → long a ≤ long n) → long a ≤ long (suc n)
      go (yes l) g = let e : a ≡ suc n = omega arith in rw e (omega arith)
      go (no l) g = omega (arith, g (omega arith), lines_longer n, ap long (add-one n))

  -- THE PAGE IS ITS FIRST LINE AND THOSE BEHIND IT
  pub page_front : (r : Summary)
      → page_of r kinds figures money
      ≡ head_of r ++ lines_to (line_of kinds figures money) (lines_in r (length kinds)) []
  unfolding page_of head_of lines_in hour_text lines_to
  page_front r = go (eqb r.number 0)
    where
      lines : ℕ → List ℕ
      lines n = lines_to (line_of kinds figures money) n []

      go : (b : Bool)
          → cond b (hour_text r kinds figures money) (refused_text r)
          ≡ cond b (hour_head r) (refused_text r) ++ lines (cond b (length kinds) 0)
      go true = hour_stands r (lines (length kinds))
      go false = sym (append-nil (refused_text r))

  -- the lines of the first n agents alone
  pub lines_front : (n : ℕ)
      → n ≤ length kinds
      → lines_to (line_of (take n kinds) figures money) (length (take n kinds)) []
      ≡ lines_to (line_of kinds figures money) n []
  unfolding line_of
  lines_front n h =
      let front = take n kinds in
      ap (λ (k : ℕ). lines_to (line_of front figures money) k []) (length-take-le n kinds h)
      ∙ lines_same (line_of front figures money) (line_of kinds figures money) n [] (λ i l r. rw (get_or-take n kinds i 0 l))

  pub page_text_lem : (r : Summary) (n : ℕ)
      → n ≡ lines_in r (length kinds)
      → page_of r kinds figures money ≡ head_of r ++ lines_to (line_of kinds figures money) n []
  page_text_lem r n e = rw e (page_front r)

  -- of the first n agents alone, of all or of none
  pub page_parts : (r : Summary) (n : ℕ)
      → n ≡ lines_in r (length kinds)
      → n ≤ length kinds
      → page_of r kinds figures money
      ≡ head_of r ++ lines_to (line_of (take n kinds) figures money) (length (take n kinds)) []
  page_parts r n e h = page_text_lem r n e ∙ ap (λ (l : List ℕ). head_of r ++ l) (sym (lines_front n h))

  pub page_size : (r : Summary) (n h k : ℕ)
      → n ≡ lines_in r (length kinds)
      → n ≤ length kinds
      → h ≡ length (head_of r)
      → k ≡ length (lines_to (line_of (take n kinds) figures money) (length (take n kinds)) [])
      → h + k ≡ length (page_of r kinds figures money)
  page_size r n h k e f p q =
      let text = ap length (page_parts r n e f) in
      omega (arith, length-append (head_of r) (lines_to (line_of (take n kinds) figures money) (length (take n kinds)) []))

-- ---- a text put behind the bytes that are filled

-- what stands in front, and what is put behind it
front_is : (front text : List ℕ) (k : ℕ) → k < length front → at (front ++ text) k ≡ at front k
front_is front text k h = get_or-append front text 0 k h

pub behind_none : (start l front text : List ℕ) (k : ℕ)
    → length front ≡ k
    → Filled 0 start l k (at front)
    → Filled 0 start l (k + 0) (at (front ++ text))
behind_none start l front text k e f =
    record {
      done = λ j h. f.done j (omega arith) ∙ sym (front_is front text j (omega arith));
      kept = λ j h. f.kept j (omega arith);
      long = f.long;
    }

pub appended_none : (before : List ℕ) (k : ℕ) → Appended [] k before before
appended_none before k start front e f = behind_none start before front [] k e f

pub appended_more : (t u : List ℕ) (k m : ℕ) (before now after : List ℕ)
    → m ≡ k + length t
    → Appended t k before now
    → Appended u m now after
    → Appended (t ++ u) k before after
appended_more t u k m before now after e p q start front l f =
    let n : k + length (t ++ u) ≡ m + length u = omega (arith, length-append t u) in
    let g : Filled 0 start after (m + length u) (at ((front ++ t) ++ u)) =
    q start (front ++ t) (length-append front t ∙ omega arith)
    (filled_count 0 _ _ _ _ _ (sym e) (p start front l f)) in
    filled_count 0 _ _ _ _ _ (sym n) (rw (append_assoc front t u) at g)
