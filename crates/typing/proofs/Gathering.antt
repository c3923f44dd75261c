-- Laws of a section that is gathered line by line: one row more, and the list that stands at the front in the end. Assumes nothing.
use Prim.Native.Nat.{ℕ, ◌+◌, ◌-◌, ◌≤◌, ◌<◌}
use mathlib.Core.Path.{◌≡◌, ap, ap₂, sym, ◌∙◌}
use mathlib.Core.Bool.{Bool, true, false, cond}
use mathlib.Core.List.{List, [], ◌∷◌, ◌++◌, append-nil}
use native.Mathlib.Omega.{arith}
use native.Mathlib.Nat.{le_refl}
use Rattle.std.proofs.lemmas.List.{take_all}
use borrow.Author.Tests.{eq-eqb, ne_eqb}
use lib.Dec.{eqb}
use lib.ListN.{length, take, drop, get_or, length-append}
use lib.Seq.{paste, take-paste, drop-paste, get_or-take, get_or-drop, drop-drop, length-take-le}
use Rattle.sums.specs.Lists.{at, Filled}
use Rattle.text.specs.Lines.{over, read_line}
use Rattle.text.proofs.Steps.{line_seven}
use Rattle.typing.specs.Rows.{wants, gather_line}

-- a section's rows have at most five numbers
pub wants_few : (k : ℕ) → wants k ≤ 5
unfolding wants
wants_few k = go (eqb k 1) (eqb k 2) (eqb k 3) (eqb k 4)
  where
    go : (a b c d : Bool) → cond a 1 (cond b 4 (cond c 5 (cond d 5 0))) ≤ 5
    go true b c d = omega arith
    go false true c d = omega arith
    go false false true d = omega arith
    go false false false true = omega arith
    go false false false false = omega arith

pub gather_take : (k : ℕ) (ns s : List ℕ) → (read_line s).word ≡ k → gather_line k ns s ≡ ns ++ take (wants k) (read_line s).numbers
unfolding gather_line
gather_take k ns s e = rw (eq-eqb (read_line s).word k e)

pub gather_skip : (k : ℕ) (ns s : List ℕ) → ((read_line s).word ≡ k → ⊥) → gather_line k ns s ≡ ns
unfolding gather_line
gather_skip k ns s e = rw (ne_eqb (read_line s).word k e) (append-nil ns)

pub row_long : (k : ℕ) (s : List ℕ) → length (take (wants k) (read_line s).numbers) ≡ wants k
row_long k s =
    let f = wants_few k in
    let v = line_seven s in
    length-take-le (wants k) (read_line s).numbers (omega arith)

-- there is room for the row where there is room for the list with it
pub gather_room : (k n : ℕ) (out s : List ℕ) → n ≤ length out → (read_line s).word ≡ k
    → length (gather_line k (take n out) s) ≤ length out → n + wants k ≤ length out
gather_room k n out s h e l =
    let a : length (gather_line k (take n out) s) ≡ length (take n out) + length (take (wants k) (read_line s).numbers) =
    ap (length {A = ℕ}) (gather_take k (take n out) s e) ∙ length-append (take n out) (take (wants k) (read_line s).numbers) in
    let b : length (take n out) ≡ n = length-take-le n out h in
    let d = row_long k s in
    omega arith

-- the front of a list pasted, where that is what there is
pub paste_front : (out xs : List ℕ) (k n : ℕ) → n ≤ length xs → paste out k (take n xs) (length (take n xs)) ≡ paste out k xs n
paste_front out xs k n h =
    let e = take_all (length (take n xs)) (take n xs) (le_refl _) in
    ap₂ (λ (l : List ℕ) (j : ℕ). take k out ++ l ++ drop (k + j) out) e (length-take-le n xs h)

-- the row put at n
pub gather_put : (k n : ℕ) (out s : List ℕ) → n ≤ length out → (read_line s).word ≡ k
    → take (n + wants k) (paste out n (read_line s).numbers (wants k)) ≡ gather_line k (take n out) s
gather_put k n out s h e =
    let f = wants_few k in
    let v = line_seven s in
    take-paste out n (read_line s).numbers (wants k) h (omega arith) ∙ sym (gather_take k (take n out) s e)

pub gather_rest : (k n : ℕ) (out s : List ℕ) → n ≤ length out
    → drop (n + wants k) (paste out n (read_line s).numbers (wants k)) ≡ drop (n + wants k) out
gather_rest k n out s h =
    let f = wants_few k in
    let v = line_seven s in
    drop-paste out n (read_line s).numbers (wants k) h (omega arith)

gather_grows : (k : ℕ) (ns s : List ℕ) → length ns ≤ length (gather_line k ns s)
unfolding gather_line
gather_grows k ns s =
    let e = length-append ns (cond (eqb (read_line s).word k) (take (wants k) (read_line s).numbers) []) in
    omega (arith, e)

pub over_grows : (k : ℕ) (ns : List ℕ) (ls : List (List ℕ)) → length ns ≤ length (over (gather_line k) ns ls)
unfolding over
over_grows k ns [] = omega arith
over_grows k ns (x ∷ xs) =
    let a = gather_grows k ns x in
    let b = over_grows k (gather_line k ns x) xs in
    omega (arith, a, b)

-- ---- the list at the front
pub drop_later : (a b : List ℕ) (k r : ℕ) → k ≤ r → drop k a ≡ drop k b → drop r a ≡ drop r b
drop_later a b k r h e =
    let i : k + (r - k) ≡ r = omega arith in
    ap (λ (n : ℕ). drop n a) (sym i) ∙ sym (drop-drop (r - k) k a) ∙ ap (drop (r - k)) e ∙ drop-drop (r - k) k b
    ∙ ap (λ (n : ℕ). drop n b) i

pub front_filled : (l out out₀ : List ℕ) (k : ℕ) → l ≡ take k out → k ≤ length out → drop k out ≡ drop k out₀
    → length out ≡ length out₀ → Filled 0 out₀ out (length l) (at l)
front_filled l out out₀ k e h d n =
    let q : length l ≡ k = ap (length {A = ℕ}) e ∙ length-take-le k out h in
    record {
      done = λ i m. let z : i < k = omega arith in sym (get_or-take k out i 0 z) ∙ ap (λ (x : List ℕ). get_or x i 0) (sym e);
      kept = λ i m.
          let j : k + (i - k) ≡ i = omega arith in
          ap (λ (x : ℕ). get_or out x 0) (sym j) ∙ sym (get_or-drop k out (i - k) 0) ∙ ap (λ (x : List ℕ). get_or x (i - k) 0) d
          ∙ get_or-drop k out₀ (i - k) 0 ∙ ap (λ (x : ℕ). get_or out₀ x 0) j;
      long = n;
    }
