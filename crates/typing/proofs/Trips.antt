-- What a text makes, of the answer of `make` and the lent bytes: an accepted sheet of the text's numbers, or no byte changed. And BACK:
-- what `texts::write` wrote of a sheet, made where there is room, is that sheet, byte for byte, since the text has just the sheet's
-- numbers and writing gives them back. Assumes nothing.
use Rattle.std.specs.Prelude.{Option, Some, None, is_some, Result, Ok, Err}
use Prim.Native.Nat.{ℕ, ◌%◌, ◌≤◌}
use mathlib.Core.Path.{◌≡◌, refl, ap, ◌∙◌, subst}
use mathlib.Core.Bool.{true, false}
use mathlib.Core.List.{List}
use native.Mathlib.Omega.{arith}
use borrow.Author.Tests.{leb-true, eq-eqb}
use lib.Dec.{leb}
use lib.ListN.{length, take}
use Rattle.sums.specs.Lists.{at, Filled}
use Rattle.sums.specs.Sums.{pick}
use Rattle.sums.proofs.Fill.{filled_same}
use Rattle.refusals.specs.Refusals.{no_room}
use Rattle.refusals.specs.declared.Refusal.{Refusal}
use Rattle.refusals.specs.Refusals.{Verdict}
use Rattle.refusals.proofs.Fine.{fine_test}
use Rattle.octets.specs.Bytes.{byte_of}
use Rattle.octets.proofs.Trip.{Bytes}
use Rattle.sheet.specs.Reading.{read_of}
use Rattle.sheet.specs.declared.Counts.{Counts}
use Rattle.sheet.proofs.Accepted.{Few, few_good}
use Rattle.printing.specs.Page.{printed, Prints}
use Rattle.text.specs.declared.Fault.{Fault}
use Rattle.text.specs.declared.WrongLine.{WrongLine}
use Rattle.text.proofs.Faults.{no_fault}
use Rattle.writing.specs.Numbers.{Numbers, counts_in, numbers_of}
use Rattle.writing.specs.Words.{sheet_row}
use Rattle.writing.specs.Judged.{lists_good, Written}
use Rattle.writing.proofs.RoundTrip.{Holds, written_there, written_back, written_refused}
use Rattle.typing.specs.Rows.{sheet_rooms, scanned, numbers_in}
use Rattle.typing.specs.Text.{sheet_text, text_verdict, text_of}
use Rattle.typing.specs.Made.{made_by, made_of, writing_in, made, MadeInto}
use Rattle.typing.specs.declared.Unmade.{Unmade}
use Rattle.typing.proofs.Counting.{fits}
use Rattle.typing.proofs.Making.{front_is}
use Rattle.typing.proofs.RoundTrip.{text_right, numbers_back}

-- ---- what an answer says: whether a line is wrong, and what writing answered
done_says : (o : Option Fault) (line : ℕ) (w : Result ℕ Refusal) (text : List ℕ) (k : ℕ)
    → Ok k ≡ made_of line o (made_by w text)
    → (is_some o ≡ false) × (w ≡ Ok k)
done_says (Some f) line w text k e = cc
done_says None line (Ok n) text k e = (refl, cc)
done_says None line (Err r) text k e = cc

wrong_says : (o : Option Fault) (line : ℕ) (w : Result ℕ Refusal) (text : List ℕ) (x : WrongLine)
    → Err (Unmade.Wrong x) ≡ made_of line o (made_by w text)
    → is_some o ≡ true
wrong_says (Some f) line w text x e = refl
wrong_says None line (Ok k) text x e = cc
wrong_says None line (Err r) text x e = cc

pub refused_says : (o : Option Fault) (line : ℕ) (w : Result ℕ Refusal) (text : List ℕ) (n : ℕ) (r : Refusal)
    → Err (Unmade.Refused n r) ≡ made_of line o (made_by w text)
    → (is_some o ≡ false) × (w ≡ Err r)
refused_says (Some f) line w text n r e = cc
refused_says None line (Ok k) text n r e = cc
refused_says None line (Err q) text n r e = (refl, cc)

module _ (text before : List ℕ) where
  -- where no line is wrong it is what writing does of the text's numbers
  written_of : {after : List ℕ} {r : Result ℕ Unmade} → is_some (scanned sheet_rooms text).fault ≡ false → MadeInto text before r after
      → Written (numbers_in text) before (writing_in text (length before)) after
  unfolding pick
  written_of f x = record { answer = refl; bytes = rw f at x.bytes }

  answer_of : {after : List ℕ} {r : Result ℕ Unmade} → is_some (scanned sheet_rooms text).fault ≡ false → MadeInto text before r after
      → r ≡ made_by (writing_in text (length before)) text
  unfolding made
  answer_of f x = x.answer ∙ (rw (no_fault _ f))

  -- the text's numbers are whole rows within a sheet's limits: refusal 2 is never given
  pub lists_taken : is_some (scanned sheet_rooms text).fault ≡ false → lists_good (numbers_in text) ≡ true
  lists_taken f =
      let g = fits sheet_rooms text f in
      let n = numbers_in text in
      let few : Few (counts_in n) =
      record {
        agents = omega (arith, g.agents, g.few_agents);
        boundaries = omega (arith, g.boundaries, g.few_boundaries);
        plants = omega (arith, g.plants, g.few_plants);
        contracts = omega (arith, g.contracts, g.few_contracts);
      } in
      rw (
        few_good (counts_in n) few,
        eq-eqb (length n.boundaries % 4) 0 (omega (arith, g.boundaries)),
        eq-eqb (length n.plants % 5) 0 (omega (arith, g.plants)),
        eq-eqb (length n.contracts % 5) 0 (omega (arith, g.contracts)),
      )

  -- MADE. Where `make` answers a length, no line of the text is wrong, and the lent bytes up to that length are an accepted sheet of
  -- just the text's numbers.
  pub made_there : (after : List ℕ) (k : ℕ) → MadeInto text before (Ok k) after
      → (is_some (scanned sheet_rooms text).fault ≡ false) × Holds (take k after) (numbers_in text)
  unfolding made
  made_there after k x =
      let d =
      done_says (scanned sheet_rooms text).fault (scanned sheet_rooms text).line (writing_in text (length before)) text k x.answer in
      let w = written_of d.0 x in
      (d.0, written_there (numbers_in text) before after k (subst (λ (v : Result ℕ Refusal). Written (numbers_in text) before v after) d.1 w))

  -- where a line is wrong, or writing refuses, no byte is changed
  pub wrong_untouched : (after : List ℕ) (w : WrongLine) → MadeInto text before (Err (Unmade.Wrong w)) after → after ≡ before
  unfolding made pick
  wrong_untouched after w x =
      let t = wrong_says (scanned sheet_rooms text).fault (scanned sheet_rooms text).line (writing_in text (length before)) text w x.answer in
      filled_same 0 before after (byte_of (sheet_row (numbers_in text))) (rw t at x.bytes)

  pub refused_untouched : (after : List ℕ) (n : ℕ) (r : Refusal) → MadeInto text before (Err (Unmade.Refused n r)) after → after ≡ before
  unfolding made
  refused_untouched after n r x =
      let d =
      refused_says (scanned sheet_rooms text).fault (scanned sheet_rooms text).line (writing_in text (length before)) text n r
      x.answer in
      written_refused (numbers_in text) before after r
      (subst (λ (v : Result ℕ Refusal). Written (numbers_in text) before v after) d.1 (written_of d.0 x))

-- ---- back
done_printed : (v : Verdict) (n m : ℕ) → Ok n ≡ printed v m → (v ≡ Ok tt) × (n ≡ m)
done_printed (Ok tt) n m e = (refl, cc)
done_printed (Err q) n m e = let z : ◌≡◌ {A = ℕ} 0 1 = cc in absurd (omega arith)

module _ (s : List ℕ) (by : Bytes s) (out out' : List ℕ) (r : Result ℕ Unmade) (room : length s ≤ length out) where
  -- the text of an accepted sheet makes the sheet
  sheet_made : (c : Counts) → read_of s ≡ Ok c → MadeInto (sheet_text s c) out r out'
      → (r ≡ Ok (length s)) × (take (length s) out' ≡ s)
  sheet_made c e x =
      let t = sheet_text s c in
      let f = text_right s by c e in
      let w = writing_in t (length out) in
      let y : Written (numbers_of s c) out w out' =
      subst (λ (n : Numbers). Written n out w out') (numbers_back s by c e) (written_of t out f x) in
      let b = written_back s c out out' w by e room y in
      (answer_of t out f x ∙ ap (λ (v : Result ℕ Refusal). made_by v t) b.0, b.1)

  -- BACK. Where `texts::write` answers a length, and the text up to that length is made into bytes that have room for the sheet, the
  -- answer is the sheet's length, and the bytes up to there are the sheet.
  pub text_back : (before after : List ℕ) (n : ℕ)
      → Prints (text_verdict (read_of s) s (length before)) (text_of (read_of s) s) before (Ok n) after
      → MadeInto (take n after) out r out'
      → (r ≡ Ok (length s)) × (take (length s) out' ≡ s)
  text_back before after n p x = go (read_of s) refl p
    where
      go : (q : Result Counts Refusal) → read_of s ≡ q → Prints (text_verdict q s (length before)) (text_of q s) before (Ok n) after
          → (r ≡ Ok (length s)) × (take (length s) out' ≡ s)
      go (Err q) e y = let z : ◌≡◌ {A = ℕ} 0 1 = let a = y.answer in cc in absurd (omega arith)
      go (Ok c) e y =
          let t = sheet_text s c in
          let d = done_printed (text_verdict (Ok c) s (length before)) n (length t) y.answer in
          let l = leb-true (length t) (length before) (fine_test (leb (length t) (length before)) no_room 0 d.0) in
          let f : Filled 0 before after (length t) (at t) = rw d.0 at y.bytes in
          let g : take n after ≡ t = front_is before after t n d.1 (omega (arith, l, d.1)) f in
          sheet_made c e (subst (λ (u : List ℕ). MadeInto u out r out') g x)
