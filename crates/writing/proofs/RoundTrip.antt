-- The theorems of writing, over all inputs: what is written is read back and given to whoever asks for a row, what was read is
-- written back, and the promise of `write` tells its outcome. Assumes nothing.
use Rattle.std.specs.Prelude.{Result}
use Rattle.std.specs.Prelude.{Ok, Err}
use Prim.Native.Nat.{ℕ, ◌+◌, ◌*◌, ◌≤◌, ◌<◌}
use native.Mathlib.Omega.{arith}
use mathlib.Core.Path.{◌≡◌, refl, ap, sym, ◌∙◌}
use mathlib.Core.List.{List}
use lib.ListN.{length, take}
use Rattle.sums.specs.Lists.{list_to, Filled}
use Rattle.sums.proofs.Fill.{filled_front, filled_unique, filled_same}
use Rattle.refusals.specs.declared.Refusal.{Refusal}
use Rattle.refusals.specs.Refusals.{Verdict}
use Rattle.octets.specs.Bytes.{byte_of, bytes_of}
use Rattle.octets.proofs.Trip.{Bytes}
use Rattle.sheet.specs.Reading.{trailer_start, sheet_length, read_of}
use Rattle.limits.specs.declared.Agent.{Agent}
use Rattle.limits.specs.declared.Boundary.{Boundary}
use Rattle.limits.specs.declared.Plant.{Plant}
use Rattle.limits.specs.declared.Contract.{Contract}
use Rattle.sheet.specs.Asking.{agent_fields, boundary_fields, plant_fields, contract_fields, rows_in, fields_at, row_in}
use Rattle.sheet.specs.declared.Counts.{Counts}
use Rattle.sheet.proofs.Accepted.{accepted_whole, whole_accepted}
use Rattle.sheet.proofs.Sections.{row_there}
use Rattle.writing.specs.Numbers.{Numbers, counts_in, agent_in, boundary_in, plant_in, contract_in, numbers_of}
use Rattle.writing.specs.Words.{sheet_row, sheet_of}
use Rattle.writing.specs.Judged.{write_verdict, writing, Written}
use Rattle.writing.proofs.Good.{fine_good, fine_room, good_fine}
use Rattle.writing.proofs.Same.{Same, same_numbers}
use Rattle.writing.proofs.There.{there_same, there_whole}
use Rattle.writing.proofs.Back.{back_counts, back_good, back_sheet}

-- these bytes are an accepted sheet of just these lists
pub record Holds (s : List ℕ) (n : Numbers) : Type 0 where
  -- they are what the definition of the sheet says,
  pub sheet : s ≡ sheet_of n
  -- reading accepts them, with the lists' counts,
  pub accepted : read_of s ≡ Ok (counts_in n)
  -- row i of each section is row i of its list,
  pub rows : Same s (counts_in n) n
  -- and the numbers taken from them are the lists
  pub numbers : numbers_of s (counts_in n) ≡ n

-- THERE. Lists that writing takes, whatever the room, are given back by reading their sheet.
pub there : (n : Numbers) (room : ℕ) → write_verdict n room ≡ Ok tt → Holds (sheet_of n) n
there n room e =
    let g = fine_good n room e in
    record {
      sheet = refl;
      accepted = whole_accepted (sheet_of n) (counts_in n) (there_whole n g);
      rows = there_same n g;
      numbers = sym (same_numbers (sheet_of n) (counts_in n) n (there_same n g));
    }

-- BACK. The numbers of an accepted sheet are taken by writing where there is room for the sheet, and their sheet is that sheet,
-- byte for byte.
pub record Again (s : List ℕ) (c : Counts) : Type 0 where
  pub counts : counts_in (numbers_of s c) ≡ c
  pub taken : (room : ℕ) → length s ≤ room → write_verdict (numbers_of s c) room ≡ Ok tt
  pub sheet : sheet_of (numbers_of s c) ≡ s

pub back : (s : List ℕ) (c : Counts) → Bytes s → read_of s ≡ Ok c → Again s c
back s c by e =
    let w = accepted_whole s c e in
    record {
      counts = back_counts s c w;
      taken = λ room h.
          let l = w.long in
          let k : sheet_length (counts_in (numbers_of s c)) ≡ sheet_length c = ap sheet_length (back_counts s c w) in
          good_fine (numbers_of s c) room (back_good s c w) (omega arith);
      sheet = back_sheet s c w by;
    }

-- ---- of what `write` itself promises
pub done_says : (v : Verdict) (k m : ℕ) → Ok k ≡ writing v m → (v ≡ Ok tt) × (k ≡ m)
done_says (Ok tt) k m e = (refl, cc)
done_says (Err r) k m e = let z : ◌≡◌ {A = ℕ} 0 1 = cc in absurd (omega arith)

refused_says : (v : Verdict) (r : Refusal) (m : ℕ) → Err r ≡ writing v m → v ≡ Err r
refused_says (Ok tt) r m e = let z : ◌≡◌ {A = ℕ} 0 1 = cc in absurd (omega arith)
refused_says (Err q) r m e = cc

-- Where it answers a length, the lent bytes up to that length are an accepted sheet of the lists given.
pub written_there : (n : Numbers) (before after : List ℕ) (k : ℕ)
    → Written n before (Ok k) after
    → Holds (take k after) n
unfolding sheet_of bytes_of
written_there n before after k w =
    let d = done_says (write_verdict n (length before)) k (sheet_length (counts_in n)) w.answer in
    let l = fine_room n (length before) d.0 in
    let m = sheet_length (counts_in n) in
    let q : m ≡ 16 * (trailer_start (counts_in n) + 2) = omega arith in
    let f : Filled 0 before after m (byte_of (sheet_row n)) = rw d.0 at w.bytes in
    let e : take k after ≡ sheet_of n
    = ap (λ (i : ℕ). take i after) d.1 ∙ filled_front 0 before after m (byte_of (sheet_row n)) l f
    ∙ ap (list_to (byte_of (sheet_row n))) q in
    rw e (there n (length before) d.0)

-- ASKED. `ask_row` of these bytes (its own answer, as it promises it) gives of each section and row the numbers listed.
pub record Asked (s : List ℕ) (n : Numbers) : Type 0 where
  pub agent : (i : ℕ)
      → i < (counts_in n).agents
      → row_in (read_of s) s 1 i ≡ Ok (agent_fields (agent_in n.agents i))
  pub boundary : (i : ℕ) → i < (counts_in n).boundaries
      → row_in (read_of s) s 2 i ≡ Ok (boundary_fields (boundary_in n.boundaries i))
  pub plant : (i : ℕ)
      → i < (counts_in n).plants
      → row_in (read_of s) s 3 i ≡ Ok (plant_fields (plant_in n.plants i))
  pub contract : (i : ℕ) → i < (counts_in n).contracts
      → row_in (read_of s) s 4 i ≡ Ok (contract_fields (contract_in n.contracts i))

asked : (s : List ℕ) (n : Numbers) → Holds s n → Asked s n
unfolding fields_at rows_in
asked s n h =
    let there = row_there s (counts_in n) h.accepted in
    let same = h.rows in
    record {
      agent = λ i l. there 1 i refl l ∙ ap (λ (a : Agent). Ok (agent_fields a)) (same.agent i l);
      boundary = λ i l. there 2 i refl l ∙ ap (λ (b : Boundary). Ok (boundary_fields b)) (same.boundary i l);
      plant = λ i l. there 3 i refl l ∙ ap (λ (p : Plant). Ok (plant_fields p)) (same.plant i l);
      contract = λ i l. there 4 i refl l ∙ ap (λ (k : Contract). Ok (contract_fields k)) (same.contract i l);
    }

-- Where `write` answers a length, the lent bytes up to that length, asked for a row, give the numbers listed.
pub written_asked : (n : Numbers) (before after : List ℕ) (k : ℕ)
    → Written n before (Ok k) after
    → Asked (take k after) n
written_asked n before after k w = asked (take k after) n (written_there n before after k w)

-- Given the numbers of an accepted sheet and room for it, it answers that sheet's length, and the lent bytes up to there are that sheet.
pub written_back : (s : List ℕ) (c : Counts) (before after : List ℕ) (r : Result ℕ Refusal)
    → Bytes s
    → read_of s ≡ Ok c
    → length s ≤ length before → Written (numbers_of s c) before r after → (r ≡ Ok (length s))
    × (take (length s) after ≡ s)
written_back s c before after r by e l w =
    let b = back s c by e in
    let k : sheet_length (counts_in (numbers_of s c)) ≡ length s = ap sheet_length b.counts
    ∙ sym (accepted_whole s c e).long in
    let v : r ≡ Ok (length s)
    = w.answer ∙ ap (λ (x : Verdict). writing x (sheet_length (counts_in (numbers_of s c)))) (b.taken (length before) l)
    ∙ ap Ok k in
    (v, (written_there (numbers_of s c) before after (length s) (rw v at w)).sheet ∙ b.sheet)

-- Where it refuses, nothing is written.
pub written_refused : (n : Numbers) (before after : List ℕ) (r : Refusal)
    → Written n before (Err r) after
    → after ≡ before
written_refused n before after r w =
    let e = refused_says (write_verdict n (length before)) r (sheet_length (counts_in n)) w.answer in
    filled_same 0 before after (byte_of (sheet_row n)) (rw e at w.bytes)

-- Two outcomes that meet the promise are equal, answer and bytes.
pub written_unique : (n : Numbers) (before after after' : List ℕ) (r r' : Result ℕ Refusal)
    → Written n before r after
    → Written n before r' after'
    → (r ≡ r') × (after ≡ after')
written_unique n before after after' r r' w w' =
    (w.answer ∙ sym w'.answer, filled_unique 0 before after after' _ (byte_of (sheet_row n)) w.bytes w'.bytes)
