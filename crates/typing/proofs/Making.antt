-- What making promises, from its parts and back: a line is wrong, or it is what writing answered of the text's numbers. Assumes nothing.
use Rattle.std.specs.Prelude.{Some, is_some, Result, Err}
use Rattle.text.specs.declared.Fault.{Fault}
use Rattle.text.proofs.Faults.{no_fault}
use Rattle.refusals.specs.declared.Refusal.{Refusal}
use Prim.Native.Nat.{ℕ, ◌*◌, ◌≤◌}
use mathlib.Core.Path.{◌≡◌, refl, ap, sym, ◌∙◌, subst}
use mathlib.Core.Bool.{false, not}
use mathlib.Core.List.{List}
use native.Mathlib.Omega.{arith}
use lib.ListN.{length, take}
use Rattle.sums.specs.Lists.{at, Filled}
use Rattle.sums.specs.Sums.{pick}
use Rattle.sums.proofs.Lists.{list_to_is}
use Rattle.sums.proofs.Fill.{filled_none, filled_count, filled_front}
use Rattle.sheet.specs.declared.Counts.{Counts}
use Rattle.writing.specs.Numbers.{Numbers, numbers, counts_in}
use Rattle.writing.specs.Judged.{Written}
use Rattle.typing.specs.Rows.{sheet_rooms, scanned, listed, numbers_in}
use Rattle.typing.specs.Read.{ReadInto}
use Rattle.typing.specs.Made.{made_by, made, MadeInto}
use Rattle.typing.specs.Steps.{Fronts}
use Rattle.typing.specs.declared.Scan.{Scan}
use Rattle.typing.specs.declared.Unmade.{Unmade}
use Rattle.typing.proofs.Counting.{fits}
use Rattle.typing.proofs.Reading.{all_cells_lem}

-- a list that stands at the front
pub front_is : (before after l : List ℕ) (n : ℕ)
    → n ≡ length l
    → n ≤ length before
    → Filled 0 before after (length l) (at l)
    → take n after ≡ l
front_is before after l n e h f =
    filled_front 0 before after n (at l) h (filled_count 0 _ _ _ _ _ (sym e) f) ∙ sym (list_to_is 0 (at l) n l (sym e) (λ i m. refl))

module _ (text before : List ℕ) where
  -- a line is wrong
  pub wrong_made : (j : Scan) (f : Fault) → j ≡ scanned sheet_rooms text → j.fault ≡ Some f
      → MadeInto text before (Err (Unmade.Wrong (record { line = j.line; fault = f }))) before
  unfolding made pick
  wrong_made j f e h =
      let g : (scanned sheet_rooms text).fault ≡ Some f = ap (λ (k : Scan). k.fault) (sym e) ∙ h in
      record {
        answer = ap (λ (k : Scan). Err (Unmade.Wrong (record { line = k.line; fault = f }))) e ∙ (rw g);
        bytes = rw g (filled_none 0 before _);
      }

  -- no line is
  pub text_made : (w : Result ℕ Refusal) (after : List ℕ) → is_some (scanned sheet_rooms text).fault ≡ false
      → Written (numbers_in text) before w after → MadeInto text before (made_by w text) after
  unfolding made pick
  text_made w after f x =
      record { answer = ap (λ (v : Result ℕ Refusal). made_by v text) x.answer ∙ (rw (no_fault _ f)); bytes = rw f x.bytes }

  -- from the lists that were read
  pub fronts_made : {after : List ℕ} {w : Result ℕ Refusal} {r : Result ℕ Unmade} (c : Counts) (n : Numbers) → Fronts text c n
      → Written (numbers (take c.agents n.agents) (take (4 * c.boundaries) n.boundaries) (take (5 * c.plants) n.plants)
      (take (5 * c.contracts) n.contracts))
      before w after
      → r ≡ made_by w text → MadeInto text before r after
  fronts_made {after} {w} {r} c n f x e =
      let same : numbers (take c.agents n.agents) (take (4 * c.boundaries) n.boundaries) (take (5 * c.plants) n.plants)
      (take (5 * c.contracts) n.contracts) ≡ numbers_in text =
      λ i. numbers (f.agents i) (f.boundaries i) (f.plants i) (f.contracts i) in
      subst (λ (q : Result ℕ Unmade). MadeInto text before q after) (sym e)
      (text_made w after f.fine (subst (λ (m : Numbers). Written m before w after) same x))

-- reading leaves the text's numbers at the fronts of lists with the rooms of a sheet
module _ (text : List ℕ) (before after : Numbers) (r : Scan) (rooms : counts_in before ≡ sheet_rooms) (x : ReadInto text before r after)
    (f : is_some r.fault ≡ false) where
  front : (b a l : List ℕ) (n : ℕ)
      → n ≡ length l
      → n ≤ length b
      → Filled 0 b a (pick (not (is_some r.fault)) (length l)) (at l)
      → take n a ≡ l
  front b a l n e h y = front_is b a l n e h (filled_count 0 _ _ _ _ _ (sym (all_cells_lem r l f)) y)

  pub fronts : Fronts text r.counts after
  fronts =
      let m = counts_in before in
      let g = fits m text (ap (λ (j : Scan). is_some j.fault) (sym x.answer) ∙ f) in
      let c : r.counts ≡ (scanned m text).counts = ap (λ (j : Scan). j.counts) x.answer in
      let ca = ap (λ (k : Counts). k.agents) c in
      let cb = ap (λ (k : Counts). k.boundaries) c in
      let cp = ap (λ (k : Counts). k.plants) c in
      let ck = ap (λ (k : Counts). k.contracts) c in
      record {
        fine = ap (λ (k : Counts). is_some (scanned k text).fault) (sym rooms) ∙ ap (λ (j : Scan). is_some j.fault) (sym x.answer) ∙ f;
        few_agents = omega (arith, ca, g.few_agents, x.agents.long);
        few_boundaries = omega (arith, cb, g.few_boundaries, x.boundaries.long);
        few_plants = omega (arith, cp, g.few_plants, x.plants.long);
        few_contracts = omega (arith, ck, g.few_contracts, x.contracts.long);
        agents =
            front before.agents after.agents (listed 1 text) r.counts.agents (omega (arith, ca, g.agents))
            (omega (arith, ca, g.few_agents)) x.agents;
        boundaries =
            front before.boundaries after.boundaries (listed 2 text) (4 * r.counts.boundaries) (omega (arith, cb, g.boundaries))
            (omega (arith, cb, g.few_boundaries)) x.boundaries;
        plants =
            front before.plants after.plants (listed 3 text) (5 * r.counts.plants) (omega (arith, cp, g.plants))
            (omega (arith, cp, g.few_plants)) x.plants;
        contracts =
            front before.contracts after.contracts (listed 4 text) (5 * r.counts.contracts) (omega (arith, ck, g.contracts))
            (omega (arith, ck, g.few_contracts)) x.contracts;
      }
