-- The sheet of lists that writing takes is accepted, and says what they say. Assumes nothing.
use Prim.Native.Nat.{ℕ, ◌+◌, ◌-◌, ◌*◌, ◌/◌, ◌<◌}
use native.Mathlib.Omega.{arith}
use mathlib.Core.Path.{◌≡◌, refl, ap, ◌∙◌}
use mathlib.Core.Bool.{true, ◌&&◌}
use borrow.Author.Tests.{lt-ltb, le-ltb, eq-eqb}
use lib.ListN.{length}
use lib.Dec.{eqb}
use Rattle.sums.specs.Lists.{at}
use Rattle.octets.specs.Bytes.{words_at, words_of}
use Rattle.rows.specs.Rows.{agent_of, boundary_of, plant_of, contract_of, agent_good}
use Rattle.octets.specs.declared.Words.{Words}
use Rattle.rows.proofs.Good.{BoundaryFits, boundary_fits, PlantFits, plant_fits, ContractFits, contract_fits}
use Rattle.octets.proofs.Trip.{Narrow, rows_back, length_bytes_of}
use Rattle.sheet.specs.Reading.{boundary_start, plant_start, contract_start, trailer_start, sheet_length, counts_of, distances_good}
use Rattle.sheet.specs.declared.Counts.{Counts}
use Rattle.sheet.proofs.Accepted.{Whole, Few}
use Rattle.writing.specs.Numbers.{Numbers, counts_in, agent_in, boundary_in, plant_in, contract_in}
use Rattle.writing.specs.Words.{agent_words, boundary_words, plant_words, contract_words, trailer_words, sheet_row, sheet_of}
use Rattle.writing.proofs.Rows.{agent_narrow, boundary_narrow, plant_narrow, contract_narrow}
use Rattle.writing.proofs.Rows.{boundary_there, plant_there, contract_there}
use Rattle.writing.proofs.Good.{Good, good_rows, lists_few, listed_there}
use Rattle.rows.proofs.ByKind.{agent_known, holder_known, seller_known, buyer_known}
use Rattle.writing.proofs.Same.{Same, same_boundary, same_plant, same_contract}

-- the rows of the sheet, by section
pub record Laid (n : Numbers) (c : Counts) : Type 0 where
  pub agent : (i : ℕ) → i < c.agents → sheet_row n i ≡ agent_words (agent_in n.agents i)
  pub boundary : (i : ℕ)
      → i < c.boundaries
      → sheet_row n (boundary_start c + i) ≡ boundary_words (boundary_in n.boundaries i)
  pub plant : (i : ℕ) → i < c.plants → sheet_row n (plant_start c + i) ≡ plant_words (plant_in n.plants i)
  pub contract : (i : ℕ)
      → i < c.contracts
      → sheet_row n (contract_start c + i) ≡ contract_words (contract_in n.contracts i)
  pub first : sheet_row n (trailer_start c) ≡ trailer_words c 0
  pub second : sheet_row n (trailer_start c + 1) ≡ trailer_words c 1

pub laid : (n : Numbers) → Laid n (counts_in n)
unfolding sheet_row
laid n =
    let c = counts_in n in
    let a = boundary_start c in
    let b = plant_start c in
    let p = contract_start c in
    let k = trailer_start c in
    record {
      agent = λ i h. rw (lt-ltb i a h);
      boundary = λ i h.
          let e : a + i - a ≡ i = omega arith in
          let l : a + i < b = omega arith in
          rw (le-ltb (a + i) a (omega arith), lt-ltb (a + i) b l, e);
      plant = λ i h.
          let e : b + i - b ≡ i = omega arith in
          let l : b + i < p = omega arith in
          rw (le-ltb (b + i) a (omega arith), le-ltb (b + i) b (omega arith), lt-ltb (b + i) p l, e);
      contract = λ i h.
          let e : p + i - p ≡ i = omega arith in
          let l : p + i < k = omega arith in
          rw (
            le-ltb (p + i) a (omega arith),
            le-ltb (p + i) b (omega arith),
            le-ltb (p + i) p (omega arith),
            lt-ltb (p + i) k l,
            e,
          );
      first =
          let e : k - k ≡ 0 = omega arith in
          rw (
            le-ltb k a (omega arith),
            le-ltb k b (omega arith),
            le-ltb k p (omega arith),
            le-ltb k k (omega arith),
            e,
          );
      second =
          let e : k + 1 - k ≡ 1 = omega arith in
          rw (
            le-ltb (k + 1) a (omega arith),
            le-ltb (k + 1) b (omega arith),
            le-ltb (k + 1) p (omega arith),
            le-ltb (k + 1) k (omega arith),
            e,
          );
    }

four_equal : (x y u v : ℕ) → (eqb x x && eqb y y && eqb u u && eqb v v) ≡ true
four_equal x y u v = rw (eq-eqb x x refl, eq-eqb y y refl, eq-eqb u u refl, eq-eqb v v refl)

module _ (n : Numbers) (g : Good n) where
  abbrev c : Counts
  c = counts_in n

  few : Few c
  few = lists_few n g.lists

  fits_boundary : (i : ℕ) → i < c.boundaries
      → let b = boundary_in n.boundaries i in BoundaryFits (at n.agents b.agent) b
  fits_boundary i h = boundary_fits _ (boundary_in n.boundaries i) (g.boundaries i h)

  fits_plant : (i : ℕ) → i < c.plants → let p = plant_in n.plants i in PlantFits (at n.agents p.agent) p
  fits_plant i h = plant_fits _ (plant_in n.plants i) (g.plants i h)

  fits_contract : (i : ℕ) → i < c.contracts
      → let k = contract_in n.contracts i in ContractFits (at n.agents k.seller) (at n.agents k.buyer) k
  fits_contract i h = contract_fits _ _ (contract_in n.contracts i) (g.contracts i h)

  -- a row is read as it was written
  row_read_lem : (r : ℕ) (w : Words) → r < trailer_start c + 2 → sheet_row n r ≡ w → Narrow w → words_at (sheet_of n) r ≡ w
  unfolding sheet_of
  row_read_lem r w h e l = rows_back (sheet_row n) (trailer_start c + 2) r h (rw e l) ∙ e

  agent_read_lem : (i : ℕ) → i < c.agents → words_at (sheet_of n) i ≡ agent_words (agent_in n.agents i)
  agent_read_lem i h =
      let k = agent_known (at n.agents i) (g.agents i h) in
      row_read_lem i _ (omega arith) ((laid n).agent i h) (agent_narrow _ (omega arith))

  boundary_read : (i : ℕ)
      → i < c.boundaries
      → words_at (sheet_of n) (boundary_start c + i) ≡ boundary_words (boundary_in n.boundaries i)
  boundary_read i h =
      let f = fits_boundary i h in
      row_read_lem _ _ (omega arith) ((laid n).boundary i h) (boundary_narrow _ (omega arith) (omega arith))

  plant_read_lem : (i : ℕ) → i < c.plants → words_at (sheet_of n) (plant_start c + i) ≡ plant_words (plant_in n.plants i)
  plant_read_lem i h =
      let f = fits_plant i h in
      row_read_lem _ _ (omega arith) ((laid n).plant i h) (plant_narrow _ (omega arith) (omega arith) (omega arith))

  contract_read_lem : (i : ℕ)
      → i < c.contracts
      → words_at (sheet_of n) (contract_start c + i) ≡ contract_words (contract_in n.contracts i)
  contract_read_lem i h =
      let f = fits_contract i h in
      row_read_lem _ _ (omega arith) ((laid n).contract i h) (contract_narrow _ (omega arith) (omega arith) (omega arith))

  -- whoever has a kind has a number that fits two bytes
  numbered : (a : ℕ) → 0 < at n.agents a → a < 65536
  numbered a h = let f = few in let l = listed_there n.agents a h in omega arith

  pub there_same : Same (sheet_of n) c n
  there_same =
      let r = good_rows n g.lists in
      record {
        agents = refl;
        boundaries = r.boundaries;
        plants = r.plants;
        contracts = r.contracts;
        agent = λ i h. ap agent_of (agent_read_lem i h);
        boundary = λ i h.
            let f = fits_boundary i h in
            ap boundary_of (boundary_read i h) ∙ boundary_there _ (numbered _ (agent_known _ f.known).least) (omega arith);
        plant = λ i h.
            let f = fits_plant i h in
            ap plant_of (plant_read_lem i h) ∙ plant_there _ (numbered _ (holder_known _ f.holder).least) (omega arith);
        contract = λ i h.
            let f = fits_contract i h in
            ap contract_of (contract_read_lem i h)
            ∙ contract_there _ (numbered _ (seller_known _ f.sells).least) (numbered _ (buyer_known _ f.buys).least);
      }

  -- ---- the trailer
  pub there_long : length (sheet_of n) ≡ sheet_length c
  unfolding sheet_of
  there_long = length_bytes_of (sheet_row n) (trailer_start c + 2) ∙ (omega arith)

  first_read : words_at (sheet_of n) (trailer_start c)
      ≡ words_of (16 * trailer_start c) c.agents (16 * (trailer_start c - boundary_start c)) c.boundaries
  unfolding trailer_words
  first_read =
      let f = few in
      row_read_lem (trailer_start c) _ (omega arith) (laid n).first
      (record { first = omega arith; second = omega arith; third = omega arith; fourth = omega arith })

  second_read : words_at (sheet_of n) (trailer_start c + 1)
      ≡ words_of (16 * (trailer_start c - plant_start c)) c.plants (16 * (trailer_start c - contract_start c))
      c.contracts
  unfolding trailer_words
  second_read =
      let f = few in
      row_read_lem (trailer_start c + 1) _ (omega arith) (laid n).second
      (record { first = omega arith; second = omega arith; third = omega arith; fourth = omega arith })

  starts : length (sheet_of n) / 16 - 2 ≡ trailer_start c
  starts = let l = there_long in omega arith

  pub there_whole : Whole (sheet_of n) c
  unfolding counts_of distances_good
  there_whole =
      let m = there_same in
      record {
        counts = rw (starts, first_read, second_read);
        few = (good_rows n g.lists).counts;
        long = there_long;
        distances =
            rw (starts, first_read, second_read)
            (four_equal (16 * trailer_start c) (16 * (trailer_start c - boundary_start c))
            (16 * (trailer_start c - plant_start c))
            (16 * (trailer_start c - contract_start c)));
        agent_blanks = λ i h. rw (agent_read_lem i h);
        agents = λ i h. ap agent_good (m.agent i h) ∙ g.agents i h;
        boundary_blanks = λ i h. rw (boundary_read i h);
        boundaries = λ i h. same_boundary (sheet_of n) c n m i h ∙ g.boundaries i h;
        plants = λ i h. same_plant (sheet_of n) c n m i h ∙ g.plants i h;
        contracts = λ i h. same_contract (sheet_of n) c n m i h ∙ g.contracts i h;
      }
