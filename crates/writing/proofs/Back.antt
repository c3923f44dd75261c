-- The numbers of an accepted sheet are taken by writing, and their sheet is that sheet. Assumes nothing.
use Prim.Native.Nat.{ℕ, ◌+◌, ◌-◌, ◌*◌, ◌/◌, ◌<◌, ◌≤◌}
use native.Mathlib.Omega.{arith}
use native.Mathlib.Decide.{dec_lt}
use mathlib.Core.Path.{◌≡◌, ap, sym, subst, ◌∙◌}
use mathlib.Core.List.{List, [], ◌∷◌}
use borrow.Author.Tests.{eqb-true}
use lib.ListN.{length}
use lib.Dec.{eqb}
use Rattle.sums.proofs.Tests.{all_true}
use Rattle.octets.specs.Bytes.{words_at, words_of}
use Rattle.rows.specs.Rows.{agent_good}
use Rattle.octets.specs.declared.Words.{Words}
use Rattle.rows.proofs.Good.{agent_blank_lem, boundary_blank_lem}
use Rattle.octets.proofs.Trip.{Bytes, row_narrow, bytes_back}
use Rattle.sheet.specs.Reading.{boundary_start, plant_start, contract_start, trailer_start, counts_of, distances_good}
use Rattle.sheet.specs.declared.Counts.{Counts}
use Rattle.sheet.proofs.Accepted.{Whole}
use Rattle.writing.specs.Numbers.{Numbers, counts_in, numbers_of}
use Rattle.writing.specs.Words.{agent_words, boundary_words, plant_words, contract_words, trailer_words, sheet_row, sheet_of}
use Rattle.writing.proofs.Rows.{agent_back, boundary_back, plant_back, contract_back}
use Rattle.writing.proofs.Good.{Good, rows_good}
use Rattle.writing.proofs.Same.{Same, numbers_same, same_counts, same_boundary, same_plant, same_contract}
use Rattle.writing.proofs.There.{Laid, laid}

-- what the trailer of a whole sheet says
pub record Trailer (s : List ℕ) (c : Counts) : Type 0 where
  pub first : words_at s (trailer_start c)
      ≡ words_of (16 * trailer_start c) c.agents (16 * (trailer_start c - boundary_start c)) c.boundaries
  pub second : words_at s (trailer_start c + 1)
      ≡ words_of (16 * (trailer_start c - plant_start c)) c.plants (16 * (trailer_start c - contract_start c))
      c.contracts

module _ (s : List ℕ) (c : Counts) (w : Whole s c) where
  starts : length s / 16 - 2 ≡ trailer_start c
  starts = let l = w.long in omega arith

  trailer : Trailer s c
  unfolding counts_of distances_good
  trailer =
      let k = trailer_start c in
      let u = words_at s k in
      let v = words_at s (k + 1) in
      let e = rw starts at w.counts in
      let all =
      all_true (eqb u.first (16 * k))
      (eqb u.third (16 * (k - boundary_start c)) ∷ eqb v.first (16 * (k - plant_start c))
      ∷ eqb v.third (16 * (k - contract_start c)) ∷ []) (rw starts at w.distances) in
      let f1 : u.first ≡ 16 * k = eqb-true _ _ all.0 in
      let f2 : u.second ≡ c.agents = ap (λ (k : Counts). k.agents) e in
      let f3 : u.third ≡ 16 * (k - boundary_start c) = eqb-true _ _ all.1.0 in
      let f4 : u.fourth ≡ c.boundaries = ap (λ (k : Counts). k.boundaries) e in
      let s1 : v.first ≡ 16 * (k - plant_start c) = eqb-true _ _ all.1.1.0 in
      let s2 : v.second ≡ c.plants = ap (λ (k : Counts). k.plants) e in
      let s3 : v.third ≡ 16 * (k - contract_start c) = eqb-true _ _ all.1.1.1.0 in
      let s4 : v.fourth ≡ c.contracts = ap (λ (k : Counts). k.contracts) e in
      record { first = words_eq u _ f1 f2 f3 f4; second = words_eq v _ s1 s2 s3 s4 }
    where
      words_eq : (u v : Words)
          → u.first ≡ v.first
          → u.second ≡ v.second
          → u.third ≡ v.third
          → u.fourth ≡ v.fourth
          → u ≡ v
      words_eq u v a b c d =
          ap (λ (x : ℕ). words_of x u.second u.third u.fourth) a
          ∙ ap (λ (x : ℕ). words_of v.first x u.third u.fourth) b
          ∙ ap (λ (x : ℕ). words_of v.first v.second x u.fourth) c
          ∙ ap (λ (x : ℕ). words_of v.first v.second v.third x) d

  abbrev n : Numbers
  n = numbers_of s c

  same : Same s c n
  same = numbers_same s c

  pub back_counts : counts_in n ≡ c
  back_counts = same_counts s c n same

  pub back_good : Good n
  back_good =
      let m = same in
      let l : Whole s (counts_in n) = subst (λ (k : Counts). Whole s k) (sym back_counts) w in
      record {
        lists =
            rows_good n
            (record {
              counts = l.few;
              boundaries = let e = m.boundaries in omega arith;
              plants = let e = m.plants in omega arith;
              contracts = let e = m.contracts in omega arith;
            });
        agents = λ i h.
            let l : i < c.agents = rw m.agents at h in ap agent_good (sym (m.agent i l)) ∙ w.agents i l;
        boundaries = λ i h.
            let e = m.boundaries in
            let l : i < c.boundaries = omega arith in
            sym (same_boundary s c n m i l) ∙ w.boundaries i l;
        plants = λ i h.
            let e = m.plants in
            let l : i < c.plants = omega arith in
            sym (same_plant s c n m i l) ∙ w.plants i l;
        contracts = λ i h.
            let e = m.contracts in
            let l : i < c.contracts = omega arith in
            sym (same_contract s c n m i l) ∙ w.contracts i l;
      }

  -- ---- each row is the sheet's
  module _ (by : Bytes s) where
    lies : Laid n c
    lies = subst (λ (k : Counts). Laid n k) back_counts (laid n)

    agent_row : (i : ℕ) → i < c.agents → sheet_row n i ≡ words_at s i
    agent_row i h =
        lies.agent i h ∙ ap agent_words (sym (same.agent i h))
        ∙ agent_back (words_at s i) (agent_blank_lem (words_at s i) (w.agent_blanks i h))

    boundary_row : (i : ℕ) → i < c.boundaries → sheet_row n (boundary_start c + i) ≡ words_at s (boundary_start c + i)
    boundary_row i h =
        let u = words_at s (boundary_start c + i) in
        lies.boundary i h ∙ ap boundary_words (sym (same.boundary i h))
        ∙ boundary_back u (row_narrow s by _).first (boundary_blank_lem u (w.boundary_blanks i h))

    plant_row : (i : ℕ) → i < c.plants → sheet_row n (plant_start c + i) ≡ words_at s (plant_start c + i)
    plant_row i h =
        let u = words_at s (plant_start c + i) in
        lies.plant i h ∙ ap plant_words (sym (same.plant i h))
        ∙ plant_back u (row_narrow s by _).first

    contract_row : (i : ℕ) → i < c.contracts → sheet_row n (contract_start c + i) ≡ words_at s (contract_start c + i)
    contract_row i h =
        let u = words_at s (contract_start c + i) in
        lies.contract i h ∙ ap contract_words (sym (same.contract i h)) ∙ contract_back u (row_narrow s by _).first

    first_row : sheet_row n (trailer_start c) ≡ words_at s (trailer_start c)
    unfolding trailer_words
    first_row = lies.first ∙ sym trailer.first

    second_row : sheet_row n (trailer_start c + 1) ≡ words_at s (trailer_start c + 1)
    unfolding trailer_words
    second_row = lies.second ∙ sym trailer.second

    -- row r, the i-th from row b
    moved : (b r : ℕ) → b ≤ r → sheet_row n (b + (r - b)) ≡ words_at s (b + (r - b)) → sheet_row n r ≡ words_at s r
    moved b r h e = let q : b + (r - b) ≡ r = omega arith in rw q at e

    each_row : (r : ℕ) → r < trailer_start c + 2 → sheet_row n r ≡ words_at s r
    each_row r h =
        one (dec_lt r (boundary_start c)) (dec_lt r (plant_start c)) (dec_lt r (contract_start c)) (dec_lt r (trailer_start c))
        (dec_lt r (trailer_start c + 1))
      where
        one : Dec (r < boundary_start c) → Dec (r < plant_start c) → Dec (r < contract_start c) → Dec (r < trailer_start c)
            → Dec (r < trailer_start c + 1) → sheet_row n r ≡ words_at s r
        one (yes l) _ _ _ _ = agent_row r l
        one (no a) (yes l) _ _ _ = moved (boundary_start c) r (omega arith) (boundary_row _ (omega arith))
        one (no a) (no b) (yes l) _ _ = moved (plant_start c) r (omega arith) (plant_row _ (omega arith))
        one (no a) (no b) (no p) (yes l) _ = moved (contract_start c) r (omega arith) (contract_row _ (omega arith))
        one (no a) (no b) (no p) (no k) (yes l) = let e : r ≡ trailer_start c = omega arith in rw e first_row
        one (no a) (no b) (no p) (no k) (no l) = let e : r ≡ trailer_start c + 1 = omega arith in rw e second_row

    pub back_sheet : sheet_of n ≡ s
    unfolding sheet_of
    back_sheet =
        let m = same in
        let l = w.long in
        let e : trailer_start (counts_in n) ≡ trailer_start c = ap trailer_start back_counts in
        bytes_back s by (sheet_row n) (trailer_start (counts_in n) + 2) (omega arith) (λ r h. each_row r (omega arith))
