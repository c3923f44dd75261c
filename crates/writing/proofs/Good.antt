-- What writing has made sure of in lists that it takes, and the way back: lists of which all this holds are taken. Assumes nothing.
use Rattle.std.specs.Prelude.{Ok}
use Prim.Native.Nat.{ℕ, zero, suc, ◌*◌, ◌%◌, ◌<◌, ◌≤◌}
use native.Mathlib.Omega.{arith}
use mathlib.Core.Path.{◌≡◌}
use mathlib.Core.Bool.{Bool, true, false, cond}
use mathlib.Core.List.{List, [], ◌∷◌}
use borrow.Author.Tests.{leb-true, eqb-true, le-leb, eq-eqb}
use lib.ListN.{length}
use lib.Dec.{leb, eqb}
use Rattle.sums.specs.Lists.{at}
use Rattle.sums.proofs.Tests.{all_true, and_both}
use Rattle.rows.specs.Rows.{agent_good, boundary_good, plant_good, contract_good}
use Rattle.sheet.specs.Reading.{trailer_start, counts_good, sheet_length}
use Rattle.sheet.specs.Asking.{rows_in}
use Rattle.sheet.proofs.Accepted.{Few, good_few}
use Rattle.refusals.proofs.Fine.{fine_parts, parts_fine, fine_test, each_fine, all_fine}
use Rattle.writing.specs.Numbers.{Numbers, counts_in, agent_in, boundary_in, plant_in, contract_in}
use Rattle.writing.specs.Judged.{lists_good, agent_listed, boundary_listed, plant_listed, contract_listed}
use Rattle.writing.specs.Judged.{row_listed, section_listed, write_checks, write_verdict}

-- every test of writing holds but for the room
pub record Good (n : Numbers) : Type 0 where
  pub lists : lists_good n ≡ true
  pub agents : (i : ℕ) → i < (counts_in n).agents → agent_good (agent_in n.agents i) ≡ true
  pub boundaries : (i : ℕ) → i < (counts_in n).boundaries
      → let b = boundary_in n.boundaries i in boundary_good (at n.agents b.agent) b ≡ true
  pub plants : (i : ℕ) → i < (counts_in n).plants
      → let p = plant_in n.plants i in plant_good (at n.agents p.agent) p ≡ true
  pub contracts : (i : ℕ) → i < (counts_in n).contracts
      → let k =
      contract_in n.contracts i in contract_good (at n.agents k.seller) (at n.agents k.buyer) k ≡ true

module _ (n : Numbers) (room : ℕ) where
  pub fine_good : write_verdict n room ≡ Ok tt → Good n
  unfolding write_verdict section_listed row_listed rows_in agent_listed boundary_listed plant_listed contract_listed
  fine_good e =
      let all = fine_parts (write_checks n room) e in
      record {
        lists = fine_test (lists_good n) _ _ all.0;
        agents = λ i h. fine_test _ _ _ (each_fine (agent_listed n.agents) _ i all.1.0 h);
        boundaries =
            λ i h. fine_test _ _ _ (each_fine (boundary_listed n.agents n.boundaries) _ i all.1.1.0 h);
        plants = λ i h. fine_test _ _ _ (each_fine (plant_listed n.agents n.plants) _ i all.1.1.1.0 h);
        contracts =
            λ i h. fine_test _ _ _ (each_fine (contract_listed n.agents n.contracts) _ i all.1.1.1.1.0 h);
      }

  pub fine_room : write_verdict n room ≡ Ok tt → sheet_length (counts_in n) ≤ room
  unfolding write_verdict
  fine_room e =
      let all = fine_parts (write_checks n room) e in
      leb-true _ _ (fine_test (leb (sheet_length (counts_in n)) room) _ _ all.1.1.1.1.1.0)

  pub good_fine : Good n → sheet_length (counts_in n) ≤ room → write_verdict n room ≡ Ok tt
  unfolding write_verdict section_listed row_listed rows_in agent_listed boundary_listed plant_listed contract_listed
  good_fine g h =
      parts_fine (write_checks n room) (
        rw g.lists,
        (
          all_fine (agent_listed n.agents) _ (λ i l. rw (g.agents i l)),
          (
            all_fine (boundary_listed n.agents n.boundaries) _ (λ i l. rw (g.boundaries i l)),
            (
              all_fine (plant_listed n.agents n.plants) _ (λ i l. rw (g.plants i l)),
              (
                all_fine (contract_listed n.agents n.contracts) _ (λ i l. rw (g.contracts i l)),
                (
                  rw (le-leb _ _ h),
                  tt,
                ),
              ),
            ),
          ),
        ),
      )

-- whole rows
pub record WholeRows (n : Numbers) : Type 0 where
  pub counts : counts_good (counts_in n) ≡ true
  pub boundaries : length n.boundaries ≡ 4 * (counts_in n).boundaries
  pub plants : length n.plants ≡ 5 * (counts_in n).plants
  pub contracts : length n.contracts ≡ 5 * (counts_in n).contracts

pub good_rows : (n : Numbers) → lists_good n ≡ true → WholeRows n
good_rows n e =
    let all =
    all_true (counts_good (counts_in n))
    (eqb (length n.boundaries % 4) 0 ∷ eqb (length n.plants % 5) 0 ∷ eqb (length n.contracts % 5) 0 ∷ []) e in
    let u = eqb-true (length n.boundaries % 4) 0 all.1.0 in
    let v = eqb-true (length n.plants % 5) 0 all.1.1.0 in
    let w = eqb-true (length n.contracts % 5) 0 all.1.1.1.0 in
    record { counts = all.0; boundaries = omega arith; plants = omega arith; contracts = omega arith }

pub rows_good : (n : Numbers) → WholeRows n → lists_good n ≡ true
rows_good n r =
    let b = r.boundaries in
    let p = r.plants in
    let k = r.contracts in
    let x : length n.boundaries % 4 ≡ 0 = omega arith in
    let y : length n.plants % 5 ≡ 0 = omega arith in
    let z : length n.contracts % 5 ≡ 0 = omega arith in
    and_both (and_both (and_both r.counts (eq-eqb _ _ x)) (eq-eqb _ _ y)) (eq-eqb _ _ z)

pub lists_few : (n : Numbers) → lists_good n ≡ true → Few (counts_in n)
lists_few n e = good_few (counts_in n) (good_rows n e).counts

-- ---- an agent that has a kind is in the list
pub listed_there : (l : List ℕ) (x : ℕ) → 0 < at l x → x < length l
listed_there [] x h = absurd (omega arith)
listed_there (a ∷ l) zero h = omega arith
listed_there (a ∷ l) (suc x) h = let k = listed_there l x h in omega arith

-- ---- sizes are small
pub lists_small : (n : Numbers) → lists_good n ≡ true → trailer_start (counts_in n) < 65536
lists_small n e = let f = lists_few n e in omega arith

pub rows_small : (n : Numbers) (section : ℕ) → lists_good n ≡ true → rows_in (counts_in n) section < 65536
unfolding rows_in
rows_small n section e = go (eqb section 1) (eqb section 2) (eqb section 3) (eqb section 4)
  where
    go : (x y z w : Bool)
        → let c =
        counts_in n in cond x c.agents (cond y c.boundaries (cond z c.plants (cond w c.contracts 0))) < 65536
    go true y z w = let l = lists_small n e in omega arith
    go false true z w = let l = lists_small n e in omega arith
    go false false true w = let l = lists_small n e in omega arith
    go false false false true = let l = lists_small n e in omega arith
    go false false false false = omega arith
