-- A sheet and four lists that say the same, row by row: each is told by the other. Assumes nothing.
use Prim.Native.Nat.{ℕ, zero, suc, ◌+◌, ◌*◌, ◌/◌, ◌%◌, ◌<◌, ◌≤◌}
use native.Mathlib.Omega.{arith}
use native.Mathlib.Decide.{dec_lt}
use mathlib.Core.Path.{◌≡◌, refl, ap, sym, ◌∙◌}
use mathlib.Core.List.{List}
use lib.ListN.{length, get_or-eq_default}
use Rattle.sums.specs.Lists.{at, list_to}
use Rattle.sums.proofs.Lists.{length_list_to, get_d_list_to, list_to_is}
use Rattle.rows.specs.Rows.{boundary_good, plant_good, contract_good}
use Rattle.limits.specs.declared.Agent.{Agent}
use Rattle.limits.specs.declared.Boundary.{Boundary}
use Rattle.limits.specs.declared.Plant.{Plant}
use Rattle.limits.specs.declared.Contract.{Contract}
use Rattle.sheet.specs.Reading.{kind_at}
use Rattle.sheet.specs.Asking.{agent_at, boundary_at, plant_at, contract_at}
use Rattle.sheet.specs.declared.Counts.{Counts}
use Rattle.sheet.proofs.Accepted.{kind_of_lem, no_kind}
use Rattle.writing.specs.Numbers.{Numbers, counts_in, agent_in, boundary_in, plant_in, contract_in}
use Rattle.writing.specs.Numbers.{boundary_number, plant_number, contract_number, numbers_of}
use Rattle.sums.proofs.Rows.{rows_at, rows_are}

pub record Same (s : List ℕ) (c : Counts) (n : Numbers) : Type 0 where
  pub agents : length n.agents ≡ c.agents
  pub boundaries : length n.boundaries ≡ 4 * c.boundaries
  pub plants : length n.plants ≡ 5 * c.plants
  pub contracts : length n.contracts ≡ 5 * c.contracts
  pub agent : (i : ℕ) → i < c.agents → agent_at s c i ≡ agent_in n.agents i
  pub boundary : (i : ℕ) → i < c.boundaries → boundary_at s c i ≡ boundary_in n.boundaries i
  pub plant : (i : ℕ) → i < c.plants → plant_at s c i ≡ plant_in n.plants i
  pub contract : (i : ℕ) → i < c.contracts → contract_at s c i ≡ contract_in n.contracts i

-- ---- number j of row q of a list
boundary_number_lem : (l : List ℕ) (q j : ℕ) → j < 4 → at l (4 * q + j) ≡ boundary_number (boundary_in l q) j
unfolding boundary_number
boundary_number_lem l q zero h = ap (at l) (omega arith)
boundary_number_lem l q (suc zero) h = refl
boundary_number_lem l q (suc (suc zero)) h = refl
boundary_number_lem l q (suc (suc (suc zero))) h = refl
boundary_number_lem l q (suc (suc (suc (suc j)))) h = absurd (omega arith)

plant_number_lem : (l : List ℕ) (q j : ℕ) → j < 5 → at l (5 * q + j) ≡ plant_number (plant_in l q) j
unfolding plant_number
plant_number_lem l q zero h = ap (at l) (omega arith)
plant_number_lem l q (suc zero) h = refl
plant_number_lem l q (suc (suc zero)) h = refl
plant_number_lem l q (suc (suc (suc zero))) h = refl
plant_number_lem l q (suc (suc (suc (suc zero)))) h = refl
plant_number_lem l q (suc (suc (suc (suc (suc j))))) h = absurd (omega arith)

contract_number_lem : (l : List ℕ) (q j : ℕ) → j < 5 → at l (5 * q + j) ≡ contract_number (contract_in l q) j
unfolding contract_number
contract_number_lem l q zero h = ap (at l) (omega arith)
contract_number_lem l q (suc zero) h = refl
contract_number_lem l q (suc (suc zero)) h = refl
contract_number_lem l q (suc (suc (suc zero))) h = refl
contract_number_lem l q (suc (suc (suc (suc zero)))) h = refl
contract_number_lem l q (suc (suc (suc (suc (suc j))))) h = absurd (omega arith)

-- ---- row q of a list made of rows
module _ (m q : ℕ) (h : q < m) where
  boundary_made : (f : ℕ → Boundary) → f q ≡ boundary_in (list_to (λ k. boundary_number (f (k / 4)) (k % 4)) (4 * m)) q
  unfolding boundary_number
  boundary_made f =
      let g : ℕ → ℕ → ℕ = λ i j. boundary_number (f i) j in
      let z : 4 * q + 0 ≡ 4 * q = omega arith in
      let a = rw z at (rows_at 4 m g q 0 h (omega arith)) in
      rw (
        a,
        rows_at 4 m g q 1 h (omega arith),
        rows_at 4 m g q 2 h (omega arith),
        rows_at 4 m g q 3 h (omega arith),
      )

  plant_made : (f : ℕ → Plant) → f q ≡ plant_in (list_to (λ k. plant_number (f (k / 5)) (k % 5)) (5 * m)) q
  unfolding plant_number
  plant_made f =
      let g : ℕ → ℕ → ℕ = λ i j. plant_number (f i) j in
      let z : 5 * q + 0 ≡ 5 * q = omega arith in
      let a = rw z at (rows_at 5 m g q 0 h (omega arith)) in
      rw (
        a,
        rows_at 5 m g q 1 h (omega arith),
        rows_at 5 m g q 2 h (omega arith),
        rows_at 5 m g q 3 h (omega arith),
        rows_at 5 m g q 4 h (omega arith),
      )

  contract_made : (f : ℕ → Contract) → f q ≡ contract_in (list_to (λ k. contract_number (f (k / 5)) (k % 5)) (5 * m)) q
  unfolding contract_number
  contract_made f =
      let g : ℕ → ℕ → ℕ = λ i j. contract_number (f i) j in
      let z : 5 * q + 0 ≡ 5 * q = omega arith in
      let a = rw z at (rows_at 5 m g q 0 h (omega arith)) in
      rw (
        a,
        rows_at 5 m g q 1 h (omega arith),
        rows_at 5 m g q 2 h (omega arith),
        rows_at 5 m g q 3 h (omega arith),
        rows_at 5 m g q 4 h (omega arith),
      )

-- the numbers of a sheet say the same as it
pub numbers_same : (s : List ℕ) (c : Counts) → Same s c (numbers_of s c)
unfolding numbers_of
numbers_same s c =
    record {
      agents = length_list_to _ _;
      boundaries = length_list_to _ _;
      plants = length_list_to _ _;
      contracts = length_list_to _ _;
      agent = λ i h. let e = get_d_list_to 0 (λ k. (agent_at s c k).kind) c.agents i h in rw e;
      boundary = λ i h. boundary_made c.boundaries i h (boundary_at s c);
      plant = λ i h. plant_made c.plants i h (plant_at s c);
      contract = λ i h. contract_made c.contracts i h (contract_at s c);
    }

module _ (s : List ℕ) (c : Counts) (n : Numbers) (m : Same s c n) where
  pub same_counts : counts_in n ≡ c
  same_counts =
      let b : 4 * c.boundaries / 4 ≡ c.boundaries = omega arith in
      let p : 5 * c.plants / 5 ≡ c.plants = omega arith in
      let k : 5 * c.contracts / 5 ≡ c.contracts = omega arith in
      rw (m.agents, m.boundaries, m.plants, m.contracts, b, p, k)

  -- lists that say the same as a sheet are its numbers
  pub same_numbers : n ≡ numbers_of s c
  unfolding numbers_of
  same_numbers =
      let a = list_to_is 0 (λ k. (agent_at s c k).kind) c.agents n.agents m.agents
      (λ i h. ap (λ (x : Agent). x.kind) (sym (m.agent i h))) in
      let b = rows_are 4 c.boundaries (λ i j. boundary_number (boundary_at s c i) j) n.boundaries m.boundaries
      (λ q j h l. boundary_number_lem n.boundaries q j l
      ∙ ap (λ (x : Boundary). boundary_number x j) (sym (m.boundary q h))) in
      let p = rows_are 5 c.plants (λ i j. plant_number (plant_at s c i) j) n.plants m.plants
      (λ q j h l. plant_number_lem n.plants q j l ∙ ap (λ (x : Plant). plant_number x j) (sym (m.plant q h))) in
      let k = rows_are 5 c.contracts (λ i j. contract_number (contract_at s c i) j) n.contracts m.contracts
      (λ q j h l. contract_number_lem n.contracts q j l
      ∙ ap (λ (x : Contract). contract_number x j) (sym (m.contract q h))) in
      rw (← a, ← b, ← p, ← k)

  -- the kinds of their agents are the same, 0 where there is no such agent
  pub same_kind : (a : ℕ) → kind_at s c a ≡ at n.agents a
  same_kind a = go (dec_lt a c.agents)
    where
      go : Dec (a < c.agents) → kind_at s c a ≡ at n.agents a
      go (yes h) = kind_of_lem s c a h ∙ ap (λ (x : Agent). x.kind) (m.agent a h)
      go (no h) =
          let l : length n.agents ≤ a = omega (arith, m.agents) in
          no_kind s c a (omega arith) ∙ sym (get_or-eq_default n.agents 0 l)

  -- and so are the tests of their rows
  pub same_boundary : (i : ℕ) → i < c.boundaries
      → boundary_good (kind_at s c (boundary_at s c i).agent) (boundary_at s c i)
      ≡ boundary_good (at n.agents (boundary_in n.boundaries i).agent) (boundary_in n.boundaries i)
  same_boundary i h =
      ap (λ (b : Boundary). boundary_good (kind_at s c b.agent) b) (m.boundary i h)
      ∙ ap (λ (k : ℕ). boundary_good k (boundary_in n.boundaries i)) (same_kind _)

  pub same_plant : (i : ℕ) → i < c.plants
      → plant_good (kind_at s c (plant_at s c i).agent) (plant_at s c i)
      ≡ plant_good (at n.agents (plant_in n.plants i).agent) (plant_in n.plants i)
  same_plant i h =
      ap (λ (p : Plant). plant_good (kind_at s c p.agent) p) (m.plant i h)
      ∙ ap (λ (k : ℕ). plant_good k (plant_in n.plants i)) (same_kind _)

  pub same_contract : (i : ℕ) → i < c.contracts
      → let k = contract_in n.contracts i in
      contract_good (kind_at s c (contract_at s c i).seller) (kind_at s c (contract_at s c i).buyer) (contract_at s c i)
      ≡ contract_good (at n.agents k.seller) (at n.agents k.buyer) k
  same_contract i h =
      let k = contract_in n.contracts i in
      ap (λ (x : Contract). contract_good (kind_at s c x.seller) (kind_at s c x.buyer) x) (m.contract i h)
      ∙ ap (λ (x : ℕ). contract_good x (kind_at s c k.buyer) k) (same_kind k.seller)
      ∙ ap (λ (x : ℕ). contract_good (at n.agents k.seller) x k) (same_kind k.buyer)
