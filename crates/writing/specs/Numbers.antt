-- Document 01, 'When the sheet is turned away': writing takes one list of 32-bit numbers a section, the named fields row by row
-- in byte order, without fillers. Assumes nothing.
use Rattle.std.specs.Prelude.{ℕ, ◌+◌, ◌*◌, ◌/◌, ◌%◌, cond, List, length, eqb}
use Rattle.sums.specs.Lists.{at, list_to}
use Rattle.limits.specs.declared.Agent.{Agent}
use Rattle.limits.specs.declared.Boundary.{Boundary}
use Rattle.limits.specs.declared.Plant.{Plant}
use Rattle.limits.specs.declared.Contract.{Contract}
use Rattle.sheet.specs.Asking.{agent_at, boundary_at, plant_at, contract_at}
use Rattle.sheet.specs.declared.Counts.{Counts}

pub record Numbers : Type 0 where
  -- kind
  pub agents : List ℕ
  -- agent, factor, import, export
  pub boundaries : List ℕ
  -- agent, inflexible, must-run, price, availability
  pub plants : List ℕ
  -- seller, buyer, kind, price, quantity
  pub contracts : List ℕ

abbrev pub numbers : (agents boundaries plants contracts : List ℕ) → Numbers
numbers a b p c = record { agents = a; boundaries = b; plants = p; contracts = c }

-- how many rows they are: 1, 4, 5 and 5 numbers a row
abbrev pub counts_in : Numbers → Counts
counts_in n =
    record {
      agents = length n.agents;
      boundaries = length n.boundaries / 4;
      plants = length n.plants / 5;
      contracts = length n.contracts / 5;
    }

-- ---- row i of each list
abbrev pub agent_in : List ℕ → ℕ → Agent
agent_in l i = record { kind = at l i }

abbrev pub boundary_in : List ℕ → ℕ → Boundary
boundary_in l i =
    record { agent = at l (4 * i); factor = at l (4 * i + 1); import = at l (4 * i + 2); export = at l (4 * i + 3) }

abbrev pub plant_in : List ℕ → ℕ → Plant
plant_in l i =
    record {
      agent = at l (5 * i);
      inflexible = at l (5 * i + 1);
      must = at l (5 * i + 2);
      price = at l (5 * i + 3);
      availability = at l (5 * i + 4);
    }

abbrev pub contract_in : List ℕ → ℕ → Contract
contract_in l i =
    record {
      seller = at l (5 * i);
      buyer = at l (5 * i + 1);
      kind = at l (5 * i + 2);
      price = at l (5 * i + 3);
      quantity = at l (5 * i + 4);
    }

-- ---- number j of a row
unfoldable pub boundary_number : Boundary → ℕ → ℕ
boundary_number b j = cond (eqb j 0) b.agent (cond (eqb j 1) b.factor (cond (eqb j 2) b.import b.export))

unfoldable pub plant_number : Plant → ℕ → ℕ
plant_number p j =
    cond (eqb j 0) p.agent
    (cond (eqb j 1) p.inflexible (cond (eqb j 2) p.must (cond (eqb j 3) p.price p.availability)))

unfoldable pub contract_number : Contract → ℕ → ℕ
contract_number k j =
    cond (eqb j 0) k.seller
    (cond (eqb j 1) k.buyer (cond (eqb j 2) k.kind (cond (eqb j 3) k.price k.quantity)))

-- the numbers of a sheet with these counts
unfoldable pub numbers_of : List ℕ → Counts → Numbers
numbers_of s c =
    numbers
    (list_to (λ k. (agent_at s c k).kind) c.agents)
    (list_to (λ k. boundary_number (boundary_at s c (k / 4)) (k % 4)) (4 * c.boundaries))
    (list_to (λ k. plant_number (plant_at s c (k / 5)) (k % 5)) (5 * c.plants))
    (list_to (λ k. contract_number (contract_at s c (k / 5)) (k % 5)) (5 * c.contracts))
