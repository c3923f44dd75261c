-- A row and its four numbers: the one is told by the other, both ways round. Assumes nothing.
use Prim.Native.Nat.{ℕ, ◌<◌}
use native.Mathlib.Omega.{arith}
use mathlib.Core.Path.{◌≡◌, refl, ap, sym, ◌∙◌}
use Rattle.octets.specs.Bytes.{words_of}
use Rattle.rows.specs.Rows.{low, high, agent_of, boundary_of, plant_of, contract_of}
use Rattle.octets.specs.declared.Words.{Words}
use Rattle.limits.specs.declared.Agent.{Agent}
use Rattle.limits.specs.declared.Boundary.{Boundary}
use Rattle.limits.specs.declared.Plant.{Plant}
use Rattle.limits.specs.declared.Contract.{Contract}
use Rattle.rows.proofs.Good.{AgentBlank}
use Rattle.octets.proofs.Trip.{Narrow}
use Rattle.writing.specs.Words.{halves, agent_words, boundary_words, plant_words, contract_words}

-- ---- two 16-bit numbers in one
halves_narrow : (x y : ℕ) → halves x y < 4294967296
halves_narrow x y = omega arith

halves_low : (x y : ℕ) → x < 65536 → low (halves x y) ≡ x
halves_low x y h = omega arith

halves_high : (x y : ℕ) → y < 65536 → high (halves x y) ≡ y
halves_high x y h = omega arith

halves_back : (x : ℕ) → x < 4294967296 → halves (low x) (high x) ≡ x
halves_back x h = omega arith

-- ---- the numbers of a row fit 32 bits
pub agent_narrow : (a : Agent) → a.kind < 4294967296 → Narrow (agent_words a)
agent_narrow a h = record { first = h; second = omega arith; third = omega arith; fourth = omega arith }

pub boundary_narrow : (b : Boundary) → b.import < 4294967296 → b.export < 4294967296 → Narrow (boundary_words b)
boundary_narrow b u v = record { first = halves_narrow _ _; second = omega arith; third = u; fourth = v }

pub plant_narrow : (p : Plant)
    → p.must < 4294967296
    → p.price < 4294967296
    → p.availability < 4294967296
    → Narrow (plant_words p)
plant_narrow p t u v = record { first = halves_narrow _ _; second = t; third = u; fourth = v }

pub contract_narrow : (k : Contract)
    → k.kind < 4294967296
    → k.price < 4294967296
    → k.quantity < 4294967296
    → Narrow (contract_words k)
contract_narrow k t u v = record { first = halves_narrow _ _; second = t; third = u; fourth = v }

-- ---- the row of its numbers is the row; two-byte fields hold what fits them
pub agent_there : (a : Agent) → agent_of (agent_words a) ≡ a
agent_there a = refl

pub boundary_there : (b : Boundary) → b.agent < 65536 → b.factor < 65536 → boundary_of (boundary_words b) ≡ b
boundary_there b x y = rw (halves_low b.agent b.factor x, halves_high b.agent b.factor y)

pub plant_there : (p : Plant) → p.agent < 65536 → p.inflexible < 65536 → plant_of (plant_words p) ≡ p
plant_there p x y = rw (halves_low p.agent p.inflexible x, halves_high p.agent p.inflexible y)

pub contract_there : (k : Contract) → k.seller < 65536 → k.buyer < 65536 → contract_of (contract_words k) ≡ k
contract_there k x y = rw (halves_low k.seller k.buyer x, halves_high k.seller k.buyer y)

-- ---- the numbers of their row are the numbers, where the fillers are 0
pub agent_back : (w : Words) → AgentBlank w → agent_words (agent_of w) ≡ w
agent_back w z =
    ap (λ (x : ℕ). words_of w.first x 0 0) (sym z.second)
    ∙ ap (λ (x : ℕ). words_of w.first w.second x 0) (sym z.third)
    ∙ ap (λ (x : ℕ). words_of w.first w.second w.third x) (sym z.fourth)

pub boundary_back : (w : Words) → w.first < 4294967296 → w.second ≡ 0 → boundary_words (boundary_of w) ≡ w
boundary_back w h z =
    ap (λ (x : ℕ). words_of x 0 w.third w.fourth) (halves_back w.first h)
    ∙ ap (λ (x : ℕ). words_of w.first x w.third w.fourth) (sym z)

pub plant_back : (w : Words) → w.first < 4294967296 → plant_words (plant_of w) ≡ w
plant_back w h = ap (λ (x : ℕ). words_of x w.second w.third w.fourth) (halves_back w.first h)

pub contract_back : (w : Words) → w.first < 4294967296 → contract_words (contract_of w) ≡ w
contract_back w h = plant_back w h
