-- What a C caller is told of a reason: number and place, 0 and 0 where there is a reason; the reason's number and its figures, 0 where
-- the question is refused. Assumes nothing.
use Rattle.std.specs.Prelude.{Result, Ok, Err}
use Rattle.refusals.specs.declared.Refusal.{Refusal}
use Rattle.reasons.specs.declared.PlantCase.{PlantCase}
use Rattle.reasons.specs.declared.ContractCase.{ContractCase}
use Rattle.std.specs.Prelude.{ℕ, List, [], ◌∷◌}
use Rattle.reasons.specs.Reasons.{plant_reason_number, plant_why, contract_reason_number, first_value, second_value, contract_why}
use Rattle.capi.specs.Told.{Told}

-- of a plant: its schedule, availability, must-run and offer, and the bolsa price
abbrev pub plant_answer : Result PlantCase Refusal → List ℕ
plant_answer (Ok k) =
    0 ∷ 0 ∷ plant_reason_number k.reason ∷ k.scheduled ∷ k.available ∷ k.must ∷ k.offer ∷ k.price ∷ []
plant_answer (Err r) = r.number ∷ r.place ∷ 0 ∷ 0 ∷ 0 ∷ 0 ∷ 0 ∷ 0 ∷ []

abbrev pub WhyPlantTold : (sheet : List ℕ) (plant : ℕ) (before : List ℕ) → ℕ → (after : List ℕ) → Type 0
WhyPlantTold sheet plant = Told 8 (plant_answer (plant_why sheet plant))

-- of a contract: its quantity, amount and price, and the two values of the reason
abbrev pub contract_answer : Result ContractCase Refusal → List ℕ
contract_answer (Ok k) =
    0 ∷ 0 ∷ contract_reason_number k.reason ∷ k.quantity ∷ k.amount ∷ k.price ∷ first_value k.reason
    ∷ second_value k.reason ∷ []
contract_answer (Err r) = r.number ∷ r.place ∷ 0 ∷ 0 ∷ 0 ∷ 0 ∷ 0 ∷ 0 ∷ []

abbrev pub WhyContractTold : (sheet : List ℕ) (contract : ℕ) (before : List ℕ) → ℕ → (after : List ℕ) → Type 0
WhyContractTold sheet contract = Told 8 (contract_answer (contract_why sheet contract))
