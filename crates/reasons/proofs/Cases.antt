-- Reasons worked out by hand: plants by schedule, must-run and availability, and the contracts of one retailer by its demand, among them
-- those of document 01's worked hour. One table each, and one statement over it. Assumes nothing.
use mathlib.Core.Path.{◌≡◌, refl}
use mathlib.Core.List.{List, [], ◌∷◌, map}
use Prim.Native.Nat.{ℕ}
use Rattle.sums.specs.Sums.{sum, pick}
use Rattle.sums.specs.Lists.{total, list_to}
use Rattle.deals.specs.Deals.{Deals, stands, ahead_of, firm_at, rest_of, cheaper_of, group_of}
use Rattle.reasons.specs.Reasons.{plant_reason_number, plant_reason_by, contract_reason_number, first_value, second_value, contract_reason_by}
use Rattle.reasons.specs.declared.ContractReason.{ContractReason}

pub record PlantRow : Type 0 where
  pub scheduled : ℕ
  pub must : ℕ
  pub available : ℕ
  pub due : ℕ

abbrev plant : (scheduled must available due : ℕ) → PlantRow
plant q m a n = record { scheduled = q; must = m; available = a; due = n }

abbrev pub plant_rows : List PlantRow
plant_rows =
    -- the worked hour, and its plant 2 with a must-run of 60
    plant 700 0 700 2
    ∷ plant 310 0 500 4
    ∷ plant 0 0 100 5
    ∷ plant 60 60 100 3
    -- above its must-run, and not all
    ∷ plant 61 60 100 4
    -- a must-run of all that is available; nothing available
    ∷ plant 100 100 100 2
    ∷ plant 0 0 0 1
    ∷ []

pub plants_hold : map (λ (r : PlantRow). plant_reason_number (plant_reason_by r.scheduled r.must r.available)) plant_rows
    ≡ map (λ (r : PlantRow). r.due) plant_rows
unfolding plant_reason_by
plants_hold = refl

-- row `row` of a retailer's own contracts, whose demand is `demand`: the reason's number and its two values
pub record ContractRow : Type 0 where
  pub deals : Deals
  pub demand : ℕ
  pub row : ℕ
  pub due : List ℕ

abbrev deal : (kinds prices quantities : List ℕ) → (demand row : ℕ) → List ℕ → ContractRow
deal ks ps qs d i n = record { deals = record { kinds = ks; prices = ps; quantities = qs }; demand = d; row = i; due = n }

-- agent 1 of the worked hour, and a retailer with two groups of kind 3, of 5 kWh and of 7
abbrev worked : (row : ℕ) → List ℕ → ContractRow
worked i n = deal (1 ∷ 3 ∷ 3 ∷ []) (6000 ∷ 7000 ∷ 7000 ∷ []) (400 ∷ 100 ∷ 50 ∷ []) 532 i n

abbrev groups : (demand row : ℕ) → List ℕ → ContractRow
groups d i n = deal (3 ∷ 3 ∷ []) (20 ∷ 10 ∷ []) (7 ∷ 5 ∷ []) d i n

abbrev pub contract_rows : List ContractRow
contract_rows =
    worked 0 (1 ∷ 0 ∷ 0 ∷ [])
    ∷ worked 1 (5 ∷ 132 ∷ 150 ∷ [])
    ∷ worked 2 (5 ∷ 132 ∷ 150 ∷ [])
    -- agent 2 of the worked hour; with a demand of 0 nothing is needed
    ∷ deal (2 ∷ []) (6500 ∷ []) (500 ∷ []) 468 0 (2 ∷ 0 ∷ 468 ∷ [])
    ∷ deal (2 ∷ []) (6500 ∷ []) (500 ∷ []) 0 0 (3 ∷ 0 ∷ 0 ∷ [])
    -- what is ahead just covers the demand, or lacks a kWh of it
    ∷ deal (2 ∷ 1 ∷ []) (10 ∷ 10 ∷ []) (8 ∷ 5 ∷ []) 5 0 (3 ∷ 5 ∷ 5 ∷ [])
    ∷ deal (2 ∷ 1 ∷ []) (10 ∷ 10 ∷ []) (8 ∷ 5 ∷ []) 6 0 (2 ∷ 5 ∷ 6 ∷ [])
    -- both groups fit; the dearer one lacks a kWh, or is reached with nothing left; the cheaper one shares, and the dearer isn't reached
    ∷ groups 12 0 (4 ∷ 7 ∷ 7 ∷ [])
    ∷ groups 11 0 (5 ∷ 6 ∷ 7 ∷ [])
    ∷ groups 5 0 (5 ∷ 0 ∷ 7 ∷ [])
    ∷ groups 5 1 (4 ∷ 5 ∷ 5 ∷ [])
    ∷ groups 4 1 (5 ∷ 4 ∷ 5 ∷ [])
    ∷ groups 4 0 (6 ∷ 0 ∷ 7 ∷ [])
    -- a group that asks for nothing fits
    ∷ deal (3 ∷ []) (10 ∷ []) (0 ∷ []) 0 0 (4 ∷ 0 ∷ 0 ∷ [])
    ∷ []

abbrev told : ContractReason → List ℕ
told r = contract_reason_number r ∷ first_value r ∷ second_value r ∷ []

pub contracts_hold : map (λ (r : ContractRow). told (contract_reason_by r.deals r.demand r.row)) contract_rows
    ≡ map (λ (r : ContractRow). r.due) contract_rows
unfolding contract_reason_by sum pick total list_to stands ahead_of firm_at rest_of cheaper_of group_of
contracts_hold = refl
