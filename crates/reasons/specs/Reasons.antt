-- Document 02, P3, 'Why did I get this?': the reasons of plants and contracts, over the schedule and the amounts of document 01.
-- Assumes nothing.
use Rattle.std.specs.Prelude.{Result, Ok, Err}
use Rattle.refusals.specs.declared.Refusal.{Refusal}
use Rattle.std.specs.Prelude.{ℕ, ◌+◌, ◌-◌, ◌≤◌, ◌<◌, Bool, ◌&&◌, cond, List, [], ◌∷◌, ◌≡◌, ◌⊎◌, leb, ltb, eqb}
use Rattle.sums.specs.Lists.{at, total}
use Rattle.refusals.specs.Refusals.{not_there, refused_unless, first_of}
use Rattle.refusals.specs.Refusals.{Verdict}
use Rattle.share.specs.Share.{share_of}
use Rattle.deals.specs.Deals.{Deals, kind, price, quantity, fixed, conditional, demanded, ahead_of, rest_of, cheaper_of, group_of}
use Rattle.deals.specs.Hour.{own_count, own_of}
use Rattle.hour.specs.Sheet.{Sheet, plants, contracts}
use Rattle.hour.specs.Balance.{commercial}
use Rattle.hour.specs.Lines.{scheduled, bolsa_price, amount}
use Rattle.columns.specs.Columns.{hour_of, sheet_verdict}
use Rattle.reasons.specs.declared.PlantReason.{PlantReason}
use Rattle.reasons.specs.declared.PlantCase.{PlantCase}
use Rattle.reasons.specs.declared.Ahead.{Ahead}
use Rattle.reasons.specs.declared.Group.{Group}
use Rattle.reasons.specs.declared.ContractReason.{ContractReason}
use Rattle.reasons.specs.declared.ContractCase.{ContractCase}

-- ---- plants

abbrev pub plant_reason_number : PlantReason → ℕ
plant_reason_number PlantReason.Nothing = 1
plant_reason_number PlantReason.Full = 2
plant_reason_number PlantReason.Must = 3
plant_reason_number PlantReason.Last = 4
plant_reason_number PlantReason.Beyond = 5

-- what each reason says of a plant that is scheduled for q kWh, with the must-run m and the availability a: nothing available;
-- scheduled to the full; only its must-run, where that is above 0; partly scheduled, the last one needed; not reached
abbrev pub plant_holds : (q m a : ℕ) → PlantReason → Bool
plant_holds q m a PlantReason.Nothing = eqb a 0
plant_holds q m a PlantReason.Full = eqb q a
plant_holds q m a PlantReason.Must = ltb 0 m && eqb q m
plant_holds q m a PlantReason.Last = ltb 0 q && ltb q a
plant_holds q m a PlantReason.Beyond = eqb q 0

-- the first that holds
unfoldable pub plant_reason_by : (q m a : ℕ) → PlantReason
plant_reason_by q m a =
    cond (plant_holds q m a PlantReason.Nothing) PlantReason.Nothing
    (cond (plant_holds q m a PlantReason.Full) PlantReason.Full
    (cond (plant_holds q m a PlantReason.Must) PlantReason.Must
    (cond (plant_holds q m a PlantReason.Last) PlantReason.Last
    PlantReason.Beyond)))

-- of plant i of a sheet
abbrev pub holds_of : Sheet → ℕ → PlantReason → Bool
holds_of s i = plant_holds (scheduled s i) (at s.must_run i) (at s.available i)

unfoldable pub plant_reason : Sheet → ℕ → PlantReason
plant_reason s i = plant_reason_by (scheduled s i) (at s.must_run i) (at s.available i)

-- with the figures that it rests on: the schedule, the availability, the must-run and the offer of the plant, and the bolsa price
unfoldable pub plant_case : Sheet → ℕ → PlantCase
plant_case s i =
    record {
      reason = plant_reason s i;
      scheduled = scheduled s i;
      available = at s.available i;
      must = at s.must_run i;
      offer = at s.offers i;
      price = bolsa_price s;
    }

-- ---- contracts

abbrev pub contract_reason_number : ContractReason → ℕ
contract_reason_number ContractReason.Fixed = 1
contract_reason_number (ContractReason.Needed v) = 2
contract_reason_number (ContractReason.Covered v) = 3
contract_reason_number (ContractReason.Fits v) = 4
contract_reason_number (ContractReason.Shares v) = 5
contract_reason_number (ContractReason.Dearer v) = 6

-- the two values of a reason: the quantities ahead and the buyer's demand, or what remains when the group is reached and what the
-- group asks in all
abbrev pub first_value : ContractReason → ℕ
first_value ContractReason.Fixed = 0
first_value (ContractReason.Needed v) = v.ahead
first_value (ContractReason.Covered v) = v.ahead
first_value (ContractReason.Fits v) = v.remainder
first_value (ContractReason.Shares v) = v.remainder
first_value (ContractReason.Dearer v) = v.remainder

abbrev pub second_value : ContractReason → ℕ
second_value ContractReason.Fixed = 0
second_value (ContractReason.Needed v) = v.demand
second_value (ContractReason.Covered v) = v.demand
second_value (ContractReason.Fits v) = v.total
second_value (ContractReason.Shares v) = v.total
second_value (ContractReason.Dearer v) = v.total

-- of row i of a retailer's own contracts, where its commercial demand is d: what is ahead of it, and its price group, with what cheaper
-- groups leave of the remainder
abbrev pub ahead_at : Deals → (d i : ℕ) → Ahead
ahead_at s d i = record { ahead = ahead_of s i; demand = d }

abbrev pub cheaper_at : Deals → ℕ → ℕ
cheaper_at s i = cheaper_of s (price s i)

abbrev pub group_at : Deals → (d i : ℕ) → Group
group_at s d i = record { remainder = rest_of s d - cheaper_at s i; total = total (group_of s (price s i)) }

-- what each reason says of it: fixed; conditional and needed; conditional, and the energy ahead already covered the demand; demanded,
-- in a price group that fits; in the group that shares, with the remainder and the group's total; in a dearer group
abbrev pub ContractHolds : Deals → (d i : ℕ) → ContractReason → Type 0
ContractHolds s d i ContractReason.Fixed = kind s i ≡ fixed
ContractHolds s d i (ContractReason.Needed v) = (kind s i ≡ conditional) × (v ≡ ahead_at s d i) × (ahead_of s i < d)
ContractHolds s d i (ContractReason.Covered v) = (kind s i ≡ conditional) × (v ≡ ahead_at s d i) × (d ≤ ahead_of s i)
ContractHolds s d i (ContractReason.Fits v) =
    (kind s i ≡ demanded) × (v ≡ group_at s d i) × (cheaper_at s i + total (group_of s (price s i)) ≤ rest_of s d)
ContractHolds s d i (ContractReason.Shares v) =
    (kind s i ≡ demanded) × (v ≡ group_at s d i) × (cheaper_at s i ≤ rest_of s d)
    × (rest_of s d < cheaper_at s i + total (group_of s (price s i)))
ContractHolds s d i (ContractReason.Dearer v) =
    (kind s i ≡ demanded) × (v ≡ group_at s d i) × (rest_of s d < cheaper_at s i)

-- the one that holds: of kind 2 with the quantities x ahead of it; of kind 3, where cheaper groups ask x of the remainder r and its own
-- asks g
abbrev pub conditional_reason : (x d : ℕ) → ContractReason
conditional_reason x d =
    cond (ltb x d) (ContractReason.Needed (record { ahead = x; demand = d }))
    (ContractReason.Covered (record { ahead = x; demand = d }))

abbrev pub demanded_reason : (r x g : ℕ) → ContractReason
demanded_reason r x g =
    cond (leb (x + g) r) (ContractReason.Fits (record { remainder = r - x; total = g }))
    (cond (leb x r) (ContractReason.Shares (record { remainder = r - x; total = g }))
    (ContractReason.Dearer (record { remainder = r - x; total = g })))

unfoldable pub contract_reason_by : Deals → (d i : ℕ) → ContractReason
contract_reason_by s d i =
    cond (eqb (kind s i) fixed) ContractReason.Fixed
    (cond (eqb (kind s i) conditional) (conditional_reason (ahead_of s i) d)
    (demanded_reason (rest_of s d) (cheaper_at s i) (total (group_of s (price s i)))))

-- of contract j of a sheet: as one of its buyer's own
abbrev pub buyer_of : Sheet → ℕ → ℕ
buyer_of s j = at s.deals.buyers j

abbrev pub own_deals : Sheet → ℕ → Deals
own_deals s j = own_of s.deals (buyer_of s j)

abbrev pub own_place : Sheet → ℕ → ℕ
own_place s j = own_count s.deals.buyers (buyer_of s j) j

unfoldable pub contract_reason : Sheet → ℕ → ContractReason
contract_reason s j = contract_reason_by (own_deals s j) (commercial s (buyer_of s j)) (own_place s j)

-- with the figures that it rests on: the quantity, the amount assigned and the price
unfoldable pub contract_case : Sheet → ℕ → ContractCase
contract_case s j =
    record {
      reason = contract_reason s j;
      quantity = at s.deals.quantities j;
      amount = amount s j;
      price = at s.deals.prices j;
    }

-- ---- asking any bytes

-- the refusals of the sheet, then 12 for number i of n, place the number asked for
unfoldable pub why_verdict : List ℕ → (n i : ℕ) → Verdict
why_verdict bytes n i = first_of (sheet_verdict bytes ∷ refused_unless (ltb i n) not_there i ∷ [])

abbrev pub plant_told : Verdict → PlantCase → Result PlantCase Refusal
plant_told (Ok tt) k = Ok k
plant_told (Err r) k = Err r

unfoldable pub plant_why : List ℕ → ℕ → Result PlantCase Refusal
plant_why bytes i = plant_told (why_verdict bytes (plants (hour_of bytes)) i) (plant_case (hour_of bytes) i)

abbrev pub contract_told : Verdict → ContractCase → Result ContractCase Refusal
contract_told (Ok tt) k = Ok k
contract_told (Err r) k = Err r

unfoldable pub contract_why : List ℕ → ℕ → Result ContractCase Refusal
contract_why bytes j = contract_told (why_verdict bytes (contracts (hour_of bytes)) j) (contract_case (hour_of bytes) j)

-- ---- what a reason says of the schedule q of a plant with the must-run m and the availability a: nothing, all, just its must-run, more
-- than that and not all, or nothing
abbrev pub PlantSays : (q m a : ℕ) → PlantReason → Type 0
PlantSays q m a PlantReason.Nothing = (q ≡ 0) × (a ≡ 0)
PlantSays q m a PlantReason.Full = q ≡ a
PlantSays q m a PlantReason.Must = (q ≡ m) × (0 < m) × (m < a)
PlantSays q m a PlantReason.Last = (m < q) × (q < a)
PlantSays q m a PlantReason.Beyond = (q ≡ 0) × (m ≡ 0) × (0 < a)

-- and of the amount x of row i of a retailer's own contracts: all, nothing, or its share of the remainder
abbrev pub ContractSays : Deals → (i x : ℕ) → ContractReason → Type 0
ContractSays s i x ContractReason.Fixed = x ≡ quantity s i
ContractSays s i x (ContractReason.Needed v) = x ≡ quantity s i
ContractSays s i x (ContractReason.Covered v) = x ≡ 0
ContractSays s i x (ContractReason.Fits v) = x ≡ quantity s i
ContractSays s i x (ContractReason.Shares v) = x ≡ share_of v.remainder (group_of s (price s i)) i
ContractSays s i x (ContractReason.Dearer v) = x ≡ 0

-- plant i stands ahead of plant j: at a lower offer, or at the same offer in a lower row
abbrev pub StandsAhead : Sheet → (i j : ℕ) → Type 0
StandsAhead s i j =
    (at s.offers i < at s.offers j) ⊎ ((at s.offers i ≡ at s.offers j) × (i < j))
