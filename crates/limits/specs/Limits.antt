-- Document 01, 'The hour sheet': the limits of each kind of row. In the code they are associated constants of the row types;
-- the tests of this crate tie the two, so that neither can change alone. Assumes nothing.
use Rattle.std.specs.Prelude.{ℕ, Bool, ◌&&◌, leb}

-- how many rows a section may have
abbrev pub most_agents : ℕ
most_agents = 64

abbrev pub most_boundaries : ℕ
most_boundaries = 256

abbrev pub most_plants : ℕ
most_plants = 64

abbrev pub most_contracts : ℕ
most_contracts = 256

-- a boundary: the factor in ten-thousandths, import and export in kWh
abbrev pub most_factor : ℕ
most_factor = 5000

abbrev pub most_reading : ℕ
most_reading = 4000000

-- a plant: the offer price in centavos a kWh, the availability in kWh
abbrev pub most_offer : ℕ
most_offer = 1000000

abbrev pub most_available : ℕ
most_available = 4000000

-- a contract: the price in centavos a kWh, the quantity in kWh
abbrev pub most_price : ℕ
most_price = 1000000

abbrev pub most_quantity : ℕ
most_quantity = 4000000

-- no section has more rows than its limit
abbrev pub few_rows : (agents boundaries plants contracts : ℕ) → Bool
few_rows agents boundaries plants contracts =
    leb agents most_agents && leb boundaries most_boundaries && leb plants most_plants && leb contracts most_contracts
