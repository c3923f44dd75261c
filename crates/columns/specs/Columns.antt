-- Document 01, 'The hour sheet': the bytes of an accepted sheet, by the columns of each section. Assumes nothing.
use Rattle.std.specs.Prelude.{ℕ, List, [], ◌∷◌}
use Rattle.sums.specs.Lists.{list_to}
use Rattle.refusals.specs.Refusals.{first_of}
use Rattle.refusals.specs.Refusals.{Verdict}
use Rattle.sheet.specs.Asking.{agent_at, boundary_at, plant_at, contract_at}
use Rattle.sheet.specs.Reading.{counts_of, read_verdict}
use Rattle.sheet.specs.declared.Counts.{Counts}
use Rattle.hour.specs.Sheet.{Sheet}
use Rattle.hour.specs.Answer.{balance_verdict, cover_verdict}

unfoldable pub columns_of : List ℕ → Counts → Sheet
columns_of s c =
    record {
      kinds = list_to (λ a. (agent_at s c a).kind) c.agents;
      owners = list_to (λ j. (boundary_at s c j).agent) c.boundaries;
      factors = list_to (λ j. (boundary_at s c j).factor) c.boundaries;
      imports = list_to (λ j. (boundary_at s c j).import) c.boundaries;
      exports = list_to (λ j. (boundary_at s c j).export) c.boundaries;
      holders = list_to (λ i. (plant_at s c i).agent) c.plants;
      flags = list_to (λ i. (plant_at s c i).inflexible) c.plants;
      must_run = list_to (λ i. (plant_at s c i).must) c.plants;
      offers = list_to (λ i. (plant_at s c i).price) c.plants;
      available = list_to (λ i. (plant_at s c i).availability) c.plants;
      sellers = list_to (λ j. (contract_at s c j).seller) c.contracts;
      deals = record {
        buyers = list_to (λ j. (contract_at s c j).buyer) c.contracts;
        kinds = list_to (λ j. (contract_at s c j).kind) c.contracts;
        prices = list_to (λ j. (contract_at s c j).price) c.contracts;
        quantities = list_to (λ j. (contract_at s c j).quantity) c.contracts;
      };
    }

-- the sheet that the bytes hold
unfoldable pub hour_of : List ℕ → Sheet
hour_of bytes = columns_of bytes (counts_of bytes)

-- 'When the sheet is turned away', of the bytes alone: 1 to 6 are reading's, 7 to 9 the balance's, then 10 and 13; not 11, since no
-- list is lent
unfoldable pub sheet_verdict : List ℕ → Verdict
sheet_verdict bytes = first_of (read_verdict bytes ∷ balance_verdict (hour_of bytes) ∷ cover_verdict (hour_of bytes) ∷ [])
