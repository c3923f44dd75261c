-- What reading has made sure of in an accepted sheet (refusals 2 to 6), by its columns. Assumes nothing.
use Rattle.std.specs.Prelude.{ℕ, ◌≤◌, ◌<◌, true, false, ◌≡◌, length}
use Rattle.sums.specs.Lists.{at}
use Rattle.limits.specs.Limits.{most_agents, most_boundaries, most_plants, most_contracts, most_factor}
use Rattle.limits.specs.Limits.{most_reading, most_offer, most_available, most_price, most_quantity}
use Rattle.hour.specs.Sheet.{Sheet, agents, boundaries, plants, contracts, retails, outside}

-- the counts are within their limits
pub record Few (s : Sheet) : Type 0 where
  pub agents : agents s ≤ most_agents
  pub boundaries : boundaries s ≤ most_boundaries
  pub plants : plants s ≤ most_plants
  pub contracts : contracts s ≤ most_contracts

-- the columns of a section are equally long
pub record Whole (s : Sheet) : Type 0 where
  pub factors : length s.factors ≡ boundaries s
  pub imports : length s.imports ≡ boundaries s
  pub exports : length s.exports ≡ boundaries s
  pub flags : length s.flags ≡ plants s
  pub must_run : length s.must_run ≡ plants s
  pub offers : length s.offers ≡ plants s
  pub available : length s.available ≡ plants s
  pub buyers : length s.deals.buyers ≡ contracts s
  pub kinds : length s.deals.kinds ≡ contracts s
  pub prices : length s.deals.prices ≡ contracts s
  pub quantities : length s.deals.quantities ≡ contracts s

pub record BoundarySound (s : Sheet) (j : ℕ) : Type 0 where
  pub there : at s.owners j < agents s
  pub factor : at s.factors j ≤ most_factor
  pub import : at s.imports j ≤ most_reading
  pub export : at s.exports j ≤ most_reading
  pub unreferred : retails s (at s.owners j) ≡ false → at s.factors j ≡ 0

pub record PlantSound (s : Sheet) (i : ℕ) : Type 0 where
  pub there : at s.holders i < agents s
  pub generator : retails s (at s.holders i) ≡ false
  pub inside : outside s (at s.holders i) ≡ false
  pub flag : at s.flags i ≤ 1
  pub offer : at s.offers i ≤ most_offer
  pub available : at s.available i ≤ most_available
  pub must_run : at s.must_run i ≤ at s.available i

pub record ContractSound (s : Sheet) (j : ℕ) : Type 0 where
  pub seller_there : at s.sellers j < agents s
  pub generator : retails s (at s.sellers j) ≡ false
  pub buyer_there : at s.deals.buyers j < agents s
  pub retailer : retails s (at s.deals.buyers j) ≡ true
  pub least : 1 ≤ at s.deals.kinds j
  pub most : at s.deals.kinds j ≤ 3
  pub price : at s.deals.prices j ≤ most_price
  pub quantity : at s.deals.quantities j ≤ most_quantity

pub record Sound (s : Sheet) : Type 0 where
  pub few : Few s
  pub whole : Whole s
  pub boundary : (j : ℕ) → j < boundaries s → BoundarySound s j
  pub plant : (i : ℕ) → i < plants s → PlantSound s i
  pub contract : (j : ℕ) → j < contracts s → ContractSound s j
