-- The columns hold what the rows say, and those of an accepted sheet are sound. Assumes nothing.
use Rattle.std.specs.Prelude.{Ok}
use Prim.Native.Nat.{ℕ, ◌<◌}
use native.Mathlib.Omega.{arith}
use mathlib.Core.List.{List}
use mathlib.Core.Path.{◌≡◌, ap, ◌∙◌, sym}
use Rattle.sums.specs.Lists.{at}
use Rattle.sums.proofs.Lists.{length_list_to, get_d_list_to}
use Rattle.rows.specs.Rows.{carries_losses, is_outside}
use Rattle.rows.proofs.ByKind.{holder_carries_none, holder_inside, seller_carries_none, buyer_carries}
use Rattle.sheet.specs.Reading.{kind_at, read_of}
use Rattle.sheet.specs.Asking.{agent_at, boundary_at, plant_at, contract_at}
use Rattle.sheet.specs.declared.Counts.{Counts}
use Rattle.sheet.proofs.Accepted.{kind_of_lem, accepted_counts, accepted_few, accepted_boundary, accepted_plant, accepted_contract}
use Rattle.hour.specs.Sheet.{agents, boundaries, plants, contracts, retails, outside}
use Rattle.hour.specs.Sound.{Sound, BoundarySound, PlantSound, ContractSound}
use Rattle.columns.specs.Columns.{columns_of, hour_of}

-- ---- how many rows each section has
module _ (s : List ℕ) (c : Counts) where
  pub agents_long : agents (columns_of s c) ≡ c.agents
  unfolding columns_of
  agents_long = length_list_to _ _

  pub boundaries_long : boundaries (columns_of s c) ≡ c.boundaries
  unfolding columns_of
  boundaries_long = length_list_to _ _

  pub plants_long : plants (columns_of s c) ≡ c.plants
  unfolding columns_of
  plants_long = length_list_to _ _

  pub contracts_long : contracts (columns_of s c) ≡ c.contracts
  unfolding columns_of
  contracts_long = length_list_to _ _

  -- ---- what stands in each column
  pub kind_at_lem : (a : ℕ) → a < c.agents → at (columns_of s c).kinds a ≡ (agent_at s c a).kind
  unfolding columns_of
  kind_at_lem a l = get_d_list_to 0 _ _ a l

  module _ (j : ℕ) (l : j < c.boundaries) where
    pub owner_at : at (columns_of s c).owners j ≡ (boundary_at s c j).agent
    unfolding columns_of
    owner_at = get_d_list_to 0 _ _ j l

    pub factor_at : at (columns_of s c).factors j ≡ (boundary_at s c j).factor
    unfolding columns_of
    factor_at = get_d_list_to 0 _ _ j l

    pub import_at : at (columns_of s c).imports j ≡ (boundary_at s c j).import
    unfolding columns_of
    import_at = get_d_list_to 0 _ _ j l

    pub export_at : at (columns_of s c).exports j ≡ (boundary_at s c j).export
    unfolding columns_of
    export_at = get_d_list_to 0 _ _ j l

  module _ (i : ℕ) (l : i < c.plants) where
    pub holder_at : at (columns_of s c).holders i ≡ (plant_at s c i).agent
    unfolding columns_of
    holder_at = get_d_list_to 0 _ _ i l

    pub flag_at : at (columns_of s c).flags i ≡ (plant_at s c i).inflexible
    unfolding columns_of
    flag_at = get_d_list_to 0 _ _ i l

    pub must_at : at (columns_of s c).must_run i ≡ (plant_at s c i).must
    unfolding columns_of
    must_at = get_d_list_to 0 _ _ i l

    pub offer_at : at (columns_of s c).offers i ≡ (plant_at s c i).price
    unfolding columns_of
    offer_at = get_d_list_to 0 _ _ i l

    pub available_at : at (columns_of s c).available i ≡ (plant_at s c i).availability
    unfolding columns_of
    available_at = get_d_list_to 0 _ _ i l

  module _ (j : ℕ) (l : j < c.contracts) where
    pub seller_at : at (columns_of s c).sellers j ≡ (contract_at s c j).seller
    unfolding columns_of
    seller_at = get_d_list_to 0 _ _ j l

    pub buyer_at : at (columns_of s c).deals.buyers j ≡ (contract_at s c j).buyer
    unfolding columns_of
    buyer_at = get_d_list_to 0 _ _ j l

    pub deal_at : at (columns_of s c).deals.kinds j ≡ (contract_at s c j).kind
    unfolding columns_of
    deal_at = get_d_list_to 0 _ _ j l

    pub price_at_lem : at (columns_of s c).deals.prices j ≡ (contract_at s c j).price
    unfolding columns_of
    price_at_lem = get_d_list_to 0 _ _ j l

    pub quantity_at_lem : at (columns_of s c).deals.quantities j ≡ (contract_at s c j).quantity
    unfolding columns_of
    quantity_at_lem = get_d_list_to 0 _ _ j l

  -- ---- kinds of agents
  module _ (x a : ℕ) (p : x ≡ a) (l : a < c.agents) where
    kind_is : at (columns_of s c).kinds x ≡ kind_at s c a
    kind_is = ap (at (columns_of s c).kinds) p ∙ kind_at_lem a l ∙ sym (kind_of_lem s c a l)

    retails_is : retails (columns_of s c) x ≡ carries_losses (kind_at s c a)
    unfolding retails
    retails_is = ap carries_losses kind_is

    outside_is : outside (columns_of s c) x ≡ is_outside (kind_at s c a)
    unfolding outside
    outside_is = ap is_outside kind_is

  -- ---- the columns of an accepted sheet are sound
  module _ (e : read_of s ≡ Ok c) where
    boundary_sound : (j : ℕ) → j < boundaries (columns_of s c) → BoundarySound (columns_of s c) j
    boundary_sound j m =
        let l : j < c.boundaries = omega (arith, boundaries_long) in
        let r = accepted_boundary s c e j l in
        record {
          there = omega (arith, owner_at j l, agents_long, r.there);
          factor = omega (arith, factor_at j l, r.fits.factor);
          import = omega (arith, import_at j l, r.fits.import);
          export = omega (arith, export_at j l, r.fits.export);
          unreferred =
              λ g. omega (
                arith,
                factor_at j l,
                r.fits.unreferred (sym (retails_is _ _ (owner_at j l) r.there) ∙ g),
              );
        }

    plant_sound : (i : ℕ) → i < plants (columns_of s c) → PlantSound (columns_of s c) i
    plant_sound i m =
        let l : i < c.plants = omega (arith, plants_long) in
        let r = accepted_plant s c e i l in
        record {
          there = omega (arith, holder_at i l, agents_long, r.there);
          generator = retails_is _ _ (holder_at i l) r.there ∙ holder_carries_none (kind_at s c _) r.fits.holder;
          inside = outside_is _ _ (holder_at i l) r.there ∙ holder_inside (kind_at s c _) r.fits.holder;
          flag = omega (arith, flag_at i l, r.fits.flag);
          offer = omega (arith, offer_at i l, r.fits.price);
          available = omega (arith, available_at i l, r.fits.availability);
          must_run = omega (arith, must_at i l, available_at i l, r.fits.within);
        }

    contract_sound : (j : ℕ) → j < contracts (columns_of s c) → ContractSound (columns_of s c) j
    contract_sound j m =
        let l : j < c.contracts = omega (arith, contracts_long) in
        let r = accepted_contract s c e j l in
        record {
          seller_there = omega (arith, seller_at j l, agents_long, r.seller_there);
          generator = retails_is _ _ (seller_at j l) r.seller_there ∙ seller_carries_none (kind_at s c _) r.fits.sells;
          buyer_there = omega (arith, buyer_at j l, agents_long, r.buyer_there);
          retailer = retails_is _ _ (buyer_at j l) r.buyer_there ∙ buyer_carries (kind_at s c _) r.fits.buys;
          least = omega (arith, deal_at j l, r.fits.least);
          most = omega (arith, deal_at j l, r.fits.most);
          price = omega (arith, price_at_lem j l, r.fits.price);
          quantity = omega (arith, quantity_at_lem j l, r.fits.quantity);
        }

    pub sound : Sound (columns_of s c)
    unfolding columns_of
    sound =
        let f = accepted_few s c e in
        record {
          few = record {
            agents = omega (arith, agents_long, f.agents);
            boundaries = omega (arith, boundaries_long, f.boundaries);
            plants = omega (arith, plants_long, f.plants);
            contracts = omega (arith, contracts_long, f.contracts);
          };
          whole = record {
            factors = length_list_to _ _ ∙ sym boundaries_long;
            imports = length_list_to _ _ ∙ sym boundaries_long;
            exports = length_list_to _ _ ∙ sym boundaries_long;
            flags = length_list_to _ _ ∙ sym plants_long;
            must_run = length_list_to _ _ ∙ sym plants_long;
            offers = length_list_to _ _ ∙ sym plants_long;
            available = length_list_to _ _ ∙ sym plants_long;
            buyers = length_list_to _ _ ∙ sym contracts_long;
            kinds = length_list_to _ _ ∙ sym contracts_long;
            prices = length_list_to _ _ ∙ sym contracts_long;
            quantities = length_list_to _ _ ∙ sym contracts_long;
          };
          boundary = boundary_sound;
          plant = plant_sound;
          contract = contract_sound;
        }

    -- the sheet that its bytes hold
    pub hour_is : hour_of s ≡ columns_of s c
    unfolding hour_of
    hour_is = ap (columns_of s) (sym (accepted_counts s c e))
