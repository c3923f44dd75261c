-- Document 01, 'Small cases on each side': the cases marked P, 1 to 8, with 10, 11, sheets that two refusals fit, and an edge, as one
-- statement over a table. Assumes nothing.
use Prim.Native.Nat.{ℕ, ◌*◌}
use mathlib.Core.List.{List, [], ◌∷◌, map}
use mathlib.Core.Path.{◌≡◌, refl}
use lib.IntN.{ℤ, pos, neg_ℤ}
use lib.ListN.{length}
use Rattle.sums.specs.Sums.{sum, peak, pick, keyed, stop, first}
use Rattle.sums.specs.Lists.{total, list_to}
use Rattle.refusals.specs.Refusals.{number_of}
use Rattle.share.specs.Share.{left_over, goes_before, rank_of, share_of}
use Rattle.merit.specs.Merit.{before, ahead, schedule, ideal_dispatch, hour_price}
use Rattle.deals.specs.Deals.{stands, ahead_of, firm_at, rest_of, cheaper_of, group_of, demanded_at, amount_at, amounts_of}
use Rattle.deals.specs.Hour.{own_to, own_count, own_of, hour_amount}
use Rattle.hour.specs.Sheet.{Sheet, agents, plants, contracts, retails, outside}
use Rattle.hour.specs.Balance.{referred, rounded, imported, exported, consumption, consumed, own_import}
use Rattle.hour.specs.Balance.{delivered, entering, leaving, losses, consumptions, loss_share, commercial}
use Rattle.hour.specs.Balance.{demands, hour_demand, injected, small_exports, dispatch_demand}
use Rattle.hour.specs.Lines.{scheduled, bolsa_price, amount, own, contracted, bought}
use Rattle.hour.specs.Lines.{sold, money_of, money, cells_per_agent, cell_of, figure}
use Rattle.hour.specs.Answer.{Lent, first_over, balance_verdict, cover_verdict, room_verdict, hour_verdict}

-- a retailer alone, with these boundary rows
abbrev rows_of : (imports exports factors : List ℕ) → Sheet
rows_of imports exports factors =
    record {
      kinds = 1 ∷ [];
      owners = map (λ (x : ℕ). 0) imports;
      factors = factors;
      imports = imports;
      exports = exports;
      holders = [];
      flags = [];
      must_run = [];
      offers = [];
      available = [];
      sellers = [];
      deals = record { buyers = []; kinds = []; prices = []; quantities = [] };
    }

-- what is asked: the consumption of a retailer with these rows, a sharing, or of a sheet its first refusal of 7 to 11 and 13 (0 with
-- none) where each lent list has so many cells, its amounts, what agent a sells, its price and schedule, its first line with the agents'
-- figures, its money
pub data Ask : Type 0 where
  consumption_of : (imports exports factors : List ℕ) → Ask
  shares_of : (amount : ℕ) (weights : List ℕ) → Ask
  refusal_of : (room : ℕ) → Sheet → Ask
  amounts_in : Sheet → Ask
  sold_by : Sheet → ℕ → Ask
  schedule_of : Sheet → Ask
  lines_of : Sheet → Ask
  money_in : Sheet → Ask

abbrev lists : (room : ℕ) → Lent
lists n =
    record {
      figures = list_to (λ k. 0) n;
      money = list_to (λ k. pos 0) n;
      schedule = list_to (λ k. 0) n;
      amounts = list_to (λ k. 0) n;
    }

unfoldable pub answer : Ask → List ℤ
answer (consumption_of is es fs) = pos (consumption (rows_of is es fs) 0) ∷ []
answer (shares_of a ws) = list_to (λ i. pos (share_of a ws i)) (length ws)
answer (refusal_of room s) = pos (number_of (hour_verdict s (lists room))) ∷ []
answer (amounts_in s) = list_to (λ j. pos (amount s j)) (contracts s)
answer (sold_by s a) = pos (sold s a) ∷ []
answer (schedule_of s) = pos (bolsa_price s) ∷ list_to (λ i. pos (scheduled s i)) (plants s)
answer (lines_of s) = pos (bolsa_price s) ∷ pos (hour_demand s) ∷ pos (losses s)
    ∷ list_to (λ k. pos (figure s k)) (cells_per_agent * agents s)
answer (money_in s) = list_to (money s) (agents s)

pub record Case : Type 0 where
  pub ask : Ask
  pub due : List ℤ

abbrev asked : Ask → List ℕ → Case
asked q l = record { ask = q; due = map pos l }

-- retailer 0 takes r, generator 1 delivers g and takes o; all plants and contracts are the generator's
abbrev pair_of : (delivers takes own : ℕ)
    → (flags musts offers available : List ℕ)
    → (kinds prices quantities : List ℕ)
    → Sheet
pair_of g r o flags musts offers available ks ps qs =
    record {
      kinds = 1 ∷ 2 ∷ [];
      owners = 0 ∷ 1 ∷ [];
      factors = 0 ∷ 0 ∷ [];
      imports = r ∷ o ∷ [];
      exports = 0 ∷ g ∷ [];
      holders = map (λ (x : ℕ). 1) offers;
      flags = flags;
      must_run = musts;
      offers = offers;
      available = available;
      sellers = map (λ (x : ℕ). 1) ks;
      deals = record { buyers = map (λ (x : ℕ). 0) ks; kinds = ks; prices = ps; quantities = qs };
    }

-- with no losses the reading is the demand
abbrev contracts_of : ℕ → (kinds prices quantities : List ℕ) → Sheet
contracts_of d ks ps qs = pair_of d d 0 (0 ∷ []) (0 ∷ []) (1 ∷ []) (d ∷ []) ks ps qs

abbrev plants_of : ℕ → (flags musts offers available : List ℕ) → Sheet
plants_of d flags musts offers available = pair_of d d 0 flags musts offers available [] [] []

-- retailers alone, one boundary row each
abbrev retailers_of : (takes delivers : List ℕ) → Sheet
retailers_of takes delivers =
    record {
      kinds = 1 ∷ 1 ∷ [];
      owners = 0 ∷ 1 ∷ [];
      factors = 0 ∷ 0 ∷ [];
      imports = takes;
      exports = delivers;
      holders = [];
      flags = [];
      must_run = [];
      offers = [];
      available = [];
      sellers = [];
      deals = record { buyers = []; kinds = []; prices = []; quantities = [] };
    }

abbrev own_importer : Sheet
own_importer = pair_of 13 10 3 (0 ∷ []) (0 ∷ []) (7 ∷ []) (13 ∷ []) (1 ∷ []) (5 ∷ []) (4 ∷ [])

-- P5: retailer 0 takes r, generator 1 delivers g from one plant, small generator 2 delivers x, takes o, and sells q to the retailer
abbrev small_of : (takes delivers small own flag must available quantity : ℕ) → Sheet
small_of r g x o flag must available q =
    record {
      kinds = 1 ∷ 2 ∷ 3 ∷ [];
      owners = 0 ∷ 1 ∷ 2 ∷ [];
      factors = 0 ∷ 0 ∷ 0 ∷ [];
      imports = r ∷ 0 ∷ o ∷ [];
      exports = 0 ∷ g ∷ x ∷ [];
      holders = 1 ∷ [];
      flags = flag ∷ [];
      must_run = must ∷ [];
      offers = 7 ∷ [];
      available = available ∷ [];
      sellers = 2 ∷ [];
      deals = record { buyers = 0 ∷ []; kinds = 1 ∷ []; prices = 5 ∷ []; quantities = q ∷ [] };
    }

-- 'One hour in full'
abbrev pub whole_hour : Sheet
whole_hour =
    record {
      kinds = 2 ∷ 1 ∷ 1 ∷ 2 ∷ [];
      owners = 0 ∷ 3 ∷ 1 ∷ 2 ∷ [];
      factors = 0 ∷ 0 ∷ 0 ∷ 1000 ∷ [];
      imports = 0 ∷ 10 ∷ 500 ∷ 400 ∷ [];
      exports = 600 ∷ 410 ∷ 0 ∷ 0 ∷ [];
      holders = 0 ∷ 3 ∷ 0 ∷ [];
      flags = 0 ∷ 0 ∷ 1 ∷ [];
      must_run = 0 ∷ 0 ∷ 0 ∷ [];
      offers = 5000 ∷ 8000 ∷ 9000 ∷ [];
      available = 700 ∷ 500 ∷ 100 ∷ [];
      sellers = 0 ∷ 3 ∷ 0 ∷ 3 ∷ [];
      deals = record {
        buyers = 1 ∷ 1 ∷ 1 ∷ 2 ∷ [];
        kinds = 1 ∷ 3 ∷ 3 ∷ 2 ∷ [];
        prices = 6000 ∷ 7000 ∷ 7000 ∷ 6500 ∷ [];
        quantities = 400 ∷ 100 ∷ 50 ∷ 500 ∷ [];
      };
    }

unfoldable pub cases : List Case
cases =
    -- 1
    asked (consumption_of (1 ∷ []) (0 ∷ []) (5000 ∷ [])) (2 ∷ [])
    ∷ asked (consumption_of (1 ∷ []) (0 ∷ []) (4999 ∷ [])) (1 ∷ [])
    ∷ asked (consumption_of (0 ∷ []) (0 ∷ []) (5000 ∷ [])) (0 ∷ [])
    -- P7: rounded once: two such rows make 3; what is taken off an import of 1.5 is an export of 1.4, not of 1, and leaves nothing
    ∷ asked (consumption_of (1 ∷ 1 ∷ []) (0 ∷ 0 ∷ []) (5000 ∷ 5000 ∷ [])) (3 ∷ [])
    ∷ asked (consumption_of (1 ∷ 0 ∷ []) (0 ∷ 1 ∷ []) (5000 ∷ 4000 ∷ [])) (0 ∷ [])
    -- 7 compares the exact sums: imports 1.4 twice and an export of 2.8, where rows rounded by themselves make 2 and 3; imports 1.5 twice
    -- and an export of 3.3, where they make 4 and 3
    ∷ asked (refusal_of 6 (rows_of (1 ∷ 1 ∷ 0 ∷ []) (0 ∷ 0 ∷ 2 ∷ []) (4000 ∷ 4000 ∷ 4000 ∷ []))) (0 ∷ [])
    ∷ asked (refusal_of 6 (rows_of (1 ∷ 1 ∷ 0 ∷ []) (0 ∷ 0 ∷ 3 ∷ []) (5000 ∷ 5000 ∷ 1000 ∷ []))) (7 ∷ [])
    -- 2
    ∷ asked (shares_of 10 (1 ∷ 1 ∷ 1 ∷ [])) (4 ∷ 3 ∷ 3 ∷ [])
    ∷ asked (shares_of 1 (1 ∷ 1 ∷ [])) (1 ∷ 0 ∷ [])
    ∷ asked (shares_of 7 (2 ∷ 0 ∷ 5 ∷ [])) (2 ∷ 0 ∷ 5 ∷ [])
    -- 3
    ∷ asked (amounts_in (contracts_of 100 (1 ∷ 2 ∷ []) (50 ∷ 60 ∷ []) (100 ∷ 70 ∷ []))) (100 ∷ 0 ∷ [])
    ∷ asked (amounts_in (contracts_of 101 (1 ∷ 2 ∷ []) (50 ∷ 60 ∷ []) (100 ∷ 70 ∷ []))) (100 ∷ 70 ∷ [])
    -- 4
    ∷ asked (amounts_in (contracts_of 100 (2 ∷ 1 ∷ []) (40 ∷ 50 ∷ []) (70 ∷ 100 ∷ []))) (70 ∷ 100 ∷ [])
    ∷ asked (sold_by (contracts_of 100 (2 ∷ 1 ∷ []) (40 ∷ 50 ∷ []) (70 ∷ 100 ∷ [])) 0) (70 ∷ [])
    -- 5
    ∷ asked (amounts_in (contracts_of 0 (3 ∷ []) (1 ∷ []) (5 ∷ []))) (0 ∷ [])
    -- 6: the price, then the schedule
    ∷ asked (schedule_of (plants_of 10 (0 ∷ 0 ∷ []) (0 ∷ 0 ∷ []) (7 ∷ 7 ∷ []) (4 ∷ 6 ∷ []))) (7 ∷ 4 ∷ 6 ∷ [])
    ∷ asked (schedule_of (plants_of 0 (0 ∷ 0 ∷ []) (0 ∷ 0 ∷ []) (7 ∷ 7 ∷ []) (4 ∷ 6 ∷ []))) (0 ∷ 0 ∷ 0 ∷ [])
    -- 7
    ∷ asked (schedule_of (plants_of 5 (1 ∷ 0 ∷ []) (0 ∷ 0 ∷ []) (3 ∷ 9 ∷ []) (5 ∷ 5 ∷ []))) (0 ∷ 5 ∷ 0 ∷ [])
    -- 8: settled; price, demand and losses, then loss share, own energy, generator import, contracted, bought and sold an agent
    ∷ asked (refusal_of 24 whole_hour) (0 ∷ [])
    ∷ asked (lines_of whole_hour)
    (8000 ∷ 1010 ∷ 60
    ∷ 0 ∷ 700 ∷ 0 ∷ 444 ∷ 0 ∷ 256
    ∷ 32 ∷ 532 ∷ 0 ∷ 532 ∷ 0 ∷ 0
    ∷ 28 ∷ 468 ∷ 0 ∷ 500 ∷ 0 ∷ 32
    ∷ 0 ∷ 310 ∷ 10 ∷ 588 ∷ 288 ∷ 0
    ∷ [])
    ∷ record { ask = money_in whole_hour; due = pos 2048000 ∷ pos 0 ∷ pos 256000 ∷ neg_ℤ (pos 2304000) ∷ [] }
    ∷ asked (amounts_in whole_hour) (400 ∷ 88 ∷ 44 ∷ 500 ∷ [])
    ∷ asked (schedule_of whole_hour) (8000 ∷ 700 ∷ 310 ∷ 0 ∷ [])
    -- 10
    ∷ asked (refusal_of 12 (pair_of 100 0 0 [] [] [] [] [] [] [])) (9 ∷ [])
    ∷ asked (refusal_of 12 (pair_of 0 100 0 [] [] [] [] [] [] [])) (8 ∷ [])
    -- 11
    ∷ asked (refusal_of 12 (pair_of 100 90 0 (0 ∷ []) (0 ∷ []) (1 ∷ []) (99 ∷ []) [] [] [])) (10 ∷ [])
    ∷ asked (refusal_of 12 (pair_of 100 90 0 (0 ∷ []) (0 ∷ []) (1 ∷ []) (100 ∷ []) [] [] [])) (0 ∷ [])
    -- two refusals fit, and the one that comes first is given: 7 with 8, 7 with 9, 8 with 10, 10 with 11
    ∷ asked (refusal_of 12 (retailers_of (0 ∷ 100 ∷ []) (10 ∷ 0 ∷ []))) (7 ∷ [])
    ∷ asked (refusal_of 12 (retailers_of (0 ∷ 0 ∷ []) (0 ∷ 10 ∷ []))) (7 ∷ [])
    ∷ asked (refusal_of 12 (pair_of 100 101 0 (0 ∷ []) (0 ∷ []) (1 ∷ []) (99 ∷ []) [] [] [])) (8 ∷ [])
    ∷ asked (refusal_of 11 (pair_of 100 90 0 (0 ∷ []) (0 ∷ []) (1 ∷ []) (99 ∷ []) [] [] [])) (10 ∷ [])
    ∷ asked (refusal_of 11 (pair_of 100 90 0 (0 ∷ []) (0 ∷ []) (1 ∷ []) (100 ∷ []) [] [] [])) (11 ∷ [])
    -- a generator may take more than it gives: 7 speaks of retailers
    ∷ asked (refusal_of 12 (pair_of 3 0 5 [] [] [] [] [] [] [])) (8 ∷ [])
    -- plants that must run: one dearer than all that is needed runs, and sets no price
    ∷ asked (schedule_of (plants_of 4 (0 ∷ 1 ∷ []) (0 ∷ 2 ∷ []) (3 ∷ 9 ∷ []) (5 ∷ 5 ∷ []))) (3 ∷ 2 ∷ 2 ∷ [])
    -- must-runs that sum to the demand, and to one more; must-run equal to availability
    ∷ asked (refusal_of 12 (plants_of 4 (1 ∷ 1 ∷ []) (1 ∷ 3 ∷ []) (3 ∷ 9 ∷ []) (5 ∷ 5 ∷ []))) (0 ∷ [])
    ∷ asked (schedule_of (plants_of 4 (1 ∷ 1 ∷ []) (1 ∷ 3 ∷ []) (3 ∷ 9 ∷ []) (5 ∷ 5 ∷ []))) (0 ∷ 1 ∷ 3 ∷ [])
    ∷ asked (refusal_of 12 (plants_of 4 (1 ∷ 1 ∷ []) (1 ∷ 4 ∷ []) (3 ∷ 9 ∷ []) (5 ∷ 5 ∷ []))) (13 ∷ [])
    -- 13 is told before 11
    ∷ asked (refusal_of 11 (plants_of 4 (1 ∷ 1 ∷ []) (1 ∷ 4 ∷ []) (3 ∷ 9 ∷ []) (5 ∷ 5 ∷ []))) (13 ∷ [])
    ∷ asked (schedule_of (plants_of 7 (1 ∷ 0 ∷ []) (5 ∷ 0 ∷ []) (9 ∷ 3 ∷ []) (5 ∷ 5 ∷ []))) (3 ∷ 5 ∷ 2 ∷ [])
    -- a generator that sells above its contracts buys its own import all the same: 3 bought and 9 sold, not 6 sold
    ∷ asked (lines_of own_importer) (7 ∷ 13 ∷ 0 ∷ 0 ∷ 10 ∷ 0 ∷ 4 ∷ 6 ∷ 0 ∷ 0 ∷ 13 ∷ 3 ∷ 4 ∷ 3 ∷ 9 ∷ [])
    ∷ record { ask = money_in own_importer; due = neg_ℤ (pos 42) ∷ pos 42 ∷ [] }
    -- P5: of 100 that are demanded a small generator delivers 40, so the plants 60; above its contract it sells, below it buys, and its
    -- import is bought besides
    ∷ asked (lines_of (small_of 100 60 40 0 0 0 60 30))
    (7 ∷ 100 ∷ 0
    ∷ 0 ∷ 100 ∷ 0 ∷ 30 ∷ 70 ∷ 0
    ∷ 0 ∷ 60 ∷ 0 ∷ 0 ∷ 0 ∷ 60
    ∷ 0 ∷ 40 ∷ 0 ∷ 30 ∷ 0 ∷ 10
    ∷ [])
    ∷ asked (lines_of (small_of 95 60 40 5 0 0 60 50))
    (7 ∷ 100 ∷ 0
    ∷ 0 ∷ 95 ∷ 0 ∷ 50 ∷ 45 ∷ 0
    ∷ 0 ∷ 60 ∷ 0 ∷ 0 ∷ 0 ∷ 60
    ∷ 0 ∷ 40 ∷ 5 ∷ 50 ∷ 15 ∷ 0
    ∷ [])
    ∷ record { ask = money_in (small_of 95 60 40 5 0 0 60 50); due = neg_ℤ (pos 315) ∷ pos 420 ∷ neg_ℤ (pos 105) ∷ [] }
    -- what it delivers is lost on the way like any generator's, and it carries none of that
    ∷ asked (lines_of (small_of 90 60 40 0 0 0 60 0))
    (7 ∷ 100 ∷ 10
    ∷ 10 ∷ 100 ∷ 0 ∷ 0 ∷ 100 ∷ 0
    ∷ 0 ∷ 60 ∷ 0 ∷ 0 ∷ 0 ∷ 60
    ∷ 0 ∷ 40 ∷ 0 ∷ 0 ∷ 0 ∷ 40
    ∷ [])
    -- refusals 10 and 13 at the demand less small generators' exports, on each side; small generators may meet it all
    ∷ asked (refusal_of 18 (small_of 100 60 40 0 0 0 60 0)) (0 ∷ [])
    ∷ asked (refusal_of 18 (small_of 100 60 40 0 0 0 59 0)) (10 ∷ [])
    ∷ asked (refusal_of 18 (small_of 100 60 40 0 1 60 70 0)) (0 ∷ [])
    ∷ asked (refusal_of 18 (small_of 100 60 40 0 1 61 70 0)) (13 ∷ [])
    ∷ asked (schedule_of (small_of 100 0 100 0 0 0 60 0)) (0 ∷ 0 ∷ [])
    -- 7 and 9 treat it as no retailer: it may take more than it gives, and it has no consumption
    ∷ asked (refusal_of 18 (small_of 0 0 3 5 0 0 0 0)) (8 ∷ [])
    ∷ asked (refusal_of 18 (small_of 0 0 5 3 0 0 0 0)) (9 ∷ [])
    ∷ []

pub cases_hold : map (λ (c : Case). answer c.ask) cases ≡ map (λ (c : Case). c.due) cases
unfolding answer cases sum peak pick keyed stop first total list_to left_over goes_before rank_of share_of before ahead schedule
    ideal_dispatch hour_price stands ahead_of firm_at rest_of cheaper_of group_of demanded_at amount_at amounts_of own_to own_count own_of
    hour_amount retails outside referred rounded imported exported consumption consumed own_import delivered entering leaving losses
    consumptions loss_share commercial demands hour_demand injected small_exports dispatch_demand scheduled bolsa_price amount own
    contracted bought sold money_of money cell_of figure first_over balance_verdict cover_verdict room_verdict hour_verdict
cases_hold = refl
