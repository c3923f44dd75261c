-- What the contracts of an hour are assigned (document 01, 'Contracts'), and when the call is turned away: the rows stand in a contract
-- section, 16 bytes each, as in an hour sheet. Assumes nothing.
use Rattle.std.specs.Prelude.{ℕ, ◌/◌, ◌%◌, ◌≡◌, Bool, ◌&&◌, List, [], ◌∷◌, length, ltb, leb, eqb}
use Rattle.sums.specs.Lists.{list_to, Filled}
use Rattle.refusals.specs.Refusals.{bad_layout, bad_contract, no_room, refused_unless, first_of, first_bad, cells}
use Rattle.refusals.specs.Refusals.{Verdict}
use Rattle.limits.specs.Limits.{most_agents, most_contracts, most_price, most_quantity}
use Rattle.octets.specs.Bytes.{words_at}
use Rattle.rows.specs.Rows.{contract_of}
use Rattle.limits.specs.declared.Contract.{Contract}
use Rattle.deals.specs.Deals.{fixed, demanded}
use Rattle.deals.specs.Hour.{Rows, hour_amount}

-- how many whole rows a section has, and row i of them
abbrev pub count_in : (section : List ℕ) → ℕ
count_in s = length s / 16

abbrev pub deal_in : (section : List ℕ) → ℕ → Contract
deal_in s i = contract_of (words_at s i)

-- its rows by their columns
unfoldable pub deals_in : (section : List ℕ) → Rows
deals_in s =
    record {
      buyers = list_to (λ j. (deal_in s j).buyer) (count_in s);
      kinds = list_to (λ j. (deal_in s j).kind) (count_in s);
      prices = list_to (λ j. (deal_in s j).price) (count_in s);
      quantities = list_to (λ j. (deal_in s j).quantity) (count_in s);
    }

-- the section is whole rows, and there are no more rows and agents than a sheet may have
abbrev pub section_fits : (section demands : List ℕ) → Bool
section_fits s ds = eqb (length s % 16) 0 && (leb (count_in s) most_contracts && leb (length ds) most_agents)

-- a row's buyer has a demand, and its kind, price and quantity are in their ranges
abbrev pub deal_good : (agents : ℕ) → Contract → Bool
deal_good agents k =
    ltb k.buyer agents && ((leb fixed k.kind && leb k.kind demanded)
    && (leb k.price most_price && leb k.quantity most_quantity))

abbrev pub deal_verdict : (section : List ℕ) → (agents : ℕ) → ℕ → Verdict
deal_verdict s agents i = refused_unless (deal_good agents (deal_in s i)) bad_contract i

abbrev pub layout_verdict : (section demands : List ℕ) → Verdict
layout_verdict s ds = refused_unless (section_fits s ds) bad_layout 0

-- the first bad row
abbrev pub deals_verdict : (section : List ℕ) → (agents : ℕ) → Verdict
deals_verdict s agents = first_bad (deal_verdict s agents) 0 (count_in s)

abbrev pub amounts_verdict : (section result : List ℕ) → Verdict
amounts_verdict s out = refused_unless (leb (count_in s) (length out)) no_room 0

-- in the order of their numbers
abbrev pub assign_verdict : (section demands result : List ℕ) → Verdict
assign_verdict s ds out = first_of (layout_verdict s ds ∷ deals_verdict s (length ds) ∷ amounts_verdict s out ∷ [])

-- what a call promises: the answer, and each row's amount in the lent list; a refusal writes no cell
pub record Assigned (section demands before : List ℕ) (r : Verdict) (after : List ℕ) : Type 0 where
  pub answer : r ≡ assign_verdict section demands before
  pub result : Filled 0 before after (cells (assign_verdict section demands before) (count_in section))
      (hour_amount (deals_in section) demands)
