-- What reading has made sure of in an accepted sheet, and the way back: a sheet of which all this holds is accepted. Assumes nothing.
use Rattle.std.specs.Prelude.{Ok, Err}
use Prim.Native.Nat.{ℕ, ◌+◌, ◌%◌, ◌≤◌, ◌<◌}
use mathlib.Core.Path.{◌≡◌, refl, sym, subst}
use mathlib.Core.Bool.{true, ◌&&◌}
use mathlib.Core.List.{List}
use native.Mathlib.Omega.{arith}
use native.Mathlib.Decide.{dec_lt}
use lib.ListN.{length}
use lib.Dec.{leb, eqb}
use borrow.Author.Tests.{leb-true, eqb-true, le-leb, eq-eqb, lt-ltb, le-ltb}
use Rattle.refusals.specs.declared.Refusal.{Refusal}
use Rattle.refusals.specs.Refusals.{Verdict}
use Rattle.limits.specs.Limits.{most_agents, most_boundaries, most_plants, most_contracts}
use Rattle.octets.specs.Bytes.{words_at}
use Rattle.rows.specs.Rows.{is_agent, agent_blank, boundary_blank, agent_good, boundary_good, plant_good, contract_good}
use Rattle.sums.proofs.Tests.{and_left, and_right}
use Rattle.rows.proofs.ByKind.{agent_known, holder_known, seller_known, buyer_known}
use Rattle.rows.proofs.Good.{AgentBlank, agent_blank_lem, boundary_blank_lem, BoundaryFits}
use Rattle.rows.proofs.Good.{boundary_fits, PlantFits, plant_fits, ContractFits, contract_fits}
use Rattle.sheet.specs.Reading.{boundary_start, sheet_length, longest, length_good, counts_of}
use Rattle.sheet.specs.Reading.{counts_good, distances_good, layout_good, kind_at, agent_verdict, boundary_verdict}
use Rattle.sheet.specs.Reading.{plant_verdict, contract_verdict, checks, read_verdict, reading, read_of}
use Rattle.sheet.specs.Asking.{agent_at, boundary_at, plant_at, contract_at}
use Rattle.sheet.specs.declared.Counts.{Counts}
use Rattle.refusals.proofs.Fine.{fine_parts, parts_fine, fine_test, each_fine, all_fine}

-- every test of reading holds
pub record Whole (s : List ℕ) (c : Counts) : Type 0 where
  pub counts : counts_of s ≡ c
  pub few : counts_good c ≡ true
  pub long : length s ≡ sheet_length c
  pub distances : distances_good s c ≡ true
  pub agent_blanks : (i : ℕ) → i < c.agents → agent_blank (words_at s i) ≡ true
  pub agents : (i : ℕ) → i < c.agents → agent_good (agent_at s c i) ≡ true
  pub boundary_blanks : (i : ℕ) → i < c.boundaries → boundary_blank (words_at s (boundary_start c + i)) ≡ true
  pub boundaries : (i : ℕ)
      → i < c.boundaries
      → boundary_good (kind_at s c (boundary_at s c i).agent) (boundary_at s c i) ≡ true
  pub plants : (i : ℕ) → i < c.plants → plant_good (kind_at s c (plant_at s c i).agent) (plant_at s c i) ≡ true
  pub contracts : (i : ℕ) → i < c.contracts
      → contract_good (kind_at s c (contract_at s c i).seller) (kind_at s c (contract_at s c i).buyer) (contract_at s c i)
      ≡ true

-- the counts are within their limits
pub record Few (c : Counts) : Type 0 where
  pub agents : c.agents ≤ most_agents
  pub boundaries : c.boundaries ≤ most_boundaries
  pub plants : c.plants ≤ most_plants
  pub contracts : c.contracts ≤ most_contracts

pub good_few : (c : Counts) → counts_good c ≡ true → Few c
good_few c e₄ =
    let a = leb c.agents most_agents in
    let b = leb c.boundaries most_boundaries in
    let p = leb c.plants most_plants in
    let k = leb c.contracts most_contracts in
    let e₃ = and_left (a && b && p) k e₄ in
    let e₂ = and_left (a && b) p e₃ in
    record {
      agents = leb-true _ _ (and_left a b e₂);
      boundaries = leb-true _ _ (and_right a b e₂);
      plants = leb-true _ _ (and_right (a && b) p e₃);
      contracts = leb-true _ _ (and_right (a && b && p) k e₄);
    }

pub few_good : (c : Counts) → Few c → counts_good c ≡ true
few_good c f =
    rw (le-leb _ _ f.agents, le-leb _ _ f.boundaries, le-leb _ _ f.plants, le-leb _ _ f.contracts)

-- a length that the layout says is never refused by 1
layout_length : (n : ℕ) (c : Counts) → counts_good c ≡ true → n ≡ sheet_length c → length_good n ≡ true
layout_length n c e h =
    let f = good_few c e in
    let m : n % 16 ≡ 0 = omega arith in
    rw (le-leb 32 n (omega arith), le-leb n longest (omega arith), eq-eqb (n % 16) 0 m)

-- ---- from an accepted sheet
fine_reading : (v : Verdict) (k c : Counts) → reading v k ≡ Ok c → (v ≡ Ok tt) × (k ≡ c)
fine_reading (Ok tt) k c e = (refl, cc)
fine_reading (Err r) k c e = let z : ◌≡◌ {A = ℕ} 0 1 = cc in let no : ⊥ = omega arith in absurd no

module _ (s : List ℕ) where
  fine_whole : read_verdict s ≡ Ok tt → Whole s (counts_of s)
  unfolding read_verdict layout_good agent_verdict boundary_verdict plant_verdict contract_verdict
  fine_whole e =
      let c = counts_of s in
      let all = fine_parts (checks s) e in
      let l = fine_test (counts_good c && eqb (length s) (sheet_length c) && distances_good s c) _ _ all.1.0 in
      let m = and_left (counts_good c && eqb (length s) (sheet_length c)) (distances_good s c) l in
      let a = all.1.1.0 in
      let b = all.1.1.1.0 in
      let p = all.1.1.1.1.0 in
      let k = all.1.1.1.1.1.0 in
      record {
        counts = refl;
        few = and_left (counts_good c) (eqb (length s) (sheet_length c)) m;
        long = eqb-true _ _ (and_right (counts_good c) (eqb (length s) (sheet_length c)) m);
        distances = and_right (counts_good c && eqb (length s) (sheet_length c)) (distances_good s c) l;
        agent_blanks =
            λ i h. and_left (agent_blank (words_at s i)) _ (fine_test _ _ _ (each_fine (agent_verdict s c) _ i a h));
        agents = λ i h. and_right (agent_blank (words_at s i)) _ (fine_test _ _ _ (each_fine (agent_verdict s c) _ i a h));
        boundary_blanks = λ i h.
            and_left (boundary_blank (words_at s (boundary_start c + i))) _
            (fine_test _ _ _ (each_fine (boundary_verdict s c) _ i b h));
        boundaries = λ i h.
            and_right (boundary_blank (words_at s (boundary_start c + i))) _
            (fine_test _ _ _ (each_fine (boundary_verdict s c) _ i b h));
        plants = λ i h. fine_test _ _ _ (each_fine (plant_verdict s c) _ i p h);
        contracts = λ i h. fine_test _ _ _ (each_fine (contract_verdict s c) _ i k h);
      }

  -- ---- and back
  whole_fine : Whole s (counts_of s) → read_verdict s ≡ Ok tt
  unfolding read_verdict layout_good agent_verdict boundary_verdict plant_verdict contract_verdict
  whole_fine w =
      let c = counts_of s in
      parts_fine (checks s) (
        rw (layout_length (length s) c w.few w.long),
        (
          rw (w.few, eq-eqb _ _ w.long, w.distances),
          (
            all_fine (agent_verdict s c) c.agents (λ i h. rw (w.agent_blanks i h, w.agents i h)),
            (
              all_fine (boundary_verdict s c) c.boundaries (λ i h. rw (w.boundary_blanks i h, w.boundaries i h)),
              (
                all_fine (plant_verdict s c) c.plants (λ i h. rw (w.plants i h)),
                (
                  all_fine (contract_verdict s c) c.contracts (λ i h. rw (w.contracts i h)),
                  tt,
                ),
              ),
            ),
          ),
        ),
      )

-- an accepted sheet is whole
pub accepted_whole : (s : List ℕ) (c : Counts) → read_of s ≡ Ok c → Whole s c
unfolding read_of
accepted_whole s c e =
    let h = fine_reading (read_verdict s) (counts_of s) c e in
    subst (λ (k : Counts). Whole s k) h.1 (fine_whole s h.0)

-- a refused sheet has reading's refusal
pub refused_verdict : (s : List ℕ) (r : Refusal) → read_of s ≡ Err r → read_verdict s ≡ Err r
unfolding read_of
refused_verdict s r e = go (read_verdict s) e
  where
    go : (v : Verdict) → reading v (counts_of s) ≡ Err r → v ≡ Err r
    go (Ok tt) e = let z : ◌≡◌ {A = ℕ} 0 1 = cc in absurd (omega arith)
    go (Err q) e = cc

-- and a whole sheet is accepted
pub whole_accepted : (s : List ℕ) (c : Counts) → Whole s c → read_of s ≡ Ok c
unfolding read_of
whole_accepted s c w =
    let h = whole_fine s (subst (λ (k : Counts). Whole s k) (sym w.counts) w) in
    rw (h, w.counts)

-- ---- kinds of agents
pub kind_of_lem : (s : List ℕ) (c : Counts) (a : ℕ) → a < c.agents → kind_at s c a ≡ (agent_at s c a).kind
unfolding kind_at
kind_of_lem s c a h = rw (lt-ltb _ _ h)

pub no_kind : (s : List ℕ) (c : Counts) (a : ℕ) → c.agents ≤ a → kind_at s c a ≡ 0
unfolding kind_at
no_kind s c a h = rw (le-ltb _ _ h)

-- whoever has a kind is there
pub kind_there : (s : List ℕ) (c : Counts) (a : ℕ) → 0 < kind_at s c a → a < c.agents
kind_there s c a h = go (dec_lt a c.agents)
  where
    go : Dec (a < c.agents) → a < c.agents
    go (yes l) = l
    go (no l) = absurd (omega (arith, no_kind s c a (omega arith)))

pub agent_there : (s : List ℕ) (c : Counts) (a : ℕ) → is_agent (kind_at s c a) ≡ true → a < c.agents
agent_there s c a e = kind_there s c a (agent_known _ e).least

-- ---- the rows of an accepted sheet, as plain facts
pub record AgentSound (s : List ℕ) (c : Counts) (i : ℕ) : Type 0 where
  pub blank : AgentBlank (words_at s i)
  pub kind : is_agent (agent_at s c i).kind ≡ true
  pub known : kind_at s c i ≡ (agent_at s c i).kind

pub record BoundarySound (s : List ℕ) (c : Counts) (i : ℕ) : Type 0 where
  pub blank : (words_at s (boundary_start c + i)).second ≡ 0
  pub there : (boundary_at s c i).agent < c.agents
  pub fits : BoundaryFits (kind_at s c (boundary_at s c i).agent) (boundary_at s c i)

pub record PlantSound (s : List ℕ) (c : Counts) (i : ℕ) : Type 0 where
  pub there : (plant_at s c i).agent < c.agents
  pub fits : PlantFits (kind_at s c (plant_at s c i).agent) (plant_at s c i)

pub record ContractSound (s : List ℕ) (c : Counts) (i : ℕ) : Type 0 where
  pub seller_there : (contract_at s c i).seller < c.agents
  pub buyer_there : (contract_at s c i).buyer < c.agents
  pub fits : ContractFits (kind_at s c (contract_at s c i).seller) (kind_at s c (contract_at s c i).buyer)
      (contract_at s c i)

module _ (s : List ℕ) (c : Counts) (e : read_of s ≡ Ok c) where
  pub accepted_counts : c ≡ counts_of s
  accepted_counts = sym (accepted_whole s c e).counts

  pub accepted_fine : read_verdict s ≡ Ok tt
  unfolding read_of
  accepted_fine = (fine_reading (read_verdict s) (counts_of s) c e).0

  pub accepted_length : length s ≡ sheet_length c
  accepted_length = (accepted_whole s c e).long

  pub accepted_few : Few c
  accepted_few = good_few c (accepted_whole s c e).few

  pub accepted_agent : (i : ℕ) → i < c.agents → AgentSound s c i
  accepted_agent i h =
      let w = accepted_whole s c e in
      record {
        blank = agent_blank_lem (words_at s i) (w.agent_blanks i h);
        kind = w.agents i h;
        known = kind_of_lem s c i h;
      }

  pub accepted_boundary : (i : ℕ) → i < c.boundaries → BoundarySound s c i
  accepted_boundary i h =
      let w = accepted_whole s c e in
      let f = boundary_fits (kind_at s c (boundary_at s c i).agent) (boundary_at s c i) (w.boundaries i h) in
      record {
        blank = boundary_blank_lem (words_at s (boundary_start c + i)) (w.boundary_blanks i h);
        there = agent_there s c _ f.known;
        fits = f;
      }

  pub accepted_plant : (i : ℕ) → i < c.plants → PlantSound s c i
  accepted_plant i h =
      let w = accepted_whole s c e in
      let f = plant_fits (kind_at s c (plant_at s c i).agent) (plant_at s c i) (w.plants i h) in
      record {
        there = kind_there s c _ (holder_known _ f.holder).least;
        fits = f;
      }

  pub accepted_contract : (i : ℕ) → i < c.contracts → ContractSound s c i
  accepted_contract i h =
      let w = accepted_whole s c e in
      let k = contract_at s c i in
      let f = contract_fits (kind_at s c k.seller) (kind_at s c k.buyer) k (w.contracts i h) in
      record {
        seller_there = kind_there s c _ (seller_known _ f.sells).least;
        buyer_there = kind_there s c _ (buyer_known _ f.buys).least;
        fits = f;
      }
