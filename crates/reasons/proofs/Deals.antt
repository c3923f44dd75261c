-- One reason holds of a contract and no other, and it says what the amount is. Assumes nothing.
use Prim.Native.Nat.{ℕ, ◌+◌, ◌≤◌, ◌<◌}
use native.Mathlib.Omega.{arith}
use native.Mathlib.Decide.{dec_lt, ℕ_discrete}
use mathlib.Core.Path.{◌≡◌, refl, ◌∙◌}
use borrow.Author.Tests.{eq-eqb, ne_eqb, lt-ltb, le-ltb, le-leb, lt-leb}
use Rattle.sums.specs.Lists.{at, total}
use Rattle.sums.proofs.Lists.{get_d_list_to}
use Rattle.deals.specs.Deals.{Deals, kind, price, fixed, conditional, demanded, ahead_of, rest_of, group_of, amount_at}
use Rattle.deals.proofs.Firm.{firm_fixed, firm_needed, firm_covered}
use Rattle.deals.proofs.Demanded.{demanded_full, demanded_shared, demanded_dearer, amount_demanded, amount_firm}
use Rattle.deals.proofs.Own.{own_kind}
use Rattle.deals.proofs.Hours.{hour_is}
use Rattle.hour.specs.Sheet.{Sheet, agents, contracts}
use Rattle.hour.specs.Sound.{Sound}
use Rattle.hour.specs.Balance.{commercial, demands}
use Rattle.hour.specs.Lines.{amount}
use Rattle.reasons.specs.Reasons.{cheaper_at, ContractHolds, contract_reason_by, ContractSays}
use Rattle.reasons.specs.Reasons.{buyer_of, own_deals, own_place, contract_reason}
use Rattle.reasons.specs.declared.ContractReason.{ContractReason}

module _ (s : Deals) (d i : ℕ) where
  abbrev all : ℕ
  all = total (group_of s (price s i))

  -- ONE ALWAYS HOLDS, of the three kinds: the one named
  pub contract_holds : 1 ≤ kind s i → kind s i ≤ 3 → ContractHolds s d i (contract_reason_by s d i)
  unfolding contract_reason_by
  contract_holds low high =
      go (ℕ_discrete (kind s i) fixed) (ℕ_discrete (kind s i) conditional) (dec_lt (ahead_of s i) d)
      (dec_lt (rest_of s d) (cheaper_at s i + all)) (dec_lt (rest_of s d) (cheaper_at s i))
    where
      go : Dec (kind s i ≡ fixed) → Dec (kind s i ≡ conditional) → Dec (ahead_of s i < d)
          → Dec (rest_of s d < cheaper_at s i + all) → Dec (rest_of s d < cheaper_at s i)
          → ContractHolds s d i (contract_reason_by s d i)
      go (yes e) f x y z = rw (eq-eqb (kind s i) fixed e) e
      go (no e) (yes f) (yes x) y z =
          rw (ne_eqb (kind s i) fixed e, eq-eqb (kind s i) conditional f, lt-ltb (ahead_of s i) d x) (f, refl, x)
      go (no e) (yes f) (no x) y z =
          let k : d ≤ ahead_of s i = omega arith in
          rw (ne_eqb (kind s i) fixed e, eq-eqb (kind s i) conditional f, le-ltb (ahead_of s i) d k) (f, refl, k)
      go (no e) (no f) x (no y) z =
          let k : cheaper_at s i + all ≤ rest_of s d = omega arith in
          let g : kind s i ≡ demanded = omega arith in
          rw (ne_eqb (kind s i) fixed e, ne_eqb (kind s i) conditional f, le-leb (cheaper_at s i + all) (rest_of s d) k)
          (g, refl, k)
      go (no e) (no f) x (yes y) (no z) =
          let k : cheaper_at s i ≤ rest_of s d = omega arith in
          let g : kind s i ≡ demanded = omega arith in
          rw (
            ne_eqb (kind s i) fixed e,
            ne_eqb (kind s i) conditional f,
            lt-leb (cheaper_at s i + all) (rest_of s d) y,
            le-leb (cheaper_at s i) (rest_of s d) k,
          ) (g, refl, k, y)
      go (no e) (no f) x (yes y) (yes z) =
          let g : kind s i ≡ demanded = omega arith in
          rw (
            ne_eqb (kind s i) fixed e,
            ne_eqb (kind s i) conditional f,
            lt-leb (cheaper_at s i + all) (rest_of s d) y,
            lt-leb (cheaper_at s i) (rest_of s d) z,
          ) (g, refl, z)

  -- NO OTHER HOLDS
  pub contract_only : (r : ContractReason) → ContractHolds s d i r → r ≡ contract_reason_by s d i
  unfolding contract_reason_by
  contract_only ContractReason.Fixed h = rw (eq-eqb (kind s i) fixed h)
  contract_only (ContractReason.Needed v) h =
      let n : kind s i ≡ fixed → ⊥ = λ z. omega arith in
      rw (h.1, ne_eqb (kind s i) fixed n, eq-eqb (kind s i) conditional h.0, lt-ltb (ahead_of s i) d h.2)
  contract_only (ContractReason.Covered v) h =
      let n : kind s i ≡ fixed → ⊥ = λ z. omega arith in
      rw (h.1, ne_eqb (kind s i) fixed n, eq-eqb (kind s i) conditional h.0, le-ltb (ahead_of s i) d h.2)
  contract_only (ContractReason.Fits v) h =
      let n : kind s i ≡ fixed → ⊥ = λ z. omega arith in
      let k : kind s i ≡ conditional → ⊥ = λ z. omega arith in
      rw (
        h.1,
        ne_eqb (kind s i) fixed n,
        ne_eqb (kind s i) conditional k,
        le-leb (cheaper_at s i + all) (rest_of s d) h.2,
      )
  contract_only (ContractReason.Shares v) h =
      let n : kind s i ≡ fixed → ⊥ = λ z. omega arith in
      let k : kind s i ≡ conditional → ⊥ = λ z. omega arith in
      rw (
        h.1,
        ne_eqb (kind s i) fixed n,
        ne_eqb (kind s i) conditional k,
        lt-leb (cheaper_at s i + all) (rest_of s d) h.3,
        le-leb (cheaper_at s i) (rest_of s d) h.2,
      )
  contract_only (ContractReason.Dearer v) h =
      let n : kind s i ≡ fixed → ⊥ = λ z. omega arith in
      let k : kind s i ≡ conditional → ⊥ = λ z. omega arith in
      let y : rest_of s d < cheaper_at s i + all = omega arith in
      rw (
        h.1,
        ne_eqb (kind s i) fixed n,
        ne_eqb (kind s i) conditional k,
        lt-leb (cheaper_at s i + all) (rest_of s d) y,
        lt-leb (cheaper_at s i) (rest_of s d) h.2,
      )

  -- AND IT SAYS WHAT THE AMOUNT IS
  pub contract_says : (r : ContractReason) → ContractHolds s d i r → ContractSays s i (amount_at s d i) r
  contract_says ContractReason.Fixed h = amount_firm s d i (λ z. omega arith) ∙ firm_fixed s d i h
  contract_says (ContractReason.Needed v) h = amount_firm s d i (λ z. omega arith) ∙ firm_needed s d i h.0 h.2
  contract_says (ContractReason.Covered v) h = amount_firm s d i (λ z. omega arith) ∙ firm_covered s d i h.0 h.2
  contract_says (ContractReason.Fits v) h = amount_demanded s d i h.0 ∙ demanded_full s (rest_of s d) i h.2
  contract_says (ContractReason.Shares v) h =
      amount_demanded s d i h.0 ∙ rw h.1 (demanded_shared s (rest_of s d) i h.3 h.2)
  contract_says (ContractReason.Dearer v) h = amount_demanded s d i h.0 ∙ demanded_dearer s (rest_of s d) i h.2

-- ---- of a contract of a sound sheet
module _ (s : Sheet) (ok : Sound s) (j : ℕ) (l : j < contracts s) where
  demand_is : at (demands s) (buyer_of s j) ≡ commercial s (buyer_of s j)
  unfolding demands
  demand_is = get_d_list_to 0 (commercial s) (agents s) (buyer_of s j) (ok.contract j l).buyer_there

  pub reason_holds : ContractHolds (own_deals s j) (commercial s (buyer_of s j)) (own_place s j) (contract_reason s j)
  unfolding contract_reason
  reason_holds =
      let k = own_kind s.deals (buyer_of s j) j (omega (arith, ok.whole.buyers)) refl in
      contract_holds (own_deals s j) (commercial s (buyer_of s j)) (own_place s j) (omega (arith, k, (ok.contract j l).least))
      (omega (arith, k, (ok.contract j l).most))

  pub reason_says : ContractSays (own_deals s j) (own_place s j) (amount s j) (contract_reason s j)
  unfolding amount
  reason_says =
      rw (hour_is s.deals (demands s) (buyer_of s j) j (omega (arith, ok.whole.buyers)) refl, demand_is)
      (contract_says (own_deals s j) (commercial s (buyer_of s j)) (own_place s j) (contract_reason s j) reason_holds)
