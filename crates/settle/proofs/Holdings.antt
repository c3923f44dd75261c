-- The contracts of an accepted sheet, from the bytes of their section: what each of them gets, and what each agent holds. Assumes nothing.
use Rattle.std.specs.Prelude.{Ok}
use Prim.Native.Nat.{ℕ, ◌+◌, ◌*◌, ◌≤◌, ◌<◌}
use native.Mathlib.Omega.{arith}
use native.Mathlib.Decide.{dec_lt}
use mathlib.Core.List.{List}
use mathlib.Core.Path.{◌≡◌, refl, ap, ◌∙◌, sym}
use lib.ListN.{length, set, length-set, get_or-eq_default}
use Rattle.sums.specs.Sums.{keyed}
use Rattle.sums.specs.Lists.{at, list_to, Filled}
use Rattle.sums.proofs.Keyed.{keyed_absent, keyed_eq, keyed_most, keyed_beside}
use Rattle.sums.proofs.Lists.{length_list_to, list_to_eq, zeros_at}
use Rattle.sums.proofs.Fill.{filled_count, filled_none, filled_by}
use Rattle.refusals.specs.Refusals.{cells}
use Rattle.refusals.specs.Refusals.{Verdict}
use Rattle.limits.specs.Limits.{most_agents, most_quantity}
use Rattle.rows.specs.Rows.{contract_of}
use Rattle.limits.specs.declared.Contract.{Contract}
use Rattle.deals.specs.Hour.{Rows, hour_amount}
use Rattle.contracts.specs.Assign.{count_in, deal_in, deals_in, assign_verdict, Assigned}
use Rattle.contracts.proofs.Verdicts.{Laid, Row, assign_fine}
use Rattle.sheet.specs.Reading.{read_of}
use Rattle.sheet.specs.Asking.{contract_at, rows_in, section_of}
use Rattle.sheet.specs.declared.Counts.{Counts}
use Rattle.sheet.proofs.Accepted.{accepted_few, accepted_contract}
use Rattle.sheet.proofs.Sections.{section_length, contract_row}
use Rattle.hour.specs.Sheet.{Sheet, agents, contracts}
use Rattle.hour.specs.Sound.{Sound}
use Rattle.hour.specs.Balance.{commercial, demands}
use Rattle.hour.specs.Lines.{amount, contracted}
use Rattle.hour.proofs.Fits.{amount_le}
use Rattle.hour.proofs.Balance.{contracted_both}
use Rattle.columns.specs.Columns.{columns_of}
use Rattle.columns.proofs.Columns.{agents_long, contracts_long, seller_at, buyer_at, sound}
use Rattle.balance.specs.Balances.{zeros}
use Rattle.settle.specs.Parts.{Holding, HeldByAgent, Agrees}

demands_long : (h : Sheet) → length (demands h) ≡ agents h
unfolding demands
demands_long h = length_list_to (commercial h) (agents h)

-- ---- the section is the contract rows of the sheet
module _ (s : List ℕ) (c : Counts) (e : read_of s ≡ Ok c) (sec : List ℕ)
    (is : sec ≡ section_of s c 4) where
  abbrev h : Sheet
  h = columns_of s c

  ok : Sound (columns_of s c)
  ok = sound s c e

  long : length sec ≡ 16 * c.contracts
  unfolding rows_in
  long = ap length is ∙ section_length s c e 4

  count : count_in sec ≡ c.contracts
  count = omega (arith, long)

  row : (j : ℕ) → j < c.contracts → deal_in sec j ≡ contract_at s c j
  row j l = ap (λ (b : List ℕ). deal_in b j) is ∙ ap contract_of (contract_row s c e j l)

  column : (f : Contract → ℕ)
      → list_to (λ j. f (deal_in sec j)) (count_in sec) ≡ list_to (λ j. f (contract_at s c j)) c.contracts
  column f =
      ap (list_to (λ j. f (deal_in sec j))) count
      ∙ list_to_eq (λ j. f (deal_in sec j)) (λ j. f (contract_at s c j)) c.contracts (λ j l. ap f (row j l))

  deals_are : deals_in sec ≡ (columns_of s c).deals
  unfolding deals_in columns_of
  deals_are = rw (column (λ k. k.buyer), column (λ k. k.kind), column (λ k. k.price), column (λ k. k.quantity))

  -- ---- none of them is refused
  laid : Laid sec (demands h)
  laid =
      let f = accepted_few s c e in
      record {
        whole = omega (arith, long);
        few = omega (arith, count, f.contracts);
        agents = omega (arith, demands_long h, agents_long s c, f.agents);
      }

  good : (j : ℕ) → j < count_in sec → Row (length (demands h)) (deal_in sec j)
  good j m =
      let l : j < c.contracts = omega (arith, count) in
      let r = accepted_contract s c e j l in
      rw (row j l)
      (record {
        buyer = omega (arith, demands_long h, agents_long s c, r.buyer_there);
        least = r.fits.least;
        most = r.fits.most;
        price = r.fits.price;
        quantity = r.fits.quantity;
      })

  module _ (before after : List ℕ) (l : c.contracts ≤ length before) where
    pub amounts_are : (ds : List ℕ) (v : Verdict)
        → ds ≡ demands h
        → Assigned sec ds before v after
        → Filled 0 before after c.contracts (amount h)
    unfolding amount
    amounts_are ds v d w =
        let x : Assigned sec (demands h) before v after = rw d at w in
        let f : assign_verdict sec (demands h) before
        ≡ (Ok tt) = assign_fine sec (demands h) before laid good (omega (arith, count)) in
        filled_by 0 _ _ _ (hour_amount (deals_in sec) (demands h)) (hour_amount h.deals (demands h))
        (λ j m. ap (λ (k : Rows). hour_amount k (demands h) j) deals_are)
        (filled_count 0 _ _ _ _ _ (ap (λ (u : Verdict). cells u (count_in sec)) f ∙ count) x.result)

    module _ (f : Filled 0 before after c.contracts (amount h)) where
      value : (j : ℕ) → j < count_in sec → at after j ≡ amount h j
      value j m = f.done j (omega (arith, count))

      pub holding : Holding sec after
      holding =
          record {
            few = laid.few;
            long = omega (arith, count, f.long);
            buyer =
                λ j m. let k : j < c.contracts =
                omega (arith, count) in
                omega (
                  arith,
                  ap (λ (x : Contract). x.buyer) (row j k),
                  (accepted_contract s c e j k).buyer_there,
                  (accepted_few s c e).agents,
                );
            seller =
                λ j m. let k : j < c.contracts =
                omega (arith, count) in
                omega (
                  arith,
                  ap (λ (x : Contract). x.seller) (row j k),
                  (accepted_contract s c e j k).seller_there,
                  (accepted_few s c e).agents,
                );
            amount = λ j m. omega (arith, value j m, amount_le h ok j (omega (arith, count, contracts_long s c)));
          }

      -- ---- bought and sold, as the columns have them
      bought : (a : ℕ)
          → keyed (λ j. (deal_in sec j).buyer) (at after) (count_in sec) a
          ≡ keyed (at h.deals.buyers) (amount h) (contracts h) a
      bought a =
          keyed_eq _ _ _ _ (count_in sec) a
          (λ j m. let k : j < c.contracts = omega (arith, count) in ap (λ (x : Contract). x.buyer) (row j k)
          ∙ sym (buyer_at s c j k)) value
          ∙ ap (λ (n : ℕ). keyed (at h.deals.buyers) (amount h) n a) (count ∙ sym (contracts_long s c))

      sold : (a : ℕ)
          → keyed (λ j. (deal_in sec j).seller) (at after) (count_in sec) a
          ≡ keyed (at h.sellers) (amount h) (contracts h) a
      sold a =
          keyed_eq _ _ _ _ (count_in sec) a
          (λ j m. let k : j < c.contracts = omega (arith, count) in ap (λ (x : Contract). x.seller) (row j k)
          ∙ sym (seller_at s c j k)) value
          ∙ ap (λ (n : ℕ). keyed (at h.sellers) (amount h) n a) (count ∙ sym (contracts_long s c))

      -- a cell past the agents has neither
      nobody : (a : ℕ)
          → agents h ≤ a
          → keyed (at h.deals.buyers) (amount h) (contracts h) a
          + keyed (at h.sellers) (amount h) (contracts h) a ≡ 0
      nobody a l =
          omega (
            arith,
            keyed_absent (at h.deals.buyers) (amount h) (contracts h) a
                (λ j m q. omega (arith, (ok.contract j m).buyer_there)),
            keyed_absent (at h.sellers) (amount h) (contracts h) a
                (λ j m q. omega (arith, (ok.contract j m).seller_there)),
          )

      pub contracted_are : (sums : List ℕ) → HeldByAgent sec after sums → Filled 0 zeros sums (agents h) (contracted h)
      contracted_are sums w =
          record {
            done = λ a m. w.each a (omega (arith, ok.few.agents)) ∙ both a ∙ contracted_both h ok a;
            kept = λ a m. rest a m (dec_lt a most_agents) ∙ sym (zeros_at most_agents a);
            long = w.long;
          }
        where
          both : (a : ℕ)
              → keyed (λ j. (deal_in sec j).buyer) (at after) (count_in sec) a
              + keyed (λ j. (deal_in sec j).seller) (at after) (count_in sec) a
              ≡ keyed (at h.deals.buyers) (amount h) (contracts h) a
              + keyed (at h.sellers) (amount h) (contracts h) a
          both a = omega (arith, bought a, sold a)

          rest : (a : ℕ) → agents h ≤ a → Dec (a < most_agents) → at sums a ≡ 0
          rest a m (yes l) = w.each a l ∙ both a ∙ nobody a m
          rest a m (no l) = get_or-eq_default sums 0 (omega (arith, w.long))

-- ---- no contracts: no cell is written
pub none_agreed : (s : List ℕ) (c : Counts) → read_of s ≡ Ok c → (before : List ℕ)
    → c.contracts ≡ 0
    → Agrees (columns_of s c) zeros before before
none_agreed s c e before z =
    let sec = section_of s c 4 in
    let rows : count_in sec ≡ 0 = count s c e sec refl ∙ z in
    let f : Filled 0 before before c.contracts (amount (columns_of s c)) = filled_count 0 _ _ 0 _ _ (sym z) (filled_none 0 _ _) in
    let nobody : (who : ℕ → ℕ) (a : ℕ) → keyed who (at before) (count_in sec) a ≡ 0 = λ who a.
    keyed_absent who (at before) (count_in sec) a (λ j l q. omega (arith, rows)) in
    record {
      contracted =
          contracted_are s c e sec refl before before (omega arith) f zeros
          (record {
            each = λ a m. omega (
              arith,
              zeros_at most_agents a,
              nobody (λ j. (deal_in sec j).buyer) a,
              nobody (λ j. (deal_in sec j).seller) a,
            );
            long = refl;
          });
      amounts = filled_count 0 _ _ _ _ _ (sym (contracts_long s c)) f;
    }

-- ---- the pass over the rows, at row j, which says k
module _ (section amounts : List ℕ) where
  -- what the first n rows come to
  abbrev pub bought_to : ℕ → ℕ → ℕ
  bought_to n a = keyed (λ j. (deal_in section j).buyer) (at amounts) n a

  abbrev pub sold_to : ℕ → ℕ → ℕ
  sold_to n a = keyed (λ j. (deal_in section j).seller) (at amounts) n a

  module _ (p : Holding section amounts) (j : ℕ) (l : j < count_in section) (k : Contract) (is : k ≡ deal_in section j)
    where
      pub buyer_there_lem : k.buyer < most_agents
      buyer_there_lem = omega (arith, ap (λ (x : Contract). x.buyer) is, p.buyer j l)

      pub seller_there_lem : k.seller < most_agents
      seller_there_lem = omega (arith, ap (λ (x : Contract). x.seller) is, p.seller j l)

      module _ (held : List ℕ) (long : length held ≡ most_agents)
          (before : (a : ℕ) → a < most_agents → at held a ≡ bought_to j a + sold_to j a) where
        -- the buyer's amount is added
        abbrev once : List ℕ
        once = set held k.buyer (at held k.buyer + at amounts j)

        half : (a : ℕ) → a < most_agents → at once a ≡ bought_to (j + 1) a + sold_to j a
        half a m =
            keyed_beside (λ i. (deal_in section i).buyer) (at amounts) j held k.buyer (at amounts j)
            (ap (λ (x : Contract). x.buyer) is) refl (omega (arith, buyer_there_lem)) a (sold_to j a) (before a m)

        bought_few : (n a : ℕ) → n ≤ count_in section → bought_to n a ≤ most_quantity * n
        bought_few n a m =
            keyed_most (λ i. (deal_in section i).buyer) (at amounts) n a most_quantity (λ i h. p.amount i (omega arith))

        sold_few : (n a : ℕ) → n ≤ count_in section → sold_to n a ≤ most_quantity * n
        sold_few n a m =
            keyed_most (λ i. (deal_in section i).seller) (at amounts) n a most_quantity (λ i h. p.amount i (omega arith))

        pub first_fits : at held k.buyer + at amounts j ≤ 4294967295
        first_fits =
            omega (
              arith,
              before k.buyer buyer_there_lem,
              bought_few j k.buyer (omega arith),
              sold_few j k.buyer (omega arith),
              p.amount j l,
              p.few,
            )

        pub second_fits : at once k.seller + at amounts j ≤ 4294967295
        second_fits =
            omega (
              arith,
              half k.seller seller_there_lem,
              bought_few (j + 1) k.seller (omega arith),
              sold_few j k.seller (omega arith),
              p.amount j l,
              p.few,
            )

        -- and the seller's
        pub both_added : (a : ℕ)
            → a < most_agents
            → at (set once k.seller (at once k.seller + at amounts j)) a ≡ bought_to (j + 1) a + sold_to (j + 1) a
        both_added a m =
            omega (
              arith,
              keyed_beside (λ i. (deal_in section i).seller) (at amounts) j once k.seller (at amounts j)
                  (ap (λ (x : Contract). x.seller) is) refl
                  (omega (arith, seller_there_lem, length-set held k.buyer (at held k.buyer + at amounts j))) a
                  (bought_to (j + 1) a) (omega (arith, half a m)),
            )
