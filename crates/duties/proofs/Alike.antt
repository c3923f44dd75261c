-- Two sheets with equal agents, boundaries and plants. Demands, schedule and price come from these alone; what a retailer is assigned
-- comes from its own rows and its demand, and what a generator sells is the sum over the buyers that it sells to. Assumes nothing.
use Rattle.std.specs.Prelude.{Ok}
use Prim.Native.Nat.{ℕ, zero, suc, ◌+◌, ◌*◌, ◌<◌}
use native.Mathlib.Omega.{arith}
use native.Mathlib.Decide.{dec_lt}
use mathlib.Core.Bool.{Bool, true, false, ◌&&◌}
use mathlib.Core.List.{List}
use mathlib.Core.Logic.{◌⊎◌, inl, inr}
use mathlib.Core.Path.{◌≡◌, refl, ap, ap₂, ◌∙◌, sym}
use lib.Dec.{eqb}
use lib.ListN.{length}
use borrow.Author.Tests.{eqb-true}
use Rattle.sums.specs.Sums.{sum, pick, keyed}
use Rattle.sums.specs.Lists.{at, total, list_to}
use Rattle.sums.proofs.Sums.{sum_eq, sum_zero, sum_term}
use Rattle.sums.proofs.Picks.{pick_same}
use Rattle.sums.proofs.Keyed.{keyed_total}
use Rattle.deals.specs.Deals.{count, amount_at, amounts_of}
use Rattle.deals.specs.Hour.{own_to, own_count, own_of}
use Rattle.deals.proofs.Own.{own_at, own_list, own_sum, count_own}
use Rattle.deals.proofs.Hours.{hour_is, bought_own}
use Rattle.hour.specs.Sheet.{Sheet, agents, contracts, retails, outside}
use Rattle.hour.specs.Sound.{Sound}
use Rattle.hour.specs.Balance.{imported, exported, consumption, own_import, delivered, entering, leaving, losses, consumptions}
use Rattle.hour.specs.Balance.{loss_share, commercial, demands, hour_demand, injected, small_exports, dispatch_demand}
use Rattle.hour.specs.Lines.{scheduled, bolsa_price, amount, own, contracted, bought, sold, money, cells_per_agent, figure}
use Rattle.hour.specs.Answer.{summary_of}
use Rattle.hour.specs.declared.Summary.{Summary}
use Rattle.hour.proofs.Cells.{figure_share, figure_own, figure_import, figure_contracted, figure_bought, figure_sold}
use Rattle.duties.specs.Confidence.{Alike, OwnRows, rows_of, sales, SellsTo}

-- ---- what comes from agents, boundaries and plants alone
module _ (s t : Sheet) (e : Alike s t) where
  pub retails_same : (a : ℕ) → retails s a ≡ retails t a
  unfolding retails
  retails_same a = rw e.kinds

  pub share_same : (a : ℕ) → loss_share s a ≡ loss_share t a
  unfolding loss_share consumptions consumption losses entering leaving delivered own_import imported exported retails
  share_same a = rw (e.kinds, e.owners, e.factors, e.imports, e.exports)

  pub import_same : (a : ℕ) → own_import s a ≡ own_import t a
  unfolding own_import imported retails
  import_same a = rw (e.kinds, e.owners, e.factors, e.imports)

  pub demands_same : demands s ≡ demands t
  unfolding demands commercial loss_share consumptions consumption losses entering leaving delivered own_import imported exported retails
  demands_same = rw (e.kinds, e.owners, e.factors, e.imports, e.exports)

  pub price_same : bolsa_price s ≡ bolsa_price t
  unfolding bolsa_price scheduled dispatch_demand small_exports outside commercial own_import loss_share consumptions
      consumption losses entering leaving delivered imported exported retails
  price_same =
      rw (
        e.kinds,
        e.owners,
        e.factors,
        e.imports,
        e.exports,
        e.holders,
        e.flags,
        e.must_run,
        e.offers,
        e.available,
      )

  demand_same : hour_demand s ≡ hour_demand t
  unfolding hour_demand commercial own_import loss_share consumptions consumption losses entering leaving delivered imported
      exported retails
  demand_same = rw (e.kinds, e.owners, e.factors, e.imports, e.exports)

  losses_same : losses s ≡ losses t
  unfolding losses entering leaving delivered consumption own_import imported exported retails
  losses_same = rw (e.kinds, e.owners, e.factors, e.imports, e.exports)

  pub first_same : (q r : Summary) → q ≡ summary_of (Ok tt) s → r ≡ summary_of (Ok tt) t
      → (q.price ≡ r.price) × (q.demand ≡ r.demand) × (q.losses ≡ r.losses)
  first_same q r eq er = rw (eq, er) (price_same, demand_same, losses_same)

  pub own_same : (a : ℕ) → own s a ≡ own t a
  unfolding own scheduled injected dispatch_demand small_exports outside commercial own_import loss_share consumptions
      consumption losses entering leaving delivered imported exported retails
  own_same a =
      rw (e.kinds, e.owners, e.factors, e.imports, e.exports, e.holders, e.must_run, e.offers, e.available)

-- ---- a buyer's own rows

module _ (s : Sheet) (ok : Sound s) where
  abbrev rows : ℕ
  rows = length s.deals.buyers

  -- the amounts of b's rows, in their order
  pub own_amounts : (b : ℕ) (l : List ℕ) → ((j : ℕ) → j < contracts s → at l j ≡ amount s j)
      → own_to s.deals.buyers b l rows ≡ amounts_of (own_of s.deals b) (at (demands s) b)
  unfolding amounts_of amount
  own_amounts b l h =
      own_list s.deals.buyers b l (amount_at (own_of s.deals b) (at (demands s) b)) rows
      (λ j m e. h j (omega (arith, ok.whole.buyers)) ∙ hour_is s.deals (demands s) b j m e)
      ∙ ap (list_to (amount_at (own_of s.deals b) (at (demands s) b))) (sym (count_own s.deals b))

  -- what a retailer holds under contract
  pub retailer_contracted : (b : ℕ)
      → retails s b ≡ true
      → contracted s b ≡ total (amounts_of (own_of s.deals b) (at (demands s) b))
  unfolding contracted amount keyed
  retailer_contracted b e = rw e (rw ok.whole.buyers at (bought_own s.deals (demands s) b))

  -- what g sells to b
  pub sold_to : (g b : ℕ) → ℕ
  sold_to g b =
      sum (count (own_of s.deals b))
      (λ k. pick (eqb (at (rows_of s b).sellers k) g) (amount_at (own_of s.deals b) (at (demands s) b) k))

  -- the rows that g sells, over the sheet and by buyer
  abbrev sold_at : (g j : ℕ) → ℕ
  sold_at g j = pick (eqb (at s.sellers j) g) (amount s j)

  sold_own : (g b : ℕ) → keyed (at s.deals.buyers) (sold_at g) rows b ≡ sold_to g b
  unfolding keyed sold_to amount
  sold_own g b =
      let given : ℕ → ℕ =
      λ k. pick (eqb (at (rows_of s b).sellers k) g) (amount_at (own_of s.deals b) (at (demands s) b) k) in
      sum_eq rows (λ j. pick (eqb (at s.deals.buyers j) b) (sold_at g j))
      (λ j. pick (eqb (at s.deals.buyers j) b) (given (own_count s.deals.buyers b j)))
      (λ j l. pick_same (eqb (at s.deals.buyers j) b) _ _
      (λ t. let e : at s.deals.buyers j ≡ b = eqb-true _ _ t in
      ap₂ (λ (x y : ℕ). pick (eqb x g) y) (sym (own_at s.deals.buyers b s.sellers j rows l e))
      (hour_is s.deals (demands s) b j l e)))
      ∙ own_sum s.deals.buyers b given rows
      ∙ ap (λ (n : ℕ). sum n given) (sym (count_own s.deals b))

  -- what a generator holds under contract, buyer by buyer
  pub generator_contracted : (g : ℕ) → retails s g ≡ false → contracted s g ≡ sum (agents s) (sold_to g)
  unfolding contracted keyed
  generator_contracted g e =
      rw e
      (sym (keyed_total (at s.deals.buyers) (sold_at g) (agents s) (contracts s)
      (λ j l. (ok.contract j l).buyer_there))
      ∙ sum_eq (agents s) _ _ (λ b l. rw (sym ok.whole.buyers) (sold_own g b)))

  -- nothing, where g does not sell to b
  pub none_sold : (g b : ℕ) → (SellsTo s g b → ⊥) → sold_to g b ≡ 0
  unfolding keyed pick
  none_sold g b never =
      sym (sold_own g b)
      ∙ sum_zero rows (λ j. pick (eqb (at s.deals.buyers j) b) (sold_at g j))
      (λ j l. none (eqb (at s.deals.buyers j) b) (eqb (at s.sellers j) g) (amount s j)
      (λ h. never (omega (
        arith,
        sum_term rows j (λ i. pick (eqb (at s.sellers i) g && eqb (at s.deals.buyers i) b) 1) l,
      ))))
    where
      none : (t u : Bool) (v : ℕ) → (0 < pick (u && t) 1 → ⊥) → pick t (pick u v) ≡ 0
      none true true v h = absurd (h (omega arith))
      none true false v h = refl
      none false u v h = refl

-- ---- what equal rows of one buyer say: seller by seller, deal by deal, in their order
module _ (s t : Sheet) (b : ℕ) (same : rows_of s b ≡ rows_of t b) where
  deals_same : own_of s.deals b ≡ own_of t.deals b
  deals_same = ap (λ (r : OwnRows). r.deals) same

  sellers_same : own_to s.deals.buyers b s.sellers (length s.deals.buyers)
      ≡ own_to t.deals.buyers b t.sellers (length t.deals.buyers)
  sellers_same = ap (λ (r : OwnRows). r.sellers) same

-- ---- the line of one agent, in two sheets
module _ (s t : Sheet) (ok : Sound s) (good : Sound t) (e : Alike s t) where
  -- the same rows in the same order: the same amounts
  pub amounts_same : (b : ℕ) → rows_of s b ≡ rows_of t b
      → amounts_of (own_of s.deals b) (at (demands s) b) ≡ amounts_of (own_of t.deals b) (at (demands t) b)
  amounts_same b same = rw (deals_same s t b same, demands_same s t e)

  pub retailer_same : (b : ℕ) → retails s b ≡ true → rows_of s b ≡ rows_of t b → contracted s b ≡ contracted t b
  retailer_same b r same =
      retailer_contracted s ok b r ∙ ap total (amounts_same b same)
      ∙ sym (retailer_contracted t good b (sym (retails_same s t e b) ∙ r))

  -- what g sells to b is the same: the same rows, or none in either sheet
  sold_same : (g b : ℕ)
      → (SellsTo s g b ⊎ SellsTo t g b → rows_of s b ≡ rows_of t b)
      → sold_to s ok g b ≡ sold_to t good g b
  unfolding sold_to
  sold_same g b same = go (dec_lt 0 (sales s g b)) (dec_lt 0 (sales t g b))
    where
      equal : rows_of s b ≡ rows_of t b → sold_to s ok g b ≡ sold_to t good g b
      equal h = rw (deals_same s t b h, sellers_same s t b h, demands_same s t e)

      go : Dec (0 < sales s g b) → Dec (0 < sales t g b) → sold_to s ok g b ≡ sold_to t good g b
      go (yes h) k = equal (same (inl h))
      go (no h) (yes k) = equal (same (inr k))
      go (no h) (no k) = none_sold s ok g b h ∙ sym (none_sold t good g b k)

  pub generator_same : (g : ℕ)
      → retails s g ≡ false
      → ((b : ℕ) → SellsTo s g b ⊎ SellsTo t g b → rows_of s b ≡ rows_of t b)
      → contracted s g ≡ contracted t g
  generator_same g r same =
      let n : agents s ≡ agents t = ap (λ (l : List ℕ). length l) e.kinds in
      generator_contracted s ok g r
      ∙ sum_eq (agents s) _ _ (λ b l. sold_same g b (same b))
      ∙ ap (λ (k : ℕ). sum k (sold_to t good g)) n
      ∙ sym (generator_contracted t good g (sym (retails_same s t e g) ∙ r))

  -- with the same contracted energy the whole line is the same
  module _ (a : ℕ) (held : contracted s a ≡ contracted t a) where
    pub bought_same : bought s a ≡ bought t a
    unfolding bought
    bought_same = rw (retails_same s t e a, own_same s t e a, held, import_same s t e a)

    pub sold_same_line : sold s a ≡ sold t a
    unfolding sold
    sold_same_line = rw (retails_same s t e a, own_same s t e a, held)

    pub money_same : money s a ≡ money t a
    unfolding money
    money_same = rw (sold_same_line, bought_same, price_same s t e)

    pub cells_same : (c : ℕ) → c < cells_per_agent → figure s (cells_per_agent * a + c) ≡ figure t (cells_per_agent * a + c)
    cells_same zero l =
        let z : cells_per_agent * a + 0 ≡ cells_per_agent * a = omega arith in
        rw z (figure_share s a ∙ share_same s t e a ∙ sym (figure_share t a))
    cells_same (suc zero) l = figure_own s a ∙ own_same s t e a ∙ sym (figure_own t a)
    cells_same (suc (suc zero)) l = figure_import s a ∙ import_same s t e a ∙ sym (figure_import t a)
    cells_same (suc (suc (suc zero))) l = figure_contracted s a ∙ held ∙ sym (figure_contracted t a)
    cells_same (suc (suc (suc (suc zero)))) l = figure_bought s a ∙ bought_same ∙ sym (figure_bought t a)
    cells_same (suc (suc (suc (suc (suc zero))))) l = figure_sold s a ∙ sold_same_line ∙ sym (figure_sold t a)
    cells_same (suc (suc (suc (suc (suc (suc c)))))) l = absurd (omega arith)
