-- The numbers of a written statement, read back: each agent's line stores its six figures and its money at their places, a plant's and
-- a contract's line its one number, and no other line changes that list. Assumes nothing.
use Prim.Native.Nat.{ℕ, zero, suc, ◌+◌, ◌*◌, ◌≤◌, ◌<◌}
use mathlib.Core.Path.{◌≡◌, refl, ap, sym, subst, ◌∙◌}
use mathlib.Core.Bool.{cond}
use mathlib.Core.List.{List, [], ◌∷◌}
use native.Mathlib.Omega.{arith}
use native.Mathlib.Numerals.{add-one}
use lib.Dec.{eqb}
use lib.IntN.{ℤ, pos}
use lib.ListN.{length, set, length-set}
use lib.Seq.{sets}
use Rattle.sums.specs.Lists.{at, Filled}
use Rattle.sums.proofs.Fill.{filled_none, filled_more, filled_count}
use Rattle.sheet.specs.declared.Counts.{Counts}
use Rattle.hour.specs.Answer.{Lent, share_in, own_in, import_in, contracted_in, bought_in, sold_in, money_in, schedule_in, amount_in}
use Rattle.text.specs.Lines.{lines, over, word_of}
use Rattle.text.specs.declared.Line.{Line}
use Rattle.stating.specs.Rows.{figures_from, money_from, second_from, figures_line, money_line, second_line, price_line, price_in}
use Rattle.telling.specs.Text.{statement_text}
use Rattle.told.proofs.Walks.{Writable, walk, walk_still, agent_read, plant_read, contract_read}
use Rattle.told.proofs.Over.{over_statement}

-- ---- stores one after the other fill a list
filled_run : (l₀ l : List ℕ) (f : ℕ → ℕ) (vs : List ℕ) (n : ℕ) → n + length vs ≤ length l
    → ((j : ℕ) → j < length vs → at vs j ≡ f (n + j)) → Filled 0 l₀ l n f → Filled 0 l₀ (sets l n vs) (n + length vs) f
filled_run l₀ l f [] n h e r = filled_count 0 l₀ l n (n + 0) f (omega arith) r
filled_run l₀ l f (v ∷ vs) n h e r =
    let z : n + 0 ≡ n = omega arith in
    let long : n < length l = omega arith in
    let more = filled_more 0 l₀ l n v f long (e 0 (omega arith) ∙ ap f z) r in
    let next = filled_count 0 l₀ (set l n v) (n + 1) (suc n) f (add-one n) more in
    let room : suc n + length vs ≤ length (set l n v) = omega (arith, length-set l n v, h) in
    let count : suc n + length vs ≡ n + suc (length vs) = omega arith in
    filled_count 0 l₀ (sets (set l n v) (suc n) vs) (suc n + length vs) (n + suc (length vs)) f count
    (filled_run l₀ (set l n v) f vs (suc n) room
    (λ j m. let q : n + suc j ≡ suc n + j = omega arith in e (suc j) (omega arith) ∙ ap f q) next)

abbrev six_of : Lent → ℕ → List ℕ
six_of l a = share_in l a ∷ own_in l a ∷ import_in l a ∷ contracted_in l a ∷ bought_in l a ∷ sold_in l a ∷ []

six_at : (l : Lent) (a j : ℕ) → j < 6 → at (six_of l a) j ≡ at l.figures (6 * a + j)
six_at l a zero h = let e : 6 * a ≡ 6 * a + 0 = omega arith in ap (at l.figures) e
six_at l a (suc zero) h = refl
six_at l a (suc (suc zero)) h = refl
six_at l a (suc (suc (suc zero))) h = refl
six_at l a (suc (suc (suc (suc zero)))) h = refl
six_at l a (suc (suc (suc (suc (suc zero))))) h = refl
six_at l a (suc (suc (suc (suc (suc (suc j)))))) h = absurd (omega arith)

six_filled : (l : Lent) (before : List ℕ) (h : ℕ → List ℕ → List ℕ) → ((a : ℕ) (s : List ℕ) → h a s ≡ sets s (6 * a) (six_of l a))
    → (n : ℕ) → 6 * n ≤ length before → Filled 0 before (walk h n before) (6 * n) (at l.figures)
unfolding walk
six_filled l before h e zero r = filled_none 0 before (at l.figures)
six_filled l before h e (suc n) r =
    let done = six_filled l before h e n (omega arith) in
    let k : 6 * n + 6 ≡ 6 * suc n = omega arith in
    rw (e n (walk h n before))
    (filled_count 0 before (sets (walk h n before) (6 * n) (six_of l n)) (6 * n + 6) (6 * suc n) (at l.figures) k
    (filled_run before (walk h n before) (at l.figures) (six_of l n) (6 * n) (omega (arith, done.long)) (six_at l n) done))

one_filled : {A : Type 0} (d : A) (v : ℕ → A) (before : List A) (h : ℕ → List A → List A) → ((i : ℕ) (s : List A) → h i s ≡ set s i (v i))
    → (n : ℕ) → n ≤ length before → Filled d before (walk h n before) n v
unfolding walk
one_filled d v before h e zero r = filled_none d before v
one_filled d v before h e (suc n) r =
    let done = one_filled d v before h e n (omega arith) in
    let k : n + 1 ≡ suc n = add-one n in
    rw (e n (walk h n before))
    (filled_count d before (set (walk h n before) n (v n)) (n + 1) (suc n) v k
    (filled_more d before (walk h n before) n (v n) v (omega (arith, done.long)) refl done))

module _ (c : Counts) (p : ℕ) (l : Lent) (w : Writable c p l) where
  pub figures_back : (before : List ℕ) → 6 * c.agents ≤ length before
      → Filled 0 before (over figures_line before (lines (statement_text c p l))) (6 * c.agents) (at l.figures)
  unfolding figures_line word_of
  figures_back before r =
      let agents = walk (λ a. figures_from (agent_read l a)) c.agents before in
      let plants = walk (λ i. figures_from (plant_read l i)) c.plants agents in
      let e =
      over_statement figures_from figures_line (λ s b. refl) c p l w before
      ∙ walk_still (λ j. figures_from (contract_read l j)) c.contracts plants (λ j s. refl)
      ∙ walk_still (λ i. figures_from (plant_read l i)) c.plants agents (λ i s. refl) in
      subst (λ (x : List ℕ). Filled 0 before x (6 * c.agents) (at l.figures)) (sym e)
      (six_filled l before (λ a. figures_from (agent_read l a)) (λ a s. refl) c.agents r)

  pub money_back : (before : List ℤ) → c.agents ≤ length before
      → Filled (pos 0) before (over money_line before (lines (statement_text c p l))) c.agents (money_in l)
  unfolding money_line word_of
  money_back before r =
      let agents = walk (λ a. money_from (agent_read l a)) c.agents before in
      let plants = walk (λ i. money_from (plant_read l i)) c.plants agents in
      let e =
      over_statement money_from money_line (λ s b. refl) c p l w before
      ∙ walk_still (λ j. money_from (contract_read l j)) c.contracts plants (λ j s. refl)
      ∙ walk_still (λ i. money_from (plant_read l i)) c.plants agents (λ i s. refl) in
      subst (λ (x : List ℤ). Filled (pos 0) before x c.agents (money_in l)) (sym e)
      (one_filled (pos 0) (money_in l) before (λ a. money_from (agent_read l a)) (λ a s. refl) c.agents r)

  pub schedule_back : (before : List ℕ) → c.plants ≤ length before
      → Filled 0 before (over (second_line 3) before (lines (statement_text c p l))) c.plants (schedule_in l)
  unfolding second_line word_of
  schedule_back before r =
      let agents = walk (λ a. second_from 3 (agent_read l a)) c.agents before in
      let plants = walk (λ i. second_from 3 (plant_read l i)) c.plants agents in
      let e =
      over_statement (second_from 3) (second_line 3) (λ s b. refl) c p l w before
      ∙ walk_still (λ j. second_from 3 (contract_read l j)) c.contracts plants (λ j s. refl)
      ∙ ap (walk (λ i. second_from 3 (plant_read l i)) c.plants)
      (walk_still (λ a. second_from 3 (agent_read l a)) c.agents before (λ a s. refl)) in
      subst (λ (x : List ℕ). Filled 0 before x c.plants (schedule_in l)) (sym e)
      (one_filled 0 (schedule_in l) before (λ i. second_from 3 (plant_read l i)) (λ i s. refl) c.plants r)

  pub amounts_back : (before : List ℕ) → c.contracts ≤ length before
      → Filled 0 before (over (second_line 4) before (lines (statement_text c p l))) c.contracts (amount_in l)
  unfolding second_line word_of
  amounts_back before r =
      let agents = walk (λ a. second_from 4 (agent_read l a)) c.agents before in
      let e =
      over_statement (second_from 4) (second_line 4) (λ s b. refl) c p l w before
      ∙ ap (walk (λ j. second_from 4 (contract_read l j)) c.contracts)
      (walk_still (λ i. second_from 4 (plant_read l i)) c.plants agents (λ i s. refl)
      ∙ walk_still (λ a. second_from 4 (agent_read l a)) c.agents before (λ a s. refl)) in
      subst (λ (x : List ℕ). Filled 0 before x c.contracts (amount_in l)) (sym e)
      (one_filled 0 (amount_in l) before (λ j. second_from 4 (contract_read l j)) (λ j s. refl) c.contracts r)

  price_from : Line → ℕ → ℕ
  price_from x s = cond (eqb x.word 5) (at x.numbers 0) s

  pub price_back : price_in (statement_text c p l) ≡ p
  unfolding price_in price_line price_from word_of
  price_back =
      let agents = walk (λ a. price_from (agent_read l a)) c.agents p in
      let plants = walk (λ i. price_from (plant_read l i)) c.plants agents in
      over_statement price_from price_line (λ s b. refl) c p l w 0
      ∙ walk_still (λ j. price_from (contract_read l j)) c.contracts plants (λ j s. refl)
      ∙ walk_still (λ i. price_from (plant_read l i)) c.plants agents (λ i s. refl)
      ∙ walk_still (λ a. price_from (agent_read l a)) c.agents p (λ a s. refl)
