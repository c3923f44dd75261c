-- A walk over the text of a statement goes over its lines as they are read: the price, the agents, the plants, the contracts, and the
-- empty stretch behind the last line end. Assumes nothing.
use Prim.Native.Nat.{ℕ, zero, suc, ◌+◌, ◌*◌, ◌<◌}
use mathlib.Core.Path.{◌≡◌, refl, ap, ◌∙◌}
use mathlib.Core.List.{List, [], ◌∷◌, ◌++◌}
use native.Mathlib.Omega.{arith}
use Rattle.sheet.specs.declared.Counts.{Counts}
use Rattle.hour.specs.Answer.{Lent, money_in, schedule_in, amount_in}
use Rattle.printing.specs.Text.{signed, lines_to}
use Rattle.text.specs.Lines.{agent_word, plant_word, contract_word, price_word, empty_line, cut, lines, over, step, read_line}
use Rattle.text.specs.Written.{joined, row_text}
use Rattle.text.specs.declared.Line.{Line}
use Rattle.text.proofs.Back.{AllFit, line_back, row_first, agent_known, plant_known, contract_known, price_known}
use Rattle.text.proofs.Money.{owed_line_back, owed_first}
use Rattle.telling.specs.Text.{agent_numbers, agent_line, plant_line, contract_line, statement_text}
use Rattle.told.proofs.Walks.{Writable, walk, price_read, agent_read, plant_read, contract_read}

empty_read : read_line [] ≡ empty_line
unfolding read_line over step cut
empty_read = refl

module _ {S : Type 0} (g : S → List ℕ → S) (row : ℕ → List ℕ → List ℕ) (b : ℕ → List ℕ) (h : ℕ → S → S)
    (one : (i : ℕ) (rest : List ℕ) → lines (row i rest) ≡ b i ∷ lines rest) where
  over_lines : (n : ℕ) → ((i : ℕ) → i < n → (s : S) → g s (b i) ≡ h i s) → (a : S) (rest : List ℕ)
      → over g a (lines (lines_to row n rest)) ≡ over g (walk h n a) (lines rest)
  unfolding lines_to over walk
  over_lines zero read a rest = refl
  over_lines (suc n) read a rest =
      over_lines n (λ i l. read i (omega arith)) a (row n rest) ∙ ap (over g (walk h n a)) (one n rest)
      ∙ ap (λ (s : S). over g s (lines rest)) (read n (omega arith) (walk h n a))

agent_one : (l : Lent) (a : ℕ) (rest : List ℕ)
    → lines (agent_line l a rest) ≡ (agent_word ++ joined (agent_numbers l a) (32 ∷ signed (money_in l a) [])) ∷ lines rest
unfolding agent_line
agent_one l a rest = owed_first agent_word (agent_numbers l a) rest (money_in l a) agent_known

-- a walk that looks at a line only as it is read
module _ {S : Type 0} (f : Line → S → S) (g : S → List ℕ → S) (by : (s : S) (bytes : List ℕ) → g s bytes ≡ f (read_line bytes) s)
    (c : Counts) (p : ℕ) (l : Lent) (w : Writable c p l) where
  read_as : (s : S) (bytes : List ℕ) (x : Line) → read_line bytes ≡ x → g s bytes ≡ f x s
  read_as s bytes x e = by s bytes ∙ ap (λ (y : Line). f y s) e

  agents_fit : (a : ℕ) → a < c.agents → AllFit (agent_numbers l a)
  agents_fit a h =
      let cell = w.figures in (
        omega (arith, w.agents),
        (
          cell (6 * a) (omega arith),
          (
            cell (6 * a + 1) (omega arith),
            (
              cell (6 * a + 2) (omega arith),
              (
                cell (6 * a + 3) (omega arith),
                (cell (6 * a + 4) (omega arith), (cell (6 * a + 5) (omega arith), tt)),
              ),
            ),
          ),
        ),
      )

  abbrev price_walked : S → S
  price_walked s = f (price_read p) s

  abbrev agents_walked : S → S
  agents_walked s = walk (λ a. f (agent_read l a)) c.agents s

  abbrev plants_walked : S → S
  plants_walked s = walk (λ i. f (plant_read l i)) c.plants s

  abbrev contracts_walked : S → S
  contracts_walked s = walk (λ j. f (contract_read l j)) c.contracts s

  over_agents : (s : S) (rest : List ℕ)
      → over g s (lines (lines_to (agent_line l) c.agents rest)) ≡ over g (agents_walked s) (lines rest)
  over_agents s rest =
      over_lines g (agent_line l) (λ a. agent_word ++ joined (agent_numbers l a) (32 ∷ signed (money_in l a) []))
      (λ a. f (agent_read l a)) (agent_one l) c.agents
      (λ a h t. read_as t _ (agent_read l a)
      (owed_line_back agent_word (agent_numbers l a) (money_in l a) agent_known refl (agents_fit a h) (w.money a h)))
      s rest

  over_plants : (s : S) (rest : List ℕ)
      → over g s (lines (lines_to (plant_line l) c.plants rest)) ≡ over g (plants_walked s) (lines rest)
  over_plants s rest =
      over_lines g (plant_line l) (λ i. plant_word ++ joined (i ∷ schedule_in l i ∷ []) []) (λ i. f (plant_read l i))
      (λ i r. row_first plant_word (i ∷ schedule_in l i ∷ []) r plant_known) c.plants
      (λ i h t. read_as t _ (plant_read l i)
      (line_back plant_word (i ∷ schedule_in l i ∷ []) plant_known (omega arith)
      (omega (arith, w.plants), (w.schedule i h, tt))))
      s rest

  over_contracts : (s : S) (rest : List ℕ)
      → over g s (lines (lines_to (contract_line l) c.contracts rest)) ≡ over g (contracts_walked s) (lines rest)
  over_contracts s rest =
      over_lines g (contract_line l) (λ j. contract_word ++ joined (j ∷ amount_in l j ∷ []) []) (λ j. f (contract_read l j))
      (λ j r. row_first contract_word (j ∷ amount_in l j ∷ []) r contract_known) c.contracts
      (λ j h t. read_as t _ (contract_read l j)
      (line_back contract_word (j ∷ amount_in l j ∷ []) contract_known (omega arith)
      (omega (arith, w.contracts), (w.amounts j h, tt))))
      s rest

  over_price : (s : S) (rest : List ℕ)
      → over g s (lines (row_text price_word (p ∷ []) rest)) ≡ over g (price_walked s) (lines rest)
  unfolding over
  over_price s rest =
      ap (over g s) (row_first price_word (p ∷ []) rest price_known)
      ∙ ap (λ (t : S). over g t (lines rest))
      (read_as s _ (price_read p) (line_back price_word (p ∷ []) price_known (omega arith) (w.price, tt)))

  over_end : (s : S) → over g s (lines []) ≡ f empty_line s
  unfolding over cut
  over_end s = read_as s [] empty_line empty_read

  -- THE WALK OVER A WRITTEN STATEMENT
  pub over_statement : (s : S)
      → over g s (lines (statement_text c p l)) ≡ f empty_line (contracts_walked (plants_walked (agents_walked (price_walked s))))
  unfolding statement_text
  over_statement s =
      over_price s _ ∙ over_agents (price_walked s) _ ∙ over_plants (agents_walked (price_walked s)) _
      ∙ over_contracts (plants_walked (agents_walked (price_walked s))) []
      ∙ over_end (contracts_walked (plants_walked (agents_walked (price_walked s))))
