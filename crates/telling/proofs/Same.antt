-- Lists that agree on the cells of the sheet's rows make one statement. Assumes nothing.
use Prim.Native.Nat.{ℕ, ◌+◌, ◌*◌, ◌<◌, ◌≤◌}
use mathlib.Core.Path.{◌≡◌, ap, ◌∙◌}
use mathlib.Core.List.{List, [], ◌∷◌}
use native.Mathlib.Omega.{arith}
use lib.IntN.{ℤ, pos}
use lib.ListN.{length, take, get_or}
use Rattle.std.proofs.lemmas.List.{length-take-le, get_or-take}
use Rattle.sums.specs.Lists.{at}
use Rattle.sheet.specs.declared.Counts.{Counts}
use Rattle.hour.specs.Lines.{cells_per_agent}
use Rattle.hour.specs.Answer.{Lent, lent, money_in, schedule_in, amount_in}
use Rattle.printing.specs.Text.{lines_to}
use Rattle.printing.proofs.Text.{lines_same}
use Rattle.text.specs.Lines.{plant_word, contract_word, price_word}
use Rattle.text.specs.Written.{row_text}
use Rattle.telling.specs.Text.{agent_line, plant_line, contract_line, statement_text}

pub record Agree (c : Counts) (l m : Lent) : Type 0 where
  pub figures : (k : ℕ) → k < cells_per_agent * c.agents → at l.figures k ≡ at m.figures k
  pub money : (a : ℕ) → a < c.agents → money_in l a ≡ money_in m a
  pub schedule : (i : ℕ) → i < c.plants → schedule_in l i ≡ schedule_in m i
  pub amounts : (j : ℕ) → j < c.contracts → amount_in l j ≡ amount_in m j

-- an agent's line looks at the first two lists alone, and the lines of n agents at the front of their money
pub agents_lent : (f : List ℕ) (m : List ℤ) (s t : List ℕ) (n : ℕ) (rest : List ℕ)
    → n ≤ length m
    → lines_to (agent_line (lent f (take n m) [] [])) (length (take n m)) rest ≡ lines_to (agent_line (lent f m s t)) n rest
unfolding agent_line
agents_lent f m s t n rest h =
    let front = take n m in
    ap (λ (k : ℕ). lines_to (agent_line (lent f front [] [])) k rest) (length-take-le n m h)
    ∙ lines_same (agent_line (lent f front [] [])) (agent_line (lent f m s t)) n rest
    (λ i l r. rw (get_or-take n m i (pos 0) l))

-- n rows of a list look at its front alone
pub rows_lent : (word xs : List ℕ) (n : ℕ) (rest : List ℕ)
    → n ≤ length xs
    → lines_to (λ i. row_text word (i ∷ get_or (take n xs) i 0 ∷ [])) (length (take n xs)) rest
    ≡ lines_to (λ i. row_text word (i ∷ get_or xs i 0 ∷ [])) n rest
rows_lent word xs n rest h =
    let row : List ℕ → ℕ → List ℕ → List ℕ = λ l i. row_text word (i ∷ get_or l i 0 ∷ []) in
    ap (λ (k : ℕ). lines_to (row (take n xs)) k rest) (length-take-le n xs h)
    ∙ lines_same (row (take n xs)) (row xs) n rest (λ i l r. rw (get_or-take n xs i 0 l))

module _ (c : Counts) (l m : Lent) (same : Agree c l m) where
  agent_same : (a : ℕ) → a < c.agents → (rest : List ℕ) → agent_line l a rest ≡ agent_line m a rest
  unfolding agent_line
  agent_same a h rest =
      let cell = same.figures in
      rw (
        cell (6 * a) (omega arith),
        cell (6 * a + 1) (omega arith),
        cell (6 * a + 2) (omega arith),
        cell (6 * a + 3) (omega arith),
        cell (6 * a + 4) (omega arith),
        cell (6 * a + 5) (omega arith),
        same.money a h,
      )

  plants_same : (rest : List ℕ) → lines_to (plant_line l) c.plants rest ≡ lines_to (plant_line m) c.plants rest
  plants_same rest =
      lines_same (plant_line l) (plant_line m) c.plants rest
      (λ i h r. ap (λ (x : ℕ). row_text plant_word (i ∷ x ∷ []) r) (same.schedule i h))

  pub statement_same : (price : ℕ) → statement_text c price l ≡ statement_text c price m
  unfolding statement_text
  statement_same price =
      let contracts = lines_same (contract_line l) (contract_line m) c.contracts []
      (λ j h r. ap (λ (x : ℕ). row_text contract_word (j ∷ x ∷ []) r) (same.amounts j h)) in
      ap (row_text price_word (price ∷ []))
      (lines_same (agent_line l) (agent_line m) c.agents _ agent_same
      ∙ ap (lines_to (agent_line m) c.agents) (plants_same _ ∙ ap (lines_to (plant_line m) c.plants) contracts))
