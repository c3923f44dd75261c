-- No statement of ours is longer than 27,547 bytes: no number has more than 20 digits, and no sheet more rows than its limits. So with a
-- buffer of that length a sheet that settles is never refused. Assumes nothing.
use Rattle.std.specs.Prelude.{Ok}
use Prim.Native.Nat.{ℕ, zero, suc, ◌+◌, ◌*◌, ◌≤◌}
use mathlib.Core.Path.{◌≡◌}
use mathlib.Core.Bool.{Bool, true, false, cond}
use mathlib.Core.List.{List, [], ◌∷◌}
use native.Mathlib.Omega.{arith}
use borrow.Author.Tests.{le-leb}
use lib.IntN.{ℤ, nat_abs}
use lib.ListN.{length, length-append}
use Rattle.sheet.specs.Reading.{counts_of}
use Rattle.sheet.specs.declared.Counts.{Counts}
use Rattle.sheet.proofs.Accepted.{accepted_few}
use Rattle.hour.specs.Lines.{bolsa_price}
use Rattle.hour.specs.Answer.{Lent, money_in, schedule_in, amount_in}
use Rattle.columns.specs.Columns.{hour_of, sheet_verdict}
use Rattle.printing.specs.Text.{decimal, minus, signed, lines_to}
use Rattle.printing.proofs.Length.{spell_most}
use Rattle.page.proofs.Most.{accepted}
use Rattle.text.specs.Lines.{plant_word, contract_word, price_word}
use Rattle.text.specs.Written.{joined, row_text}
use Rattle.telling.specs.Text.{agent_numbers, agent_line, plant_line, contract_line, statement_text}
use Rattle.telling.specs.Tell.{own_lists, own_statement, tell_verdict}
use Rattle.telling.proofs.Telling.{fine_verdict}

joined_most : (ns rest : List ℕ) → length (joined ns rest) ≤ 21 * length ns + length rest
unfolding joined
joined_most [] rest = omega arith
joined_most (n ∷ ns) rest = omega (arith, spell_most 19 n (joined ns rest), joined_most ns rest)

signed_most : (x : ℤ) (rest : List ℕ) → length (signed x rest) ≤ 21 + length rest
unfolding signed
signed_most x rest = go (minus x)
  where
    go : (b : Bool) → length (cond b (45 ∷ decimal (nat_abs x) rest) (decimal (nat_abs x) rest)) ≤ 21 + length rest
    go true = omega (arith, spell_most 19 (nat_abs x) rest)
    go false = omega (arith, spell_most 19 (nat_abs x) rest)

row_most : (word ns rest : List ℕ) → length (row_text word ns rest) ≤ length word + 21 * length ns + 1 + length rest
unfolding row_text
row_most word ns rest = omega (arith, length-append word (joined ns (10 ∷ rest)), joined_most ns (10 ∷ rest))

agent_most : (l : Lent) (a : ℕ) (rest : List ℕ) → length (agent_line l a rest) ≤ 175 + length rest
unfolding agent_line
agent_most l a rest =
    let money : List ℕ = signed (money_in l a) (10 ∷ rest) in
    omega (arith, joined_most (agent_numbers l a) (32 ∷ money), signed_most (money_in l a) (10 ∷ rest))

lines_most : (w : ℕ) (g : ℕ → List ℕ → List ℕ) → ((i : ℕ) (rest : List ℕ) → length (g i rest) ≤ w + length rest)
    → (n : ℕ) (rest : List ℕ) → length (lines_to g n rest) ≤ w * n + length rest
unfolding lines_to
lines_most w g h zero rest = omega arith
lines_most w g h (suc n) rest =
    let e : w * suc n ≡ w * n + w = omega arith in
    omega (arith, e, lines_most w g h n (g n rest), h n rest)

pub statement_most : (c : Counts) (p : ℕ) (l : Lent)
    → length (statement_text c p l) ≤ 175 * c.agents + 51 * (c.plants + c.contracts) + 27
unfolding statement_text
statement_most c p l =
    let contracts : List ℕ = lines_to (contract_line l) c.contracts [] in
    let plants : List ℕ = lines_to (plant_line l) c.plants contracts in
    let agents : List ℕ = lines_to (agent_line l) c.agents plants in
    omega (
      arith,
      row_most price_word (p ∷ []) agents,
      lines_most 175 (agent_line l) (agent_most l) c.agents plants,
      lines_most 51 (plant_line l) plant_most c.plants contracts,
      lines_most 51 (contract_line l) contract_most c.contracts [],
    )
  where
    plant_most : (i : ℕ) (rest : List ℕ) → length (plant_line l i rest) ≤ 51 + length rest
    plant_most i rest = omega (arith, row_most plant_word (i ∷ schedule_in l i ∷ []) rest)

    contract_most : (j : ℕ) (rest : List ℕ) → length (contract_line l j rest) ≤ 51 + length rest
    contract_most j rest = row_most contract_word (j ∷ amount_in l j ∷ []) rest

module _ (bytes : List ℕ) (fine : sheet_verdict bytes ≡ Ok tt) where
  pub own_most : length (own_statement bytes) ≤ 27547
  unfolding own_statement
  own_most =
      let few = accepted_few bytes (counts_of bytes) (accepted bytes fine) in
      let most = statement_most (counts_of bytes) (bolsa_price (hour_of bytes)) (own_lists (hour_of bytes)) in
      omega (arith, most, few.agents, few.plants, few.contracts)

  -- A BUFFER OF 27,547 BYTES IS ENOUGH
  pub never_short : (room : ℕ) → 27547 ≤ room → tell_verdict bytes room ≡ Ok tt
  never_short room h =
      let l : length (own_statement bytes) ≤ room = omega (arith, own_most) in
      rw (fine_verdict bytes room fine, le-leb (length (own_statement bytes)) room l)
