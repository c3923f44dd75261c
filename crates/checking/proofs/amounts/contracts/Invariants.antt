use Rattle.sums.specs.Lists.{Filled}
use Rattle.octets.specs.Bytes.{words_at}
use Rattle.rows.specs.Rows.{contract_of}
use Rattle.checking.specs.Accounts.{no_contract}
use Rattle.checking.proofs.amounts.contracts.Given as goal

-- the rows so far are what the section says
abbrev pub invariant-loop-j : goal.invariant-loop-j
invariant-loop-j l = Filled no_contract l.initial.rows l.rows l.j (λ k. contract_of (words_at l.section k))
