use Prim.Native.Nat.{ℕ}
use mathlib.Core.Path.{ap}
use mathlib.Core.List.{List, [], ◌∷◌}
use native.Mathlib.Omega.{arith}
use lib.ListN.{drop}
use Rattle.limits.specs.declared.Contract.{Contract}
use Rattle.printing.specs.Put.{PutInRoom}
use Rattle.text.specs.Lines.{contract_word}
use Rattle.text.specs.Written.{row_text}
use Rattle.typing.specs.Text.{word_for, row_typed}
use Rattle.typing.specs.Steps.{row_room}
use Rattle.typing.proofs.Putting.{roomier}
use Rattle.typing.proofs.texts.put_contract.Goals as goal

pub returns : goal.returns
unfolding word_for row_typed
returns c =
    let a = c.args in
    let rest = drop a.at a.s.now in
    let row : Contract → List ℕ = λ x. row_text contract_word (x.seller ∷ x.buyer ∷ x.kind ∷ x.price ∷ x.quantity ∷ []) rest in
    let x : PutInRoom (row c.contract_of-c.result) a.s.now c.put_row.new.s a.at row_room
    c.put_row.result = c.put_row.ensures in
    roomier x (row_text (word_for 4) (row_typed 4 a.w) rest) row_room (omega arith) (ap row c.contract_of-c.ensures)
