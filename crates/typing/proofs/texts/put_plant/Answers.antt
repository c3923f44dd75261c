use Prim.Native.Nat.{ℕ}
use mathlib.Core.Path.{ap}
use mathlib.Core.List.{List, [], ◌∷◌}
use native.Mathlib.Omega.{arith}
use lib.ListN.{drop}
use Rattle.limits.specs.declared.Plant.{Plant}
use Rattle.printing.specs.Put.{PutInRoom}
use Rattle.text.specs.Lines.{plant_word}
use Rattle.text.specs.Written.{row_text}
use Rattle.typing.specs.Text.{word_for, row_typed}
use Rattle.typing.specs.Steps.{row_room}
use Rattle.typing.proofs.Putting.{roomier}
use Rattle.typing.proofs.texts.put_plant.Goals as goal

pub returns : goal.returns
unfolding word_for row_typed
returns c =
    let a = c.args in
    let rest = drop a.at a.s.now in
    let row : Plant → List ℕ = λ x. row_text plant_word (x.agent ∷ x.inflexible ∷ x.must ∷ x.price ∷ x.availability ∷ []) rest in
    let x : PutInRoom (row c.plant_of-p.result) a.s.now c.put_row.new.s a.at 111
    c.put_row.result = c.put_row.ensures in
    roomier x (row_text (word_for 3) (row_typed 3 a.w) rest) row_room (omega arith) (ap row c.plant_of-p.ensures)
