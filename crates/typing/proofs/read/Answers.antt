use Rattle.std.proofs.Common.{◌≡◌, ℕ, List, ap, sym, ◌∙◌, is_some, false, arith}
use Rattle.writing.specs.Numbers.{Numbers, numbers, counts_in}
use Rattle.typing.specs.Rows.{scanned}
use Rattle.typing.specs.declared.Scan.{Scan}
use Rattle.typing.proofs.Counting.{Fits, fits}
use Rattle.typing.proofs.Reading.{wrong_kept, all_read}
use Rattle.typing.proofs.read.Goals as goal

-- no line of the text is wrong
right : (n : Numbers) (text : List ℕ) (r : Scan) → r ≡ scanned (counts_in n) text → is_some r.fault ≡ false → Fits (counts_in n) text
right n text r e f = fits (counts_in n) text (ap (λ (j : Scan). is_some j.fault) (sym e) ∙ f)

pub returns-then-is_some : goal.returns-then-is_some
returns-then-is_some c =
    let a = c.args in
    wrong_kept a.text.now (numbers a.agents.now a.boundaries.now a.plants.now a.contracts.now) c.scan-r.result c.scan-r.ensures
    (sym c.is_some.ensures ∙ c.if-is_some.true)

pub gather-requires : goal.gather-requires
gather-requires c =
    let a = c.args in
    let f =
    right (numbers a.agents.now a.boundaries.now a.plants.now a.contracts.now) a.text.now c.scan-r.result c.scan-r.ensures
    (sym c.is_some.ensures ∙ c.if-is_some.false) in
    omega (arith, f.agents, f.few_agents)

pub gather-requires-2 : goal.gather-requires-2
gather-requires-2 c =
    let a = c.args in
    let f =
    right (numbers a.agents.now a.boundaries.now a.plants.now a.contracts.now) a.text.now c.scan-r.result c.scan-r.ensures
    (sym c.is_some.ensures ∙ c.if-is_some.false) in
    omega (arith, f.boundaries, f.few_boundaries)

pub gather-requires-3 : goal.gather-requires-3
gather-requires-3 c =
    let a = c.args in
    let f =
    right (numbers a.agents.now a.boundaries.now a.plants.now a.contracts.now) a.text.now c.scan-r.result c.scan-r.ensures
    (sym c.is_some.ensures ∙ c.if-is_some.false) in
    omega (arith, f.plants, f.few_plants)

pub gather-requires-4 : goal.gather-requires-4
gather-requires-4 c =
    let a = c.args in
    let f =
    right (numbers a.agents.now a.boundaries.now a.plants.now a.contracts.now) a.text.now c.scan-r.result c.scan-r.ensures
    (sym c.is_some.ensures ∙ c.if-is_some.false) in
    omega (arith, f.contracts, f.few_contracts)

pub returns : goal.returns
returns c =
    let a = c.args in
    all_read a.text.now (numbers a.agents.now a.boundaries.now a.plants.now a.contracts.now) c.scan-r.result c.scan-r.ensures _
    (sym c.is_some.ensures ∙ c.if-is_some.false) c.gather.ensures c.gather-2.ensures c.gather-3.ensures c.gather-4.ensures
