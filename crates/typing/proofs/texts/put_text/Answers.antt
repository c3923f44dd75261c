use Prim.Native.Nat.{ℕ}
use mathlib.Core.Path.{◌≡◌, ap, ◌∙◌}
use mathlib.Core.List.{List, []}
use native.Mathlib.Omega.{arith}
use lib.ListN.{drop}
use lib.Seq.{drop-length}
use Rattle.sheet.specs.Asking.{rows_in, rows_before}
use Rattle.typing.specs.Text.{section_text, sheet_text}
use Rattle.typing.proofs.Putting.{few_rows_lem}
use Rattle.typing.proofs.texts.put_text.Goals as goal

pub overflow_add-b : goal.overflow_add-b
overflow_add-b c = let f = few_rows_lem c.args.bytes.now c.args.c c.requires.0 in omega (arith, f.agents, f.boundaries)

pub overflow_add-p : goal.overflow_add-p
overflow_add-p c = let f = few_rows_lem c.args.bytes.now c.args.c c.requires.0 in omega (arith, f.agents, f.boundaries, f.plants)

pub put_section-i-requires : goal.put_section-i-requires
put_section-i-requires c =
    let f = few_rows_lem c.args.bytes.now c.args.c c.requires.0 in
    (omega arith, omega arith, omega (arith, f.agents, f.boundaries, f.plants, f.contracts))

pub put_section-j-requires : goal.put_section-j-requires
put_section-j-requires c =
    let f = few_rows_lem c.args.bytes.now c.args.c c.requires.0 in
    (omega arith, omega arith, omega (arith, f.agents, f.boundaries, f.plants))

pub put_section-k-requires : goal.put_section-k-requires
put_section-k-requires c =
    let f = few_rows_lem c.args.bytes.now c.args.c c.requires.0 in
    (omega arith, omega arith, omega (arith, f.agents, f.boundaries))

pub put_section-requires : goal.put_section-requires
put_section-requires c = let f = few_rows_lem c.args.bytes.now c.args.c c.requires.0 in (omega arith, omega arith, omega (arith, f.agents))

pub returns : goal.returns
unfolding sheet_text rows_in rows_before
returns c =
    let a = c.args in
    let s = a.bytes.now in
    let f = few_rows_lem s a.c c.requires.0 in
    let long = c.requires.1 in
    let k1 = c.put_section-i.auto.s in
    let k2 = c.put_section-j.auto.s in
    let k3 = c.put_section-k.auto.s in
    let x1 = c.put_section-i.ensures.put (omega (arith, f.contracts, long)) (omega arith) in
    let x2 = c.put_section-j.ensures.put (omega (arith, f.contracts, f.plants, long, x1.low)) (omega (arith, x1.high, k1)) in
    let x3 =
    c.put_section-k.ensures.put (omega (arith, f.contracts, f.plants, f.boundaries, long, x1.low, x2.low))
    (omega (arith, x1.high, x2.high, k1, k2)) in
    let x4 =
    c.put_section.ensures.put
    (omega (arith, f.contracts, f.plants, f.boundaries, f.agents, long, x1.low, x2.low, x3.low))
    (omega (arith, x1.high, x2.high, x3.high, k1, k2, k3)) in
    let t1 : drop c.put_section-i.result c.put_section-i.new.s ≡ section_text s a.c 4 [] =
    x1.text_is ∙ ap (λ (l : List ℕ). section_text s a.c 4 l) (drop-length a.s.now) in
    x4.text_is
    ∙ ap (λ (l : List ℕ). section_text s a.c 1 l)
    (x3.text_is
    ∙ ap (λ (l : List ℕ). section_text s a.c 2 l) (x2.text_is ∙ ap (λ (l : List ℕ). section_text s a.c 3 l) t1))
