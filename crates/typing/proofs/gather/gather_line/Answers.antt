use Prim.Native.Nat.{ℕ, ◌+◌}
use mathlib.Core.Path.{◌≡◌, refl, sym, ap, ap₂, ◌∙◌}
use mathlib.Core.List.{List}
use native.Mathlib.Omega.{arith}
use lib.ListN.{length, take, drop}
use lib.Seq.{paste, length-take-le}
use Rattle.text.specs.Lines.{read_line}
use Rattle.text.specs.declared.Line.{Line}
use Rattle.typing.specs.Rows.{wants}
use Rattle.typing.proofs.Gathering as laws
use Rattle.typing.proofs.gather.gather_line.Goals as goal

pub put_numbers-requires : goal.put_numbers-requires
put_numbers-requires c =
    let a = c.args in
    let e : (read_line a.s.now).word ≡ a.section = sym (ap (λ (l : Line). l.word) c.read_line-l.ensures) ∙ c.if-l-section.true in
    let n = c.wanted-n.ensures in
    let room = laws.gather_room a.section a.k a.out.now a.s.now c.requires.0 e c.requires.1 in
    omega (arith, n, room, length-take-le {A = ℕ})

pub returns-then-l-section : goal.returns-then-l-section
returns-then-l-section c =
    let a = c.args in
    let o = a.out.now in
    let s = a.s.now in
    let r = c.read_line-l.ensures in
    let e : (read_line s).word ≡ a.section = sym (ap (λ (l : Line). l.word) r) ∙ c.if-l-section.true in
    let n : c.wanted-n.result ≡ wants a.section = c.wanted-n.ensures.0 in
    let x : c.put_numbers.new.out ≡ paste o a.k (read_line s).numbers (wants a.section) =
    c.put_numbers.ensures ∙ laws.paste_front o c.read_line-l.result.numbers a.k c.wanted-n.result (omega arith)
    ∙ ap₂ (paste o a.k) (ap (λ (l : Line). l.numbers) r) n in
    let z : length c.put_numbers.new.out ≡ length o = c.put_numbers.auto.out in
    let m = laws.gather_room a.section a.k o s c.requires.0 e c.requires.1 in (
      ap₂ (λ (j : ℕ) (l : List ℕ). take (a.k + j) l) n x ∙ laws.gather_put a.section a.k o s c.requires.0 e,
      ap₂ (λ (j : ℕ) (l : List ℕ). drop (a.k + j) l) n x ∙ laws.gather_rest a.section a.k o s c.requires.0
          ∙ ap (λ (j : ℕ). drop (a.k + j) o) (sym n),
      omega arith,
      omega (arith, z, m, n),
    )

pub returns-else-l-section : goal.returns-else-l-section
returns-else-l-section c =
    let a = c.args in
    let r = c.read_line-l.ensures in (
      sym (laws.gather_skip a.section (take a.k a.out.now) a.s.now (λ e. c.if-l-section.false (ap (λ (l : Line). l.word) r ∙ e))),
      refl,
      omega arith,
      c.requires.0,
    )
