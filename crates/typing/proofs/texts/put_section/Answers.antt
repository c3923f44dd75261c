use Rattle.std.proofs.Common.{◌≡◌, ℕ, ◌+◌, ◌-◌, ◌≤◌, ◌<◌, drop, refl, sym, ap, ◌∙◌, arith}
use Rattle.octets.specs.Bytes.{words_at}
use Rattle.octets.specs.declared.Words.{Words}
use Rattle.printing.specs.Text.{lines_to}
use Rattle.printing.proofs.Text.{lines_more, lines_none}
use Rattle.text.specs.Written.{row_text}
use Rattle.typing.specs.Text.{word_for, row_typed}
use Rattle.typing.proofs.texts.put_section.Invariants.{row_at}
use Rattle.typing.proofs.texts.put_section.Goals as goal

pub loop-row-init : goal.loop-row-init
loop-row-init c =
    let e : c.args.start + c.args.n - c.args.start ≡ c.args.n = omega arith in
    record { long = refl; going = λ p q. record { low = omega arith; high = omega arith; text = rw e } }

pub loop-row-preserved : goal.loop-row-preserved
loop-row-preserved c =
    let a = c.args in
    let g = row_at a.k a.sheet.now a.start in
    let left = c.loop-row.row - a.start in
    let t : 0 < left = omega (arith, c.loop-row-test.true) in
    let z = c.loop-row.invariant.long in
    let next : c.loop-row.row - 1 - a.start ≡ left - 1 = omega arith in
    let here : c.loop-row.row - 1 ≡ a.start + (left - 1) = omega (arith, c.loop-row-test.true) in
    record {
      long = c.put_line-i.auto.s ∙ z;
      going = λ p q.
          let f = c.loop-row.invariant.going p q in
          let w = c.put_line-i.ensures.put (omega (arith, f.low, p, t)) (omega (arith, f.high, q, z)) in
          let e =
          w.text_is
          ∙ ap (λ (x : Words). row_text (word_for a.k) (row_typed a.k x) (drop c.loop-row.i c.loop-row.s))
          (c.row_at.ensures ∙ ap (words_at a.sheet.now) here) in
          record {
            low = omega (arith, f.low, w.low, t);
            high = omega (arith, f.high, w.high);
            text =
                f.text ∙ lines_more g left (drop c.loop-row.i c.loop-row.s) t ∙ ap (lines_to g (left - 1)) (sym e)
                ∙ ap (λ (j : ℕ). lines_to g j (drop c.put_line-i.result c.put_line-i.new.s)) (sym next);
          };
    }

pub returns : goal.returns
returns c =
    let a = c.args in
    record {
      put = λ p q.
          let f = c.loop-row.invariant.going p q in
          let e : c.loop-row.row - a.start ≤ 0 = omega arith in
          record {
            text_is = sym (f.text ∙ lines_none (row_at a.k a.sheet.now a.start) (c.loop-row.row - a.start) (drop c.loop-row.i c.loop-row.s) e);
            low = omega (arith, f.low, e);
            high = f.high;
          };
    }
