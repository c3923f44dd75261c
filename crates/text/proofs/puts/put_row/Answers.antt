use Rattle.std.proofs.Common.{ℕ, List, ◌++◌, ap, ◌∙◌, arith}
use Rattle.text.specs.Written.{joined, row_text}
use Rattle.text.proofs.puts.put_row.Goals as goal

pub returns : goal.returns
unfolding row_text
returns c =
    let a = c.args in
    let kb = c.byte-i.auto.s in
    let kj = c.put_joined-j.auto.s in
    record {
      put = λ p q.
          let x = c.byte-i.ensures.put (omega (arith, p)) q in
          let y = c.put_joined-j.ensures.put (omega (arith, p, x.low)) (omega (arith, q, x.high, kb)) in
          let z = c.word.ensures.put (omega (arith, p, x.low, y.low)) (omega (arith, q, x.high, y.high, kb, kj)) in
          record {
            text_is =
                z.text_is
                ∙ ap (λ (l : List ℕ). a.word.now ++ l) (y.text_is ∙ ap (joined a.numbers.now) x.text_is);
            low = omega (arith, x.low, y.low, z.low);
            high = omega (arith, x.high, y.high, z.high);
          };
    }
