use Rattle.std.proofs.Common.{ℕ, ◌≤◌, List, [], ◌∷◌, length, drop, get_or, arith}
use Rattle.text.specs.Written.{row_text}
use Rattle.telling.proofs.Going.{going_more, going_done}
use Rattle.telling.proofs.putting.put_list.Goals as goal

-- row i of the list, and what follows
abbrev row : (word list : List ℕ) → ℕ → List ℕ → List ℕ
row word list i = row_text word (i ∷ get_or list i 0 ∷ [])

pub loop-row-preserved : goal.loop-row-preserved
loop-row-preserved c = λ p q.
    let a = c.args in
    let l = c.loop-row in
    let f = l.invariant p q in
    let short : length a.word.now ≤ 8 = c.requires.1 in
    let w = c.put_row-i.ensures.put (omega (arith, f.low, p, short)) (omega (arith, f.high, q)) in
    record {
      low = omega (arith, f.low, w.low, short);
      high = omega (arith, f.high, w.high);
      text = going_more (row a.word.now a.list.now) (length a.list.now) (drop a.at a.s.now) l.s l.i l.row f.text _ (omega arith) w.text_is;
    }

pub returns : goal.returns
returns c =
    let a = c.args in
    let l = c.loop-row in
    record {
      put = λ p q.
          let f = l.invariant p q in
          record {
            text_is = going_done (row a.word.now a.list.now) (length a.list.now) (drop a.at a.s.now) l.s l.i l.row f.text (omega arith);
            low = omega (arith, f.low);
            high = f.high;
          };
    }
