use Rattle.std.proofs.Common.{◌<◌, arith}
use lib.Pow.{pow_pos}
use Rattle.share.proofs.Lacks.{narrow_last, narrow_class, narrow_whole}
use Rattle.share.proofs.choose.Goals as goal

pub returns-then-c-ge63 : goal.returns-then-c-ge63
returns-then-c-ge63 c =
    let w = c.power-w.result in
    let pos : 0 < w = rw c.power-w.ensures (pow_pos c.args.s) in
    record {
      of =
          λ key n s. narrow_last key n _ _ _ w _ _ _ pos (omega (arith, c.power-w.ensures, c.requires.2)) (rw c.power-w.ensures s)
          c.class_at-l.ensures (omega (arith, c.class_at-l.ensures.most));
    }

pub returns-then-held-l : goal.returns-then-held-l
returns-then-held-l c =
    let w = c.power-w.result in
    let pos : 0 < w = rw c.power-w.ensures (pow_pos c.args.s) in
    record {
      of =
          λ key n s. rw c.min.ensures
          (narrow_whole key n _ _ _ w _ _ _ pos (omega (arith, c.power-w.ensures, c.requires.2)) (rw c.power-w.ensures s)
          c.class_at-l.ensures (omega arith) (omega arith));
    }

pub returns : goal.returns
returns c =
    let w = c.power-w.result in
    let pos : 0 < w = rw c.power-w.ensures (pow_pos c.args.s) in
    record {
      of =
          λ key n s. rw c.min-2.ensures
          (narrow_class key n _ _ _ w _ _ _ pos (omega (arith, c.power-w.ensures, c.requires.2)) (rw c.power-w.ensures s)
          c.class_at-l.ensures (omega arith));
    }
