use Rattle.std.proofs.Common.{arith}
use Rattle.hour.specs.Answer.{lent}
use Rattle.std.proofs.Common.{[], length, drop}
use Rattle.telling.specs.Text.{agent_line}
use Rattle.telling.proofs.Going.{going_more, going_done}
use Rattle.telling.proofs.putting.put_agents.Goals as goal

pub loop-a-preserved : goal.loop-a-preserved
loop-a-preserved c = λ p q.
    let a = c.args in
    let l = c.loop-a in
    let f = l.invariant p q in
    let w = c.put_agent-i.ensures.put (omega (arith, f.low, p)) (omega (arith, f.high, q)) in
    record {
      low = omega (arith, f.low, w.low);
      high = omega (arith, f.high, w.high);
      text =
          going_more (agent_line (lent a.figures.now a.money.now [] [])) (length a.money.now) (drop a.at a.s.now) l.s l.i l.a f.text _
          (omega arith) w.text_is;
    }

pub returns : goal.returns
returns c =
    let a = c.args in
    let l = c.loop-a in
    record {
      put = λ p q.
          let f = l.invariant p q in
          record {
            text_is =
                going_done (agent_line (lent a.figures.now a.money.now [] [])) (length a.money.now) (drop a.at a.s.now) l.s l.i l.a f.text
                (omega arith);
            low = omega (arith, f.low);
            high = f.high;
          };
    }
