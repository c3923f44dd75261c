use Rattle.std.proofs.Common.{◌≡◌, ℕ, min, pos, ap, ◌∙◌, arith}
use mathlib.Core.Path.{ap₂}
use mir.Syntax.{w64}
use mir.ValLaws.{to_z-of_z}
use Rattle.sums.proofs.Fill.{filled_none, filled_more}
use Rattle.limits.specs.Limits.{most_offer}
use Rattle.hour.specs.Lines.{money_of}
use Rattle.lines.proofs.OneLine.{line_pasted}
use Rattle.lines.proofs.write_lines.Goals as goal

pub loop-a-init : goal.loop-a-init
loop-a-init c = record { figures = filled_none 0 _ _; money = filled_none (pos 0) _ _ }

pub loop-a-preserved : goal.loop-a-preserved
loop-a-preserved c =
    let inv = c.loop-a.invariant in
    let b = c.bought-buys.ensures in
    let s = c.sold-sells.ensures in
    let same : min c.args.price most_offer ≡ c.args.price = omega (arith, c.requires.n_le_most_agents.3) in
    record {
      figures =
          rw (c.write_line.ensures, b, s)
          (line_pasted _ _ _ _ _ _ _ c.loop-a.a (omega arith) c.loop-a.figures inv.figures);
      money =
          filled_more (pos 0) _ c.loop-a.money c.loop-a.a _ _ (omega arith)
          (to_z-of_z w64 c.owed.result (record { sfits = c.owed.type_inv }) ∙ c.owed.ensures
          ∙ ap (λ (p : ℕ). money_of c.sold-sells.result c.bought-buys.result p) same
          ∙ ap₂ (λ (x y : ℕ). money_of x y c.args.price) s b)
          inv.money;
    }

pub returns-clause-filled : goal.returns-clause-filled
returns-clause-filled c =
    let e : c.loop-a.a ≡ c.args.n = omega arith in rw e at c.loop-a.invariant.figures

pub returns-clause-filled_2 : goal.returns-clause-filled_2
returns-clause-filled_2 c =
    let e : c.loop-a.a ≡ c.args.n = omega arith in rw e at c.loop-a.invariant.money
