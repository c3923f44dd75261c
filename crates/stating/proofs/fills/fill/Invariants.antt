-- Each list is what the lines so far make of it, and so is the price.
use Rattle.std.proofs.Common.{◌≡◌, map}
use Rattle.text.specs.Lines.{over}
use Rattle.stating.specs.Rows.{figures_line, money_line, second_line, price_line}
use Rattle.stating.proofs.fills.fill.Given as goal

abbrev pub invariant-loop-line : goal.invariant-loop-line
invariant-loop-line l = record {
  figures : l.figures ≡ over figures_line l.fn.figures (map (λ x. x.now) l.yielded);
  money : l.money ≡ over money_line l.fn.money (map (λ x. x.now) l.yielded);
  schedule : l.schedule ≡ over (second_line 3) l.fn.schedule (map (λ x. x.now) l.yielded);
  amounts : l.amounts ≡ over (second_line 4) l.fn.amounts (map (λ x. x.now) l.yielded);
  price : l.price ≡ over price_line 0 (map (λ x. x.now) l.yielded);
}
