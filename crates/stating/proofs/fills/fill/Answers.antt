use Rattle.std.proofs.Common.{ℕ, ℤ, List, ap, sym, ◌∙◌, refl, rules, tests}
use Rattle.std.proofs.lemmas.Iterator.Consumers.{YieldsList-end}
use Rattle.std.proofs.lemmas.Iterator.Splits.{YieldsList-from_slice_split}
use Rattle.hour.specs.Answer.{Lent}
use Rattle.text.specs.Lines.{over, newline}
use Rattle.text.proofs.Parts.{cut_parts, over_one_more}
use Rattle.stating.specs.Rows.{figures_line, money_line, second_line, price_line, price_in}
use Rattle.stating.proofs.Filling.{listed_is}
use Rattle.stating.proofs.fills.fill.Goals as goal

pub loop-line-init : goal.loop-line-init
unfolding over
loop-line-init c = record { figures = refl; money = refl; schedule = refl; amounts = refl; price = refl }

pub loop-line-preserved : goal.loop-line-preserved
unfolding figures_line money_line second_line price_line
loop-line-preserved c =
    let a = c.args in
    let xs = c.loop-line.yielded in
    let x = c.in-Some.line in
    let v = c.loop-line.invariant in
    let e = rw c.read_line-l.ensures at c.put_line.ensures in
    let p = rw c.read_line-l.ensures at c.price_or-price.ensures in
    record {
      figures =
          ap (λ (l : Lent). l.figures) e ∙ ap (λ (l : List ℕ). figures_line l x.now) v.figures
          ∙ sym (over_one_more figures_line a.figures.now xs x);
      money =
          ap (λ (l : Lent). l.money) e ∙ ap (λ (l : List ℤ). money_line l x.now) v.money
          ∙ sym (over_one_more money_line a.money.now xs x);
      schedule =
          ap (λ (l : Lent). l.schedule) e ∙ ap (λ (l : List ℕ). second_line 3 l x.now) v.schedule
          ∙ sym (over_one_more (second_line 3) a.schedule.now xs x);
      amounts =
          ap (λ (l : Lent). l.amounts) e ∙ ap (λ (l : List ℕ). second_line 4 l x.now) v.amounts
          ∙ sym (over_one_more (second_line 4) a.amounts.now xs x);
      price = p ∙ ap (λ (n : ℕ). price_line n x.now) v.price ∙ sym (over_one_more price_line 0 xs x);
    }

pub returns : goal.returns
unfolding price_in
returns c =
    let a = c.args in
    let s = a.s.now in
    let v = c.loop-line.invariant in
    let all = YieldsList-from_slice_split _ newline s (cc) (cc) (cc) (λ x r q k. search (rules, tests)) in
    let t = YieldsList-end all c.loop-line.yielded _ c.loop-line.yielded_by _ _ c.in-None.is c.next.ensures.steps in
    let e = t.0 ∙ cut_parts newline s in (
      listed_is (v.figures ∙ ap (over figures_line a.figures.now) e) (v.money ∙ ap (over money_line a.money.now) e)
          (v.schedule ∙ ap (over (second_line 3) a.schedule.now) e) (v.amounts ∙ ap (over (second_line 4) a.amounts.now) e),
      v.price ∙ ap (over price_line 0) e,
    )
