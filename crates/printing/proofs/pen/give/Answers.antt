use Rattle.std.proofs.Common.{◌≡◌, ℕ, ◌+◌, ◌≤◌, [], List, length, drop, arith, refl, ap, subst, le_refl}
use Rattle.std.specs.List.{between}
use Rattle.std.proofs.lemmas.Slice.{between_to_end}
use borrow.Author.Tests.{le-leb}
use Rattle.sums.specs.Lists.{at, Filled}
use Rattle.sums.proofs.Fill.{filled_none, filled_count}
use Rattle.std.specs.Prelude.{Ok}
use Rattle.printing.proofs.pen.give.Goals as goal

pub returns : goal.returns
returns c =
    let text = drop c.args.from c.args.s.now in
    let room = c.args.out.now in
    let whole : between c.args.from (length c.args.s.now) c.args.s.now ≡ text = between_to_end c.args.s.now c.args.from (length c.args.s.now) (le_refl _) in
    let fits : length text ≤ length room = omega (arith, ap length whole) in
    let filled = c.copy_out.ensures room [] refl (filled_none 0 room (at [])) in
    rw (le-leb (length text) (length room) fits)
    (record {
      answer = ap (λ (l : List ℕ). Ok (length l)) whole;
      bytes =
          filled_count 0 room _ (0 + length text) (length text) (at text) (omega arith)
          (subst (λ (l : List ℕ). Filled 0 room c.copy_out.new.out (0 + length l) (at l)) whole filled);
    })
