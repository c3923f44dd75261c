use Rattle.std.proofs.Common.{◌≡◌, ℕ, ◌≤◌, List, length, refl, sym, ◌∙◌, arith}
use lib.ListN.{length-set}
use Rattle.sums.specs.Sums.{keyed}
use Rattle.sums.specs.Lists.{at}
use Rattle.sums.proofs.Keyed.{keyed_none, keyed_beside, keyed_most}
use Rattle.checking.specs.Passes.{room}
use Rattle.checking.proofs.tally.tally.Goals as goal

-- what the first n rows come to fits
fits : (keys values : List ℕ) → ((j : ℕ) → at values j ≤ 4294967295) → (n a : ℕ) → keyed (at keys) (at values) n a ≤ room n
fits keys values small n a = keyed_most (at keys) (at values) n a 4294967295 (λ j l. small j)

pub loop-j-init : goal.loop-j-init
loop-j-init c =
    record { long = c.requires.cells; each = λ a l. omega (arith, keyed_none (at c.args.keys.now) (at c.args.values.now) a) }

pub overflow_add-out : goal.overflow_add-out
overflow_add-out c =
    let l = c.loop-j in
    let ks = c.args.keys.now in
    let vs = c.args.values.now in
    let k = at ks l.j in
    let there = c.requires.agent l.j (omega arith) in
    omega (
      arith,
      l.invariant.each k there,
      c.type_inv.values l.j,
      c.requires.small k there,
      c.requires.few,
      fits ks vs (λ j. omega (arith, c.type_inv.values j)) l.j k,
    )

pub loop-j-preserved : goal.loop-j-preserved
loop-j-preserved c =
    let l = c.loop-j in
    let there = c.requires.agent l.j (omega arith) in
    record {
      long = simp length-set l.invariant.long;
      each = λ b m. keyed_beside (at c.args.keys.now) (at c.args.values.now) l.j l.out _ _ refl c.from.ensures
          (omega (arith, there, l.invariant.long)) b _ (l.invariant.each b m);
    }

pub returns : goal.returns
returns c =
    let ks = c.args.keys.now in
    let all : c.loop-j.j ≡ length ks = omega arith in
    let each = rw all at c.loop-j.invariant.each in
    record {
      each = each;
      most = λ a l. omega (arith, each a l, fits ks c.args.values.now (λ j. omega (arith, c.type_inv.values j)) (length ks) a);
      long = c.loop-j.invariant.long ∙ sym c.requires.cells;
    }
