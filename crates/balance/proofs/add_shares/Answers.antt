-- What stands in the cells of the next agent is as it was, and `SharesFit` says that what becomes of it fits.
use Rattle.std.proofs.Common.{◌≡◌, ℕ, ◌+◌, ◌≤◌, ◌<◌, List, arith, sym, ap, ◌∙◌}
use Rattle.rows.specs.Rows.{is_outside}
use Rattle.sums.specs.Sums.{sum, pick}
use Rattle.sums.specs.Lists.{at}
use Rattle.sums.proofs.Sums.{sum_none, sum_step, sum_mono}
use Rattle.sums.proofs.Fill.{filled_none, filled_more}
use Rattle.balance.specs.Parts.{with_share, of_small}
use Rattle.balance.proofs.add_shares.Goals as goal

-- an agent more is no more than all of them
more_fits : (n a : ℕ) (f : ℕ → ℕ) → a < n → sum n f ≤ 4294967295 → sum a f + f a ≤ 4294967295
more_fits n a f l h = omega (arith, sum_step a f, sum_mono (a + 1) n f (omega arith))

-- what a small generator delivers, from a cell that is as it was
small_is : (kinds own own' : List ℕ) (a r : ℕ) → r ≡ pick (is_outside (at kinds a)) (at own' a) → at own' a ≡ at own a
    → r ≡ of_small kinds own a
small_is kinds own own' a r e k = e ∙ ap (pick (is_outside (at kinds a))) k

pub loop-a-init : goal.loop-a-init
loop-a-init c = record {
  commercial = filled_none 0 _ _;
  own = filled_none 0 _ _;
  all = sym (sum_none _);
  small = sym (sum_none _);
}

pub overflow_add-demand : goal.overflow_add-demand
overflow_add-demand c =
    omega (arith, c.loop-a.invariant.commercial.kept c.loop-a.a (omega arith), c.requires.3.each c.loop-a.a (omega arith))

pub overflow_add-own : goal.overflow_add-own
overflow_add-own c =
    let i = c.loop-a.invariant in
    omega (
      arith,
      i.commercial.kept c.loop-a.a (omega arith),
      small_is c.args.kinds.now c.args.own.now c.loop-a.own c.loop-a.a _ c.of_small-delivered.ensures (i.own.kept c.loop-a.a (omega arith)),
      c.requires.3.each c.loop-a.a (omega arith),
    )

pub overflow_add-all : goal.overflow_add-all
overflow_add-all c =
    let i = c.loop-a.invariant in
    omega (
      arith,
      i.commercial.kept c.loop-a.a (omega arith),
      i.all,
      more_fits c.args.n c.loop-a.a (with_share c.args.commercial.now c.args.shares.now) (omega arith) c.requires.3.all,
    )

pub overflow_add-small : goal.overflow_add-small
overflow_add-small c =
    let i = c.loop-a.invariant in
    omega (
      arith,
      small_is c.args.kinds.now c.args.own.now c.loop-a.own c.loop-a.a _ c.of_small-delivered.ensures (i.own.kept c.loop-a.a (omega arith)),
      i.small,
      more_fits c.args.n c.loop-a.a (of_small c.args.kinds.now c.args.own.now) (omega arith) c.requires.3.small,
    )

pub loop-a-preserved : goal.loop-a-preserved
loop-a-preserved c =
    let i = c.loop-a.invariant in
    let a = c.loop-a.a in
    let demand = i.commercial.kept a (omega arith) in
    let small = small_is c.args.kinds.now c.args.own.now c.loop-a.own c.loop-a.a _ c.of_small-delivered.ensures
    (i.own.kept a (omega arith)) in
    record {
      commercial = filled_more 0 _ _ _ _ _ (omega arith) (omega (arith, demand)) i.commercial;
      own = filled_more 0 _ _ _ _ _ (omega arith) (omega (arith, demand, small)) i.own;
      all = omega (arith, i.all, demand, sum_step a (with_share c.args.commercial.now c.args.shares.now));
      small = omega (arith, i.small, small, sum_step a (of_small c.args.kinds.now c.args.own.now));
    }

pub returns : goal.returns
returns c =
    let e : c.loop-a.a ≡ c.args.n = omega arith in
    let i = c.loop-a.invariant in
    record {
      commercial = rw e at i.commercial;
      own = rw e at i.own;
      all = rw e at i.all;
      small = rw e at i.small;
    }
