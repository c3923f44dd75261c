use Rattle.std.proofs.Common.{◌≡◌, ℕ, ◌&&◌, ltb, arith, sym, ap, ◌∙◌}
use borrow.Author.Count.{below_more}
use Rattle.limits.specs.declared.Agent.{Agent}
use Rattle.rows.specs.Rows.{agent_of, carries_losses}
use Rattle.sums.specs.Lists.{at}
use Rattle.sums.proofs.Sums.{sum_eq, sum_none, sum_step}
use Rattle.sums.proofs.Fill.{filled_none, filled_more, filled_by}
use Rattle.columns.specs.Columns.{columns_of}
use Rattle.columns.proofs.Columns.{agents_long}
use Rattle.balance.specs.Parts.{found}
use Rattle.balance.proofs.Agents.{neither, few, took, gave, taken_here, used_here, over_here, exact}
use Rattle.balance.proofs.Agents.{kinds_are, takes, gives, uses, entering_fits, leaving_fits}
use Rattle.balance.proofs.ByAgent.{over_is, consumed_is, entering_is}
use Rattle.balance.proofs.sort_out.Goals as goal

pub loop-a-init : goal.loop-a-init
loop-a-init c = record {
  kinds = filled_none 0 _ _;
  taken = filled_none 0 _ _;
  given = filled_none 0 _ _;
  used = filled_none 0 _ _;
  none = λ e k l. absurd (omega arith);
  entering = sym (sum_none _);
  consumed = sym (sum_none _);
  drawn = sym (sum_none _);
}

pub bounds-imports-a : goal.bounds-imports-a
bounds-imports-a c = omega (arith, few _ _ c.requires.s_value _ _ c.requires.metered.0)

pub bounds-exports-a : goal.bounds-exports-a
bounds-exports-a c = omega (arith, few _ _ c.requires.s_value _ _ c.requires.metered.0)

pub whole_of-w-requires : goal.whole_of-w-requires
whole_of-w-requires c = exact _ _ c.requires.s_value _ _ c.requires.metered.0 c.loop-a.a (omega arith)

pub overflow_add-entering : goal.overflow_add-entering
overflow_add-entering c =
    let kind = ap (λ (k : Agent). k.kind) (c.agent_of-kind.ensures ∙ ap agent_of c.row_at.ensures) in
    omega (
      arith,
      c.loop-a.invariant.entering,
      taken_here c.section_of-section.result.now c.args.exports.now c.loop-a.a _ kind _ c.whole_of-w.ensures.1,
      entering_fits _ _ c.requires.s_value _ _ c.requires.metered.0 _ c.section_of-section.ensures c.loop-a.a (omega arith),
    )

pub overflow_add-consumed : goal.overflow_add-consumed
overflow_add-consumed c =
    let kind = ap (λ (k : Agent). k.kind) (c.agent_of-kind.ensures ∙ ap agent_of c.row_at.ensures) in
    omega (
      arith,
      c.loop-a.invariant.consumed,
      used_here c.section_of-section.result.now c.args.imports.now c.loop-a.a _ kind c.args.exports.now _ c.whole_of-w.ensures.2,
      leaving_fits _ _ c.requires.s_value _ _ c.requires.metered.0 _ c.section_of-section.ensures c.loop-a.a (omega arith),
    )

pub overflow_add-drawn : goal.overflow_add-drawn
overflow_add-drawn c =
    let kind = ap (λ (k : Agent). k.kind) (c.agent_of-kind.ensures ∙ ap agent_of c.row_at.ensures) in
    omega (
      arith,
      c.loop-a.invariant.drawn,
      taken_here c.section_of-section.result.now c.args.imports.now c.loop-a.a _ kind _ c.whole_of-w.ensures.0,
      leaving_fits _ _ c.requires.s_value _ _ c.requires.metered.0 _ c.section_of-section.ensures c.loop-a.a (omega arith),
    )

pub loop-a-preserved : goal.loop-a-preserved
loop-a-preserved c =
    let i = c.loop-a.invariant in
    let pre = c.requires.metered in
    let b = c.section_of-section.result.now in
    let a = c.loop-a.a in
    let kind = ap (λ (k : Agent). k.kind) (c.agent_of-kind.ensures ∙ ap agent_of c.row_at.ensures) in
    let took = taken_here b c.args.imports.now a _ kind _ c.whole_of-w.ensures.0 in
    let gave = taken_here b c.args.exports.now a _ kind _ c.whole_of-w.ensures.1 in
    let used = used_here b c.args.imports.now a _ kind c.args.exports.now _ c.whole_of-w.ensures.2 in
    let over = over_here b c.args.imports.now a _ kind c.args.exports.now _ c.whole_of-w.ensures.3 in
    record {
      kinds = filled_more 0 _ _ _ _ _ (omega (arith, i.kinds.long, pre.1)) kind i.kinds;
      taken = filled_more 0 _ _ _ _ _ (omega (arith, i.taken.long, pre.2)) took i.taken;
      given = filled_more 0 _ _ _ _ _ (omega (arith, i.given.long, pre.3)) gave i.given;
      used = filled_more 0 _ _ _ _ _ (omega (arith, i.used.long, pre.4)) used i.used;
      none =
          λ e. let n = neither c.loop-a.any c.whole_of-w.result.over e in
          below_more _ _ (i.none n.0) (sym over ∙ n.1);
      entering = rw sum_step (omega (arith, i.entering, gave));
      consumed = rw sum_step (omega (arith, i.consumed, used));
      drawn = rw sum_step (omega (arith, i.drawn, took));
    }

pub first_if-requires : goal.first_if-requires
first_if-requires c =
    let e : c.loop-a.a ≡ c.args.c.agents = omega arith in
    let i = c.loop-a.invariant in (
      few _ _ c.requires.s_value _ _ c.requires.metered.0,
      omega (arith, i.kinds.long, c.requires.metered.1),
      λ f a m.
          ap (λ (k : ℕ). carries_losses k && ltb (at c.args.imports.now a) (at c.args.exports.now a)) (i.kinds.done a (omega arith))
          ∙ i.none f a (omega arith),
    )

pub returns : goal.returns
returns c =
    let e : c.loop-a.a ≡ c.args.c.agents = omega arith in
    let i = c.loop-a.invariant in
    let ok = c.requires.s_value in
    let m = c.requires.metered.0 in
    let h = columns_of c.args.s.now c.args.c in
    let n = agents_long c.args.s.now c.args.c in
    let sec = c.section_of-section.ensures in
    let k = filled_by 0 _ _ _ _ _ (kinds_are _ _ ok _ _ m _ sec) (rw e at i.kinds) in
    record {
      kinds = k;
      taken = filled_by 0 _ _ _ _ _ (takes _ _ ok _ _ m _ sec) (rw e at i.taken);
      given = filled_by 0 _ _ _ _ _ (gives _ _ ok _ _ m _ sec) (rw e at i.given);
      used = filled_by 0 _ _ _ _ _ (uses _ _ ok _ _ m _ sec) (rw e at i.used);
      over =
          c.first_if.ensures
          ∙ ap (found c.args.c.agents) (over_is h _ n c.loop-a.kinds c.args.imports.now c.args.exports.now k.done
          (took _ _ ok _ _ m) (gave _ _ ok _ _ m));
      entering = (rw e at i.entering) ∙ entering_is h _ n _ (gives _ _ ok _ _ m _ sec);
      consumed = (rw e at i.consumed) ∙ consumed_is h _ n _ (uses _ _ ok _ _ m _ sec);
      drawn = (rw e at i.drawn) ∙ sum_eq _ _ _ (takes _ _ ok _ _ m _ sec);
    }
