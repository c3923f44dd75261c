-- Buyers before b are served, and the keys from where b's begin are still as `part` put them. So the stretch up to b's end has b's keys and
-- no others (`slice_front`), and serving it adds b's side to those that are done (`cut_more`); an empty stretch is a buyer who has no side
-- that is cut, or no rows in it (`cut_none_more`).
use Rattle.std.proofs.Common.{◌≡◌, ℕ, ◌+◌, ◌-◌, ◌≤◌, ◌<◌, List, length, refl, sym, ap, ◌∙◌, rules, arith}
use native.Mathlib.Decide.{dec_lt}
use Rattle.sums.specs.Lists.{at}
use Rattle.limits.specs.Limits.{most_agents}
use Rattle.order.specs.Passes.{NextPlaces, under}
use Rattle.order.proofs.Places.{under_none, under_le}
use Rattle.contracts.specs.Assign.{count_in, deals_in}
use Rattle.contracts.specs.Keys.{Ready}
use Rattle.contracts.specs.Sides.{tag_in, Cuts, CutBelow}
use Rattle.contracts.specs.Walk.{between}
use Rattle.contracts.proofs.Walks.{part_long, part_at, put_behind}
use Rattle.contracts.proofs.Spots.{next_ends, next_begins, some_cut, slice_front, cut_more, cut_none_more, cut_begun}
use Rattle.contracts.proofs.serve_all.Goals as goal

-- the keys of buyer b, from `begin` on
record Stretch (section decided ends keys : List ℕ) (b begin : ℕ) : Type 0 where
  ends_at : at ends b ≡ under (tag_in section decided) (count_in section) (b + 1)
  begin_le : begin ≤ at ends b
  end_le : at ends b ≤ length keys
  size : length (between begin (at ends b) keys) ≡ at ends b - begin

stretch : (section demands decided ends keys : List ℕ) (b begin : ℕ)
    → Ready (deals_in section) demands
    → Cuts section demands decided
    → NextPlaces (tag_in section decided) (length demands) (count_in section) (count_in section) ends
    → count_in section ≤ length keys
    → b < length demands
    → begin ≡ under (tag_in section decided) (count_in section) b
    → Stretch section decided ends keys b begin
stretch section demands decided ends keys b begin ready cuts next room l begins =
    let e = next_ends section demands ready decided cuts b l ends next in
    let most : at ends b ≤ length keys =
    omega (arith, e, under_le (tag_in section decided) (count_in section) (b + 1), room) in
    record {
      ends_at = e;
      begin_le = omega (arith, e, begins, next_begins section decided b);
      end_le = most;
      size = part_long keys begin (at ends b) most;
    }

pub loop-b-init : goal.loop-b-init
loop-b-init c = record { begins = sym (under_none _ _); kept = λ u h. refl; done = cut_begun _ _ _ _ }

pub slice_bounds-serve_side-end : goal.slice_bounds-serve_side-end
slice_bounds-serve_side-end c =
    let r = c.requires in
    let t =
    stretch _ _ _ c.args.ends.now c.loop-b.keys c.loop-b.b _ r.ready.0 r.cuts.0 r.cuts.2 (omega (arith, r.cuts.1))
    (omega (arith, r.cuts.2.long)) c.loop-b.invariant.begins in
    t.end_le

pub serve_side-requires-clause-cuts : goal.serve_side-requires-clause-cuts
serve_side-requires-clause-cuts c =
    let r = c.requires in
    let inv = c.loop-b.invariant in
    let l : c.loop-b.b < length c.args.j.demands.now = omega (arith, r.cuts.2.long) in
    let t =
    stretch _ _ _ c.args.ends.now c.loop-b.keys c.loop-b.b _ r.ready.0 r.cuts.0 r.cuts.2 (omega (arith, r.cuts.1)) l
    inv.begins in
    let own = between c.loop-b.begin (at c.args.ends.now c.loop-b.b) c.loop-b.keys in
    let bit : 0 < length own → at c.args.j.decided.now (most_agents + c.loop-b.b) ≤ 1 =
    λ h. some_cut _ _ r.ready.0 _ r.cuts.0 _ l (omega (arith, t.size, t.ends_at, inv.begins)) in (
      r.cuts.0,
      bit,
      (λ h. slice_front _ _ r.ready.0 _ r.cuts.0 _ l (bit h) _ _ r.cuts.3
          (omega (arith, t.size, t.ends_at, inv.begins))
          (λ u k. part_at c.loop-b.keys c.loop-b.begin (at c.args.ends.now c.loop-b.b) u (omega (arith, t.size))
          ∙ inv.kept (c.loop-b.begin + u) (omega arith)
          ∙ ap (λ (x : ℕ). at c.args.keys.now (x + u)) inv.begins)),
    )

pub loop-b-preserved : goal.loop-b-preserved
loop-b-preserved c =
    let r = c.requires in
    let inv = c.loop-b.invariant in
    let l : c.loop-b.b < length c.args.j.demands.now = omega (arith, r.cuts.2.long) in
    let t =
    stretch _ _ _ c.args.ends.now c.loop-b.keys c.loop-b.b _ r.ready.0 r.cuts.0 r.cuts.2 (omega (arith, r.cuts.1)) l
    inv.begins in
    let ys = c.serve_side.new.keys in
    let long : length ys ≡ at c.args.ends.now c.loop-b.b - c.loop-b.begin = search rules ∙ t.size in
    let done : Dec (c.loop-b.begin < at c.args.ends.now c.loop-b.b)
    → CutBelow c.args.j.section.now c.args.j.demands.now c.args.j.decided.now (c.loop-b.b + 1) c.args.out.now c.serve_side.new.out =
    λ d. elim d [
      | yes h ↦ cut_more _ _ r.ready.0 _ r.cuts.0 _ l
          (some_cut _ _ r.ready.0 _ r.cuts.0 _ l (omega (arith, t.ends_at, inv.begins))) _ _ _ inv.done
          (c.serve_side.ensures.0 (omega (arith, t.size)))
      | no h ↦ rw (c.serve_side.ensures.1 (omega (arith, t.size)))
          (cut_none_more _ _ r.ready.0 _ r.cuts.0 _ l (omega (arith, t.ends_at, inv.begins)) _ _ inv.done)
    ] in
    record {
      begins = t.ends_at;
      kept =
          λ u h. put_behind c.loop-b.keys ys c.loop-b.begin _ t.begin_le t.end_le long u h
          ∙ inv.kept u (omega (arith, t.begin_le));
      done = done (dec_lt _ _);
    }
