use Rattle.std.proofs.Common.{rules}
use Rattle.std.proofs.lemmas.List.Sorted.{answers_always}
use Rattle.contracts.proofs.Walks.{same_group, walk_begun, walk_next, walk_done, next_rowed}
use Rattle.contracts.proofs.walk.serve_asked.Goals as goal

pub loop-group-init : goal.loop-group-init
loop-group-init c =
    rw (c.into_iter-group-iterator.ensures.into_iter_gives, c.chunk_by-group-items.ensures.rest) (walk_begun _ _ _ _)

pub serve_group-tally-requires : goal.serve_group-tally-requires
serve_group-tally-requires c =
    let s = c.in-Some.ensures.steps in
    let alike = s.2 same_group (answers_always _ _ _ (λ f a r g h. search rules)) in
    next_rowed _ _ _ _ c.requires _ _ _ _ _ c.loop-group.invariant s.0 s.1 alike.1

pub loop-group-preserved : goal.loop-group-preserved
loop-group-preserved c =
    let s = c.in-Some.ensures.steps in
    let alike = s.2 same_group (answers_always _ _ _ (λ f a r g h. search rules)) in
    let served = c.serve_group-tally.ensures in
    walk_next _ _ _ _ c.requires _ _ _ _ _ c.loop-group.invariant s.0 s.1 alike.1 _ _ served.0 served.1

pub returns : goal.returns
returns c = walk_done _ _ _ _ _ _ _ c.loop-group.invariant c.in-None.ensures.steps.0
