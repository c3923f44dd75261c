-- What judging totals up, deciding turns into what is cut; the counts of the sides that are cut are how many rows each buyer's places
-- are to take.
use Rattle.std.proofs.Common.{◌≡◌, refl, sym, length, drop, length-take-le, length-append, length-drop, arith, ◌∙◌}
use lib.Seq.{take_at}
use Rattle.sums.proofs.Tests.{clash}
use Rattle.contracts.proofs.SideSums.{added_none}
use Rattle.contracts.proofs.Uncut.{decided_cuts}
use Rattle.contracts.proofs.Spots.{decided_most, spots_few, spots_next}
use Rattle.contracts.proofs.Verdicts.{fine_ready, planned}
use Rattle.contracts.proofs.survey.Goals as goal

pub judge-requires : goal.judge-requires
judge-requires c = (c.requires.0, added_none _ _ _)

pub spots-requires-clause-by_index : goal.spots-requires-clause-by_index
spots-requires-clause-by_index c =
    let judged = c.in_ok-judge.ensures in
    let ready = (fine_ready _ _ c.args.out.now (sym judged.answer)).0 in
    let cuts = decided_cuts _ _ ready _ _ (judged.held refl) c.decide-some.ensures.0 in
    let cells = length-take-le (length c.args.demands.now) c.args.next.now (omega (arith, c.requires.1, ready.agents)) in
    rw cells (decided_most _ _ ready _ cuts, spots_few _ _ ready _ cuts _ (judged.counted refl))

pub returns-then-some : goal.returns-then-some
returns-then-some c =
    let judged = c.in_ok-judge.ensures in
    let ready = (fine_ready _ _ c.args.out.now (sym judged.answer)).0 in
    let cuts = decided_cuts _ _ ready _ _ (judged.held refl) c.decide-some.ensures.0 in
    let n = length c.args.demands.now in
    let cells = length-take-le n c.args.next.now (omega (arith, c.requires.1, ready.agents)) in
    let spots = rw cells at c.spots.ensures in
    let long : length c.spots.new.next ≡ n = spots.long ∙ cells in
    planned _ _ _ _ _
    (rw (length-append, length-drop) (omega (arith, long, c.requires.1, ready.agents))) _
    (record {
      fine = sym judged.answer;
      cuts = cuts;
      none = λ e. absurd (clash _ c.if-some.true e);
      places =
          λ e. rw (take_at c.spots.new.next (drop n c.args.next.now) n long)
          (spots_next _ _ ready _ cuts _ (judged.counted refl) _ _ cells spots);
    })

pub returns-else-some : goal.returns-else-some
returns-else-some c =
    let judged = c.in_ok-judge.ensures in
    let ready = (fine_ready _ _ c.args.out.now (sym judged.answer)).0 in
    planned _ _ _ _ _ c.requires.1 _
    (record {
      fine = sym judged.answer;
      cuts = decided_cuts _ _ ready _ _ (judged.held refl) c.decide-some.ensures.0;
      none = λ e b l. c.decide-some.ensures.0.cut b l ∙ c.decide-some.ensures.1 e b l;
      places = λ e. absurd (clash _ e c.if-some.false);
    })
