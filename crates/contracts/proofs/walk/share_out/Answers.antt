use Rattle.std.proofs.Common.{◌≡◌, ◌≤◌, ℕ, List, length, take, length-take-le, ap, ◌∙◌, arith}
use Rattle.sums.proofs.Fill.{filled_front}
use Rattle.share.specs.Share.{share_of}
use Rattle.share.proofs.Laws.{share_fine}
use Rattle.contracts.specs.Walk.{quantities_of}
use Rattle.contracts.proofs.Walks.{scattered_by}
use Rattle.contracts.proofs.walk.share_out.Goals as goal

pub returns : goal.returns
unfolding quantities_of
returns c =
    let keys = c.args.keys.now in
    let room : length keys ≤ length c.gather.new.out = omega (arith, c.gather.ensures.long, c.requires.1) in
    let long = length-take-le (length keys) c.gather.new.out room in
    let weights : take (length keys) c.gather.new.out ≡ quantities_of c.args.section.now keys =
    filled_front 0 _ _ _ _ (omega (arith, c.requires.1)) c.gather.ensures in
    let fine = share_fine (omega (arith, long, c.requires.1)) (omega (arith, long, c.requires.1)) c.share.ensures in
    scattered_by
    (λ u l. fine.filled.done u (omega (arith, long)) ∙ ap (λ (ws : List ℕ). share_of c.args.left ws u) weights)
    c.scatter.ensures
