use Rattle.std.proofs.Common.{◌≡◌, length, ◌∙◌, arith}
use Rattle.contracts.proofs.Walks.{quantities_long, share_one, scattered_none, scattered_more}
use Rattle.contracts.proofs.walk.share_left.Goals as goal

-- one row gets all of it
pub returns-in-len1 : goal.returns-in-len1
returns-in-len1 c =
    let e : length c.args.keys.now ≡ 1 = omega arith in
    rw e (scattered_more {n = 1} {p = 0} (rw e at c.requires.0) (omega arith) c.row_of.ensures
    (share_one _ _ (quantities_long _ _ ∙ e) c.requires.2) scattered_none)
