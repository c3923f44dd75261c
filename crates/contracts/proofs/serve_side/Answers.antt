-- Where there are keys, one of the two sides is cut, and they are its rows'.
use Rattle.std.proofs.Common.{◌≡◌, ℕ, ◌+◌, ◌<◌, Bool, false, eqb, length, sym, ◌∙◌, arith}
use Rattle.std.proofs.lemmas.Bool.{eqb-false}
use Rattle.sums.specs.Lists.{at}
use Rattle.limits.specs.Limits.{most_agents}
use Rattle.contracts.proofs.OneSide.{side_rowed, side_rising, firm_cut, asked_cut}
use Rattle.contracts.proofs.Uncut.{begins_firm, begins_asked}
use Rattle.contracts.proofs.serve_side.Goals as goal

some_keys : (n : ℕ) (t : Bool) → t ≡ eqb n 0 → t ≡ false → 0 < n
some_keys n t e f = omega (arith, eqb-false n 0 (sym e ∙ f))

pub serve_firm-requires : goal.serve_firm-requires
serve_firm-requires c =
    let some : 0 < length c.args.keys.now = some_keys _ _ c.is_empty.ensures c.if-is_empty.false in
    side_rowed _ _ c.requires.ready.0 _ _ (c.requires.cuts.1 some) _ _ (c.requires.cuts.2 some) c.sort.ensures _
    c.requires.ready.1

pub returns-then-j-b-eq0 : goal.returns-then-j-b-eq0
returns-then-j-b-eq0 c =
    let ready = c.requires.ready in
    let cuts = c.requires.cuts in
    let some : 0 < length c.args.keys.now = some_keys _ _ c.is_empty.ensures c.if-is_empty.false in (
      (λ h. firm_cut _ _ ready.0 _ _ (cuts.1 h) _ _ (cuts.2 h) c.sort.ensures c.if-j-b-eq0.true _
          (begins_firm _ _ ready.0 _ cuts.0 _ ready.2 c.if-j-b-eq0.true) _ _ c.serve_firm.ensures),
      (λ e. absurd (omega (arith, some))),
    )

pub serve_asked-requires : goal.serve_asked-requires
serve_asked-requires c =
    let some : 0 < length c.args.keys.now = some_keys _ _ c.is_empty.ensures c.if-is_empty.false in
    side_rising _ _ c.requires.ready.0 _ _ (c.requires.cuts.1 some) _ _ (c.requires.cuts.2 some) c.sort.ensures _
    c.requires.ready.1

-- the side is not the first, so it is the second
pub returns-else-j-b-eq0 : goal.returns-else-j-b-eq0
returns-else-j-b-eq0 c =
    let ready = c.requires.ready in
    let cuts = c.requires.cuts in
    let some : 0 < length c.args.keys.now = some_keys _ _ c.is_empty.ensures c.if-is_empty.false in
    let one : at c.args.j.decided.now (most_agents + c.args.b) ≡ 1 = omega (arith, cuts.1 some) in (
      (λ h. asked_cut _ _ ready.0 _ _ (cuts.1 h) _ _ (cuts.2 h) c.sort.ensures one _
          (begins_asked _ _ ready.0 _ cuts.0 _ ready.2 one) _ _ c.serve_asked.ensures),
      (λ e. absurd (omega (arith, some))),
    )
