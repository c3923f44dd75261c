-- What reading accepted is assigned, never refused; then the demands are cleared, so that the sums of what is held begin at 0.
use Rattle.std.proofs.Common.{◌≡◌, ℕ, ◌≤◌, List, length, replicate, sym, arith}
use Rattle.std.proofs.lemmas.List.{length-take-le}
use Rattle.limits.specs.Limits.{most_agents}
use Rattle.sums.proofs.Fill.{filled_count}
use Rattle.sheet.proofs.Accepted.{accepted_few}
use Rattle.columns.proofs.Columns.{contracts_long}
use Rattle.balance.specs.Balances.{zeros}
use Rattle.settle.proofs.Holdings.{amounts_are, holding, contracted_are, none_agreed}
use Rattle.settle.proofs.agreed.agree.Goals as goal

-- a column that is filled with 0
cleared : (n : ℕ) (l : List ℕ) → n ≡ most_agents → l ≡ replicate n 0 → l ≡ zeros
cleared n l e f = rw (f, e)

pub returns-then-c-eq0 : goal.returns-then-c-eq0
returns-then-c-eq0 c =
    rw (cleared _ _ c.requires.column_len.0 (c.fill.ensures.after (λ y e. e)))
    (none_agreed _ _ c.requires.bytes_value _ c.if-c-eq0.true)

pub slice_bounds-assign-end : goal.slice_bounds-assign-end
slice_bounds-assign-end c = omega (arith, (accepted_few _ _ c.requires.bytes_value).agents, c.requires.column_len.0)

pub slice_bounds-assign-end-2 : goal.slice_bounds-assign-end-2
slice_bounds-assign-end-2 c =
    sym (length-take-le _ _ (omega (arith, (accepted_few _ _ c.requires.bytes_value).agents, c.requires.column_len.0)))

pub hold-requires : goal.hold-requires
hold-requires c =
    let ok = c.requires.bytes_value in
    let fits = c.requires.column_len.1 in
    let n = contracts_long c.args.bytes.now c.args.c in
    let room : c.args.c.contracts ≤ length c.args.amounts.now = omega (arith, n, fits.fits) in
    let filled = amounts_are _ _ ok _ c.section_of-section.ensures _ _ room _ _ fits.demands c.assign.ensures in
    (holding _ _ ok _ c.section_of-section.ensures _ _ room filled, cleared _ _ c.requires.column_len.0 (c.fill-2.ensures.after (λ y e. e)))

pub returns : goal.returns
returns c =
    let ok = c.requires.bytes_value in
    let fits = c.requires.column_len.1 in
    let n = contracts_long c.args.bytes.now c.args.c in
    let room : c.args.c.contracts ≤ length c.args.amounts.now = omega (arith, n, fits.fits) in
    let filled = amounts_are _ _ ok _ c.section_of-section.ensures _ _ room _ _ fits.demands c.assign.ensures in
    record {
      contracted = contracted_are _ _ ok _ c.section_of-section.ensures _ _ room filled _ c.hold.ensures;
      amounts = filled_count 0 _ _ _ _ _ (sym n) filled;
    }
