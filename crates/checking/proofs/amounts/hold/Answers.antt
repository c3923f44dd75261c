use Rattle.std.proofs.Common.{arith}
use Rattle.checking.proofs.Holdings.{held_none, buyer_fits, seller_fits, held_more}
use Rattle.checking.proofs.amounts.hold.Goals as goal

pub loop-j-init : goal.loop-j-init
loop-j-init c = held_none _ _ _

pub overflow_add-held : goal.overflow_add-held
overflow_add-held c =
    let l = c.loop-j in
    omega (
      arith,
      buyer_fits _ _ _ c.requires l.j l.held (omega arith) l.invariant _ c.from-amount.ensures
          (λ j. omega (arith, c.type_inv.amounts j)),
    )

pub overflow_add-held-in-loop-j : goal.overflow_add-held-in-loop-j
overflow_add-held-in-loop-j c =
    let l = c.loop-j in
    omega (
      arith,
      seller_fits _ _ _ c.requires l.j l.held (omega arith) l.invariant _ c.from-amount.ensures
          (λ j. omega (arith, c.type_inv.amounts j)),
    )

pub loop-j-preserved : goal.loop-j-preserved
loop-j-preserved c =
    let l = c.loop-j in
    held_more _ _ _ c.requires l.j l.held (omega arith) l.invariant _ c.from-amount.ensures
    (λ j. omega (arith, c.type_inv.amounts j))
