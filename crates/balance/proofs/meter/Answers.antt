-- A cell has at most what as many rows can come to; so a reading more fits, and adding it to its cell is a row more in the sums (`added`).
use Rattle.std.proofs.Common.{◌≡◌, ℕ, ◌+◌, ◌*◌, ◌≤◌, ◌<◌, List, length, set, length-set, arith, sym, ap, ◌∙◌}
use Rattle.limits.specs.Limits.{most_agents, most_boundaries}
use Rattle.limits.specs.declared.Boundary.{Boundary}
use Rattle.sums.specs.Sums.{keyed}
use Rattle.sums.specs.Lists.{at}
use Rattle.sums.proofs.Lists.{zeros_at}
use Rattle.sums.proofs.Keyed.{keyed_none, keyed_put}
use Rattle.sheet.proofs.Accepted.{accepted_few}
use Rattle.hour.specs.Balance.{referred}
use Rattle.hour.proofs.Bounds.{most_referred}
use Rattle.balance.specs.Balances.{zeros}
use Rattle.balance.specs.Parts.{most_exact}
use Rattle.balance.proofs.Rows.{row, owner, taken, given, RowSound, row_sound, taken_most, given_most, imported_is, exported_is}
use Rattle.balance.proofs.meter.Goals as goal

no_row : (l : List ℕ) → l ≡ zeros → (a : ℕ) → at l a ≡ 0
no_row l e a = rw e (zeros_at most_agents a)

-- what a reading more asks of the cell k of its agent: it is there, and the rows before came to no more than all rows can
cell : (l : List ℕ) (k x j n : ℕ) → k < most_agents → j < n → n ≤ most_boundaries → length l ≡ most_agents → at l k ≡ x
    → x ≤ most_referred * j
    → (k < length l) × (at l k ≤ most_exact)
cell l k x j n r i f m e h = (omega arith, omega arith)

-- a reading more in its cell is a row more in the sums
added : (key v : ℕ → ℕ) (m : ℕ) (l l' : List ℕ) (k w : ℕ) → k ≡ key m → w ≡ v m → k < most_agents
    → l' ≡ set l k (at l k + w)
    → length l ≡ most_agents
    → ((a : ℕ) → a < most_agents → at l a ≡ keyed key v m a)
    → (length l' ≡ most_agents) × ((a : ℕ) → a < most_agents → at l' a ≡ keyed key v (m + 1) a)
added key v m l l' k w p q h e n sums =
    rw e (simp length-set n, keyed_put key v m most_agents l k w p q h n sums)

pub loop-j-init : goal.loop-j-init
loop-j-init c = record {
  imports_long = ap length c.requires.imports_value.0;
  exports_long = ap length c.requires.imports_value.1;
  imports = λ a l. no_row _ c.requires.imports_value.0 a ∙ sym (keyed_none _ _ a);
  exports = λ a l. no_row _ c.requires.imports_value.1 a ∙ sym (keyed_none _ _ a);
}

pub add_reading-requires : goal.add_reading-requires
add_reading-requires c =
    let is : c.boundary_of-b.result ≡ row c.section_of-section.result.now c.loop-j.j = cc in
    let g : RowSound c.boundary_of-b.result =
    rw is (row_sound _ _ c.requires.s_value _ c.section_of-section.ensures c.loop-j.j (omega arith)) in
    let i = c.loop-j.invariant in
    let most = taken_most _ _ c.requires.s_value _ c.section_of-section.ensures c.loop-j.j c.boundary_of-b.result.agent (omega arith) in
    let room = cell _ _ _ _ _ g.there (omega arith) (accepted_few _ _ c.requires.s_value).boundaries i.imports_long
    (i.imports c.boundary_of-b.result.agent g.there) most in
    (room.0, room.1, g.import, g.factor)

pub add_reading-requires-in-loop-j : goal.add_reading-requires-in-loop-j
add_reading-requires-in-loop-j c =
    let is : c.boundary_of-b.result ≡ row c.section_of-section.result.now c.loop-j.j = cc in
    let g : RowSound c.boundary_of-b.result =
    rw is (row_sound _ _ c.requires.s_value _ c.section_of-section.ensures c.loop-j.j (omega arith)) in
    let i = c.loop-j.invariant in
    let most = given_most _ _ c.requires.s_value _ c.section_of-section.ensures c.loop-j.j c.boundary_of-b.result.agent (omega arith) in
    let room = cell _ _ _ _ _ g.there (omega arith) (accepted_few _ _ c.requires.s_value).boundaries i.exports_long
    (i.exports c.boundary_of-b.result.agent g.there) most in
    (room.0, room.1, g.export, g.factor)

pub loop-j-preserved : goal.loop-j-preserved
loop-j-preserved c =
    let is : c.boundary_of-b.result ≡ row c.section_of-section.result.now c.loop-j.j = cc in
    let g : RowSound c.boundary_of-b.result =
    rw is (row_sound _ _ c.requires.s_value _ c.section_of-section.ensures c.loop-j.j (omega arith)) in
    let k = ap (λ (x : Boundary). x.agent) is in
    let i = c.loop-j.invariant in
    let more = added (owner c.section_of-section.result.now) (taken c.section_of-section.result.now) c.loop-j.j c.loop-j.imports _ _ _ k
    (ap (λ (x : Boundary). referred x.import x.factor) is) g.there c.add_reading.ensures i.imports_long i.imports in
    let given_more = added (owner c.section_of-section.result.now) (given c.section_of-section.result.now) c.loop-j.j c.loop-j.exports _ _ _
    k
    (ap (λ (x : Boundary). referred x.export x.factor) is) g.there c.add_reading-in-loop-j.ensures i.exports_long i.exports in
    record { imports_long = more.0; exports_long = given_more.0; imports = more.1; exports = given_more.1 }

pub returns : goal.returns
returns c =
    let e : c.loop-j.j ≡ c.args.c.boundaries = omega arith in
    record {
      took = λ a h. (rw e at c.loop-j.invariant.imports) a h ∙ imported_is _ _ c.requires.s_value _ c.section_of-section.ensures a;
      gave = λ a h. (rw e at c.loop-j.invariant.exports) a h ∙ exported_is _ _ c.requires.s_value _ c.section_of-section.ensures a;
    }
