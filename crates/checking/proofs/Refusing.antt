-- The refusals of the sheet come first, and behind them the points, on what was read and weighed. Assumes nothing.
use Rattle.std.specs.Prelude.{Ok, Err}
use Prim.Native.Nat.{ℕ, ◌-◌, ◌≤◌, ◌<◌}
use native.Mathlib.Omega.{arith}
use mathlib.Core.List.{List}
use mathlib.Core.Path.{◌≡◌, refl, ◌∙◌, sym}
use lib.ListN.{length, take}
use lib.Seq.{get_or-take, length-take-le}
use Rattle.limits.specs.Limits.{most_agents}
use Rattle.sums.specs.Lists.{at, Filled}
use Rattle.refusals.specs.declared.Refusal.{Refusal}
use Rattle.refusals.specs.Refusals.{Verdict}
use Rattle.refusals.proofs.Fine.{else_fine}
use Rattle.sheet.specs.Reading.{read_of, read_verdict, counts_of}
use Rattle.sheet.specs.declared.Counts.{Counts}
use Rattle.sheet.proofs.Accepted.{accepted_counts, accepted_fine, refused_verdict}
use Rattle.columns.specs.Columns.{columns_of, hour_of}
use Rattle.hour.specs.Sheet.{Sheet, agents}
use Rattle.hour.specs.Balance.{commercial, losses}
use Rattle.hour.specs.Answer.{Lent, hour_verdict}
use Rattle.balance.specs.Balances.{zeros, Ledger, ledger, Posted, weighed}
use Rattle.balance.specs.declared.Weight.{Weight}
use Rattle.statement.specs.Tests.{points_verdict}
use Rattle.checking.specs.Parts.{Weighs}
use Rattle.checking.specs.Check.{stated_verdict, check_verdict}

-- a refusal of the sheet is the answer
pub turned : (h : Sheet) (price : ℕ) (l : Lent) (q : Refusal)
    → hour_verdict h l ≡ Err q
    → stated_verdict h price l ≡ Err q
unfolding stated_verdict
turned h price l q e = rw e

-- of an hour that nothing turns away the points are all that is left
pub points_left : (h : Sheet) (price : ℕ) (l : Lent) → hour_verdict h l ≡ Ok tt → stated_verdict h price l ≡ points_verdict h price l
unfolding stated_verdict
points_left h price l e = rw e (else_fine _)

-- what weighing answers tells its verdict, and the losses
pub turned_away : (h : Sheet) (v : Verdict) (q : Refusal) → weighed v h ≡ Err q → v ≡ Err q
turned_away h (Ok _) q e = cc
turned_away h (Err p) q e = cc

pub let_in : (h : Sheet) (v : Verdict) (x : Weight) → weighed v h ≡ Ok x → (v ≡ Ok tt) × (x.losses ≡ losses h)
let_in h (Ok _) x e = (refl, cc)
let_in h (Err p) x e = cc

-- commercial demand less share is consumption; own energy less commercial demand is what a small generator delivers
module _ (h : Sheet) (n : ℕ) (en : agents h ≡ n) (few : n ≤ most_agents) (after : Ledger)
    (p : Posted h (ledger zeros zeros zeros zeros zeros) after) where
  -- the front of a column: its length, and its cells
  long : (l : List ℕ) → length l ≡ most_agents → length (take n l) ≡ agents h
  long l e = length-take-le n l (omega arith) ∙ sym en

  cell : (l : List ℕ) (a : ℕ) → a < agents h → at (take n l) a ≡ at l a
  cell l a m = get_or-take n l a 0 (omega arith)

  pub weighs : (x : ℕ)
      → x ≡ losses h
      → (us js : List ℕ)
      → Filled 0 zeros us (length (take n after.commercial)) (λ a. at (take n after.commercial) a - at (take n after.shares) a)
      → Filled 0 zeros js (length (take n after.own)) (λ a. at (take n after.own) a - at (take n after.commercial) a)
      → Weighs h (take n after.kinds) (take n us) (take n after.imports) (take n js) x
  unfolding commercial
  weighs x lost us js f g =
      record {
        long = record {
          kinds = long _ p.kinds.long;
          taken = long us f.long;
          imports = long _ p.imports.long;
          injects = long js g.long;
        };
        kinds = λ a l. cell after.kinds a l ∙ p.kinds.done a l;
        used = λ a l.
            cell us a l ∙ f.done a (omega (arith, long _ p.commercial.long))
            ∙ omega (
              arith,
              cell after.commercial a l,
              cell after.shares a l,
              p.commercial.done a l,
              p.shares.done a l,
            );
        imports = λ a l. cell after.imports a l ∙ p.imports.done a l;
        injects = λ a l.
            cell js a l ∙ g.done a (omega (arith, long _ p.own.long))
            ∙ omega (arith, cell after.own a l, cell after.commercial a l, p.own.done a l, p.commercial.done a l);
        losses = lost;
      }

-- ---- from reading to the bytes
module _ (bytes : List ℕ) (price : ℕ) (l : Lent) where
  pub checked_read : (c : Counts) → read_of bytes ≡ Ok c
      → stated_verdict (columns_of bytes c) price l ≡ check_verdict bytes price l
  unfolding stated_verdict check_verdict hour_of
  checked_read c e =
      let k : c ≡ counts_of bytes = accepted_counts bytes c e in
      let v : read_verdict bytes ≡ (Ok tt) = accepted_fine bytes c e in
      rw (v, k)

  pub checked_refused : (q : Refusal) → read_of bytes ≡ Err q → Err q ≡ check_verdict bytes price l
  unfolding check_verdict
  checked_refused q e = let v : read_verdict bytes ≡ Err q = refused_verdict bytes q e in rw v
