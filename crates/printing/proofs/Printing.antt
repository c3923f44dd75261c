-- The three ends of printing, and that one statement tells the whole outcome. Assumes nothing.
use Rattle.std.specs.Prelude.{Result, Ok, Err}
use Rattle.refusals.specs.declared.Refusal.{Refusal}
use Prim.Native.Nat.{ℕ, ◌-◌, ◌*◌, ◌≤◌, ◌<◌}
use mathlib.Core.Path.{◌≡◌, refl, ap, sym, ◌∙◌}
use mathlib.Core.Bool.{true, false, ◌&&◌}
use mathlib.Core.List.{List}
use native.Mathlib.Omega.{arith}
use borrow.Author.Tests.{le-leb, lt-leb}
use lib.Dec.{leb}
use lib.IntN.{ℤ}
use lib.ListN.{length, drop, length-drop}
use Rattle.sums.specs.Lists.{at, Filled}
use Rattle.sums.proofs.Fill.{filled_none, filled_unique}
use Rattle.refusals.specs.Refusals.{bad_layout, no_room, refusal}
use Rattle.refusals.specs.Refusals.{Verdict}
use Rattle.limits.specs.Limits.{most_agents}
use Rattle.printing.specs.Page.{print_verdict, Prints}

-- any two outcomes that meet the promise are equal
pub one_outcome : {v : Verdict} {text before : List ℕ} {r r' : Result ℕ Refusal} {after after' : List ℕ}
    → Prints v text before r after → Prints v text before r' after' → (r ≡ r') × (after ≡ after')
one_outcome p q = (p.answer ∙ sym q.answer, filled_unique 0 _ _ _ _ _ p.bytes q.bytes)

module _ (kinds figures : List ℕ) (money : List ℤ) (text before : List ℕ) where
  pub bad_lists : (leb (length kinds) most_agents && leb (6 * length kinds) (length figures)
      && leb (length kinds) (length money)) ≡ false
      → Prints (print_verdict kinds figures money (length text) (length before)) text before
      (Err (refusal bad_layout 0)) before
  unfolding print_verdict
  bad_lists e = rw e (record { answer = refl; bytes = filled_none 0 before (at text) })

  module _ (good : (leb (length kinds) most_agents && leb (6 * length kinds) (length figures)
      && leb (length kinds) (length money)) ≡ true) where
    pub no_room_lem : length before < length text
        → Prints (print_verdict kinds figures money (length text) (length before)) text before
        (Err (refusal no_room 0)) before
    unfolding print_verdict
    no_room_lem l =
        rw (good, lt-leb (length text) (length before) l)
        (record { answer = refl; bytes = filled_none 0 before (at text) })

    pub all_printed : (after : List ℕ) → length text ≤ length before → Filled 0 before after (length text) (at text)
        → Prints (print_verdict kinds figures money (length text) (length before)) text before
        (Ok (length text)) after
    unfolding print_verdict
    all_printed after l f = rw (good, le-leb (length text) (length before) l) (record { answer = refl; bytes = f })

-- how long the text is that stands from `from` on
pub size : (s : List ℕ) (from : ℕ) (t : List ℕ) → drop from s ≡ t → length s - from ≡ length t
size s from t e = let x = length-drop from s in let y = ap length e in omega arith
