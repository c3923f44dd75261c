-- What reading promises, from its parts. Assumes nothing.
use Rattle.std.specs.Prelude.{is_some}
use Prim.Native.Nat.{ℕ}
use mathlib.Core.Path.{◌≡◌}
use mathlib.Core.Bool.{true, false}
use mathlib.Core.List.{List}
use lib.ListN.{length}
use Rattle.sums.specs.Lists.{at, Filled}
use Rattle.sums.specs.Sums.{pick}
use Rattle.sums.proofs.Fill.{filled_none, filled_count}
use Rattle.writing.specs.Numbers.{Numbers, counts_in}
use Rattle.typing.specs.Rows.{scanned, listed}
use Rattle.typing.specs.Read.{cells_of, ReadInto}
use Rattle.typing.specs.declared.Scan.{Scan}

pub all_cells_lem : (r : Scan) (l : List ℕ) → is_some r.fault ≡ false → length l ≡ cells_of r l
unfolding pick
all_cells_lem r l e = rw e

no_cells : (r : Scan) (l : List ℕ) → is_some r.fault ≡ true → 0 ≡ cells_of r l
unfolding pick
no_cells r l e = rw e

module _ (text : List ℕ) (before : Numbers) (r : Scan) (e : r ≡ scanned (counts_in before) text) where
  -- a line is wrong
  pub wrong_kept : is_some r.fault ≡ true → ReadInto text before r before
  wrong_kept f =
      record {
        answer = e;
        agents = filled_count 0 _ _ 0 _ _ (no_cells r (listed 1 text) f) (filled_none 0 before.agents (at (listed 1 text)));
        boundaries = filled_count 0 _ _ 0 _ _ (no_cells r (listed 2 text) f) (filled_none 0 before.boundaries (at (listed 2 text)));
        plants = filled_count 0 _ _ 0 _ _ (no_cells r (listed 3 text) f) (filled_none 0 before.plants (at (listed 3 text)));
        contracts = filled_count 0 _ _ 0 _ _ (no_cells r (listed 4 text) f) (filled_none 0 before.contracts (at (listed 4 text)));
      }

  -- no line is
  pub all_read : (after : Numbers) → is_some r.fault ≡ false
      → Filled 0 before.agents after.agents (length (listed 1 text)) (at (listed 1 text))
      → Filled 0 before.boundaries after.boundaries (length (listed 2 text)) (at (listed 2 text))
      → Filled 0 before.plants after.plants (length (listed 3 text)) (at (listed 3 text))
      → Filled 0 before.contracts after.contracts (length (listed 4 text)) (at (listed 4 text))
      → ReadInto text before r after
  all_read after f a b p k =
      record {
        answer = e;
        agents = filled_count 0 _ _ _ _ _ (all_cells_lem r (listed 1 text) f) a;
        boundaries = filled_count 0 _ _ _ _ _ (all_cells_lem r (listed 2 text) f) b;
        plants = filled_count 0 _ _ _ _ _ (all_cells_lem r (listed 3 text) f) p;
        contracts = filled_count 0 _ _ _ _ _ (all_cells_lem r (listed 4 text) f) k;
      }
