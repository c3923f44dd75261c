-- One contract more of what each agent holds: its buyer's cell changes, then its seller's. Assumes nothing.
use Prim.Native.Nat.{ℕ, ◌+◌, ◌≤◌, ◌<◌}
use native.Mathlib.Omega.{arith}
use mathlib.Core.List.{List}
use mathlib.Core.Path.{◌≡◌, refl, ◌∙◌}
use lib.ListN.{length, set, length-set}
use Rattle.sums.specs.Sums.{keyed}
use Rattle.sums.specs.Lists.{at}
use Rattle.sums.proofs.Keyed.{keyed_none, keyed_beside, keyed_most}
use Rattle.limits.specs.Limits.{most_agents}
use Rattle.limits.specs.declared.Contract.{Contract}
use Rattle.checking.specs.Passes.{room}
use Rattle.checking.specs.Accounts.{deal}
use Rattle.checking.specs.Parts.{Holdable, HoldingTo}

module _ (rs : List Contract) (xs before : List ℕ) where
  abbrev bought : ℕ → ℕ → ℕ
  bought n a = keyed (λ j. (deal rs j).buyer) (at xs) n a

  abbrev sold : ℕ → ℕ → ℕ
  sold n a = keyed (λ j. (deal rs j).seller) (at xs) n a

  pub held_none : HoldingTo rs xs before 0 before
  held_none =
      record {
        each = λ a m. omega (
          arith,
          keyed_none (λ j. (deal rs j).buyer) (at xs) a,
          keyed_none (λ j. (deal rs j).seller) (at xs) a,
        );
        long = refl;
      }

  module _ (h : Holdable rs xs before) (n : ℕ) (held : List ℕ) (l : n < length rs) (t : HoldingTo rs xs before n held) (w : ℕ)
      (e : w ≡ at xs n) (small : (j : ℕ) → at xs j ≤ 4294967295) where
    abbrev b : ℕ
    b = (deal rs n).buyer

    abbrev q : ℕ
    q = (deal rs n).seller

    abbrev mid : List ℕ
    mid = set held b (at held b + w)

    cells : length held ≡ most_agents
    cells = t.long ∙ h.cells.cells

    mid_at : (a : ℕ) → a < most_agents → at mid a ≡ bought (n + 1) a + (sold n a + at before a)
    mid_at a m =
        keyed_beside (λ j. (deal rs j).buyer) (at xs) n held b w refl e (omega (arith, cells, h.buyer n l)) a
        (sold n a + at before a) (omega (arith, t.each a m))

    fits : (key : ℕ → ℕ) (m a : ℕ) → keyed key (at xs) m a ≤ room m
    fits key m a = keyed_most key (at xs) m a 4294967295 (λ j k. small j)

    pub buyer_fits : at held b + w ≤ room 1024
    buyer_fits =
        omega (
          arith,
          t.each b (h.buyer n l),
          h.cells.small b (h.buyer n l),
          h.few,
          fits (λ j. (deal rs j).buyer) n b,
          fits (λ j. (deal rs j).seller) n b,
          small n,
        )

    pub seller_fits : at mid q + w ≤ room 1024
    seller_fits =
        omega (
          arith,
          mid_at q (h.seller n l),
          h.cells.small q (h.seller n l),
          h.few,
          fits (λ j. (deal rs j).buyer) (n + 1) q,
          fits (λ j. (deal rs j).seller) n q,
          small n,
        )

    pub held_more : HoldingTo rs xs before (n + 1) (set mid q (at mid q + w))
    held_more =
        record {
          each = λ a m. omega (
            arith,
            keyed_beside (λ j. (deal rs j).seller) (at xs) n mid q w refl e
                (omega (arith, cells, length-set held b (at held b + w), h.seller n l)) a (bought (n + 1) a + at before a)
                (omega (arith, mid_at a m)),
          );
          long = length-set mid q (at mid q + w) ∙ length-set held b (at held b + w) ∙ t.long;
        }
