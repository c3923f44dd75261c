-- What lists that serve are, and the ends of writing a statement. Assumes nothing.
use Rattle.std.specs.Prelude.{Result, Err}
use Rattle.refusals.specs.declared.Refusal.{Refusal}
use Prim.Native.Nat.{ℕ, ◌*◌}
use mathlib.Core.Path.{◌≡◌, refl, subst}
use mathlib.Core.Bool.{true, false, ◌&&◌}
use mathlib.Core.List.{List, [], ◌∷◌}
use borrow.Author.Tests.{le-leb, leb-true}
use lib.Dec.{leb}
use lib.ListN.{length}
use Rattle.sums.specs.Lists.{at}
use Rattle.sums.proofs.Tests.{all_true, and_left, and_right}
use Rattle.sums.proofs.Fill.{filled_none}
use Rattle.refusals.specs.Refusals.{bad_layout, no_room, refusal, refused_unless}
use Rattle.refusals.proofs.Fine.{else_fine}
use Rattle.limits.specs.Limits.{most_agents, most_plants, most_contracts}
use Rattle.sheet.specs.declared.Counts.{Counts}
use Rattle.hour.specs.Lines.{cells_per_agent}
use Rattle.hour.specs.Answer.{Lent}
use Rattle.printing.specs.Page.{Prints}
use Rattle.telling.specs.Text.{lists_serve, statement_verdict}
use Rattle.telling.specs.Enough.{Enough}

module _ (c : Counts) (f m s t : ℕ) where
  pub enough : lists_serve c f m s t ≡ true → Enough c f m s t
  unfolding lists_serve
  enough e =
      let few = leb c.agents most_agents && leb c.plants most_plants && leb c.contracts most_contracts in
      let long = leb (cells_per_agent * c.agents) f && leb c.agents m && leb c.plants s && leb c.contracts t in
      let x =
      all_true (leb c.agents most_agents) (leb c.plants most_plants ∷ leb c.contracts most_contracts ∷ [])
      (and_left few long e) in
      let y =
      all_true (leb (cells_per_agent * c.agents) f) (leb c.agents m ∷ leb c.plants s ∷ leb c.contracts t ∷ [])
      (and_right few long e) in
      record {
        agents = leb-true _ _ x.0;
        plants = leb-true _ _ x.1.0;
        contracts = leb-true _ _ x.1.1.0;
        figures = leb-true _ _ y.0;
        money = leb-true _ _ y.1.0;
        schedule = leb-true _ _ y.1.1.0;
        amounts = leb-true _ _ y.1.1.1.0;
      }

  pub serve : Enough c f m s t → lists_serve c f m s t ≡ true
  unfolding lists_serve
  serve h =
      rw (
        le-leb c.agents most_agents h.agents,
        le-leb c.plants most_plants h.plants,
        le-leb c.contracts most_contracts h.contracts,
        le-leb (cells_per_agent * c.agents) f h.figures,
        le-leb c.agents m h.money,
        le-leb c.plants s h.schedule,
        le-leb c.contracts t h.amounts,
      )

module _ (c : Counts) (l : Lent) where
  pub badly_served : lists_serve c (length l.figures) (length l.money) (length l.schedule) (length l.amounts) ≡ false
      → (text before : List ℕ)
      → Prints (statement_verdict c l (length text) (length before)) text before (Err (refusal bad_layout 0)) before
  unfolding statement_verdict
  badly_served e text before = rw e (record { answer = refl; bytes = filled_none 0 before (at text) })

  -- lists that serve are refused only for want of room
  pub served_verdict : lists_serve c (length l.figures) (length l.money) (length l.schedule) (length l.amounts) ≡ true
      → (size room : ℕ) → statement_verdict c l size room ≡ refused_unless (leb size room) no_room 0
  unfolding statement_verdict
  served_verdict e size room = rw e (else_fine (refused_unless (leb size room) no_room 0))

  -- the text by another name, where the lists serve
  pub given : lists_serve c (length l.figures) (length l.money) (length l.schedule) (length l.amounts) ≡ true
      → (put text before : List ℕ) (r : Result ℕ Refusal) (after : List ℕ) → put ≡ text
      → Prints (refused_unless (leb (length put) (length before)) no_room 0) put before r after
      → Prints (statement_verdict c l (length text) (length before)) text before r after
  given e put text before r after same h =
      rw (served_verdict e (length text) (length before))
      (subst (λ (t : List ℕ). Prints (refused_unless (leb (length t) (length before)) no_room 0) t before r after) same h)
