-- The refusals of a sheet by itself: none has the number 0, and they are those of a settlement into lists with room; lists for every row
-- that a sheet may have have room for every accepted one. Assumes nothing.
use Rattle.std.specs.Prelude.{Ok, Err}
use Prim.Native.Nat.{ℕ, ◌*◌, ◌≤◌, ◌<◌}
use native.Mathlib.Omega.{arith}
use mathlib.Core.List.{List}
use mathlib.Core.Path.{◌≡◌, refl, sym, ap, ◌∙◌}
use lib.ListN.{length}
use Rattle.refusals.specs.Refusals.{or_else, number_of}
use Rattle.refusals.specs.declared.Refusal.{Refusal}
use Rattle.refusals.specs.Refusals.{Verdict}
use Rattle.limits.specs.Limits.{most_agents, most_plants, most_contracts}
use Rattle.sheet.specs.Reading.{read_verdict, read_of}
use Rattle.sheet.specs.declared.Counts.{Counts}
use Rattle.sheet.proofs.Accepted.{accepted_counts, accepted_few}
use Rattle.hour.specs.Lines.{cells_per_agent}
use Rattle.hour.specs.Answer.{Lent, balance_verdict, cover_verdict, room_verdict, hour_verdict}
use Rattle.hour.proofs.Verdicts.{room_fine}
use Rattle.columns.specs.Columns.{columns_of, hour_of, sheet_verdict}
use Rattle.columns.proofs.Columns.{agents_long, plants_long, contracts_long}
use Rattle.columns.proofs.Numbers.{Between, read_between, balance_between, cover_between}

-- ---- a refusal has a number above 0
pub none_of : (lo hi : ℕ) (v : Verdict) → 0 < lo → Between lo hi v → number_of v ≡ 0 → v ≡ Ok tt
none_of lo hi (Ok _) l b e = refl
none_of lo hi (Err r) l b e = absurd (omega (arith, b.0))

pub or_none : (v w : Verdict)
    → (number_of v ≡ 0 → v ≡ Ok tt)
    → (number_of w ≡ 0 → w ≡ Ok tt)
    → number_of (or_else v w) ≡ 0
    → or_else v w ≡ Ok tt
or_none (Ok _) w f g e = g e
or_none (Err r) w f g e = f e

pub none_fine : (bytes : List ℕ) → number_of (sheet_verdict bytes) ≡ 0 → sheet_verdict bytes ≡ Ok tt
unfolding sheet_verdict
none_fine bytes =
    let h = hour_of bytes in
    or_none (read_verdict bytes) (or_else (balance_verdict h) (or_else (cover_verdict h) (Ok tt)))
    (none_of 1 6 (read_verdict bytes) (omega arith) (read_between bytes))
    (or_none (balance_verdict h) (or_else (cover_verdict h) (Ok tt))
    (none_of 7 9 (balance_verdict h) (omega arith) (balance_between h))
    (or_none (cover_verdict h) (Ok tt) (none_of 10 13 (cover_verdict h) (omega arith) (cover_between h)) (λ e. refl)))

-- fine, or refused with a number above 0
unfoldable pub Told : Verdict → Type 0
Told v = (q : Refusal) → v ≡ Err q → q.number ≡ 0 → ⊥

pub told : (v : Verdict) → (number_of v ≡ 0 → v ≡ Ok tt) → Told v
unfolding Told
told v f q e z =
    let fine : v ≡ (Ok tt) = f (ap (λ (w : Verdict). number_of w) e ∙ z) in
    let no : ◌≡◌ {A = ℕ} 0 1 = cc in
    omega arith

pub told_all : (bytes : List ℕ) → Told (sheet_verdict bytes)
told_all bytes = told (sheet_verdict bytes) (none_fine bytes)

-- ---- with room
pub room_for : (bytes : List ℕ) (c : Counts) → read_of bytes ≡ Ok c → (l : Lent)
    → cells_per_agent * most_agents ≤ length l.figures → most_agents ≤ length l.money → most_plants ≤ length l.schedule
    → most_contracts ≤ length l.amounts
    → room_verdict (hour_of bytes) l ≡ Ok tt
unfolding hour_of
room_for bytes c e l f m s a =
    let w = accepted_few bytes c e in
    rw (sym (accepted_counts bytes c e))
    (room_fine (columns_of bytes c) l
    (record {
      figures = omega (arith, agents_long bytes c, w.agents);
      money = omega (arith, agents_long bytes c, w.agents);
      schedule = omega (arith, plants_long bytes c, w.plants);
      amounts = omega (arith, contracts_long bytes c, w.contracts);
    }))

pub room_enough : (bytes : List ℕ) (l : Lent)
    → room_verdict (hour_of bytes) l ≡ Ok tt
    → or_else (read_verdict bytes) (hour_verdict (hour_of bytes) l) ≡ sheet_verdict bytes
unfolding sheet_verdict hour_verdict
room_enough bytes l e = rw e
