-- Our statement from what settling leaves in lists with room for every sheet. Assumes nothing.
use Rattle.std.specs.Prelude.{Result, Ok, Err}
use Prim.Native.Nat.{ℕ, ◌*◌}
use mathlib.Core.Path.{◌≡◌, refl, ap, sym, subst, ◌∙◌}
use mathlib.Core.List.{List}
use native.Mathlib.Omega.{arith}
use native.Mathlib.Nat.{le_refl}
use lib.Dec.{leb}
use lib.IntN.{pos}
use lib.ListN.{length, replicate}
use Rattle.sums.specs.Lists.{at, Filled}
use Rattle.sums.proofs.Lists.{get_d_list_to}
use Rattle.sums.proofs.Fill.{filled_none}
use Rattle.refusals.specs.Refusals.{refusal, no_room, refused_unless}
use Rattle.refusals.specs.declared.Refusal.{Refusal}
use Rattle.refusals.specs.Refusals.{Verdict}
use Rattle.refusals.proofs.Fine.{else_fine}
use Rattle.limits.specs.Limits.{most_agents, most_plants, most_contracts}
use Rattle.sheet.specs.Reading.{read_verdict, read_of, reading, counts_of}
use Rattle.sheet.specs.declared.Counts.{Counts}
use Rattle.sheet.proofs.Accepted.{accepted_few, accepted_counts}
use Rattle.hour.specs.Sheet.{agents, plants, contracts}
use Rattle.hour.specs.Lines.{figure, money, scheduled, amount}
use Rattle.hour.specs.Answer.{Lent, lent, room_verdict, summary_of}
use Rattle.hour.specs.declared.Summary.{Summary}
use Rattle.columns.specs.Columns.{hour_of, sheet_verdict}
use Rattle.columns.proofs.Columns.{agents_long, plants_long, contracts_long}
use Rattle.settle.specs.Settled.{verdict_of, Settled}
use Rattle.printing.specs.Page.{Prints}
use Rattle.printing.proofs.Printing.{one_outcome as printed-once}
use Rattle.columns.proofs.Refusing.{Told, told_all, room_enough, room_for}
use Rattle.telling.specs.Text.{statement_text, statement_verdict}
use Rattle.telling.specs.Tell.{own_lists, own_statement, tell_verdict}
use Rattle.telling.specs.Enough.{Enough}
use Rattle.telling.proofs.Serving.{serve, served_verdict}
use Rattle.telling.proofs.Same.{Agree, statement_same}

-- a refusal of settling is told, and nothing is written
pub told_refusal : (bytes before : List ℕ) (q : Refusal) → sheet_verdict bytes ≡ Err q
    → Prints (tell_verdict bytes (length before)) (own_statement bytes) before (Err q) before
unfolding tell_verdict
told_refusal bytes before q e = rw e (record { answer = refl; bytes = filled_none 0 before (at (own_statement bytes)) })

-- reading's is settling's
pub read_refusal : (bytes : List ℕ) (q : Refusal) → read_of bytes ≡ Err q → sheet_verdict bytes ≡ Err q
unfolding read_of sheet_verdict
read_refusal bytes q e = go (read_verdict bytes) refl e
  where
    go : (v : Verdict) → read_verdict bytes ≡ v → reading v (counts_of bytes) ≡ Err q → sheet_verdict bytes ≡ Err q
    go (Ok tt) f h = let no : ◌≡◌ {A = ℕ} 0 1 = cc in absurd (omega arith)
    go (Err r) f h = let s : r ≡ q = cc in rw (f, s)

-- a settled hour is refused only for want of room
pub fine_verdict : (bytes : List ℕ) (room : ℕ) → sheet_verdict bytes ≡ Ok tt
    → tell_verdict bytes room ≡ refused_unless (leb (length (own_statement bytes)) room) no_room 0
unfolding tell_verdict
fine_verdict bytes room e = rw e (else_fine (refused_unless (leb (length (own_statement bytes)) room) no_room 0))

-- what settling answers into lists with room
module _ (bytes : List ℕ) (s : Summary) (before after : Lent) (room : room_verdict (hour_of bytes) before ≡ Ok tt)
    (done : Settled bytes before after s) where
  answered_by : (v : Verdict) → sheet_verdict bytes ≡ v → s ≡ summary_of v (hour_of bytes)
  unfolding verdict_of
  answered_by v e = done.answered ∙ ap (λ (w : Verdict). summary_of w (hour_of bytes)) (room_enough bytes before room ∙ e)

  pub settled_fine : s.number ≡ 0 → sheet_verdict bytes ≡ Ok tt
  unfolding Told
  settled_fine z = go (sheet_verdict bytes) refl
    where
      go : (v : Verdict) → sheet_verdict bytes ≡ v → sheet_verdict bytes ≡ Ok tt
      go (Ok tt) e = e
      go (Err q) e =
          let n : s.number ≡ q.number = ap (λ (x : Summary). x.number) (answered_by (Err q) e) in
          absurd (told_all bytes q e (sym n ∙ z))

  pub turned_away_lem : (s.number ≡ 0 → ⊥) → sheet_verdict bytes ≡ Err (refusal s.number s.place)
  turned_away_lem h = go (sheet_verdict bytes) refl
    where
      go : (v : Verdict) → sheet_verdict bytes ≡ v → sheet_verdict bytes ≡ Err (refusal s.number s.place)
      go (Ok tt) e =
          absurd (h (ap (λ (x : Summary). x.number) (answered_by (Ok tt) e)))
      go (Err q) e =
          e ∙ ap (λ (x : Summary). Err (refusal x.number x.place)) (sym (answered_by (Err q) e))

  -- the text of the lists as they are left is our statement
  module _ (fine : sheet_verdict bytes ≡ Ok tt) where
    agree : Agree (counts_of bytes) after (own_lists (hour_of bytes))
    unfolding hour_of verdict_of
    agree =
        let c = counts_of bytes in
        let h = hour_of bytes in
        let v : verdict_of bytes before ≡ (Ok tt) = room_enough bytes before room ∙ fine in
        let n = agents_long bytes c in
        let p = plants_long bytes c in
        let k = contracts_long bytes c in
        let f : Filled 0 before.figures after.figures (6 * agents h) (figure h) = rw v at done.figures in
        let m : Filled (pos 0) before.money after.money (agents h) (money h) = rw v at done.money in
        let s : Filled 0 before.schedule after.schedule (plants h) (scheduled h) = rw v at done.schedule in
        let t : Filled 0 before.amounts after.amounts (contracts h) (amount h) = rw v at done.amounts in
        record {
          figures = λ i l.
              f.done i (omega (arith, n)) ∙ sym (get_d_list_to 0 (figure h) (6 * agents h) i (omega (arith, n)));
          money = λ i l.
              m.done i (omega (arith, n)) ∙ sym (get_d_list_to (pos 0) (money h) (agents h) i (omega (arith, n)));
          schedule = λ i l.
              s.done i (omega (arith, p)) ∙ sym (get_d_list_to 0 (scheduled h) (plants h) i (omega (arith, p)));
          amounts = λ i l.
              t.done i (omega (arith, k)) ∙ sym (get_d_list_to 0 (amount h) (contracts h) i (omega (arith, k)));
        }

    pub own_text : statement_text (counts_of bytes) s.price after ≡ own_statement bytes
    unfolding own_statement
    own_text =
        ap (λ (x : Summary). statement_text (counts_of bytes) x.price after) (answered_by (Ok tt) fine)
        ∙ statement_same (counts_of bytes) after (own_lists (hour_of bytes)) agree _

-- ---- lists for every row that a sheet may have
abbrev pub fresh : Lent
fresh =
    lent (replicate (6 * most_agents) 0) (replicate most_agents (pos 0)) (replicate most_plants 0) (replicate most_contracts 0)

module _ (bytes : List ℕ) (c : Counts) (e : read_of bytes ≡ Ok c) where
  pub fresh_room : room_verdict (hour_of bytes) fresh ≡ Ok tt
  fresh_room =
      room_for bytes c e fresh (le_refl (6 * most_agents)) (le_refl most_agents)
      (le_refl most_plants) (le_refl most_contracts)

  module _ (s : Summary) (after : Lent) (done : Settled bytes fresh after s) where
    serves : Enough c (length after.figures) (length after.money) (length after.schedule) (length after.amounts)
    serves =
        let w = accepted_few bytes c e in
        let f : length after.figures ≡ 6 * most_agents = done.figures.long in
        let m : length after.money ≡ most_agents = done.money.long in
        let p : length after.schedule ≡ most_plants = done.schedule.long in
        let k : length after.amounts ≡ most_contracts = done.amounts.long in
        record {
          agents = w.agents;
          plants = w.plants;
          contracts = w.contracts;
          figures = omega (arith, w.agents, f);
          money = omega (arith, w.agents, m);
          schedule = omega (arith, w.plants, p);
          amounts = omega (arith, w.contracts, k);
        }

    -- what writing them promises is what telling does
    pub told_statement : s.number ≡ 0 → (old : List ℕ) (r : Result ℕ Refusal) (new : List ℕ)
        → Prints (statement_verdict c after (length (statement_text c s.price after)) (length old))
        (statement_text c s.price after) old r new
        → Prints (tell_verdict bytes (length old)) (own_statement bytes) old r new
    told_statement z old r new h =
        let fine = settled_fine bytes s fresh after fresh_room done z in
        let text : List ℕ = statement_text c s.price after in
        let same : text ≡ own_statement bytes =
        ap (λ (n : Counts). statement_text n s.price after) (accepted_counts bytes c e)
        ∙ own_text bytes s fresh after fresh_room done fine in
        let g : Prints (refused_unless (leb (length text) (length old)) no_room 0) text old r new = rw
        (served_verdict c after (serve c _ _ _ _ serves) (length text) (length old)) at h in
        rw (fine_verdict bytes (length old) fine)
        (subst (λ (t : List ℕ). Prints (refused_unless (leb (length t) (length old)) no_room 0) t old r new) same g)

-- any two outcomes that meet the promise of `tell` are equal
pub one_outcome : (bytes before after after' : List ℕ) (r r' : Result ℕ Refusal)
    → Prints (tell_verdict bytes (length before)) (own_statement bytes) before r after
    → Prints (tell_verdict bytes (length before)) (own_statement bytes) before r' after' → (r ≡ r') × (after ≡ after')
one_outcome bytes before after after' r r' p q = printed-once p q
