-- OURS IS ACCEPTED. What `tell` wrote of a sheet that settles, read back into any lists with room for it, passes a check: reading it
-- leaves in them what settling would, since each of the hour's numbers fits its field. Assumes nothing.
use Rattle.std.specs.Prelude.{Result, Ok}
use Rattle.text.specs.declared.WrongLine.{WrongLine}
use Prim.Native.Nat.{ℕ, zero, suc, ◌*◌, ◌/◌, ◌%◌, ◌≤◌, ◌<◌}
use mathlib.Core.Path.{◌≡◌, refl, sym, ◌∙◌}
use mathlib.Core.Bool.{true}
use mathlib.Core.List.{List}
use native.Mathlib.Omega.{arith}
use lib.IntN.{pos, nat_abs}
use lib.ListN.{get_or}
use Rattle.sums.specs.Lists.{at}
use Rattle.sums.proofs.Lists.{get_d_list_to}
use Rattle.sums.proofs.Fill.{filled_count, filled_by}
use Rattle.refusals.specs.Refusals.{Verdict}
use Rattle.sheet.specs.Reading.{counts_of}
use Rattle.sheet.specs.declared.Counts.{Counts}
use Rattle.sheet.proofs.Accepted.{accepted_few}
use Rattle.hour.specs.Sheet.{Sheet, agents, plants, contracts}
use Rattle.hour.specs.Sound.{Sound}
use Rattle.hour.specs.Balance.{loss_share, own_import, commercial}
use Rattle.hour.specs.Lines.{cells_per_agent, own, contracted, bought, sold, bolsa_price, scheduled, amount, money, cell_of, figure}
use Rattle.hour.specs.Answer.{Lent, room_verdict, summary_of}
use Rattle.hour.proofs.Verdicts.{Balanced, room_fine}
use Rattle.hour.proofs.Bounds.{imported_le, import_le, scheduled_le, price_le}
use Rattle.hour.proofs.Fits.{most_bought, amount_le, contracted_le, commercial_most, own_le, bought_le, sold_le}
use Rattle.columns.specs.Columns.{hour_of, sheet_verdict}
use Rattle.columns.proofs.Columns.{agents_long, plants_long, contracts_long}
use Rattle.checking.specs.Check.{check_verdict}
use Rattle.settle.specs.Settled.{verdict_of, Settled}
use Rattle.duties.proofs.Statements.{ours_accepted}
use Rattle.columns.proofs.Refusing.{room_enough}
use Rattle.page.proofs.Most.{money_small, hour_balanced, accepted, hour_sound}
use Rattle.stating.specs.Read.{lists_fit, StatementInto}
use Rattle.telling.specs.Tell.{own_lists, own_statement}
use Rattle.told.proofs.Walks.{Writable}
use Rattle.told.proofs.Back.{Kept, fitting, back}

-- ---- each figure of a sheet that passes refusals 1 to 9
module _ (s : Sheet) (ok : Sound s) (b : Balanced s) where
  cell_le : (j a : ℕ) → a < agents s
      → cell_of (loss_share s) (own s) (own_import s) (contracted s) (bought s) (sold s) j a ≤ most_bought
  unfolding cell_of commercial
  cell_le zero a l = omega (arith, commercial_most s ok b a l)
  cell_le (suc zero) a l = omega (arith, own_le s ok b a l)
  cell_le (suc (suc zero)) a l = omega (arith, import_le s a, imported_le s ok a)
  cell_le (suc (suc (suc zero))) a l = omega (arith, contracted_le s ok a)
  cell_le (suc (suc (suc (suc zero)))) a l = bought_le s ok b a l
  cell_le (suc (suc (suc (suc (suc j))))) a l = omega (arith, sold_le s ok b a l)

  figure_le : (k : ℕ) → k < 6 * agents s → figure s k ≤ most_bought
  unfolding figure
  figure_le k h = cell_le (k % 6) (k / 6) (omega arith)

  money_le : (a : ℕ) → a < agents s → nat_abs (money s a) < 1000000000000000000
  unfolding money
  money_le a l =
      omega (
        arith,
        money_small (sold s a) (bought s a) (bolsa_price s) (omega (arith, sold_le s ok b a l)) (bought_le s ok b a l)
            (price_le s ok),
      )

module _ (bytes : List ℕ) (fine : sheet_verdict bytes ≡ Ok tt) where
  abbrev h : Sheet
  h = hour_of bytes

  abbrev c : Counts
  c = counts_of bytes

  agents_is : agents h ≡ c.agents
  unfolding hour_of
  agents_is = agents_long bytes c

  plants_is : plants h ≡ c.plants
  unfolding hour_of
  plants_is = plants_long bytes c

  contracts_is : contracts h ≡ c.contracts
  unfolding hour_of
  contracts_is = contracts_long bytes c

  figure_at : (k : ℕ) → k < 6 * c.agents → at (own_lists h).figures k ≡ figure h k
  figure_at k l = get_d_list_to 0 (figure h) (6 * agents h) k (omega (arith, agents_is))

  money_at : (a : ℕ) → a < c.agents → get_or (own_lists h).money a (pos 0) ≡ money h a
  money_at a l = get_d_list_to (pos 0) (money h) (agents h) a (omega (arith, agents_is))

  schedule_at : (i : ℕ) → i < c.plants → at (own_lists h).schedule i ≡ scheduled h i
  schedule_at i l = get_d_list_to 0 (scheduled h) (plants h) i (omega (arith, plants_is))

  amount_at_lem : (j : ℕ) → j < c.contracts → at (own_lists h).amounts j ≡ amount h j
  amount_at_lem j l = get_d_list_to 0 (amount h) (contracts h) j (omega (arith, contracts_is))

  writable : Writable c (bolsa_price h) (own_lists h)
  writable =
      let few = accepted_few bytes c (accepted bytes fine) in
      let ok = hour_sound bytes fine in
      let b = hour_balanced bytes fine in
      record {
        agents = few.agents;
        plants = few.plants;
        contracts = few.contracts;
        price = omega (arith, price_le h ok);
        figures = λ k l. rw (figure_at k l) (omega (arith, figure_le h ok b k (omega (arith, agents_is))));
        money = λ a l. rw (money_at a l) (money_le h ok b a (omega (arith, agents_is)));
        schedule = λ i l. rw (schedule_at i l) (omega (arith, scheduled_le h ok i (omega (arith, plants_is))));
        amounts = λ j l. rw (amount_at_lem j l) (omega (arith, amount_le h ok j (omega (arith, contracts_is))));
      }

  module _ (before after : Lent) (room : lists_fit c before ≡ true) where
    has_room : room_verdict h before ≡ Ok tt
    has_room =
        let f = fitting c before room in
        room_fine h before
        (record {
          figures = omega (arith, f.0, agents_is);
          money = omega (arith, f.1, agents_is);
          schedule = omega (arith, f.2, plants_is);
          amounts = omega (arith, f.3, contracts_is);
        })

    -- the lists that were read into are as settling would leave them
    settled : Kept c (own_lists h) before after → Settled bytes before after (summary_of (Ok tt) h)
    unfolding verdict_of
    settled k =
        let v : verdict_of bytes before ≡ (Ok tt) = room_enough bytes before has_room ∙ fine in
        let n : cells_per_agent * c.agents ≡ cells_per_agent * agents h = omega (arith, agents_is) in
        rw v
        (record {
          answered = refl;
          figures = filled_count 0 _ _ _ _ _ n (filled_by 0 _ _ _ _ (figure h) figure_at k.figures);
          money = filled_count (pos 0) _ _ _ _ _ (sym agents_is) (filled_by (pos 0) _ _ _ _ (money h) money_at k.money);
          schedule = filled_count 0 _ _ _ _ _ (sym plants_is) (filled_by 0 _ _ _ _ (scheduled h) schedule_at k.schedule);
          amounts = filled_count 0 _ _ _ _ _ (sym contracts_is) (filled_by 0 _ _ _ _ (amount h) amount_at_lem k.amounts);
        })

    -- OUR STATEMENT, READ BACK, HAS THE BOLSA PRICE AND IS ACCEPTED
    pub ours_read : (r : Result ℕ WrongLine) → StatementInto (own_statement bytes) c before r after
        → (r ≡ Ok (bolsa_price h))
        × ((v : Verdict) → v ≡ check_verdict bytes (bolsa_price h) after → v ≡ Ok tt)
    unfolding own_statement
    ours_read r d =
        let x = back c (bolsa_price h) (own_lists h) writable before room r after d in
        (x.0, ours_accepted bytes before after (summary_of (Ok tt) h) (settled x.1) refl)
