-- THE ENTRY OF A SETTLED HOUR IS THE SHEET'S: its demand, its losses, what its agents bought, its price. `Settled` is the promise of
-- `settle`; where the number that it returned is 0 every verdict is fine, so the summary and the bought cells are the hour's.
-- Assumes nothing.
use Rattle.std.specs.Prelude.{Ok, Err}
use Prim.Native.Nat.{ℕ, ◌+◌, ◌*◌, min}
use native.Mathlib.Omega.{arith}
use mathlib.Core.List.{List}
use mathlib.Core.Path.{◌≡◌, refl, ap, sym, ◌∙◌}
use Rattle.sums.specs.Sums.{sum}
use Rattle.sums.specs.Lists.{at}
use Rattle.sums.proofs.Sums.{sum_eq}
use Rattle.refusals.specs.Refusals.{number_of}
use Rattle.refusals.specs.Refusals.{Verdict}
use Rattle.sheet.specs.Reading.{counts_of, read_verdict}
use Rattle.sheet.specs.Counting.{counting_of}
use Rattle.hour.specs.Sheet.{Sheet, agents}
use Rattle.hour.specs.Balance.{hour_demand, losses}
use Rattle.hour.specs.Lines.{bought, bolsa_price, cells_per_agent}
use Rattle.hour.specs.Answer.{Lent, balance_verdict, cover_verdict, room_verdict, hour_verdict, summary_of}
use Rattle.hour.specs.declared.Summary.{Summary}
use Rattle.hour.proofs.Cells.{figure_bought}
use Rattle.columns.specs.Columns.{hour_of}
use Rattle.columns.proofs.Columns.{agents_long}
use Rattle.columns.proofs.Numbers.{Between, in_order, read_between, balance_between, cover_between, room_between}
use Rattle.settle.specs.Settled.{verdict_of, Settled}
use Rattle.book.specs.Book.{hour_with}
use Rattle.entry.specs.Entry.{agents_counted, bought_in_all, most_word, entry_of}
use Rattle.entry.proofs.Counts.{accepted_counted}

-- ---- a number of 0 is no refusal's
pub record AllFine (r b c m : Verdict) : Type 0 where
  pub reads : r ≡ Ok tt
  pub balance : b ≡ Ok tt
  pub cover : c ≡ Ok tt
  pub room : m ≡ Ok tt

zero_fine : (r b c m : Verdict) → Between 1 6 r → Between 7 9 b → Between 10 13 c → Between 11 11 m
    → number_of (in_order r b c m) ≡ 0
    → AllFine r b c m
zero_fine (Ok _) (Ok _) (Ok _) (Ok _) hr hb hc hm e =
    record { reads = refl; balance = refl; cover = refl; room = refl }
zero_fine (Err q) b c m hr hb hc hm e = absurd (omega arith)
zero_fine (Ok _) (Err q) c m hr hb hc hm e = absurd (omega arith)
zero_fine (Ok _) (Ok _) (Err q) m hr hb hc hm e = absurd (omega arith)
zero_fine (Ok _) (Ok _) (Ok _) (Err q) hr hb hc hm e = absurd (omega arith)

summary_number : (v : Verdict) (s : Sheet) → (summary_of v s).number ≡ number_of v
summary_number (Ok tt) s = refl
summary_number (Err q) s = refl

module _ (bytes : List ℕ) (before after : Lent) (r : Summary) (done : Settled bytes before after r) (zero : r.number ≡ 0) where
  abbrev s : Sheet
  s = hour_of bytes

  verdict_is : verdict_of bytes before
      ≡ in_order (read_verdict bytes) (balance_verdict s) (cover_verdict s) (room_verdict s before)
  unfolding verdict_of hour_verdict
  verdict_is = refl

  pub all_fine : AllFine (read_verdict bytes) (balance_verdict s) (cover_verdict s) (room_verdict s before)
  all_fine =
      zero_fine (read_verdict bytes) (balance_verdict s) (cover_verdict s) (room_verdict s before) (read_between bytes)
      (balance_between s) (cover_between s) (room_between s before)
      (sym (ap number_of verdict_is) ∙ sym (summary_number (verdict_of bytes before) s)
      ∙ sym (ap (λ (x : Summary). x.number) done.answered) ∙ zero)

  fine : verdict_of bytes before ≡ Ok tt
  fine = let f = all_fine in verdict_is ∙ rw (f.reads, f.balance, f.cover, f.room)

  summary_is : r ≡ summary_of (Ok tt) s
  summary_is = done.answered ∙ rw fine

  counted : agents_counted (counting_of bytes) ≡ agents s
  unfolding hour_of
  counted = ap agents_counted (accepted_counted bytes all_fine.reads) ∙ sym (agents_long bytes (counts_of bytes))

  bought_is : bought_in_all after.figures (agents s) ≡ sum (agents s) (bought s)
  unfolding bought_in_all
  bought_is =
      sum_eq (agents s) (λ a. at after.figures (cells_per_agent * a + 4)) (bought s)
      (λ a l. done.figures.done (cells_per_agent * a + 4) (rw fine (omega arith)) ∙ figure_bought s a)

  pub entry_is : entry_of bytes r after.figures
      ≡ Ok (hour_with (hour_demand s) (losses s) (min (sum (agents s) (bought s)) most_word) (bolsa_price s))
  entry_is = rw (summary_is, counted, bought_is)
