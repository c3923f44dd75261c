-- THE ENTRY OF A SETTLED HOUR CAN BE ENTERED, at every hour of the day: no number of it is over what a book takes. What all agents bought
-- is at most the hour's demand and all contract amounts together, since a retailer buys from its own demand, and a generator what it
-- sold under contracts and its own import. Assumes nothing.
use Rattle.std.specs.Prelude.{Ok}
use Prim.Native.Nat.{ℕ, ◌+◌, ◌-◌, ◌<◌, ◌≤◌, min}
use native.Mathlib.Omega.{arith}
use mathlib.Core.Bool.{Bool, true, false, not, cond}
use mathlib.Core.List.{List}
use mathlib.Core.Path.{◌≡◌, ◌∙◌}
use borrow.Author.Tests.{lt-ltb, le-leb}
use Rattle.sums.specs.Sums.{sum, pick}
use Rattle.sums.proofs.Sums.{sum_le, sum_add, sum_most}
use Rattle.limits.specs.Limits.{most_quantity}
use Rattle.sheet.specs.Reading.{counts_of, read_verdict, read_of}
use Rattle.hour.specs.Sheet.{Sheet, agents, contracts, retails}
use Rattle.hour.specs.Sound.{Sound}
use Rattle.hour.specs.Balance.{commercial, own_import, hour_demand, losses}
use Rattle.hour.specs.Lines.{amount, own, contracted, bought, bolsa_price}
use Rattle.hour.specs.Answer.{Lent}
use Rattle.hour.specs.declared.Summary.{Summary}
use Rattle.hour.proofs.Verdicts.{Balanced, balanced}
use Rattle.hour.proofs.Bounds.{losses_le, price_le}
use Rattle.hour.proofs.Fits.{amount_le, demand_most}
use Rattle.hour.proofs.Balance.{contracted_sellers}
use Rattle.columns.specs.Columns.{hour_of}
use Rattle.columns.proofs.Columns.{sound}
use Rattle.settle.specs.Settled.{Settled}
use Rattle.book.specs.Book.{hours, most_energy, most_hour_price, hour_with, entry_verdict}
use Rattle.entry.specs.Entry.{most_word, entry_of}
use Rattle.entry.proofs.Sheet.{all_fine, entry_is}

-- ---- what agents bought, one by one and all together
bought_parts : (s : Sheet) (a : ℕ) → bought s a ≤ commercial s a + own_import s a + pick (not (retails s a)) (contracted s a)
unfolding bought own pick
bought_parts s a = go (retails s a) _
  where
    go : (t : Bool) (made : ℕ)
        → cond t (cond t (commercial s a) made - contracted s a) (contracted s a - cond t (commercial s a) made + own_import s a)
        ≤ commercial s a + own_import s a + pick (not t) (contracted s a)
    go true made = omega arith
    go false made = omega arith

all_bought : (s : Sheet) → Sound s → sum (agents s) (bought s) ≤ hour_demand s + sum (contracts s) (amount s)
unfolding hour_demand
all_bought s ok =
    omega (
      arith,
      sum_le (agents s) (bought s) (λ a. commercial s a + own_import s a + pick (not (retails s a)) (contracted s a))
          (λ a l. bought_parts s a),
      sum_add (agents s) (λ a. commercial s a + own_import s a) (λ a. pick (not (retails s a)) (contracted s a)),
      contracted_sellers s ok,
    )

bought_most : (s : Sheet) → Sound s → Balanced s → sum (agents s) (bought s) ≤ most_energy
bought_most s ok b =
    omega (
      arith,
      all_bought s ok,
      demand_most s ok b,
      sum_most (contracts s) most_quantity (amount s) (amount_le s ok),
      ok.few.contracts,
    )

read_sound : (bytes : List ℕ) → read_verdict bytes ≡ Ok tt → Sound (hour_of bytes)
unfolding read_of hour_of
read_sound bytes e = sound bytes (counts_of bytes) (rw e)

-- ---- of the result of `settle`, where the number that it returned is 0
module _ (bytes : List ℕ) (before after : Lent) (r : Summary) (done : Settled bytes before after r) (zero : r.number ≡ 0) where
  abbrev hour : Sheet
  hour = hour_of bytes

  hour_sound : Sound hour
  hour_sound = read_sound bytes (all_fine bytes before after r done zero).reads

  hour_balanced : Balanced hour
  hour_balanced = balanced hour (all_fine bytes before after r done zero).balance

  -- the entry is the sheet's own demand, losses, bought kWh and price
  pub entry_true : entry_of bytes r after.figures
      ≡ Ok (hour_with (hour_demand hour) (losses hour) (sum (agents hour) (bought hour)) (bolsa_price hour))
  entry_true =
      let most = bought_most hour hour_sound hour_balanced in
      let e : min (sum (agents hour) (bought hour)) most_word ≡ sum (agents hour) (bought hour) = omega arith in
      entry_is bytes before after r done zero ∙ rw e

  -- and a book takes it
  pub entry_enters : (h : ℕ)
      → h < hours
      → entry_verdict h (hour_demand hour) (losses hour) (sum (agents hour) (bought hour)) (bolsa_price hour) ≡ Ok tt
  entry_enters h l =
      let d : hour_demand hour ≤ most_energy = omega (arith, demand_most hour hour_sound hour_balanced) in
      let o : losses hour ≤ most_energy = omega (arith, losses_le hour hour_sound) in
      let p : bolsa_price hour ≤ most_hour_price = omega (arith, price_le hour hour_sound) in
      rw (
        lt-ltb h hours l,
        le-leb (hour_demand hour) most_energy d,
        le-leb (losses hour) most_energy o,
        le-leb (sum (agents hour) (bought hour)) most_energy (bought_most hour hour_sound hour_balanced),
        le-leb (bolsa_price hour) most_hour_price p,
      )
