-- No page is longer than 5,120 bytes: each of the hour's numbers is below a power of ten (the bounds are hour's), which bounds the
-- digits of each line; a refusal's page is shorter than any. Assumes nothing.
use Rattle.std.specs.Prelude.{Ok, Err}
use Prim.Native.Nat.{ℕ, zero, suc, ◌+◌, ◌-◌, ◌*◌, ◌/◌, ◌%◌, ◌^◌, ◌≤◌, ◌<◌}
use mathlib.Core.Path.{◌≡◌, refl, ◌∙◌}
use mathlib.Core.List.{List, [], ◌∷◌}
use native.Mathlib.Omega.{arith}
use native.Mathlib.Nat.{mul-le-mul, le_trans}
use native.Mathlib.Decide.{dec_lt}
use lib.IntN.{pos, neg_ℤ, nat_abs}
use lib.ListN.{length}
use Rattle.sums.specs.Lists.{at, list_to}
use Rattle.sums.proofs.Lists.{get_d_list_to}
use Rattle.refusals.specs.Refusals.{Verdict}
use Rattle.refusals.proofs.Fine.{fine_parts}
use Rattle.limits.specs.Limits.{most_offer}
use Rattle.sheet.specs.Reading.{read_verdict, counts_of, read_of}
use Rattle.sheet.specs.Asking.{agent_at}
use Rattle.rows.proofs.ByKind.{agent_known}
use Rattle.sheet.proofs.Accepted.{accepted_agent}
use Rattle.hour.specs.Sheet.{Sheet, agents}
use Rattle.hour.specs.Sound.{Sound}
use Rattle.hour.specs.Balance.{loss_share, own_import}
use Rattle.hour.specs.Lines.{own, contracted, bought, sold, bolsa_price, money, money_of, cell_of, figure}
use Rattle.hour.specs.Answer.{balance_verdict, cover_verdict, summary_of}
use Rattle.hour.proofs.Verdicts.{Balanced, balanced}
use Rattle.hour.proofs.Bounds.{imported_le, import_le, losses_le, price_le}
use Rattle.hour.proofs.Fits.{most_bought, contracted_le, demand_most, own_le, bought_le, sold_le}
use Rattle.hour.proofs.Money.{money_pos, money_neg}
use Rattle.columns.specs.Columns.{columns_of, hour_of, sheet_verdict}
use Rattle.columns.proofs.Columns.{agents_long, kind_at_lem, sound}
use Rattle.columns.proofs.Refusing.{Told, told_all}
use Rattle.printing.proofs.Length.{ShortLine, ShortPage, refused_page, hour_page}
use Rattle.page.specs.Page.{page_text}

-- ---- money: at most 2,560,000,000 kWh either way, at the highest offer
abs_neg : (x : ℕ) → nat_abs (neg_ℤ (pos x)) ≡ x
abs_neg zero = refl
abs_neg (suc x) = refl

pub money_small : (x y p : ℕ) → x ≤ most_bought → y ≤ most_bought → p ≤ most_offer → nat_abs (money_of x y p) < 10 ^ (15 + 1)
money_small x y p h k l = go (dec_lt x y)
  where
    most : (z : ℕ) → z ≤ most_bought → z * p ≤ most_bought * most_offer
    most z m = mul-le-mul {n₂ = most_bought} {m₂ = most_offer} m l

    go : Dec (x < y) → nat_abs (money_of x y p) < 10 ^ (15 + 1)
    go (yes m) = rw (money_neg x y p m, abs_neg ((y - x) * p)) (omega (arith, most (y - x) (omega arith)))
    go (no m) = rw (money_pos x y p (omega arith)) (omega (arith, most (x - y) (omega arith)))

-- ---- a line of a sheet that passes refusals 1 to 9
module _ (s : Sheet) (ok : Sound s) (b : Balanced s) (a : ℕ) (l : a < agents s) where
  figure_at : (j : ℕ) → j < 6
      → at (list_to (figure s) (6 * agents s)) (6 * a + j)
      ≡ cell_of (loss_share s) (own s) (own_import s) (contracted s) (bought s) (sold s) j a
  unfolding figure
  figure_at j h =
      let cell : (6 * a + j) % 6 ≡ j = omega arith in
      let agent : (6 * a + j) / 6 ≡ a = omega arith in
      get_d_list_to 0 (figure s) (6 * agents s) (6 * a + j) (omega arith) ∙ rw (cell, agent)

  line_short : at s.kinds a < 10
      → ShortLine s.kinds (list_to (figure s) (6 * agents s)) (list_to (money s) (agents s)) a
  unfolding cell_of money
  line_short kind =
      record {
        agent = omega (arith, ok.few.agents);
        kind = kind;
        own = rw (figure_at 1 (omega arith)) (omega (arith, own_le s ok b a l));
        import = rw (figure_at 2 (omega arith)) (omega (arith, import_le s a, imported_le s ok a));
        contracted = rw (figure_at 3 (omega arith)) (omega (arith, contracted_le s ok a));
        bought = rw (figure_at 4 (omega arith)) (omega (arith, bought_le s ok b a l));
        sold = rw (figure_at 5 (omega arith)) (omega (arith, sold_le s ok b a l));
        owed = rw (get_d_list_to (pos 0) (money s) (agents s) a l)
            (money_small (sold s a) (bought s a) (bolsa_price s) (omega (arith, sold_le s ok b a l)) (bought_le s ok b a l)
            (price_le s ok));
      }

-- ---- the page
module _ (bytes : List ℕ) (e : sheet_verdict bytes ≡ Ok tt) where
  read_fine : read_verdict bytes ≡ Ok tt
  unfolding sheet_verdict
  read_fine = (fine_parts (read_verdict bytes ∷ balance_verdict (hour_of bytes) ∷ cover_verdict (hour_of bytes) ∷ []) e).0

  pub hour_balanced : Balanced (hour_of bytes)
  unfolding sheet_verdict
  hour_balanced =
      balanced (hour_of bytes)
      (fine_parts (read_verdict bytes ∷ balance_verdict (hour_of bytes) ∷ cover_verdict (hour_of bytes) ∷ []) e).1.0

  pub accepted : read_of bytes ≡ Ok (counts_of bytes)
  unfolding read_of
  accepted = rw read_fine

  pub hour_sound : Sound (hour_of bytes)
  unfolding hour_of
  hour_sound = sound bytes (counts_of bytes) accepted

  kind_small : (a : ℕ) → a < agents (hour_of bytes) → at (hour_of bytes).kinds a < 10
  unfolding hour_of
  kind_small a l =
      omega (
        arith,
        is,
        (agent_known (agent_at bytes (counts_of bytes) a).kind (accepted_agent bytes (counts_of bytes) accepted a there).kind).most,
      )
    where
      there : a < (counts_of bytes).agents
      there = omega (arith, agents_long bytes (counts_of bytes))

      is : at (columns_of bytes (counts_of bytes)).kinds a ≡ (agent_at bytes (counts_of bytes) a).kind
      is = kind_at_lem bytes (counts_of bytes) a there

  short : let h =
      hour_of bytes in
      ShortPage (summary_of (Ok tt) h) h.kinds (list_to (figure h) (6 * agents h)) (list_to (money h) (agents h))
  short =
      let h = hour_of bytes in
      record {
        price = omega (arith, price_le h hour_sound);
        demand = omega (arith, demand_most h hour_sound hour_balanced);
        losses = omega (arith, losses_le h hour_sound);
        lines = λ a l. line_short h hour_sound hour_balanced a l (kind_small a l);
      }

-- the code's `MOST`
abbrev pub most_page : ℕ
most_page = 5120

pub page_most : (bytes : List ℕ) → length (page_text bytes) ≤ most_page
unfolding page_text Told
page_most bytes = go (sheet_verdict bytes) refl
  where
    go : (v : Verdict) → sheet_verdict bytes ≡ v → length (page_text bytes) ≤ most_page
    go (Err q) e = rw e
        (le_trans (refused_page (summary_of (Err q) (hour_of bytes)) _ _ _ (told_all bytes q e))
        (omega arith))
    go (Ok tt) e =
        let n = (hour_sound bytes e).few.agents in
        rw e (le_trans (hour_page (summary_of (Ok tt) (hour_of bytes)) _ _ _ refl (short bytes e)) (omega arith))
