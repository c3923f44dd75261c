-- The page of a sheet from the page of its summary and the columns of its lines. Assumes nothing.
use Rattle.std.specs.Prelude.{Result, Ok, Err}
use Prim.Native.Nat.{ℕ, ◌*◌, ◌≤◌, ◌<◌}
use mathlib.Core.Path.{◌≡◌, refl, ap, sym, ◌∙◌}
use mathlib.Core.Bool.{Bool, true, false}
use mathlib.Core.List.{List, []}
use native.Mathlib.Omega.{arith}
use borrow.Author.Tests.{le-leb, leb-true, ne_eqb}
use lib.Dec.{leb}
use lib.IntN.{ℤ, pos}
use lib.ListN.{length, take}
use lib.Seq.{get_or-take, length-take-le}
use Rattle.sums.specs.Lists.{at, list_to, Filled}
use Rattle.sums.proofs.Lists.{length_list_to, get_d_list_to, list_to_is}
use Rattle.refusals.specs.Refusals.{no_room, refused_unless}
use Rattle.refusals.specs.declared.Refusal.{Refusal}
use Rattle.refusals.proofs.Fine.{else_fine}
use Rattle.limits.specs.Limits.{most_agents, most_offer}
use Rattle.sheet.specs.Reading.{read_of}
use Rattle.sheet.specs.declared.Counts.{Counts}
use Rattle.sheet.proofs.Accepted.{refused_verdict}
use Rattle.hour.specs.Sheet.{Sheet, agents}
use Rattle.hour.specs.Lines.{bolsa_price, figure, money, cells_per_agent}
use Rattle.hour.specs.Answer.{summary_of}
use Rattle.hour.specs.declared.Summary.{Summary}
use Rattle.hour.proofs.Bounds.{price_le}
use Rattle.columns.specs.Columns.{hour_of, sheet_verdict}
use Rattle.columns.proofs.Columns.{agents_long, hour_is}
use Rattle.columns.proofs.Refusing.{Told, told_all}
use Rattle.lines.specs.Lines.{buys, line_cell, line_money}
use Rattle.lines.proofs.Sheets.{figures_are, money_are, lines_fit}
use Rattle.settle.specs.Parts.{LineColumns}
use Rattle.printing.specs.Page.{page_of, print_verdict, printed, Prints}
use Rattle.printing.proofs.Printing.{one_outcome as printed-once}
use Rattle.page.specs.Page.{page_text, PrintsAll}
use Rattle.page.specs.Parts.{HourColumns, columns_text}
use Rattle.page.specs.Refused.{refused_summary}
use Rattle.page.proofs.Most.{hour_sound, hour_balanced}

-- the lists of a sheet's agents are refused only for want of room
pub print_fine : (kinds figures : List ℕ) (m : List ℤ) (size room : ℕ)
    → length kinds ≤ most_agents
    → 6 * length kinds ≤ length figures
    → length kinds ≤ length m
    → print_verdict kinds figures m size room ≡ refused_unless (leb size room) no_room 0
unfolding print_verdict
print_fine kinds figures m size room h f k =
    rw (
      le-leb (length kinds) most_agents h,
      le-leb (6 * length kinds) (length figures) f,
      le-leb (length kinds) (length m) k,
    ) (else_fine (refused_unless (leb size room) no_room 0))

-- the lists do not matter to the page of a refusal
pub refused_same : (r : Summary) (k f k' f' : List ℕ) (m m' : List ℤ)
    → (r.number ≡ 0 → ⊥)
    → page_of r k f m ≡ page_of r k' f' m'
unfolding page_of
refused_same r k f k' f' m m' h = rw (ne_eqb r.number 0 h)

same_lists : (r : Summary) (k f k' f' : List ℕ) (m m' : List ℤ)
    → k ≡ k'
    → f ≡ f'
    → m ≡ m'
    → page_of r k f m ≡ page_of r k' f' m'
same_lists r k f k' f' m m' p q s = cc

-- a sheet that is turned away
pub refused_sheet : (bytes : List ℕ) (q : Refusal)
    → sheet_verdict bytes ≡ Err q
    → page_text bytes ≡ page_of (refused_summary q) [] [] []
unfolding page_text Told
refused_sheet bytes q e = rw e (refused_same (refused_summary q) _ _ [] [] _ [] (told_all bytes q e))

-- reading's refusal is the sheet's
pub unread_sheet : (bytes : List ℕ) (q : Refusal) → read_of bytes ≡ Err q → sheet_verdict bytes ≡ Err q
unfolding sheet_verdict
unread_sheet bytes q e = rw (refused_verdict bytes q e)

-- a list that is all of its function
filled_whole : {A : Type 0} (d : A) (f : ℕ → A) (n : ℕ) → Filled d (list_to f n) (list_to f n) n f
filled_whole d f n = record { done = get_d_list_to d f n; kept = λ k h. refl; long = refl }

-- columns that hold what a sheet's lines are made of make its lists
module _ (h : Sheet) (n : ℕ) (e : agents h ≡ n) (ks ss os is cs : List ℕ) (l : LineColumns h n ks ss os is cs) where
  kinds_drawn : list_to (at ks) n ≡ h.kinds
  kinds_drawn = sym (list_to_is 0 (at ks) n h.kinds e (λ a m. sym (l.kinds a m)))

  figures_drawn : list_to (line_cell ks ss os is cs) (cells_per_agent * n) ≡ list_to (figure h) (cells_per_agent * agents h)
  figures_drawn =
      let f =
      figures_are h n e ks ss os is cs l.kinds l.shares l.own l.imports l.held _ _
      (filled_whole 0 (line_cell ks ss os is cs) (cells_per_agent * n)) in
      list_to_is 0 (figure h) _ _ (length_list_to _ _ ∙ ap (λ (k : ℕ). cells_per_agent * k) (sym e)) f.done

  money_drawn : (p : ℕ) → p ≡ bolsa_price h → list_to (line_money ks os is cs p) n ≡ list_to (money h) (agents h)
  money_drawn p q =
      let f =
      money_are h n e ks ss os is cs l.kinds l.shares l.own l.imports l.held p q _ _
      (filled_whole (pos 0) (line_money ks os is cs p) n) in
      list_to_is (pos 0) (money h) _ _ (length_list_to _ _ ∙ sym e) f.done

-- the fronts of lists that the lines of columns were written into
pub printed_columns : (r : Summary) (n : ℕ) (ks ss os is cs : List ℕ)
    → n ≤ most_agents
    → n ≤ length ks
    → (kinds figures : List ℕ) (m : List ℤ) (before : List ℕ) (p : Result ℕ Refusal) (after : List ℕ)
    → kinds ≡ take n ks
    → figures ≡ list_to (line_cell ks ss os is cs) (cells_per_agent * n)
    → m ≡ list_to (line_money ks os is cs r.price) n
    → Prints (print_verdict kinds figures m (length (page_of r kinds figures m)) (length before)) (page_of r kinds figures m) before p after
    → PrintsAll (columns_text r n ks ss os is cs) before p after
printed_columns r n ks ss os is cs few long kinds figures m before p after hk hf hm d =
    let all_kinds : kinds ≡ list_to (at ks) n
    = hk ∙ list_to_is 0 (at ks) n (take n ks) (length-take-le n ks long) (λ i q. get_or-take n ks i 0 q) in
    let k : length kinds ≡ n = ap length all_kinds ∙ length_list_to _ _ in
    let f : length figures ≡ 6 * n = ap length hf ∙ length_list_to _ _ in
    let l : length m ≡ n = ap length hm ∙ length_list_to _ _ in
    let few_kinds : length kinds ≤ most_agents = omega arith in
    let all_figures : 6 * length kinds ≤ length figures = omega arith in
    let all_money : length kinds ≤ length m = omega arith in
    let all : PrintsAll (page_of r kinds figures m) before p after
    = rw (print_fine kinds figures m _ _ few_kinds all_figures all_money) at d in
    rw (all_kinds, hf, hm) at all

-- an hour that nothing turns away
module _ (bytes : List ℕ) (c : Counts) (e : read_of bytes ≡ Ok c) (fine : sheet_verdict bytes ≡ Ok tt)
    (ks ss os is cs : List ℕ) (r : Summary) (d : HourColumns bytes c.agents ks ss os is cs r) where
  count : agents (hour_of bytes) ≡ c.agents
  count = rw (hour_is bytes c e) (agents_long bytes c)

  summary_is : r ≡ summary_of (Ok tt) (hour_of bytes)
  summary_is = rw fine at d.answered

  price_is : r.price ≡ bolsa_price (hour_of bytes)
  price_is = ap (λ (x : Summary). x.price) summary_is

  pub price_small : r.price ≤ most_offer
  price_small = omega (arith, price_is, price_le (hour_of bytes) (hour_sound bytes fine))

  pub lines_small : (a : ℕ) → a < c.agents → buys (at ks a) (at os a) (at is a) (at cs a) ≤ 4294967295
  lines_small =
      let l = d.columns fine in
      lines_fit (hour_of bytes) c.agents count ks ss os is cs l.kinds l.shares l.own l.imports l.held
      (hour_sound bytes fine) (hour_balanced bytes fine)

  pub lined_sheet : page_text bytes ≡ columns_text r c.agents ks ss os is cs
  unfolding page_text
  lined_sheet =
      let h = hour_of bytes in
      let l = d.columns fine in
      rw (fine, ← summary_is)
      (same_lists r _ _ _ _ _ _ (sym (kinds_drawn h _ count ks ss os is cs l)) (sym (figures_drawn h _ count ks ss os is cs l))
      (sym (money_drawn h _ count ks ss os is cs l _ price_is)))

-- what was printed lies within the buffer
pub done_fits : (text before : List ℕ) (n : ℕ)
    → Ok n ≡ printed (refused_unless (leb (length text) (length before)) no_room 0) (length text)
    → (n ≡ length text) × (n ≤ length before)
done_fits text before n e = go (leb (length text) (length before)) refl e
  where
    go : (b : Bool)
        → leb (length text) (length before) ≡ b
        → Ok n ≡ printed (refused_unless b no_room 0) (length text)
        → (n ≡ length text) × (n ≤ length before)
    go true f q = let s : n ≡ length text = cc in (s, omega (arith, leb-true (length text) (length before) f))
    go false f q = let no : ◌≡◌ {A = ℕ} 0 1 = cc in absurd (omega arith)

-- any two outcomes that meet the promise of `page` are equal
pub one_outcome : (bytes before after after' : List ℕ) (r r' : Result ℕ Refusal) → PrintsAll (page_text bytes) before r after
    → PrintsAll (page_text bytes) before r' after' → (r ≡ r') × (after ≡ after')
one_outcome bytes before after after' r r' p q = printed-once p q
