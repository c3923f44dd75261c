-- A BOOK IN CELLS IS THE BOOK: after any sequence of calls on cells that were emptied, the cells are those of the book that the same calls
-- leave from an empty one, each call answers as it does there, and the four totals are a fresh sum over the places. One place and the
-- totals of such cells always look good, so that nothing but the book's own refusals is met. Assumes nothing.
use Rattle.std.specs.Prelude.{Some, None, is_some, Ok, Err}
use Prim.Native.Nat.{ℕ, ◌+◌, ◌*◌, ◌<◌, ◌≤◌}
use native.Mathlib.Omega.{arith}
use native.Mathlib.Decide.{dec_lt, ℕ_discrete}
use mathlib.Core.Bool.{true}
use mathlib.Core.List.{List, [], ◌∷◌}
use mathlib.Core.Path.{◌≡◌, refl, ap, sym, subst, ◌∙◌}
use lib.ListN.{length, set, get_or-replicate}
use lib.Seq.{get_or-set_same, get_or-set_other}
use borrow.Author.Tests.{le-leb, leb-true}
use Rattle.sums.specs.Lists.{at}
use Rattle.sums.proofs.Fill.{filled_unique}
use Rattle.refusals.specs.Refusals.{Verdict}
use Rattle.refusals.proofs.Fine.{fine_test}
use Rattle.book.specs.Book.{hours, most_energy, most_hour_price, Place, blank, holding, counted, place_at, money_bought, fresh, empty_book}
use Rattle.book.specs.Book.{moved, with_place, slot_verdict, entry_verdict, unless_refused, entered, removed, Kept}
use Rattle.book.specs.Calls.{Call, called, after}
use Rattle.book.specs.declared.Book.{Book}
use Rattle.book.specs.declared.Totals.{Totals}
use Rattle.book.proofs.Laws.{fine_hour, entry_hour, kept_carries}
use Rattle.book.proofs.True.{empty_kept, called_kept, totals_true}
use Rattle.book_cells.specs.Cells.{cells_per_place, totals_start, all_cells, flag_of, place_cells, totals_cells}
use Rattle.book_cells.specs.Cells.{hour_in, totals_in, shaped, carried, day_energy, day_money, looked_good, room_for}
use Rattle.book_cells.specs.Cells.{cells_verdict, put, with_place_cells, unless_refused_cells, Emptied, CellsDo}
use Rattle.book_cells.proofs.Put.{put_long, put_in, put_low, put_high}
use Rattle.book_cells.proofs.Looked.{own_verdict}

-- ---- cells that hold a book
pub record HoldsPlace (cs : List ℕ) (h : ℕ) (p : Place) : Type 0 where
  pub held : at cs (cells_per_place * h) ≡ flag_of (is_some p)
  pub demand : at cs (cells_per_place * h + 1) ≡ (counted p).demand
  pub losses : at cs (cells_per_place * h + 2) ≡ (counted p).losses
  pub bought : at cs (cells_per_place * h + 3) ≡ (counted p).bought
  pub price : at cs (cells_per_place * h + 4) ≡ (counted p).price

pub record HoldsTotals (cs : List ℕ) (t : Totals) : Type 0 where
  pub demand : at cs totals_start ≡ t.demand
  pub losses : at cs (totals_start + 1) ≡ t.losses
  pub bought : at cs (totals_start + 2) ≡ t.bought
  pub money : at cs (totals_start + 3) ≡ t.money

pub record Holds (cs : List ℕ) (b : Book) : Type 0 where
  pub room : all_cells ≤ length cs
  pub places : (h : ℕ) → h < hours → HoldsPlace cs h (place_at b.places h)
  pub totals : HoldsTotals cs b.totals

-- ---- an empty book
pub emptied_holds : (l cs : List ℕ) → Emptied l (Ok tt) cs → Holds cs empty_book
emptied_holds l cs e =
    let fine = sym e.answer in
    let room = leb_says fine in
    let long = e.zeros.long in
    let none : (k : ℕ) → k < all_cells → at cs k ≡ 0 = λ k h. e.zeros.done k (rw fine h) in
    record {
      room = omega arith;
      places = λ h m.
          subst (HoldsPlace cs h) (sym (get_or-replicate hours h blank blank m)) (record {
            held = none (cells_per_place * h) (omega arith);
            demand = none (cells_per_place * h + 1) (omega arith);
            losses = none (cells_per_place * h + 2) (omega arith);
            bought = none (cells_per_place * h + 3) (omega arith);
            price = none (cells_per_place * h + 4) (omega arith);
          });
      totals = record {
        demand = none totals_start (omega arith);
        losses = none (totals_start + 1) (omega arith);
        bought = none (totals_start + 2) (omega arith);
        money = none (totals_start + 3) (omega arith);
      };
    }
  where
    leb_says : room_for l ≡ Ok tt → all_cells ≤ length l
    leb_says f = leb-true all_cells (length l) (fine_test _ _ _ f)

-- ---- one place changed
module _ (cs : List ℕ) (b : Book) (holds : Holds cs b) (long : length b.places ≡ hours) (h : ℕ) (l : h < hours)
    (p : Place) where
  abbrev t : Totals
  t = moved (totals_in cs) (hour_in cs h) (counted p)

  abbrev mid : List ℕ
  mid = put cs (cells_per_place * h) (place_cells p)

  abbrev new : List ℕ
  new = with_place_cells cs h p

  mid_long : length mid ≡ length cs
  mid_long = put_long cs (cells_per_place * h) (place_cells p)

  -- cell i of the place, and any cell of another
  here : (i : ℕ) → i < cells_per_place → at new (cells_per_place * h + i) ≡ at (place_cells p) i
  here i m =
      let r = holds.room in
      let e = mid_long in
      put_low mid totals_start (totals_cells t) (cells_per_place * h + i) (omega arith) (omega arith)
      ∙ put_in cs (cells_per_place * h) (place_cells p) i m (omega arith)

  before : (k : ℕ) → k < cells_per_place * h → at new k ≡ at cs k
  before k m =
      let r = holds.room in
      let e = mid_long in
      put_low mid totals_start (totals_cells t) k (omega arith) (omega arith)
      ∙ put_low cs (cells_per_place * h) (place_cells p) k m (omega arith)

  behind : (k : ℕ) → cells_per_place * h + cells_per_place ≤ k → k < totals_start → at new k ≡ at cs k
  behind k m n =
      let r = holds.room in
      let e = mid_long in
      put_low mid totals_start (totals_cells t) k n (omega arith)
      ∙ put_high cs (cells_per_place * h) (place_cells p) k m (omega arith)

  elsewhere : (g i : ℕ) → (g ≡ h → ⊥) → g < hours → i < cells_per_place
      → at new (cells_per_place * g + i) ≡ at cs (cells_per_place * g + i)
  elsewhere g i n m q = go (dec_lt g h) (dec_lt h g)
    where
      go : Dec (g < h) → Dec (h < g) → at new (cells_per_place * g + i) ≡ at cs (cells_per_place * g + i)
      go (yes a) o = before (cells_per_place * g + i) (omega arith)
      go (no a) (yes o) = behind (cells_per_place * g + i) (omega arith) (omega arith)
      go (no a) (no o) = let e : g ≡ h = omega arith in absurd (n e)

  total_at : (i : ℕ) → i < 4 → at new (totals_start + i) ≡ at (totals_cells t) i
  total_at i m =
      let r = holds.room in
      let e = mid_long in
      put_in mid totals_start (totals_cells t) i m (omega arith)

  place_here : HoldsPlace new h p
  place_here =
      let z : cells_per_place * h ≡ cells_per_place * h + 0 = omega arith in
      record {
        held = ap (at new) z ∙ here 0 (omega arith);
        demand = here 1 (omega arith);
        losses = here 2 (omega arith);
        bought = here 3 (omega arith);
        price = here 4 (omega arith);
      }

  place_there : (g : ℕ) → (g ≡ h → ⊥) → g < hours → HoldsPlace new g (place_at b.places g)
  place_there g n m =
      let z : cells_per_place * g ≡ cells_per_place * g + 0 = omega arith in
      let w = holds.places g m in
      record {
        held = ap (at new) z ∙ elsewhere g 0 n m (omega arith) ∙ sym (ap (at cs) z) ∙ w.held;
        demand = elsewhere g 1 n m (omega arith) ∙ w.demand;
        losses = elsewhere g 2 n m (omega arith) ∙ w.losses;
        bought = elsewhere g 3 n m (omega arith) ∙ w.bought;
        price = elsewhere g 4 n m (omega arith) ∙ w.price;
      }

  places_hold : (g : ℕ) → g < hours → HoldsPlace new g (place_at (set b.places h p) g)
  places_hold g m = go (ℕ_discrete g h)
    where
      go : Dec (g ≡ h) → HoldsPlace new g (place_at (set b.places h p) g)
      go (yes e) =
          rw e (subst (HoldsPlace new h) (sym (get_or-set_same b.places h p blank (let q = long in omega arith)))
          place_here)
      go (no n) = subst (HoldsPlace new g) (sym (get_or-set_other b.places h g p blank n)) (place_there g n m)

  totals_hold : HoldsTotals new (moved b.totals (counted (place_at b.places h)) (counted p))
  totals_hold =
      let o = holds.places h l in
      let u = holds.totals in
      record {
        demand = total_at 0 (omega arith) ∙ rw (u.demand, o.demand);
        losses = total_at 1 (omega arith) ∙ rw (u.losses, o.losses);
        bought = total_at 2 (omega arith) ∙ rw (u.bought, o.bought);
        money = total_at 3 (omega arith) ∙ rw (u.money, o.bought, o.price);
      }

  pub turned_holds : Holds new (with_place b h p)
  turned_holds =
      let r = holds.room in
      let e = mid_long in
      let f = put_long mid totals_start (totals_cells t) in
      record { room = omega arith; places = places_hold; totals = totals_hold }

-- ---- cells that hold a book look good
shaped_held : (p : Place)
    → shaped (flag_of (is_some p)) (counted p).demand (counted p).losses (counted p).bought (counted p).price ≡ true
shaped_held (Some hour) = refl
shaped_held None = refl

carried_held : (total part day : ℕ) → part ≤ total → total ≤ day → carried total part day ≡ true
carried_held total part day h k = rw (le-leb part total h, le-leb total day k)

module _ (cs : List ℕ) (b : Book) (kept : Kept b) (holds : Holds cs b) where
  pub held_looks : (h : ℕ) → h < hours → looked_good cs h ≡ true
  unfolding looked_good
  held_looks h l =
      let p = place_at b.places h in
      let x = counted p in
      let o = holds.places h l in
      let u = holds.totals in
      let w = kept.proper h l in
      let c = kept_carries b kept h l in
      rw (o.held, o.demand, o.losses, o.bought, o.price, u.demand, u.losses, u.bought, u.money)
      (rw (
        le-leb x.demand most_energy w.demand,
        le-leb x.losses most_energy w.losses,
        le-leb x.bought most_energy w.bought,
        le-leb x.price most_hour_price w.price,
        shaped_held p,
        carried_held b.totals.demand x.demand day_energy c.demand.held c.demand.within,
        carried_held b.totals.losses x.losses day_energy c.losses.held c.losses.within,
        carried_held b.totals.bought x.bought day_energy c.bought.held c.bought.within,
        carried_held b.totals.money (money_bought x) day_money c.money.held c.money.within,
      ))

  -- a call on the cells is that call on the book
  left_holds : (v : Verdict) (h : ℕ) (p : Place) (cs' : List ℕ)
      → (v ≡ Ok tt → h < hours)
      → cs' ≡ unless_refused_cells v cs (with_place_cells cs h p)
      → Holds cs' (unless_refused v b (with_place b h p))
  left_holds (Ok tt) h p cs' w e = rw e (turned_holds cs b holds kept.long h (w refl) p)
  left_holds (Err q) h p cs' w e = rw e holds

  does_hold : (v : Verdict) (h : ℕ) (p : Place) (r : Verdict) (cs' : List ℕ)
      → (v ≡ Ok tt → h < hours)
      → CellsDo (cells_verdict cs h v) (with_place_cells cs h p) cs r cs'
      → (r ≡ v) × Holds cs' (unless_refused v b (with_place b h p))
  does_hold v h p r cs' w does =
      let same = own_verdict cs h v holds.room (λ e. held_looks h (w e)) in
      (does.answer ∙ same, left_holds v h p cs' w (rw same at does.left))

  pub entered_holds : (h d o x q : ℕ) (r : Verdict) (cs' : List ℕ)
      → CellsDo (cells_verdict cs h (entry_verdict h d o x q)) (with_place_cells cs h (holding d o x q)) cs r cs'
      → (r ≡ entry_verdict h d o x q) × Holds cs' (entered b h d o x q)
  entered_holds h d o x q r cs' = does_hold (entry_verdict h d o x q) h (holding d o x q) r cs' (entry_hour h d o x q)

  pub removed_holds : (h : ℕ) (r : Verdict) (cs' : List ℕ)
      → CellsDo (cells_verdict cs h (slot_verdict h)) (with_place_cells cs h blank) cs r cs'
      → (r ≡ slot_verdict h) × Holds cs' (removed b h)
  removed_holds h r cs' = does_hold (slot_verdict h) h blank r cs' (fine_hour h)

-- ---- any sequence of calls: `Done cs c cs'` says that the call c was made on the cells cs and left cs'
abbrev pub Done : List ℕ → Call → List ℕ → Type 0
Done cs (Call.enter h d o x q) cs' =
    (r : Verdict) × CellsDo (cells_verdict cs h (entry_verdict h d o x q)) (with_place_cells cs h (holding d o x q)) cs r
    cs'
Done cs (Call.remove h) cs' =
    (r : Verdict) × CellsDo (cells_verdict cs h (slot_verdict h)) (with_place_cells cs h blank) cs r cs'

abbrev pub Ran : List ℕ → List Call → List ℕ → Type 0
Ran cs [] end = cs ≡ end
Ran cs (c ∷ calls) end = (mid : List ℕ) × (Done cs c mid × Ran mid calls end)

done_holds : (cs cs' : List ℕ) (b : Book) (c : Call) → Kept b → Holds cs b → Done cs c cs' → Holds cs' (called b c)
unfolding called
done_holds cs cs' b (Call.enter h d o x q) k w e = (entered_holds cs b k w h d o x q e.0 cs' e.1).1
done_holds cs cs' b (Call.remove h) k w e = (removed_holds cs b k w h e.0 cs' e.1).1

ran_holds : (calls : List Call) (cs end : List ℕ) (b : Book)
    → Ran cs calls end
    → Kept b
    → Holds cs b
    → Holds end (after b calls)
unfolding after
ran_holds [] cs end b e k w = subst (λ (m : List ℕ). Holds m b) e w
ran_holds (c ∷ calls) cs end b (mid, (d, r)) k w =
    ran_holds calls mid end (called b c) r (called_kept b c k) (done_holds cs mid b c k w d)

module _ (l cs end : List ℕ) (calls : List Call) (emptied : Emptied l (Ok tt) cs) (ran : Ran cs calls end) where
  -- the cells are those of the book that the same calls leave
  pub cells_hold : Holds end (after empty_book calls)
  cells_hold = ran_holds calls cs end empty_book ran empty_kept (emptied_holds l cs emptied)

  -- and the totals are what a fresh sum over the places gives
  pub cells_true : HoldsTotals end (fresh (after empty_book calls).places)
  cells_true = subst (HoldsTotals end) (totals_true calls) cells_hold.totals

-- ---- one outcome
pub cells_unique : (v : Verdict) (new before x y : List ℕ) (q r : Verdict)
    → CellsDo v new before q x
    → CellsDo v new before r y
    → (q ≡ r) × (x ≡ y)
cells_unique v new before x y q r d e = (d.answer ∙ sym e.answer, d.left ∙ sym e.left)

pub emptied_unique : (before x y : List ℕ) (q r : Verdict) → Emptied before q x → Emptied before r y → (q ≡ r) × (x ≡ y)
emptied_unique before x y q r d e = (d.answer ∙ sym e.answer, filled_unique 0 _ _ _ _ _ d.zeros e.zeros)
