-- P8's promise: after any sequence of calls from an empty book, the totals are what a fresh sum over the places gives, and none
-- overflows 64 bits. One place changed changes one term of each sum, so a book stays one that came from the library's own calls.
-- Assumes nothing.
use Rattle.std.specs.Prelude.{None, Ok, Err}
use Prim.Native.Nat.{ℕ, ◌+◌, ◌-◌, ◌<◌, ◌^◌}
use native.Mathlib.Omega.{arith}
use native.Mathlib.Decide.{dec_lt, ℕ_discrete}
use mathlib.Core.Path.{◌≡◌, refl, sym, ap, subst, ◌∙◌}
use mathlib.Core.List.{List, [], ◌∷◌}
use lib.ListN.{length, set, length-set, length-replicate, get_or-replicate}
use lib.Seq.{get_or-set_same, get_or-set_other, set-get_or}
use borrow.Author.Tests.{lt-ltb, le-ltb}
use Rattle.sums.specs.Sums.{sum}
use Rattle.sums.proofs.Sums.{sum_term, sum_turned, sum_zero}
use Rattle.refusals.specs.Refusals.{Verdict}
use Rattle.book.specs.declared.Hour.{Hour}
use Rattle.book.specs.declared.Totals.{Totals}
use Rattle.book.specs.declared.Book.{Book}
use Rattle.book.specs.Book.{hours, Place, blank, counted, place_at, money_bought, fresh, empty_book, moved}
use Rattle.book.specs.Book.{with_place, slot_verdict, entry_verdict, unless_refused, entered, removed, Does, Proper, Kept}
use Rattle.book.specs.Calls.{Call, called, after}
use Rattle.book.proofs.Laws.{proper_blank, fine_hour, entry_hour, entry_proper, kept_carries}

-- a promise is kept in one way
pub does_unique : (v : Verdict) (b : Book) (r r' : Verdict) (c c' : Book)
    → Does v b r c
    → Does v b r' c'
    → (r ≡ r') × (c ≡ c')
does_unique v b r r' c c' d d' = (d.answer ∙ sym d'.answer, d.left ∙ sym d'.left)

abbrev totals : (demand losses bought money : ℕ) → Totals
totals demand losses bought money = record { demand = demand; losses = losses; bought = bought; money = money }

same_totals : {a b c d a' b' c' d' : ℕ} → a ≡ a' → b ≡ b' → c ≡ c' → d ≡ d' → totals a b c d ≡ totals a' b' c' d'
same_totals e f g h = rw (e, f, g, h)

none : (f : Hour → ℕ) → f (counted blank) ≡ 0 → 0 ≡ sum hours (λ i. f (counted (place_at empty_book.places i)))
none f e =
    sym (sum_zero hours (λ i. f (counted (place_at empty_book.places i)))
    (λ i l. ap (λ p. f (counted p)) (get_or-replicate hours i blank blank l) ∙ e))

pub empty_kept : Kept empty_book
empty_kept = record {
  long = length-replicate hours blank;
  proper = λ h l. subst Proper (sym (get_or-replicate hours h blank blank l)) proper_blank;
  true_totals =
      same_totals (none (λ x. x.demand) refl) (none (λ x. x.losses) refl) (none (λ x. x.bought) refl)
      (none money_bought (omega arith));
}

-- ---- one place changed
module _ (b : Book) (k : Kept b) (h : ℕ) (p : Place) (l : h < hours) (w : Proper p) where
  abbrev places : List Place
  places = set b.places h p

  within : h < length b.places
  within = let e = k.long in omega arith

  here : place_at places h ≡ p
  here = get_or-set_same b.places h p blank within

  elsewhere : (i : ℕ) → (i ≡ h → ⊥) → place_at places i ≡ place_at b.places i
  elsewhere i n = get_or-set_other b.places h i p blank n

  proper : (i : ℕ) → i < hours → Proper (place_at places i)
  proper i m = go (ℕ_discrete i h)
    where
      go : Dec (i ≡ h) → Proper (place_at places i)
      go (yes e) = rw e (subst Proper (sym here) w)
      go (no n) = subst Proper (sym (elsewhere i n)) (k.proper i m)

  -- one column's total, brought up to date
  column : (f : Hour → ℕ) (t : ℕ)
      → t ≡ sum hours (λ i. f (counted (place_at b.places i)))
      → t - f (counted (place_at b.places h)) + f (counted p) ≡ sum hours (λ i. f (counted (place_at places i)))
  column f t e =
      let turned =
      sum_turned hours h (λ i. f (counted (place_at b.places i))) (λ i. f (counted (place_at places i))) l
      (λ i n. ap (λ q. f (counted q)) (elsewhere i n)) in
      let held = sum_term hours h (λ i. f (counted (place_at b.places i))) l in
      let at_h = ap (λ q. f (counted q)) here in
      omega arith

  pub place_kept : Kept (with_place b h p)
  place_kept = record {
    long = length-set b.places h p ∙ k.long;
    proper = proper;
    true_totals = same_totals
        (column (λ x. x.demand) b.totals.demand (ap (λ (t : Totals). t.demand) k.true_totals))
        (column (λ x. x.losses) b.totals.losses (ap (λ (t : Totals). t.losses) k.true_totals))
        (column (λ x. x.bought) b.totals.bought (ap (λ (t : Totals). t.bought) k.true_totals))
        (column money_bought b.totals.money (ap (λ (t : Totals). t.money) k.true_totals));
  }

-- ---- calls
unless_kept : (v : Verdict) (b c : Book) → Kept b → (v ≡ Ok tt → Kept c) → Kept (unless_refused v b c)
unless_kept (Ok tt) b c k f = f refl
unless_kept (Err r) b c k f = k

module _ (b : Book) (k : Kept b) where
  enter_kept : (h d l x p : ℕ) → Kept (entered b h d l x p)
  enter_kept h d l x p =
      unless_kept (entry_verdict h d l x p) b _ k
      (λ e. place_kept b k h _ (entry_hour h d l x p e) (entry_proper h d l x p e))

  remove_kept : (h : ℕ) → Kept (removed b h)
  remove_kept h = unless_kept (slot_verdict h) b _ k (λ e. place_kept b k h blank (fine_hour h e) proper_blank)

  -- for whoever made a call, and has its promise
  pub entered_kept : (h d l x p : ℕ) {r : Verdict} {c : Book}
      → Does (entry_verdict h d l x p) (entered b h d l x p) r c
      → Kept c
  entered_kept h d l x p does = subst Kept (sym does.left) (enter_kept h d l x p)

  pub removed_kept : (h : ℕ) {r : Verdict} {c : Book} → Does (slot_verdict h) (removed b h) r c → Kept c
  removed_kept h does = subst Kept (sym does.left) (remove_kept h)

pub called_kept : (b : Book) (c : Call) → Kept b → Kept (called b c)
unfolding called
called_kept b (Call.enter h d l x p) k = enter_kept b k h d l x p
called_kept b (Call.remove h) k = remove_kept b k h

pub after_kept : (cs : List Call) (b : Book) → Kept b → Kept (after b cs)
unfolding after
after_kept [] b k = k
after_kept (c ∷ cs) b k = after_kept cs (called b c) (called_kept b c k)

-- ---- what the desk's screen may rely on
pub totals_true : (cs : List Call) → (after empty_book cs).totals ≡ fresh (after empty_book cs).places
totals_true cs = (after_kept cs empty_book empty_kept).true_totals

pub record Bounded (t : Totals) : Type 0 where
  pub demand : t.demand < 2 ^ 64
  pub losses : t.losses < 2 ^ 64
  pub bought : t.bought < 2 ^ 64
  pub money : t.money < 2 ^ 64

pub totals_bounded : (cs : List Call) → Bounded (after empty_book cs).totals
totals_bounded cs =
    let b = after empty_book cs in
    let c = kept_carries b (after_kept cs empty_book empty_kept) 0 (omega arith) in
    record {
      demand = omega (arith, c.demand.within);
      losses = omega (arith, c.losses.within);
      bought = omega (arith, c.bought.within);
      money = omega (arith, c.money.within);
    }

-- removing an empty place changes nothing
pub empty_removed : (b : Book) (h : ℕ) → place_at b.places h ≡ None → removed b h ≡ b
empty_removed b h e = go (dec_lt h hours)
  where
    still : (t : Totals) → moved t (counted blank) (counted blank) ≡ t
    still t = same_totals (omega arith) (omega arith) (omega arith) (omega arith)

    go : Dec (h < hours) → removed b h ≡ b
    go (yes l) =
        let same = ap (set b.places h) (sym e) ∙ set-get_or b.places h blank in
        let sums = ap (λ (p : Place). moved b.totals (counted p) (counted blank)) e ∙ still b.totals in
        rw (lt-ltb h hours l) (rw (same, sums))
    go (no n) = rw (le-ltb h hours (omega arith))
