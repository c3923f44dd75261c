-- One row more in each pass over the rows of all retailers: its buyer's account changes, the others stay. Assumes nothing.
use Prim.Native.Nat.{ℕ, zero, suc, ◌+◌, ◌-◌, ◌≤◌, ◌<◌}
use native.Mathlib.Decide.{ℕ_discrete}
use native.Mathlib.Omega.{arith}
use mathlib.Core.Bool.{Bool, true, false, ◌&&◌, and-true}
use mathlib.Core.List.{List}
use mathlib.Core.Path.{◌≡◌, refl, ap, ap₂, ◌∙◌, sym}
use lib.ListN.{length, set, get_or, replicate, length-set, length-replicate, get_or-replicate}
use lib.Seq.{get_or-set_same, get_or-set_other}
use Rattle.limits.specs.Limits.{most_agents}
use Rattle.limits.specs.declared.Contract.{Contract}
use Rattle.sums.specs.Sums.{pick}
use Rattle.sums.specs.Lists.{at}
use Rattle.sums.proofs.Lists.{get_d_list_to}
use Rattle.sums.proofs.Picks.{pick_eq, pick_ne}
use Rattle.deals.specs.Deals.{kind, price, quantity, demanded}
use Rattle.deals.specs.Hour.{Rows}
use Rattle.statement.specs.Quick.{shape_good}
use Rattle.statement.specs.Hour.{only_of, emptied}
use Rattle.checking.specs.Passes.{above, Looked, Added}
use lib.Dec.{ltb, eqb}
use Rattle.deals.specs.Deals.{fixed, conditional, count}
use Rattle.sums.proofs.Picks.{pick_zero}
use Rattle.sums.proofs.Lists.{length_list_to}
use Rattle.deals.specs.Hour.{own_of}
use Rattle.statement.specs.Decide.{every, good}
use Rattle.statement.specs.Quick.{group_good}
use Rattle.statement.specs.Hour.{stated_of, hour_good}
use Rattle.statement.proofs.Emptied.{emptied_good}
use Rattle.checking.proofs.Together.{decided}
use Rattle.checking.specs.Accounts.{deal, rows_from, unseen, past_end, unsummed, SeenOf, AllSeen, SummedOf, AllSummed}
use Rattle.checking.specs.Accounts.{fine_of, AllFine, retailer_at}
use Rattle.checking.specs.declared.passes.Seen.{Seen}
use Rattle.checking.specs.declared.passes.Summed.{Summed}
use Rattle.checking.proofs.Loops.{seen_none, seen_more, seen_room, summed_none, summed_more, summed_room, every_none, every_step}

-- one account is put anew, the others are as they were
pub put_each : {A : Type 0} (d : A) (P : ℕ → A → Type 0) (all : List A) (b n : ℕ) (r : A) → b < length all → P b r
    → ((a : ℕ) → a < n → (a ≡ b → ⊥) → P a (get_or all a d)) → (a : ℕ) → a < n → P a (get_or (set all b r) a d)
put_each {A} d P all b n r l h k a la = go (ℕ_discrete a b)
  where
    go : Dec (a ≡ b) → P a (get_or (set all b r) a d)
    go (yes e) = rw (e, get_or-set_same all b r d l) h
    go (no e) = rw (get_or-set_other all b a r d e) (k a la e)

-- an emptied row changes nothing
looked_none : (v : Seen) (p : ℕ) → Looked v 0 p 0 0 v
unfolding shape_good pick
looked_none v p =
    record {
      good = sym (and-true v.good);
      reach = omega arith;
      depth = omega arith;
      top = omega arith;
      firm = omega arith;
      given = omega arith;
      asked = omega arith;
    }

-- ---- a row of agent a, and one of another
module _ (s : Rows) (xs : List ℕ) (a i : ℕ) (l : i < length s.buyers) where
  own_row : at s.buyers i ≡ a
      → (kind (emptied s a) i ≡ at s.kinds i) × (quantity (emptied s a) i ≡ at s.quantities i)
      × (only_of s.buyers a xs i ≡ at xs i)
  unfolding emptied only_of
  own_row e = (
    get_d_list_to 0 (only_of s.buyers a s.kinds) (length s.buyers) i l
        ∙ pick_eq (at s.buyers i) a (at s.kinds i) e,
    get_d_list_to 0 (only_of s.buyers a s.quantities) (length s.buyers) i l
        ∙ pick_eq (at s.buyers i) a (at s.quantities i) e,
    pick_eq (at s.buyers i) a (at xs i) e,
  )

  other_row : (at s.buyers i ≡ a → ⊥)
      → (kind (emptied s a) i ≡ 0) × (quantity (emptied s a) i ≡ 0) × (only_of s.buyers a xs i ≡ 0)
  unfolding emptied only_of
  other_row e = (
    get_d_list_to 0 (only_of s.buyers a s.kinds) (length s.buyers) i l
        ∙ pick_ne (at s.buyers i) a (at s.kinds i) e,
    get_d_list_to 0 (only_of s.buyers a s.quantities) (length s.buyers) i l
        ∙ pick_ne (at s.buyers i) a (at s.quantities i) e,
    pick_ne (at s.buyers i) a (at xs i) e,
  )

  price_row : price (emptied s a) i ≡ at s.prices i
  unfolding emptied
  price_row = refl

  own_looked : (v r : Seen)
      → at s.buyers i ≡ a
      → Looked v (at s.kinds i) (at s.prices i) (at s.quantities i) (at xs i) r
      → Looked v (kind (emptied s a) i) (price (emptied s a) i) (quantity (emptied s a) i) (only_of s.buyers a xs i) r
  own_looked v r e h = rw ((own_row e).0, (own_row e).1, (own_row e).2, price_row) h

  other_looked : (v : Seen)
      → (at s.buyers i ≡ a → ⊥)
      → Looked v (kind (emptied s a) i) (price (emptied s a) i) (quantity (emptied s a) i) (only_of s.buyers a xs i) v
  other_looked v e = rw ((other_row e).0, (other_row e).1, (other_row e).2) (looked_none v (price (emptied s a) i))

-- ---- first pass
pub all_unseen : (s : Rows) (xs : List ℕ) (all : List Seen) → all ≡ replicate most_agents unseen → AllSeen s xs 0 all
all_unseen s xs all e =
    record {
      long = ap length e ∙ length-replicate {A = Seen} most_agents unseen;
      each =
          λ a l. rw (e, get_or-replicate most_agents a unseen past_end l) (record {
            seen = seen_none (emptied s a) (only_of s.buyers a xs) unseen refl refl refl refl refl refl refl;
            firm = omega arith;
            given = omega arith;
            asked = omega arith;
          });
    }

pub all_seen_more : (s : Rows) (xs : List ℕ) (i b : ℕ) (all : List Seen) (r : Seen)
    → i < length s.buyers
    → b ≡ at s.buyers i
    → b < most_agents
    → at s.quantities i ≤ 4294967295 → at xs i ≤ 4294967295
    → Looked (get_or all b past_end) (at s.kinds i) (at s.prices i) (at s.quantities i) (at xs i) r
    → AllSeen s xs i all → AllSeen s xs (i + 1) (set all b r)
all_seen_more s xs i b all r l e lb hq hx h k =
    record {
      long = length-set all b r ∙ k.long;
      each =
          put_each past_end (SeenOf s xs (i + 1)) all b most_agents r (omega (arith, k.long)) own
          (λ a la ne. other a ne (k.each a la));
    }
  where
    own : SeenOf s xs (i + 1) b r
    own =
        let v = get_or all b past_end in
        let o = k.each b lb in
        let w = seen_room _ _ _ _ i v r h hq hx (o.firm, o.given, o.asked) in
        record {
          seen =
              seen_more (emptied s b) (only_of s.buyers b xs) i v r (own_looked s xs b i l v r (sym e) h) o.seen;
          firm = w.0;
          given = w.1;
          asked = w.2;
        }

    other : (a : ℕ) → (a ≡ b → ⊥) → SeenOf s xs i a (get_or all a past_end) → SeenOf s xs (i + 1) a (get_or all a past_end)
    other a ne o =
        let v = get_or all a past_end in
        record {
          seen =
              seen_more (emptied s a) (only_of s.buyers a xs) i v v
              (other_looked s xs a i l v (λ q. ne (sym (e ∙ q)))) o.seen;
          firm = omega (arith, o.firm);
          given = omega (arith, o.given);
          asked = omega (arith, o.asked);
        }

-- ---- second pass
added_none : (u w g : ℕ) (v : Summed) (p : ℕ) → Added u w g v 0 p 0 0 v
added_none u w g v p =
    record {
      ahead = omega (arith, pick_zero (ltb 0 demanded && ltb p u), pick_zero (eqb 0 conditional && eqb p u));
      largest = omega (arith, pick_zero (eqb 0 conditional && eqb p u));
      under =
          omega (
            arith,
            pick_zero (ltb 0 demanded && ltb p w),
            pick_zero (eqb 0 conditional && eqb p w),
            pick_zero (eqb 0 fixed && eqb p w),
          );
      cheaper = omega (arith, pick_zero (eqb 0 demanded && ltb p g));
      whole = omega (arith, pick_zero (eqb 0 demanded && eqb p g));
    }

pub all_unsummed : (s : Rows) (xs : List ℕ) (seen : List Seen) (all : List Summed)
    → all ≡ replicate most_agents unsummed
    → AllSummed s xs seen 0 all
all_unsummed s xs seen all e =
    record {
      long = ap length e ∙ length-replicate {A = Summed} most_agents unsummed;
      each = λ a l.
          rw (e, get_or-replicate most_agents a unsummed unsummed l)
          (record {
            summed = summed_none (emptied s a) (only_of s.buyers a xs) _ _ _ unsummed refl refl refl refl refl;
            ahead = omega arith;
            under = omega arith;
            cheaper = omega arith;
            whole = omega arith;
          });
    }

pub all_summed_more : (s : Rows) (xs : List ℕ) (seen : List Seen) (i b : ℕ) (all : List Summed) (r : Summed)
    → i < length s.buyers
    → b ≡ at s.buyers i
    → b < most_agents
    → at s.quantities i ≤ 4294967295 → at xs i ≤ 4294967295
    → Added ((get_or seen b past_end).reach - 1) (above - (get_or seen b past_end).depth) ((get_or seen b past_end).top - 1)
    (get_or all b unsummed) (at s.kinds i) (at s.prices i) (at s.quantities i) (at xs i) r
    → AllSummed s xs seen i all → AllSummed s xs seen (i + 1) (set all b r)
all_summed_more s xs seen i b all r l e lb hq hx h k =
    record {
      long = length-set all b r ∙ k.long;
      each =
          put_each unsummed (SummedOf s xs seen (i + 1)) all b most_agents r (omega (arith, k.long)) own
          (λ a la ne. other a ne (k.each a la));
    }
  where
    own : SummedOf s xs seen (i + 1) b r
    own =
        let v = get_or all b unsummed in
        let o = k.each b lb in
        let q = own_row s xs b i l (sym e) in
        let w = summed_room _ _ _ _ _ _ _ i v r h hq hx (o.ahead, o.under, o.cheaper, o.whole) in
        record {
          summed =
              summed_more (emptied s b) (only_of s.buyers b xs) _ _ _ i v r
              (rw (q.0, q.1, q.2, price_row s xs b i l) h) o.summed;
          ahead = w.0;
          under = w.1;
          cheaper = w.2;
          whole = w.3;
        }

    other : (a : ℕ)
        → (a ≡ b → ⊥)
        → SummedOf s xs seen i a (get_or all a unsummed)
        → SummedOf s xs seen (i + 1) a (get_or all a unsummed)
    other a ne o =
        let v = get_or all a unsummed in
        let q = other_row s xs a i l (λ z. ne (sym (e ∙ z))) in
        record {
          summed =
              summed_more (emptied s a) (only_of s.buyers a xs) _ _ _ i v v
              (rw (q.0, q.1, q.2) (added_none _ _ _ v (price (emptied s a) i))) o.summed;
          ahead = omega (arith, o.ahead);
          under = omega (arith, o.under);
          cheaper = omega (arith, o.cheaper);
          whole = omega (arith, o.whole);
        }

-- ---- third pass
group_none : (left g c t p : ℕ) → group_good left g c t 0 p 0 0 ≡ true
unfolding group_good
group_none left g c t p = refl

pub all_fine_none : (s : Rows) (xs ds : List ℕ) (seen : List Seen) (sums : List Summed) (all : List Bool)
    → all ≡ replicate most_agents true
    → AllFine s xs ds seen sums 0 all
all_fine_none s xs ds seen sums all e =
    record {
      long = ap length e ∙ length-replicate {A = Bool} most_agents true;
      each =
          λ a l. ap (λ (m : List Bool). get_or m a false) e ∙ get_or-replicate most_agents a true false l
          ∙ sym (every_none (fine_of s xs ds seen sums a));
    }

pub all_fine_more : (s : Rows) (xs ds : List ℕ) (seen : List Seen) (sums : List Summed) (i b : ℕ) (all : List Bool)
    (one : Bool)
    → i < length s.buyers
    → b ≡ at s.buyers i
    → b < most_agents
    → one ≡ group_good (at ds b - (get_or seen b past_end).firm) (get_or seen b past_end).top (get_or sums b unsummed).cheaper
    (get_or sums b unsummed).whole (at s.kinds i) (at s.prices i) (at s.quantities i) (at xs i)
    → AllFine s xs ds seen sums i all → AllFine s xs ds seen sums (i + 1) (set all b (get_or all b false && one))
all_fine_more s xs ds seen sums i b all one l e lb h k =
    record {
      long = length-set all b (get_or all b false && one) ∙ k.long;
      each =
          put_each false (λ a t. t ≡ every (i + 1) (fine_of s xs ds seen sums a)) all b most_agents (get_or all b false && one)
          (omega (arith, k.long)) own (λ a la ne. other a ne (k.each a la));
    }
  where
    own : (get_or all b false && one) ≡ every (i + 1) (fine_of s xs ds seen sums b)
    own =
        let q = own_row s xs b i l (sym e) in
        let o : one ≡ fine_of s xs ds seen sums b i = rw (q.0, q.1, q.2, price_row s xs b i l) h in
        ap₂ (λ (y z : Bool). y && z) (k.each b lb) o ∙ sym (every_step i (fine_of s xs ds seen sums b))

    other : (a : ℕ)
        → (a ≡ b → ⊥)
        → get_or all a false ≡ every i (fine_of s xs ds seen sums a)
        → get_or all a false ≡ every (i + 1) (fine_of s xs ds seen sums a)
    other a ne o =
        let q = other_row s xs a i l (λ z. ne (sym (e ∙ z))) in
        let t : fine_of s xs ds seen sums a i ≡ true = rw (q.0, q.1, q.2) (group_none _ _ _ _ _) in
        o ∙ sym (and-true (every i (fine_of s xs ds seen sums a)))
        ∙ ap (λ (y : Bool). every i (fine_of s xs ds seen sums a) && y) (sym t)
        ∙ sym (every_step i (fine_of s xs ds seen sums a))

-- ---- a row of a list of contracts
module _ (rs : List Contract) where
  pub rows_long : length (rows_from rs).buyers ≡ length rs
  unfolding rows_from
  rows_long = length_list_to (λ j. (deal rs j).buyer) (length rs)

  pub prices_are : (i : ℕ) → i < length rs → at (rows_from rs).prices i ≡ (deal rs i).price
  unfolding rows_from
  prices_are i l = get_d_list_to 0 (λ j. (deal rs j).price) (length rs) i l

  module _ (i : ℕ) (l : i < length rs) where
    pub row_is : (at (rows_from rs).buyers i ≡ (deal rs i).buyer) × (at (rows_from rs).kinds i ≡ (deal rs i).kind)
        × (at (rows_from rs).prices i ≡ (deal rs i).price) × (at (rows_from rs).quantities i ≡ (deal rs i).quantity)
    unfolding rows_from
    row_is = (
      get_d_list_to 0 (λ j. (deal rs j).buyer) (length rs) i l,
      get_d_list_to 0 (λ j. (deal rs j).kind) (length rs) i l,
      get_d_list_to 0 (λ j. (deal rs j).price) (length rs) i l,
      get_d_list_to 0 (λ j. (deal rs j).quantity) (length rs) i l,
    )

    module _ (xs : List ℕ) (lb : (deal rs i).buyer < most_agents) (hq : (deal rs i).quantity ≤ 4294967295) (hx : at xs i ≤ 4294967295)
      where
        abbrev b : ℕ
        b = (deal rs i).buyer

        pub seen_row : (all : List Seen) (r : Seen)
            → Looked (get_or all b past_end) (deal rs i).kind (deal rs i).price (deal rs i).quantity (at xs i) r
            → AllSeen (rows_from rs) xs i all → AllSeen (rows_from rs) xs (i + 1) (set all b r)
        seen_row all r h k =
            let w = row_is in
            all_seen_more (rows_from rs) xs i b all r (omega (arith, rows_long)) (sym w.0) lb (omega (arith, w.3)) hx
            (rw (w.1, w.2, w.3) h) k

        pub summed_row : (seen : List Seen) (all : List Summed) (r : Summed)
            → Added ((get_or seen b past_end).reach - 1) (above - (get_or seen b past_end).depth) ((get_or seen b past_end).top - 1)
            (get_or all b unsummed) (deal rs i).kind (deal rs i).price (deal rs i).quantity (at xs i) r
            → AllSummed (rows_from rs) xs seen i all → AllSummed (rows_from rs) xs seen (i + 1) (set all b r)
        summed_row seen all r h k =
            let w = row_is in
            all_summed_more (rows_from rs) xs seen i b all r (omega (arith, rows_long)) (sym w.0) lb (omega (arith, w.3)) hx
            (rw (w.1, w.2, w.3) h) k

        pub fine_row : (ds : List ℕ) (seen : List Seen) (sums : List Summed) (all : List Bool) (one : Bool)
            → one ≡ group_good (at ds b - (get_or seen b past_end).firm) (get_or seen b past_end).top (get_or sums b unsummed).cheaper
            (get_or sums b unsummed).whole (deal rs i).kind (deal rs i).price (deal rs i).quantity (at xs i)
            → AllFine (rows_from rs) xs ds seen sums i all
            → AllFine (rows_from rs) xs ds seen sums (i + 1) (set all b (get_or all b false && one))
        fine_row ds seen sums all one h k =
            let w = row_is in
            all_fine_more (rows_from rs) xs ds seen sums i b all one (omega (arith, rows_long)) (sym w.0) lb
            (rw (w.1, w.2, w.3) h) k

-- ---- all of it
price_at_lem : (s : Rows) (a i : ℕ) → price (emptied s a) i ≡ at s.prices i
unfolding emptied
price_at_lem s a i = refl

pub every_eq : (n : ℕ) (t u : ℕ → Bool) → ((i : ℕ) → i < n → t i ≡ u i) → every n t ≡ every n u
unfolding every
every_eq zero t u h = refl
every_eq (suc n) t u h = rw (every_eq n t u (λ i l. h i (omega arith)), h n (omega arith))

module _ (s : Rows) (xs ds : List ℕ) (seen : List Seen) (sums : List Summed) (fine : List Bool) (m : ℕ)
    (long : length s.buyers ≡ m) (few : length ds ≤ most_agents)
    (small : (i : ℕ) → i < m → at s.prices i < above)
    (f : AllSeen s xs m seen) (g : AllSummed s xs seen m sums) (h : AllFine s xs ds seen sums m fine) where
  emptied_long : (a : ℕ) → m ≡ count (emptied s a)
  unfolding emptied
  emptied_long a = sym long ∙ sym (length_list_to (only_of s.buyers a s.quantities) (length s.buyers))

  agent_good_lem : (a : ℕ) → a < length ds → retailer_at seen sums fine ds a ≡ good (own_of s a) (at ds a) (stated_of s xs a)
  agent_good_lem a l =
      let k : a < most_agents = omega arith in
      let e = emptied_long a in
      decided (emptied s a) (at ds a) (only_of s.buyers a xs) (get_or seen a past_end) (rw e at (f.each a k).seen) _
      refl _ _ _ (get_or sums a unsummed) (rw e at (g.each a k).summed) refl refl refl
      (λ i li. rw (price_at_lem s a i) (small i (omega arith)))
      (get_or fine a false) (rw e at (h.each a k))
      ∙ emptied_good s xs a (at ds a)

  pub hour_good_lem : every (length ds) (retailer_at seen sums fine ds) ≡ hour_good s ds xs
  unfolding hour_good
  hour_good_lem = every_eq (length ds) _ _ agent_good_lem
