-- The text of an accepted sheet, read, gives the sheet's numbers: each row is one line, which adds its numbers to its own section and
-- nothing to another, and no line is wrong, since the sheet's counts are within their limits. Assumes nothing.
use Rattle.std.specs.Prelude.{None, is_some}
use Prim.Native.Nat.{ℕ, zero, suc, ◌+◌, ◌≤◌}
use mathlib.Core.Path.{◌≡◌, refl, ap, ap₂, sym, ◌∙◌}
use mathlib.Core.Bool.{Bool, true, false}
use mathlib.Core.List.{List, [], ◌++◌, append_assoc, append-nil}
use native.Mathlib.Omega.{arith}
use borrow.Author.Tests.{le-leb}
use lib.Dec.{eqb, leb}
use lib.ListN.{length, take, drop}
use lib.Seq.{sets-eq, take_at}
use Rattle.sums.specs.Sums.{pick}
use Rattle.octets.specs.Bytes.{words_at}
use Rattle.octets.specs.declared.Words.{Words}
use Rattle.octets.proofs.Trip.{Narrow, Bytes, row_narrow}
use Rattle.sheet.specs.Asking.{rows_in, rows_before}
use Rattle.sheet.specs.declared.Counts.{Counts}
use Rattle.text.specs.Lines.{empty_line, lines, over, word_of, read_line, line_fault}
use Rattle.text.specs.Written.{joined}
use Rattle.text.specs.declared.Line.{Line}
use Rattle.text.proofs.Back.{Known, AllFit, row_line, line_back, line_right, agent_known, boundary_known, plant_known, contract_known}
use Rattle.text.proofs.Walks.{walked, over_rows}
use Rattle.typing.specs.Rows.{wants, sheet_fault, counted_in, within_rooms, scan_row, scan_line, gather_line}
use Rattle.typing.specs.Text.{word_for, row_typed, row_of_sheet, section_text}
use Rattle.typing.specs.declared.Scan.{Scan}
use Rattle.typing.proofs.Gathering.{wants_few, gather_take, gather_skip}
use Rattle.typing.proofs.Rows.{rows_to}

-- what is known of a section's rows as text
pub record Section (k : ℕ) : Type 0 where
  pub known : Known (word_for k)
  pub is : word_of (word_for k) ≡ k
  pub four : k ≤ 4
  pub wide : (w : Words) → length (row_typed k w) ≡ wants k
  pub fit : (w : Words) → Narrow w → AllFit (row_typed k w)

pub agent_section : Section 1
unfolding word_for word_of row_typed wants
agent_section = record { known = agent_known; is = refl; four = omega arith; wide = λ w. refl; fit = λ w n. (n.first, tt) }

pub boundary_section : Section 2
unfolding word_for word_of row_typed wants
boundary_section =
    record {
      known = boundary_known;
      is = refl;
      four = omega arith;
      wide = λ w. refl;
      fit = λ w n. (omega (arith, n.first), (omega (arith, n.first), (n.third, (n.fourth, tt))));
    }

pub plant_section : Section 3
unfolding word_for word_of row_typed wants
plant_section =
    record {
      known = plant_known;
      is = refl;
      four = omega arith;
      wide = λ w. refl;
      fit = λ w n. (omega (arith, n.first), (omega (arith, n.first), (n.second, (n.third, (n.fourth, tt)))));
    }

pub contract_section : Section 4
unfolding word_for word_of row_typed wants
contract_section =
    record {
      known = contract_known;
      is = refl;
      four = omega arith;
      wide = λ w. refl;
      fit = λ w n. (omega (arith, n.first), (omega (arith, n.first), (n.second, (n.third, (n.fourth, tt)))));
    }

-- ---- rows more of section k
abbrev pub added : (k n : ℕ) → Counts → Counts
added k n c =
    record {
      agents = c.agents + pick (eqb k 1) n;
      boundaries = c.boundaries + pick (eqb k 2) n;
      plants = c.plants + pick (eqb k 3) n;
      contracts = c.contracts + pick (eqb k 4) n;
    }

pick_more : (t : Bool) (x n : ℕ) → x + pick t n + pick t 1 ≡ x + pick t (suc n)
unfolding pick
pick_more true x n = omega arith
pick_more false x n = omega arith

pick_none : (t : Bool) (x : ℕ) → x + pick t 0 ≡ x
unfolding pick
pick_none true x = omega arith
pick_none false x = omega arith

added_more : (k n : ℕ) (c : Counts) → counted_in (added k n c) k ≡ added k (suc n) c
unfolding counted_in
added_more k n c =
    rw (
      pick_more (eqb k 1) c.agents n,
      pick_more (eqb k 2) c.boundaries n,
      pick_more (eqb k 3) c.plants n,
      pick_more (eqb k 4) c.contracts n,
    )

added_none : (k : ℕ) (c : Counts) → c ≡ added k 0 c
added_none k c =
    rw (
      pick_none (eqb k 1) c.agents,
      pick_none (eqb k 2) c.boundaries,
      pick_none (eqb k 3) c.plants,
      pick_none (eqb k 4) c.contracts,
    )

-- no line was wrong, and these rows were counted
pub record Going (j : Scan) (c : Counts) : Type 0 where
  pub fine : j.fault ≡ None
  pub counts : j.counts ≡ c

-- ---- a section of a sheet's text
module _ (s : List ℕ) (by : Bytes s) (c : Counts) (k : ℕ) (S : Section k) where
  abbrev row : ℕ → List ℕ
  row i = row_of_sheet s c k i

  abbrev line : ℕ → List ℕ
  line i = word_for k ++ joined (row i) []

  row_wide : (i : ℕ) → length (row i) ≡ wants k
  row_wide i = S.wide (words_at s (rows_before c k + i))

  row_read_lem : (i : ℕ) → read_line (line i) ≡ row_line (word_for k) (row i)
  row_read_lem i =
      let f = wants_few k in
      let w = row_wide i in
      line_back (word_for k) (row i) S.known (omega (arith, f, w))
      (S.fit (words_at s (rows_before c k + i)) (row_narrow s by (rows_before c k + i)))

  row_word : (i : ℕ) → (read_line (line i)).word ≡ k
  row_word i = ap (λ (l : Line). l.word) (row_read_lem i) ∙ S.is

  row_numbers : (i : ℕ) → take (wants k) (read_line (line i)).numbers ≡ row i
  row_numbers i =
      let f = wants_few k in
      let w = row_wide i in
      ap (λ (l : Line). take (wants k) l.numbers) (row_read_lem i)
      ∙ ap (take (wants k)) (sets-eq (row i) empty_line.numbers 0 (omega (arith, f, w)))
      ∙ take_at (row i) (drop (0 + length (row i)) empty_line.numbers) (wants k) w

  -- its rows go into its own list,
  walk_own : (n : ℕ) (ns : List ℕ) → walked (gather_line k) (word_for k) S.known row n ns ≡ ns ++ rows_to row n
  unfolding walked rows_to
  walk_own zero ns = sym (append-nil ns)
  walk_own (suc n) ns =
      ap (λ (l : List ℕ). gather_line k l (line n)) (walk_own n ns)
      ∙ gather_take k (ns ++ rows_to row n) (line n) (row_word n)
      ∙ ap (λ (l : List ℕ). ns ++ rows_to row n ++ l) (row_numbers n)
      ∙ append_assoc ns (rows_to row n) (row n)

  pub own : (ns rest : List ℕ)
      → over (gather_line k) ns (lines (section_text s c k rest)) ≡ over (gather_line k) (ns ++ rows_to row (rows_in c k)) (lines rest)
  own ns rest =
      over_rows (gather_line k) (word_for k) S.known row (rows_in c k) ns rest
      ∙ ap (λ (l : List ℕ). over (gather_line k) l (lines rest)) (walk_own (rows_in c k) ns)

  -- and into no other,
  walk_other : (m : ℕ) → (k ≡ m → ⊥) → (n : ℕ) (ns : List ℕ) → walked (gather_line m) (word_for k) S.known row n ns ≡ ns
  unfolding walked
  walk_other m h zero ns = refl
  walk_other m h (suc n) ns =
      ap (λ (l : List ℕ). gather_line m l (line n)) (walk_other m h n ns)
      ∙ gather_skip m ns (line n) (λ e. h (sym (row_word n) ∙ e))

  pub other : (m : ℕ) → (k ≡ m → ⊥) → (ns rest : List ℕ)
      → over (gather_line m) ns (lines (section_text s c k rest)) ≡ over (gather_line m) ns (lines rest)
  other m h ns rest =
      over_rows (gather_line m) (word_for k) S.known row (rows_in c k) ns rest
      ∙ ap (λ (l : List ℕ). over (gather_line m) l (lines rest)) (walk_other m h (rows_in c k) ns)

  -- and no line of it is wrong
  row_right : (i : ℕ) → sheet_fault (row_line (word_for k) (row i)) ≡ None
  unfolding sheet_fault
  row_right i =
      let l = row_line (word_for k) (row i) in
      ap₂ (λ (t : Bool) (n : ℕ). line_fault t n l) (ap (λ (w : ℕ). leb w 4) S.is ∙ le-leb k 4 S.four) (ap wants S.is)
      ∙ line_right (word_for k) (row i) (wants k) (row_wide i)

  scan_one : (m : Counts) (j : Scan) (d : Counts) (i : ℕ) → Going j d → within_rooms (counted_in d k) m ≡ true
      → Going (scan_line m j (line i)) (counted_in d k)
  unfolding scan_line scan_row
  scan_one m j d i g h =
      rw (g.fine, row_read_lem i, row_right i, S.is, g.counts, h) (record { fine = refl; counts = refl })

  walk_scan : (m : Counts) (j : Scan) (d : Counts) (n : ℕ) → Going j d → ((i : ℕ) → i ≤ n → within_rooms (added k i d) m ≡ true)
      → Going (walked (scan_line m) (word_for k) S.known row n j) (added k n d)
  unfolding walked
  walk_scan m j d zero g h = rw (← (added_none k d)) g
  walk_scan m j d (suc n) g h =
      let e = added_more k n d in
      rw (← e) (scan_one m (walked (scan_line m) (word_for k) S.known row n j) (added k n d) n
      (walk_scan m j d n g (λ i l. h i (omega arith))) (rw e (h (suc n) (omega arith))))

  -- so a text is right behind it where what follows is right
  pub scan_section : (m : Counts) (j : Scan) (d : Counts) (rest : List ℕ) → Going j d
      → ((i : ℕ) → i ≤ rows_in c k → within_rooms (added k i d) m ≡ true)
      → ((q : Scan) → Going q (added k (rows_in c k) d) → is_some (over (scan_line m) q (lines rest)).fault ≡ false)
      → is_some (over (scan_line m) j (lines (section_text s c k rest))).fault ≡ false
  scan_section m j d rest g h next =
      ap (λ (q : Scan). is_some q.fault) (over_rows (scan_line m) (word_for k) S.known row (rows_in c k) j rest)
      ∙ next (walked (scan_line m) (word_for k) S.known row (rows_in c k) j) (walk_scan m j d (rows_in c k) g h)
