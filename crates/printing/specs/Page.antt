-- Document 01, 'One hour in full': the page of an hour, byte by byte. Assumes nothing.
use Rattle.std.specs.Prelude.{Result, Ok, Err}
use Rattle.refusals.specs.declared.Refusal.{Refusal}
use Rattle.std.specs.Prelude.{ℕ, ◌+◌, ◌*◌, ◌≡◌, cond, ◌&&◌, List, [], ◌∷◌, ◌++◌, ℤ, pos, length, get_or, leb, eqb}
use Rattle.sums.specs.Lists.{at, Filled}
use Rattle.refusals.specs.Refusals.{bad_layout, no_room, refused_unless, first_of, cells}
use Rattle.refusals.specs.Refusals.{Verdict}
use Rattle.limits.specs.Limits.{most_agents}
use Rattle.hour.specs.declared.Summary.{Summary}
use Rattle.printing.specs.Text.{decimal, signed, spaced, lines_to}

-- `hour ` and `refused `
abbrev pub hour_word : List ℕ
hour_word = 104 ∷ 111 ∷ 117 ∷ 114 ∷ 32 ∷ []

abbrev pub refused_word : List ℕ
refused_word = 114 ∷ 101 ∷ 102 ∷ 117 ∷ 115 ∷ 101 ∷ 100 ∷ 32 ∷ []

-- the numbers of agent a's line before its money: number, kind, then own energy, generator import, contracted, bought and sold,
-- which are the last five of its six figures
abbrev pub line_numbers : (kinds figures : List ℕ) → ℕ → List ℕ
line_numbers kinds figures a =
    a ∷ at kinds a ∷ at figures (6 * a + 1) ∷ at figures (6 * a + 2) ∷ at figures (6 * a + 3) ∷ at figures (6 * a + 4)
    ∷ at figures (6 * a + 5)
    ∷ []

-- one line an agent
unfoldable pub line_of : (kinds figures : List ℕ) (money : List ℤ) → ℕ → List ℕ → List ℕ
line_of kinds figures money a rest = spaced (line_numbers kinds figures a) (signed (get_or money a (pos 0)) (10 ∷ rest))

-- first line: `hour`, price, demand, losses
unfoldable pub hour_text : Summary → (kinds figures : List ℕ) (money : List ℤ) → List ℕ
hour_text r kinds figures money =
    hour_word
    ++ spaced (r.price ∷ r.demand ∷ []) (decimal r.losses (10 ∷ lines_to (line_of kinds figures money) (length kinds) []))

-- a refusal prints only `refused`, number, place
unfoldable pub refused_text : Summary → List ℕ
refused_text r = refused_word ++ spaced (r.number ∷ []) (decimal r.place (10 ∷ []))

unfoldable pub page_of : Summary → (kinds figures : List ℕ) (money : List ℤ) → List ℕ
page_of r kinds figures money = cond (eqb r.number 0) (hour_text r kinds figures money) (refused_text r)

-- ---- printing into a lent buffer: refusal 2 for lists that are not those of the agents of a sheet, 11 where the buffer is too short
unfoldable pub print_verdict : (kinds figures : List ℕ) (money : List ℤ) → (size room : ℕ) → Verdict
print_verdict kinds figures money size room =
    first_of (refused_unless
    (leb (length kinds) most_agents && leb (6 * length kinds) (length figures) && leb (length kinds) (length money))
    bad_layout
    0
    ∷ refused_unless (leb size room) no_room 0
    ∷ [])

abbrev pub printed : Verdict → ℕ → Result ℕ Refusal
printed (Ok tt) n = Ok n
printed (Err r) n = Err r

-- the bytes of `text` at the front of a lent buffer where the verdict is fine; a refusal writes nothing
pub record Prints (v : Verdict) (text before : List ℕ) (r : Result ℕ Refusal) (after : List ℕ) : Type 0 where
  pub answer : r ≡ printed v (length text)
  pub bytes : Filled 0 before after (cells v (length text)) (at text)
