-- The statement of the worked hour, byte by byte, and that of an empty hour, as one statement over a table. Assumes nothing.
use Prim.Native.Nat.{ℕ}
use mathlib.Core.List.{List, [], ◌∷◌, map}
use mathlib.Core.Path.{◌≡◌, refl}
use lib.IntN.{pos, negsuc}
use Rattle.sheet.specs.declared.Counts.{Counts}
use Rattle.hour.specs.Answer.{Lent, lent}
use Rattle.printing.specs.Text.{spell, minus, signed, lines_to}
use Rattle.text.specs.Written.{joined, row_text}
use Rattle.telling.specs.Text.{agent_line, statement_text}

pub record Case : Type 0 where
  pub counts : Counts
  pub price : ℕ
  pub lists : Lent

pub text : Case → List ℕ
text k = statement_text k.counts k.price k.lists

abbrev counts : (agents boundaries plants contracts : ℕ) → Counts
counts a b p k = record { agents = a; boundaries = b; plants = p; contracts = k }

pub cases : List Case
cases =
    record {
      counts = counts 4 4 3 4;
      price = 8000;
      lists =
          lent
          (0 ∷ 700 ∷ 0 ∷ 444 ∷ 0 ∷ 256 ∷ 32 ∷ 532 ∷ 0 ∷ 532 ∷ 0 ∷ 0 ∷ 28 ∷ 468 ∷ 0 ∷ 500 ∷ 0 ∷ 32 ∷ 0 ∷ 310 ∷ 10 ∷ 588 ∷ 288 ∷ 0 ∷ [])
          (pos 2048000 ∷ pos 0 ∷ pos 256000 ∷ negsuc 2303999 ∷ [])
          (700 ∷ 310 ∷ 0 ∷ [])
          (400 ∷ 88 ∷ 44 ∷ 500 ∷ []);
    }
    ∷ record { counts = counts 0 0 0 0; price = 0; lists = lent [] [] [] [] }
    ∷ []

-- the bytes of `price 8000`, four agents, three plants, four contracts; and of `price 0`
abbrev statements : List (List ℕ)
statements =
    (112 ∷ 114 ∷ 105 ∷ 99 ∷ 101 ∷ 32 ∷ 56 ∷ 48 ∷ 48 ∷ 48 ∷ 10 ∷ 97 ∷ 103 ∷ 101 ∷ 110 ∷ 116 ∷ 32 ∷ 48 ∷ 32 ∷ 48 ∷ 32
    ∷ 55 ∷ 48 ∷ 48 ∷ 32 ∷ 48 ∷ 32 ∷ 52 ∷ 52 ∷ 52 ∷ 32 ∷ 48 ∷ 32 ∷ 50 ∷ 53 ∷ 54 ∷ 32 ∷ 50 ∷ 48 ∷ 52 ∷ 56 ∷ 48 ∷ 48
    ∷ 48 ∷ 10 ∷ 97 ∷ 103 ∷ 101 ∷ 110 ∷ 116 ∷ 32 ∷ 49 ∷ 32 ∷ 51 ∷ 50 ∷ 32 ∷ 53 ∷ 51 ∷ 50 ∷ 32 ∷ 48 ∷ 32 ∷ 53 ∷ 51
    ∷ 50 ∷ 32 ∷ 48 ∷ 32 ∷ 48 ∷ 32 ∷ 48 ∷ 10 ∷ 97 ∷ 103 ∷ 101 ∷ 110 ∷ 116 ∷ 32 ∷ 50 ∷ 32 ∷ 50 ∷ 56 ∷ 32 ∷ 52 ∷ 54
    ∷ 56 ∷ 32 ∷ 48 ∷ 32 ∷ 53 ∷ 48 ∷ 48 ∷ 32 ∷ 48 ∷ 32 ∷ 51 ∷ 50 ∷ 32 ∷ 50 ∷ 53 ∷ 54 ∷ 48 ∷ 48 ∷ 48 ∷ 10 ∷ 97 ∷ 103
    ∷ 101 ∷ 110 ∷ 116 ∷ 32 ∷ 51 ∷ 32 ∷ 48 ∷ 32 ∷ 51 ∷ 49 ∷ 48 ∷ 32 ∷ 49 ∷ 48 ∷ 32 ∷ 53 ∷ 56 ∷ 56 ∷ 32 ∷ 50 ∷ 56 ∷ 56
    ∷ 32 ∷ 48 ∷ 32 ∷ 45 ∷ 50 ∷ 51 ∷ 48 ∷ 52 ∷ 48 ∷ 48 ∷ 48 ∷ 10 ∷ 112 ∷ 108 ∷ 97 ∷ 110 ∷ 116 ∷ 32 ∷ 48 ∷ 32 ∷ 55
    ∷ 48 ∷ 48 ∷ 10 ∷ 112 ∷ 108 ∷ 97 ∷ 110 ∷ 116 ∷ 32 ∷ 49 ∷ 32 ∷ 51 ∷ 49 ∷ 48 ∷ 10 ∷ 112 ∷ 108 ∷ 97 ∷ 110 ∷ 116 ∷ 32
    ∷ 50 ∷ 32 ∷ 48 ∷ 10 ∷ 99 ∷ 111 ∷ 110 ∷ 116 ∷ 114 ∷ 97 ∷ 99 ∷ 116 ∷ 32 ∷ 48 ∷ 32 ∷ 52 ∷ 48 ∷ 48 ∷ 10 ∷ 99 ∷ 111
    ∷ 110 ∷ 116 ∷ 114 ∷ 97 ∷ 99 ∷ 116 ∷ 32 ∷ 49 ∷ 32 ∷ 56 ∷ 56 ∷ 10 ∷ 99 ∷ 111 ∷ 110 ∷ 116 ∷ 114 ∷ 97 ∷ 99 ∷ 116
    ∷ 32 ∷ 50 ∷ 32 ∷ 52 ∷ 52 ∷ 10 ∷ 99 ∷ 111 ∷ 110 ∷ 116 ∷ 114 ∷ 97 ∷ 99 ∷ 116 ∷ 32 ∷ 51 ∷ 32 ∷ 53 ∷ 48 ∷ 48 ∷ 10
    ∷ [])
    ∷ (112 ∷ 114 ∷ 105 ∷ 99 ∷ 101 ∷ 32 ∷ 48 ∷ 10 ∷ [])
    ∷ []

pub cases_hold : map text cases ≡ statements
unfolding text cases spell minus signed lines_to joined row_text agent_line statement_text
cases_hold = refl
