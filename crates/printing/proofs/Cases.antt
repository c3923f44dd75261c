-- Document 01's page of the worked hour, a refusal and the empty hour, as one statement over a table. Assumes nothing.
use Prim.Native.Nat.{ℕ}
use mathlib.Core.List.{List, [], ◌∷◌, map}
use mathlib.Core.Path.{◌≡◌, refl}
use lib.IntN.{ℤ, pos, negsuc}
use Rattle.hour.specs.declared.Summary.{Summary}
use Rattle.printing.specs.Text.{spell, minus, signed, spaced, lines_to}
use Rattle.printing.specs.Page.{line_of, hour_text, refused_text, page_of}

pub record Case : Type 0 where
  pub summary : Summary
  pub kinds : List ℕ
  pub figures : List ℕ
  pub money : List ℤ

pub text : Case → List ℕ
text k = page_of k.summary k.kinds k.figures k.money

abbrev summary : (number place price demand losses : ℕ) → Summary
summary n l p d s = record { number = n; place = l; price = p; demand = d; losses = s }

pub cases : List Case
cases =
    record {
      summary = summary 0 0 8000 1010 60;
      kinds = 2 ∷ 1 ∷ 1 ∷ 2 ∷ [];
      figures =
          0 ∷ 700 ∷ 0 ∷ 444 ∷ 0 ∷ 256 ∷ 32 ∷ 532 ∷ 0 ∷ 532 ∷ 0 ∷ 0 ∷ 28 ∷ 468 ∷ 0 ∷ 500 ∷ 0 ∷ 32 ∷ 0 ∷ 310 ∷ 10 ∷ 588
          ∷ 288 ∷ 0 ∷ [];
      money = pos 2048000 ∷ pos 0 ∷ pos 256000 ∷ negsuc 2303999 ∷ [];
    }
    ∷ record { summary = summary 0 0 0 0 0; kinds = []; figures = []; money = [] }
    ∷ record { summary = summary 6 10 0 0 0; kinds = 1 ∷ []; figures = []; money = [] }
    ∷ []

-- the bytes of the pages as document 01 prints them
abbrev pages : List (List ℕ)
pages =
    (104 ∷ 111 ∷ 117 ∷ 114 ∷ 32 ∷ 56 ∷ 48 ∷ 48 ∷ 48 ∷ 32 ∷ 49 ∷ 48 ∷ 49 ∷ 48 ∷ 32 ∷ 54 ∷ 48 ∷ 10 ∷ 48 ∷ 32 ∷ 50 ∷ 32
    ∷ 55 ∷ 48 ∷ 48 ∷ 32 ∷ 48 ∷ 32 ∷ 52 ∷ 52 ∷ 52 ∷ 32 ∷ 48 ∷ 32 ∷ 50 ∷ 53 ∷ 54 ∷ 32 ∷ 50 ∷ 48 ∷ 52 ∷ 56 ∷ 48 ∷ 48 ∷ 48
    ∷ 10 ∷ 49 ∷ 32 ∷ 49 ∷ 32 ∷ 53 ∷ 51 ∷ 50 ∷ 32 ∷ 48 ∷ 32 ∷ 53 ∷ 51 ∷ 50 ∷ 32 ∷ 48 ∷ 32 ∷ 48 ∷ 32 ∷ 48 ∷ 10 ∷ 50 ∷ 32
    ∷ 49 ∷ 32 ∷ 52 ∷ 54 ∷ 56 ∷ 32 ∷ 48 ∷ 32 ∷ 53 ∷ 48 ∷ 48 ∷ 32 ∷ 48 ∷ 32 ∷ 51 ∷ 50 ∷ 32 ∷ 50 ∷ 53 ∷ 54 ∷ 48 ∷ 48 ∷ 48
    ∷ 10 ∷ 51 ∷ 32 ∷ 50 ∷ 32 ∷ 51 ∷ 49 ∷ 48 ∷ 32 ∷ 49 ∷ 48 ∷ 32 ∷ 53 ∷ 56 ∷ 56 ∷ 32 ∷ 50 ∷ 56 ∷ 56 ∷ 32 ∷ 48 ∷ 32 ∷ 45
    ∷ 50 ∷ 51 ∷ 48 ∷ 52 ∷ 48 ∷ 48 ∷ 48 ∷ 10 ∷ [])
    ∷ (104 ∷ 111 ∷ 117 ∷ 114 ∷ 32 ∷ 48 ∷ 32 ∷ 48 ∷ 32 ∷ 48 ∷ 10 ∷ [])
    ∷ (114 ∷ 101 ∷ 102 ∷ 117 ∷ 115 ∷ 101 ∷ 100 ∷ 32 ∷ 54 ∷ 32 ∷ 49 ∷ 48 ∷ 10 ∷ [])
    ∷ []

pub cases_hold : map text cases ≡ pages
unfolding text cases spell minus signed spaced lines_to line_of hour_text refused_text page_of
cases_hold = refl
