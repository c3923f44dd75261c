-- How the page is put together: nothing here is part of its meaning. Assumes nothing.
use Rattle.std.specs.Prelude.{ℕ, ◌+◌, ◌*◌, ◌≤◌, ◌≡◌, cond, List, [], ◌∷◌, ◌++◌, eqb, length, drop}
use Rattle.sums.specs.Lists.{at, Filled}
use Rattle.limits.specs.Limits.{most_agents}
use Rattle.hour.specs.declared.Summary.{Summary}
use Rattle.printing.specs.Text.{decimal, spaced}
use Rattle.printing.specs.Page.{hour_word, refused_text}

-- the bytes from r on are `text`; at most `most` were put in front of `at`
pub record Put (text after : List ℕ) (at most r : ℕ) : Type 0 where
  pub text_is : drop r after ≡ text
  pub low : at ≤ r + most
  pub high : r ≤ at

-- the same where there is room for it: at least `most` bytes before `at`, and `at` within the scratch
pub record PutInRoom (text before after : List ℕ) (at most r : ℕ) : Type 0 where
  pub put : most ≤ at → at ≤ length before → Put text after at most r

-- the first line of a page, and how many are behind it
unfoldable pub hour_head : Summary → List ℕ
hour_head r = hour_word ++ spaced (r.price ∷ r.demand ∷ []) (decimal r.losses (10 ∷ []))

unfoldable pub head_of : Summary → List ℕ
head_of r = cond (eqb r.number 0) (hour_head r) (refused_text r)

unfoldable pub lines_in : Summary → ℕ → ℕ
lines_in r agents = cond (eqb r.number 0) agents 0

-- lists of these lengths are those of the agents of a sheet
pub record Listed (kinds figures money : ℕ) : Type 0 where
  pub few : kinds ≤ most_agents
  pub cells : 6 * kinds ≤ figures
  pub owed : kinds ≤ money

-- a text is put behind the k bytes that are filled
abbrev pub Appended : (text : List ℕ) → ℕ → (before after : List ℕ) → Type 0
Appended text k before after =
    (start front : List ℕ)
    → length front ≡ k
    → Filled 0 start before k (at front)
    → Filled 0 start after (k + length text) (at (front ++ text))
