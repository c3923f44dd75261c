-- What the parts of weighing hand on to each other. Assumes nothing.
use Rattle.std.specs.Prelude.{ℕ, ◌+◌, ◌-◌, ◌*◌, ◌≤◌, ◌<◌, ◌||◌, List, [], ◌∷◌, ◌≡◌, ltb, leb, eqb, Option, Some, None, Ok, if◌then◌else◌}
use Rattle.refusals.specs.Refusals.{bad_exports, bad_gain, unshared, refused, refused_unless, first_of}
use Rattle.refusals.specs.Refusals.{Verdict}
use Rattle.limits.specs.Limits.{most_agents, most_boundaries, most_reading, most_factor}
use Rattle.sums.specs.Sums.{sum, pick}
use Rattle.sums.specs.Lists.{at, Filled}
use Rattle.rows.specs.Rows.{is_outside}
use Rattle.hour.specs.Sheet.{Sheet}
use Rattle.hour.specs.Balance.{imported, exported, consumption, consumed, own_import, delivered, entering}
use Rattle.hour.specs.Answer.{first_over}
use Rattle.balance.specs.declared.Metering.{Metering}
use Rattle.balance.specs.declared.Demanded.{Demanded}

-- the most that all rows of a sheet come to, in ten-thousandths
abbrev pub most_exact : ℕ
most_exact = most_boundaries * (most_reading * (10000 + most_factor))

-- what a search among n finds, from the place that `first` names
abbrev pub found : ℕ → ℕ → Option ℕ
found n k = if ltb k n then Some k else None

-- what each agent took and delivered in ten-thousandths, all its rows together
pub record Metered (h : Sheet) (imports exports : List ℕ) : Type 0 where
  pub took : (a : ℕ) → a < most_agents → at imports a ≡ imported h a
  pub gave : (a : ℕ) → a < most_agents → at exports a ≡ exported h a

-- by their columns the kinds of n agents, what generators took and delivered, and what retailers consumed, in whole kWh; the sums of
-- these, and the first retailer that delivers more than it takes
pub record Read (h : Sheet) (n : ℕ) (k₀ k t₀ t g₀ g u₀ u : List ℕ) (r : Metering) : Type 0 where
  pub kinds : Filled 0 k₀ k n (at h.kinds)
  pub taken : Filled 0 t₀ t n (own_import h)
  pub given : Filled 0 g₀ g n (delivered h)
  pub used : Filled 0 u₀ u n (consumption h)
  pub over : r.over ≡ found n (first_over h)
  pub entering : r.entering ≡ entering h
  pub consumed : r.consumed ≡ consumed h
  pub drawn : r.drawn ≡ sum n (own_import h)

-- an agent's commercial demand from what it consumed and its share, and what a small generator delivers
abbrev pub with_share : (commercial shares : List ℕ) → ℕ → ℕ
with_share c s a = at c a + at s a

abbrev pub of_small : (kinds own : List ℕ) → ℕ → ℕ
of_small k o a = pick (is_outside (at k a)) (at o a)

-- neither these nor their sums are too large
pub record SharesFit (kinds shares : List ℕ) (n : ℕ) (commercial own : List ℕ) : Type 0 where
  pub each : (a : ℕ) → a < n → with_share commercial shares a + of_small kinds own a ≤ 4294967295
  pub all : sum n (with_share commercial shares) ≤ 4294967295
  pub small : sum n (of_small kinds own) ≤ 4294967295

-- the columns with both, and their sums
pub record WithShares (kinds shares : List ℕ) (n : ℕ) (c₀ c o₀ o : List ℕ) (r : Demanded) : Type 0 where
  pub commercial : Filled 0 c₀ c n (with_share c₀ shares)
  pub own : Filled 0 o₀ o n (λ a. with_share c₀ shares a + of_small kinds o₀ a)
  pub all : r.all ≡ sum n (with_share c₀ shares)
  pub small : r.small ≡ sum n (of_small kinds o₀)

-- refusals 7 to 9 by what they are judged by
abbrev pub over_verdict : Option ℕ → Verdict
over_verdict None = Ok tt
over_verdict (Some a) = refused bad_exports a

abbrev pub weighed_by : (over : Option ℕ) (entering leaving consumed : ℕ) → Verdict
weighed_by o e l u =
    first_of (over_verdict o
    ∷ refused_unless (leb l e) bad_gain 0
    ∷ refused_unless (eqb (e - l) 0 || ltb 0 u) unshared 0
    ∷ [])
