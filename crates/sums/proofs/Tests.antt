-- What tests that are joined by `&&` and `||` tell. Assumes nothing.
use mathlib.Core.Bool.{Bool, true, false, ◌&&◌, ◌||◌, not, true≢false, false≢true}
use mathlib.Core.List.{List, [], ◌∷◌}
use mathlib.Core.Logic.{◌⊎◌, inl, inr}
use mathlib.Core.Path.{◌≡◌, refl, sym, ◌∙◌}

pub clash : (t : Bool) → t ≡ true → t ≡ false → ⊥
clash t e f = true≢false (sym e ∙ f)

pub and_left : (t u : Bool) → (t && u) ≡ true → t ≡ true
and_left true u e = refl
and_left false u e = e

pub and_right : (t u : Bool) → (t && u) ≡ true → u ≡ true
and_right true u e = e
and_right false u e = absurd (false≢true e)

-- ---- of several tests all hold: one .. && another
abbrev joined : Bool → List Bool → Bool
joined t [] = t
joined t (u ∷ us) = joined (t && u) us

abbrev AllTrue : List Bool → Type 0
AllTrue [] = Unit {0}
AllTrue (t ∷ ts) = (t ≡ true) × AllTrue ts

pub all_true : (t : Bool) (us : List Bool) → joined t us ≡ true → AllTrue (t ∷ us)
all_true t [] e = (e, tt)
all_true t (u ∷ us) e =
    let (b, r) = all_true (t && u) us e in
    (and_left t u b, (and_right t u b, r))

-- ---- the joined test, from its parts
pub and_both : {t u : Bool} → t ≡ true → u ≡ true → (t && u) ≡ true
and_both {t} {u} e f = rw (e, f)

pub and_early : {t : Bool} (u : Bool) → t ≡ false → (t && u) ≡ false
and_early {t} u e = rw e

pub and_late : (t : Bool) {u : Bool} → u ≡ false → (t && u) ≡ false
and_late true e = e
and_late false e = refl

pub or_first : {t : Bool} (u : Bool) → t ≡ true → (t || u) ≡ true
or_first {t} u e = rw e

pub or_second : {t u v : Bool} → t ≡ false → u ≡ v → (t || u) ≡ v
or_second {t} {u} {v} e f = rw (e, f)

-- ---- one of two tests holds
pub or_cases : (t u : Bool) → (t || u) ≡ true → (t ≡ true) ⊎ (u ≡ true)
or_cases true u e = inl refl
or_cases false u e = inr e

pub or_else : (t u : Bool) → (not t || u) ≡ true → t ≡ true → u ≡ true
or_else true u e h = e
or_else false u e h = absurd (false≢true h)
