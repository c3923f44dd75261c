-- Laws of a line that is read field by field. Assumes nothing.
use Rattle.std.specs.Prelude.{Result, Ok, Err, is_some}
use Prim.Native.Nat.{ℕ, ◌+◌, ◌-◌, ◌≤◌}
use mathlib.Core.Path.{◌≡◌, refl, ◌∙◌}
use mathlib.Core.Bool.{Bool, true, false, cond, ◌||◌}
use mathlib.Core.List.{List, [], ◌∷◌}
use native.Mathlib.Omega.{arith}
use lib.Dec.{ltb, eqb}
use lib.IntN.{ℤ}
use lib.ListN.{length, length-set}
use Rattle.sums.specs.Lists.{at}
use Rattle.text.specs.Fields.{parsed, owed_in}
use Rattle.text.specs.Lines.{named, numbered, owing, skipped, step, over, pieces, empty_line, read_line, word_of}
use Rattle.text.specs.declared.Fault.{Fault}
use Rattle.text.specs.declared.Line.{Line}

-- which of two
either : (P : Line → Type 0) (t : Bool) (l m : Line) → P l → P m → P (cond t l m)
either P true l m p q = p
either P false l m p q = q

-- a field counts one at most
abbrev More : Line → Line → Type 0
More l r = r.count ≤ l.count + 1

named_count : (l : Line) (w : ℕ) → More l (named l w)
unfolding named
named_count l w = omega arith

numbered_count : (l : Line) (p : Result ℕ Fault) → More l (numbered l p)
unfolding numbered
numbered_count l (Ok v) = omega arith
numbered_count l (Err f) = omega arith

owing_count : (l : Line) (p : Result ℤ Fault) → More l (owing l p)
unfolding owing
owing_count l (Ok x) = omega arith
owing_count l (Err f) = omega arith

pub step_count : (l : Line) (f : List ℕ) → More l (step l f)
unfolding step
step_count l f =
    either (More l) (is_some l.fault || eqb (length f) 0) l _ (omega arith)
    (either (More l) (eqb l.count 0) (named l (word_of f)) _ (named_count l (word_of f))
    (either (More l) (ltb l.count 8) (numbered l (parsed f)) _ (numbered_count l (parsed f))
    (either (More l) (eqb l.count 8) (owing l (owed_in f)) (skipped l) (owing_count l (owed_in f)) (omega arith))))

-- a line has room for seven numbers
abbrev Seven : Line → Type 0
Seven l = length l.numbers ≡ 7

named_seven : (l : Line) (w : ℕ) → Seven l → Seven (named l w)
unfolding named
named_seven l w h = h

numbered_seven : (l : Line) (p : Result ℕ Fault) → Seven l → Seven (numbered l p)
unfolding numbered
numbered_seven l (Ok v) h = length-set l.numbers (l.count - 1) v ∙ h
numbered_seven l (Err f) h = h

owing_seven : (l : Line) (p : Result ℤ Fault) → Seven l → Seven (owing l p)
unfolding owing
owing_seven l (Ok x) h = h
owing_seven l (Err f) h = h

step_seven : (l : Line) (f : List ℕ) → Seven l → Seven (step l f)
unfolding step
step_seven l f h =
    either Seven (is_some l.fault || eqb (length f) 0) l _ h
    (either Seven (eqb l.count 0) (named l (word_of f)) _ (named_seven l (word_of f) h)
    (either Seven (ltb l.count 8) (numbered l (parsed f)) _ (numbered_seven l (parsed f) h)
    (either Seven (eqb l.count 8) (owing l (owed_in f)) (skipped l) (owing_seven l (owed_in f) h) h)))

over_seven : (l : Line) (fs : List (List ℕ)) → Seven l → Seven (over step l fs)
unfolding over
over_seven l [] h = h
over_seven l (f ∷ fs) h = over_seven (step l f) fs (step_seven l f h)

pub line_seven : (s : List ℕ) → length (read_line s).numbers ≡ 7
unfolding read_line
line_seven s = either Seven (eqb (at s 0) 35) empty_line (over step empty_line (pieces s)) refl (over_seven empty_line (pieces s) refl)
