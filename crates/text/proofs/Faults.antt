-- Laws of what is wrong with a line, or with none of a text. Assumes nothing.
use Rattle.std.specs.Prelude.{ℕ, Option, Some, None, is_some, Ok, Err}
use Rattle.std.specs.Option.{option_or}
use mathlib.Core.Path.{◌≡◌, refl, ap}
use mathlib.Core.Bool.{false}
use Rattle.text.specs.Faults.{unless_wrong}
use Rattle.text.specs.declared.Fault.{Fault}
use Rattle.text.specs.declared.WrongLine.{WrongLine}

pub later_right : (a b : Option Fault) → is_some (option_or a b) ≡ false → is_some b ≡ false
later_right None b e = e
later_right (Some f) b e = cc

pub no_fault : (a : Option Fault) → is_some a ≡ false → a ≡ None
no_fault None e = refl
no_fault (Some f) e = cc

-- a text that gives nothing for this line gives nothing else; and where no line is wrong nothing is
pub still_wrong : {A : Type 0} (n : ℕ) (o : Option Fault) (w : WrongLine) (x : A) → Err w ≡ unless_wrong {A = Unit {0}} n o tt → Err w ≡ unless_wrong n o x
still_wrong n None w x e = cc
still_wrong n (Some f) w x e = let q : w ≡ record { line = n; fault = f } = cc in ap Err q

pub none_wrong : (n : ℕ) (o : Option Fault) → Ok tt ≡ unless_wrong {A = Unit {0}} n o tt → o ≡ None
none_wrong n None e = refl
none_wrong n (Some f) e = cc
