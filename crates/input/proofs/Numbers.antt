-- Numbers that were read one behind another, and one more behind them. Assumes nothing.
use Rattle.std.proofs.Common.{ℕ, List, [], ◌∷◌, ◌++◌, Option, Some, Ok}
use Rattle.std.proofs.KnownBytes.{Consumes-nil, Consumes-trans}
use Rattle.std.specs.Io.KnownBytes.{Consumes}
use Rattle.input.specs.Cases.{NumberTaken, NumbersTaken}

pub none_taken : (at : Option (List ℕ)) → NumbersTaken at at []
unfolding NumbersTaken
none_taken at = Consumes-nil at

-- nothing is read between two numbers
nothing_before : (old mid new : Option (List ℕ)) (x : ℕ) → Consumes old mid [] → NumberTaken mid new (Ok (Some x))
    → NumberTaken old new (Ok (Some x))
nothing_before old mid new x none (bs, first, four, is) = (bs, Consumes-trans old mid new [] bs none first, four, is)

pub one_more : (old mid new : Option (List ℕ)) (xs : List ℕ) (x : ℕ) → NumbersTaken old mid xs → NumberTaken mid new (Ok (Some x))
    → NumbersTaken old new (xs ++ x ∷ [])
unfolding NumbersTaken
one_more old mid new [] x none number = (new, nothing_before old mid new x none number, Consumes-nil new)
one_more old mid new (y ∷ ys) x (at, first, others) number = (at, first, one_more at mid new ys x others number)
