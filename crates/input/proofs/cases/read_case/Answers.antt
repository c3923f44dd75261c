-- The bytes of a case's length and those of its sheet stand behind one another.
use Rattle.std.proofs.Common.{ℕ, ◌<◌, List, ◌++◌, length, take, sym, ◌∙◌, subst, inl, inr, Option, Some, None, Ok, Err}
use Rattle.std.proofs.lemmas.Bool.{cases_lt}
use Rattle.std.proofs.lemmas.List.{append-nil}
use Rattle.std.proofs.KnownBytes.{Consumes-trans}
use Rattle.std.specs.Io.KnownBytes.{Consumes}
use Rattle.input.specs.declared.cases.Broken.{Broken}
use Rattle.input.specs.Cases.{Next, NumberTaken, SheetTaken, CaseTaken}
use Rattle.input.proofs.cases.read_case.Goals as goal

case_taken : (old mid new : Option (List ℕ)) (n : ℕ) (r : Next) (buf : List ℕ) → NumberTaken old mid (Ok (Some n))
    → SheetTaken mid new r n buf → CaseTaken old new r buf
case_taken old mid new n (Ok (Some m)) buf (bs, first, four, is) (then, same) =
    let both = subst (λ (k : ℕ). Consumes old new (bs ++ take k buf)) (sym same) (Consumes-trans old mid new bs (take n buf) first then) in
    (bs, both, four, same ∙ is)
case_taken old mid new n (Ok None) buf number none = absurd none
case_taken old mid new n (Err Broken.Cut) buf (bs, first, four, is) (short, ends) =
    elim (cases_lt (length buf) n) [
      | inl h ↦ inr (
        bs,
        subst (Consumes old new) (append-nil bs) (Consumes-trans old mid new bs _ first (short h)),
        four,
        subst (λ (k : ℕ). length buf < k) is h,
      )
      | inr h ↦ inl (ends h)
    ]
case_taken old mid new n (Err (Broken.Failed why)) buf (bs, first, four, is) (more, then) = (bs ++ more, Consumes-trans old mid new bs more first then)

pub returns-in-Some-clause-bytes : goal.returns-in-Some-clause-bytes
returns-in-Some-clause-bytes g c = case_taken _ _ _ _ _ _ (rw c.in-Some.is at c.in_ok-n.ensures) c.read_sheet.ensures.bytes
