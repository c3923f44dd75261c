use Rattle.std.proofs.lemmas.Bool.Decides.{Decides-eqb, same_from_decides}
use Rattle.std.proofs.lemmas.Slice.Eq.{slice_eq-Decides}
use Rattle.words.proofs.Laws.{same_word-Decides}
use Rattle.words.proofs.is_same.Goals as goal

pub returns : goal.returns
returns c = same_from_decides _ _ (slice_eq-Decides Decides-eqb _ _ _ c.eq.ensures) (same_word-Decides _ _)
