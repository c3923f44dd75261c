-- The four lists as the code passes them on. Assumes nothing.
use Rattle.hour.specs.Answer.{Lent, lent}
use Rattle.telling.specs.declared.Lists.{Lists}

abbrev pub given : Lists → Lent
given l = lent l.figures.now l.money.now l.schedule.now l.amounts.now
