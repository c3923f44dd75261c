-- The four lists as the code passes them on. Assumes nothing.
use Rattle.writing.specs.Numbers.{Numbers, numbers}
use Rattle.writing.specs.declared.lists.Lists.{Lists}

abbrev pub given : Lists → Numbers
given l = numbers l.agents.now l.boundaries.now l.plants.now l.contracts.now
