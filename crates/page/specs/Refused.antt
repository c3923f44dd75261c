-- The summary of a refusal: price, demand and losses are 0. Assumes nothing.
use Rattle.refusals.specs.declared.Refusal.{Refusal}
use Rattle.hour.specs.declared.Summary.{Summary}

abbrev pub refused_summary : Refusal → Summary
refused_summary q = record { number = q.number; place = q.place; price = 0; demand = 0; losses = 0 }
