-- What the rows that are still to come hold, and what is left of the demand, give what all rows leave of it.
use Rattle.std.proofs.Common.{◌≡◌, ◌-◌, ◌≤◌, length}
use Rattle.std.specs.Iterator.Adapters.{zip_first, zip_second}
use Rattle.std.specs.Slice.Iter.{chunks_rest, chunks_size}
use Rattle.sums.specs.Lists.{at}
use Rattle.crossing.specs.Crossing.{held_below}
use Rattle.crossing.proofs.left_of.Given as goal

abbrev pub invariant-loop-k : goal.invariant-loop-k
invariant-loop-k l =
    let keys = zip_first l.k-iterator in
    let values = zip_second l.k-iterator in
    record {
      first_size : chunks_size keys ≡ 64;
      second_size : chunks_size values ≡ 64;
      beside : length (chunks_rest values) ≡ length (chunks_rest keys);
      within : l.left ≤ l.demand;
      rest : l.left - held_below (at (chunks_rest keys)) (at (chunks_rest values)) (length (chunks_rest keys)) l.x
          ≡ l.demand - held_below (at l.keys) (at l.values) (length l.keys) l.x;
    }
