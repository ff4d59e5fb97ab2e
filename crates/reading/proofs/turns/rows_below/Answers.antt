-- `turns::rows_below` meets its contract: the rows ascend by object, so the library's search finds the place.
use Rattle.std.proofs.Common.{ℕ, List, get_or, ltb, rules}
use Rattle.std.proofs.lemmas.List.Sorted.{IsPartitionPoint-from_clause, IsPartitionedBy-ltb}
use Rattle.reading.proofs.Bounds.{point_is, numbers_climb}
use Rattle.reading.proofs.turns.rows_below.Goals as goal

pub returns : goal.returns
returns c = record {
  counted = λ rs H.
      let parted = IsPartitionedBy-ltb (λ (r : List ℕ). get_or r 0 0) c.args.rows.now c.args.object (numbers_climb c.args.rows.now rs H) in
      let point = IsPartitionPoint-from_clause (λ (r : List ℕ). ltb (get_or r 0 0) c.args.object) _ _ c.partition_point.ensures.partitioned parted (λ a r q k. search rules) in
      point_is c.args.rows.now c.args.object c.partition_point.ensures.bound point rs H;
}
