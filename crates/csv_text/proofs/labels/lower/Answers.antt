-- `labels::lower` meets its contract.
use Rattle.csv_text.proofs.labels.lower.Goals as goal
use Rattle.std.proofs.Common.{rules, w32, to_z, of_z}
use Rattle.std.proofs.lemmas.List.Sorted.{IsPartitionPoint-from_clause}
use Rattle.csv_text.specs.Labels.{id_of}
use Rattle.csv_text.proofs.Seeking.{lower_own, lower_at, falls_by}
use Rattle.laws.proofs.Search.{less_than}

pub returns-clause-defined : goal.returns-clause-defined
returns-clause-defined c =
    let own = to_z w32 (of_z w32 c.args.id) in
    lower_own c.args.labels.now c.args.id c.ranges.id (λ f. lower_at c.args.labels.now own c.partition_point.ensures.bound
    (IsPartitionPoint-from_clause (less_than id_of own) c.args.labels.now c.partition_point.result c.partition_point.ensures.partitioned (falls_by c.args.labels.now own f) (λ a r g k. search rules)))
