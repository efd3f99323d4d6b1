use Rattle.std.proofs.Common.{ltb, rules}
use Rattle.std.proofs.lemmas.List.Sorted.{IsPartitionPoint-from_clause, IsPartitionedBy-ltb}
use Rattle.cred_plain.specs.Creds.{StoredCred}
use Rattle.cred_plain.proofs.creds.place_from.Goals as goal

pub returns : goal.returns
returns c =
    let parted = IsPartitionedBy-ltb (λ (s : StoredCred). s.number) _ c.args.number c.requires in
    IsPartitionPoint-from_clause (λ (s : StoredCred). ltb s.number c.args.number) _ _ c.partition_point.ensures.partitioned parted (λ a r q k. search rules)
