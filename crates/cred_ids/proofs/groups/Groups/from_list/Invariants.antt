use Rattle.std.proofs.Common.{◌≡◌, take, All}
use Rattle.cred_ids.specs.Id.{IsId}
use Rattle.cred_ids.proofs.groups.Groups.from_list.Given as goal

abbrev pub invariant-loop-id : goal.invariant-loop-id
invariant-loop-id l = record { copied : l.ids.items ≡ take l.id-index l.list; each : All IsId l.ids.items }
