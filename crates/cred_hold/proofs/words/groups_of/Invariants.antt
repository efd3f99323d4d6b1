use Rattle.std.proofs.Common.{◌≡◌, take, drop}
use Rattle.cred_record.specs.declared.layout.TheConstants.{GROUPS}
use Rattle.cred_record.specs.Words.{unpaired}
use Rattle.cred_hold.proofs.words.groups_of.Given as goal

abbrev pub invariant-loop-place : goal.invariant-loop-place
invariant-loop-place l = (l.hold ≡ l.initial.hold) × (l.ids.items ≡ take l.place (unpaired (drop GROUPS l.initial.hold.token.words)))
