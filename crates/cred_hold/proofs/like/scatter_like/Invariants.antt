use Rattle.std.proofs.Common.{◌≡◌, ◌+◌}
use Rattle.cred_record.specs.Words.{credential_in, words_of}
use Rattle.cred_record.specs.declared.layout.TheConstants.{GROUPS}
use Rattle.cred_setid.specs.Parts.{changed}
use Rattle.cred_hold.proofs.Whole.{PutTo}
use Rattle.cred_hold.proofs.like.scatter_like.Given as goal

abbrev pub invariant-loop-place : goal.invariant-loop-place
invariant-loop-place l =
    (l.writer.id ≡ l.fn.writer.id) × PutTo l.fn.writer.token l.writer.token (words_of (changed (credential_in l.fn.hold.token.words) l.parts l.groups)) l.place

abbrev pub invariant-loop-i : goal.invariant-loop-i
invariant-loop-i l =
    (l.writer.id ≡ l.fn.writer.id) × (l.hold ≡ l.fn.hold)
    × PutTo l.fn.writer.token l.writer.token (words_of (changed (credential_in l.fn.hold.token.words) l.parts l.groups)) (GROUPS + l.i)
