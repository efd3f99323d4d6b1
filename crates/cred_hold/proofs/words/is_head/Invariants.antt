use Rattle.std.proofs.Common.{◌≡◌, take}
use Rattle.cred_record.specs.Words.{words_of}
use Rattle.cred_hold.proofs.words.is_head.Given as goal

abbrev pub invariant-loop-i : goal.invariant-loop-i
invariant-loop-i l = (l.hold ≡ l.fn.hold) × (take l.i l.fn.hold.token.words ≡ take l.i (words_of l.head))
