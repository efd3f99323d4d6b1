use Rattle.std.proofs.Common.{◌≡◌, length, take, drop}
use Rattle.cred_hold.proofs.words.gather.Given as goal

abbrev pub invariant-loop-i : goal.invariant-loop-i
invariant-loop-i g l =
    (l.hold ≡ l.initial.hold) × (length l.words ≡ g.row.N) × (take l.i l.words ≡ take l.i (take g.row.N (drop l.first l.initial.hold.token.words)))
