use Rattle.cred_captext.proofs.Members.{AreWritten}
use Rattle.cred_captext.proofs.printing.append_names.Given as goal

abbrev pub invariant-loop-number : goal.invariant-loop-number
invariant-loop-number l = AreWritten l.fn.out.items l.out.items l.comma l.number l.set
