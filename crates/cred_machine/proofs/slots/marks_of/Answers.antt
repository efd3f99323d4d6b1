use Rattle.cred_machine.proofs.Free.{marked}
use Rattle.cred_machine.proofs.slots.marks_of.Goals as goal

pub returns : goal.returns
returns c = λ k h.
    marked c.args.creds.now.list c.args.in_use.now c.args.late.now c.args.prepared.now k _ _ _ _
    (c.in_ok-marks.ensures k) (c.put_all.ensures k h) (c.put_all-2.ensures k h) (c.keep.ensures k h)
