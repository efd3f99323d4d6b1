use Rattle.std.proofs.Common.{subst}
use Rattle.cred_audit.specs.Next.{IsLaneAt}
use Rattle.cred_audit.specs.Run.{GoesOn}
use Rattle.cred_audit.proofs.Reports.{followed_by}
use Rattle.cred_audit.proofs.verdict.rest_after_next.Goals as goal

pub returns : goal.returns
returns c =
    let script = c.args.script.now in
    let on = subst (GoesOn script c.in-Some.lane c.args.run.now c.next.new.self) c.in-Some-2.is c.in_ok-next.ensures.ok in
    let at = subst (IsLaneAt script c.args.bytes.now) c.in-Some.is c.lane_at.ensures in
    followed_by script c.args.bytes.now c.args.run.now c.next.new.self c.in-Some.lane c.in-Some-2.next c.rest_after.result on at c.rest_after.ensures
