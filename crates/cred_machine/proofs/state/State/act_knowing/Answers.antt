use Rattle.std.proofs.Common.{List, Bool, ◌∙◌, ap}
use Rattle.cred_machine.specs.Slots.{is_marked}
use Rattle.cred_machine.proofs.Live.{known_after}
use Rattle.cred_machine.proofs.state.State.act_knowing.Goals as goal

pub returns-clause-live : goal.returns-clause-live
returns-clause-live c =
    known_after c.args.self.now c.act.new.self c.requires.sound c.args.broadcast c.in_ok-answer.answer c.room_in.new.live
    c.in_ok-room.room.swept c.live_after.result
    (λ k h. ap (λ (marks : List Bool). is_marked marks k) c.room_in.ensures.marks ∙ c.in_ok-marks.ensures k h)
    c.in_ok-room.ensures.swept c.in_ok-answer.ensures.ok c.live_after.ensures
