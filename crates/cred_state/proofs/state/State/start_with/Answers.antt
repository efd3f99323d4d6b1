use Rattle.std.proofs.Common.{slice_set, Some, sym, ap, ◌∙◌}
use Rattle.cred_record.specs.Credential.{Credential}
use Rattle.cred_hold.specs.Tokens.{Mastered}
use Rattle.cred_tables.proofs.Free.{full_swept}
use Rattle.cred_state.proofs.Seen.{seen_parts}
use Rattle.cred_state.proofs.Inits.{init_full, init_kept, init_sealed, started}
use Rattle.cred_tables.proofs.Sealing.{none_spare, roomy_spare, seals_spare}
use Rattle.cred_tables.proofs.TokensOfLabels.{free_alone, free_apart}
use Rattle.cred_tables.proofs.Puts.{put_free}
use Rattle.cred_state.proofs.Reading.{some_spare}
use Rattle.cred_state.proofs.Reserved.{kept_spare, kept_swept}
use Rattle.cred_state.proofs.state.State.start_with.Goals as goal

pub returns-in_default-clause-ok : goal.returns-in_default-clause-ok
returns-in_default-clause-ok c = λ user group ns root is.
    let t = c.self.inside in
    let idle = rw (← c.self.view_is) at c.requires.idle in
    let new = rw (← c.self.view_is) at c.requires.new in
    let room = rw (← c.self.view_is) at c.requires.room in
    let none = sym c.in_default.ensures in
    rw (← c.self.view_is)
    (init_full c.self.invariant.0 c.sweep.new.self c.args.number c.args.process idle new room user group ns root
    (none_spare t.slots c.in_ok-reserve.ensures.ok none)
    (roomy_spare (seen_parts t) t.master.slots t.slots _ _ _ c.in_ok-reserve.ensures.ok
    (c.sweep.ensures ∙ sym (full_swept c.reserve.new.self none))))

pub start_in-requires-clause-new : goal.start_in-requires-clause-new
start_in-requires-clause-new c = rw (← c.self.view_is) at c.requires.new

pub start_in-requires-clause-room : goal.start_in-requires-clause-room
start_in-requires-clause-room c = rw (← c.self.view_is) at c.requires.room

pub start_in-requires-clause-own : goal.start_in-requires-clause-own
start_in-requires-clause-own c = rw (← c.self.view_is) at c.requires.flag

pub seal_next-current-requires-clause-free : goal.seal_next-current-requires-clause-free
seal_next-current-requires-clause-free c = sym c.in-Some.ensures

pub set-requires-clause-alone : goal.set-requires-clause-alone
set-requires-clause-alone c =
    free_alone c.self.invariant.0 c.in-Some.slot (some_spare c.self.inside.slots c.in_ok-reserve.ensures.ok (sym c.in-Some.ensures)) _
    (rw (← c.self.view_is) at c.requires.out)

pub invariant_of-self-2 : goal.invariant_of-self-2
invariant_of-self-2 c =
    let t = c.self.inside in
    let seals = c.seal_next-current.ensures in
    let tasks =
    started t.tasks c.start_in.new.tasks c.args.number c.args.process _ _ c.in_ok-start_in.ensures.tasks (c.next_number-next.ensures ∙ sym seals.counted) in
    rw (tasks, c.set.ensures.made) (
      init_kept c.self.invariant.0 c.seal_next-current.new.slots c.args.number c.args.process c.set.ensures.long
          (seals_spare c.in_ok-reserve.ensures.ok seals) c.args.cred.now c.start_in.new.flags,
      put_free t.prepared t.master.loans t.master.slots c.in-Some.slot (Some c.args.cred.now)
          (free_apart c.self.invariant.0 c.in-Some.slot (some_spare t.slots c.in_ok-reserve.ensures.ok (sym c.in-Some.ensures))) c.self.invariant.1,
    )

pub returns-clause-ok : goal.returns-clause-ok
returns-clause-ok c = λ user group ns root is.
    let t = c.self.inside in
    let seals = c.seal_next-current.ensures in
    let tasks =
    started t.tasks c.start_in.new.tasks c.args.number c.args.process _ _ c.in_ok-start_in.ensures.tasks (c.next_number-next.ensures ∙ sym seals.counted) in
    let store = ap (λ (m : Mastered). m.slots) c.set.ensures.made ∙ ap (λ (x : Credential). slice_set t.master.slots c.in-Some.slot (Some x)) is in
    let idle = rw (← c.self.view_is) at c.requires.idle in
    let new = rw (← c.self.view_is) at c.requires.new in
    let room = rw (← c.self.view_is) at c.requires.room in
    rw (← c.self.view_is, tasks, store, c.in_ok-start_in.ensures.flags)
    (init_sealed c.self.invariant.0 c.seal_next-current.new.slots c.args.number c.args.process idle new room user group ns root
    c.set.ensures.long (seals_spare c.in_ok-reserve.ensures.ok seals))

pub invariant_of-self : goal.invariant_of-self
invariant_of-self c = rw c.in_err-reserve.ensures.err c.self.invariant

pub invariant_of-self-in_default : goal.invariant_of-self-in_default
invariant_of-self-in_default c = (kept_swept (kept_spare c.self.invariant.0 c.in_ok-reserve.ensures.ok) c.sweep.ensures, c.self.invariant.1)

pub invariant_of-self-in_err-start_in : goal.invariant_of-self-in_err-start_in
invariant_of-self-in_err-start_in c =
    rw (c.in_err-start_in.ensures.no_tasks, c.in_err-start_in.ensures.no_flags)
    (kept_spare c.self.invariant.0 c.in_ok-reserve.ensures.ok, c.self.invariant.1)
