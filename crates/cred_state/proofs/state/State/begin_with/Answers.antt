use Rattle.std.proofs.Common.{Some, refl, sym, ap, ◌∙◌}
use Rattle.cred_model.specs.Dumpable.{renewed}
use Rattle.cred_model.proofs.Places.{if_some}
use Rattle.cred_setid.specs.Parts.{changed}
use Rattle.cred_procs.specs.Tasks.{task_in}
use Rattle.cred_tables.specs.Kept.{cred_under}
use Rattle.cred_tables.proofs.Free.{full_swept}
use Rattle.cred_tables.proofs.Sealing.{none_spare, roomy_spare, seals_spare}
use Rattle.cred_state.proofs.Seen.{seen_parts, seen_state}
use Rattle.cred_state.proofs.Begins.{broadcast_may_begin, begin_full, replaced_kept, begin_sealed}
use Rattle.cred_tables.proofs.TokensOfLabels.{free_apart}
use Rattle.cred_tables.proofs.Puts.{put_free}
use Rattle.cred_state.proofs.Reading.{some_spare}
use Rattle.cred_state.proofs.Replacing.{late, may_replace}
use Rattle.cred_state.proofs.Reserved.{kept_spare, kept_swept}
use Rattle.cred_state.proofs.state.State.begin_with.Goals as goal

pub returns-in_default-clause-ok : goal.returns-in_default-clause-ok
returns-in_default-clause-ok c =
    let t = c.self.inside in
    let may = rw (← c.self.view_is) at c.requires.may in
    let rule = rw (← c.self.view_is) at c.requires.made in
    let none = sym c.in_default.ensures in
    let s = seen_state t in
    let new = changed (cred_under s.creds c.args.now.number) c.args.parts.now c.args.groups.now in
    rw (← c.self.view_is)
    (begin_full c.self.invariant.0 c.sweep.new.self c.args.task _ new may.has c.args.line c.args.call.now may rule
    (none_spare t.slots c.in_ok-reserve.ensures.ok none)
    (roomy_spare (seen_parts t) t.master.slots t.slots _ _ _ c.in_ok-reserve.ensures.ok
    (c.sweep.ensures ∙ sym (full_swept c.reserve.new.self none))))

pub begin_in-requires : goal.begin_in-requires
begin_in-requires c =
    let t = c.self.inside in
    let may = rw (← c.self.view_is) at c.requires.may in
    let sound = rw (← c.self.view_is) at c.requires.sound in
    broadcast_may_begin (seen_state t)
    c.args.line c.args.task _ may
    sound

pub replace_in-number-requires-clause-may : goal.replace_in-number-requires-clause-may
replace_in-number-requires-clause-may c =
    let may = rw (← c.self.view_is) at c.requires.may in
    let out = rw (← c.self.view_is) at c.requires.out in
    may_replace c.self.invariant.0 c.args.task c.args.now may.has out c.in_ok-reserve.ensures.ok c.in-Some.ensures

pub replace_in-number-requires-clause-valid : goal.replace_in-number-requires-clause-valid
replace_in-number-requires-clause-valid c = rw c.in_ok-reserve.ensures.ok (rw (← c.self.view_is) at c.requires.valid)

pub invariant_of-self-2 : goal.invariant_of-self-2
invariant_of-self-2 c =
    let may = rw (← c.self.view_is) at c.requires.may in
    let sound = rw (← c.self.view_is) at c.requires.sound in
    let t = c.self.inside in
    let s = seen_state t in
    let new = changed (cred_under s.creds c.args.now.number) c.args.parts.now c.args.groups.now in
    let by = c.replace_in-number.ensures in
    let made = rw c.in_ok-reserve.ensures.ok at by.words in
    rw (by.tasks, made) (
      replaced_kept c.self.invariant.0 c.replace_in-number.new.slots c.args.task _ new may.has by.long
          (seals_spare c.in_ok-reserve.ensures.ok by.table.seals) sound.tasks (late by.table)
          c.begin_in.new.broadcasts c.replace_in-number.new.flags,
      put_free c.self.inside.prepared c.self.inside.master.loans c.self.inside.master.slots c.in-Some.slot (Some new)
          (free_apart c.self.invariant.0 c.in-Some.slot (some_spare c.self.inside.slots c.in_ok-reserve.ensures.ok (sym c.in-Some.ensures))) c.self.invariant.1,
    )

pub returns-clause-ok : goal.returns-clause-ok
returns-clause-ok c =
    let t = c.self.inside in
    let may = rw (← c.self.view_is) at c.requires.may in
    let sound = rw (← c.self.view_is) at c.requires.sound in
    let rule = rw (← c.self.view_is) at c.requires.made in
    let s = seen_state t in
    let new = changed (cred_under s.creds c.args.now.number) c.args.parts.now c.args.groups.now in
    let by = c.replace_in-number.ensures in
    let made = rw c.in_ok-reserve.ensures.ok at by.words in
    let begun = if_some _ (task_in t.tasks c.args.task) may.owner may.lives c.in_ok-left.ensures.ok in
    let other = rw (← c.self.view_is) at c.requires.ids_changed in
    let flags = by.flags may.owner may.lives
    ∙ ap (renewed t.flags may.owner.process) other in
    rw (← c.self.view_is, by.tasks, made, begun.broadcasts, flags)
    (begin_sealed c.self.invariant.0 c.replace_in-number.new.slots c.args.task _ new may.has by.long
    (seals_spare c.in_ok-reserve.ensures.ok by.table.seals) sound.tasks (late by.table)
    c.args.line c.args.call.now may c.in_ok-left.left rule begun.waiting)

pub returns-clause-words : goal.returns-clause-words
returns-clause-words c =
    let by = c.replace_in-number.ensures in
    let made = rw c.in_ok-reserve.ensures.ok at by.words in
    rw (← c.self.view_is, made) refl

pub invariant_of-self : goal.invariant_of-self
invariant_of-self c = rw c.in_err-reserve.ensures.err c.self.invariant

pub invariant_of-self-in_default : goal.invariant_of-self-in_default
invariant_of-self-in_default c = (kept_swept (kept_spare c.self.invariant.0 c.in_ok-reserve.ensures.ok) c.sweep.ensures, c.self.invariant.1)

pub invariant_of-self-in_err-left : goal.invariant_of-self-in_err-left
invariant_of-self-in_err-left c = rw c.in_err-left.ensures.err (kept_spare c.self.invariant.0 c.in_ok-reserve.ensures.ok, c.self.invariant.1)
