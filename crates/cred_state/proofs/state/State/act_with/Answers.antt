use Rattle.std.proofs.Common.{Some, slice_get, refl, sym, ap, ◌∙◌}
use Rattle.cred_event.specs.declared.answer.AbortCause.TheVariants.{Full}
use Rattle.cred_model.specs.State.{Task, task_of}
use Rattle.cred_model.specs.Dumpable.{renewed}
use Rattle.cred_model.specs.Broadcasts.{waits_no_more}
use Rattle.cred_broadcasts.specs.Broadcasts.{MakesOf}
use Rattle.cred_state.proofs.Seen.{seen_parts, seen_state}
use Rattle.cred_state.specs.Replacements.{replacement}
use Rattle.cred_hold.specs.Tokens.{Mastered}
use Rattle.cred_tables.specs.Kept.{cred_under, state_of}
use Rattle.cred_state.proofs.Acts.{next_is, next-lives, broadcast_there, waits_there, place_within, set_there, aborts_so, same_spare, act_full, act_kept, kept_so, slot_made, there_once}
use Rattle.cred_state.proofs.Acts.{act_sealed}
use Rattle.cred_tables.proofs.Bags.{bag-keeps}
use Rattle.cred_model.proofs.Places.{if_some}
use Rattle.cred_tables.proofs.Sealing.{current-held, drops, none_spare, seals_spare}
use Rattle.cred_tables.proofs.TokensOfLabels.{free_alone, free_apart}
use Rattle.cred_tables.proofs.Puts.{put_free}
use Rattle.cred_state.proofs.Reading.{found-place, found-sealed, found-slot, found-there, is_found, some_spare, stands_apart}
use Rattle.cred_state.proofs.Standing.{current-in_use}
use Rattle.cred_state.proofs.Reserved.{kept_spare}
use Rattle.cred_state.proofs.state.State.act_with.Goals as goal

pub renew_in-requires : goal.renew_in-requires
renew_in-requires c =
    let t = c.self.inside in
    let s = seen_state t in
    let sound = rw (← c.self.view_is) at c.requires.sound in
    let found = rw (← c.self.view_is) at c.requires.next in
    next-lives (next_is s c.args.number c.args.next.task sound found.least)

pub put_over-requires-clause-sealed : goal.put_over-requires-clause-sealed
put_over-requires-clause-sealed c =
    let t = c.self.inside in
    let s = seen_state t in
    let found = rw (← c.self.view_is) at c.requires.next in
    found-sealed c.self.invariant.0 c.args.next.now (is_found s.creds (λ (t : Task). t.current) (task_of s c.args.next.task) _ found.has)
    (current-in_use s c.args.next.task _ found.has)

pub put_over-requires-clause-apart : goal.put_over-requires-clause-apart
put_over-requires-clause-apart c =
    let t = c.self.inside in
    let s = seen_state t in
    let found = rw (← c.self.view_is) at c.requires.next in
    let seals = seals_spare {t = t.slots} c.in_ok-reserve.ensures.ok c.seal_next-new.ensures in
    stands_apart seals c.args.next.now.number c.args.next.now.slot
    (found-slot c.self.invariant.0 c.args.next.now (is_found s.creds (λ (t : Task). t.current) (task_of s c.args.next.task) _ found.has)
    (current-in_use s c.args.next.task _ found.has))
    (bag-keeps c.args.next.now.number seals.held (current-held c.self.invariant.0 c.args.next.task _ found.has))

pub put_over-requires-clause-valid : goal.put_over-requires-clause-valid
put_over-requires-clause-valid c =
    let t = c.self.inside in
    let s = seen_state t in
    let found = rw (← c.self.view_is) at c.requires.next in
    let there = is_found s.creds (λ (t : Task). t.current) (task_of s c.args.next.task) _ found.has in
    λ x at. rw (found-there t.master.slots t.slots.sealed c.args.next.now there x at) (rw (← c.self.view_is) at c.requires.valid)

pub put_over-requires-clause-alone : goal.put_over-requires-clause-alone
put_over-requires-clause-alone c =
    free_alone c.self.invariant.0 c.in-Some.slot (some_spare c.self.inside.slots c.in_ok-reserve.ensures.ok (sym c.in-Some.ensures)) _
    (rw (← c.self.view_is) at c.requires.out)

pub keep_step-requires-clause-own : goal.keep_step-requires-clause-own
keep_step-requires-clause-own c =
    let t = c.self.inside in
    let s = seen_state t in
    let found = rw (← c.self.view_is) at c.requires.next in
    let made =
    c.put_over.ensures.made _
    (found-place c.self.invariant.0 c.args.next.now (is_found s.creds (λ (t : Task). t.current) (task_of s c.args.next.task) _ found.has)
    (current-in_use s c.args.next.task _ found.has)) in
    ap (λ (m : Mastered). m.id) made ∙ rw (← c.self.view_is) at c.requires.own

pub keep_step-requires-clause-sealed : goal.keep_step-requires-clause-sealed
keep_step-requires-clause-sealed c =
    let t = c.self.inside in
    let s = seen_state t in
    let found = rw (← c.self.view_is) at c.requires.next in
    let made =
    c.put_over.ensures.made _
    (found-place c.self.invariant.0 c.args.next.now (is_found s.creds (λ (t : Task). t.current) (task_of s c.args.next.task) _ found.has)
    (current-in_use s c.args.next.task _ found.has)) in
    let seals = seals_spare {t = t.slots} c.in_ok-reserve.ensures.ok c.seal_next-new.ensures in
    (_, slot_made t.master c.in-Some.slot _ made c.put_over.ensures.long seals.in_table)

pub keep_step-requires-clause-made : goal.keep_step-requires-clause-made
keep_step-requires-clause-made c d at =
    let t = c.self.inside in
    let s = seen_state t in
    let sound = rw (← c.self.view_is) at c.requires.sound in
    let found = rw (← c.self.view_is) at c.requires.next in
    let next = next_is s c.args.number c.args.next.task sound found.least in
    let made =
    c.put_over.ensures.made _
    (found-place c.self.invariant.0 c.args.next.now (is_found s.creds (λ (t : Task). t.current) (task_of s c.args.next.task) _ found.has)
    (current-in_use s c.args.next.task _ found.has)) in
    let seals = seals_spare {t = t.slots} c.in_ok-reserve.ensures.ok c.seal_next-new.ensures in
    kept_so c.args.before (cred_under s.creds c.args.next.now.number) _ d (slice_get s.broadcasts c.args.next.broadcast) next.broadcast c.args.ids_changed
    (broadcast_there next c.args.next.broadcast found.under) (rw (← c.self.view_is) at c.requires.before) (rw (← c.self.view_is) at c.requires.made)
    (there_once at (slot_made t.master c.in-Some.slot _ made c.put_over.ensures.long seals.in_table))

pub seal_next-new-requires-clause-free : goal.seal_next-new-requires-clause-free
seal_next-new-requires-clause-free c = sym c.in-Some.ensures

pub set_current_at-requires : goal.set_current_at-requires
set_current_at-requires c =
    let t = c.self.inside in
    let s = seen_state t in
    let sound = rw (← c.self.view_is) at c.requires.sound in
    let found = rw (← c.self.view_is) at c.requires.next in
    let next = next_is s c.args.number c.args.next.task sound found.least in
    place_within next c.args.next.place found.there

pub drop_later-requires : goal.drop_later-requires
drop_later-requires c =
    let found = rw (← c.self.view_is) at c.requires.next in
    let seals = seals_spare {t = c.self.inside.slots} c.in_ok-reserve.ensures.ok c.seal_next-new.ensures in
    bag-keeps c.args.next.now.number seals.held (current-held c.self.invariant.0 c.args.next.task _ found.has)

pub act_at-left-requires : goal.act_at-left-requires
act_at-left-requires c =
    let t = c.self.inside in
    let s = seen_state t in
    let sound = rw (← c.self.view_is) at c.requires.sound in
    let found = rw (← c.self.view_is) at c.requires.next in
    let next = next_is s c.args.number c.args.next.task sound found.least in
    rw c.keep_step.ensures.broadcasts (waits_there next c.args.next.broadcast found.under)

pub invariant_of-self-2 : goal.invariant_of-self-2
invariant_of-self-2 c =
    let t = c.self.inside in
    let s = seen_state t in
    let sound = rw (← c.self.view_is) at c.requires.sound in
    let found = rw (← c.self.view_is) at c.requires.next in
    let next = next_is s c.args.number c.args.next.task sound found.least in
    let new = replacement (cred_under s.creds c.args.next.now.number) c.args.by.now in
    let rule =
    if_some (λ broadcast. MakesOf broadcast.call (cred_under s.creds c.args.next.now.number) new c.args.ids_changed)
    (slice_get s.broadcasts c.args.next.broadcast) next.broadcast
    (broadcast_there next c.args.next.broadcast found.under) (rw (← c.self.view_is) at c.requires.made) in
    let made =
    c.keep_step.ensures.master ∙ c.put_over.ensures.made _
    (found-place c.self.invariant.0 c.args.next.now (is_found s.creds (λ (t : Task). t.current) (task_of s c.args.next.task) _ found.has)
    (current-in_use s c.args.next.task _ found.has)) in
    let flags = c.renew_in.ensures next.owner next.lives
    ∙ ap (renewed t.flags next.owner.process) rule.differs_so in
    let broadcasts = c.act_at-left.ensures.broadcasts ∙ ap (waits_no_more c.args.next.task) c.keep_step.ensures.broadcasts in
    rw (set_there next _ found.there _ c.set_current_at.ensures, made, broadcasts, flags) (
      act_kept c.self.invariant.0 c.args.number c.args.next.task next _ found.has new rule.made c.put_over.ensures.long
          (seals_spare c.in_ok-reserve.ensures.ok c.seal_next-new.ensures) sound.tasks (drops c.drop_later.ensures.held c.drop_later.ensures.table),
      put_free t.prepared t.master.loans t.master.slots c.in-Some.slot (Some new)
          (free_apart c.self.invariant.0 c.in-Some.slot (some_spare t.slots c.in_ok-reserve.ensures.ok (sym c.in-Some.ensures))) c.self.invariant.1,
    )

pub returns-clause-ok : goal.returns-clause-ok
returns-clause-ok c =
    let t = c.self.inside in
    let s = seen_state t in
    let sound = rw (← c.self.view_is) at c.requires.sound in
    let found = rw (← c.self.view_is) at c.requires.next in
    let next = next_is s c.args.number c.args.next.task sound found.least in
    let new = replacement (cred_under s.creds c.args.next.now.number) c.args.by.now in
    let rule =
    if_some (λ broadcast. MakesOf broadcast.call (cred_under s.creds c.args.next.now.number) new c.args.ids_changed)
    (slice_get s.broadcasts c.args.next.broadcast) next.broadcast
    (broadcast_there next c.args.next.broadcast found.under) (rw (← c.self.view_is) at c.requires.made) in
    let made =
    c.keep_step.ensures.master ∙ c.put_over.ensures.made _
    (found-place c.self.invariant.0 c.args.next.now (is_found s.creds (λ (t : Task). t.current) (task_of s c.args.next.task) _ found.has)
    (current-in_use s c.args.next.task _ found.has)) in
    let left =
    if_some _ (slice_get s.broadcasts c.args.next.broadcast) next.broadcast (broadcast_there next c.args.next.broadcast found.under)
    (rw c.keep_step.ensures.broadcasts at c.act_at-left.ensures.left) in
    let flags = c.renew_in.ensures next.owner next.lives
    ∙ ap (renewed t.flags next.owner.process) rule.differs_so in
    let broadcasts = c.act_at-left.ensures.broadcasts ∙ ap (waits_no_more c.args.next.task) c.keep_step.ensures.broadcasts in
    rw (← c.self.view_is, set_there next _ found.there _ c.set_current_at.ensures, made, broadcasts, flags)
    (act_sealed c.self.invariant.0 c.args.number c.args.next.task next _ found.has new rule.made c.put_over.ensures.long
    (seals_spare c.in_ok-reserve.ensures.ok c.seal_next-new.ensures) sound.tasks (drops c.drop_later.ensures.held c.drop_later.ensures.table)
    c.act_at-left.result left)

pub returns-in_default-clause-ok : goal.returns-in_default-clause-ok
returns-in_default-clause-ok c =
    let t = c.self.inside in
    let parts = seen_parts t in
    let s = seen_state t in
    let sound = rw (← c.self.view_is) at c.requires.sound in
    let found = rw (← c.self.view_is) at c.requires.next in
    let next = next_is s c.args.number c.args.next.task sound found.least in
    let new = replacement (cred_under s.creds c.args.next.now.number) c.args.by.now in
    let rule =
    if_some (λ broadcast. MakesOf broadcast.call (cred_under s.creds c.args.next.now.number) new c.args.ids_changed)
    (slice_get s.broadcasts c.args.next.broadcast) next.broadcast
    (broadcast_there next c.args.next.broadcast found.under) (rw (← c.self.view_is) at c.requires.made) in
    let none = sym c.in_default.ensures in
    let ended = c.end_process_of in
    rw (← c.self.view_is)
    (aborts_so s (state_of parts t.master.slots c.reserve.new.self) c.args.number c.args.next.task Full ended.new.self.state next ended.result
    (same_spare parts t.master.slots t.slots c.in_ok-reserve.ensures.ok) ended.ensures.answer ended.ensures.state
    (act_full c.self.invariant.0 c.args.number c.args.next.task next _ found.has new rule.made
    (none_spare t.slots c.in_ok-reserve.ensures.ok none)))

pub returns-clause-words : goal.returns-clause-words
returns-clause-words c =
    let t = c.self.inside in
    let s = seen_state t in
    let found = rw (← c.self.view_is) at c.requires.next in
    let made =
    c.keep_step.ensures.master ∙ c.put_over.ensures.made _
    (found-place c.self.invariant.0 c.args.next.now (is_found s.creds (λ (t : Task). t.current) (task_of s c.args.next.task) _ found.has)
    (current-in_use s c.args.next.task _ found.has)) in
    rw (← c.self.view_is, made) refl

pub invariant_of-self : goal.invariant_of-self
invariant_of-self c = rw c.in_err-reserve.ensures.err c.self.invariant

pub invariant_of-self-in_default : goal.invariant_of-self-in_default
invariant_of-self-in_default c = (kept_spare c.self.invariant.0 c.in_ok-reserve.ensures.ok, c.self.invariant.1)

pub end_process_of-requires : goal.end_process_of-requires
end_process_of-requires c =
    let t = c.self.inside in
    let s = seen_state t in
    let sound = rw (← c.self.view_is) at c.requires.sound in
    let found = rw (← c.self.view_is) at c.requires.next in
    next-lives (next_is s c.args.number c.args.next.task sound found.least)
