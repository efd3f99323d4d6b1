use Rattle.std.proofs.Common.{◌==◌, ◌∙◌, ap, slice_get, sym}
use Rattle.std.specs.Option.{option_and_then}
use Rattle.cred_broadcasts.proofs.Left.{none_there, placed_there, placed_within}
use Rattle.cred_model.specs.State.{Broadcast}
use Rattle.cred_model.proofs.Places.{if_some}
use Rattle.cred_state.proofs.Seen.{seen_state}
use Rattle.cred_state.proofs.Acts.{next_is, next-lives, least_is, place_within, current_there, act_none, act_without}
use Rattle.cred_state.proofs.state.State.next_in.Goals as goal

pub returns-in_default : goal.returns-in_default
returns-in_default c =
    let t = c.self.inside in
    let s = seen_state t in
    let none = none_there (λ (b : Broadcast). b.number == c.args.number) s.broadcasts (sym c.in_default.ensures) in
    rw (← c.self.view_is)
    (act_none s c.args.number (sym (ap (option_and_then (λ (b : Broadcast). slice_get b.waiting 0)) none)))

pub least_at-task-requires : goal.least_at-task-requires
least_at-task-requires c =
    let t = c.self.inside in
    placed_within (λ (b : Broadcast). b.number == c.args.number) t.broadcasts c.in-Some.broadcast (sym c.in-Some.ensures)

pub unwrap-place-requires : goal.unwrap-place-requires
unwrap-place-requires c =
    let t = c.self.inside in
    let s = seen_state t in
    let sound = rw (← c.self.view_is) at c.requires in
    let at = placed_within (λ (b : Broadcast). b.number == c.args.number) s.broadcasts c.in-Some.broadcast (sym c.in-Some.ensures) in
    let under = placed_there (λ (b : Broadcast). b.number == c.args.number) s.broadcasts c.in-Some.broadcast (sym c.in-Some.ensures) in
    let next = next_is s c.args.number c.least_at-task.result sound (least_is s c.args.number c.in-Some.broadcast _ under at c.least_at-task.ensures) in
    c.place-2.ensures.alive ∙ next-lives next

pub current_at-requires : goal.current_at-requires
current_at-requires c =
    let t = c.self.inside in
    let s = seen_state t in
    let sound = rw (← c.self.view_is) at c.requires in
    let at = placed_within (λ (b : Broadcast). b.number == c.args.number) s.broadcasts c.in-Some.broadcast (sym c.in-Some.ensures) in
    let under = placed_there (λ (b : Broadcast). b.number == c.args.number) s.broadcasts c.in-Some.broadcast (sym c.in-Some.ensures) in
    let next = next_is s c.args.number c.least_at-task.result sound (least_is s c.args.number c.in-Some.broadcast _ under at c.least_at-task.ensures) in
    place_within next _ (if_some _ _ _ c.unwrap-place.ensures c.place-2.ensures.place)

pub returns-in_default-sealed_at : goal.returns-in_default-sealed_at
returns-in_default-sealed_at c =
    let t = c.self.inside in
    let s = seen_state t in
    let sound = rw (← c.self.view_is) at c.requires in
    let at = placed_within (λ (b : Broadcast). b.number == c.args.number) s.broadcasts c.in-Some.broadcast (sym c.in-Some.ensures) in
    let under = placed_there (λ (b : Broadcast). b.number == c.args.number) s.broadcasts c.in-Some.broadcast (sym c.in-Some.ensures) in
    let next = next_is s c.args.number c.least_at-task.result sound (least_is s c.args.number c.in-Some.broadcast _ under at c.least_at-task.ensures) in
    let there = if_some _ _ _ c.unwrap-place.ensures c.place-2.ensures.place in
    let none = (rw (← c.self.view_is) at c.in_default-sealed_at.ensures) ∙ current_there next _ there _ c.current_at.ensures in
    rw (← c.self.view_is) (act_without s c.args.number c.least_at-task.result next (sym none))

pub returns : goal.returns
returns c =
    let t = c.self.inside in
    let s = seen_state t in
    let sound = rw (← c.self.view_is) at c.requires in
    let at = placed_within (λ (b : Broadcast). b.number == c.args.number) s.broadcasts c.in-Some.broadcast (sym c.in-Some.ensures) in
    let under = placed_there (λ (b : Broadcast). b.number == c.args.number) s.broadcasts c.in-Some.broadcast (sym c.in-Some.ensures) in
    let least = least_is s c.args.number c.in-Some.broadcast _ under at c.least_at-task.ensures in
    let next = next_is s c.args.number c.least_at-task.result sound least in
    let there = if_some _ _ _ c.unwrap-place.ensures c.place-2.ensures.place in
    let has = (rw (← c.self.view_is) at c.in-Some-sealed_at.ensures) ∙ current_there next _ there _ c.current_at.ensures in
    rw (← c.self.view_is) (record { under = under; least = least; there = there; has = sym has })
