use Rattle.std.proofs.Common.{◌≡◌, ◌+◌, List, [], ◌∷◌, ◌++◌, length, slice_get, Some, is_some, refl, sym, ap, ◌∙◌, subst}
use Rattle.std.specs.Prelude.{Contains}
use Rattle.std.specs.Option.{option_map}
use Rattle.cred_event.specs.declared.entry.Entry.{Entry}
use Rattle.cred_model.proofs.Names.{event_named}
use Rattle.cred_course.proofs.Courses.{line_at-place}
use Rattle.std.proofs.lemmas.List.Elements.{All-nil}
use Rattle.cred_names.specs.Labels.{event_labels}
use Rattle.cred_hold.specs.Tokens as lent
use Rattle.cred_tables.specs.Kept.{SharedWords}
use Rattle.cred_tables.specs.Out.{AreHome, AreOut}
use Rattle.cred_tables.proofs.TokensOfLabels.{IsToken}
use Rattle.cred_model.specs.Course.{after}
use Rattle.cred_commands.proofs.Pushed.{pushed_there}
use Rattle.cred_commands.proofs.RunningLine.{goes_first, goes_sound, goes_by, goes_out}
use Rattle.cred_commands.proofs.line.run_line.Goals as goal

pub events-init : goal.events-init
events-init c =
    let found = c.line.ensures.found in
    let is = c.in-Some.is in
    let here : slice_get c.args.script.now.lines c.args.past ≡ Some (record { lane = c.in-Some.field-0-0; content = c.in-Some.content.now })
    = sym (line_at-place c.args.script.now c.args.past) ∙ sym found ∙ ap (option_map _) is in (
      goes_first c.args.script.now c.args.past c.args.state.now.state c.args.entries.now.items _ c.in-Some.content.now c.start-course.result here refl
          c.start-course.ensures.value,
      refl,
    )

pub step-requires-clause-kind : goal.step-requires-clause-kind
step-requires-clause-kind c =
    event_named (length c.args.script.now.files) c.args.script.now.namespaces c.in-Some.content.now c.events.course c.in-Some-2.event
    c.in-Some.ensures.kind (sym c.in_ok-event.ensures.event ∙ c.in-Some-2.is)

pub step-requires-clause-sound : goal.step-requires-clause-sound
step-requires-clause-sound c = goes_sound _ _ _ _ _ _ _ _ c.requires.run c.events.invariant.0

pub step-requires-clause-own : goal.step-requires-clause-own
step-requires-clause-own c = ap (λ (w : SharedWords). w.id) c.events.invariant.1 ∙ c.requires.own

pub step-requires-clause-out : goal.step-requires-clause-out
step-requires-clause-out c =
    let none = ap (λ (w : SharedWords). w.out) c.events.invariant.1 ∙ c.requires.out in
    let s = c.events.state.state in
    subst (λ (es : List lent.Loan). AreOut s es) (sym none) (All-nil (λ (e : lent.Loan). IsToken s e))

pub step-requires-clause-home : goal.step-requires-clause-home
step-requires-clause-home c =
    let none = ap (λ (w : SharedWords). w.out) c.events.invariant.1 ∙ c.requires.out in
    let labels = event_labels c.in-Some-2.event in
    subst (λ (es : List lent.Loan). AreHome c.in-Some-2.event es) (sym none) (All-nil (λ (e : lent.Loan). Contains labels e.label → ⊥))

pub events-smaller : goal.events-smaller
events-smaller c =
    let there =
    pushed_there _ _ (record { line = c.args.past + 1; event = c.in-Some-2.event; answer = c.in_ok-step.field-0 }) c.index.result.now _
    c.push_reserved.ensures.items (c.len-place.ensures ∙ c.reserve.new.self.ok.0) c.index.ensures in
    (goes_by c.args.script.now c.args.past c.args.state.now.state c.events.state.state c.step.new.self.state c.args.entries.now.items c.events.entries.items
    c.push_reserved.new.self.items c.in-Some.content.now c.events.course c.advance.new.self c.in-Some-2.event (c.args.past + 1) c.in_ok-step.field-0
    c.requires.run c.events.invariant.0
    (sym c.in_ok-event.ensures.ended ∙ ap is_some c.in-Some-2.is) (sym c.in_ok-event.ensures.event ∙ c.in-Some-2.is) refl
    c.in_ok-step.ensures.ok (c.advance.ensures.after ∙ ap (λ (e : Entry). after c.in-Some.content.now c.events.course e.answer) there)
    (c.push_reserved.ensures.items
    ∙ ap (λ (js : List Entry). js ++ record { line = c.args.past + 1; event = c.in-Some-2.event; answer = c.in_ok-step.field-0 } ∷ [])
    c.in_ok-reserve.ensures.items)).falls

pub events-preserved : goal.events-preserved
events-preserved c =
    let there =
    pushed_there _ _ (record { line = c.args.past + 1; event = c.in-Some-2.event; answer = c.in_ok-step.field-0 }) c.index.result.now _
    c.push_reserved.ensures.items (c.len-place.ensures ∙ c.reserve.new.self.ok.0) c.index.ensures in (
      (goes_by c.args.script.now c.args.past c.args.state.now.state c.events.state.state c.step.new.self.state c.args.entries.now.items c.events.entries.items
          c.push_reserved.new.self.items c.in-Some.content.now c.events.course c.advance.new.self c.in-Some-2.event (c.args.past + 1) c.in_ok-step.field-0
          c.requires.run c.events.invariant.0
          (sym c.in_ok-event.ensures.ended ∙ ap is_some c.in-Some-2.is) (sym c.in_ok-event.ensures.event ∙ c.in-Some-2.is) refl
          c.in_ok-step.ensures.ok (c.advance.ensures.after ∙ ap (λ (e : Entry). after c.in-Some.content.now c.events.course e.answer) there)
          (c.push_reserved.ensures.items
          ∙ ap (λ (js : List Entry). js ++ record { line = c.args.past + 1; event = c.in-Some-2.event; answer = c.in_ok-step.field-0 } ∷ [])
          c.in_ok-reserve.ensures.items)).goes,
      c.step.ensures.words ∙ c.events.invariant.1,
    )

pub returns-clause-runs : goal.returns-clause-runs
returns-clause-runs c =
    goes_out c.args.script.now c.args.past c.args.state.now.state c.events.state.state c.args.entries.now.items c.events.entries.items c.in-Some.content.now
    c.events.course
    c.events.invariant.0 (sym c.in_ok-event.ensures.ended ∙ ap is_some c.in_default-2.is)
