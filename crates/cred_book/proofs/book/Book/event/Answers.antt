use Rattle.std.proofs.Common.{◌∙◌, ◌++◌, ◌∷◌, [], List, sym, ap, subst}
use Rattle.cred_event.specs.declared.answer.Answer.{Answer}
use Rattle.cred_event.specs.declared.entry.Entry.{Entry}
use Rattle.cred_model.specs.Journal.{replay}
use Rattle.cred_tables.specs.Kept.{SharedWords}
use Rattle.cred_tables.specs.Out.{AreHome, AreOut}
use Rattle.cred_tables.proofs.TokensOfLabels.{out_like}
use Rattle.cred_book.specs.Book.{Recorded, answer_of}
use Rattle.cred_book.proofs.Entered.{all_grown, follows_sound, replays, enters, left_out, out_after}
use Rattle.cred_book.proofs.book.Book.event.Goals as goal

pub step-requires-clause-sound : goal.step-requires-clause-sound
step-requires-clause-sound c = follows_sound c.self.inside.script c.self.inside.state.state (c.self.inside.earlier ++ c.self.inside.kept.items) c.self.invariant.0

pub step-requires-clause-home : goal.step-requires-clause-home
step-requires-clause-home c = subst (λ (r : Recorded). AreHome c.args.event r.words.out) (sym c.self.view_is) c.requires.home

pub step-requires-clause-out : goal.step-requires-clause-out
step-requires-clause-out c =
    out_like c.self.inside.state.state (replay c.self.inside.script (c.self.inside.earlier ++ c.self.inside.kept.items)) c.self.invariant.0.0 c.self.inside.state.words.out
    c.self.invariant.1

pub invariant_of-self-2 : goal.invariant_of-self-2
invariant_of-self-2 c =
    let entry : Entry = record { line = c.args.line; event = c.args.event; answer = c.in-Ok-step.answer } in
    let longer = all_grown c.self.inside.earlier c.self.inside.kept.items c.push_reserved.new.self.items entry
    (c.push_reserved.ensures.items ∙ ap (λ (js : List Entry). js ++ entry ∷ []) c.in-Ok.ensures.items) in (
      enters c.self.inside.script c.self.inside.state.state c.step.new.self.state (c.self.inside.earlier ++ c.self.inside.kept.items) (c.self.inside.earlier ++ c.push_reserved.new.self.items) entry
          c.self.invariant.0 c.in-Ok-step.ensures.ok longer,
      subst (λ (w : SharedWords). AreOut (replay c.self.inside.script (c.self.inside.earlier ++ c.push_reserved.new.self.items)) w.out) (sym c.step.ensures.words)
          (out_after c.self.inside.script (c.self.inside.earlier ++ c.self.inside.kept.items) (c.self.inside.earlier ++ c.push_reserved.new.self.items) entry c.self.inside.state.words.out
          (subst (λ (r : Recorded). AreHome c.args.event r.words.out) (sym c.self.view_is) c.requires.home) c.self.invariant.1 longer),
    )

pub invariant_of-self-in_default-copy_answer : goal.invariant_of-self-in_default-copy_answer
invariant_of-self-in_default-copy_answer c =
    let entry : Entry = record { line = c.args.line; event = c.args.event; answer = c.in-Ok-step.answer } in
    rw c.in-Ok.ensures.items (
      left_out c.self.inside.script c.self.inside.state.state c.step.new.self.state (c.self.inside.earlier ++ c.self.inside.kept.items) entry
          c.self.invariant.0 c.in-Ok-step.ensures.ok c.in_default-copy_answer.ensures.refusal,
      subst (λ (w : SharedWords). AreOut (replay c.self.inside.script (c.self.inside.earlier ++ c.self.inside.kept.items)) w.out) (sym c.step.ensures.words) c.self.invariant.1,
    )

pub returns-clause-entered : goal.returns-clause-entered
returns-clause-entered c =
    let b = c.self.inside in
    let entry : Answer → Entry = λ answer. record { line = c.args.line; event = c.args.event; answer = answer } in
    let longer = all_grown c.self.inside.earlier c.self.inside.kept.items c.push_reserved.new.self.items (entry c.in-Ok-step.answer)
    (c.push_reserved.ensures.items ∙ ap (λ (js : List Entry). js ++ entry c.in-Ok-step.answer ∷ []) c.in-Ok.ensures.items) in
    let made = replays b.script b.state.state c.step.new.self.state (b.earlier ++ b.kept.items) (entry c.in-Ok-step.answer) c.self.invariant.0 c.in-Ok-step.ensures.ok in
    rw (← c.self.view_is)
    (let grown = longer ∙ ap (λ (answer : Answer). (b.earlier ++ b.kept.items) ++ entry answer ∷ []) (sym made.answers) in
    λ k.
    record {
      script = b.script;
      journal = grown k;
      earlier = b.earlier;
      cursors = b.cursors;
      ended = b.ended.items;
      outs = b.outs.items;
      words = c.step.ensures.words k;
      places = c.step.new.self.places;
    })

pub returns-clause-answer : goal.returns-clause-answer
returns-clause-answer c =
    let b = c.self.inside in
    let entry : Entry = record { line = c.args.line; event = c.args.event; answer = c.in-Ok-step.answer } in
    let made = replays b.script b.state.state c.step.new.self.state (b.earlier ++ b.kept.items) entry c.self.invariant.0 c.in-Ok-step.ensures.ok in
    c.in-Ok-copy_answer.ensures.equal ∙ sym made.answers ∙ ap (λ (r : Recorded). answer_of r c.args.line c.args.event) c.self.view_is

pub returns-in_default-copy_answer-clause-in_place : goal.returns-in_default-copy_answer-clause-in_place
returns-in_default-copy_answer-clause-in_place c = c.check_in_place-in_default-copy_answer.ensures
