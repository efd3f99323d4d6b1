use Rattle.std.proofs.Common.{◌≡◌, ℕ, ◌∙◌, ◌++◌, ◌∷◌, [], List, sym, ap, subst}
use Rattle.std.specs.Option.{IfSome}
use Rattle.cred_event.specs.declared.answer.Answer.{Answer}
use Rattle.cred_event.specs.declared.entry.Entry.{Entry}
use Rattle.cred_model.specs.Course as model
use Rattle.cred_model.specs.Journal.{replay}
use Rattle.cred_script.specs.Lines.{line_at}
use Rattle.cred_course.specs.Cursor.{MovesOnTo}
use Rattle.cred_tables.specs.Kept.{SharedWords}
use Rattle.cred_tables.specs.Out.{AreHome, AreOut}
use Rattle.cred_tables.proofs.TokensOfLabels.{out_like}
use Rattle.cred_book.specs.Book.{Recorded, answer_of}
use Rattle.cred_book.proofs.Entered.{all_grown, follows_sound, replays, enters, out_after}
use Rattle.cred_book.proofs.book.Book.enter.Goals as goal

pub step-requires-clause-sound : goal.step-requires-clause-sound
step-requires-clause-sound c = follows_sound c.self.inside.script c.self.inside.state.state (c.self.inside.earlier ++ c.self.inside.kept.items) c.self.invariant.0

pub step-requires-clause-home : goal.step-requires-clause-home
step-requires-clause-home c = subst (λ (r : Recorded). AreHome c.args.event r.words.out) (sym c.self.view_is) c.requires.home

pub step-requires-clause-out : goal.step-requires-clause-out
step-requires-clause-out c =
    out_like c.self.inside.state.state (replay c.self.inside.script (c.self.inside.earlier ++ c.self.inside.kept.items)) c.self.invariant.0.0 c.self.inside.state.words.out
    c.self.invariant.1

pub invariant_of-self-2 : goal.invariant_of-self-2
invariant_of-self-2 c =
    let entry : Entry = record { line = c.line-line.result; event = c.args.event; answer = c.in-Ok-step.answer } in
    let longer = all_grown c.self.inside.earlier c.self.inside.kept.items c.push_reserved.new.self.items entry
    (c.push_reserved.ensures.items ∙ ap (λ (js : List Entry). js ++ entry ∷ []) c.in-Ok.ensures.items) in (
      enters c.self.inside.script c.self.inside.state.state c.step.new.self.state (c.self.inside.earlier ++ c.self.inside.kept.items) (c.self.inside.earlier ++ c.push_reserved.new.self.items) entry
          c.self.invariant.0 c.in-Ok-step.ensures.ok longer,
      subst (λ (w : SharedWords). AreOut (replay c.self.inside.script (c.self.inside.earlier ++ c.push_reserved.new.self.items)) w.out) (sym c.step.ensures.words)
          (out_after c.self.inside.script (c.self.inside.earlier ++ c.self.inside.kept.items) (c.self.inside.earlier ++ c.push_reserved.new.self.items) entry c.self.inside.state.words.out
          (subst (λ (r : Recorded). AreHome c.args.event r.words.out) (sym c.self.view_is) c.requires.home) c.self.invariant.1 longer),
    )

pub returns-clause-entered : goal.returns-clause-entered
returns-clause-entered c =
    let b = c.self.inside in
    let number : c.line-line.result ≡ c.args.course.line = c.line-line.ensures.value in
    let entry : ℕ → Answer → Entry = λ line answer. record { line = line; event = c.args.event; answer = answer } in
    let longer = all_grown c.self.inside.earlier c.self.inside.kept.items c.push_reserved.new.self.items (entry c.line-line.result c.in-Ok-step.answer)
    (c.push_reserved.ensures.items ∙ ap (λ (js : List Entry). js ++ entry c.line-line.result c.in-Ok-step.answer ∷ []) c.in-Ok.ensures.items) in
    let made =
    replays b.script b.state.state c.step.new.self.state (b.earlier ++ b.kept.items) (entry c.line-line.result c.in-Ok-step.answer) c.self.invariant.0
    c.in-Ok-step.ensures.ok in
    rw (← c.self.view_is)
    (let grown = longer ∙ ap (λ (answer : Answer). (b.earlier ++ b.kept.items) ++ entry c.line-line.result answer ∷ []) (sym made.answers)
    ∙ ap
    (λ (n : ℕ). (b.earlier ++ b.kept.items) ++ entry n
    (answer_of
    (record {
      script = b.script;
      journal = b.earlier ++ b.kept.items;
      earlier = b.earlier;
      cursors = b.cursors;
      ended = b.ended.items;
      outs = b.outs.items;
      words = b.state.words;
      places = b.state.places;
    })
    n c.args.event)
    ∷ [])
    number in
    λ k.
    record {
      script = b.script;
      journal = grown k;
      earlier = b.earlier;
      cursors = b.cursors;
      ended = b.ended.items;
      outs = b.outs.items;
      words = c.step.ensures.words k;
      places = c.step.new.self.places;
    })

pub returns-clause-passes : goal.returns-clause-passes
returns-clause-passes c =
    let b = c.self.inside in
    let number : c.line-line.result ≡ c.args.course.line = c.line-line.ensures.value in
    let entry : Entry = record { line = c.line-line.result; event = c.args.event; answer = c.in-Ok-step.answer } in
    let made = replays b.script b.state.state c.step.new.self.state (b.earlier ++ b.kept.items) entry c.self.invariant.0 c.in-Ok-step.ensures.ok in
    let book : Recorded =
    record {
      script = b.script;
      journal = b.earlier ++ b.kept.items;
      earlier = b.earlier;
      cursors = b.cursors;
      ended = b.ended.items;
      outs = b.outs.items;
      words = b.state.words;
      places = b.state.places;
    } in
    let answer : c.in-Ok-step.answer ≡ answer_of book c.args.course.line c.args.event
    = sym made.answers ∙ ap (λ (n : ℕ). answer_of book n c.args.event) number in
    let passes = subst
    (λ (a : Answer). IfSome (line_at b.script c.args.course.line)
    (λ line. MovesOnTo b.script c.args.lane (model.after line.content c.args.course a) c.cursor_after-cursor.result))
    answer c.cursor_after-cursor.ensures in
    subst
    (λ (r : Recorded). IfSome (line_at r.script c.args.course.line)
    (λ line. MovesOnTo r.script c.args.lane (model.after line.content c.args.course (answer_of r c.args.course.line c.args.event))
    c.cursor_after-cursor.result))
    c.self.view_is passes
