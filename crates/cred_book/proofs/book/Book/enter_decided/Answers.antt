use Rattle.std.proofs.Common.{◌≡◌, ℕ, List, [], ◌∷◌, ◌++◌, sym, ap, ◌∙◌, subst}
use Rattle.std.specs.Option.{IfSome}
use Rattle.cred_record.specs.File.{File}
use Rattle.cred_event.specs.declared.answer.Answer.{Answer}
use Rattle.cred_event.specs.declared.entry.Entry.{Entry}
use Rattle.cred_event.specs.declared.event.Event.{Event}
use Rattle.cred_model.specs.Course as model
use Rattle.cred_model.specs.Journal.{replay}
use Rattle.cred_model.specs.Like.{GivesLike}
use Rattle.cred_model.specs.Step.{done}
use Rattle.cred_script.specs.Lines.{line_at}
use Rattle.cred_course.specs.Cursor.{MovesOnTo}
use Rattle.cred_work.specs.Decisions.{IsRight, work_event}
use Rattle.cred_model.specs.Named.{event_files}
use Rattle.cred_model.specs.State.{info_of}
use Rattle.cred_work.specs.declared.pending.Pending.{Pending}
use Rattle.cred_work.specs.Work.{Work}
use Rattle.cred_tables.specs.Out.{AreBack}
use Rattle.cred_tables.proofs.TokensOfLabels.{out_like}
use Rattle.cred_state.specs.TokensOut.{AreTaken, IsChain, loans_of}
use Rattle.cred_book.specs.Book.{Recorded, answer_of, inodes_in}
use Rattle.cred_book.proofs.Entered.{all_grown, enters, follows_sound, out_left, replays}
use Rattle.cred_book.proofs.Finished.{left_there, lent_waits}
use Rattle.cred_book.proofs.book.Book.enter_decided.Goals as goal

pub enter-requires-clause-sound : goal.enter-requires-clause-sound
enter-requires-clause-sound c = follows_sound c.self.inside.script c.self.inside.state.state (c.self.inside.earlier ++ c.self.inside.kept.items) c.self.invariant.0

pub enter-requires-clause-out : goal.enter-requires-clause-out
enter-requires-clause-out c =
    out_like c.self.inside.state.state (replay c.self.inside.script (c.self.inside.earlier ++ c.self.inside.kept.items)) c.self.invariant.0.0 c.self.inside.state.words.out
    c.self.invariant.1

pub invariant_of-self-in-Ok-enter : goal.invariant_of-self-in-Ok-enter
invariant_of-self-in-Ok-enter c =
    let b = c.self.inside in
    let w : Work = c.args.work in
    let apart = c.into_parts-asked.ensures in
    let line : c.line-line.result ≡ w.line = c.line-line.ensures ∙ ap (λ (x : Work). x.line) (sym apart) in
    let entered : c.event-event.result ≡ work_event w.lent = c.event-event.ensures ∙ ap (λ (x : Work). work_event x.lent) (sym apart) in
    let lent : c.into_parts-asked.result.1 ≡ w.lent = ap (λ (x : Work). x.lent) (sym apart) in
    let taken : AreTaken (loans_of w.lent) b.state.words.out c.enter.new.self.words.out
    = subst (λ (l : Pending). AreTaken (loans_of l) b.state.words.out c.enter.new.self.words.out) lent c.in-Ok-enter.ensures.taken in
    let its : work_event c.into_parts-asked.result.1 ≡ work_event w.lent = ap work_event lent in
    let chain =
    subst (λ (l : Pending). IsChain b.script l w.chain) (sym lent)
    (subst (λ (r : Recorded). IsChain r.script w.lent w.chain) (sym c.self.view_is) c.requires.of.chain) in
    let file : w.file ≡ info_of b.state.state.inodes (event_files (work_event w.lent))
    = c.requires.of.file
    ∙ ap (λ (r : Recorded). info_of (inodes_in r) (event_files (work_event w.lent))) (sym c.self.view_is)
    ∙ ap (λ (is : List File). info_of is (event_files (work_event w.lent))) (sym c.self.invariant.0.0.inodes) in
    let right = subst (λ (l : Pending). IsRight (info_of b.state.state.inodes (event_files (work_event l))) w.chain l) (sym lent)
    (subst (λ f. IsRight f w.chain w.lent) file c.requires.decided.right) in
    let ok : GivesLike b.state.state (done b.script b.state.state w.line (work_event w.lent)) c.in-Ok-enter.answer c.enter.new.self.state
    = subst (λ (e : Event). GivesLike b.state.state (done b.script b.state.state w.line e) c.in-Ok-enter.answer c.enter.new.self.state) its
    (c.in-Ok-enter.ensures.ok b.script w.line w.chain chain right) in
    let entry : ℕ → Event → Answer → Entry = λ line event answer. record { line = line; event = event; answer = answer } in
    let longer = all_grown c.self.inside.earlier c.self.inside.kept.items c.push_reserved.new.self.items (entry c.line-line.result c.event-event.result c.in-Ok-enter.answer)
    (c.push_reserved.ensures.items ∙ ap (λ (js : List Entry). js ++ entry c.line-line.result c.event-event.result c.in-Ok-enter.answer ∷ []) c.reserve.ensures.items)
    ∙ ap (λ (n : ℕ). (b.earlier ++ b.kept.items) ++ entry n c.event-event.result c.in-Ok-enter.answer ∷ []) line
    ∙ ap (λ (e : Event). (b.earlier ++ b.kept.items) ++ entry w.line e c.in-Ok-enter.answer ∷ []) entered in (
      enters b.script b.state.state c.enter.new.self.state (b.earlier ++ b.kept.items) (c.self.inside.earlier ++ c.push_reserved.new.self.items)
          (entry w.line (work_event w.lent) c.in-Ok-enter.answer)
          c.self.invariant.0 ok longer,
      out_left b.script (b.earlier ++ b.kept.items) (c.self.inside.earlier ++ c.push_reserved.new.self.items) (entry w.line (work_event w.lent) c.in-Ok-enter.answer) b.state.words.out
          c.enter.new.self.words.out (lent_waits w.lent)
          (left_there (loans_of w.lent) b.state.words.out c.enter.new.self.words.out taken) c.self.invariant.1 longer,
    )

pub returns-in-Ok-enter-clause-entered : goal.returns-in-Ok-enter-clause-entered
returns-in-Ok-enter-clause-entered c =
    let b = c.self.inside in
    let w : Work = c.args.work in
    let apart = c.into_parts-asked.ensures in
    let line : c.line-line.result ≡ w.line = c.line-line.ensures ∙ ap (λ (x : Work). x.line) (sym apart) in
    let entered : c.event-event.result ≡ work_event w.lent = c.event-event.ensures ∙ ap (λ (x : Work). work_event x.lent) (sym apart) in
    let lent : c.into_parts-asked.result.1 ≡ w.lent = ap (λ (x : Work). x.lent) (sym apart) in
    let taken : AreTaken (loans_of w.lent) b.state.words.out c.enter.new.self.words.out
    = subst (λ (l : Pending). AreTaken (loans_of l) b.state.words.out c.enter.new.self.words.out) lent c.in-Ok-enter.ensures.taken in
    let back : AreBack (loans_of w.lent) b.state.words c.enter.new.self.words
    = subst (λ (l : Pending). AreBack (loans_of l) b.state.words c.enter.new.self.words) lent c.in-Ok-enter.ensures.back in
    let its : work_event c.into_parts-asked.result.1 ≡ work_event w.lent = ap work_event lent in
    let chain =
    subst (λ (l : Pending). IsChain b.script l w.chain) (sym lent)
    (subst (λ (r : Recorded). IsChain r.script w.lent w.chain) (sym c.self.view_is) c.requires.of.chain) in
    let file : w.file ≡ info_of b.state.state.inodes (event_files (work_event w.lent))
    = c.requires.of.file
    ∙ ap (λ (r : Recorded). info_of (inodes_in r) (event_files (work_event w.lent))) (sym c.self.view_is)
    ∙ ap (λ (is : List File). info_of is (event_files (work_event w.lent))) (sym c.self.invariant.0.0.inodes) in
    let right = subst (λ (l : Pending). IsRight (info_of b.state.state.inodes (event_files (work_event l))) w.chain l) (sym lent)
    (subst (λ f. IsRight f w.chain w.lent) file c.requires.decided.right) in
    let ok : GivesLike b.state.state (done b.script b.state.state w.line (work_event w.lent)) c.in-Ok-enter.answer c.enter.new.self.state
    = subst (λ (e : Event). GivesLike b.state.state (done b.script b.state.state w.line e) c.in-Ok-enter.answer c.enter.new.self.state) its
    (c.in-Ok-enter.ensures.ok b.script w.line w.chain chain right) in
    let entry : ℕ → Event → Answer → Entry = λ line event answer. record { line = line; event = event; answer = answer } in
    let longer = all_grown c.self.inside.earlier c.self.inside.kept.items c.push_reserved.new.self.items (entry c.line-line.result c.event-event.result c.in-Ok-enter.answer)
    (c.push_reserved.ensures.items ∙ ap (λ (js : List Entry). js ++ entry c.line-line.result c.event-event.result c.in-Ok-enter.answer ∷ []) c.reserve.ensures.items)
    ∙ ap (λ (n : ℕ). (b.earlier ++ b.kept.items) ++ entry n c.event-event.result c.in-Ok-enter.answer ∷ []) line
    ∙ ap (λ (e : Event). (b.earlier ++ b.kept.items) ++ entry w.line e c.in-Ok-enter.answer ∷ []) entered in
    let made =
    replays b.script b.state.state c.enter.new.self.state (b.earlier ++ b.kept.items) (entry w.line (work_event w.lent) c.in-Ok-enter.answer) c.self.invariant.0 ok in
    let grown = longer ∙ ap (λ (answer : Answer). (b.earlier ++ b.kept.items) ++ entry w.line (work_event w.lent) answer ∷ []) (sym made.answers) in
    rw (← c.self.view_is)
    (record {
      same = λ k. record {
        script = b.script;
        journal = grown k;
        earlier = b.earlier;
        cursors = b.cursors;
        ended = b.ended.items;
        outs = b.outs.items;
        words = c.enter.new.self.words;
        places = c.enter.new.self.places;
      };
      words = back;
      taken = taken;
    })

pub returns-in-Ok-enter-clause-passes : goal.returns-in-Ok-enter-clause-passes
returns-in-Ok-enter-clause-passes c =
    let b = c.self.inside in
    let w : Work = c.args.work in
    let apart = c.into_parts-asked.ensures in
    let lent : c.into_parts-asked.result.1 ≡ w.lent = ap (λ (x : Work). x.lent) (sym apart) in
    let its : work_event c.into_parts-asked.result.1 ≡ work_event w.lent = ap work_event lent in
    let chain =
    subst (λ (l : Pending). IsChain b.script l w.chain) (sym lent)
    (subst (λ (r : Recorded). IsChain r.script w.lent w.chain) (sym c.self.view_is) c.requires.of.chain) in
    let file : w.file ≡ info_of b.state.state.inodes (event_files (work_event w.lent))
    = c.requires.of.file
    ∙ ap (λ (r : Recorded). info_of (inodes_in r) (event_files (work_event w.lent))) (sym c.self.view_is)
    ∙ ap (λ (is : List File). info_of is (event_files (work_event w.lent))) (sym c.self.invariant.0.0.inodes) in
    let right = subst (λ (l : Pending). IsRight (info_of b.state.state.inodes (event_files (work_event l))) w.chain l) (sym lent)
    (subst (λ f. IsRight f w.chain w.lent) file c.requires.decided.right) in
    let ok : GivesLike b.state.state (done b.script b.state.state w.line (work_event w.lent)) c.in-Ok-enter.answer c.enter.new.self.state
    = subst (λ (e : Event). GivesLike b.state.state (done b.script b.state.state w.line e) c.in-Ok-enter.answer c.enter.new.self.state) its
    (c.in-Ok-enter.ensures.ok b.script w.line w.chain chain right) in
    let entry : Entry = record { line = w.line; event = (work_event w.lent); answer = c.in-Ok-enter.answer } in
    let made = replays b.script b.state.state c.enter.new.self.state (b.earlier ++ b.kept.items) entry c.self.invariant.0 ok in
    let book : Recorded = record {
      script = b.script;
      journal = b.earlier ++ b.kept.items;
      earlier = b.earlier;
      cursors = b.cursors;
      ended = b.ended.items;
      outs = b.outs.items;
      words = b.state.words;
      places = b.state.places;
    } in
    let answer : c.in-Ok-enter.answer ≡ answer_of book c.args.course.line (work_event w.lent)
    = sym made.answers ∙ ap (λ (n : ℕ). answer_of book n (work_event w.lent)) (sym c.requires.number) in
    let passes = subst
    (λ (a : Answer). IfSome (line_at b.script c.args.course.line)
    (λ line. MovesOnTo b.script c.args.lane (model.after line.content c.args.course a) c.cursor_after-cursor.result))
    answer c.cursor_after-cursor.ensures in
    subst
    (λ (r : Recorded). IfSome (line_at r.script c.args.course.line)
    (λ line. MovesOnTo r.script c.args.lane (model.after line.content c.args.course (answer_of r c.args.course.line (work_event w.lent)))
    c.cursor_after-cursor.result))
    c.self.view_is passes
