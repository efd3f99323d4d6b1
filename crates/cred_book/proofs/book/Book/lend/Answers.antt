use Rattle.std.proofs.Common.{◌++◌, ◌≡◌, sym, ap, ◌∙◌, subst}
use Rattle.cred_model.specs.State.{State}
use Rattle.cred_model.specs.Journal.{replay}
use Rattle.cred_model.specs.Like.{IsLike}
use Rattle.cred_model.proofs.Likes.{like_trans}
use Rattle.cred_work.specs.declared.pending.Pending.{Pending}
use Rattle.cred_tables.specs.Kept.{Standing}
use Rattle.cred_tables.specs.Out.{AreHome, AreOut, tokens_in}
use Rattle.cred_tables.proofs.TokensOfLabels.{out_like, tokens_like}
use Rattle.cred_state.specs.TokensOut.{loans_of, with_lent}
use Rattle.cred_state.proofs.TokensOut.{like_lent}
use Rattle.cred_book.specs.Book.{Recorded}
use Rattle.cred_book.proofs.Entered.{follows_sound}
use Rattle.cred_book.proofs.LentTokens.{out_lent, words_lent}
use Rattle.cred_book.proofs.book.Book.lend.Goals as goal

pub lend-requires-clause-sound : goal.lend-requires-clause-sound
lend-requires-clause-sound c = follows_sound c.self.inside.script c.self.inside.state.state (c.self.inside.earlier ++ c.self.inside.kept.items) c.self.invariant.0

pub lend-requires-clause-out : goal.lend-requires-clause-out
lend-requires-clause-out c =
    out_like c.self.inside.state.state (replay c.self.inside.script (c.self.inside.earlier ++ c.self.inside.kept.items)) c.self.invariant.0.0 c.self.inside.state.words.out
    c.self.invariant.1

pub lend-requires-clause-home : goal.lend-requires-clause-home
lend-requires-clause-home c = subst (λ (r : Recorded). AreHome c.args.event.now r.words.out) (sym c.self.view_is) c.requires.home

pub invariant_of-self-2 : goal.invariant_of-self-2
invariant_of-self-2 c =
    let b = c.self.inside in
    let s : State = replay b.script (b.earlier ++ b.kept.items) in
    let lent : Pending = c.in_ok-lent.lent in
    let is : c.lend.new.self ≡ with_lent b.state lent = c.in_ok-lent.ensures.lent in
    let sound = follows_sound b.script b.state.state (b.earlier ++ b.kept.items) c.self.invariant.0 in
    let tokens : loans_of lent ≡ tokens_in b.state.state c.args.event.now = c.in_ok-lent.ensures.tokens in (
      (
        subst (λ (t : State). IsLike t s) (sym (ap (λ (x : Standing). x.state) is))
            (like_trans (with_lent b.state lent).state b.state.state s
            (like_lent b.state lent sound (tokens ∙ ap (tokens_in b.state.state) (sym c.in_ok-lent.ensures.of.1))) c.self.invariant.0.0),
        c.self.invariant.0.1,
      ),
      subst (AreOut s) (sym (ap (λ (x : Standing). x.words.out) is ∙ words_lent b.state lent))
          (out_lent s c.args.event.now lent b.state.words.out (tokens ∙ tokens_like b.state.state s c.self.invariant.0.0 c.args.event.now) c.self.invariant.1),
    )

pub returns-clause-tokens : goal.returns-clause-tokens
returns-clause-tokens c =
    let b = c.self.inside in
    subst (λ (r : Recorded). loans_of c.in_ok-lent.lent ≡ tokens_in (replay r.script r.journal) c.args.event.now) c.self.view_is
    (c.in_ok-lent.ensures.tokens ∙ tokens_like b.state.state (replay b.script (b.earlier ++ b.kept.items)) c.self.invariant.0.0 c.args.event.now)
