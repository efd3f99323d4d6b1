-- No event can tell apart two states that are alike.
use Rattle.std.proofs.Common.{◌≡◌, ℕ, slice_get, refl, sym, ap, ◌∙◌, subst}
use Rattle.std.specs.List.{All}
use Rattle.cred_event.specs.declared.event.Event.{Event}
use Rattle.cred_event.specs.declared.answer.Answer.{Answer}
use Rattle.cred_model.specs.Script.{Script}
use Rattle.cred_model.specs.State.{State}
use Rattle.cred_model.specs.Slots.{refs}
use Rattle.cred_model.specs.Step.{step}
use Rattle.cred_model.specs.Like.{IsLike, AreAlike, IsOutcomeLike}
use Rattle.cred_model.proofs.LikeTests.{outcome_like}
use Rattle.cred_model.proofs.LikeEvents.{done_like}

-- ---- likeness

pub like_self : (s : State) → IsLike s s
like_self s =
    record {
      tasks = refl;
      broadcasts = refl;
      files = refl;
      holds = refl;
      prepared = refl;
      deferred = refl;
      dumpable = refl;
      inodes = refl;
      slots = refl;
      creds = λ k d lt. refl;
    }

pub refs_same : (a b : State) → IsLike a b → refs a ≡ refs b
refs_same a b like =
    ap (λ ts. refs (record a { tasks = ts })) like.tasks
    ∙ ap (λ fs. refs (record a { tasks = b.tasks; files = fs })) like.files
    ∙ ap (λ hs. refs (record a { tasks = b.tasks; files = b.files; holds = hs })) like.holds
    ∙ ap (λ ps. refs (record b { prepared = ps; deferred = a.deferred; dumpable = a.dumpable; inodes = a.inodes; creds = a.creds })) like.prepared
    ∙ ap (λ ds. refs (record b { deferred = ds; dumpable = a.dumpable; inodes = a.inodes })) like.deferred
    ∙ ap (λ fs. refs (record b { dumpable = fs; inodes = a.inodes })) like.dumpable
    ∙ ap (λ is. refs (record b { inodes = is })) like.inodes

pub like_sym : (a b : State) → IsLike a b → IsLike b a
like_sym a b like = record {
  tasks = sym like.tasks;
  broadcasts = sym like.broadcasts;
  files = sym like.files;
  holds = sym like.holds;
  prepared = sym like.prepared;
  deferred = sym like.deferred;
  dumpable = sym like.dumpable;
  inodes = sym like.inodes;
  slots = sym like.slots;
  creds = subst (All (λ n. slice_get b.creds n ≡ slice_get a.creds n)) (refs_same a b like) (λ k d lt. sym (like.creds k d lt));
}

pub like_trans : (a b c : State) → IsLike a b → IsLike b c → IsLike a c
like_trans a b c first second =
    let on : All (λ n. slice_get b.creds n ≡ slice_get c.creds n) (refs a)
    = subst (All (λ n. slice_get b.creds n ≡ slice_get c.creds n)) (sym (refs_same a b first)) second.creds in
    record {
      tasks = first.tasks ∙ second.tasks;
      broadcasts = first.broadcasts ∙ second.broadcasts;
      files = first.files ∙ second.files;
      holds = first.holds ∙ second.holds;
      prepared = first.prepared ∙ second.prepared;
      deferred = first.deferred ∙ second.deferred;
      dumpable = first.dumpable ∙ second.dumpable;
      inodes = first.inodes ∙ second.inodes;
      slots = first.slots ∙ second.slots;
      creds = λ k d lt. first.creds k d lt ∙ on k d lt;
    }

-- ---- a step

pub like_step : (script : Script) (a b : State) (line : ℕ) (event : Event) → IsLike a b
    → AreAlike (step script a line event) (step script b line event)
like_step script a b line event like =
    let other : record a { creds = b.creds } ≡ b
    = ap (λ ts. record a { tasks = ts; creds = b.creds }) like.tasks
    ∙ ap (λ xs. record a { tasks = b.tasks; broadcasts = xs; creds = b.creds }) like.broadcasts
    ∙ ap (λ fs. record a { tasks = b.tasks; broadcasts = b.broadcasts; files = fs; creds = b.creds }) like.files
    ∙ ap (λ hs. record b { holds = hs; prepared = a.prepared; deferred = a.deferred; dumpable = a.dumpable; inodes = a.inodes }) like.holds
    ∙ ap (λ ps. record b { prepared = ps; deferred = a.deferred; dumpable = a.dumpable; inodes = a.inodes }) like.prepared
    ∙ ap (λ ds. record b { deferred = ds; dumpable = a.dumpable; inodes = a.inodes }) like.deferred
    ∙ ap (λ fs. record b { dumpable = fs; inodes = a.inodes }) like.dumpable
    ∙ ap (λ is. record b { inodes = is }) like.inodes in
    let with_creds : IsLike a (record a { creds = b.creds })
    = record {
      tasks = refl;
      broadcasts = refl;
      files = refl;
      holds = refl;
      prepared = refl;
      deferred = refl;
      dumpable = refl;
      inodes = refl;
      slots = like.slots;
      creds = like.creds;
    } in
    subst (λ b. AreAlike (step script a line event) (step script b line event)) other
    (outcome_like a (record a { creds = b.creds }) _ _ with_creds (done_like script a b.creds line with_creds event))

-- ---- what an event does

-- what an equation says
pub does_same : (gives : Answer × State) (answer : Answer) (after : State) → gives ≡ (answer, after) → IsOutcomeLike gives answer after
does_same gives answer after is = rw is (record { answers = refl; leads = like_self after })

-- in a state like the one before, it does the same
pub does_like : (script : Script) (a b : State) (line : ℕ) (event : Event) (answer : Answer) (after : State) → IsLike a b
    → IsOutcomeLike (step script a line event) answer after → IsOutcomeLike (step script b line event) answer after
does_like script a b line event answer after like does =
    let alike = like_step script a b line event like in
    record {
      answers = sym alike.answers ∙ does.answers;
      leads = like_trans after (step script a line event).1 (step script b line event).1 does.leads alike.states;
    }
