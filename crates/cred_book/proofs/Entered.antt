-- A book when an event is made and entered.
use Rattle.std.proofs.Common.{◌≡◌, ℕ, ◌==◌, true, false, List, [], ◌∷◌, ◌++◌, slice_get, Option, None, Some, refl, sym, ap, ◌∙◌, subst, append_assoc}
use Rattle.std.specs.List.{count_by}
use Rattle.std.specs.Option.{option_map, option_map_or}
use Rattle.std.proofs.lemmas.Option.{slice_get-map}
use Rattle.cred_event.specs.declared.entry.Entry.{Entry}
use Rattle.cred_event.specs.declared.event.Event.{Event}
use Rattle.cred_event.specs.declared.event.Event.TheVariants.{Commit, Override}
use Rattle.cred_copies.specs.Lists.{HoldsList}
use Rattle.cred_model.specs.Script.{Script}
use Rattle.cred_model.specs.State.{State, SealedCred}
use Rattle.cred_model.specs.Slots.{refs, stands_in, uses}
use Rattle.cred_model.specs.Step.{step}
use Rattle.cred_model.specs.Journal.{replay, IsAnswered}
use Rattle.cred_model.specs.Like.{IsLike, IsOutcomeLike}
use Rattle.cred_model.proofs.Journals.{replay-push, IsAnswered-push}
use Rattle.cred_model.proofs.Likes.{does_like, like_trans, refs_same}
use Rattle.cred_sound.specs.Sound.{IsSound}
use Rattle.cred_sound.proofs.Sound.{like_sound, sound_after}
use Rattle.cred_words.specs.Lists.{Has}
use Rattle.cred_hold.specs.Tokens as token
use Rattle.cred_tables.specs.Out.{AreHome, AreOut}
use Rattle.cred_tables.proofs.Bags.{count-same}
use Rattle.cred_tables.proofs.TokensOfLabels.{has_out, out_has}
use Rattle.cred_state.proofs.Lines.{may_need_tokens}
use Rattle.cred_state.proofs.Stays.{EndsLabel, LetsGo, SealsIt, GivesUp, out_stays, token_stays}
use Rattle.cred_book.proofs.ListAnswers.{list_stays}

-- the state is like the one that the journal leads to
abbrev pub Follows : Script → State → List Entry → Type 0
Follows script state journal = IsLike state (replay script journal) × IsAnswered script journal

pub follows_sound : (script : Script) (state : State) (journal : List Entry) → Follows script state journal → IsSound state
follows_sound script state journal follows = like_sound state (replay script journal) follows.0 (sound_after script journal)

-- an entry more of this part is one of the journal
pub all_grown : (earlier old new : List Entry) (entry : Entry) → new ≡ old ++ entry ∷ [] → earlier ++ new ≡ (earlier ++ old) ++ entry ∷ []
all_grown earlier old new entry is = ap (λ js. earlier ++ js) is ∙ sym (append_assoc earlier old (entry ∷ []))

-- what an event does after the journal
pub replays : (script : Script) (before after : State) (journal : List Entry) (entry : Entry) → Follows script before journal
    → IsOutcomeLike (step script before entry.line entry.event) entry.answer after
    → IsOutcomeLike (step script (replay script journal) entry.line entry.event) entry.answer after
replays script before after journal entry follows does =
    does_like script before (replay script journal) entry.line entry.event entry.answer after follows.0 does

pub enters : (script : Script) (before after : State) (journal grown : List Entry) (entry : Entry) → Follows script before journal
    → IsOutcomeLike (step script before entry.line entry.event) entry.answer after → grown ≡ journal ++ entry ∷ [] → Follows script after grown
enters script before after journal grown entry follows does is =
    let made = replays script before after journal entry follows does in
    rw is (
      subst (IsLike after) (sym (replay-push script journal entry)) made.leads,
      IsAnswered-push script journal entry follows.1 (sym made.answers),
    )

-- an event that is answered with a list is not entered where the list could not be copied
pub left_out : (script : Script) (before after : State) (journal : List Entry) (entry : Entry) → Follows script before journal
    → IsOutcomeLike (step script before entry.line entry.event) entry.answer after → HoldsList entry.answer → Follows script after journal
left_out script before after journal entry follows does list = (
  like_trans after before (replay script journal) (list_stays script before after entry.line entry.event entry.answer does list) follows.0,
  follows.1,
)

-- ---- what is lent

-- under labels that the event doesn't name, is their labels' after it too
pub out_after : (script : Script) (journal grown : List Entry) (entry : Entry) (out : List token.Loan) → AreHome entry.event out
    → AreOut (replay script journal) out → grown ≡ journal ++ entry ∷ [] → AreOut (replay script grown) out
out_after script journal grown entry out home are is =
    rw is
    (subst (λ (s : State). AreOut s out) (sym (replay-push script journal entry))
    (out_stays script (replay script journal) entry.line entry.event out home are))

ends_none : (event : Event) (label : ℕ) → may_need_tokens event ≡ true → EndsLabel event label → ⊥
ends_none event label may (LetsGo is) = let not = sym may ∙ ap may_need_tokens is in cc
ends_none event label may (GivesUp is) = let not = sym may ∙ ap may_need_tokens is in cc
ends_none (Commit name) label may (SealsIt is) = cc
ends_none (Override task name) label may (SealsIt is) = cc
ends_none event label may (SealsIt is) = absurd is

-- and so is what is left of it where an event is entered that was decided: such an event ends no label
pub out_left : (script : Script) (journal grown : List Entry) (entry : Entry) (old new : List token.Loan) → may_need_tokens entry.event ≡ true
    → ((e : token.Loan) → Has new e → Has old e) → AreOut (replay script journal) old → grown ≡ journal ++ entry ∷ []
    → AreOut (replay script grown) new
out_left script journal grown entry old new may there are is =
    rw is
    (subst (λ (s : State). AreOut s new) (sym (replay-push script journal entry))
    (has_out (step script (replay script journal) entry.line entry.event).1 new
    (λ e has. token_stays script (replay script journal) entry.line entry.event e (ends_none entry.event e.label may)
    (out_has (replay script journal) old e are (there e has)))))

-- ---- uses

stands-slot : (slot : ℕ) (found : Option SealedCred)
    → option_map_or (λ s. s.slot == slot) found false ≡ option_map_or (λ place. place == slot) (option_map (λ s. s.slot) found) false
stands-slot slot None = refl
stands-slot slot (Some s) = refl

stands_like : (a b : State) → IsLike a b → (slot n : ℕ) → stands_in a.creds slot n ≡ stands_in b.creds slot n
stands_like a b like slot n =
    stands-slot slot (slice_get a.creds n)
    ∙ ap (λ o. option_map_or (λ place. place == slot) o false)
    (sym (slice_get-map (λ (x : SealedCred). x.slot) a.creds n) ∙ ap (λ (ss : List ℕ). slice_get ss n) like.slots
    ∙ slice_get-map (λ (x : SealedCred). x.slot) b.creds n)
    ∙ sym (stands-slot slot (slice_get b.creds n))

pub uses_like : (a b : State) (slot : ℕ) → IsLike a b → uses a slot ≡ uses b slot
uses_like a b slot like =
    count-same (stands_in a.creds slot) (stands_in b.creds slot) (refs a) (λ n. stands_like a b like slot n)
    ∙ ap (λ (ns : List ℕ). count_by (stands_in b.creds slot) ns) (refs_same a b like)
