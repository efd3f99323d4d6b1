-- Which labels the events of a line name, and which of them wait for a decision.
use Rattle.std.proofs.Common.{◌≡◌, ℕ, zero, suc, ◌<◌, length, get_or, Bool, true, false, List, [], ◌∷◌, Contains, Option, None, Some, ◌⊎◌, inl, inr, refl, sym}
use Rattle.std.proofs.Common.{◌∙◌, subst, arith}
use Rattle.std.specs.List.{All}
use Rattle.std.proofs.lemmas.Option.{same_Some}
use Rattle.std.proofs.lemmas.List.Elements.{All-contains, All-cons, All-nil}
use Rattle.cred_event.specs.declared.content.Stage.{Stage}
use Rattle.cred_event.specs.declared.content.Stage.TheVariants.{First, Acting, Asking, Opening, TakingTarget, Signalling, Tracing, ReleasingTarget, Preparing}
use Rattle.cred_event.specs.declared.content.Stage.TheVariants.{Altering, Committing, Aborting, Overriding, TakingAccess, ReleasingAccess, Reverting, Releasing}
use Rattle.cred_event.specs.declared.content.Stage.TheVariants.{Retrying, Calling}
use Rattle.cred_event.specs.declared.event.Event.{Event}
use Rattle.cred_event.specs.declared.event.Event.TheVariants.{Ask, Alter, OpenFile}
use Rattle.cred_event.specs.declared.event.Event.TheVariants as event
use Rattle.cred_event.specs.declared.event.Change.TheVariants as change
use Rattle.cred_event.specs.declared.event.Query.TheVariants.{Capable, Check}
use Rattle.cred_event.specs.declared.content.Content.{Content}
use Rattle.cred_event.specs.declared.content.Content.TheVariants.{Nothing, One, Id, Question, Open, Fcap, Signal, Ptrace, Change, Access, OnFile}
use Rattle.cred_event.specs.declared.content.FileCall.{FileCall}
use Rattle.cred_event.specs.declared.content.FileCall.TheVariants.{Chown, Chmod, SetAttr, Stat}
use Rattle.cred_model.specs.Course.{calling, event_in, hold_label, new_label, target_label, access_label}
use Rattle.cred_model.specs.State.{State}
use Rattle.cred_names.specs.Labels.{event_labels, labels}
use Rattle.cred_tables.specs.Out.{needs_tokens}

-- the label is one of those that the line takes for itself
abbrev pub IsOwnLabel : ℕ → ℕ → Type 0
IsOwnLabel line label = (label ≡ hold_label line) ⊎ ((label ≡ new_label line) ⊎ (label ≡ access_label line))

-- the label is the line's own, or its content names it
abbrev pub IsLines : ℕ → Content → ℕ → Type 0
IsLines line content label = Contains (labels content) label ⊎ IsOwnLabel line label

module _ (line : ℕ) (content : Content) where
  abbrev Each : List ℕ → Type 0
  Each names = All (IsLines line content) names

  none : Each []
  none = All-nil (IsLines line content)

  one : (label : ℕ) → IsOwnLabel line label → Each (label ∷ [])
  one label own = All-cons (IsLines line content) label [] (inr own) none

  two : (a b : ℕ) → IsOwnLabel line a → IsOwnLabel line b → Each (a ∷ b ∷ [])
  two a b first second = All-cons (IsLines line content) a (b ∷ []) (inr first) (one b second)

abbrev OfEvent : ℕ → Content → Option Event → Type 0
OfEvent line content None = Unit {0}
OfEvent line content (Some event) = All (IsLines line content) (event_labels event)

-- a call on a file names the hold
names_called : (line task : ℕ) (call : FileCall)
    → OfEvent line (OnFile task call) (Some (calling (hold_label line) call))
names_called line task (Chown file owner group) =
    one line (OnFile task (Chown file owner group)) (hold_label line) (inl refl)
names_called line task (Chmod file mode) =
    one line (OnFile task (Chmod file mode)) (hold_label line) (inl refl)
names_called line task (SetAttr file attr) =
    one line (OnFile task (SetAttr file attr)) (hold_label line) (inl refl)
names_called line task (Stat file) =
    one line (OnFile task (Stat file)) (hold_label line) (inl refl)

names_at : (line : ℕ) (content : Content) (stage : Stage) → OfEvent line content (event_in line content stage)
names_at line (One event) First = λ k d lt. inl (k, lt, at_itself (event_labels event) k d lt)
  where
    at_itself : (xs : List ℕ) (k d : ℕ) → k < length xs → get_or xs k (get_or xs k d) ≡ get_or xs k d
    at_itself [] k d lt = absurd (omega arith)
    at_itself (x ∷ xs) zero d lt = refl
    at_itself (x ∷ xs) (suc k) d lt = at_itself xs k d (omega arith)
names_at line (Id task call) First = none line (Id task call)
names_at line (Id task call) Acting = none line (Id task call)
names_at line (Question task query) First = one line (Question task query) (hold_label line) (inl refl)
names_at line (Question task query) Asking = one line (Question task query) (hold_label line) (inl refl)
names_at line (Question task query) Releasing = one line (Question task query) (hold_label line) (inl refl)
names_at line (Open task file want fd) First = one line (Open task file want fd) (hold_label line) (inl refl)
names_at line (Open task file want fd) Opening = one line (Open task file want fd) (hold_label line) (inl refl)
names_at line (Open task file want fd) Releasing = one line (Open task file want fd) (hold_label line) (inl refl)
names_at line (Fcap task fd cap) First = one line (Fcap task fd cap) (hold_label line) (inl refl)
names_at line (Fcap task fd cap) Asking = one line (Fcap task fd cap) (hold_label line) (inl refl)
names_at line (Fcap task fd cap) Releasing = one line (Fcap task fd cap) (hold_label line) (inl refl)
names_at line (Signal task to) First = one line (Signal task to) (hold_label line) (inl refl)
names_at line (Signal task to) TakingTarget = one line (Signal task to) (target_label line) (inr (inl refl))
names_at line (Signal task to) Signalling = two line (Signal task to) (hold_label line) (target_label line) (inl refl) (inr (inl refl))
names_at line (Signal task to) ReleasingTarget = one line (Signal task to) (target_label line) (inr (inl refl))
names_at line (Signal task to) Releasing = one line (Signal task to) (hold_label line) (inl refl)
names_at line (Ptrace task to mode) First =
    one line (Ptrace task to mode) (hold_label line) (inl refl)
names_at line (Ptrace task to mode) TakingTarget =
    one line (Ptrace task to mode) (target_label line) (inr (inl refl))
names_at line (Ptrace task to mode) Tracing =
    two line (Ptrace task to mode) (hold_label line) (target_label line) (inl refl) (inr (inl refl))
names_at line (Ptrace task to mode) ReleasingTarget =
    one line (Ptrace task to mode) (target_label line) (inr (inl refl))
names_at line (Ptrace task to mode) Releasing =
    one line (Ptrace task to mode) (hold_label line) (inl refl)
names_at line (Change task change) First = one line (Change task change) (hold_label line) (inl refl)
names_at line (Change task change) Preparing = two line (Change task change) (new_label line) (hold_label line) (inr (inl refl)) (inl refl)
names_at line (Change task change) Altering = one line (Change task change) (new_label line) (inr (inl refl))
names_at line (Change task change) Committing = one line (Change task change) (new_label line) (inr (inl refl))
names_at line (Change task change) Aborting = one line (Change task change) (new_label line) (inr (inl refl))
names_at line (Change task change) Releasing = one line (Change task change) (hold_label line) (inl refl)
names_at line (Change task change) Retrying = one line (Change task change) (hold_label line) (inl refl)
names_at line (Access task file want) First = one line (Access task file want) (hold_label line) (inl refl)
names_at line (Access task file want) Preparing = two line (Access task file want) (new_label line) (hold_label line) (inr (inl refl)) (inl refl)
names_at line (Access task file want) Altering = one line (Access task file want) (new_label line) (inr (inl refl))
names_at line (Access task file want) Overriding = one line (Access task file want) (new_label line) (inr (inl refl))
names_at line (Access task file want) TakingAccess = one line (Access task file want) (access_label line) (inr (inr refl))
names_at line (Access task file want) Asking = one line (Access task file want) (access_label line) (inr (inr refl))
names_at line (Access task file want) ReleasingAccess = one line (Access task file want) (access_label line) (inr (inr refl))
names_at line (Access task file want) Reverting = none line (Access task file want)
names_at line (Access task file want) Aborting = one line (Access task file want) (new_label line) (inr (inl refl))
names_at line (Access task file want) Releasing = one line (Access task file want) (hold_label line) (inl refl)
names_at line (OnFile task call) First = one line (OnFile task call) (hold_label line) (inl refl)
names_at line (OnFile task call) Calling = names_called line task call
names_at line (OnFile task call) Releasing = one line (OnFile task call) (hold_label line) (inl refl)
names_at line content stage = tt

-- an event of a line names labels of its content, or the line's own
pub names_own : (line : ℕ) (content : Content) (stage : Stage) (event : Event) → event_in line content stage ≡ Some event
    → (label : ℕ) → Contains (event_labels event) label → IsLines line content label
names_own line content stage event is label has =
    All-contains (IsLines line content) (event_labels event) label (subst (OfEvent line content) is (names_at line content stage)) has

-- ---- the events that wait for a decision

-- in some states the event waits
abbrev pub may_need_tokens : Event → Bool
may_need_tokens (Ask label query) = true
may_need_tokens (OpenFile hold file want fd) = true
may_need_tokens (event.Signal from hold to target) = true
may_need_tokens (Alter label change) = true
may_need_tokens event = false

pub waiting_may : (s : State) (waiting : Event) → needs_tokens s waiting ≡ true → may_need_tokens waiting ≡ true
waiting_may s (Ask label query) waits = refl
waiting_may s (OpenFile hold file want fd) waits = refl
waiting_may s (event.Signal from hold to target) waits = refl
waiting_may s (Alter label change) waits = refl
waiting_may s waiting waits = waits

-- the event of the line that waits, if there is just one
abbrev waiting_of : ℕ → Content → Option Event
waiting_of line (One event) = Some event
waiting_of line (Question task query) = Some (Ask (hold_label line) query)
waiting_of line (Open task file want fd) = Some (OpenFile (hold_label line) file want fd)
waiting_of line (Fcap task fd cap) = Some (Ask (hold_label line) (Capable cap))
waiting_of line (Signal task to) = Some (event.Signal task (hold_label line) to (target_label line))
waiting_of line (Change task change) = Some (Alter (new_label line) change)
waiting_of line content = None

-- The event is the one of the line that waits; access(2) has two.
abbrev IsWaiting : ℕ → Content → Event → Type 0
IsWaiting line (Access task file want) event =
    (event ≡ Alter (new_label line) change.Access) ⊎ (event ≡ Ask (access_label line) (Check file want))
IsWaiting line content event = waiting_of line content ≡ Some event

abbrev IfWaiting : ℕ → Content → Option Event → Type 0
IfWaiting line content None = Unit {0}
IfWaiting line content (Some event) = may_need_tokens event ≡ true → IsWaiting line content event

-- a call on a file waits for no decision
called_at_once : (line task : ℕ) (call : FileCall)
    → IfWaiting line (OnFile task call) (Some (calling (hold_label line) call))
called_at_once line task (Chown file owner group) = λ waits. cc
called_at_once line task (Chmod file mode) = λ waits. cc
called_at_once line task (SetAttr file attr) = λ waits. cc
called_at_once line task (Stat file) = λ waits. cc

waiting_at : (line : ℕ) (content : Content) (stage : Stage) → IfWaiting line content (event_in line content stage)
waiting_at line (One event) First = λ waits. refl
waiting_at line (Id task call) First = λ waits. cc
waiting_at line (Id task call) Acting = λ waits. cc
waiting_at line (Question task query) First = λ waits. cc
waiting_at line (Question task query) Asking = λ waits. refl
waiting_at line (Question task query) Releasing = λ waits. cc
waiting_at line (Open task file want fd) First = λ waits. cc
waiting_at line (Open task file want fd) Opening = λ waits. refl
waiting_at line (Open task file want fd) Releasing = λ waits. cc
waiting_at line (Fcap task fd cap) First = λ waits. cc
waiting_at line (Fcap task fd cap) Asking = λ waits. refl
waiting_at line (Fcap task fd cap) Releasing = λ waits. cc
waiting_at line (Signal task to) First = λ waits. cc
waiting_at line (Signal task to) TakingTarget = λ waits. cc
waiting_at line (Signal task to) Signalling = λ waits. refl
waiting_at line (Signal task to) ReleasingTarget = λ waits. cc
waiting_at line (Signal task to) Releasing = λ waits. cc
waiting_at line (Ptrace task to mode) First = λ waits. cc
waiting_at line (Ptrace task to mode) TakingTarget = λ waits. cc
waiting_at line (Ptrace task to mode) Tracing = λ waits. cc
waiting_at line (Ptrace task to mode) ReleasingTarget = λ waits. cc
waiting_at line (Ptrace task to mode) Releasing = λ waits. cc
waiting_at line (Change task change) First = λ waits. cc
waiting_at line (Change task change) Preparing = λ waits. cc
waiting_at line (Change task change) Altering = λ waits. refl
waiting_at line (Change task change) Committing = λ waits. cc
waiting_at line (Change task change) Aborting = λ waits. cc
waiting_at line (Change task change) Releasing = λ waits. cc
waiting_at line (Change task change) Retrying = λ waits. cc
waiting_at line (Access task file want) First = λ waits. cc
waiting_at line (Access task file want) Preparing = λ waits. cc
waiting_at line (Access task file want) Altering = λ waits. inl refl
waiting_at line (Access task file want) Overriding = λ waits. cc
waiting_at line (Access task file want) TakingAccess = λ waits. cc
waiting_at line (Access task file want) Asking = λ waits. inr refl
waiting_at line (Access task file want) ReleasingAccess = λ waits. cc
waiting_at line (Access task file want) Reverting = λ waits. cc
waiting_at line (Access task file want) Aborting = λ waits. cc
waiting_at line (Access task file want) Releasing = λ waits. cc
waiting_at line (OnFile task call) First = λ waits. cc
waiting_at line (OnFile task call) Calling = called_at_once line task call
waiting_at line (OnFile task call) Releasing = λ waits. cc
waiting_at line content stage = tt

is_waiting : (line : ℕ) (content : Content) (stage : Stage) (event : Event) → event_in line content stage ≡ Some event → may_need_tokens event ≡ true
    → IsWaiting line content event
is_waiting line content stage event is = subst (IfWaiting line content) is (waiting_at line content stage)

labels_apart : (line label : ℕ) → Contains (new_label line ∷ []) label → Contains (access_label line ∷ []) label → ⊥
labels_apart line label new access =
    let first = All-contains (λ n. n ≡ new_label line) (new_label line ∷ []) label (λ k d lt. at_first (new_label line) k d lt) new in
    let second = All-contains (λ n. n ≡ access_label line) (access_label line ∷ []) label (λ k d lt. at_first (access_label line) k d lt) access in
    omega (arith, first, second)
  where
    at_first : (x k d : ℕ) → k < 1 → get_or (x ∷ []) k d ≡ x
    at_first x zero d lt = refl
    at_first x (suc k) d lt = absurd (omega arith)

-- two events of one line that wait and share a label are one
pub same_event : (line : ℕ) (content : Content) (stage other : Stage) (a b : Event) → event_in line content stage ≡ Some a
    → event_in line content other ≡ Some b
    → may_need_tokens a ≡ true → may_need_tokens b ≡ true → (label : ℕ) → Contains (event_labels a) label → Contains (event_labels b) label → a ≡ b
same_event line content stage other a b one two waits wait label here there =
    by content (is_waiting line content stage a one waits) (is_waiting line content other b two wait)
  where
    share : (x y : Event) → a ≡ x → b ≡ y → (Contains (event_labels x) label → Contains (event_labels y) label → ⊥) → a ≡ b
    share x y is iz apart =
        absurd (apart (subst (λ e. Contains (event_labels e) label) is here) (subst (λ e. Contains (event_labels e) label) iz there))

    by : (content : Content) → IsWaiting line content a → IsWaiting line content b → a ≡ b
    by (Access task file want) (inl is) (inl iz) = is ∙ sym iz
    by (Access task file want) (inl is) (inr iz) = share _ _ is iz (λ new access. labels_apart line label new access)
    by (Access task file want) (inr is) (inl iz) = share _ _ is iz (λ access new. labels_apart line label new access)
    by (Access task file want) (inr is) (inr iz) = is ∙ sym iz
    by Nothing is iz = cc
    by (One event) is iz = same_Some _ _ (sym is ∙ iz)
    by (Id task call) is iz = cc
    by (Question task query) is iz = same_Some _ _ (sym is ∙ iz)
    by (Open task file want fd) is iz = same_Some _ _ (sym is ∙ iz)
    by (Fcap task fd cap) is iz = same_Some _ _ (sym is ∙ iz)
    by (Signal task to) is iz = same_Some _ _ (sym is ∙ iz)
    by (Ptrace task to mode) is iz = cc
    by (Change task change) is iz = same_Some _ _ (sym is ∙ iz)
    by (OnFile task call) is iz = cc
