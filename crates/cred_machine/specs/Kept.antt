-- What is kept of the sealed credentials: no more than what is referred to.
use Rattle.std.specs.Prelude.{◌≡◌, ℕ, Bool, true, false, not, nat_lt, slice_get, IfSome}
use Rattle.cred_event.specs.declared.answer.AbortCause.TheVariants.{Full}
use Rattle.cred_event.specs.declared.answer.Answer.{Answer}
use Rattle.cred_event.specs.declared.answer.Answer.TheVariants.{Aborted, Acted, Began, Sealed}
use Rattle.cred_event.specs.declared.event.Event.{Event}
use Rattle.cred_event.specs.declared.event.Event.TheVariants.{Raw}
use Rattle.cred_model.specs.State.{State}
use Rattle.cred_model.specs.Slots.{refs}
use Rattle.cred_plain.specs.Creds.{gone}
use Rattle.cred_plain.specs.References.{is_among}

-- Each credential to which nothing refers is forgotten: under its number stands `gone`, as under
-- every such number. A credential that equals it looks forgotten, whether or not it is.
abbrev pub KeepsReferred : State → Type 0
KeepsReferred s =
    (n : ℕ) → is_among (refs s) n ≡ false
    → IfSome (slice_get s.creds n) (λ sealed. sealed.cred ≡ gone)

-- Whether a sweep may have dropped something, by an event with this answer: then fewer numbers
-- stand as given up after it than did before it, with those that it gave up itself. A call gives up
-- one number, the thread that couldn't follow since no slot was free has swept, and no other answer
-- says that any was given up.
abbrev pub may_have_swept : ℕ → Answer → ℕ → Bool
may_have_swept before (Began cred slot left) after = not (nat_lt before after)
may_have_swept before (Acted task cred slot left) after = not (nat_lt before after)
may_have_swept before (Aborted task Full) after = true
may_have_swept before answer after = nat_lt after before

-- A call of one thread alone that is made gives up one number, as one that begins a broadcast does,
-- but answers as events do that give up none: this is the answer by which it counts.
abbrev pub as_begun : Answer → Answer
as_begun (Sealed cred slot) = Began cred slot 0
as_begun answer = answer

-- whether the event may have dropped something
abbrev pub may_have_dropped : Event → ℕ → Answer → ℕ → Bool
may_have_dropped (Raw task call) before answer after = may_have_swept before (as_begun answer) after
may_have_dropped event before answer after = may_have_swept before answer after
