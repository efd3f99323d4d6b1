-- What is lent for an event, and how it is decided on that.
use Rattle.std.specs.Prelude.{◌≡◌, ℕ, List, Bool, false, is_some, None, Some, Result, Ok, Err}
use Rattle.std.specs.Prelude.{⊤, IfSome, if◌then◌else◌}
use Rattle.std.specs.declared.option.Option.{Option}
use Rattle.atomic_table.specs.Seated.{TableId}
use Rattle.cred_record.specs.File.{File}
use Rattle.cred_rules.specs.Access.{may_signal}
use Rattle.cred_event.specs.declared.answer.Answer.{Answer}
use Rattle.cred_event.specs.declared.answer.Answer.TheVariants.{Done, Eacces}
use Rattle.cred_event.specs.declared.event.Event.{Event}
use Rattle.cred_event.specs.declared.event.Event.TheVariants.{Ask, Signal, Alter, OpenFile}
use Rattle.cred_hold.specs.Tokens.{Written}
use Rattle.cred_model.specs.Answers.{checked, reply}
use Rattle.cred_model.specs.Change.{Made, by_change}
use Rattle.cred_work.specs.declared.pending.Pending.{Pending}
use Rattle.cred_work.specs.declared.pending.Pending.TheVariants.{Asking, Opening, Signalling}
use Rattle.cred_work.specs.declared.pending.Pending.TheVariants.{Altering}

-- the event for which it is lent
abbrev pub work_event : Pending → Event
work_event (Asking hold query told) = Ask hold.label query
work_event (Opening hold file want fd may) = OpenFile hold.label file want fd
work_event (Signalling from hold to target may) = Signal from hold.label to target.label
work_event (Altering base writer change made) = Alter base.label change

-- the tokens are of these cells, and the two of a change have one label
abbrev pub AreOf : TableId → Pending → Type 0
AreOf cells (Asking hold query told) = hold.id ≡ cells
AreOf cells (Opening hold file want fd may) = hold.id ≡ cells
AreOf cells (Signalling from hold to target may) = (hold.id ≡ cells) × (target.id ≡ cells)
AreOf cells (Altering base writer change made) =
    (base.id ≡ cells) × (writer.id ≡ cells) × (writer.label ≡ base.label)

-- the same with no decision, and before anything was put
abbrev pub undecided : Pending → Pending
undecided (Asking hold query told) = Asking hold query None
undecided (Opening hold file want fd may) = Opening hold file want fd None
undecided (Signalling from hold to target may) = Signalling from hold to target None
undecided (Altering base writer change made) =
    Altering base (record writer { put = None }) change None

-- it is decided
abbrev pub is_decided : Pending → Bool
is_decided (Asking hold query told) = is_some told
is_decided (Opening hold file want fd may) = is_some may
is_decided (Signalling from hold to target may) = is_some may
is_decided (Altering base writer change made) = is_some made

-- what the writer has put once the change has made this
abbrev pub put_by : Result Made Answer → Written → Written
put_by (Ok made) writer = record writer { put = Some made.cred }
put_by (Err answer) writer = writer

-- what a change made was put
abbrev pub IsPut : Pending → Type 0
IsPut (Altering base writer change (Some (Ok made))) = writer.put ≡ Some made.cred
IsPut lent = ⊤

-- where the change was refused, the writer has put what it had put before
abbrev pub PutStays : Pending → Pending → Type 0
PutStays (Altering base before change last) (Altering kept after asked (Some (Err answer))) =
    after.put ≡ before.put
PutStays before after = ⊤

-- what was decided, if anything was, is as the rules have it, on the credentials of the holds
abbrev pub IsRight : Option File → List ℕ → Pending → Type 0
IsRight file chain (Asking hold query told) =
    IfSome told (λ told. told ≡ reply file hold.cred query)
IsRight file chain (Opening hold place want fd may) =
    IfSome may (λ may. checked hold.cred file want ≡ (if may then Done else Eacces))
IsRight file chain (Signalling from hold to target may) =
    IfSome may (λ may. may ≡ may_signal hold.cred target.cred false)
IsRight file chain (Altering base writer change made) =
    IfSome made (λ made. made ≡ by_change file chain base.cred change)
