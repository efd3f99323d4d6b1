-- Which answers and which events hold a list: to copy one of these takes memory.
use Rattle.std.specs.Prelude.{⊤, Some}
use Rattle.cred_record.specs.Calls.{IsSetGroups}
use Rattle.cred_event.specs.declared.answer.Answer.{Answer}
use Rattle.cred_event.specs.declared.answer.Answer.TheVariants.{Told}
use Rattle.cred_event.specs.declared.answer.Told.TheVariants.{Groups}
use Rattle.cred_event.specs.declared.event.Event.{Event}
use Rattle.cred_event.specs.declared.event.Event.TheVariants.{Begin, Chown, Chmod, SetAttr, Stat}
use Rattle.cred_event.specs.declared.event.Event.TheVariants.{Raw}

-- the answer to a question about groups: a list
abbrev pub HoldsList : Answer → Type 0
HoldsList (Told (Groups list)) = ⊤
HoldsList answer = ⊥

-- a task makes setgroups, with a list of groups, or gives a file an attribute, a list of bytes
abbrev pub EventHoldsList : Event → Type 0
EventHoldsList (Begin task call) = IsSetGroups call
EventHoldsList (Raw task call) = IsSetGroups call
EventHoldsList (SetAttr hold file (Some attr)) = ⊤
EventHoldsList event = ⊥

-- an answer to a question
abbrev pub IsTold : Answer → Type 0
IsTold (Told told) = ⊤
IsTold answer = ⊥

-- a task makes an id call, or gives a file an attribute or takes it away
abbrev pub MayHoldList : Event → Type 0
MayHoldList (Begin task call) = ⊤
MayHoldList (Raw task call) = ⊤
MayHoldList (SetAttr hold file attr) = ⊤
MayHoldList event = ⊥

-- a call on a file
abbrev pub IsOnFile : Event → Type 0
IsOnFile (Chown hold file owner group) = ⊤
IsOnFile (Chmod hold file mode) = ⊤
IsOnFile (SetAttr hold file attr) = ⊤
IsOnFile (Stat hold file) = ⊤
IsOnFile event = ⊥
