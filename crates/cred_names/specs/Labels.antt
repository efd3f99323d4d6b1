-- The labels that a line names.
use Rattle.std.specs.Prelude.{ℕ, List, [], ◌∷◌}
use Rattle.cred_event.specs.declared.event.Event.{Event}
use Rattle.cred_event.specs.declared.event.Event.TheVariants.{Take, TakeFile, Release, Ask, Signal}
use Rattle.cred_event.specs.declared.event.Event.TheVariants.{Prepare, Alter, Commit, Abort}
use Rattle.cred_event.specs.declared.event.Event.TheVariants.{Override, OpenFile, Ptrace, Chown}
use Rattle.cred_event.specs.declared.event.Event.TheVariants.{Chmod, SetAttr, Stat}
use Rattle.cred_event.specs.declared.content.Content.{Content}
use Rattle.cred_event.specs.declared.content.Content.TheVariants.{One}

-- the labels that an event names
abbrev pub event_labels : Event → List ℕ
event_labels (Take label task side) = label ∷ []
event_labels (TakeFile label fd) = label ∷ []
event_labels (Release label) = label ∷ []
event_labels (Ask label query) = label ∷ []
event_labels (Signal from hold to target) = hold ∷ target ∷ []
event_labels (Prepare label task hold) = label ∷ hold ∷ []
event_labels (Alter label change) = label ∷ []
event_labels (Commit label) = label ∷ []
event_labels (Abort label) = label ∷ []
event_labels (Override task label) = label ∷ []
event_labels (OpenFile hold file want fd) = hold ∷ []
event_labels (Ptrace from hold to target mode) = hold ∷ target ∷ []
event_labels (Chown hold file owner group) = hold ∷ []
event_labels (Chmod hold file mode) = hold ∷ []
event_labels (SetAttr hold file attr) = hold ∷ []
event_labels (Stat hold file) = hold ∷ []
event_labels event = []

-- the labels that a line names
abbrev pub labels : Content → List ℕ
labels (One event) = event_labels event
labels content = []
