-- What the order of a script's lines decides.
use Rattle.std.specs.Prelude.{◌≡◌, ◌⊎◌, ℕ, List, All, IsSome}
use Rattle.cred_event.specs.declared.entry.Entry.{Entry}
use Rattle.cred_model.specs.Script.{Script, SetupFirst}
use Rattle.cred_model.specs.Journal.{lane_of, IsSequence, IsLegal}

-- a script has at most one journal in which its lines run whole and in order
abbrev pub OneSequence : Type 0
OneSequence =
    (script : Script) (a b : List Entry) → IsSequence script a → IsSequence script b → a ≡ b

-- Where the setup comes first, its lines running whole and in order is one of the ways in which
-- the lanes may take turns.
abbrev pub SequenceIsLegal : Type 0
SequenceIsLegal =
    (script : Script) (journal : List Entry)
    → SetupFirst script → IsSequence script journal → IsLegal script journal

-- Where the setup comes first and one lane is opened at most, the lines run whole and in order in
-- every legal journal.
abbrev pub LegalIsSequence : Type 0
LegalIsSequence =
    (script : Script) (journal : List Entry) (lane : ℕ)
    → SetupFirst script → All (λ line. (line.lane ≡ 0) ⊎ (line.lane ≡ lane)) script.lines
    → IsLegal script journal → IsSequence script journal

-- Each entry of a sequence is of a line of the script.
abbrev pub SequenceHasLines : Type 0
SequenceHasLines =
    (script : Script) (journal : List Entry) → IsSequence script journal
    → All (λ entry. IsSome (lane_of script entry.line)) journal
