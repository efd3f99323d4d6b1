-- The text of the values that answer a question.
use Rattle.std.specs.Prelude.{ℕ, ◌+◌, ◌/◌, ◌%◌, List, [], ◌∷◌, ◌++◌, codes, decimal}
use Rattle.cred_ids.specs.declared.id.Ids4.{Ids4}
use Rattle.cred_event.specs.declared.answer.Told.{Told}
use Rattle.cred_event.specs.declared.answer.Told.TheVariants.{Ids, Caps, Groups, Bits, Flag, File}
use Rattle.cred_report.specs.Numbers.{ids_text, set_text, flag_text}

-- the four ids of a kind, each after a space
abbrev pub ids4_text : Ids4 → List ℕ
ids4_text ids =
    codes " " ++ decimal ids.real ++ codes " " ++ decimal ids.effective ++ codes " " ++
    decimal ids.saved ++ codes " " ++ decimal ids.fs

-- an octal digit
abbrev pub octal : ℕ → ℕ
octal digit = 48 + digit

-- a mode after a space, in four octal digits
unfoldable pub mode_text : ℕ → List ℕ
mode_text mode =
    codes " " ++
    octal (mode / 512 % 8) ∷ octal (mode / 64 % 8) ∷ octal (mode / 8 % 8) ∷ octal (mode % 8) ∷ []

abbrev pub told_text : Told → List ℕ
told_text (Ids uid gid) = ids4_text uid ++ ids4_text gid
told_text (Caps perm inh eff bound amb) =
    set_text perm ++ set_text inh ++ set_text eff ++ set_text bound ++ set_text amb
told_text (Groups groups) = ids_text groups
told_text (Bits bits nnp) = codes " " ++ decimal bits ++ flag_text nnp
told_text (Flag flag) = flag_text flag
told_text (File owner group mode attr) =
    codes " " ++ decimal owner ++ codes " " ++ decimal group ++ mode_text mode ++ flag_text attr
