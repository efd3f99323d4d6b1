-- How a task asks to look into another: `fs`, with its filesystem ids and its effective set, or
-- `real`, with its real ids and its permitted set (ptrace(2), "Ptrace access mode checking").
use Rattle.std.specs.Prelude.{ℕ, List, [], ◌∷◌, codes}
use Rattle.std.specs.declared.option.Option.{Option}
use Rattle.cred_record.specs.declared.mode.PtraceMode.{PtraceMode}
use Rattle.cred_record.specs.declared.mode.PtraceMode.TheVariants.{Fs, Real}
use Rattle.cred_spelling.specs.Table.{named}

unfoldable pub look_modes : List (List ℕ × PtraceMode)
look_modes = (codes "fs", Fs) ∷ (codes "real", Real) ∷ []

abbrev pub look_mode : List ℕ → Option PtraceMode
look_mode word = named look_modes word
