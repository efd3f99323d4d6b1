-- Works: what stays of them, and when they are decided.
use Rattle.std.specs.Prelude.{◌≡◌, true}
use Rattle.cred_work.specs.Decisions.{IsPut, IsRight, undecided, is_decided}
use Rattle.cred_work.specs.Work.{Work}

-- the work is the same, but for its decision, and for what its writer has put by that
pub record Stays (before after : Work) : Type 0 where
  pub line : after.line ≡ before.line
  pub file : after.file ≡ before.file
  pub chain : after.chain ≡ before.chain
  pub lent : undecided after.lent ≡ undecided before.lent

-- the work has no decision, and its writer has put nothing
abbrev pub IsUndecided : Work → Type 0
IsUndecided work = undecided work.lent ≡ work.lent

-- The work is decided as the rules have it, and what it made was put.
pub record IsDecided (work : Work) : Type 0 where
  pub decided : is_decided work.lent ≡ true
  pub right : IsRight work.file work.chain work.lent
  pub put : IsPut work.lent
