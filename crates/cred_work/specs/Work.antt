-- What a work has, as contracts see it.
use Rattle.std.specs.Prelude.{ℕ, List, [], None, Some}
use Rattle.std.specs.declared.option.Option.{Option}
use Rattle.cred_record.specs.Credential.{first_credential}
use Rattle.cred_record.specs.File.{File}
use Rattle.cred_event.specs.declared.event.Query.TheVariants.{Ids}
use Rattle.cred_hold.specs.Tokens.{Held}
use Rattle.cred_work.specs.declared.pending.Pending.{Pending}
use Rattle.cred_work.specs.declared.pending.Pending.TheVariants.{Asking}

-- what an event is decided by besides credentials, with its line: the file that it names, if it
-- names one, and the root ids of the base's user namespace and of that one's ancestors, the nearest
-- first
pub record Request : Type 0 where
  pub line : ℕ
  pub file : Option File
  pub chain : List ℕ

-- the same with what is lent for the event, and its decision, once it is made
pub record Work : Type 0 where
  pub line : ℕ
  pub file : Option File
  pub chain : List ℕ
  pub lent : Pending

-- the work of the event for which these tokens are lent
abbrev pub work_of : Request → Pending → Work
work_of asked lent =
    record { line = asked.line; file = asked.file; chain = asked.chain; lent = lent }

-- a hold that nothing is read by
unfoldable pub no_hold : Held
no_hold = record {
  id = record {
    words = 0;
    slots = 0;
    views_name = 0;
    atom = 0;
    block = 0;
    offset = 0;
    slot_names = [];
  };
  label = 0;
  slot = 0;
  cred = first_credential 0 0 0 0;
}

-- what is lent for a work, for which something always is
abbrev pub pending_or_none : Option Pending → Pending
pending_or_none (Some lent) = lent
pending_or_none None = Asking no_hold Ids None
