-- What is true of the numbers and words of a line of a script.
use Rattle.std.specs.Prelude.{⊤}
use Rattle.cred_ids.specs.Id.{IsId}
use Rattle.cred_record.specs.File.{File, IsMode}
use Rattle.cred_event.specs.declared.content.Content.{Content}
use Rattle.cred_event.specs.declared.content.Content.TheVariants.{Nothing, One, Id, Question, Open}
use Rattle.cred_event.specs.declared.content.Content.TheVariants.{Fcap, Signal, Ptrace, Change}
use Rattle.cred_event.specs.declared.content.Content.TheVariants.{Access, OnFile}
use Rattle.cred_reader.specs.Fits.{IsNumber, IsWant, FitsCall, FitsChange, FitsQuery, FitsEvent}
use Rattle.cred_reader.specs.Fits.{FitsFileCall}

-- the ids and the mode of a file that a line declares
pub record FitsFile (file : File) : Type 0 where
  pub owner : IsId file.owner
  pub group : IsId file.group
  pub mode : IsMode file.mode

-- What the line holds is in range, and is spelled as the grammar asks.
abbrev pub FitsContent : Content → Type 0
FitsContent Nothing = ⊤
FitsContent (One event) = FitsEvent event
FitsContent (Id task call) = IsNumber task × FitsCall call
FitsContent (Question task query) = IsNumber task × FitsQuery query
FitsContent (Open task file want fd) = IsNumber task × IsWant want × IsNumber fd
FitsContent (Fcap task fd cap) = IsNumber task × IsNumber fd × IsNumber cap
FitsContent (Signal task to) = IsNumber task × IsNumber to
FitsContent (Ptrace task to mode) = IsNumber task × IsNumber to
FitsContent (Change task change) = IsNumber task × FitsChange change
FitsContent (Access task file want) = IsNumber task × IsWant want
FitsContent (OnFile task call) = IsNumber task × FitsFileCall call
