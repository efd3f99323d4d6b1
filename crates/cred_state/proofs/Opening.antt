-- A file is opened, and a descriptor is closed.
use Rattle.std.proofs.Common.{◌≡◌, ℕ, ◌<◌, ◌==◌, List, [], ◌∷◌, ◌++◌, position, remove, count_by, slice_get, Option, Some, ap, ◌∙◌, refl}
use Rattle.cred_record.specs.Credential.{Credential}
use Rattle.cred_event.specs.declared.answer.Answer.TheVariants.{Done}
use Rattle.cred_model.specs.State.{State, OpenFile}
use Rattle.cred_model.specs.FileEvents.{by_close}
use Rattle.cred_model.specs.Step.{outcome}
use Rattle.cred_slots.specs.Table.{Table}
use Rattle.cred_tables.specs.Kept.{StateLists, state_of, IsKept}
use Rattle.cred_tables.proofs.Bags.{bag-has, bag-at}
use Rattle.cred_tables.proofs.Sealing.{Drops, keeps_same, kept_less, over_later}
use Rattle.cred_tables.proofs.InUse.{in_use-closed}

module _ {parts : StateLists} {store : List (Option Credential)} {t : Table} (is : IsKept parts store t) where
  abbrev s : State
  s = state_of parts store t

  -- the credential that an open file was opened by is held
  pub opener-held : (place : ℕ) (f : OpenFile) → slice_get parts.files place ≡ Some f → 0 < count_by (λ m. m == f.opener) t.held
  opener-held place f there = bag-at f.opener is.counted.counts (bag-has (in_use-closed s place f there))

  module _ (after : Table) (place : ℕ) (f : OpenFile) (there : slice_get parts.files place ≡ Some f) (less : Drops t after f.opener) where
    abbrev left : StateLists
    left = record parts { files = remove parts.files place }

    pub close_kept : IsKept left store after
    close_kept = kept_less is less (in_use-closed s place f there) (keeps_same t after _ is.counted.keeps less.kept)

    pub close_done : (fd : ℕ) → position (λ g. g.fd == fd) parts.files ≡ Some place
        → outcome s (by_close s fd) ≡ (Done, state_of left store after)
    close_done fd at =
        let closed : outcome s (by_close s fd) ≡ (Done, record s { files = left.files; deferred = t.deferred ++ f.opener ∷ [] })
        = rw (at, there) refl in
        closed ∙ ap (λ (r : State). (Done, r)) (over_later left store t after less.sealed less.deferred)
