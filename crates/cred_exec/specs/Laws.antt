-- Laws of execve(2): what holds of every execve that its rule lets happen.
use Rattle.std.specs.Prelude.{◌≡◌, ℕ, true, false, List, Ok}
use Rattle.std.specs.declared.option.Option.{Option}
use Rattle.cred_caps.specs.declared.secure.Flag.TheVariants.{KeepCaps}
use Rattle.cred_caps.specs.Caps.{Caps, empty, union, meet, less, IsWithin}
use Rattle.cred_caps.specs.Flags.{SetsFlag}
use Rattle.cred_record.specs.declared.gains.Gains.{Gains}
use Rattle.cred_record.specs.Credential.{Credential}
use Rattle.cred_record.specs.File.{File}
use Rattle.cred_rules.specs.Attribute.{Attribute}
use Rattle.cred_rules.specs.Exec.{Executed, exec, attribute_for, is_privileged}

-- every execve that happens has this property: of the credential before, the file, the root ids of
-- the user namespaces, and what it gives
abbrev pub OfEachExec : (Credential → File → List ℕ → Executed → Type 0) → Type 0
OfEachExec P =
    (c : Credential) (f : File) (chain : List ℕ) (e : Executed) → exec c f chain ≡ Ok e
    → P c f chain e

-- no two of the gains have a capability in common, and together they are what is permitted after
-- and was not before
pub record AreGains (before after : Caps) (g : Gains) : Type 0 where
  pub file_inherit : meet g.file g.inherit ≡ empty
  pub file_root : meet g.file g.root ≡ empty
  pub inherit_root : meet g.inherit g.root ≡ empty
  pub all : union g.file (union g.inherit g.root) ≡ less after before

-- the gains that an execve reports are those
abbrev pub GainsAreWhatIsGained : Type 0
GainsAreWhatIsGained = OfEachExec (λ c f chain e. AreGains c.perm e.cred.perm e.gains)

-- nothing is permitted that was not, and no gain is reported
pub record GainsNothing (before after : Caps) (g : Gains) : Type 0 where
  pub permitted : IsWithin after before
  pub file : g.file ≡ empty
  pub inherit : g.inherit ≡ empty
  pub root : g.root ≡ empty

-- under no_new_privs an execve gains nothing (prctl(2), PR_SET_NO_NEW_PRIVS)
abbrev pub NoNewPrivsGainsNothing : Type 0
NoNewPrivsGainsNothing =
    OfEachExec (λ c f chain e. c.nnp ≡ true → GainsNothing c.perm e.cred.perm e.gains)

-- a file that is not privileged leaves the ambient set, and one that is empties it
abbrev pub PlainFilesKeepAmbient : Type 0
PlainFilesKeepAmbient =
    OfEachExec
    (λ c f chain e. (a : Option Attribute) → attribute_for c f chain ≡ Ok a
    → is_privileged c f a ≡ false
    → e.cred.amb ≡ c.amb)

abbrev pub PrivilegedFilesEmptyAmbient : Type 0
PrivilegedFilesEmptyAmbient =
    OfEachExec
    (λ c f chain e. (a : Option Attribute) → attribute_for c f chain ≡ Ok a
    → is_privileged c f a ≡ true
    → e.cred.amb ≡ empty)

-- the inheritable and the bounding set are as before
pub record KeepsSets (before after : Credential) : Type 0 where
  pub inheritable : after.inh ≡ before.inh
  pub bounding : after.bound ≡ before.bound

-- an execve changes neither
abbrev pub InheritableAndBoundingStay : Type 0
InheritableAndBoundingStay = OfEachExec (λ c f chain e. KeepsSets c e.cred)

-- KEEP_CAPS is unset, and every other flag and every lock is as before
abbrev pub OtherSecurebitsStay : Type 0
OtherSecurebitsStay = OfEachExec (λ c f chain e. SetsFlag c.bits e.cred.bits KeepCaps false)

-- who runs the program is as before
pub record KeepsIdentity (before after : Credential) : Type 0 where
  pub user : after.uid.real ≡ before.uid.real
  pub group : after.gid.real ≡ before.gid.real
  pub groups : after.groups ≡ before.groups
  pub namespace : after.ns ≡ before.ns
  pub root : after.root ≡ before.root
  pub no_new_privs : after.nnp ≡ before.nnp

-- an execve changes none of that
abbrev pub RealIdsAndGroupsStay : Type 0
RealIdsAndGroupsStay = OfEachExec (λ c f chain e. KeepsIdentity c e.cred)
