-- The sets after an execve are those of a credential.
use Rattle.std.proofs.Common.{Bool, true, false, Option, if◌then◌else◌}
use Rattle.cred_caps.specs.Caps.{Caps, empty, union, meet, IsWithin}
use Rattle.cred_caps.proofs.SetLaws.{within_itself, within-union_right}
use Rattle.cred_record.specs.Credential.{Credential, AreValidSets}
use Rattle.cred_record.specs.File.{File}
use Rattle.cred_rules.specs.Attribute.{Attribute}
use Rattle.cred_exec.proofs.Parts.{empty-within, within-both}
use Rattle.cred_rules.specs.Exec.{is_privileged, given_by, sets_taken, amb_after, perm_after, eff_after}

-- a set that is kept or emptied is within what it was within
kept : (b : Bool) (s t : Caps) → IsWithin s t → IsWithin (if b then empty else s) t
kept true s t within = empty-within t
kept false s t within = within

-- and what is within the whole and within what was permitted is within what no_new_privs leaves
cut :
    (b : Bool) (s t u : Caps) → IsWithin s t → IsWithin s u → IsWithin s (if b then meet t u else t)
cut true s t u within within' = within-both s t u within within'
cut false s t u within within' = within

either : (b : Bool) (s t : Caps) → IsWithin t s → IsWithin (if b then s else t) s
either true s t within = within_itself s
either false s t within = within

pub valid_after :
    (c : Credential) (f : File) (a : Option Attribute)
    → AreValidSets c.perm c.inh c.eff c.amb
    → AreValidSets (perm_after c f a) c.inh (eff_after c f a) (amb_after c f a)
valid_after c f a valid =
    let amb = amb_after c f a in
    let permitted : IsWithin amb (perm_after c f a) =
    cut c.nnp amb (union (given_by c (sets_taken c f a)) amb) c.perm
    (within-union_right (given_by c (sets_taken c f a)) amb)
    (kept (is_privileged c f a) c.amb c.perm valid.ambient) in
    record {
      effective = either (sets_taken c f a).effective (perm_after c f a) amb permitted;
      ambient = permitted;
      inheritable = kept (is_privileged c f a) c.amb c.inh valid.inheritable;
    }
