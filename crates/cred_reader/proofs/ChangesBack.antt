-- Changes that were printed, read back.
use Rattle.std.proofs.Common.{ℕ, All, codes, refl, append_assoc, decimal}
use Rattle.std.proofs.lemmas.List.{append-nil}
use Rattle.cred_ids.specs.declared.arg.Arg.{Arg}
use Rattle.cred_ids.specs.declared.id.Kind.TheVariants.{User, Group}
use Rattle.cred_record.specs.declared.adj_call.AdjCall.TheVariants as adjust
use Rattle.cred_event.specs.declared.event.Change.{Change}
use Rattle.cred_event.specs.declared.event.Change.TheVariants as change
use Rattle.cred_model.specs.Named.{change_files}
use Rattle.cred_model.specs.Script.{Script}
use Rattle.cred_spelling.specs.Names as names
use Rattle.cred_spelling.specs.Words as words
use Rattle.cred_ids.specs.Tests.{◌>>=◌}
use Rattle.cred_grammar.specs.Changes as changes
use Rattle.cred_report.specs.Numbers.{hexadecimal}
use Rattle.cred_report.specs.Questions.{file_text}
use Rattle.cred_report.specs.Calls.{change_text}
use Rattle.cred_reader.specs.Events as events
use Rattle.cred_reader.specs.Fits.{IsFile, FitsChange}
use Rattle.cred_reader.proofs.ReadBack.{IsBack, alone, bare, with_word, with_three}
use Rattle.cred_reader.proofs.Numbers.{long_number, number_back, decimal_plain}
use Rattle.cred_reader.proofs.Sets.{set_back, set_plain}
use Rattle.cred_reader.proofs.WordsBack.{arg_word, arg_spaced, arg_back, arg_plain, file_back, file_plain}

-- the change's text is read as the change
abbrev pub ChangeBack : Script → Change → Type 0
ChangeBack script change =
    IsBack (change_text script change)
    (events.change_named script.files) change

setfsuid_change : (script : Script) (id : Arg) → FitsChange (change.SetFs User id) → ChangeBack script (change.SetFs User id)
unfolding events.change_named changes.change_of names.change_names
setfsuid_change script id fits = rw (arg_spaced id) (with_word (codes "setfsuid") (arg_word id) refl (arg_plain id fits) (rw (arg_back id fits) refl))

setfsgid_change : (script : Script) (id : Arg) → FitsChange (change.SetFs Group id) → ChangeBack script (change.SetFs Group id)
unfolding events.change_named changes.change_of names.change_names
setfsgid_change script id fits = rw (arg_spaced id) (with_word (codes "setfsgid") (arg_word id) refl (arg_plain id fits) (rw (arg_back id fits) refl))

capset_change : (script : Script) (perm : ℕ) (inh : ℕ) (eff : ℕ) → FitsChange (change.Adjust (adjust.Capset perm inh eff))
    → ChangeBack script (change.Adjust (adjust.Capset perm inh eff))
unfolding events.change_named changes.change_of names.change_names words.three_of
capset_change script perm inh eff fits =
    with_three (codes "capset") (hexadecimal perm) (hexadecimal inh) (hexadecimal eff)
    (simp (append_assoc, append-nil)) refl (set_plain perm fits.0) (set_plain inh fits.1) (set_plain eff fits.2)
    (rw (set_back perm fits.0, set_back inh fits.1, set_back eff fits.2) refl)

capdrop_change : (script : Script) (value : ℕ) → FitsChange (change.Adjust (adjust.BoundDrop value))
    → ChangeBack script (change.Adjust (adjust.BoundDrop value))
unfolding events.change_named changes.change_of names.change_names
capdrop_change script value fits =
    with_word (codes "capdrop") (decimal value) refl (decimal_plain value (long_number value fits)) (rw (number_back value fits) refl)

ambraise_change : (script : Script) (value : ℕ) → FitsChange (change.Adjust (adjust.AmbRaise value))
    → ChangeBack script (change.Adjust (adjust.AmbRaise value))
unfolding events.change_named changes.change_of names.change_names
ambraise_change script value fits =
    with_word (codes "ambraise") (decimal value) refl (decimal_plain value (long_number value fits)) (rw (number_back value fits) refl)

amblower_change : (script : Script) (value : ℕ) → FitsChange (change.Adjust (adjust.AmbLower value))
    → ChangeBack script (change.Adjust (adjust.AmbLower value))
unfolding events.change_named changes.change_of names.change_names
amblower_change script value fits =
    with_word (codes "amblower") (decimal value) refl (decimal_plain value (long_number value fits)) (rw (number_back value fits) refl)

securebits_change : (script : Script) (value : ℕ) → FitsChange (change.Adjust (adjust.Bits value))
    → ChangeBack script (change.Adjust (adjust.Bits value))
unfolding events.change_named changes.change_of names.change_names
securebits_change script value fits =
    with_word (codes "securebits") (decimal value) refl (decimal_plain value (long_number value fits)) (rw (number_back value fits) refl)

keepcaps_change : (script : Script) (value : ℕ) → FitsChange (change.Adjust (adjust.KeepCaps value))
    → ChangeBack script (change.Adjust (adjust.KeepCaps value))
unfolding events.change_named changes.change_of names.change_names
keepcaps_change script value fits =
    with_word (codes "keepcaps") (decimal value) refl (decimal_plain value (long_number value fits)) (rw (number_back value fits) refl)

nonewprivs_change : (script : Script) (value : ℕ) → FitsChange (change.Adjust (adjust.NoNewPrivs value))
    → ChangeBack script (change.Adjust (adjust.NoNewPrivs value))
unfolding events.change_named changes.change_of names.change_names
nonewprivs_change script value fits =
    with_word (codes "nonewprivs") (decimal value) refl (decimal_plain value (long_number value fits)) (rw (number_back value fits) refl)

ambclear_change : (script : Script) → FitsChange (change.Adjust adjust.AmbClear) → ChangeBack script (change.Adjust adjust.AmbClear)
unfolding events.change_named changes.change_of names.change_names
ambclear_change script fits = bare (codes "ambclear") refl refl

access_change : (script : Script) → FitsChange (change.Access) → ChangeBack script (change.Access)
unfolding events.change_named changes.change_of names.change_names
access_change script fits = bare (codes "access") refl refl

exec_change : (script : Script) (file : ℕ) → FitsChange (change.Exec file) → IsFile script file → ChangeBack script (change.Exec file)
unfolding events.change_named changes.change_of names.change_names changes.exec_of
exec_change script file fits own =
    with_word (codes "exec") (file_text script file) refl (file_plain script file own) (rw (file_back script file own) refl)

pub change_back : (script : Script) (change : Change) → FitsChange change → All (IsFile script) (change_files change) → ChangeBack script change
change_back script (change.SetFs User id) fits own = setfsuid_change script id fits
change_back script (change.SetFs Group id) fits own = setfsgid_change script id fits
change_back script (change.Adjust (adjust.Capset perm inh eff)) fits own = capset_change script perm inh eff fits
change_back script (change.Adjust (adjust.BoundDrop value)) fits own = capdrop_change script value fits
change_back script (change.Adjust (adjust.AmbRaise value)) fits own = ambraise_change script value fits
change_back script (change.Adjust (adjust.AmbLower value)) fits own = amblower_change script value fits
change_back script (change.Adjust adjust.AmbClear) fits own = ambclear_change script fits
change_back script (change.Adjust (adjust.Bits value)) fits own = securebits_change script value fits
change_back script (change.Adjust (adjust.KeepCaps value)) fits own = keepcaps_change script value fits
change_back script (change.Adjust (adjust.NoNewPrivs value)) fits own = nonewprivs_change script value fits
change_back script (change.Exec file) fits own = exec_change script file fits (alone (IsFile script) file own)
change_back script change.Access fits own = access_change script fits
