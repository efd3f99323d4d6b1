-- Id calls that were printed, read back.
use Rattle.std.proofs.Common.{◌≡◌, ℕ, List, [], ◌∷◌, ◌++◌, map, codes, refl, append_assoc, decimal}
use Rattle.std.proofs.lemmas.List.{append-nil}
use Rattle.cred_ids.specs.declared.arg.Arg.{Arg}
use Rattle.cred_record.specs.declared.id_call.IdCall.{IdCall}
use Rattle.cred_record.specs.declared.id_call.IdCall.TheVariants as call
use Rattle.cred_model.specs.Script.{Script}
use Rattle.cred_spelling.specs.Names as names
use Rattle.cred_spelling.specs.Words as words
use Rattle.cred_ids.specs.Tests.{◌>>=◌}
use Rattle.cred_grammar.specs.IdCalls as calls
use Rattle.cred_report.specs.Calls.{call_text}
use Rattle.cred_reader.specs.Events as events
use Rattle.cred_reader.specs.Fits.{FitsCall}
use Rattle.cred_reader.proofs.ReadBack.{IsBack, with_word, with_two, with_three}
use Rattle.cred_reader.proofs.Words.{spaced}
use Rattle.cred_reader.proofs.WordsBack.{arg_word, arg_spaced, arg_back, arg_plain}
use Rattle.cred_reader.proofs.Ids.{ids_spaced, ids_plain, ids_back}

-- the call's text is read as the call
abbrev pub CallBack : Script → IdCall → Type 0
CallBack script call =
    IsBack (call_text call) events.call_named call

three_words : (name a b c : List ℕ) → 32 ∷ (name ++ (32 ∷ a) ++ (32 ∷ b) ++ (32 ∷ c)) ≡ spaced (name ∷ a ∷ b ∷ c ∷ [])
three_words name a b c = simp (append_assoc, append-nil)

setuid_call : (script : Script) (id : Arg) → FitsCall (call.SetUid id) → CallBack script (call.SetUid id)
unfolding events.call_named calls.id_call_of names.id_names
setuid_call script id fits = rw (arg_spaced id) (with_word (codes "setuid") (arg_word id) refl (arg_plain id fits) (rw (arg_back id fits) refl))

seteuid_call : (script : Script) (id : Arg) → FitsCall (call.SetEuid id) → CallBack script (call.SetEuid id)
unfolding events.call_named calls.id_call_of names.id_names
seteuid_call script id fits = rw (arg_spaced id) (with_word (codes "seteuid") (arg_word id) refl (arg_plain id fits) (rw (arg_back id fits) refl))

setreuid_call : (script : Script) (real : Arg) (effective : Arg) → FitsCall (call.SetReuid real effective)
    → CallBack script (call.SetReuid real effective)
unfolding events.call_named calls.id_call_of names.id_names words.two_of
setreuid_call script real effective fits =
    with_two (codes "setreuid") (arg_word real) (arg_word effective) (rw (arg_spaced real, arg_spaced effective) (simp append-nil))
    refl (arg_plain real fits.0) (arg_plain effective fits.1) (rw (arg_back real fits.0, arg_back effective fits.1) refl)

setresuid_call : (script : Script) (real : Arg) (effective : Arg) (saved : Arg) → FitsCall (call.SetResuid real effective saved)
    → CallBack script (call.SetResuid real effective saved)
unfolding events.call_named calls.id_call_of names.id_names words.three_of
setresuid_call script real effective saved fits =
    with_three (codes "setresuid") (arg_word real) (arg_word effective) (arg_word saved)
    (rw (arg_spaced real, arg_spaced effective, arg_spaced saved) (three_words (codes "setresuid") (arg_word real) (arg_word effective) (arg_word saved)))
    refl (arg_plain real fits.0) (arg_plain effective fits.1) (arg_plain saved fits.2)
    (rw (arg_back real fits.0, arg_back effective fits.1, arg_back saved fits.2) refl)

setgid_call : (script : Script) (id : Arg) → FitsCall (call.SetGid id) → CallBack script (call.SetGid id)
unfolding events.call_named calls.id_call_of names.id_names
setgid_call script id fits = rw (arg_spaced id) (with_word (codes "setgid") (arg_word id) refl (arg_plain id fits) (rw (arg_back id fits) refl))

setegid_call : (script : Script) (id : Arg) → FitsCall (call.SetEgid id) → CallBack script (call.SetEgid id)
unfolding events.call_named calls.id_call_of names.id_names
setegid_call script id fits = rw (arg_spaced id) (with_word (codes "setegid") (arg_word id) refl (arg_plain id fits) (rw (arg_back id fits) refl))

setregid_call : (script : Script) (real : Arg) (effective : Arg) → FitsCall (call.SetRegid real effective)
    → CallBack script (call.SetRegid real effective)
unfolding events.call_named calls.id_call_of names.id_names words.two_of
setregid_call script real effective fits =
    with_two (codes "setregid") (arg_word real) (arg_word effective) (rw (arg_spaced real, arg_spaced effective) (simp append-nil))
    refl (arg_plain real fits.0) (arg_plain effective fits.1) (rw (arg_back real fits.0, arg_back effective fits.1) refl)

setresgid_call : (script : Script) (real : Arg) (effective : Arg) (saved : Arg) → FitsCall (call.SetResgid real effective saved)
    → CallBack script (call.SetResgid real effective saved)
unfolding events.call_named calls.id_call_of names.id_names words.three_of
setresgid_call script real effective saved fits =
    with_three (codes "setresgid") (arg_word real) (arg_word effective) (arg_word saved)
    (rw (arg_spaced real, arg_spaced effective, arg_spaced saved) (three_words (codes "setresgid") (arg_word real) (arg_word effective) (arg_word saved)))
    refl (arg_plain real fits.0) (arg_plain effective fits.1) (arg_plain saved fits.2)
    (rw (arg_back real fits.0, arg_back effective fits.1, arg_back saved fits.2) refl)

setgroups_call : (script : Script) (groups : List ℕ) → FitsCall (call.SetGroups groups) → CallBack script (call.SetGroups groups)
unfolding events.call_named calls.id_call_of names.id_names
setgroups_call script groups fits = record {
  first = codes "setgroups";
  rest = map decimal groups;
  spaced = rw (ids_spaced groups) refl;
  plain = ids_plain groups fits;
  read = rw (ids_back groups fits) refl;
}

pub call_back : (script : Script) (call : IdCall) → FitsCall call → CallBack script call
call_back script (call.SetUid id) fits = setuid_call script id fits
call_back script (call.SetEuid id) fits = seteuid_call script id fits
call_back script (call.SetReuid real effective) fits = setreuid_call script real effective fits
call_back script (call.SetResuid real effective saved) fits = setresuid_call script real effective saved fits
call_back script (call.SetGid id) fits = setgid_call script id fits
call_back script (call.SetEgid id) fits = setegid_call script id fits
call_back script (call.SetRegid real effective) fits = setregid_call script real effective fits
call_back script (call.SetResgid real effective saved) fits = setresgid_call script real effective saved fits
call_back script (call.SetGroups groups) fits = setgroups_call script groups fits
