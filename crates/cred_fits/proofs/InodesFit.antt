-- The files of a state are in range, whatever an event makes of them.
use Rattle.std.proofs.Common.{◌≡◌, ℕ, zero, suc, Bool, true, false, ◌||◌, cond, not, List, [], ◌∷◌, slice_set, Option, Result, Ok, Err, sym, subst, arith}
use Rattle.std.specs.Prelude.{bit_and}
use Rattle.std.specs.List.{All}
use Rattle.std.proofs.lemmas.List.Elements.{All-cons, All-head, All-tail, All-map}
use Rattle.std.proofs.lemmas.Nat.{and_le_l}
use Rattle.cred_ids.specs.declared.arg.Arg.{Arg}
use Rattle.cred_ids.specs.declared.arg.Arg.TheVariants.{Keep, Set}
use Rattle.cred_ids.specs.Id.{IsId}
use Rattle.cred_record.specs.Credential.{Credential, capable}
use Rattle.cred_record.specs.File.{File, IsMode}
use Rattle.cred_record.specs.declared.refusal.Denial.{Denial}
use Rattle.cred_record.specs.declared.refusal.Denial.TheVariants.{Perm, Invalid}
use Rattle.cred_rules.specs.Access.{in_group}
use Rattle.cred_rules.specs.Files.{chosen, may_chown, strips, stripped, chowned, chown, may_chmod, given_mode, chmod, is_attr, set_attr}
use Rattle.cred_rules.specs.Modes.{SET_USER, SET_GROUP, GROUP_EXECUTE, has_any, without_bits}
use Rattle.cred_caps.specs.Numbers.{FSETID, SETFCAP}
use Rattle.cred_event.specs.declared.answer.Answer.{Answer}
use Rattle.cred_event.specs.declared.event.Event.{Event}
use Rattle.cred_event.specs.declared.event.Event.TheVariants as event
use Rattle.cred_model.specs.FileChanges.{changed_by}
use Rattle.cred_model.specs.Script.{Script, NamedFile}
use Rattle.cred_model.specs.State.{State, opening}
use Rattle.cred_model.specs.Step.{step}
use Rattle.cred_model.proofs.Lists.{All-at}
use Rattle.cred_sound.proofs.Parts.{InodesChange, SameInodes, Writes}
use Rattle.cred_sound.proofs.Events.{changes}
use Rattle.cred_reader.specs.Fits.{IsArg, FitsEvent}
use Rattle.cred_fits.specs.Content.{FitsFile}

all_set : {X : Type 0} (P : X → Type 0) (xs : List X) (i : ℕ) (x : X) → All P xs → P x → All P (slice_set xs i x)
all_set P [] i x all h = all
all_set P (y ∷ xs) zero x all h = All-cons P x xs h (All-tail P y xs all)
all_set P (y ∷ xs) (suc i) x all h = All-cons P y (slice_set xs i x) (All-head P y xs all) (all_set P xs i x (All-tail P y xs all) h)

-- ---- what a call makes of a file

fewer_bits : (mode mask : ℕ) → IsMode mode → IsMode (bit_and mode mask)
fewer_bits mode mask small = omega (arith, and_le_l mode mask, small)

id_chosen : (old : ℕ) (arg : Arg) → IsId old → IsArg arg → IsId (chosen old arg)
id_chosen old Keep was fits = was
id_chosen old (Set id) was fits = fits

mode_stripped : (mode : ℕ) → IsMode mode → IsMode (stripped mode)
mode_stripped mode small = by (has_any mode GROUP_EXECUTE)
  where
    by : (b : Bool) → IsMode (cond b (without_bits (without_bits mode SET_USER) SET_GROUP) (without_bits mode SET_USER))
    by true = fewer_bits _ _ (fewer_bits mode _ small)
    by false = fewer_bits mode _ small

chowned_fits : (f : File) (owner group : Arg) → FitsFile f → IsArg owner → IsArg group → FitsFile (chowned f owner group)
unfolding chowned
chowned_fits f owner group was o g = record {
  owner = id_chosen f.owner owner was.owner o;
  group = id_chosen f.group group was.group g;
  mode = by (strips f owner group);
}
  where
    by : (b : Bool) → IsMode (cond b (stripped f.mode) f.mode)
    by true = mode_stripped f.mode was.mode
    by false = was.mode

given_fits : (c : Credential) (f : File) (mode : ℕ) → IsMode mode → IsMode (given_mode c f mode)
given_fits c f mode small = by (capable c FSETID) (in_group c f.group)
  where
    by : (able member : Bool) → IsMode (cond (able || member) mode (without_bits mode SET_GROUP))
    by true member = small
    by false true = small
    by false false = fewer_bits mode _ small

chown_fits : (c : Credential) (old new : File) (owner group : Arg) → chown c old owner group ≡ Ok new → FitsFile (chowned old owner group) → FitsFile new
chown_fits c old new owner group is fits = by (may_chown c old owner group) is
  where
    by : (b : Bool) → (let r : Result File Denial = cond b (Ok (chowned old owner group)) (Err Perm) in r) ≡ Ok new → FitsFile new
    by true made = let same : chowned old owner group ≡ new = cc in subst FitsFile same fits
    by false made = absurd (cc)

chmod_fits : (c : Credential) (old new : File) (mode : ℕ) → chmod c old mode ≡ Ok new → FitsFile old → IsMode mode → FitsFile new
unfolding chmod
chmod_fits c old new mode is was small = by (may_chmod c old) is
  where
    given : File
    given = record old { mode = given_mode c old mode }

    by : (b : Bool) → (let r : Result File Denial = cond b (Ok given) (Err Perm) in r) ≡ Ok new → FitsFile new
    by true made =
        let same : given ≡ new = cc in
        let fits : FitsFile given = record { owner = was.owner; group = was.group; mode = given_fits c old mode small } in
        subst FitsFile same fits
    by false made = absurd (cc)

set_attr_fits : (c : Credential) (old new : File) (attr : Option (List ℕ)) → set_attr c old attr ≡ Ok new → FitsFile old → FitsFile new
unfolding set_attr
set_attr_fits c old new attr is was = by (capable c SETFCAP) (is_attr attr) is
  where
    given : File
    given = record old { attr = attr }

    by : (able one : Bool) → (let r : Result File Denial = cond (not able) (Err Perm) (cond (not one) (Err Invalid) (Ok given)) in r) ≡ Ok new → FitsFile new
    by true true made =
        let same : given ≡ new = cc in
        let fits : FitsFile given = record { owner = was.owner; group = was.group; mode = was.mode } in
        subst FitsFile same fits
    by true false made = absurd (cc)
    by false one made = absurd (cc)

rule_fits : (event : Event) (c : Credential) (old new : File) → changed_by event c old ≡ Ok new → FitsEvent event → FitsFile old → FitsFile new
rule_fits (event.Chown hold place owner group) c old new is fits was =
    chown_fits c old new owner group is (chowned_fits old owner group was fits.1 fits.2)
rule_fits (event.Chmod hold place mode) c old new is fits was = chmod_fits c old new mode is was fits.1
rule_fits (event.SetAttr hold place attr) c old new is fits was = set_attr_fits c old new attr is was
rule_fits event c old new is fits was = let same : old ≡ new = cc in subst FitsFile same was

-- ---- the files of a state

inodes_fit : (s : State) (event : Event) (made : Answer × State) → FitsEvent event → InodesChange s event made → All FitsFile s.inodes
    → All FitsFile made.1.inodes
inodes_fit s event made fits (SameInodes same) all = subst (λ files. All FitsFile files) (sym same) all
inodes_fit s event made fits (Writes place held old new is there ruled done now) all =
    let one = rule_fits event held.cred old new ruled fits (All-at FitsFile s.inodes place old there all) in
    subst (λ files. All FitsFile files) (sym now) (all_set FitsFile s.inodes place new all one)

pub step_inodes : (script : Script) (s : State) (line : ℕ) (event : Event) → FitsEvent event → All FitsFile s.inodes
    → All FitsFile (step script s line event).1.inodes
step_inodes script s line event fits all =
    inodes_fit s event (step script s line event) fits (changes script s line event).inodes all

-- so are those that the script declares
pub opening_inodes : (script : Script) → All (λ file. FitsFile file.info) script.files → All FitsFile (opening script).inodes
opening_inodes script all = All-map FitsFile (λ (f : NamedFile). f.info) script.files all
