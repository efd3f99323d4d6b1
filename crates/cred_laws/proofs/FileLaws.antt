-- What an event makes of a file.
use Rattle.std.proofs.Common.{◌≡◌, ◌≢◌, ◌==◌, ℕ, zero, suc, List, [], ◌∷◌, length, slice_get, slice_set, Option, Some, None, Result, Ok, Err, Bool, true, false, not}
use Rattle.std.proofs.Common.{cond, refl, sym, ap, ◌∙◌, subst}
use Rattle.std.specs.Option.{IfSome}
use Rattle.std.specs.Int.Bits.{bit_and, and_zero_r}
use Rattle.std.proofs.lemmas.Bool.{eqb-true, eqb-false}
use Rattle.std.proofs.lemmas.List.{length-set}
use Rattle.std.proofs.lemmas.Nat.{and_assoc}
use Rattle.cred_ids.specs.declared.arg.Arg.{Arg}
use Rattle.cred_record.specs.Credential.{Credential}
use Rattle.cred_record.specs.File.{File}
use Rattle.cred_record.specs.declared.refusal.Denial.{Denial}
use Rattle.cred_record.specs.declared.refusal.Denial.TheVariants.{Perm, Invalid}
use Rattle.cred_rules.specs.Files.{may_chown, chown, chowned, strips, stripped}
use Rattle.cred_rules.specs.Modes.{SET_USER, SET_GROUP, GROUP_EXECUTE, has_any, without_bits}
use Rattle.cred_event.specs.declared.answer.Answer.{Answer}
use Rattle.cred_event.specs.declared.answer.Answer.TheVariants.{Done}
use Rattle.cred_event.specs.declared.event.Event.{Event}
use Rattle.cred_event.specs.declared.event.Event.TheVariants.{Chown, Chmod, SetAttr}
use Rattle.cred_model.specs.Answers.{refusal}
use Rattle.cred_model.specs.Change.{by_rule}
use Rattle.cred_model.specs.FileChanges.{changed_file, changed_by}
use Rattle.cred_ids.specs.Tests.{◌>>=◌}
use Rattle.cred_model.specs.Script.{Script}
use Rattle.cred_model.specs.State.{State, held_by}
use Rattle.cred_model.specs.Step.{done, outcome, step}
use Rattle.cred_sound.proofs.Events.{changes}
use Rattle.cred_sound.proofs.Parts.{InodesChange, SameInodes, Writes}
use Rattle.cred_laws.specs.Files.{FilesChangeByCalls, FilesAreAsMany, IsStripped, HasStripped, resets, ChownStrips, StaysStripped}
use Rattle.cred_laws.proofs.Cases.{some_case}
use Rattle.cred_laws.proofs.Unexecuted.{answer_of, answers_settled}

-- ---- a list with one element in the place of another

pub get-set_same : {X : Type 0} (xs : List X) (i : ℕ) (x y : X) → slice_get xs i ≡ Some y → slice_get (slice_set xs i x) i ≡ Some x
get-set_same [] i x y is = cc
get-set_same (z ∷ xs) zero x y is = refl
get-set_same (z ∷ xs) (suc i) x y is = get-set_same xs i x y is

pub get-set_other : {X : Type 0} (xs : List X) (i j : ℕ) (x : X) → j ≢ i → slice_get (slice_set xs i x) j ≡ slice_get xs j
get-set_other [] i j x apart = refl
get-set_other (z ∷ xs) zero zero x apart = absurd (apart refl)
get-set_other (z ∷ xs) zero (suc j) x apart = refl
get-set_other (z ∷ xs) (suc i) zero x apart = refl
get-set_other (z ∷ xs) (suc i) (suc j) x apart = get-set_other xs i j x (λ same. apart (ap suc same))

-- ---- a file changes by three calls alone

same_file : (a b : List File) (place : ℕ) (old new : File) → b ≡ a → slice_get a place ≡ Some old → slice_get b place ≡ Some new → old ≡ new
same_file a b place old new same was is =
    let both : Some old ≡ Some new = sym was ∙ ap (λ (xs : List File). slice_get xs place) (sym same) ∙ is in cc

changed_so : (s : State) (event : Event) (made : Answer × State) (place : ℕ) (old new : File) → InodesChange s event made
    → slice_get s.inodes place ≡ Some old → slice_get made.1.inodes place ≡ Some new → old ≢ new
    → (changed_file event ≡ Some place) × (made.0 ≡ Done)
changed_so s event made place old new (SameInodes same) was is differ =
    absurd (differ (same_file s.inodes made.1.inodes place old new same was is))
changed_so s event made place old new (Writes at held before after on there ruled done now) was is differ =
    elim (place == at) as (λ b. (place == at) ≡ b → (changed_file event ≡ Some place) × (made.0 ≡ Done)) [
      | true ↦ λ test. (on ∙ ap Some (sym (eqb-true place at test)), done)
      | false ↦ λ test.
          let other : place ≢ at = eqb-false place at test in
          let kept : slice_get made.1.inodes place ≡ slice_get s.inodes place
          = ap (λ (xs : List File). slice_get xs place) now ∙ get-set_other s.inodes at place after other in
          let both : Some old ≡ Some new = sym was ∙ sym kept ∙ is in
          absurd (differ (cc))
    ] refl

pub files_change_by_calls : FilesChangeByCalls
files_change_by_calls script s line event place old new was is differ =
    changed_so s event (step script s line event) place old new (changes script s line event).inodes was is differ

as_many : (s : State) (event : Event) (made : Answer × State) → InodesChange s event made → length made.1.inodes ≡ length s.inodes
as_many s event made (SameInodes same) = ap length same
as_many s event made (Writes at held before after on there ruled done now) = ap length now ∙ length-set s.inodes at after

pub files_are_as_many : FilesAreAsMany
files_are_as_many script s line event = as_many s event (step script s line event) (changes script s line event).inodes

-- ---- what a chown takes away

without_clear : (mode : ℕ) → has_any (without_bits mode SET_USER) SET_USER ≡ false
without_clear mode = ap (λ n. not (n == 0)) (and_assoc 2048 mode 2047 ∙ and_zero_r mode)

without_both : (mode : ℕ) → has_any (without_bits (without_bits mode SET_USER) SET_GROUP) SET_USER ≡ false
without_both mode = ap (λ n. not (n == 0)) (and_assoc 2048 (without_bits mode SET_USER) 3071) ∙ without_clear mode

stripped_clear : (mode : ℕ) → has_any (stripped mode) SET_USER ≡ false
stripped_clear mode =
    elim (has_any mode GROUP_EXECUTE) as
    (λ b. has_any (cond b (without_bits (without_bits mode SET_USER) SET_GROUP) (without_bits mode SET_USER)) SET_USER ≡ false) [
      | true ↦ without_both mode
      | false ↦ without_clear mode
    ]

chowned_strips : (file : File) (owner group : Arg) → strips file owner group ≡ true → IsStripped (chowned file owner group)
unfolding chowned
chowned_strips file owner group is = record {
  attr = ap (λ b. cond b None file.attr) is;
  mode = ap (λ b. has_any (cond b (stripped file.mode) file.mode) SET_USER) is ∙ stripped_clear file.mode;
}

-- a file that has neither gets neither
chowned_still : (file : File) (owner group : Arg) → IsStripped file → IsStripped (chowned file owner group)
unfolding chowned
chowned_still file owner group has =
    elim (strips file owner group) as (λ b. strips file owner group ≡ b → IsStripped (chowned file owner group)) [
      | true ↦ λ test. chowned_strips file owner group test
      | false ↦ λ test. record {
        attr = ap (λ b. cond b None file.attr) test ∙ has.attr;
        mode = ap (λ b. has_any (cond b (stripped file.mode) file.mode) SET_USER) test ∙ has.mode;
      }
    ] refl

chown_is : (c : Credential) (file : File) (owner group : Arg) (new : File) → chown c file owner group ≡ Ok new → chowned file owner group ≡ new
chown_is c file owner group new is =
    elim (may_chown c file owner group) as (λ b. cond b (Ok (chowned file owner group)) (Err Perm) ≡ Ok new → chowned file owner group ≡ new) [
      | true ↦ λ same. cc
      | false ↦ λ none. cc
    ] is

not_done : (denial : Denial) → refusal denial ≡ Done → ⊥
not_done Perm is = cc
not_done Invalid is = cc

rule_case : (Q : Result (Answer × State) Answer → Type 0) (r : Result File Denial) (f : File → Result (Answer × State) Answer)
    → ((denial : Denial) → Q (Err (refusal denial))) → ((file : File) → r ≡ Ok file → Q (f file)) → Q (by_rule r >>= f)
rule_case Q (Ok file) f none each = each file refl
rule_case Q (Err denial) f none each = none denial

chown_case : (script : Script) (s : State) (line hold place : ℕ) (owner group : Arg) (old : File) → slice_get s.inodes place ≡ Some old
    → strips old owner group ≡ true → answer_of (done script s line (Chown hold place owner group)) ≡ Done
    → HasStripped (outcome s (done script s line (Chown hold place owner group))).1.inodes place
chown_case script s line hold place owner group old was test =
    let Q : Result (Answer × State) Answer → Type 0 = λ r. answer_of r ≡ Done → HasStripped (outcome s r).1.inodes place in
    some_case Q (held_by s hold) _ _ (λ answered. cc)
    (λ held at. some_case Q (slice_get s.inodes place) _ _ (λ answered. cc)
    (λ file there. rule_case Q (chown held.cred file owner group) _ (λ denial answered. absurd (not_done denial answered))
    (λ new ruled answered.
    let both : Some old ≡ Some file = sym was ∙ there in
    let same : old ≡ file = cc in
    let so : IsStripped new
    = subst IsStripped (chown_is held.cred file owner group new ruled)
    (chowned_strips file owner group (ap (λ (f : File). strips f owner group) (sym same) ∙ test)) in
    subst (λ (o : Option File). IfSome o IsStripped) (sym (get-set_same s.inodes place new file there)) so)))

pub chown_strips : ChownStrips
chown_strips script s line hold place owner group old was test answered =
    chown_case script s line hold place owner group old was test
    (sym (answers_settled s (done script s line (Chown hold place owner group))) ∙ answered)

-- what the call on this very file leaves, where it resets nothing
written_so : (event : Event) (place : ℕ) (c : Credential) (old new : File) → changed_file event ≡ Some place → resets event place ≡ false
    → changed_by event c old ≡ Ok new → IsStripped old → IsStripped new
written_so (Chown hold file owner group) place c old new on none ruled has =
    subst IsStripped (chown_is c old owner group new ruled) (chowned_still old owner group has)
written_so (Chmod hold file mode) place c old new on none ruled has =
    let at : file ≡ place = cc in
    let test : (place == place) ≡ false = ap (λ n. n == place) (sym at) ∙ none in
    absurd (eqb-false place place test refl)
written_so (SetAttr hold file attr) place c old new on none ruled has =
    let at : file ≡ place = cc in
    let test : (place == place) ≡ false = ap (λ n. n == place) (sym at) ∙ none in
    absurd (eqb-false place place test refl)
written_so event place c old new on none ruled has = cc

stays_so : (s : State) (event : Event) (made : Answer × State) (place : ℕ) → InodesChange s event made → HasStripped s.inodes place
    → resets event place ≡ false → HasStripped made.1.inodes place
stays_so s event made place (SameInodes same) has none = subst (λ inodes. HasStripped inodes place) (sym same) has
stays_so s event made place (Writes at held before after on there ruled done now) has none =
    subst (λ inodes. HasStripped inodes place) (sym now)
    (elim (place == at) as (λ b. (place == at) ≡ b → HasStripped (slice_set s.inodes at after) place) [
      | true ↦ λ test.
          let here : at ≡ place = sym (eqb-true place at test) in
          let stood : slice_get s.inodes place ≡ Some before = ap (slice_get s.inodes) (sym here) ∙ there in
          let was : IsStripped before = subst (λ (o : Option File). IfSome o IsStripped) stood has in
          let so = written_so event place held.cred before after (on ∙ ap Some here) none ruled was in
          subst (λ n. HasStripped (slice_set s.inodes n after) place) (sym here)
          (subst (λ (o : Option File). IfSome o IsStripped) (sym (get-set_same s.inodes place after before stood)) so)
      | false ↦ λ test.
          subst (λ (o : Option File). IfSome o IsStripped) (sym (get-set_other s.inodes at place after (eqb-false place at test))) has
    ] refl)

pub stays_stripped : StaysStripped
stays_stripped script s line event place has none =
    stays_so s event (step script s line event) place (changes script s line event).inodes has none
