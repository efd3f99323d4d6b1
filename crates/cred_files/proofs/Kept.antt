-- The open files, as they are kept by their descriptors.
use Rattle.std.proofs.Common.{Bool, true, false, cond, ◌+◌, ◌<◌, ◌≡◌, ℕ, ◌≤◌, List, [], ◌∷◌, ◌++◌, length, None, Some, nat_eq, refl, sym, subst, arith}
use Rattle.std.specs.List.{IsDistinct}
use Rattle.std.specs.Map.{keys_of, lookup, remove_entry}
use Rattle.std.specs.Option.{option_map}
use Rattle.std.proofs.lemmas.List.{length-map}
use Rattle.cred_ids.specs.Limits.{OPEN_FILES}
use Rattle.cred_files.specs.declared.file_description.FileDescription.{FileDescription}
use Rattle.cred_files.specs.Open.{AreOpen, file_as, file_under, open_files, descriptor_place, Closes}
use Rattle.cred_files.proofs.ByKey.{keys-things, find-things, not_there, no_place, added, taken}

pub are_open : (es : List (ℕ × FileDescription)) → IsDistinct nat_eq (keys_of es) → length es ≤ OPEN_FILES → AreOpen (open_files es)
are_open es apart few = record {
  apart = subst (IsDistinct nat_eq) (sym (keys-things file_as (λ f. f.fd) (λ fd f. refl) es)) apart;
  few = omega (arith, few, length-map es (λ (e : ℕ × FileDescription). file_as e.0 e.1));
}

pub length-files_of : (es : List (ℕ × FileDescription)) → length (open_files es) ≡ length es
length-files_of es = length-map es (λ (e : ℕ × FileDescription). file_as e.0 e.1)

-- room for one more is enough
pub still_open : (es after : List (ℕ × FileDescription)) (was : Bool) → length (open_files es) < OPEN_FILES → IsDistinct nat_eq (keys_of after)
    → length after ≡ length es + cond was 0 1 → AreOpen (open_files after)
still_open es after true room apart len = are_open after apart (omega (arith, room, len, length-files_of es))
still_open es after false room apart len = are_open after apart (omega (arith, room, len, length-files_of es))

pub file_at-files_of : (fd : ℕ) (es : List (ℕ × FileDescription)) → file_under (open_files es) fd ≡ option_map (file_as fd) (lookup (nat_eq fd) es)
file_at-files_of fd es = find-things file_as (λ f. f.fd) (λ k f. refl) fd es

pub is_new : (fd : ℕ) (es : List (ℕ × FileDescription)) → file_under (open_files es) fd ≡ None → lookup (nat_eq fd) es ≡ None
is_new fd es none = not_there file_as (λ f. f.fd) (λ k f. refl) fd es none

pub opened : (fd : ℕ) (f : FileDescription) (es after : List (ℕ × FileDescription)) → after ≡ es ++ (fd, f) ∷ [] → open_files after ≡ open_files es ++ file_as fd f ∷ []
opened fd f es after is = added file_as (λ f. f.fd) (λ k f. refl) fd f es after is

pub not_open : (fd : ℕ) (es : List (ℕ × FileDescription)) → lookup (nat_eq fd) es ≡ None → descriptor_place (open_files es) fd ≡ None
not_open fd es none = no_place file_as (λ f. f.fd) (λ k f. refl) fd es none

pub closed : (fd : ℕ) (f : FileDescription) (es after : List (ℕ × FileDescription)) → lookup (nat_eq fd) es ≡ Some f → after ≡ remove_entry (nat_eq fd) es
    → Closes (open_files es) (open_files after) fd f.opener
closed fd f es after was is =
    let gone = taken file_as (λ f. f.fd) (λ k f. refl) fd f es after was is in
    record { place = gone.place; file = f.file; found = gone.found; there = gone.there; left = gone.left }
