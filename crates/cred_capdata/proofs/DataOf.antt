-- What bytes spell, as a relation and as a function.
use Rattle.std.proofs.Common.{◌≡◌, ◌==◌, ◌&&◌, ◌⊎◌, inl, inr, ℕ, ◌+◌, ◌*◌, ◌%◌, ◌^◌, ◌<◌, length, Bool, true, false, List, Option, Some, None, Result, Ok, Err}
use Rattle.std.proofs.Common.{IsTrue, if◌then◌else◌, refl, sym, ap, subst, ◌∙◌, arith}
use Rattle.std.specs.Result.{IfOk, result_ok}
use Rattle.std.proofs.lemmas.Bool.{eqb-true}
use Rattle.cred_rules.specs.Attribute.{SpellsSet, set_in}
use Rattle.cred_filecap.proofs.SetLemmas.{low-bits, set-spells}
use Rattle.cred_capdata.specs.declared.data.CapData.{CapData}
use Rattle.cred_capdata.specs.declared.refusal.DataRefusal.{DataRefusal}
use Rattle.cred_capdata.specs.Record.{SpellsData, is_data_version, word_of_version, size_of, version_word, data_said, has_version_form, data_of}
use Rattle.cred_capdata.proofs.RecordLaws.{which, no_bytes_spell_two}

-- ---- the function gives what is spelled

set_in-spells : (low high : ℕ) → SpellsSet low high (set_in low high)
set_in-spells low high =
    let small : low % 2 ^ 32 < 2 ^ 32 = omega arith in
    let cut = set-spells (low % 2 ^ 32) high (high * 2 ^ 32 + low % 2 ^ 32) small refl in
    record {
      below = λ n lt. cut.below n lt ∙ ap (λ d. d == 1) (low-bits low n lt);
      above = cut.above;
      others = cut.others;
    }

said-spells : (bytes : List ℕ) (version : ℕ) → IsTrue (is_data_version version) → length bytes ≡ size_of version
    → version_word bytes ≡ word_of_version version → SpellsData bytes (data_said bytes version)
said-spells bytes version known size word = record {
  known = known;
  word = word;
  size = size;
  target = refl;
  eff = set_in-spells _ _;
  perm = set_in-spells _ _;
  inh = set_in-spells _ _;
}

both : (a b : Bool) → (a && b) ≡ true → (a ≡ true) × (b ≡ true)
both true b is = (refl, is)
both false b is = cc

form-spells : (bytes : List ℕ) (version : ℕ) → IsTrue (is_data_version version) → has_version_form bytes version ≡ true
    → SpellsData bytes (data_said bytes version)
form-spells bytes version known hold =
    let each = both (length bytes == size_of version) (version_word bytes == word_of_version version) hold in
    said-spells bytes version known (eqb-true (length bytes) (size_of version) each.0) (eqb-true (version_word bytes) (word_of_version version) each.1)

chosen : (first second third : Bool) (x y z d : CapData)
    → (if first then Some x else if second then Some y else if third then Some z else None) ≡ Some d
    → ((first ≡ true) × (x ≡ d)) ⊎ (((second ≡ true) × (y ≡ d)) ⊎ ((third ≡ true) × (z ≡ d)))
chosen true second third x y z d same = inl (refl, cc)
chosen false true third x y z d same = inr (inl (refl, cc))
chosen false false true x y z d same = inr (inr (refl, cc))
chosen false false false x y z d same = cc

pub spelled : (bytes : List ℕ) (d : CapData) → data_of bytes ≡ Some d → SpellsData bytes d
unfolding data_of
spelled bytes d same =
    elim
    (chosen (has_version_form bytes 1) (has_version_form bytes 2) (has_version_form bytes 3)
    (data_said bytes 1) (data_said bytes 2) (data_said bytes 3) d same) [
      | inl one ↦ subst (SpellsData bytes) one.1 (form-spells bytes 1 refl one.0)
      | inr (inl two) ↦ subst (SpellsData bytes) two.1 (form-spells bytes 2 refl two.0)
      | inr (inr three) ↦ subst (SpellsData bytes) three.1 (form-spells bytes 3 refl three.0)
    ]

-- ---- what is spelled is what the function gives

given-1 : (bytes : List ℕ) → length bytes ≡ 20 → version_word bytes ≡ word_of_version 1 → data_of bytes ≡ Some (data_said bytes 1)
unfolding data_of
given-1 bytes size word = rw (size, word) refl

given-2 : (bytes : List ℕ) → length bytes ≡ 32 → version_word bytes ≡ word_of_version 2 → data_of bytes ≡ Some (data_said bytes 2)
unfolding data_of
given-2 bytes size word = rw (size, word) refl

given-3 : (bytes : List ℕ) → length bytes ≡ 32 → version_word bytes ≡ word_of_version 3 → data_of bytes ≡ Some (data_said bytes 3)
unfolding data_of
given-3 bytes size word = rw (size, word) refl

same-spelled : (bytes : List ℕ) (a b : CapData) → data_of bytes ≡ Some a → SpellsData bytes b → data_of bytes ≡ Some b
same-spelled bytes a b given other = given ∙ ap Some (no_bytes_spell_two bytes a b (spelled bytes a given) other)

pub given : (bytes : List ℕ) (d : CapData) → SpellsData bytes d → data_of bytes ≡ Some d
given bytes d is =
    elim (which d.version is.known) [
      | inl one ↦ same-spelled bytes (data_said bytes 1) d (given-1 bytes (is.size ∙ ap size_of one) (is.word ∙ ap word_of_version one)) is
      | inr (inl two) ↦ same-spelled bytes (data_said bytes 2) d (given-2 bytes (is.size ∙ ap size_of two) (is.word ∙ ap word_of_version two)) is
      | inr (inr three) ↦ same-spelled bytes (data_said bytes 3) d (given-3 bytes (is.size ∙ ap size_of three) (is.word ∙ ap word_of_version three)) is
    ]

-- ---- what is read is what the function gives

none_given : (bytes : List ℕ) (e : DataRefusal) (o : Option CapData) → data_of bytes ≡ o
    → ((d : CapData) → SpellsData bytes d → ◌≡◌ {A = Result CapData DataRefusal} (Err e) (Ok d)) → None ≡ o
none_given bytes e None is each = refl
none_given bytes e (Some d) is each = let same = each d (spelled bytes d is) in cc

pub read-is : (bytes : List ℕ) (r : Result CapData DataRefusal) → IfOk r (λ d. SpellsData bytes d)
    → ((d : CapData) → SpellsData bytes d → r ≡ Ok d) → result_ok r ≡ data_of bytes
read-is bytes (Ok d) spells each = sym (given bytes d spells)
read-is bytes (Err e) spells each = none_given bytes e (data_of bytes) refl each
