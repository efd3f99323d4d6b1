-- What bytes spell, as a relation and as a function.
use Rattle.std.proofs.Common.{◌≡◌, ◌==◌, ◌&&◌, ◌⊎◌, inl, inr, ℕ, ◌+◌, ◌*◌, ◌/◌, ◌%◌, ◌^◌, ◌<◌, length, Bool, true, false, List, Some, None, if◌then◌else◌, refl}
use Rattle.std.proofs.Common.{sym, ap, subst, ◌∙◌, arith}
use Rattle.std.specs.Int.{bit_at}
use Rattle.std.proofs.lemmas.Bool.{eqb-true}
use Rattle.std.proofs.lemmas.Nat.Bits.{bit_at_cat_low}
use Rattle.cred_rules.specs.Attribute.{Attribute, Spells, SpellsSet, IsVersion1, IsVersion2, IsVersion3, set_in, said, attribute_of, revision_of, root_id}
use Rattle.cred_filecap.specs.Laws.{AttributeOfIsSpelled}
use Rattle.cred_filecap.proofs.SetLemmas.{low-bits, set-spells}
use Rattle.cred_filecap.proofs.AttributeLaws.{no_bytes_spell_two}

-- ---- the function gives what is spelled

set_in-spells : (low high : ℕ) → SpellsSet low high (set_in low high)
set_in-spells low high =
    let small : low % 2 ^ 32 < 2 ^ 32 = omega arith in
    let cut = set-spells (low % 2 ^ 32) high (high * 2 ^ 32 + low % 2 ^ 32) small refl in
    record {
      below = λ n lt. cut.below n lt ∙ ap (λ d. d == 1) (low-bits low n lt);
      above = cut.above;
      others = cut.others;
    }

said-spells :
    (bytes : List ℕ) (version root : ℕ)
    → IsVersion1 bytes (said bytes version root) ⊎ (IsVersion2 bytes (said bytes version root) ⊎ IsVersion3 bytes (said bytes version root))
    → Spells bytes (said bytes version root)
said-spells bytes version root is = record {
  version = is;
  effective = refl;
  perm = set_in-spells _ _;
  inh = set_in-spells _ _;
}

said-1 :
    (bytes : List ℕ) → length bytes ≡ 12 → revision_of bytes ≡ 1 → Spells bytes (said bytes 1 0)
said-1 bytes size revision =
    said-spells bytes 1 0
    (inl (record { size = size; revision = revision; version = refl; root = refl }))

said-2 :
    (bytes : List ℕ) → length bytes ≡ 20 → revision_of bytes ≡ 2 → Spells bytes (said bytes 2 0)
said-2 bytes size revision =
    said-spells bytes 2 0
    (inr (inl (record { size = size; revision = revision; version = refl; root = refl })))

said-3 :
    (bytes : List ℕ) → length bytes ≡ 24 → revision_of bytes ≡ 3
    → Spells bytes (said bytes 3 (root_id bytes))
said-3 bytes size revision =
    said-spells bytes 3 (root_id bytes)
    (inr (inr (record { size = size; revision = revision; version = refl; root = refl })))

-- ---- which of the versions it gives

both : (a b : Bool) → (a && b) ≡ true → (a ≡ true) × (b ≡ true)
both true b is = (refl, is)
both false b is = cc

tests :
    (bytes : List ℕ) (size revision : ℕ)
    → ((length bytes == size) && (revision_of bytes == revision)) ≡ true
    → (length bytes ≡ size) × (revision_of bytes ≡ revision)
tests bytes size revision hold =
    let each = both (length bytes == size) (revision_of bytes == revision) hold in
    (eqb-true (length bytes) size each.0, eqb-true (revision_of bytes) revision each.1)

chosen :
    (first second third : Bool) (x y z a : Attribute)
    → (if first then Some x else if second then Some y else if third then Some z else None) ≡ Some a
    → ((first ≡ true) × (x ≡ a)) ⊎ (((second ≡ true) × (y ≡ a)) ⊎ ((third ≡ true) × (z ≡ a)))
chosen true second third x y z a same = inl (refl, cc)
chosen false true third x y z a same = inr (inl (refl, cc))
chosen false false true x y z a same = inr (inr (refl, cc))
chosen false false false x y z a same = cc

spelled : (bytes : List ℕ) (a : Attribute) → attribute_of bytes ≡ Some a → Spells bytes a
unfolding attribute_of
spelled bytes a same =
    elim (chosen _ _ _ (said bytes 1 0) (said bytes 2 0) (said bytes 3 (root_id bytes)) a same) [
      | inl one ↦
          let hold = tests bytes 12 1 one.0 in
          subst (Spells bytes) one.1 (said-1 bytes hold.0 hold.1)
      | inr (inl two) ↦
          let hold = tests bytes 20 2 two.0 in
          subst (Spells bytes) two.1 (said-2 bytes hold.0 hold.1)
      | inr (inr three) ↦
          let hold = tests bytes 24 3 three.0 in
          subst (Spells bytes) three.1 (said-3 bytes hold.0 hold.1)
    ]

-- ---- what is spelled is what the function gives

given-1 :
    (bytes : List ℕ) → length bytes ≡ 12 → revision_of bytes ≡ 1
    → attribute_of bytes ≡ Some (said bytes 1 0)
unfolding attribute_of
given-1 bytes size revision = rw (size, revision) refl

given-2 :
    (bytes : List ℕ) → length bytes ≡ 20 → revision_of bytes ≡ 2
    → attribute_of bytes ≡ Some (said bytes 2 0)
unfolding attribute_of
given-2 bytes size revision = rw (size, revision) refl

given-3 :
    (bytes : List ℕ) → length bytes ≡ 24 → revision_of bytes ≡ 3
    → attribute_of bytes ≡ Some (said bytes 3 (root_id bytes))
unfolding attribute_of
given-3 bytes size revision = rw (size, revision) refl

same-spelled :
    (bytes : List ℕ) (a b : Attribute) → attribute_of bytes ≡ Some a → Spells bytes a
    → Spells bytes b → attribute_of bytes ≡ Some b
same-spelled bytes a b given one other = given ∙ ap Some (no_bytes_spell_two bytes a b one other)

given : (bytes : List ℕ) (a : Attribute) → Spells bytes a → attribute_of bytes ≡ Some a
given bytes a is =
    elim is.version [
      | inl v ↦
          same-spelled bytes _ a (given-1 bytes v.size v.revision)
          (said-1 bytes v.size v.revision) is
      | inr (inl v) ↦
          same-spelled bytes _ a (given-2 bytes v.size v.revision)
          (said-2 bytes v.size v.revision) is
      | inr (inr v) ↦
          same-spelled bytes _ a (given-3 bytes v.size v.revision)
          (said-3 bytes v.size v.revision) is
    ]

pub attribute_of_is_spelled : AttributeOfIsSpelled
attribute_of_is_spelled bytes a = (spelled bytes a, given bytes a)
