-- The laws of the attribute.
use Rattle.std.proofs.Common.{◌≡◌, ◌==◌, ◌⊎◌, inl, inr, ℕ, false, List, sym, ap, subst, ◌∙◌, arith, rules, tests}
use Rattle.std.proofs.lemmas.List.Folds.{list_any_none}
use Rattle.cred_ids.specs.Id.{NO_ID, IsId}
use Rattle.cred_rules.specs.Attribute.{Attribute, SpellsSet, IsVersion1, IsVersion2, IsVersion3, high_in, perm_low, perm_high, inh_low, inh_high}
use Rattle.cred_rules.specs.Attribute.{counts_everywhere}
use Rattle.cred_filecap.specs.Laws.{NoBytesSpellTwo, NoIdCountsNowhere}
use Rattle.cred_filecap.proofs.SetLemmas.{same-set}

-- bytes of two versions have two lengths
abbrev IsVersion : List ℕ → Attribute → Type 0
IsVersion bytes a = IsVersion1 bytes a ⊎ (IsVersion2 bytes a ⊎ IsVersion3 bytes a)

-- the same version, and the same root id
abbrev AreAlike : Attribute → Attribute → Type 0
AreAlike a b = (a.version ≡ b.version) × (a.root ≡ b.root)

alike : (bytes : List ℕ) (a b : Attribute) → IsVersion bytes a → IsVersion bytes b → AreAlike a b
alike bytes a b (inl one) (inl other) = (one.version ∙ sym other.version, one.root ∙ sym other.root)
alike bytes a b (inr (inl one)) (inr (inl other)) = (one.version ∙ sym other.version, one.root ∙ sym other.root)
alike bytes a b (inr (inr one)) (inr (inr other)) = (one.version ∙ sym other.version, one.root ∙ sym other.root)
alike bytes a b (inl one) (inr (inl other)) = absurd (omega (arith, one.size, other.size))
alike bytes a b (inl one) (inr (inr other)) = absurd (omega (arith, one.size, other.size))
alike bytes a b (inr (inl one)) (inl other) = absurd (omega (arith, one.size, other.size))
alike bytes a b (inr (inl one)) (inr (inr other)) = absurd (omega (arith, one.size, other.size))
alike bytes a b (inr (inr one)) (inl other) = absurd (omega (arith, one.size, other.size))
alike bytes a b (inr (inr one)) (inr (inl other)) = absurd (omega (arith, one.size, other.size))

-- no bytes spell two attributes
pub no_bytes_spell_two : NoBytesSpellTwo
no_bytes_spell_two bytes a b one other =
    let both = alike bytes a b one.version other.version in
    let version : a.version ≡ b.version = both.0 in
    let perm = same-set _ _ a.perm b.perm one.perm (subst (λ v. SpellsSet (perm_low bytes) (high_in v (perm_high bytes)) b.perm) (sym version) other.perm) in
    let inh = same-set _ _ a.inh b.inh one.inh (subst (λ v. SpellsSet (inh_low bytes) (high_in v (inh_high bytes)) b.inh) (sym version) other.inh) in
    let effective = one.effective ∙ sym other.effective in
    let root : a.root ≡ b.root = both.1 in
    (λ i. record { version = version i; perm = perm i; inh = inh i; effective = effective i; root = root i })

-- an id is not the number that is none
is-other : (id root : ℕ) → IsId id → root ≡ NO_ID → (id == root) ≡ false
is-other id root is none = let other : id ≡ root → ⊥ = λ same. omega arith in search (rules, tests, other)

pub no_id_counts_nowhere : NoIdCountsNowhere
no_id_counts_nowhere a chain ids version none =
    let other : counts_everywhere a.version ≡ false = ap counts_everywhere version in
    rw other (list_any_none (λ id. id == a.root) chain (λ k d lt. is-other _ a.root (ids k d lt) none))
