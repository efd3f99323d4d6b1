-- The law of the record, and what a record of version 1 holds.
use Rattle.std.proofs.Common.{◌≡◌, ◌⊎◌, inl, inr, ℕ, ◌==◌, Bool, true, false, IsTrue, List, refl}
use Rattle.std.proofs.Common.{sym, ap, subst, ◌∙◌, arith, rules, tests}
use Rattle.std.proofs.lemmas.Bool.{eqb-true}
use Rattle.cred_rules.specs.Attribute.{SpellsSet, high_in}
use Rattle.cred_filecap.proofs.SetLemmas.{same-set}
use Rattle.cred_capdata.specs.declared.data.CapData.{CapData}
use Rattle.cred_capdata.specs.Record.{SpellsData, is_data_version, word_of_version, version_word, eff_word_0, eff_word_1}
use Rattle.cred_capdata.specs.Record.{perm_word_0, perm_word_1, inh_word_0, inh_word_1}
use Rattle.cred_capdata.specs.Laws.{NoBytesSpellTwoRecords}

-- which version it is
pub which : (version : ℕ) → IsTrue (is_data_version version)
    → (version ≡ 1) ⊎ ((version ≡ 2) ⊎ (version ≡ 3))
which version known =
    elim (version == 1) as
    (λ b. (version == 1) ≡ b → (version ≡ 1) ⊎ ((version ≡ 2) ⊎ (version ≡ 3))) [
      | true ↦ λ one. inl (eqb-true version 1 one)
      | false ↦ λ not_one.
          elim (version == 2) as
          (λ b. (version == 2) ≡ b → (version ≡ 1) ⊎ ((version ≡ 2) ⊎ (version ≡ 3))) [
            | true ↦ λ two. inr (inl (eqb-true version 2 two))
            | false ↦ λ not_two. inr (inr (search (rules, tests)))
          ] refl
    ] refl

apart : (a b m n : ℕ) → a ≡ m → b ≡ n → word_of_version a ≡ word_of_version b → (word_of_version m ≡ word_of_version n → ⊥) → ⊥
apart a b m n is other same differ =
    differ (ap word_of_version (sym is) ∙ same ∙ ap word_of_version other)

-- two versions have two words
same-version : (a b : ℕ) → IsTrue (is_data_version a) → IsTrue (is_data_version b) → word_of_version a ≡ word_of_version b
    → a ≡ b
same-version a b a_known b_known same =
    elim (which a a_known) [
      | inl one ↦ elim (which b b_known) [
        | inl other ↦ one ∙ sym other
        | inr (inl other) ↦ absurd (apart a b 1 2 one other same (λ e. omega arith))
        | inr (inr other) ↦ absurd (apart a b 1 3 one other same (λ e. omega arith))
      ]
      | inr (inl two) ↦ elim (which b b_known) [
        | inl other ↦ absurd (apart a b 2 1 two other same (λ e. omega arith))
        | inr (inl other) ↦ two ∙ sym other
        | inr (inr other) ↦ absurd (apart a b 2 3 two other same (λ e. omega arith))
      ]
      | inr (inr three) ↦ elim (which b b_known) [
        | inl other ↦ absurd (apart a b 3 1 three other same (λ e. omega arith))
        | inr (inl other) ↦ absurd (apart a b 3 2 three other same (λ e. omega arith))
        | inr (inr other) ↦ three ∙ sym other
      ]
    ]

-- no bytes spell two records
pub no_bytes_spell_two : NoBytesSpellTwoRecords
no_bytes_spell_two bytes a b one other =
    let version : a.version ≡ b.version =
    same-version a.version b.version one.known other.known (sym one.word ∙ other.word) in
    let eff = same-set _ _ a.eff b.eff one.eff
    (subst (λ v. SpellsSet (eff_word_0 bytes) (high_in v (eff_word_1 bytes)) b.eff)
    (sym version) other.eff) in
    let perm = same-set _ _ a.perm b.perm one.perm
    (subst (λ v. SpellsSet (perm_word_0 bytes) (high_in v (perm_word_1 bytes)) b.perm)
    (sym version) other.perm) in
    let inh = same-set _ _ a.inh b.inh one.inh
    (subst (λ v. SpellsSet (inh_word_0 bytes) (high_in v (inh_word_1 bytes)) b.inh)
    (sym version) other.inh) in
    let target = one.target ∙ sym other.target in
    (λ i. record {
      version = version i;
      target = target i;
      perm = perm i;
      inh = inh i;
      eff =
          eff i;
    })
