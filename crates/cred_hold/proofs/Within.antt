-- What is lent and comes back within one call.
use Rattle.std.proofs.Common.{◌≡◌, length, ℕ, List, [], ◌∷◌, ◌++◌, map, Some, None, true, refl, sym, ap, ◌∙◌, subst}
use Rattle.std.specs.Prelude.{slice_get}
use Rattle.cred_record.specs.Credential.{Credential}
use Rattle.cred_record.specs.Words.{are_words, credential_in}
use Rattle.cred_words.specs.Size.{width, count}
use Rattle.cred_words.specs.Lists.{IsTaken}
use Rattle.cred_words.specs.Seen as words
use Rattle.cred_words.specs.declared.view.Ledger.{Ledger}
use Rattle.cred_words.specs.Words.{words_at}
use Rattle.cred_words.proofs.Lists.{words_at-get}
use Rattle.cred_hold.specs.Tokens.{Loan, IsAgain, IsAlone, AreSlots, slot_seen}
use Rattle.cred_hold.proofs.Slots.{sealed-seen, sealed_words}

-- what a master knows of a slot that is seen to be sealed
pub record Knows (d : Ledger) (slot : ℕ) (c : Credential) : Type 0 where
  pub sealed : words.IsSealedSlot d slot
  pub wide : length (words_at d.slots slot) ≡ width
  pub are : are_words (words_at d.slots slot) ≡ true
  pub cred : credential_in (words_at d.slots slot) ≡ c

pub knows : (d : Ledger) (slot : ℕ) (c : Credential) → AreSlots d.slots → slice_get (map slot_seen d.slots) slot ≡ Some (Some c) → Knows d slot c
knows d slot c all at =
    let x = sealed-seen d.slots slot c at in
    let sealed : words.IsSealedSlot d slot = (x.0, x.1, x.2) in
    let w = sealed_words d slot all sealed in
    record { sealed = sealed; wide = w.0; are = w.1; cred = ap credential_in (words_at-get d.slots slot x.0 x.1) ∙ x.3 }

-- a master whose ledger is as before is a master still
pub master_again : (d e : Ledger) → IsAgain d e → (d.kept ≡ None) × AreSlots d.slots × (length d.slots ≡ count)
    → (e.kept ≡ None) × AreSlots e.slots × (length e.slots ≡ count)
master_again d e a i = (a.kept ∙ i.0, subst AreSlots (sym a.slots_are) i.1, ap length a.slots_are ∙ i.2)

no_other : (e : Loan) (before after : List Loan) → IsAlone (before ++ e ∷ after) e.slot → ⊥
no_other e [] after h = h.0 refl
no_other e (b ∷ before) after h = no_other e before after h.1

-- of loans of which one alone is on a slot, it is the one that is taken
pub taken_alone : (e : Loan) (es new : List Loan) → IsAlone es e.slot → IsTaken (e ∷ es) e new → new ≡ es
taken_alone e es new alone h = by h.0 h.2 h.3
  where
    by : (before : List Loan) → e ∷ es ≡ before ++ e ∷ h.1 → new ≡ before ++ h.1 → new ≡ es
    by [] is now = let rest : es ≡ h.1 = cc in now ∙ sym rest
    by (b ∷ before) is now =
        let rest : es ≡ before ++ e ∷ h.1 = cc in
        absurd (no_other e before h.1 (subst (λ xs. IsAlone xs e.slot) rest alone))
