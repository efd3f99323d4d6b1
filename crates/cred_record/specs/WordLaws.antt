-- Laws of the words of a credential.
use Rattle.std.specs.Prelude.{◌≡◌, ◌↔◌, List, ℕ, true}
use Rattle.cred_record.specs.Credential.{Credential}
use Rattle.cred_record.specs.Words.{IsCredential, words_of, are_words}

-- no words spell two credentials
abbrev pub NoWordsSpellTwo : Type 0
NoWordsSpellTwo =
    (a b : Credential) → IsCredential a → IsCredential b → words_of a ≡ words_of b → a ≡ b

-- the test of words holds exactly for the words of a credential
abbrev pub WordsAreTested : Type 0
WordsAreTested =
    (ws : List ℕ) → (are_words ws ≡ true) ↔ ((c : Credential) × IsCredential c × (ws ≡ words_of c))
