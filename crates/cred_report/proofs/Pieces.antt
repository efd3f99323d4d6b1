-- A word that is written from its end, in pieces.
use Rattle.std.proofs.Common.{◌≡◌, ℕ, List, ◌++◌, take, drop, sym, ap, ◌∙◌, append_assoc}
use Rattle.std.proofs.lemmas.List.{take-append-drop}

-- the first bytes of a word, before the others and more, are the word before that
pub word_again : (word prefix last old text : List ℕ) (n : ℕ) → prefix ≡ take n word → last ≡ drop n word → text ≡ last ++ old → prefix ++ text ≡ word ++ old
word_again word prefix last old text n first second written =
    ap (λ (l : List ℕ). prefix ++ l) written
    ∙ sym (append_assoc prefix last old)
    ∙ ap (λ (l : List ℕ). l ++ old) (ap (λ (l : List ℕ). l ++ last) first ∙ ap (λ (l : List ℕ). take n word ++ l) second ∙ take-append-drop n word)
