-- What is refused says nothing.
use Rattle.std.proofs.Common.{◌≡◌, ℕ, true, List, Result, Err}
use Rattle.cred_rules.specs.Attribute.{Attribute}
use Rattle.cred_captext.specs.declared.refusal.TextRefusal.{TextRefusal}
use Rattle.cred_captext.specs.declared.sets.Sets.{Sets}
use Rattle.cred_captext.specs.Grammar.{Clauses}
use Rattle.cred_captext.specs.Meaning.{attribute_or_mixed, is_whole, sets_of_clauses}
use Rattle.cred_captext.specs.Reading.{SpellsClauses}
use Rattle.cred_inspect.specs.Encoding.{IsCapText}

whole_answered : (e : TextRefusal) (s : Sets) → is_whole s ≡ true → ◌≡◌ {A = Result Attribute TextRefusal} (Err e) (attribute_or_mixed s) → ⊥
whole_answered e s whole same = let no = rw whole at same in cc

-- a text that is refused says nothing of a file
pub no_text : (text : List ℕ) (e : TextRefusal)
    → ((t : Clauses) → SpellsClauses text t → ◌≡◌ {A = Result Attribute TextRefusal} (Err e) (attribute_or_mixed (sets_of_clauses t))) → ¬ IsCapText text
no_text text e each = λ found. whole_answered e (sets_of_clauses found.1.clauses) found.1.whole (each found.1.clauses found.1.spells)
