-- What a text is read as.
use Rattle.std.specs.Prelude.{◌≡◌, ℕ, ◌≤◌, true, false, List, ◌∷◌, ◌++◌, take, length}
use Rattle.cred_rules.specs.Attribute.{Attribute}
use Rattle.cred_captext.specs.declared.refusal.TextRefusal.{TextRefusal}
use Rattle.cred_captext.specs.declared.refusal.TextRefusal.TheVariants.{Bad, Mixed}
use Rattle.cred_captext.specs.Grammar.{Clauses, AreClauses, clauses_text}
use Rattle.cred_captext.specs.Meaning.{sets_of_clauses, is_whole, attribute_of_sets}

-- the bytes are the text of these clauses
pub record SpellsClauses (bytes : List ℕ) (t : Clauses) : Type 0 where
  pub clauses : AreClauses (t.first ∷ t.others)
  pub text : bytes ≡ clauses_text t

-- the bytes are a text, and say this of a file
pub record TextSays (bytes : List ℕ) (a : Attribute) : Type 0 where
  pub clauses : Clauses
  pub spells : SpellsClauses bytes clauses
  pub whole : is_whole (sets_of_clauses clauses) ≡ true
  pub value : a ≡ attribute_of_sets (sets_of_clauses clauses)

-- the bytes are a text, of sets that no file can have
pub record AreMixed (bytes : List ℕ) : Type 0 where
  pub clauses : Clauses
  pub spells : SpellsClauses bytes clauses
  pub mixed : is_whole (sets_of_clauses clauses) ≡ false

-- some text begins with these bytes, or is them
pub record BeginsSomeText (bytes : List ℕ) : Type 0 where
  pub rest : List ℕ
  pub clauses : Clauses
  pub spells : SpellsClauses (bytes ++ rest) clauses

-- the bytes are no text, and of their prefixes that begin some text the longest has this length
pub record AreNone (bytes : List ℕ) (k : ℕ) : Type 0 where
  pub none : (t : Clauses) → ¬ SpellsClauses bytes t
  pub within : k ≤ length bytes
  pub begins : BeginsSomeText (take k bytes)
  pub longest : (n : ℕ) → n ≤ length bytes → BeginsSomeText (take n bytes) → n ≤ k

-- why bytes are not the text of a file's capabilities
abbrev pub IsRefused : List ℕ → TextRefusal → Type 0
IsRefused bytes (Bad k) = AreNone bytes k
IsRefused bytes Mixed = AreMixed bytes
