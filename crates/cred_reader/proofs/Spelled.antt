-- What words are read as has numbers that fit.
use Rattle.std.proofs.Common.{ℕ, Option, Some, None, List, [], ◌∷◌, Result, Ok, Err, ok_or}
use Rattle.cred_spelling.specs.Words.{word_of, one_of, two_of, three_of, five_of}
use Rattle.cred_ids.specs.Tests.{◌>>=◌}

-- it holds of what was read, if anything was
abbrev pub Holds : {A E : Type 0} → (A → Type 0) → Result A E → Type 0
Holds P (Ok value) = P value
Holds P (Err error) = Unit {0}

-- it holds of what a word spells, if it spells anything
abbrev pub HoldsSome : {A : Type 0} → (A → Type 0) → Option A → Type 0
HoldsSome P (Some value) = P value
HoldsSome P None = Unit {0}

-- it holds of all that words of the kind spell
abbrev pub OfAll : {A : Type 0} → (A → Type 0) → (List ℕ → Option A) → Type 0
OfAll P spelled = (word : List ℕ) → HoldsSome P (spelled word)

pub then_holds : {A B E : Type 0} (P : A → Type 0) (Q : B → Type 0) (r : Result A E) (f : A → Result B E) → Holds P r → ((x : A) → P x → Holds Q (f x))
    → Holds Q (r >>= f)
then_holds P Q (Ok x) f h next = next x h
then_holds P Q (Err e) f h next = tt

pub ok_or_holds : {A E : Type 0} (P : A → Type 0) (o : Option A) (e : E) → HoldsSome P o → Holds P (ok_or o e)
ok_or_holds P (Some x) e h = h
ok_or_holds P None e h = tt

pub word_holds : {A : Type 0} (P : A → Type 0) (spelled : List ℕ → Option A) → OfAll P spelled → (word : List ℕ) → Holds P (word_of spelled word)
word_holds P spelled all word = ok_or_holds P (spelled word) _ (all word)

pub one_holds : {A : Type 0} (P : A → Type 0) (a : List ℕ → Option A) → OfAll P a → (words : List (List ℕ)) → Holds P (one_of a words)
one_holds P a all [] = tt
one_holds P a all (w ∷ []) = word_holds P a all w
one_holds P a all (w ∷ v ∷ ws) = tt

pub two_holds : {A B : Type 0} (P : A → Type 0) (Q : B → Type 0) (a : List ℕ → Option A) (b : List ℕ → Option B) → OfAll P a → OfAll Q b
    → (words : List (List ℕ)) → Holds (λ (v : A × B). P v.0 × Q v.1) (two_of a b words)
unfolding two_of
two_holds P Q a b all_a all_b [] = tt
two_holds P Q a b all_a all_b (w ∷ []) = tt
two_holds P Q a b all_a all_b (w ∷ v ∷ []) =
    then_holds P _ (word_of a w) _ (word_holds P a all_a w) (λ x p.
    then_holds Q _ (word_of b v) _ (word_holds Q b all_b v) (λ y q. (p, q)))
two_holds P Q a b all_a all_b (w ∷ v ∷ u ∷ ws) = tt

pub three_holds : {A B C : Type 0} (P : A → Type 0) (Q : B → Type 0) (R : C → Type 0) (a : List ℕ → Option A) (b : List ℕ → Option B) (c : List ℕ → Option C)
    → OfAll P a → OfAll Q b → OfAll R c → (words : List (List ℕ)) → Holds (λ (v : A × B × C). P v.0 × Q v.1 × R v.2) (three_of a b c words)
unfolding three_of
three_holds P Q R a b c all_a all_b all_c [] = tt
three_holds P Q R a b c all_a all_b all_c (w ∷ []) = tt
three_holds P Q R a b c all_a all_b all_c (w ∷ v ∷ []) = tt
three_holds P Q R a b c all_a all_b all_c (w ∷ v ∷ u ∷ []) =
    then_holds P _ (word_of a w) _ (word_holds P a all_a w) (λ x p.
    then_holds Q _ (word_of b v) _ (word_holds Q b all_b v) (λ y q.
    then_holds R _ (word_of c u) _ (word_holds R c all_c u) (λ z r. (p, q, r))))
three_holds P Q R a b c all_a all_b all_c (w ∷ v ∷ u ∷ t ∷ ws) = tt

-- what five words spell, where one thing holds of all
pub five_holds : {A B C D E : Type 0} (P : A → Type 0) (Q : B → Type 0) (R : C → Type 0) (S : D → Type 0) (T : E → Type 0) (a : List ℕ → Option A)
    (b : List ℕ → Option B) (c : List ℕ → Option C) (d : List ℕ → Option D) (e : List ℕ → Option E)
    → OfAll P a → OfAll Q b → OfAll R c → OfAll S d → OfAll T e → (words : List (List ℕ))
    → Holds (λ (v : A × B × C × D × E). P v.0 × Q v.1 × R v.2 × S v.3 × T v.4) (five_of a b c d e words)
unfolding five_of
five_holds P Q R S T a b c d e all_a all_b all_c all_d all_e [] = tt
five_holds P Q R S T a b c d e all_a all_b all_c all_d all_e (w ∷ []) = tt
five_holds P Q R S T a b c d e all_a all_b all_c all_d all_e (w ∷ v ∷ []) = tt
five_holds P Q R S T a b c d e all_a all_b all_c all_d all_e (w ∷ v ∷ u ∷ []) = tt
five_holds P Q R S T a b c d e all_a all_b all_c all_d all_e (w ∷ v ∷ u ∷ t ∷ []) = tt
five_holds P Q R S T a b c d e all_a all_b all_c all_d all_e (w ∷ v ∷ u ∷ t ∷ s ∷ []) =
    then_holds _ _ (two_of a b (w ∷ v ∷ [])) _ (two_holds P Q a b all_a all_b (w ∷ v ∷ [])) (λ x p.
    then_holds _ _ (three_of c d e (u ∷ t ∷ s ∷ [])) _ (three_holds R S T c d e all_c all_d all_e (u ∷ t ∷ s ∷ [])) (λ y q. (p.0, p.1, q.0, q.1, q.2)))
five_holds P Q R S T a b c d e all_a all_b all_c all_d all_e (w ∷ v ∷ u ∷ t ∷ s ∷ r ∷ ws) = tt

-- nothing is asked of what was read
pub any_holds : {A E : Type 0} (r : Result A E) → Holds (λ x. Unit {0}) r
any_holds (Ok x) = tt
any_holds (Err e) = tt
