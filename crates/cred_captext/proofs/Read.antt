-- What a reader answers is what the text says.
use Rattle.std.proofs.Common.{◌≡◌, ℕ, ◌≤◌, true, false, List, length, take, Some, None}
use Rattle.std.proofs.Common.{Result, Ok, Err, ok_or, refl, sym, ap, subst, ◌∙◌, cond, arith}
use Rattle.std.specs.declared.option.Option.{Option}
use Rattle.std.specs.Option.{option_and_then}
use Rattle.std.specs.Result.{IfOk, IfErr}
use Rattle.std.proofs.lemmas.List.{take_all}
use Rattle.cred_rules.specs.Attribute.{Attribute}
use Rattle.cred_captext.specs.declared.refusal.TextRefusal.{TextRefusal}
use Rattle.cred_captext.specs.declared.refusal.TextRefusal.TheVariants.{Mixed}
use Rattle.cred_captext.specs.declared.sets.Sets.{Sets}
use Rattle.cred_captext.specs.Grammar.{Clauses}
use Rattle.cred_captext.specs.Meaning.{sets_of_clauses, is_whole, attribute_of_sets, attribute_or_mixed}
use Rattle.cred_captext.specs.declared.bytes.Reader.{Reader}
use Rattle.cred_captext.specs.Machine.{first_reader, run, sets_at_end, sets_said}
use Rattle.cred_captext.specs.Stops.{StopsAt}
use Rattle.cred_captext.specs.Laws.{NoTextSaysTwo}
use Rattle.cred_captext.specs.Reading.{SpellsClauses, TextSays, IsRefused}
use Rattle.cred_captext.proofs.Forward.{text-said}
use Rattle.cred_captext.proofs.Tails.{text-read}

-- the clauses of a text that was read say what was read
pub same-sets : (bytes : List ℕ) (x : Sets) → sets_said first_reader bytes ≡ Some x → (t : Clauses)
    → SpellsClauses bytes t → x ≡ sets_of_clauses t
same-sets bytes x is t spells =
    let both : Some x ≡ Some (sets_of_clauses t) = sym is ∙ ap (sets_said first_reader) spells.text
    ∙ text-said t spells.clauses in
    cc

-- what is answered for sets
pub record Answers (bytes : List ℕ) (r : Result Attribute TextRefusal) : Type 0 where
  pub value : IfOk r (λ a. TextSays bytes a)
  pub refusal : IfErr r (λ e. IsRefused bytes e)

answered : (bytes : List ℕ) (x : Sets) → sets_said first_reader bytes ≡ Some x → Answers bytes (attribute_or_mixed x)
answered bytes x is =
    let text = text-read bytes x is in
    elim (is_whole x) as
    (λ t. is_whole x ≡ t → Answers bytes (cond t (Ok (attribute_of_sets x)) (Err Mixed))) [
      | true ↦ λ whole. record {
        value = record {
          clauses = text.clauses;
          spells = text.spells;
          whole = ap is_whole (sym text.value) ∙ whole;
          value = ap attribute_of_sets text.value;
        };
        refusal = tt;
      }
      | false ↦ λ mixed. record {
        value = tt;
        refusal = record {
          clauses = text.clauses;
          spells = text.spells;
          mixed = ap is_whole (sym text.value) ∙ mixed;
        };
      }
    ] refl

pub answers : (bytes : List ℕ) (x : Sets) (r : Result Attribute TextRefusal)
    → sets_said first_reader bytes ≡ Some x → r ≡ attribute_or_mixed x → Answers bytes r
answers bytes x r is same = subst (Answers bytes) (sym same) (answered bytes x is)

-- ---- at the end of the bytes

-- what a reader answers of the sets
pub record Ended (bytes : List ℕ) (r : Result Sets ℕ) : Type 0 where
  pub sets : IfOk r (λ s. sets_said first_reader bytes ≡ Some s)
  pub stops : IfErr r (λ k. StopsAt bytes k)

ended-so : (bytes : List ℕ) (reader : Reader) (o : Option Sets) → run first_reader bytes ≡ Some reader
    → sets_at_end reader ≡ o → Ended bytes (ok_or o (length bytes))
ended-so bytes reader (Some s) is last = record {
  sets = ap (option_and_then sets_at_end) is ∙ last;
  stops = tt;
}
ended-so bytes reader None is last = record {
  sets = tt;
  stops = record {
    reader = reader;
    read = ap (run first_reader) (take_all (length bytes) bytes (omega arith)) ∙ is;
    within = omega arith;
    next = λ lt. absurd (omega arith);
    last = λ end. last;
  };
}

pub at-end : (bytes : List ℕ) (k : ℕ) (reader : Reader) (o : Option Sets) (r : Result Sets ℕ)
    → length bytes ≤ k → run first_reader (take k bytes) ≡ Some reader → o ≡ sets_at_end reader
    → r ≡ ok_or o (length bytes) → Ended bytes r
at-end bytes k reader o r past is last same =
    let all : run first_reader bytes ≡ Some reader = ap (run first_reader) (sym (take_all k bytes past)) ∙ is in
    subst (Ended bytes) (sym same) (ended-so bytes reader o all (sym last))

-- ---- the law

pub no_text_says_two : NoTextSaysTwo
no_text_says_two bytes a b one other =
    let first : sets_said first_reader bytes ≡ Some (sets_of_clauses one.clauses) =
    ap (sets_said first_reader) one.spells.text ∙ text-said one.clauses one.spells.clauses in
    let sets = same-sets bytes (sets_of_clauses one.clauses) first other.clauses other.spells in
    one.value ∙ ap attribute_of_sets sets ∙ sym other.value
