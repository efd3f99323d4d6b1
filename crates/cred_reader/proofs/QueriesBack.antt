-- Questions that were printed, read back.
use Rattle.std.proofs.Common.{◌≡◌, ℕ, List, [], ◌∷◌, ◌++◌, All, codes, refl, append_assoc, decimal}
use Rattle.std.proofs.lemmas.List.{append-nil}
use Rattle.cred_record.specs.declared.want.Want.{Want}
use Rattle.cred_event.specs.declared.event.Query.{Query}
use Rattle.cred_event.specs.declared.event.Query.TheVariants as query
use Rattle.cred_model.specs.Named.{query_files}
use Rattle.cred_model.specs.Script.{Script}
use Rattle.cred_spelling.specs.Names as names
use Rattle.cred_grammar.specs.Questions as questions
use Rattle.cred_report.specs.Questions.{file_text, want_text, query_text}
use Rattle.cred_reader.specs.Fits.{IsFile, FitsQuery}
use Rattle.cred_reader.proofs.ReadBack.{IsBack, alone, bare, with_word}
use Rattle.cred_reader.proofs.Words.{spaced}
use Rattle.cred_reader.proofs.Numbers.{long_number, number_back, decimal_plain}
use Rattle.cred_reader.proofs.WordsBack.{want_back, want_plain, file_back, file_plain}

-- the question's text is read as the question
abbrev pub QueryBack : Script → Query → Type 0
QueryBack script query = IsBack (query_text script query) (questions.query_named script.files) query

ids_query : (script : Script) → FitsQuery (query.Ids) → QueryBack script (query.Ids)
unfolding questions.query_named questions.query_of names.query_names
ids_query script fits = bare (codes "ids") refl refl

caps_query : (script : Script) → FitsQuery (query.Caps) → QueryBack script (query.Caps)
unfolding questions.query_named questions.query_of names.query_names
caps_query script fits = bare (codes "caps") refl refl

groups_query : (script : Script) → FitsQuery (query.Groups) → QueryBack script (query.Groups)
unfolding questions.query_named questions.query_of names.query_names
groups_query script fits = bare (codes "groups") refl refl

bits_query : (script : Script) → FitsQuery (query.Bits) → QueryBack script (query.Bits)
unfolding questions.query_named questions.query_of names.query_names
bits_query script fits = bare (codes "bits") refl refl

capable_query : (script : Script) (cap : ℕ) → FitsQuery (query.Capable cap) → QueryBack script (query.Capable cap)
unfolding questions.query_named questions.query_of names.query_names
capable_query script cap fits =
    with_word (codes "capable") (decimal cap) refl (decimal_plain cap (long_number cap fits)) (rw (number_back cap fits) refl)

bset_query : (script : Script) (cap : ℕ) → FitsQuery (query.Bset cap) → QueryBack script (query.Bset cap)
unfolding questions.query_named questions.query_of names.query_names
bset_query script cap fits = with_word (codes "bset") (decimal cap) refl (decimal_plain cap (long_number cap fits)) (rw (number_back cap fits) refl)

ambis_query : (script : Script) (cap : ℕ) → FitsQuery (query.AmbIs cap) → QueryBack script (query.AmbIs cap)
unfolding questions.query_named questions.query_of names.query_names
ambis_query script cap fits = with_word (codes "ambis") (decimal cap) refl (decimal_plain cap (long_number cap fits)) (rw (number_back cap fits) refl)

check_words : (file want : List ℕ) → 32 ∷ (codes "check " ++ file ++ codes " " ++ want) ≡ spaced (codes "check" ∷ file ∷ want ∷ [])
check_words file want = simp (append_assoc, append-nil)

check_query : (script : Script) (file : ℕ) (want : Want) → FitsQuery (query.Check file want) → IsFile script file
    → QueryBack script (query.Check file want)
unfolding questions.query_named questions.query_of questions.file_and_want names.query_names
check_query script file want fits own = record {
  first = codes "check";
  rest = (file_text script file) ∷ (want_text want) ∷ [];
  spaced = check_words (file_text script file) (want_text want);
  plain = rw (file_plain script file own, want_plain want fits) refl;
  read = rw (file_back script file own, want_back want fits) refl;
}

pub query_back : (script : Script) (query : Query) → FitsQuery query → All (IsFile script) (query_files query) → QueryBack script query
query_back script query.Ids fits own = ids_query script fits
query_back script query.Caps fits own = caps_query script fits
query_back script query.Groups fits own = groups_query script fits
query_back script query.Bits fits own = bits_query script fits
query_back script (query.Capable cap) fits own = capable_query script cap fits
query_back script (query.Bset cap) fits own = bset_query script cap fits
query_back script (query.AmbIs cap) fits own = ambis_query script cap fits
query_back script (query.Check file want) fits own = check_query script file want fits (alone (IsFile script) file own)
