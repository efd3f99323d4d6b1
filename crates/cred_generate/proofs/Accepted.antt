-- Each line of a generated script is accepted, whatever was read before it in the setup.
use Rattle.std.proofs.Common.{◌≡◌, ℕ, zero, suc, ◌+◌, ◌%◌, ◌==◌, true, false, cond, List, [], ◌∷◌, ◌++◌, map, length, codes, Result, Ok, Err, refl, sym, ap}
use Rattle.std.proofs.Common.{◌∙◌, arith}
use Rattle.std.specs.List.{range_with_len}
use Rattle.std.proofs.lemmas.List.FromFn.{length-map-range_with_len, map-range_with_len_more}
use Rattle.std.proofs.lemmas.List.{flat_map_more}
use Rattle.cred_model.specs.Script.{Script}
use Rattle.cred_spelling.specs.declared.reason.Reason.{Reason}
use Rattle.cred_spelling.specs.Lines.{lines_of}
use Rattle.cred_spelling.specs.Words.{two_of, three_of, five_of}
use Rattle.cred_spelling.specs.Names.{forms, id_names, change_names, query_names}
use Rattle.cred_grammar.specs.IdCalls.{id_call_of}
use Rattle.cred_grammar.specs.Changes.{change_of}
use Rattle.cred_grammar.specs.Questions.{query_of}
use Rattle.cred_grammar.specs.Calls.{content_of, call_of}
use Rattle.cred_grammar.specs.Forms.{parse_form}
use Rattle.cred_grammar.specs.Reading.{Reading, nothing, script}
use Rattle.cred_grammar.specs.Grammar.{parse_full, add_line, add_lines, script_of}
use Rattle.cred_generate.specs.Generated.{FIRST, call_by, call, generated, text_of}
use Rattle.cred_ids.specs.Tests.{◌>>=◌}

-- what holds of each of the five lines holds of each call
each : (P : List ℕ → Type 0) → P (codes "t1 setresuid 0 0 0") → P (codes "t1 keepcaps 1") → P (codes "t1 capable 21")
    → P (codes "t1 setfsuid 1000") → P (codes "t1 ambraise 0") → (remainder : ℕ) → P (call_by remainder)
each P a b c d e remainder =
    elim (remainder == 1) as
    (λ w. P (cond w (codes "t1 setresuid 0 0 0") (cond (remainder == 2) (codes "t1 keepcaps 1")
    (cond (remainder == 3) (codes "t1 capable 21") (cond (remainder == 4) (codes "t1 setfsuid 1000") (codes "t1 ambraise 0")))))) [
      | true ↦ a
      | false ↦
          elim (remainder == 2) as
          (λ w. P (cond w (codes "t1 keepcaps 1")
          (cond (remainder == 3) (codes "t1 capable 21") (cond (remainder == 4) (codes "t1 setfsuid 1000") (codes "t1 ambraise 0"))))) [
            | true ↦ b
            | false ↦
                elim (remainder == 3) as
                (λ w. P (cond w (codes "t1 capable 21") (cond (remainder == 4) (codes "t1 setfsuid 1000") (codes "t1 ambraise 0")))) [
                  | true ↦ c
                  | false ↦ elim (remainder == 4) as (λ w. P (cond w (codes "t1 setfsuid 1000") (codes "t1 ambraise 0"))) [
                    | true ↦ d
                    | false ↦ e
                  ]
                ]
          ]
    ]

-- ---- each line is accepted

-- before the first lane line
abbrev in_setup : Reading → Reading
in_setup reading = record reading { lanes = record reading.lanes { current = 0 } }

setup_is : (reading : Reading) → reading.lanes.current ≡ 0 → in_setup reading ≡ reading
setup_is reading is = ap (λ (n : ℕ). record reading { lanes = record reading.lanes { current = n } }) (sym is)

abbrev IsAccepted : List ℕ → Type 0
IsAccepted text = (reading : Reading) → (next : Reading) × (add_line (in_setup reading) text ≡ Ok next) × (next.lanes.current ≡ 0)

accept_setresuid : IsAccepted (codes "t1 setresuid 0 0 0")
unfolding add_line parse_full parse_form content_of call_of id_call_of three_of forms query_names id_names
accept_setresuid reading = (_, refl, refl)

accept_keepcaps : IsAccepted (codes "t1 keepcaps 1")
unfolding add_line parse_full parse_form content_of call_of change_of forms query_names id_names change_names
accept_keepcaps reading = (_, refl, refl)

accept_capable : IsAccepted (codes "t1 capable 21")
unfolding add_line parse_full parse_form content_of call_of query_of forms query_names
accept_capable reading = (_, refl, refl)

accept_setfsuid : IsAccepted (codes "t1 setfsuid 1000")
unfolding add_line parse_full parse_form content_of call_of change_of forms query_names id_names change_names
accept_setfsuid reading = (_, refl, refl)

accept_ambraise : IsAccepted (codes "t1 ambraise 0")
unfolding add_line parse_full parse_form content_of call_of change_of forms query_names id_names change_names
accept_ambraise reading = (_, refl, refl)

accept_call : (number : ℕ) → IsAccepted (call number)
accept_call number =
    each IsAccepted accept_setresuid accept_keepcaps accept_capable accept_setfsuid accept_ambraise (number % 5)

accept_first : (next : Reading) × (add_line nothing FIRST ≡ Ok next) × (next.lanes.current ≡ 0)
unfolding add_line parse_full parse_form two_of three_of five_of forms
accept_first = (_, refl, refl)

accept_calls : (count from : ℕ) (reading : Reading)
    → (last : Reading) × (add_lines (in_setup reading) (map call (range_with_len from count)) ≡ Ok last)
accept_calls zero from reading = (in_setup reading, refl)
accept_calls (suc count) from reading =
    let next = accept_call from reading in
    let last = accept_calls count (from + 1) next.0 in
    let rest = rw (setup_is next.0 next.2) at last.1 in
    (last.0, rw next.1 rest)

-- ---- the text has these lines

abbrev IsSplit : List ℕ → Type 0
IsSplit text = (rest : List ℕ) → lines_of ((text ++ 10 ∷ []) ++ rest) ≡ text ∷ lines_of rest

split_call : (number : ℕ) → IsSplit (call number)
split_call number =
    each IsSplit (λ rest. refl) (λ rest. refl) (λ rest. refl) (λ rest. refl) (λ rest. refl) (number % 5)

split_calls : (count from : ℕ) → lines_of (text_of (map call (range_with_len from count))) ≡ map call (range_with_len from count)
split_calls zero from = refl
split_calls (suc count) from =
    split_call from (text_of (map call (range_with_len (from + 1) count))) ∙ ap (λ (lines : List (List ℕ)). call from ∷ lines) (split_calls count (from + 1))

pub split : (n : ℕ) → lines_of (text_of (generated n)) ≡ generated n
split n = ap (λ (lines : List (List ℕ)). FIRST ∷ lines) (split_calls n 1)

pub line_count : (n : ℕ) → length (lines_of (text_of (generated n))) ≡ n + 1
line_count n = ap (λ (lines : List (List ℕ)). length lines) (split n) ∙ ap suc (length-map-range_with_len call 1 n) ∙ omega arith

accepted : (n : ℕ) → (last : Reading) × (add_lines nothing (generated n) ≡ Ok last)
accepted n =
    let next = accept_first in
    let last = accept_calls n 1 next.0 in
    let rest = rw (setup_is next.0 next.2) at last.1 in
    (last.0, rw next.1 rest)

-- the text is a script
pub is_script : (n : ℕ) → (s : Script) × (script_of (text_of (generated n)) ≡ Ok s)
is_script n =
    let last = accepted n in (
      script last.0,
      ap (λ (lines : List (List ℕ)). add_lines nothing lines >>= λ reading. Ok (script reading)) (split n)
          ∙ ap (λ (r : Result Reading (ℕ × Reason)). r >>= λ reading. Ok (script reading)) last.1,
    )

-- and it has no bad line
pub never_bad : (n : ℕ) (bytes : List ℕ) (bad : ℕ × Reason) → bytes ≡ text_of (generated n) → script_of bytes ≡ Err bad → ⊥
never_bad n bytes bad is given =
    let s = is_script n in
    let both : (let r : Result Script (ℕ × Reason) = Ok s.0 in r) ≡ Err bad = sym (ap script_of is ∙ s.1) ∙ given in
    cc

-- one call more
pub text_more : (n : ℕ) → text_of (generated (n + 1)) ≡ text_of (generated n) ++ (call (n + 1) ++ 10 ∷ [])
text_more n =
    ap (λ (calls : List (List ℕ)). text_of (FIRST ∷ calls)) (map-range_with_len_more call 1 n (n + 1) (omega arith))
    ∙ sym (flat_map_more (λ (line : List ℕ). line ++ 10 ∷ []) [] (generated n) (call (n + 1)))
