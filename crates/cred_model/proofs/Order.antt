-- A script has one journal in which its lines run whole and in order.
use Rattle.std.proofs.Common.{◌≡◌, ℕ, zero, suc, ◌<◌, List, [], ◌∷◌, ◌++◌, length, take, slice_get, Some, None, refl, sym, ap, ◌∙◌, subst, append_assoc, arith}
use Rattle.std.proofs.lemmas.List.{append-nil}
use Rattle.cred_event.specs.declared.entry.Entry.{Entry}
use Rattle.cred_model.specs.Script.{Script}
use Rattle.cred_model.specs.Journal.{next_in_order, IsSequence}

-- these entries, and no others, come in order after those that are done
abbrev Rest : Script → List Entry → List Entry → Type 0
Rest script done [] = next_in_order script done ≡ None
Rest script done (entry ∷ entries) = (next_in_order script done ≡ Some entry) × Rest script (done ++ entry ∷ []) entries

rest_from : (script : Script) (done entries : List Entry)
    → ((k : ℕ) → k < length entries → next_in_order script (done ++ take k entries) ≡ slice_get entries k)
    → next_in_order script (done ++ entries) ≡ None → Rest script done entries
rest_from script done [] each over = ap (next_in_order script) (sym (append-nil done)) ∙ over
rest_from script done (e ∷ es) each over = (
  ap (next_in_order script) (sym (append-nil done)) ∙ each zero (omega arith),
  rest_from script (done ++ e ∷ []) es
      (λ k lt. ap (next_in_order script) (append_assoc done (e ∷ []) (take k es)) ∙ each (suc k) (omega arith))
      (ap (next_in_order script) (append_assoc done (e ∷ []) es) ∙ over),
)

one_rest : (script : Script) (done a b : List Entry) → Rest script done a → Rest script done b → a ≡ b
one_rest script done [] [] h k = refl
one_rest script done [] (e ∷ es) h k = let f = k.0 in cc
one_rest script done (e ∷ es) [] h k = let f = h.0 in cc
one_rest script done (e ∷ es) (f ∷ fs) h k =
    let p = h.0 in
    let q = k.0 in
    let same : f ≡ e = cc in
    ap (λ (x : Entry). x ∷ es) (sym same)
    ∙ ap (λ xs. f ∷ xs) (one_rest script (done ++ e ∷ []) es fs h.1 (subst (λ (x : Entry). Rest script (done ++ x ∷ []) fs) same k.1))

pub one_sequence : (script : Script) (a b : List Entry) → IsSequence script a → IsSequence script b → a ≡ b
one_sequence script a b h k = one_rest script [] a b (rest_from script [] a h.in_order h.ended) (rest_from script [] b k.in_order k.ended)
