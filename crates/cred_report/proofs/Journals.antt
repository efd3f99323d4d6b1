-- The text of a journal, some entries after others.
use Rattle.std.proofs.Common.{◌≡◌, ℕ, ◌+◌, ◌-◌, ◌≤◌, slice_range, length-take, arith, List, ◌++◌, length, take, drop, refl, sym, ap, ◌∙◌, append_assoc}
use Rattle.std.proofs.Math.Seq.{take-append-add}
use Rattle.std.proofs.lemmas.List.{take_at, take-append-drop}
use Rattle.std.proofs.lemmas.List.Folds.{drop_split}
use Rattle.std.proofs.lemmas.List.Concat.{flat_map-append}
use Rattle.cred_event.specs.declared.entry.Entry.{Entry}
use Rattle.cred_model.specs.Script.{Script}
use Rattle.cred_report.specs.Text.{entry_text, text}

-- the entries up to one, and those from it to another
pub take_range : {X : Type 0} (xs : List X) (at end : ℕ) → at ≤ end → at ≤ length xs → take end xs ≡ take at xs ++ slice_range xs at end
take_range xs at end le within =
    let e : length (take at xs) + (end - at) ≡ end = omega (arith, length-take at xs) in
    ap (take end) (sym (take-append-drop at xs)) ∙ ap (λ n. take n (take at xs ++ drop at xs)) (sym e)
    ∙ take-append-add (take at xs) (drop at xs) (end - at)

-- the text up to an entry, the text from there to another, and the others'
pub text_at : (script : Script) (journal : List Entry) (at end : ℕ) → at ≤ end
    → text script journal ≡ text script (take at journal) ++ (text script (slice_range journal at end) ++ text script (drop end journal))
text_at script journal at end le =
    ap (text script) (sym (take-append-drop at journal)) ∙ flat_map-append (entry_text script) (take at journal) (drop at journal)
    ∙ ap (λ (es : List Entry). text script (take at journal) ++ text script es) (drop_split journal at end le)
    ∙ ap (λ bs. text script (take at journal) ++ bs) (flat_map-append (entry_text script) (slice_range journal at end) (drop end journal))

-- some entries more
pub text_more : (script : Script) (journal : List Entry) (at end : ℕ) → at ≤ end → at ≤ length journal
    → text script (take end journal) ≡ text script (take at journal) ++ text script (slice_range journal at end)
text_more script journal at end le within =
    ap (text script) (take_range journal at end le within) ∙ flat_map-append (entry_text script) (take at journal) (slice_range journal at end)

-- a prefix of what follows a prefix
pub take_past : (n : ℕ) (xs ys zs : List ℕ) → take (length xs + length (take n ys)) (xs ++ (ys ++ zs)) ≡ xs ++ take n ys
take_past n xs ys zs =
    take-append-add xs (ys ++ zs) (length (take n ys))
    ∙ ap (λ bs. xs ++ take (length (take n ys)) (bs ++ zs)) (sym (take-append-drop n ys))
    ∙ ap (λ bs. xs ++ take (length (take n ys)) bs) (append_assoc (take n ys) (drop n ys) zs)
    ∙ ap (λ bs. xs ++ bs) (take_at (take n ys) (drop n ys ++ zs) (length (take n ys)) refl)
