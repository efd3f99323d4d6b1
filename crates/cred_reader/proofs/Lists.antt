-- A text is that of one list of fitting entries at most.
use Rattle.std.proofs.Common.{◌≡◌, ℕ, ◌<◌, nat_lt, Bool, true, List, [], ◌∷◌, ◌++◌, refl, sym, ap, ◌∙◌, append_assoc, decimal, arith}
use Rattle.std.specs.List.{list_all}
use Rattle.std.proofs.lemmas.Bool.Decides.{nat_tests}
use Rattle.std.proofs.lemmas.List.Elements.{All-head, All-tail}
use Rattle.std.proofs.lemmas.List.Folds.{list_all-append}
use Rattle.cred_event.specs.declared.entry.Entry.{Entry}
use Rattle.cred_model.specs.Script.{Script}
use Rattle.cred_report.specs.Text.{entry_text, text}
use Rattle.cred_reader.specs.Fits.{Fits}
use Rattle.cred_reader.specs.Once.{ListsDiffer}
use Rattle.cred_reader.proofs.EntryBack.{entry_words, once}
use Rattle.cred_reader.proofs.Words.{is_inner, is_whole, whole_inner, spaced, both}

-- ---- lines

-- a byte that stands in a line
abbrev is_printing : ℕ → Bool
is_printing byte = nat_lt 31 byte

inner_printing : (word : List ℕ) → list_all is_inner word ≡ true → list_all is_printing word ≡ true
inner_printing [] h = refl
inner_printing (b ∷ bs) h =
    let parts = both (is_inner b) _ h in
    let here : is_printing b ≡ true = let inner = parts.0 in grind (arith, nat_tests) in
    rw (here, inner_printing bs parts.1) refl

spaced_printing : (words : List (List ℕ)) → list_all is_whole words ≡ true → list_all is_printing (spaced words) ≡ true
spaced_printing [] h = refl
spaced_printing (w ∷ ws) h =
    let parts = both (is_whole w) _ h in
    rw (list_all-append is_printing w (spaced ws)) (rw (inner_printing w (whole_inner w parts.0), spaced_printing ws parts.1) refl)

-- the text of a fitting entry is a line and LF
record IsLine (script : Script) (entry : Entry) : Type 0 where
  line : List ℕ
  printing : list_all is_printing line ≡ true
  is : entry_text script entry ≡ line ++ 10 ∷ []

entry_line : (script : Script) (entry : Entry) → Fits script entry → IsLine script entry
entry_line script entry fits =
    let spelled = entry_words script entry fits in
    record {
      line = decimal entry.line ++ spaced spelled.words;
      printing = rw (list_all-append is_printing (decimal entry.line) (spaced spelled.words))
          (rw (inner_printing (decimal entry.line) (whole_inner (decimal entry.line) spelled.number), spaced_printing spelled.words spelled.whole) refl);
      is = spelled.is;
    }

no_end : (b : ℕ) → is_printing b ≡ true → b ≡ 10 → ⊥
no_end b printing is = absurd (let above : 31 < b = grind (arith, nat_tests) in omega (arith, above, is))

-- what stands before the first LF, and after it
same_line : (a b p q : List ℕ) → list_all is_printing a ≡ true → list_all is_printing b ≡ true → a ++ 10 ∷ p ≡ b ++ 10 ∷ q → (a ≡ b) × (p ≡ q)
same_line [] [] p q h k is = (refl, cc)
same_line [] (c ∷ b) p q h k is = let here : c ≡ 10 = cc in absurd (no_end c (both (is_printing c) _ k).0 here)
same_line (d ∷ a) [] p q h k is = let here : d ≡ 10 = cc in absurd (no_end d (both (is_printing d) _ h).0 here)
same_line (d ∷ a) (c ∷ b) p q h k is =
    let here : d ≡ c = cc in
    let behind : a ++ 10 ∷ p ≡ b ++ 10 ∷ q = cc in
    let rest = same_line a b p q (both (is_printing d) _ h).1 (both (is_printing c) _ k).1 behind in
    (ap (λ x. x ∷ a) here ∙ ap (λ xs. c ∷ xs) rest.0, rest.1)

-- ---- lists

-- the text of an entry and of those after it
with_rest : (script : Script) (entry : Entry) (line : List ℕ) (rest : List Entry) → entry_text script entry ≡ line ++ 10 ∷ []
    → text script (entry ∷ rest) ≡ line ++ 10 ∷ text script rest
with_rest script entry line rest is =
    ap (λ bs. bs ++ text script rest) is ∙ append_assoc line (10 ∷ []) (text script rest)

some_text : (script : Script) (line : List ℕ) (entries : List Entry) → line ++ 10 ∷ text script entries ≡ [] → ⊥
some_text script [] entries is = absurd (cc)
some_text script (b ∷ line) entries is = absurd (cc)

pub one_list : ListsDiffer
one_list script [] [] fits_a fits_b is = refl
one_list script [] (f ∷ fs) fits_a fits_b is =
    let line = entry_line script f (All-head (Fits script) f fs fits_b) in
    absurd (some_text script line.line fs (sym (with_rest script f line.line fs line.is) ∙ sym is))
one_list script (e ∷ es) [] fits_a fits_b is =
    let line = entry_line script e (All-head (Fits script) e es fits_a) in
    absurd (some_text script line.line es (sym (with_rest script e line.line es line.is) ∙ is))
one_list script (e ∷ es) (f ∷ fs) fits_a fits_b is =
    let fits_e = All-head (Fits script) e es fits_a in
    let fits_f = All-head (Fits script) f fs fits_b in
    let a = entry_line script e fits_e in
    let b = entry_line script f fits_f in
    let parts = same_line a.line b.line (text script es) (text script fs) a.printing b.printing
    (sym (with_rest script e a.line es a.is) ∙ is ∙ with_rest script f b.line fs b.is) in
    let one : e ≡ f = once script e f fits_e fits_f (a.is ∙ ap (λ bs. bs ++ 10 ∷ []) parts.0 ∙ sym b.is) in
    let rest = one_list script es fs (All-tail (Fits script) e es fits_a) (All-tail (Fits script) f fs fits_b) parts.1 in
    ap (λ (x : Entry). x ∷ es) one ∙ ap (λ xs. f ∷ xs) rest
