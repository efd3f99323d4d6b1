-- Journals so far, whose texts begin the same bytes.
use Rattle.std.proofs.Common.{◌≡◌, ℕ, zero, suc, ◌<◌, ◌≤◌, List, [], ◌∷◌, ◌++◌, length, take, slice_get, Some, refl, sym, ap, ◌∙◌, subst, append_assoc, arith}
use Rattle.std.specs.Prelude.{⊤}
use Rattle.std.specs.Option.{IfSome}
use Rattle.std.proofs.lemmas.List.{append-nil, append_cancel_left}
use Rattle.cred_ids.specs.Limits.{LINE_LIMIT}
use Rattle.cred_event.specs.declared.entry.Entry.{Entry}
use Rattle.cred_model.specs.Script.{Script}
use Rattle.cred_model.specs.Journal.{SoFar, lane_of, next}
use Rattle.cred_report.specs.Text.{entry_text, text}
use Rattle.cred_audit.specs.Next.{ComesNext}
use Rattle.cred_audit.proofs.Numbers.{same_line}

-- these entries come one after another after those that are done
abbrev Comes : Script → List Entry → List Entry → Type 0
Comes script done [] = ⊤
Comes script done (entry ∷ entries) = ComesNext script done entry × Comes script (done ++ entry ∷ []) entries

comes_from : (script : Script) (done entries : List Entry)
    → ((k : ℕ) → k < length entries → IfSome (slice_get entries k) (λ entry. ComesNext script (done ++ take k entries) entry))
    → Comes script done entries
comes_from script done [] each = tt
comes_from script done (e ∷ es) each = (
  subst (λ before. ComesNext script before e) (append-nil done) (each zero (omega arith)),
  comes_from script (done ++ e ∷ []) es
      (λ k lt. subst (λ before. IfSome (slice_get es k) (λ entry. ComesNext script before entry))
      (sym (append_assoc done (e ∷ []) (take k es))) (each (suc k) (omega arith))),
)

-- the second list is the first, and these
pub record Extends (a b : List Entry) : Type 0 where
  pub tail : List Entry
  pub is : b ≡ a ++ tail

-- of two entries that come next, and whose texts stand at one place, the line is one, so its lane, and so the entry
same_next : (script : Script) (done : List Entry) (e f : Entry) (p q : List ℕ) → length script.lines ≤ LINE_LIMIT
    → ComesNext script done e → ComesNext script done f → entry_text script e ++ p ≡ entry_text script f ++ q → f ≡ e
same_next script done e f p q few h k is =
    let line = same_line script e f h.0 k.0 p q few h.1 k.1 is in
    let lanes : Some k.0 ≡ Some h.0 = sym k.1 ∙ ap (lane_of script) (sym line) ∙ h.1 in
    let lane : k.0 ≡ h.0 = cc in
    let both : Some f ≡ Some e = sym k.2 ∙ ap (next script done) lane ∙ h.2 in
    cc

regroup : (a b c x y z : List ℕ) → (a ++ b) ++ c ≡ (x ++ y) ++ z → a ++ (b ++ c) ≡ x ++ (y ++ z)
regroup a b c x y z is = sym (append_assoc a b c) ∙ is ∙ append_assoc x y z

one_is_prefix : (script : Script) (done a b : List Entry) (p q : List ℕ) → length script.lines ≤ LINE_LIMIT
    → Comes script done a → Comes script done b → text script a ++ p ≡ text script b ++ q → length a ≤ length b → Extends a b
one_is_prefix script done [] b p q few h k is le = record { tail = b; is = refl }
one_is_prefix script done (e ∷ es) [] p q few h k is le = absurd (omega arith)
one_is_prefix script done (e ∷ es) (f ∷ fs) p q few h k is le =
    let regrouped : entry_text script e ++ (text script es ++ p) ≡ entry_text script f ++ (text script fs ++ q)
    = regroup (entry_text script e) (text script es) p (entry_text script f) (text script fs) q is in
    let same : f ≡ e = same_next script done e f (text script es ++ p) (text script fs ++ q) few h.0 k.0 regrouped in
    let behind : text script es ++ p ≡ text script fs ++ q
    = append_cancel_left (entry_text script e) (text script es ++ p) (text script fs ++ q)
    (regrouped ∙ ap (λ (x : Entry). entry_text script x ++ (text script fs ++ q)) same) in
    let more = one_is_prefix script (done ++ e ∷ []) es fs p q few h.1
    (subst (λ (x : Entry). Comes script (done ++ x ∷ []) fs) same k.1) behind (omega arith) in
    record { tail = more.tail; is = ap (λ (x : Entry). x ∷ fs) same ∙ ap (λ xs. e ∷ xs) more.is }

-- of two journals so far, with whose texts the same bytes begin, the longer one begins with the other
pub longer_begins : (script : Script) (a b : List Entry) (p q : List ℕ) → length script.lines ≤ LINE_LIMIT
    → SoFar script a → SoFar script b → text script a ++ p ≡ text script b ++ q → length a ≤ length b → Extends a b
longer_begins script a b p q few h k is le =
    one_is_prefix script [] a b p q few (comes_from script [] a h) (comes_from script [] b k) is le
