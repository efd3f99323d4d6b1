-- The answers that a line has had, as its journal grows by one entry.
use Rattle.std.proofs.Common.{◌≡◌, ◌≢◌, ℕ, List, [], ◌∷◌, ◌++◌, Some, None, Bool, true, false, cond, ◌==◌, ap, ◌∙◌, arith}
use Rattle.std.specs.List.{cons_option}
use Rattle.std.proofs.lemmas.List.{append-nil}
use Rattle.std.proofs.lemmas.List.Elements.{filter_map-append}
use Rattle.std.proofs.lemmas.Bool.Decides.{nat_tests}
use Rattle.cred_event.specs.declared.entry.Entry.{Entry}
use Rattle.cred_model.specs.Journal.{answers_of}

pub answers_of-push_same : (journal : List Entry) (entry : Entry) (line : ℕ) → entry.line ≡ line
    → answers_of (journal ++ entry ∷ []) line ≡ answers_of journal line ++ entry.answer ∷ []
answers_of-push_same journal entry line same =
    let test : (entry.line == line) ≡ true = grind (arith, nat_tests) in
    filter_map-append (λ (e : Entry). cond (e.line == line) (Some e.answer) None) journal (entry ∷ [])
    ∙ ap (λ (b : Bool). answers_of journal line ++ cons_option (cond b (Some entry.answer) None) []) test

pub answers_of-push_other : (journal : List Entry) (entry : Entry) (line : ℕ) → entry.line ≢ line
    → answers_of (journal ++ entry ∷ []) line ≡ answers_of journal line
answers_of-push_other journal entry line differ =
    let other : (entry.line == line) ≡ false = grind (arith, nat_tests) in
    filter_map-append (λ (e : Entry). cond (e.line == line) (Some e.answer) None) journal (entry ∷ [])
    ∙ ap (λ (b : Bool). answers_of journal line ++ cons_option (cond b (Some entry.answer) None) []) other
    ∙ append-nil (answers_of journal line)
