use Rattle.std.proofs.Common.{◌≡◌, ◌≢◌, ◌≤◌, ◌++◌, ℕ, List, get_or, length, subst, sym, rules}
use Rattle.cred_spelling.specs.Read.{nows}
use Rattle.cred_spelling.specs.LineWords.{some_word}
use Rattle.cred_spelling.proofs.LineWords.{IsPast, past_first, past_next, at_first, whole_line, ended_line, bad_line}
use Rattle.cred_spelling.proofs.line_words.split_first_line.Goals as goal

pub loop-behind-init : goal.loop-behind-init
loop-behind-init c =
    let words : nows c.push_word.new.words.items ≡ some_word c.first_word.result.0.now = search rules in
    rw words (past_first _ _ _ c.first_word.ensures.whole c.first_word.ensures.word c.first_word.ensures.stops)

pub loop-behind-preserved : goal.loop-behind-preserved
loop-behind-preserved c =
    let first : get_or c.loop-behind.behind.now 0 0 ≡ 32 = search rules in
    let some : 1 ≤ length c.loop-behind.behind.now = search rules in
    let past = subst (λ (b : List ℕ). IsPast c.args.bytes.now b (nows c.loop-behind.words.items)) (at_first _ 32 some first) c.loop-behind.invariant in
    let words : nows c.push_word-in-32.new.words.items ≡ nows c.loop-behind.words.items ++ some_word c.first_word-in-32.result.0.now = search rules in
    rw words (past_next _ _ _ _ _ past c.first_word-in-32.ensures.whole c.first_word-in-32.ensures.word c.first_word-in-32.ensures.stops)

pub returns-in-empty-clause-line : goal.returns-in-empty-clause-line
returns-in-empty-clause-line c = whole_line _ _ _ c.requires c.in-empty.len_below c.loop-behind.invariant

pub returns-in-10-clause-line : goal.returns-in-10-clause-line
returns-in-10-clause-line c =
    let first : get_or c.loop-behind.behind.now 0 0 ≡ 10 = search rules in
    ended_line _ _ _ c.in-10.len_at_least first c.loop-behind.invariant

pub returns-in_default-behind-clause-printable : goal.returns-in_default-behind-clause-printable
returns-in_default-behind-clause-printable c =
    let some : 1 ≤ length c.loop-behind.behind.now = c.in_default-behind.len_at_least in
    let other : get_or c.loop-behind.behind.now 0 0 ≢ 32 = search rules in
    let ended : get_or c.loop-behind.behind.now 0 0 ≢ 10 = search rules in
    sym (bad_line _ _ _ c.any_line.result.1.now _ some other ended c.loop-behind.invariant c.any_line.ensures.line)
