use Rattle.std.proofs.Common.{◌≡◌, ◌+◌, ◌-◌, ℕ, take, drop, replicate, length, length-set, ap, sym, ◌∙◌, subst, arith}
use Rattle.std.specs.Prelude.{slice_set}
use Rattle.std.proofs.lemmas.List.{length-append, length-replicate, length-take-le, drop-replicate, take-append-le, take_all, get_or-append_right}
use Rattle.cred_record.specs.Words.{words_of}
use Rattle.cred_record.specs.declared.layout.TheConstants.{WORDS, GROUPS}
use Rattle.cred_record.proofs.WordLemmas.{length-words_of, filled}
use Rattle.cred_record.proofs.Blank.{Blank, blank-replicate, blank-set, completed, blank-words_of}
use Rattle.cred_packed.proofs.writing.to_words.Goals as goal

pub loop-i-init : goal.loop-i-init
loop-i-init c =
    let ws = words_of c.args.cred.now in
    let wide = length-words_of c.args.cred.now in
    let first = c.copy_from_slice.new.self in
    let after = drop GROUPS c.blank-words.result in
    let is : first ≡ take GROUPS ws = c.copy_from_slice.ensures.after ∙ c.head.ensures in
    let long : length first ≡ GROUPS = ap length is ∙ length-take-le GROUPS ws (omega arith) in
    let blank : after ≡ replicate (WORDS - GROUPS) 0 = ap (drop GROUPS) c.blank-words.ensures ∙ drop-replicate GROUPS WORDS 0 in
    let others : length after ≡ WORDS - GROUPS = ap length blank ∙ length-replicate {A = ℕ} (WORDS - GROUPS) 0 in
    let all = length-append first after in
    let zeros = subst (Blank 0) (sym blank) (blank-replicate (WORDS - GROUPS)) in (
      omega arith,
      take-append-le GROUPS first after (omega arith) ∙ take_all GROUPS first (omega arith) ∙ is,
      λ k from. get_or-append_right first after GROUPS k 0 long from ∙ zeros (k - GROUPS) (omega arith),
    )

pub loop-i-preserved : goal.loop-i-preserved
loop-i-preserved c =
    let i = c.loop-i.invariant in
    let n = c.loop-i.i in
    let wide = length-words_of c.args.cred.now in
    let below = c.loop-i-test.true in
    let end = c.words_of_groups-i-end.ensures.within in
    let word = c.word_of_groups.result in
    let set = filled c.loop-i.words (words_of c.args.cred.now) (GROUPS + n) word (omega arith) (omega arith) i.1 c.word_of_groups.ensures in
    let blank = blank-set c.loop-i.words (GROUPS + n) word i.2 in
    let next : GROUPS + n + 1 ≡ GROUPS + (n + 1) = omega arith in (
      length-set _ _ _ ∙ i.0,
      subst (λ m. take m (slice_set c.loop-i.words (GROUPS + n) word) ≡ take m (words_of c.args.cred.now)) next set,
      subst (λ m. Blank m (slice_set c.loop-i.words (GROUPS + n) word)) next blank,
    )

pub returns : goal.returns
returns c =
    let i = c.loop-i.invariant in
    let wide = length-words_of c.args.cred.now in
    let past = c.loop-i-test.false in
    let end = c.words_of_groups-i-end.ensures.value in
    completed _ _ (GROUPS + c.loop-i.i) (i.0 ∙ sym wide) i.1 i.2 (blank-words_of c.args.cred.now c.loop-i.i (omega (arith, end.0)))
