use Rattle.std.proofs.Common.{◌≡◌, ◌∷◌, ◌++◌, ℕ, List, [], take, slice_index, refl, sym, ap, ◌∙◌, arith}
use Rattle.std.proofs.lemmas.List.{take_more}
use Rattle.cred_record.specs.Credential.{Credential}
use Rattle.cred_record.specs.Words.{credential_in, words_of}
use Rattle.cred_record.specs.declared.layout.TheConstants.{GROUPS}
use Rattle.cred_record.proofs.WordLemmas.{length-words_of, words-are}
use Rattle.cred_packed.proofs.NoGroups.{same-head}
use Rattle.cred_words.proofs.Opens.{width_is}
use Rattle.cred_hold.proofs.Whole.{length-known}
use Rattle.cred_hold.proofs.words.is_head.Goals as goal

pub load_word-requires-clause-within : goal.load_word-requires-clause-within
load_word-requires-clause-within c = let w = width_is in let below = c.loop-i-test.true in omega arith

pub returns-then-load_word-word-clause-value : goal.returns-then-load_word-word-clause-value
returns-then-load_word-word-clause-value c =
    let ws = c.args.hold.now.token.words in
    let n = c.loop-i.i in
    let word = c.load_word.ensures.value ∙ ap (λ h. slice_index h.token.words n) c.loop-i.invariant.0
    ∙ ap (λ (xs : List ℕ). slice_index xs n) (words-are ws c.requires.known).1 in (
      λ no. absurd (cc),
      λ is. absurd (c.if-load_word-word.true (word ∙ ap (λ (d : Credential). slice_index (words_of d) n) is ∙ sym c.word.ensures)),
    )

pub loop-i-preserved : goal.loop-i-preserved
loop-i-preserved c =
    let i = c.loop-i.invariant in
    let ws = c.args.hold.now.token.words in
    let hs = words_of c.args.head.now in
    let n = c.loop-i.i in
    let below = c.loop-i-test.true in
    let wide = length-known ws c.requires.known in
    let long = length-words_of c.args.head.now in
    let word = sym (ap (λ h. slice_index h.token.words n) i.0) ∙ sym c.load_word.ensures.value ∙ c.if-load_word-word.false ∙ c.word.ensures in (
      c.load_word.ensures.same ∙ i.0,
      take_more ws n 0 (omega arith) ∙ ap (λ (l : List ℕ). l ++ slice_index ws n ∷ []) i.1
          ∙ ap (λ (x : ℕ). take n hs ++ x ∷ []) word ∙ sym (take_more hs n 0 (omega arith)),
    )

pub returns-clause-value : goal.returns-clause-value
returns-clause-value c =
    let ws = c.args.hold.now.token.words in
    let h = words-are ws c.requires.known in
    let past = c.loop-i-test.false in
    let at : c.loop-i.i ≡ GROUPS = omega arith in
    let same = ap (λ (n : ℕ). take n (words_of (credential_in ws))) (sym at) ∙ ap (take c.loop-i.i) (sym h.1)
    ∙ c.loop-i.invariant.1 ∙ ap (λ (n : ℕ). take n (words_of c.args.head.now)) at in (
      λ yes. same-head (credential_in ws) c.args.head.now h.0 c.is_credential.ensures.is c.is_credential.ensures.groups same,
      λ is. refl,
    )
