use Rattle.std.proofs.Common.{◌≡◌, ℕ, ◌+◌, ◌/◌, ◌++◌, ◌∷◌, [], take, drop, slice_index, length-drop, sym, ap, ◌∙◌, subst, arith}
use Rattle.std.proofs.lemmas.List.{take_more}
use Rattle.cred_ids.specs.Id.{IsId}
use Rattle.cred_ids.specs.Groups.{IsGroupList}
use Rattle.cred_record.specs.declared.layout.TheConstants.{GROUPS}
use Rattle.cred_record.specs.Words.{unpaired, half}
use Rattle.cred_record.proofs.WordLemmas.{length-unpaired, group-at, groups-few}
use Rattle.cred_record.proofs.Blank.{groups-there, groups-listed}
use Rattle.cred_record.proofs.HalfWords.{half-at}
use Rattle.cred_words.proofs.Opens.{width_is}
use Rattle.cred_hold.proofs.Whole.{length-known}
use Rattle.cred_hold.proofs.words.groups_of.Goals as goal

pub load_word-word-requires-clause-within : goal.load_word-word-requires-clause-within
load_word-word-requires-clause-within c =
    let few = groups-few c.args.hold.now.token.words c.requires.known in
    let count = c.requires.count in
    let below = c.loop-place-test.true in
    let w = width_is in
    omega arith

pub group_from_valid-requires : goal.group_from_valid-requires
group_from_valid-requires c =
    let ws = c.args.hold.now.token.words in
    let i = c.loop-place.invariant in
    let n = c.loop-place.place in
    let count = c.requires.count in
    let below = c.loop-place-test.true in
    let word = c.load_word-word.ensures.value ∙ ap (λ h. slice_index h.token.words (GROUPS + n / 2)) i.0 in
    let at = group-at ws n c.requires.known (omega arith) in
    (subst IsId (sym (ap (λ (x : ℕ). half x n) word ∙ half-at ws n)) at)

pub loop-place-preserved : goal.loop-place-preserved
loop-place-preserved c =
    let ws = c.args.hold.now.token.words in
    let ns = unpaired (drop GROUPS ws) in
    let i = c.loop-place.invariant in
    let n = c.loop-place.place in
    let few = groups-few ws c.requires.known in
    let count = c.requires.count in
    let below = c.loop-place-test.true in
    let wide = length-known ws c.requires.known in
    let rest = length-drop GROUPS ws in
    let long = length-unpaired (drop GROUPS ws) in
    let word = c.load_word-word.ensures.value ∙ ap (λ h. slice_index h.token.words (GROUPS + n / 2)) i.0 in
    let items =
    c.in_ok-push.ensures.items ∙
    ap (λ xs. xs ++ c.group_from_valid.result ∷ []) i.1 ∙
    ap (λ x. take n ns ++ x ∷ []) (c.group_from_valid.ensures ∙ ap (λ (x : ℕ). half x n) word ∙ half-at ws n) ∙
    sym (take_more ns n 0 (omega arith)) in
    (c.load_word-word.ensures.same ∙ i.0, items)

pub from_sorted-requires : goal.from_sorted-requires
from_sorted-requires c =
    let ws = c.args.hold.now.token.words in
    let past = c.loop-place-test.false in
    let at : c.loop-place.place ≡ c.args.count = omega arith in
    let items = c.loop-place.invariant.1 ∙ ap (λ (n : ℕ). take n (unpaired (drop GROUPS ws))) (at ∙ c.requires.count) ∙ groups-there ws in
    subst IsGroupList (sym items) (groups-listed ws c.requires.known)

pub returns-clause-groups : goal.returns-clause-groups
returns-clause-groups c =
    let ws = c.args.hold.now.token.words in
    let past = c.loop-place-test.false in
    let at : c.loop-place.place ≡ c.args.count = omega arith in
    c.from_sorted.ensures ∙ c.loop-place.invariant.1 ∙ ap (λ (n : ℕ). take n (unpaired (drop GROUPS ws))) (at ∙ c.requires.count) ∙ groups-there ws
