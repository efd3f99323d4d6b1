use Rattle.std.proofs.Common.{ℕ, ◌%◌, ◌^◌, slice_index, sym, ap, ◌∙◌, arith}
use Rattle.cred_record.specs.Words.{credential_in}
use Rattle.cred_record.specs.declared.layout.TheConstants.{PERMITTED, EFFECTIVE, AMBIENT, FLAGS, ROOT}
use Rattle.cred_record.proofs.WordLemmas.{word-facts}
use Rattle.cred_words.proofs.Opens.{width_is}
use Rattle.cred_hold.proofs.Whole.{length-known}
use Rattle.cred_hold.proofs.like.parts_in.Goals as goal

pub gather-requires : goal.gather-requires
gather-requires c =
    let w = width_is in
    (omega arith, (c.requires.own, (c.requires.slot, (length-known _ c.requires.known ∙ sym width_is, omega arith))))

pub load_word-requires-clause-within : goal.load_word-requires-clause-within
load_word-requires-clause-within c = let w = width_is in omega arith

pub from_valid-perm-requires : goal.from_valid-perm-requires
from_valid-perm-requires c =
    let at = c.load_word.ensures.value ∙ ap (λ h. slice_index h.token.words PERMITTED) c.gather.ensures.same in
    let fact = (word-facts _ c.requires.known).perm in
    omega arith

pub load_word-requires-2-clause-within : goal.load_word-requires-2-clause-within
load_word-requires-2-clause-within c = let w = width_is in omega arith

pub from_valid-eff-requires : goal.from_valid-eff-requires
from_valid-eff-requires c =
    let same = c.load_word.ensures.same ∙ c.gather.ensures.same in
    let at = c.load_word-2.ensures.value ∙ ap (λ h. slice_index h.token.words EFFECTIVE) same in
    let fact = (word-facts _ c.requires.known).eff in
    omega arith

pub load_word-requires-3-clause-within : goal.load_word-requires-3-clause-within
load_word-requires-3-clause-within c = let w = width_is in omega arith

pub from_valid-amb-requires : goal.from_valid-amb-requires
from_valid-amb-requires c =
    let same = c.load_word-2.ensures.same ∙ c.load_word.ensures.same ∙ c.gather.ensures.same in
    let at = c.load_word-3.ensures.value ∙ ap (λ h. slice_index h.token.words AMBIENT) same in
    let fact = (word-facts _ c.requires.known).amb in
    omega arith

pub load_word-requires-4-clause-within : goal.load_word-requires-4-clause-within
load_word-requires-4-clause-within c = let w = width_is in omega arith

pub load_word-requires-5-clause-within : goal.load_word-requires-5-clause-within
load_word-requires-5-clause-within c = let w = width_is in omega arith

pub overflow_cast-load_word : goal.overflow_cast-load_word
overflow_cast-load_word c =
    let same = c.load_word-4.ensures.same ∙ c.load_word-3.ensures.same ∙ c.load_word-2.ensures.same ∙ c.load_word.ensures.same ∙ c.gather.ensures.same in
    let at = c.load_word-5.ensures.value ∙ ap (λ h. slice_index h.token.words ROOT) same in
    let fact = (word-facts _ c.requires.known).root in
    omega arith

pub from_valid-root-requires : goal.from_valid-root-requires
from_valid-root-requires c =
    let same = c.load_word-4.ensures.same ∙ c.load_word-3.ensures.same ∙ c.load_word-2.ensures.same ∙ c.load_word.ensures.same ∙ c.gather.ensures.same in
    let at = c.load_word-5.ensures.value ∙ ap (λ h. slice_index h.token.words ROOT) same in
    let fact = (word-facts _ c.requires.known).root in
    omega arith

pub returns-clause-parts : goal.returns-clause-parts
unfolding credential_in
returns-clause-parts c =
    let one = c.gather.ensures.same in
    let two = c.load_word.ensures.same ∙ one in
    let three = c.load_word-2.ensures.same ∙ two in
    let four = c.load_word-3.ensures.same ∙ three in
    let five = c.load_word-4.ensures.same ∙ four in
    let ids = c.ids_from_valid-uid.ensures c.args.hold.now.token.words c.requires.known c.gather.ensures.words in
    let perm = c.from_valid-perm.ensures ∙ c.load_word.ensures.value ∙ ap (λ h. slice_index h.token.words PERMITTED) one in
    let eff = c.from_valid-eff.ensures ∙ c.load_word-2.ensures.value ∙ ap (λ h. slice_index h.token.words EFFECTIVE) two in
    let amb = c.from_valid-amb.ensures ∙ c.load_word-3.ensures.value ∙ ap (λ h. slice_index h.token.words AMBIENT) three in
    let flags = c.load_word-4.ensures.value ∙ ap (λ h. slice_index h.token.words FLAGS) four in
    let bits = c.secure_bits-bits.ensures ∙ ap (λ (x : ℕ). x % 2 ^ 8) flags in
    let root = c.from_valid-root.ensures ∙ c.load_word-5.ensures.value ∙ ap (λ h. slice_index h.token.words ROOT) five in
    λ k. record { uid = ids.0 k; gid = ids.1 k; perm = perm k; eff = eff k; amb = amb k; bits = bits k; root = root k }
