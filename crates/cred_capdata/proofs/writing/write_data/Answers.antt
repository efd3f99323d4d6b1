-- The bytes are the eight words, cut to the version's length.
use Rattle.std.proofs.Common.{◌≡◌, take, sym, ap, subst, ◌∙◌, arith}
use Rattle.cred_capdata.specs.Record.{SpellsData, IsCanonicalData, size_of}
use Rattle.cred_capdata.proofs.Written.{AreWords, IsWritten, first_of, second_of, written}
use Rattle.cred_capdata.proofs.writing.write_data.Goals as goal

are-words : (c : goal.In_ok-of)
    → AreWords c.args.caps.now c.word_of_version.result c.words_of-eff.result.low
    c.words_of-perm.result.low c.words_of-inh.result.low c.words_of-eff.result.high
    c.words_of-perm.result.high c.words_of-inh.result.high
are-words c = record {
  word = c.word_of_version.ensures;
  v_fits = omega arith;
  t_fits = omega arith;
  eff = c.words_of-eff.ensures.spells;
  perm = c.words_of-perm.ensures.spells;
  inh = c.words_of-inh.ensures.spells;
  el_fits = omega arith;
  pl_fits = omega arith;
  il_fits = omega arith;
  eh_small = c.words_of-eff.ensures.canonical;
  ph_small = c.words_of-perm.ensures.canonical;
  ih_small = c.words_of-inh.ensures.canonical;
}

is-cut : (c : goal.In_ok-of)
    → c.in_ok-of.field-0
    ≡ take (size_of c.args.caps.now.version)
    (first_of c.word_of_version.result c.args.caps.now.target c.words_of-eff.result.low
    c.words_of-perm.result.low c.words_of-inh.result.low
    (second_of c.words_of-eff.result.high c.words_of-perm.result.high
    c.words_of-inh.result.high))
is-cut c =
    c.in_ok-of.ensures
    ∙ ap (λ k. take k c.write_u32_into.new.dst) c.length_of.ensures.value
    ∙ ap (take (size_of c.args.caps.now.version)) c.write_u32_into.ensures

is-written : (c : goal.In_ok-of) → IsWritten c.in_ok-of.field-0 c.args.caps.now
is-written c =
    subst (λ bytes. IsWritten bytes c.args.caps.now) (sym (is-cut c))
    (written c.args.caps.now c.word_of_version.result c.words_of-eff.result.low
    c.words_of-perm.result.low c.words_of-inh.result.low c.words_of-eff.result.high
    c.words_of-perm.result.high c.words_of-inh.result.high (are-words c) c.requires)

pub returns-clause-spells : goal.returns-clause-spells
returns-clause-spells c = (is-written c).spells

pub returns-clause-canonical : goal.returns-clause-canonical
returns-clause-canonical c = (is-written c).canonical
