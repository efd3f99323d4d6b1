-- The bytes are the six words, cut to the version's length.
use Rattle.std.proofs.Common.{◌≡◌, ◌≢◌, ◌⊎◌, inl, inr, ◌<◌, ◌^◌, ℕ, Some, None, if◌then◌else◌, ◌==◌, take, sym, ap, subst, ◌∙◌, arith, rules, tests}
use Rattle.byteorder.specs.Endian.{little_bytes}
use Rattle.cred_rules.specs.Attribute.{Attribute, Spells, IsCanonical}
use Rattle.cred_filecap.proofs.Written.{AreWords, bytes_of, first_bytes_of, written-1, written-2, written-3, which, canonical, canonical-1}
use Rattle.cred_filecap.proofs.writing.encode.Goals as goal

-- the value as its fields give it
abbrev value : goal.In_ok-of → Attribute
value c = record {
  version = c.caps.inside.version;
  perm = c.caps.inside.perm;
  inh = c.caps.inside.inh;
  effective = c.caps.inside.effective;
  root = c.caps.inside.root;
}

are-words : (c : goal.In_ok-of)
    → AreWords (value c) c.magic.result c.words_of-perm.result.low c.words_of-inh.result.low c.words_of-perm.result.high c.words_of-inh.result.high
are-words c = record {
  magic = record { value = c.magic.ensures; byte = omega arith };
  perm = c.words_of-perm.ensures.spells;
  inh = c.words_of-inh.ensures.spells;
  m_fits = omega arith;
  pl_fits = omega arith;
  il_fits = omega arith;
  ph_small = c.words_of-perm.ensures.canonical;
  ih_small = c.words_of-inh.ensures.canonical;
}

-- how many bytes the version has
length-is : (c : goal.In_ok-of) (v : ℕ) → c.caps.inside.version ≡ v
    → c.length_of.result ≡ (if v == 1 then Some 12 else if v == 2 then Some 20 else if v == 3 then Some 24 else None)
length-is c v is = c.length_of.ensures ∙ ap (λ n. if n == 1 then Some 12 else if n == 2 then Some 20 else if n == 3 then Some 24 else None) is

written : (c : goal.In_ok-of) (n : ℕ) → c.length_of.result ≡ Some n
    → c.in_ok-of.field-0
    ≡ take n
    (bytes_of c.magic.result c.words_of-perm.result.low c.words_of-inh.result.low c.words_of-perm.result.high c.words_of-inh.result.high
    (little_bytes 4 c.caps.inside.root))
written c n is =
    let length : c.unwrap-length.result ≡ n = search (rules, is) in
    c.in_ok-of.ensures ∙ ap (λ k. take k c.write_u32_into.new.dst) length ∙ ap (take n) c.write_u32_into.ensures

pub returns-clause-spells : goal.returns-clause-spells
returns-clause-spells c =
    subst (Spells c.in_ok-of.field-0) c.caps.view_is
    (elim (which c.caps.inside.version c.caps.invariant.known) [
      | inl one ↦
          let no_root : c.caps.inside.root ≡ 0 = c.caps.invariant.initial (λ three. omega (arith, one, three)) in
          subst (λ bytes. Spells bytes (value c)) (sym (written c 12 (length-is c 1 one)))
          (written-1 (value c) _ _ _ _ _ (are-words c) one no_root (c.caps.invariant.low_perm one) (c.caps.invariant.low_inh one))
      | inr (inl two) ↦
          let no_root : c.caps.inside.root ≡ 0 = c.caps.invariant.initial (λ three. omega (arith, two, three)) in
          subst (λ bytes. Spells bytes (value c)) (sym (written c 20 (length-is c 2 two)))
          (written-2 (value c) _ _ _ _ _ (are-words c) two no_root)
      | inr (inr three) ↦
          let fits : c.caps.inside.root < 2 ^ 32 = omega arith in
          subst (λ bytes. Spells bytes (value c)) (sym (written c 24 (length-is c 3 three)))
          (written-3 (value c) _ _ _ _ _ (are-words c) three fits)
    ])

pub returns-clause-canonical : goal.returns-clause-canonical
returns-clause-canonical c =
    elim (which c.caps.inside.version c.caps.invariant.known) [
      | inl one ↦ subst IsCanonical (sym (written c 12 (length-is c 1 one))) (canonical-1 (value c) _ _ _ _ _ (are-words c))
      | inr (inl two) ↦ subst IsCanonical (sym (written c 20 (length-is c 2 two))) (canonical (value c) _ _ _ _ _ _ (are-words c))
      | inr (inr three) ↦ subst IsCanonical (sym (written c 24 (length-is c 3 three))) (canonical (value c) _ _ _ _ _ _ (are-words c))
    ]
