-- The bytes that are written for a record.
use Rattle.std.proofs.Common.{◌≡◌, ℕ, ◌+◌, ◌<◌, ◌≤◌, ◌^◌, ◌==◌, true, false, if◌then◌else◌, IsTrue}
use Rattle.std.proofs.Common.{List}
use Rattle.std.proofs.Common.{[], ◌++◌, take, length, refl, sym, ap, subst, ◌∙◌, arith}
use Rattle.std.proofs.lemmas.Bool.{eqb-true}
use Rattle.std.proofs.lemmas.Nat.Bits.{bit_at_above}
use Rattle.byteorder.specs.Endian.{little_bytes}
use Rattle.cred_rules.specs.Attribute.{word_at, high_in, SpellsSet}
use Rattle.cred_rules.specs.Bits.{has_bit}
use Rattle.cred_filecap.proofs.SetLemmas.{high-canonical}
use Rattle.cred_filecap.proofs.WordLemmas.{word-bytes}
use Rattle.cred_capdata.specs.declared.data.CapData.{CapData}
use Rattle.cred_capdata.specs.Record.{SpellsData, IsCanonicalData, HasBytes, word_of_version, size_of, is_data_version}

-- the words of a record
pub record AreWords (d : CapData) (v el pl il eh ph ih : ℕ) : Type 0 where
  pub word : v ≡ word_of_version d.version
  pub v_fits : v < 2 ^ 32
  pub t_fits : d.target < 2 ^ 32
  pub eff : SpellsSet el eh d.eff
  pub perm : SpellsSet pl ph d.perm
  pub inh : SpellsSet il ih d.inh
  pub el_fits : el < 2 ^ 32
  pub pl_fits : pl < 2 ^ 32
  pub il_fits : il < 2 ^ 32
  pub eh_small : eh < 2 ^ 9
  pub ph_small : ph < 2 ^ 9
  pub ih_small : ih < 2 ^ 9

-- the header and the first group
abbrev pub first_of : (v t el pl il : ℕ) → List ℕ → List ℕ
first_of v t el pl il rest =
    little_bytes 4 v ++
    (little_bytes 4 t ++
    (little_bytes 4 el ++ (little_bytes 4 pl ++ (little_bytes 4 il ++ rest))))

-- the second group
abbrev pub second_of : (eh ph ih : ℕ) → List ℕ
second_of eh ph ih = little_bytes 4 eh ++ (little_bytes 4 ph ++ little_bytes 4 ih)

-- the words of the header and the first group stand there
record HasFirst (bytes : List ℕ) (v t el pl il : ℕ) : Type 0 where
  version : word_at bytes 0 ≡ v
  target : word_at bytes 4 ≡ t
  eff : word_at bytes 8 ≡ el
  perm : word_at bytes 12 ≡ pl
  inh : word_at bytes 16 ≡ il

has-first : (d : CapData) (v el pl il eh ph ih : ℕ) (rest : List ℕ)
    → AreWords d v el pl il eh ph ih
    → HasFirst (first_of v d.target el pl il rest) v d.target el pl il
unfolding word_at
has-first d v el pl il eh ph ih rest are = record {
  version = word-bytes v are.v_fits;
  target = word-bytes d.target are.t_fits;
  eff = word-bytes el are.el_fits;
  perm = word-bytes pl are.pl_fits;
  inh = word-bytes il are.il_fits;
}

-- the words of the second group
record HasSecond (bytes : List ℕ) (eh ph ih : ℕ) : Type 0 where
  eff : word_at bytes 20 ≡ eh
  perm : word_at bytes 24 ≡ ph
  inh : word_at bytes 28 ≡ ih

has-second : (v t el pl il eh ph ih : ℕ) → eh < 2 ^ 9 → ph < 2 ^ 9 → ih < 2 ^ 9
    → HasSecond (first_of v t el pl il (second_of eh ph ih)) eh ph ih
unfolding word_at
has-second v t el pl il eh ph ih eh_small ph_small ih_small = record {
  eff = word-bytes eh (omega arith);
  perm = word-bytes ph (omega arith);
  inh = word-bytes ih (omega arith);
}

-- behind the first group stands nothing
has-none : (v t el pl il : ℕ) → HasSecond (first_of v t el pl il []) 0 0 0
unfolding word_at
has-none v t el pl il = record { eff = refl; perm = refl; inh = refl }

-- a set without a capability above 31 stands in one word
in-one_word : (low high s : ℕ) → SpellsSet low high s → s < 2 ^ 32 → SpellsSet low 0 s
in-one_word low high s is small = record {
  below = is.below;
  above = λ n _. ap (λ x. x == 1)
      (bit_at_above s 32 (32 + n) small (omega arith)
      ∙ sym (bit_at_above 0 0 n (omega arith) (omega arith)));
  others = is.others;
}

-- what was written
pub record IsWritten (bytes : List ℕ) (d : CapData) : Type 0 where
  pub spells : SpellsData bytes d
  pub canonical : IsCanonicalData bytes

canonical : (bytes : List ℕ) (eh ph ih : ℕ) → HasSecond bytes eh ph ih → eh < 2 ^ 9 → ph < 2 ^ 9
    → ih < 2 ^ 9 → IsCanonicalData bytes
canonical bytes eh ph ih has eh_small ph_small ih_small = record {
  eff = λ i from to. ap (λ x. has_bit x i) has.eff ∙ high-canonical eh i eh_small from;
  perm = λ i from to. ap (λ x. has_bit x i) has.perm ∙ high-canonical ph i ph_small from;
  inh = λ i from to. ap (λ x. has_bit x i) has.inh ∙ high-canonical ih i ih_small from;
}

-- a record of version 1
written-1 : (d : CapData) (v el pl il eh ph ih : ℕ) → AreWords d v el pl il eh ph ih → HasBytes d
    → d.version ≡ 1 → IsWritten (first_of v d.target el pl il []) d
written-1 d v el pl il eh ph ih are has one =
    let first = has-first d v el pl il eh ph ih [] are in
    let none = has-none v d.target el pl il in
    record {
      spells = record {
        known = has.known;
        word = first.version ∙ are.word;
        size = sym (ap size_of one);
        target = sym first.target;
        eff = rw (first.eff, ap (λ w. high_in w (word_at (first_of v d.target el pl il []) 20)) one)
            (in-one_word el eh d.eff are.eff (has.eff one));
        perm = rw (
          first.perm,
          ap (λ w. high_in w (word_at (first_of v d.target el pl il []) 24))
              one,
        ) (in-one_word pl ph d.perm are.perm (has.perm one));
        inh = rw (first.inh, ap (λ w. high_in w (word_at (first_of v d.target el pl il []) 28)) one)
            (in-one_word il ih d.inh are.inh (has.inh one));
      };
      canonical = canonical (first_of v d.target el pl il []) 0 0 0 none (omega arith) (omega arith)
          (omega arith);
    }

-- a record of another version
written-2 : (d : CapData) (v el pl il eh ph ih : ℕ) → AreWords d v el pl il eh ph ih → HasBytes d
    → ((w : ℕ) → high_in d.version w ≡ w) → size_of d.version ≡ 32
    → IsWritten (first_of v d.target el pl il (second_of eh ph ih)) d
written-2 d v el pl il eh ph ih are has all size =
    let first = has-first d v el pl il eh ph ih (second_of eh ph ih) are in
    let second = has-second v d.target el pl il eh ph ih are.eh_small are.ph_small are.ih_small in
    record {
      spells = record {
        known = has.known;
        word = first.version ∙ are.word;
        size = sym size;
        target = sym first.target;
        eff = rw (first.eff, second.eff, all eh) are.eff;
        perm = rw (first.perm, second.perm, all ph) are.perm;
        inh = rw (first.inh, second.inh, all ih) are.inh;
      };
      canonical = canonical _ eh ph ih second are.eh_small are.ph_small are.ih_small;
    }

-- the bytes of all words, cut to the version's
pub written : (d : CapData) (v el pl il eh ph ih : ℕ) → AreWords d v el pl il eh ph ih → HasBytes d
    → IsWritten (take (size_of d.version) (first_of v d.target el pl il (second_of eh ph ih))) d
written d v el pl il eh ph ih are has =
    elim (d.version == 1) as
    (λ t. (d.version == 1) ≡ t
    → IsWritten (take (size_of d.version) (first_of v d.target el pl il (second_of eh ph ih)))
    d) [
      | true ↦ λ is.
          let one : d.version ≡ 1 = eqb-true d.version 1 is in
          subst (λ bytes. IsWritten bytes d)
          (sym (ap (λ n. take n (first_of v d.target el pl il (second_of eh ph ih)))
          (ap size_of one)))
          (written-1 d v el pl il eh ph ih are has one)
      | false ↦ λ is.
          let size : size_of d.version ≡ 32 = ap (λ t. if t then 20 else 32) is in
          subst (λ bytes. IsWritten bytes d)
          (sym (ap (λ n. take n (first_of v d.target el pl il (second_of eh ph ih))) size))
          (written-2 d v el pl il eh ph ih are has (λ w. ap (λ t. if t then 0 else w) is) size)
    ] refl
