-- The bytes that are written for an attribute.
use Rattle.std.proofs.Common.{◌≡◌, ◌⊎◌, inl, inr, ℕ, ◌+◌, ◌*◌, ◌/◌, ◌%◌, ◌^◌, ◌<◌, ◌==◌, Bool, true, false, if◌then◌else◌, List, [], ◌++◌, refl, sym, ap, ◌∙◌}
use Rattle.std.proofs.Common.{IsTrue, arith, rules, tests}
use Rattle.std.specs.Int.{bit_at, byte_at}
use Rattle.std.proofs.Math.Nat.{mod-eq_of_lt}
use Rattle.std.proofs.lemmas.Bool.{eqb-true}
use Rattle.std.proofs.lemmas.Nat.{shr_high}
use Rattle.std.proofs.lemmas.Nat.Bits.{bit_at_cat_low, bit_at_above}
use Rattle.byteorder.specs.Endian.{little_bytes}
use Rattle.cred_rules.specs.Attribute.{Attribute, is_version, word_at, high_in, IsVersion1, IsVersion2, IsVersion3}
use Rattle.cred_rules.specs.Attribute.{SpellsSet, Spells, IsCanonical}
use Rattle.cred_rules.specs.Bits.{has_bit}
use Rattle.cred_filecap.proofs.SetLemmas.{high-canonical}
use Rattle.cred_filecap.proofs.WordLemmas.{word-bytes}

-- ---- the first word

-- the first word of an attribute
pub record IsMagic (version : ℕ) (on : Bool) (m : ℕ) : Type 0 where
  pub value : m ≡ version * 2 ^ 24 + (if on then 1 else 0)
  pub byte : version < 256

flag-small : (on : Bool) → (if on then 1 else 0) < 2
flag-small true = omega arith
flag-small false = omega arith

top-byte : (version : ℕ) (on : Bool) (m : ℕ) → IsMagic version on m → byte_at 3 m ≡ version
top-byte version on m is =
    let small : (if on then 1 else 0) < 2 ^ 24 = omega (arith, flag-small on) in
    ap (λ x. x / 2 ^ 24 % 256) is.value ∙ ap (λ x. x % 256) (shr_high version 24 (if on then 1 else 0) small) ∙ mod-eq_of_lt is.byte

low-bit : (version : ℕ) (on : Bool) (m i : ℕ) → IsMagic version on m → i < 24 → bit_at m i ≡ bit_at (if on then 1 else 0) i
low-bit version on m i is low = ap (λ x. bit_at x i) is.value ∙ bit_at_cat_low version 24 (if on then 1 else 0) i low

flag-alone : (on : Bool) → has_bit (if on then 1 else 0) 0 ≡ on
flag-alone true = refl
flag-alone false = refl

effective : (version : ℕ) (on : Bool) (m : ℕ) → IsMagic version on m → on ≡ has_bit m 0
effective version on m is = sym (ap (λ d. d == 1) (low-bit version on m 0 is (omega arith)) ∙ flag-alone on)

no-flag : (version : ℕ) (on : Bool) (m i : ℕ) → IsMagic version on m → 0 < i → i < 24 → has_bit m i ≡ false
no-flag version on m i is other low =
    ap (λ d. d == 1) (low-bit version on m i is low ∙ bit_at_above (if on then 1 else 0) 1 i (flag-small on) (omega arith))

-- ---- all words

-- the words that both versions have
pub record AreWords (a : Attribute) (m pl il ph ih : ℕ) : Type 0 where
  pub magic : IsMagic a.version a.effective m
  pub perm : SpellsSet pl ph a.perm
  pub inh : SpellsSet il ih a.inh
  pub m_fits : m < 2 ^ 32
  pub pl_fits : pl < 2 ^ 32
  pub il_fits : il < 2 ^ 32
  pub ph_small : ph < 2 ^ 9
  pub ih_small : ih < 2 ^ 9

-- their bytes, and then others
abbrev pub bytes_of : (m pl il ph ih : ℕ) → List ℕ → List ℕ
bytes_of m pl il ph ih rest =
    little_bytes 4 m ++ (little_bytes 4 pl ++ (little_bytes 4 il ++ (little_bytes 4 ph ++ (little_bytes 4 ih ++ rest))))

-- the words stand in them at their places
record HasWords (bytes : List ℕ) (m pl il ph ih : ℕ) : Type 0 where
  magic : word_at bytes 0 ≡ m
  perm_low : word_at bytes 4 ≡ pl
  inh_low : word_at bytes 8 ≡ il
  perm_high : word_at bytes 12 ≡ ph
  inh_high : word_at bytes 16 ≡ ih

has-words : (a : Attribute) (m pl il ph ih : ℕ) (rest : List ℕ) → AreWords a m pl il ph ih → HasWords (bytes_of m pl il ph ih rest) m pl il ph ih
unfolding word_at
has-words a m pl il ph ih rest are = record {
  magic = word-bytes m are.m_fits;
  perm_low = word-bytes pl are.pl_fits;
  inh_low = word-bytes il are.il_fits;
  perm_high = word-bytes ph (omega (arith, are.ph_small));
  inh_high = word-bytes ih (omega (arith, are.ih_small));
}

-- the root id stands after them
has-root : (m pl il ph ih r : ℕ) → r < 2 ^ 32 → word_at (bytes_of m pl il ph ih (little_bytes 4 r)) 20 ≡ r
unfolding word_at
has-root m pl il ph ih r fits = word-bytes r fits

-- bytes with these words and of the attribute's version say it
spells-by : (bytes : List ℕ) (a : Attribute) (m pl il ph ih : ℕ) → AreWords a m pl il ph ih → HasWords bytes m pl il ph ih
    → IsVersion2 bytes a ⊎ IsVersion3 bytes a → high_in a.version ph ≡ ph → high_in a.version ih ≡ ih → Spells bytes a
spells-by bytes a m pl il ph ih are has version ph_all ih_all = record {
  version = inr version;
  effective = effective a.version a.effective m are.magic ∙ ap (λ x. has_bit x 0) (sym has.magic);
  perm = rw (has.perm_low, has.perm_high, ph_all) are.perm;
  inh = rw (has.inh_low, has.inh_high, ih_all) are.inh;
}

pub written-2 : (a : Attribute) (m pl il ph ih : ℕ) → AreWords a m pl il ph ih → a.version ≡ 2 → a.root ≡ 0 → Spells (bytes_of m pl il ph ih []) a
written-2 a m pl il ph ih are version root =
    spells-by _ a m pl il ph ih are (has-words a m pl il ph ih [] are) (inl (record {
      size = refl;
      revision = top-byte a.version a.effective m are.magic ∙ version;
      version = version;
      root = root;
    })) (ap (λ v. high_in v ph) version) (ap (λ v. high_in v ih) version)

pub written-3 : (a : Attribute) (m pl il ph ih : ℕ) → AreWords a m pl il ph ih → a.version ≡ 3 → a.root < 2 ^ 32
    → Spells (bytes_of m pl il ph ih (little_bytes 4 a.root)) a
written-3 a m pl il ph ih are version fits =
    spells-by _ a m pl il ph ih are (has-words a m pl il ph ih _ are) (inr (record {
      size = refl;
      revision = top-byte a.version a.effective m are.magic ∙ version;
      version = version;
      root = sym (has-root m pl il ph ih a.root fits);
    })) (ap (λ v. high_in v ph) version) (ap (λ v. high_in v ih) version)

-- ---- version 1: the first three words

abbrev pub first_bytes_of : (m pl il : ℕ) → List ℕ
first_bytes_of m pl il = little_bytes 4 m ++ (little_bytes 4 pl ++ little_bytes 4 il)

-- the words stand in them at their places, and behind them nothing
record HasFirstWords (bytes : List ℕ) (m pl il : ℕ) : Type 0 where
  magic : word_at bytes 0 ≡ m
  perm_low : word_at bytes 4 ≡ pl
  inh_low : word_at bytes 8 ≡ il
  perm_high : word_at bytes 12 ≡ 0
  inh_high : word_at bytes 16 ≡ 0

has-first_words : (a : Attribute) (m pl il ph ih : ℕ) → AreWords a m pl il ph ih → HasFirstWords (first_bytes_of m pl il) m pl il
unfolding word_at
has-first_words a m pl il ph ih are = record {
  magic = word-bytes m are.m_fits;
  perm_low = word-bytes pl are.pl_fits;
  inh_low = word-bytes il are.il_fits;
  perm_high = refl;
  inh_high = refl;
}

-- a set without a capability above 31 stands in one word
in_one_word : (low high s : ℕ) → SpellsSet low high s → s < 2 ^ 32 → SpellsSet low 0 s
in_one_word low high s is small = record {
  below = is.below;
  above = λ n _. ap (λ d. d == 1) (bit_at_above s 32 (32 + n) small (omega arith) ∙ sym (bit_at_above 0 0 n (omega arith) (omega arith)));
  others = is.others;
}

pub written-1 : (a : Attribute) (m pl il ph ih : ℕ) → AreWords a m pl il ph ih → a.version ≡ 1 → a.root ≡ 0 → a.perm < 2 ^ 32 → a.inh < 2 ^ 32
    → Spells (first_bytes_of m pl il) a
written-1 a m pl il ph ih are version root low_perm low_inh =
    let has = has-first_words a m pl il ph ih are in
    record {
      version = inl (record {
        size = refl;
        revision = top-byte a.version a.effective m are.magic ∙ version;
        version = version;
        root = root;
      });
      effective = effective a.version a.effective m are.magic ∙ ap (λ x. has_bit x 0) (sym has.magic);
      perm = rw (has.perm_low, ap (λ v. high_in v (word_at (first_bytes_of m pl il) 12)) version) (in_one_word pl ph a.perm are.perm low_perm);
      inh = rw (has.inh_low, ap (λ v. high_in v (word_at (first_bytes_of m pl il) 16)) version) (in_one_word il ih a.inh are.inh low_inh);
    }

pub canonical-1 : (a : Attribute) (m pl il ph ih : ℕ) → AreWords a m pl il ph ih → IsCanonical (first_bytes_of m pl il)
canonical-1 a m pl il ph ih are =
    let has = has-first_words a m pl il ph ih are in
    record {
      flags = λ i from to. ap (λ x. has_bit x i) has.magic ∙ no-flag a.version a.effective m i are.magic from to;
      perm = λ i from to. ap (λ x. has_bit x i) has.perm_high ∙ high-canonical 0 i (omega arith) from;
      inh = λ i from to. ap (λ x. has_bit x i) has.inh_high ∙ high-canonical 0 i (omega arith) from;
    }

-- ---- which version it is

pub which : (version : ℕ) → IsTrue (is_version version) → (version ≡ 1) ⊎ ((version ≡ 2) ⊎ (version ≡ 3))
which version known =
    elim (version == 1) as (λ b. (version == 1) ≡ b → (version ≡ 1) ⊎ ((version ≡ 2) ⊎ (version ≡ 3))) [
      | true ↦ λ one. inl (eqb-true version 1 one)
      | false ↦ λ not_one.
          elim (version == 2) as (λ b. (version == 2) ≡ b → (version ≡ 1) ⊎ ((version ≡ 2) ⊎ (version ≡ 3))) [
            | true ↦ λ two. inr (inl (eqb-true version 2 two))
            | false ↦ λ not_two. inr (inr (search (rules, tests)))
          ] refl
    ] refl

pub canonical : (a : Attribute) (m pl il ph ih : ℕ) (rest : List ℕ) → AreWords a m pl il ph ih → IsCanonical (bytes_of m pl il ph ih rest)
canonical a m pl il ph ih rest are =
    let has = has-words a m pl il ph ih rest are in
    record {
      flags = λ i from to. ap (λ x. has_bit x i) has.magic ∙ no-flag a.version a.effective m i are.magic from to;
      perm = λ i from to. ap (λ x. has_bit x i) has.perm_high ∙ high-canonical ph i are.ph_small from;
      inh = λ i from to. ap (λ x. has_bit x i) has.inh_high ∙ high-canonical ih i are.ih_small from;
    }
