-- The record that capget(2) and capset(2) take: its bytes, and what they spell (linux/capability.h,
-- `struct __user_cap_header_struct` and `struct __user_cap_data_struct`). `SpellsData` relates the
-- two: it says what each bit means, and not how bytes are read or written.
use Rattle.std.specs.Prelude.{◌≡◌, ℕ, ◌+◌, ◌<◌, ◌^◌, ◌==◌, ◌&&◌, ◌||◌, not, Bool, false}
use Rattle.std.specs.Prelude.{IsTrue, List, Option, Some, None, length, if◌then◌else◌, nat_lt}
use Rattle.cred_caps.specs.Numbers.{LAST}
use Rattle.cred_rules.specs.Attribute.{word_at, high_in, set_in, SpellsSet}
use Rattle.cred_rules.specs.Bits.{has_bit}
use Rattle.cred_capdata.specs.declared.data.CapData.{CapData}
use Rattle.cred_capdata.specs.declared.refusal.DataRefusal.{DataRefusal}
use Rattle.cred_capdata.specs.declared.refusal.DataRefusal.TheVariants.{BadLength, BadVersion}

-- ---- the versions

-- "#define _LINUX_CAPABILITY_VERSION_1 0x19980330"
abbrev pub WORD_1 : ℕ
WORD_1 = 0x19980330

-- "#define _LINUX_CAPABILITY_VERSION_2 0x20071026"
abbrev pub WORD_2 : ℕ
WORD_2 = 0x20071026

-- "#define _LINUX_CAPABILITY_VERSION_3 0x20080522"
abbrev pub WORD_3 : ℕ
WORD_3 = 0x20080522

-- 1, 2 or 3
abbrev pub is_data_version : ℕ → Bool
is_data_version version = (version == 1) || (version == 2) || (version == 3)

-- the word that names the version
abbrev pub word_of_version : ℕ → ℕ
word_of_version version = if version == 1 then WORD_1 else if version == 2 then WORD_2 else WORD_3

-- the word names a version
abbrev pub is_version_word : ℕ → Bool
is_version_word word = (word == WORD_1) || (word == WORD_2) || (word == WORD_3)

-- how many bytes the version has: a header of two words, and groups of three words, one in version
-- 1 (_LINUX_CAPABILITY_U32S_1) and two in the others
abbrev pub size_of : ℕ → ℕ
size_of version = if version == 1 then 20 else 32

-- ---- the bytes

-- the header has the version and whom it is about (`version`, `pid`)
abbrev pub version_word : List ℕ → ℕ
version_word bytes = word_at bytes 0

abbrev pub target : List ℕ → ℕ
target bytes = word_at bytes 4

-- "64-bit capabilities use datap[0] and datap[1], whereas 32-bit capabilities use only datap[0]":
-- each has the words of the effective, the permitted and the inheritable set
abbrev pub eff_word_0 : List ℕ → ℕ
eff_word_0 bytes = word_at bytes 8

abbrev pub perm_word_0 : List ℕ → ℕ
perm_word_0 bytes = word_at bytes 12

abbrev pub inh_word_0 : List ℕ → ℕ
inh_word_0 bytes = word_at bytes 16

abbrev pub eff_word_1 : List ℕ → ℕ
eff_word_1 bytes = word_at bytes 20

abbrev pub perm_word_1 : List ℕ → ℕ
perm_word_1 bytes = word_at bytes 24

abbrev pub inh_word_1 : List ℕ → ℕ
inh_word_1 bytes = word_at bytes 28

-- ---- what they spell

-- the bytes spell the record: they are of its version, and each of its sets stands in two words, in
-- version 1 in one. Bits above the last capability say nothing
pub record SpellsData (bytes : List ℕ) (d : CapData) : Type 0 where
  pub known : IsTrue (is_data_version d.version)
  pub word : version_word bytes ≡ word_of_version d.version
  pub size : length bytes ≡ size_of d.version
  pub target : d.target ≡ target bytes
  pub eff : SpellsSet (eff_word_0 bytes) (high_in d.version (eff_word_1 bytes)) d.eff
  pub perm : SpellsSet (perm_word_0 bytes) (high_in d.version (perm_word_1 bytes)) d.perm
  pub inh : SpellsSet (inh_word_0 bytes) (high_in d.version (inh_word_1 bytes)) d.inh

-- what bytes of this version say
abbrev pub data_said : List ℕ → ℕ → CapData
data_said bytes version = record {
  version = version;
  target = target bytes;
  perm = set_in (perm_word_0 bytes) (high_in version (perm_word_1 bytes));
  inh = set_in (inh_word_0 bytes) (high_in version (inh_word_1 bytes));
  eff = set_in (eff_word_0 bytes) (high_in version (eff_word_1 bytes));
}

-- the bytes are as many as this version has, with its word
abbrev pub has_version_form : List ℕ → ℕ → Bool
has_version_form bytes version =
    (length bytes == size_of version) && (version_word bytes == word_of_version version)

-- the record that the bytes spell, or none: `SpellsData` as a function, so that a grammar can
-- compute with it
unfoldable pub data_of : List ℕ → Option CapData
data_of bytes =
    if has_version_form bytes 1 then Some (data_said bytes 1)
    else if has_version_form bytes 2 then Some (data_said bytes 2)
    else if has_version_form bytes 3 then Some (data_said bytes 3)
    else None

-- every bit that spells nothing is zero: those above the last capability. Version 1 has no high
-- words: what stands there, after its bytes, is 0
pub record IsCanonicalData (bytes : List ℕ) : Type 0 where
  pub eff : (i : ℕ) → LAST < 32 + i → i < 32 → has_bit (eff_word_1 bytes) i ≡ false
  pub perm : (i : ℕ) → LAST < 32 + i → i < 32 → has_bit (perm_word_1 bytes) i ≡ false
  pub inh : (i : ℕ) → LAST < 32 + i → i < 32 → has_bit (inh_word_1 bytes) i ≡ false

-- what has bytes: in version 1 no capability above 31 stands in a set
pub record HasBytes (d : CapData) : Type 0 where
  pub known : IsTrue (is_data_version d.version)
  pub eff : d.version ≡ 1 → d.eff < 2 ^ 32
  pub perm : d.version ≡ 1 → d.perm < 2 ^ 32
  pub inh : d.version ≡ 1 → d.inh < 2 ^ 32

-- ---- bytes that spell nothing

-- why these bytes, which spell no record, don't: they are too few to have a header; else their
-- first word is no version; else they are not as many as that version has
abbrev pub data_refusal_of : List ℕ → DataRefusal
data_refusal_of bytes =
    if nat_lt (length bytes) 8 then BadLength (length bytes)
    else if not (is_version_word (version_word bytes)) then BadVersion (version_word bytes)
    else BadLength (length bytes)
