-- The capability attribute of a file: the bytes of its extended attribute `security.capability`,
-- and what they spell (capabilities(7), "File capability extended attribute versioning";
-- linux/capability.h, `struct vfs_cap_data` and `struct vfs_ns_cap_data`). `Spells` relates the
-- two: it says what each bit means, and not how bytes are read or written. It is a function too
-- (`attribute_of`), by a law of `cred_filecap`.
use Rattle.std.specs.Prelude.{◌≡◌, ◌≢◌, ◌⊎◌, ℕ, ◌+◌, ◌*◌, ◌%◌, ◌^◌, ◌<◌, ◌==◌, ◌&&◌, ◌||◌, not}
use Rattle.std.specs.Prelude.{Bool, false, IsTrue, List, Option, Some, None, length, slice_index}
use Rattle.std.specs.Prelude.{if◌then◌else◌, nat_lt}
use Rattle.std.specs.List.{list_any}
use Rattle.cred_caps.specs.Caps.{Caps, IsCap, IsCaps, full, has, meet}
use Rattle.cred_caps.specs.Numbers.{LAST}
use Rattle.cred_rules.specs.Bits.{has_bit}

-- what an attribute says: its version, the file's permitted and inheritable sets and effective
-- flag, and the root id of the user namespace in which the file has them (capabilities(7), "File
-- capabilities" and "Namespaced file capabilities")
pub record Attribute : Type 0 where
  pub version : ℕ
  pub perm : Caps
  pub inh : Caps
  pub effective : Bool
  pub root : ℕ

-- ---- the bytes, by `struct vfs_ns_cap_data`

-- the 32-bit word whose four bytes stand from place i, the lowest first (`__le32`)
unfoldable pub word_at : List ℕ → ℕ → ℕ
word_at bytes i =
    slice_index bytes i +
    256 * slice_index bytes (i + 1) +
    256 ^ 2 * slice_index bytes (i + 2) +
    256 ^ 3 * slice_index bytes (i + 3)

-- the first word has the revision and the flags (`magic_etc`)
abbrev pub magic : List ℕ → ℕ
magic bytes = word_at bytes 0

-- then come the low words of the permitted and the inheritable set (`data[0]`)
abbrev pub perm_low : List ℕ → ℕ
perm_low bytes = word_at bytes 4

abbrev pub inh_low : List ℕ → ℕ
inh_low bytes = word_at bytes 8

-- then the high words of the two (`data[1]`)
abbrev pub perm_high : List ℕ → ℕ
perm_high bytes = word_at bytes 12

abbrev pub inh_high : List ℕ → ℕ
inh_high bytes = word_at bytes 16

-- and then the root id (`rootid`)
abbrev pub root_id : List ℕ → ℕ
root_id bytes = word_at bytes 20

-- the revision is the top byte of the first word (VFS_CAP_REVISION_MASK)
abbrev pub revision_of : List ℕ → ℕ
revision_of bytes = slice_index bytes 3

-- ---- what they spell

-- version 1 (VFS_CAP_REVISION_1) has three words. It has no root id, and is taken to have 0, that
-- of the initial namespace
pub record IsVersion1 (bytes : List ℕ) (a : Attribute) : Type 0 where
  pub size : length bytes ≡ 12
  pub revision : revision_of bytes ≡ 1
  pub version : a.version ≡ 1
  pub root : a.root ≡ 0

-- version 2 (VFS_CAP_REVISION_2) has five words, and no root id either
pub record IsVersion2 (bytes : List ℕ) (a : Attribute) : Type 0 where
  pub size : length bytes ≡ 20
  pub revision : revision_of bytes ≡ 2
  pub version : a.version ≡ 2
  pub root : a.root ≡ 0

-- version 3 (VFS_CAP_REVISION_3) has six words, and the last is its root id
pub record IsVersion3 (bytes : List ℕ) (a : Attribute) : Type 0 where
  pub size : length bytes ≡ 24
  pub revision : revision_of bytes ≡ 3
  pub version : a.version ≡ 3
  pub root : a.root ≡ root_id bytes

-- the high word of a set in this version: version 1 has none, and so no capability above 31
abbrev pub high_in : ℕ → ℕ → ℕ
high_in version word = if version == 1 then 0 else word

-- a low and a high word spell a set: the capabilities below 32 by the bits of the low word, those
-- from 32 to the last one by the bits of the high word
pub record SpellsSet (low high : ℕ) (s : Caps) : Type 0 where
  pub below : (n : ℕ) → n < 32 → has s n ≡ has_bit low n
  pub above : (n : ℕ) → IsCap (32 + n) → has s (32 + n) ≡ has_bit high n
  pub others : IsCaps s

-- the bytes spell the attribute: they are of its version, bit 0 of the first word is its effective
-- flag (VFS_CAP_FLAGS_EFFECTIVE), and each of its sets stands in two words, in version 1 in one
pub record Spells (bytes : List ℕ) (a : Attribute) : Type 0 where
  pub version : IsVersion1 bytes a ⊎ (IsVersion2 bytes a ⊎ IsVersion3 bytes a)
  pub effective : a.effective ≡ has_bit (magic bytes) 0
  pub perm : SpellsSet (perm_low bytes) (high_in a.version (perm_high bytes)) a.perm
  pub inh : SpellsSet (inh_low bytes) (high_in a.version (inh_high bytes)) a.inh

-- the set that two words spell, as a number: the high word's bits above the low word's, and no bit
-- above the last capability
abbrev pub set_in : ℕ → ℕ → Caps
set_in low high = meet (high * 2 ^ 32 + low % 2 ^ 32) full

-- what bytes of this version say, with this root id
abbrev pub said : List ℕ → (version root : ℕ) → Attribute
said bytes version root = record {
  version = version;
  perm = set_in (perm_low bytes) (high_in version (perm_high bytes));
  inh = set_in (inh_low bytes) (high_in version (inh_high bytes));
  effective = has_bit (magic bytes) 0;
  root = root;
}

-- the bytes are `size` many, and have this revision
abbrev pub has_form : List ℕ → (size revision : ℕ) → Bool
has_form bytes size revision = (length bytes == size) && (revision_of bytes == revision)

-- the attribute that the bytes spell, or none: `Spells` as a function, so that a rule can compute
-- with it
unfoldable pub attribute_of : List ℕ → Option Attribute
attribute_of bytes =
    if has_form bytes 12 1 then Some (said bytes 1 0)
    else if has_form bytes 20 2 then Some (said bytes 2 0)
    else if has_form bytes 24 3 then Some (said bytes 3 (root_id bytes))
    else None

-- every bit that spells nothing is zero: in the first word those between the effective flag and the
-- revision, and in the high words those above the last capability. Version 1 has no high words:
-- what stands there, after its bytes, is 0
pub record IsCanonical (bytes : List ℕ) : Type 0 where
  pub flags : (i : ℕ) → 0 < i → i < 24 → has_bit (magic bytes) i ≡ false
  pub perm : (i : ℕ) → LAST < 32 + i → i < 32 → has_bit (perm_high bytes) i ≡ false
  pub inh : (i : ℕ) → LAST < 32 + i → i < 32 → has_bit (inh_high bytes) i ≡ false

-- ---- bytes that spell nothing

-- why bytes spell no attribute: how many they are, or their revision
pub data Fault : Type 0 where
  WrongLength : ℕ → Fault
  WrongRevision : ℕ → Fault

-- n is a version (VFS_CAP_REVISION_1, VFS_CAP_REVISION_2, VFS_CAP_REVISION_3)
abbrev pub is_version : ℕ → Bool
is_version n = (n == 1) || (n == 2) || (n == 3)

-- why these bytes, which spell no attribute, don't: they are too few to have a revision; else their
-- revision is no version; else they are not as many as that version has. execve(2) answers EINVAL
-- to each (security/commoncap.c of Linux, get_vfs_caps_from_disk)
abbrev pub fault : List ℕ → Fault
fault bytes =
    if nat_lt (length bytes) 4 then WrongLength (length bytes)
    else if not (is_version (revision_of bytes)) then WrongRevision (revision_of bytes)
    else WrongLength (length bytes)

-- ---- attributes

-- what holds of each attribute: it has a version, in versions 1 and 2 the root id 0, and in version
-- 1 no capability above 31
pub record IsVersioned (version root : ℕ) (perm inh : Caps) : Type 0 where
  pub known : IsTrue (is_version version)
  pub initial : version ≢ 3 → root ≡ 0
  pub low_perm : version ≡ 1 → perm < 2 ^ 32
  pub low_inh : version ≡ 1 → inh < 2 ^ 32

-- the version names no namespace: its attributes have effect in all (capabilities(7), "File
-- capability extended attribute versioning")
abbrev pub counts_everywhere : ℕ → Bool
counts_everywhere version = (version == 1) || (version == 2)

-- the attribute counts for a task whose user namespace and its ancestors have these root ids: one
-- of version 1 or 2 always does, and one of version 3 where its root id is among them
-- (capabilities(7), "Namespaced file capabilities")
abbrev pub counts : Attribute → List ℕ → Bool
counts a chain = counts_everywhere a.version || list_any (λ id. id == a.root) chain
