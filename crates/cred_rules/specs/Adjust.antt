-- The calls that change the capability sets, the securebits and no_new_privs of a task (capset(2),
-- prctl(2), capabilities(7)). Each says what becomes of the credential, or why the call is refused:
-- the tests stand in the order in which they are made.
use Rattle.std.specs.Prelude.{ℕ, Bool, true, List, [], ◌∷◌, ◌==◌, ◌&&◌, ◌||◌, not, nat_lt, nat_le}
use Rattle.std.specs.Prelude.{Option, Some, None, Result, Ok, Err, if◌then◌else◌}
use Rattle.std.specs.Int.{bit_at}
use Rattle.std.specs.List.{list_all}
use Rattle.cred_caps.specs.declared.secure.Flag.{Flag}
use Rattle.cred_caps.specs.declared.secure.Flag.TheVariants.{NoRoot, NoSetuidFixup, KeepCaps}
use Rattle.cred_caps.specs.declared.secure.Flag.TheVariants.{NoAmbientRaise}
use Rattle.cred_caps.specs.Caps.{Caps, empty, has, with, without, union, meet, is_within}
use Rattle.cred_caps.specs.Numbers.{LAST, SETPCAP}
use Rattle.cred_caps.specs.Secure.{LAST_BITS, flag_place, is_set, is_locked}
use Rattle.cred_caps.specs.Secure.{with_secure_flag}
use Rattle.cred_record.specs.declared.adj_call.AdjCall.{AdjCall}
use Rattle.cred_record.specs.declared.adj_call.AdjCall.TheVariants as call
use Rattle.cred_record.specs.declared.refusal.Denial.{Denial}
use Rattle.cred_record.specs.declared.refusal.Denial.TheVariants.{Perm, Invalid}
use Rattle.cred_record.specs.Credential.{Credential, capable}

-- n is the number of no capability
abbrev pub is_no_cap : ℕ → Bool
is_no_cap n = nat_lt LAST n

-- capset(2) may set these sets: the new inheritable set is within the old inheritable and bounding
-- sets, and without CAP_SETPCAP also within the old inheritable and permitted sets; nothing becomes
-- permitted that was not, and nothing effective that is not permitted then (capabilities(7),
-- "Programmatically adjusting capability sets")
abbrev pub may_capset : Credential → Caps → Caps → Caps → Bool
may_capset c perm inh eff =
    is_within inh (union c.inh c.bound) &&
    (capable c SETPCAP || is_within inh (union c.inh c.perm)) &&
    is_within perm c.perm &&
    is_within eff perm

-- capset(2): the three sets become what is given, where they may, and the ambient set keeps what is
-- still permitted and inheritable (capabilities(7), "Thread capability sets")
unfoldable pub after_capset : Credential → Caps → Caps → Caps → Result Credential Denial
after_capset c perm inh eff =
    if not (may_capset c perm inh eff) then Err Perm
    else Ok (record c { perm = perm; inh = inh; eff = eff; amb = meet (meet c.amb perm) inh })

-- prctl(2), PR_CAPBSET_DROP: with CAP_SETPCAP the capability leaves the bounding set, and no other
-- set changes
unfoldable pub after_bound_drop : Credential → ℕ → Result Credential Denial
after_bound_drop c n =
    if not (capable c SETPCAP) then Err Perm
    else if is_no_cap n then Err Invalid
    else Ok (record c { bound = without c.bound n })

-- a capability may become ambient that is permitted and inheritable, unless NO_CAP_AMBIENT_RAISE is
-- set
abbrev pub may_raise : Credential → ℕ → Bool
may_raise c n = has c.perm n && has c.inh n && not (is_set c.bits NoAmbientRaise)

-- prctl(2), PR_CAP_AMBIENT_RAISE: the capability becomes ambient, where it may
unfoldable pub after_amb_raise : Credential → ℕ → Result Credential Denial
after_amb_raise c n =
    if is_no_cap n then Err Invalid
    else if not (may_raise c n) then Err Perm
    else Ok (record c { amb = with c.amb n })

-- prctl(2), PR_CAP_AMBIENT_LOWER: the capability is no longer ambient
unfoldable pub after_amb_lower : Credential → ℕ → Result Credential Denial
after_amb_lower c n = if is_no_cap n then Err Invalid else Ok (record c { amb = without c.amb n })

-- every securebits flag
abbrev pub FLAGS : List Flag
FLAGS = NoRoot ∷ NoSetuidFixup ∷ KeepCaps ∷ NoAmbientRaise ∷ []

-- from the old to the new securebits, the flag is as it was
abbrev pub is_same_flag : ℕ → ℕ → Flag → Bool
is_same_flag old new f = bit_at old (flag_place f) == bit_at new (flag_place f)

-- a lock that is set stays set, and then its flag stays as it is
abbrev pub keeps_lock : ℕ → ℕ → Flag → Bool
keeps_lock old new f = not (is_locked old f) || is_locked new f && is_same_flag old new f

-- with CAP_SETPCAP the securebits may become n, where n has no bit above the eight and keeps what
-- is locked (capabilities(7), "The securebits flags")
abbrev pub may_set_bits : Credential → ℕ → Bool
may_set_bits c n = capable c SETPCAP && nat_le n LAST_BITS && list_all (keeps_lock c.bits n) FLAGS

-- prctl(2), PR_SET_SECUREBITS: the securebits become n, where they may
unfoldable pub after_bits : Credential → ℕ → Result Credential Denial
after_bits c n = if not (may_set_bits c n) then Err Perm else Ok (record c { bits = n })

-- prctl(2), PR_SET_KEEPCAPS: the flag KEEP_CAPS becomes set for 1 and unset for 0, unless it is
-- locked. It needs no capability
unfoldable pub after_keep_caps : Credential → ℕ → Result Credential Denial
after_keep_caps c n =
    if nat_lt 1 n then Err Invalid
    else if is_locked c.bits KeepCaps then Err Perm
    else Ok (record c { bits = with_secure_flag c.bits KeepCaps (n == 1) })

-- prctl(2), PR_SET_NO_NEW_PRIVS: it is set by 1, and no number unsets it
unfoldable pub after_no_new_privs : Credential → ℕ → Result Credential Denial
after_no_new_privs c n = if not (n == 1) then Err Invalid else Ok (record c { nnp = true })

-- the credential after a call, or why the call is refused. PR_CAP_AMBIENT_CLEAR_ALL always empties
-- the ambient set (prctl(2))
abbrev pub adjust : Credential → AdjCall → Result Credential Denial
adjust c (call.Capset perm inh eff) = after_capset c perm inh eff
adjust c (call.BoundDrop n) = after_bound_drop c n
adjust c (call.AmbRaise n) = after_amb_raise c n
adjust c (call.AmbLower n) = after_amb_lower c n
adjust c call.AmbClear = Ok (record c { amb = empty })
adjust c (call.Bits n) = after_bits c n
adjust c (call.KeepCaps n) = after_keep_caps c n
adjust c (call.NoNewPrivs n) = after_no_new_privs c n

-- whether capability n is in the set, or none where n is the number of no capability
abbrev pub read_in : Caps → ℕ → Option Bool
read_in s n = if is_no_cap n then None else Some (has s n)

-- prctl(2), PR_CAPBSET_READ: whether the capability is in the bounding set
abbrev pub bset_read : Credential → ℕ → Option Bool
bset_read c n = read_in c.bound n

-- prctl(2), PR_CAP_AMBIENT_IS_SET: whether the capability is in the ambient set
abbrev pub amb_is_set : Credential → ℕ → Option Bool
amb_is_set c n = read_in c.amb n
