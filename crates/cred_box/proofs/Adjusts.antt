-- Neither capset nor a call of prctl leads out of a tight box.
use Rattle.std.proofs.Common.{◌≡◌, inl, inr, ℕ, ◌==◌, ◌&&◌, ◌||◌, not, Bool, true, false, Ok, Err, if◌then◌else◌, refl, sym, ap, subst, ◌∙◌}
use Rattle.std.proofs.lemmas.Bool.{eqb-true}
use Rattle.cred_caps.specs.declared.secure.Flag.TheVariants.{NoRoot}
use Rattle.cred_caps.specs.Caps.{Caps, has, IsWithin}
use Rattle.cred_caps.specs.Secure.{is_locked}
use Rattle.cred_caps.specs.Caps.{union, meet, is_within}
use Rattle.cred_caps.specs.Numbers.{SETPCAP}
use Rattle.cred_caps.proofs.SetLaws.{within-trans, within-members, has-union, has-meet}
use Rattle.cred_caps.specs.Caps.{empty, full}
use Rattle.cred_caps.specs.declared.secure.Flag.TheVariants.{KeepCaps}
use Rattle.cred_caps.specs.Secure.{with_secure_flag, flag_place}
use Rattle.cred_caps.proofs.FlagLaws.{sets_flag}
use Rattle.std.proofs.Common.{arith}
use Rattle.cred_caps.proofs.SetLaws.{meet-left}
use Rattle.std.specs.Prelude.{nat_lt}
use Rattle.std.specs.Int.{bit_at}
use Rattle.cred_caps.specs.Caps.{with, without}
use Rattle.cred_record.specs.declared.adj_call.AdjCall.TheVariants as call
use Rattle.cred_record.specs.declared.refusal.Denial.TheVariants.{Invalid}
use Rattle.cred_rules.specs.Adjust.{after_bound_drop, after_amb_raise, after_amb_lower, after_bits, after_keep_caps, after_no_new_privs, may_set_bits, keeps_lock, is_no_cap, may_raise, is_same_flag}
use Rattle.cred_rules.specs.Adjust.{may_capset, after_capset}
use Rattle.cred_record.specs.declared.refusal.Denial.{Denial}
use Rattle.cred_record.specs.declared.refusal.Denial.TheVariants.{Perm}
use Rattle.cred_record.specs.Credential.{Credential, AreValidSets, capable}
use Rattle.cred_box.specs.Boxes.{Box, IsIn, IsTight, AdjustsLeaveIn}
use Rattle.cred_box.proofs.Bounds.{within-from, or-cases, and-both, not-true, capset-gives}

-- what a set that is within two is within
inh-member : (box : Box) (c : Credential) (able : Bool) (inh : Caps) (n : ℕ) → IsIn box c → (able ≡ true → has box.perm SETPCAP ≡ true)
    → IsWithin (if has box.perm SETPCAP then box.bound else meet box.bound box.perm) box.inh
    → IsWithin inh (union c.inh c.bound) → (able || is_within inh (union c.inh c.perm)) ≡ true → has inh n ≡ true → has box.inh n ≡ true
inh-member box c able inh n inside full gives first second member =
    elim (or-cases (has c.inh n) (has c.bound n) (sym (has-union c.inh c.bound n) ∙ (within-members inh (union c.inh c.bound)).0 first n member)) [
      | inl old ↦ (within-members c.inh box.inh).0 inside.inh n old
      | inr bound ↦
          let in_bound : has box.bound n ≡ true = (within-members c.bound box.bound).0 inside.bound n bound in
          elim (has box.perm SETPCAP) as (λ b. (able ≡ true → b ≡ true) → IsWithin (if b then box.bound else meet box.bound box.perm) box.inh → has box.inh n ≡ true) [
            | true ↦ λ full gives. (within-members box.bound box.inh).0 gives n in_bound
            | false ↦ λ full gives. elim (or-cases able (is_within inh (union c.inh c.perm)) second) [
              | inl is ↦ let no : false ≡ true = full is in cc
              | inr test ↦
                  elim (or-cases (has c.inh n) (has c.perm n)
                  (sym (has-union c.inh c.perm n) ∙ (within-members inh (union c.inh c.perm)).0 (within-from inh (union c.inh c.perm) test) n member)) [
                    | inl old ↦ (within-members c.inh box.inh).0 inside.inh n old
                    | inr perm ↦
                        let in_perm : has box.perm n ≡ true = (within-members c.perm box.perm).0 inside.perm n perm in
                        (within-members (meet box.bound box.perm) box.inh).0 gives n
                        (has-meet box.bound box.perm n ∙ ap (λ b. b && has box.perm n) in_bound ∙ in_perm)
                  ]
            ]
          ] full gives
    ]

capsets_leave_in : (box : Box) (c d : Credential) (perm inh eff : Caps) → IsTight box → IsIn box c → AreValidSets c.perm c.inh c.eff c.amb
    → after_capset c perm inh eff ≡ Ok d → IsIn box d
unfolding after_capset
capsets_leave_in box c d perm inh eff tight inside valid same =
    capset-gives (IsIn box) (may_capset c perm inh eff) (record c { perm = perm; inh = inh; eff = eff; amb = meet (meet c.amb perm) inh }) d
    (λ may.
    let one = and-both _ _ may in
    let two = and-both _ _ one.0 in
    let three = and-both _ _ two.0 in
    let able : capable c SETPCAP ≡ true → has box.perm SETPCAP ≡ true =
    λ is. (within-members c.eff box.perm).0 (within-trans c.eff c.perm box.perm valid.effective inside.perm) SETPCAP is
    in
    record {
      ns = inside.ns;
      root = inside.root;
      real = inside.real;
      effective = inside.effective;
      saved = inside.saved;
      fs = inside.fs;
      perm = within-trans perm c.perm box.perm (within-from perm c.perm two.1) inside.perm;
      inh = (within-members inh box.inh).1 (λ n member. inh-member box c (capable c SETPCAP) inh n inside able tight.capset_gives
          (within-from inh (union c.inh c.bound) three.0) three.1 member);
      bound = inside.bound;
      nnp = inside.nnp;
      noroot = inside.noroot;
      locked = inside.locked;
    })
    same

-- ---- the calls of prctl

two-gives : (P : Credential → Type 0) (first second : Bool) (x y : Denial) (new d : Credential) → P new
    → (if first then Err x else if second then Err y else Ok new) ≡ Ok d → P d
two-gives P true second x y new d holds same = cc
two-gives P false true x y new d holds same = cc
two-gives P false false x y new d holds same = let is : new ≡ d = cc in subst P is holds

one-gives : (P : Credential → Type 0) (may : Bool) (x : Denial) (new d : Credential) → P new → (if may then Err x else Ok new) ≡ Ok d → P d
one-gives P true x new d holds same = cc
one-gives P false x new d holds same = let is : new ≡ d = cc in subst P is holds

-- another ambient set
other-amb : (box : Box) (c : Credential) (amb : Caps) → IsIn box c → IsIn box (record c { amb = amb })
other-amb box c amb inside = record {
  ns = inside.ns;
  root = inside.root;
  real = inside.real;
  effective = inside.effective;
  saved = inside.saved;
  fs = inside.fs;
  perm = inside.perm;
  inh = inside.inh;
  bound = inside.bound;
  nnp = inside.nnp;
  noroot = inside.noroot;
  locked = inside.locked;
}

-- KEEP_CAPS alone
kept-flag : (box : Box) (c : Credential) (on : Bool) → IsIn box c → IsIn box (record c { bits = with_secure_flag c.bits KeepCaps on })
kept-flag box c on inside = record {
  ns = inside.ns;
  root = inside.root;
  real = inside.real;
  effective = inside.effective;
  saved = inside.saved;
  fs = inside.fs;
  perm = inside.perm;
  inh = inside.inh;
  bound = inside.bound;
  nnp = inside.nnp;
  noroot = λ free. ap (λ d. d == 1) ((sets_flag c.bits KeepCaps on).others (flag_place NoRoot) (omega arith) (λ same. omega (arith, same))) ∙ inside.noroot free;
  locked = λ free may. (sets_flag c.bits KeepCaps on).locks NoRoot ∙ inside.locked free may;
}

lock-stays : (old new : ℕ) → keeps_lock old new NoRoot ≡ true → is_locked old NoRoot ≡ true → (is_locked new NoRoot ≡ true) × (is_same_flag old new NoRoot ≡ true)
lock-stays old new keeps locked =
    elim (or-cases (not (is_locked old NoRoot)) (is_locked new NoRoot && is_same_flag old new NoRoot) keeps) [
      | inl free ↦ let no : is_locked old NoRoot ≡ false = not-true (is_locked old NoRoot) free in cc
      | inr both ↦ and-both _ _ both
    ]

set-bits : (box : Box) (c : Credential) (n : ℕ) → IsTight box → IsIn box c → AreValidSets c.perm c.inh c.eff c.amb
    → may_set_bits c n ≡ true → IsIn box (record c { bits = n })
set-bits box c n tight inside valid may =
    let one = and-both _ _ may in
    let two = and-both _ _ one.0 in
    let able : has box.perm SETPCAP ≡ true = (within-members c.eff box.perm).0 (within-trans c.eff c.perm box.perm valid.effective inside.perm) SETPCAP two.0 in
    let keeps : keeps_lock c.bits n NoRoot ≡ true = (and-both _ _ one.1).0 in
    record {
      ns = inside.ns;
      root = inside.root;
      real = inside.real;
      effective = inside.effective;
      saved = inside.saved;
      fs = inside.fs;
      perm = inside.perm;
      inh = inside.inh;
      bound = inside.bound;
      nnp = inside.nnp;
      noroot = λ free.
          let same = (lock-stays c.bits n keeps (inside.locked free able)).1 in
          ap (λ d. d == 1) (sym (eqb-true (bit_at c.bits (flag_place NoRoot)) (bit_at n (flag_place NoRoot)) same)) ∙ inside.noroot free;
      locked = λ free may. (lock-stays c.bits n keeps (inside.locked free able)).0;
    }

pub adjusts_leave_in : AdjustsLeaveIn
unfolding after_bound_drop after_amb_raise after_amb_lower after_bits after_keep_caps after_no_new_privs
adjusts_leave_in box c d (call.Capset perm inh eff) tight inside valid same = capsets_leave_in box c d perm inh eff tight inside valid same
adjusts_leave_in box c d (call.BoundDrop n) tight inside valid same =
    two-gives (IsIn box) (not (capable c SETPCAP)) (is_no_cap n) Perm Invalid (record c { bound = without c.bound n }) d
    (record {
      ns = inside.ns;
      root = inside.root;
      real = inside.real;
      effective = inside.effective;
      saved = inside.saved;
      fs = inside.fs;
      perm = inside.perm;
      inh = inside.inh;
      bound = within-trans (without c.bound n) c.bound box.bound (meet-left c.bound _) inside.bound;
      nnp = inside.nnp;
      noroot = inside.noroot;
      locked = inside.locked;
    }) same
adjusts_leave_in box c d (call.AmbRaise n) tight inside valid same = two-gives (IsIn box) (is_no_cap n) (not (may_raise c n)) Invalid Perm (record c { amb = with c.amb n }) d (other-amb box c (with c.amb n) inside) same
adjusts_leave_in box c d (call.AmbLower n) tight inside valid same = one-gives (IsIn box) (is_no_cap n) Invalid (record c { amb = without c.amb n }) d (other-amb box c (without c.amb n) inside) same
adjusts_leave_in box c d call.AmbClear tight inside valid same = let is : record c { amb = empty } ≡ d = cc in subst (IsIn box) is (other-amb box c empty inside)
adjusts_leave_in box c d (call.Bits n) tight inside valid same =
    capset-gives (IsIn box) (may_set_bits c n) (record c { bits = n }) d (λ may. set-bits box c n tight inside valid may) same
adjusts_leave_in box c d (call.KeepCaps n) tight inside valid same =
    two-gives (IsIn box) (nat_lt 1 n) (is_locked c.bits KeepCaps) Invalid Perm (record c { bits = with_secure_flag c.bits KeepCaps (n == 1) }) d (kept-flag box c (n == 1) inside) same
adjusts_leave_in box c d (call.NoNewPrivs n) tight inside valid same =
    one-gives (IsIn box) (not (n == 1)) Invalid (record c { nnp = true }) d
    (record {
      ns = inside.ns;
      root = inside.root;
      real = inside.real;
      effective = inside.effective;
      saved = inside.saved;
      fs = inside.fs;
      perm = inside.perm;
      inh = inside.inh;
      bound = inside.bound;
      nnp = λ set. refl;
      noroot = inside.noroot;
      locked = inside.locked;
    }) same
