-- What bounds of sets and tests of two give.
use Rattle.std.proofs.Common.{◌≡◌, ◌⊎◌, inl, inr, ℕ, ◌&&◌, ◌||◌, not, Bool, true, false, Ok, Err, if◌then◌else◌, refl, sym, ap, subst, ◌∙◌}
use Rattle.std.proofs.lemmas.Bool.{eqb-true}
use Rattle.cred_caps.specs.Caps.{Caps, has, IsWithin}
use Rattle.cred_caps.specs.Caps.{meet, is_within}
use Rattle.cred_caps.proofs.SetLaws.{within-members, has-meet, has-empty}
use Rattle.cred_caps.specs.Caps.{empty}
use Rattle.cred_record.specs.declared.refusal.Denial.TheVariants.{Perm}
use Rattle.cred_record.specs.Credential.{Credential}

-- what isn't in the larger set isn't in the smaller one
pub has-not : (a b : Caps) (n : ℕ) → IsWithin a b → has b n ≡ false → has a n ≡ false
has-not a b n within none =
    elim (has a n) as (λ v. has a n ≡ v → v ≡ false) [
      | true ↦ λ is. let both : has b n ≡ true = (within-members a b).0 within n is in cc
      | false ↦ λ is. refl
    ] refl

pub within-from : (a b : Caps) → is_within a b ≡ true → IsWithin a b
within-from a b test = eqb-true (meet a b) a test

pub or-cases : (a b : Bool) → (a || b) ≡ true → (a ≡ true) ⊎ (b ≡ true)
or-cases true b is = inl refl
or-cases false b is = inr is

pub and-both : (a b : Bool) → (a && b) ≡ true → (a ≡ true) × (b ≡ true)
and-both true b both = (refl, both)
and-both false b both = cc

pub not-true : (b : Bool) → not b ≡ true → b ≡ false
not-true true is = cc
not-true false is = refl

pub or-false : (b : Bool) → (b || false) ≡ true → b ≡ true
or-false true is = refl
or-false false is = cc

pub none-in : (b : Caps) → IsWithin empty b
none-in b = (within-members empty b).1 (λ n member. let no : false ≡ true = sym (has-empty n) ∙ member in cc)

pub meet-swap : (a b x : Caps) → IsWithin a b → IsWithin (meet a x) (meet x b)
meet-swap a b x within =
    (within-members (meet a x) (meet x b)).1
    (λ n member.
    let two = and-both _ _ (sym (has-meet a x n) ∙ member) in
    has-meet x b n ∙ ap (λ v. v && has b n) two.1 ∙ (within-members a b).0 within n two.0)

pub meet-keep : (a b x : Caps) → IsWithin a b → IsWithin (meet x a) (meet x b)
meet-keep a b x within =
    (within-members (meet x a) (meet x b)).1
    (λ n member.
    let two = and-both _ _ (sym (has-meet x a n) ∙ member) in
    has-meet x b n ∙ ap (λ v. v && has b n) two.0 ∙ (within-members a b).0 within n two.1)

-- a call that is made where it may be
pub capset-gives : (P : Credential → Type 0) (may : Bool) (new d : Credential) → (may ≡ true → P new)
    → (if not may then Err Perm else Ok new) ≡ Ok d → P d
capset-gives P true new d holds same = let is : new ≡ d = cc in subst P is (holds refl)
capset-gives P false new d holds same = cc
