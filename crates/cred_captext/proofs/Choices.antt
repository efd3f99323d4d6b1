-- Which way a test went, by what came of it.
use Rattle.std.proofs.Common.{◌≡◌, ◌⊎◌, inl, inr, Bool, true, false, Some, None, cond, refl}
use Rattle.std.specs.declared.option.Option.{Option}
use Rattle.std.specs.Option.{option_or, option_map, option_and_then}

pub chosen : {A : Type 0} (test : Bool) (x y z : A) → cond test x y ≡ z
    → ((test ≡ true) × (x ≡ z)) ⊎ ((test ≡ false) × (y ≡ z))
chosen true x y z is = inl (refl, is)
chosen false x y z is = inr (refl, is)

pub either : {A : Type 0} (o p : Option A) (x : A) → option_or o p ≡ Some x
    → (o ≡ Some x) ⊎ (p ≡ Some x)
either None p x is = inr is
either (Some y) p x is = inl is

-- what a mapped value comes from
pub record Mapped {A B : Type 0} (f : A → B) (o : Option A) (y : B) : Type 0 where
  pub value : A
  pub was : o ≡ Some value
  pub is : f value ≡ y

pub mapped : {A B : Type 0} (f : A → B) (o : Option A) (y : B) → option_map f o ≡ Some y
    → Mapped f o y
mapped f None y is = cc
mapped f (Some x) y is = record { value = x; was = refl; is = cc }

-- what a value that was bound comes from
pub record Bound {A B : Type 0} (f : A → Option B) (o : Option A) (y : B) : Type 0 where
  pub value : A
  pub was : o ≡ Some value
  pub is : f value ≡ Some y

pub bound : {A B : Type 0} (f : A → Option B) (o : Option A) (y : B)
    → option_and_then f o ≡ Some y → Bound f o y
bound f None y is = cc
bound f (Some x) y is = record { value = x; was = refl; is = is }
