-- What is lent for an event is what its labels have.
use Rattle.std.proofs.Common.{◌≡◌, ◌==◌, ◌<◌, ℕ, true, map, length, Option, None, Some, is_some, refl, sym, ap, ◌∙◌, arith}
use Rattle.std.specs.Option.{option_map, option_and_then}
use Rattle.std.proofs.lemmas.List.{length-map}
use Rattle.cred_model.specs.State.{State, Hold, Prepared, Numbered, SealedCred, hold_of, held_by, numbered, prepared_of}
use Rattle.cred_model.proofs.Lists.{found, slice_get_at}
use Rattle.cred_model.proofs.Referred.{EachRef, each_ref}
use Rattle.cred_sound.specs.Sound.{IsSound}

module _ (s : State) (sound : IsSound s) where
  each_sealed : EachRef (λ n. n < length (map (λ (x : SealedCred). x.slot) s.creds)) s
  each_sealed = each_ref (λ n. n < length (map (λ (x : SealedCred). x.slot) s.creds)) s sound.slots.sealed

  there : (n : ℕ) → n < length (map (λ (x : SealedCred). x.slot) s.creds) → numbered s.creds n ≡ None → ⊥
  there n lt none =
      let at = slice_get_at s.creds n (omega (arith, lt, length-map s.creds (λ (x : SealedCred). x.slot))) in
      let some : numbered s.creds n ≡ Some (record { number = n; cred = at.0.cred; slot = at.0.slot })
      = ap (λ (o : Option SealedCred). option_map {U = Numbered} (λ (x : SealedCred). record { number = n; cred = x.cred; slot = x.slot }) o) at.1 in
      let both : Some (record { number = n; cred = at.0.cred; slot = at.0.slot }) ≡ None = sym some ∙ none in
      cc

  -- where nothing is found by the label, the label isn't there
  pub no_hold : (label : ℕ) → held_by s label ≡ None → hold_of s label ≡ None
  no_hold label none = by (hold_of s label) refl none
    where
      by : (o : Option Hold) → hold_of s label ≡ o → option_and_then (λ (h : Hold). numbered s.creds h.number) o ≡ None → o ≡ None
      by None at none = refl
      by (Some h) at none =
          absurd
          (there h.number
          (found (λ (x : Hold). x.number < length (map (λ (y : SealedCred). y.slot) s.creds)) (λ (x : Hold). x.label == label) s.holds h at each_sealed.holds).0
          none)

  pub no_base : (label : ℕ) → option_and_then (λ (p : Prepared). numbered s.creds p.base) (prepared_of s label) ≡ None → prepared_of s label ≡ None
  no_base label none = by (prepared_of s label) refl none
    where
      by : (o : Option Prepared) → prepared_of s label ≡ o → option_and_then (λ (p : Prepared). numbered s.creds p.base) o ≡ None → o ≡ None
      by None at none = refl
      by (Some p) at none =
          absurd
          (there p.base
          (found (λ (x : Prepared). x.base < length (map (λ (y : SealedCred). y.slot) s.creds)) (λ (x : Prepared). x.label == label) s.prepared
          p at each_sealed.bases).0
          none)

-- where something is found by the label, it is there
pub some_hold : (s : State) (label : ℕ) (c : Numbered) → held_by s label ≡ Some c → is_some (hold_of s label) ≡ true
some_hold s label c is = by (hold_of s label) is
  where
    by : (o : Option Hold) → option_and_then (λ (h : Hold). numbered s.creds h.number) o ≡ Some c → is_some o ≡ true
    by None is = cc
    by (Some h) is = refl
