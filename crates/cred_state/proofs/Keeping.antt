-- In the words of a slot that a label keeps, on which nothing is lent, stands what was prepared.
use Rattle.std.proofs.Common.{◌≡◌, ◌≢◌, ◌==◌, ℕ, List, [], position, slice_get, Option, Some, sym, ap, ◌∙◌, subst}
use Rattle.std.specs.Prelude.{Contains}
use Rattle.std.specs.Option.{option_map}
use Rattle.std.proofs.lemmas.List.Elements.{All-weaker, Contains-push}
use Rattle.cred_record.specs.Credential.{Credential}
use Rattle.cred_event.specs.declared.event.Event.{Event}
use Rattle.cred_event.specs.declared.event.Event.TheVariants.{Commit, Override}
use Rattle.cred_model.specs.State.{State, Prepared, Changed}
use Rattle.cred_model.proofs.Lists.{All-at}
use Rattle.cred_model.proofs.Places.{find-at}
use Rattle.cred_names.specs.Labels.{event_labels}
use Rattle.cred_sound.specs.Sound.{IsSound}
use Rattle.cred_hold.specs.Tokens.{Loan, IsAlone}
use Rattle.cred_slots.specs.Table.{Table}
use Rattle.cred_tables.specs.Kept.{StateLists, state_of, IsKept}
use Rattle.cred_tables.specs.Out.{AreHome, AreOut, ArePut}
use Rattle.cred_tables.proofs.TokensOfLabels.{kept_alone}
use Rattle.cred_tables.proofs.Puts.{was_put}
use Rattle.cred_state.specs.TokensOut.{IsHome}

-- nothing is lent under a label that an event names
pub home_is : (event : Event) (label : ℕ) (out : List Loan) → AreHome event out → Contains (event_labels event) label → IsHome label out
home_is event label out home named =
    All-weaker (λ (e : Loan). Contains (event_labels event) e.label → ⊥) (λ e. e.label ≢ label)
    (λ e away same. away (subst (λ n. Contains (event_labels event) n) (sym same) named)) out home

module _ {parts : StateLists} {store : List (Option Credential)} {t : Table} (out : List Loan) (inv : IsKept parts store t × ArePut parts.prepared out store) where
  abbrev s : State
  s = state_of parts store t

  words_of : (label place : ℕ) (p : Prepared) → position (λ q. q.label == label) parts.prepared ≡ Some place → slice_get parts.prepared place ≡ Some p
      → (last : Changed) → p.changed ≡ Some last → IsSound s → AreOut s out → IsHome label out → slice_get store p.slot ≡ Some (Some last.cred)
  words_of label place p at there last changed sound are home =
      let found = find-at (λ (q : Prepared). q.label == label) parts.prepared place p at there in
      let alone = kept_alone s sound label p found out are home in
      All-at (λ q. IsAlone out q.slot → slice_get store q.slot ≡ Some (was_put q)) parts.prepared place p there inv.1 alone
      ∙ ap (λ (o : Option Changed). Some (option_map (λ (x : Changed). x.cred) o)) changed

  pub committed_words : (label place : ℕ) (p : Prepared) → position (λ q. q.label == label) parts.prepared ≡ Some place
      → slice_get parts.prepared place ≡ Some p
      → (last : Changed) → p.changed ≡ Some last → IsSound s → AreOut s out → AreHome (Commit label) out → slice_get store p.slot ≡ Some (Some last.cred)
  committed_words label place p at there last changed sound are home =
      words_of label place p at there last changed sound are (home_is (Commit label) label out home (Contains-push [] label))

  pub overridden_words : (task label place : ℕ) (p : Prepared) → position (λ q. q.label == label) parts.prepared ≡ Some place
      → slice_get parts.prepared place ≡ Some p
      → (last : Changed) → p.changed ≡ Some last → IsSound s → AreOut s out → AreHome (Override task label) out → slice_get store p.slot ≡ Some (Some last.cred)
  overridden_words task label place p at there last changed sound are home =
      words_of label place p at there last changed sound are (home_is (Override task label) label out home (Contains-push [] label))
