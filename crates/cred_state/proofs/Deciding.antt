-- An event is decided on what is lent for it in the same call.
use Rattle.std.proofs.Common.{◌≡◌, ◌≢◌, ◌==◌, ◌⊎◌, inl, inr, ℕ, List, [], ◌∷◌, ◌++◌, map, slice_get, slice_set, Bool, Option, None, Some, Result, Ok, Err, refl}
use Rattle.std.proofs.Common.{sym, ap, ◌∙◌, subst}
use Rattle.std.specs.List.{All}
use Rattle.std.specs.Prelude.{Contains}
use Rattle.std.specs.Option.{IfSome, option_and_then, option_map}
use Rattle.std.proofs.lemmas.List.Elements.{All-append, All-head, All-nil}
use Rattle.atomic_table.specs.Seated.{TableId}
use Rattle.cred_record.specs.Credential.{Credential}
use Rattle.cred_event.specs.declared.answer.Answer.{Answer}
use Rattle.cred_event.specs.declared.event.Change.{Change}
use Rattle.cred_event.specs.declared.event.Change.TheVariants as change
use Rattle.cred_model.specs.Change.{Made}
use Rattle.cred_event.specs.declared.event.Event.{Event}
use Rattle.cred_event.specs.declared.event.Event.TheVariants.{Ask, Signal, Alter, OpenFile}
use Rattle.cred_model.specs.Script.{Script, chain_of}
use Rattle.cred_model.specs.State.{State, Prepared, Changed, Numbered, SealedCred, numbered, prepared_of}
use Rattle.cred_model.specs.Like.{IsLike}
use Rattle.cred_model.proofs.Lists.{All-at}
use Rattle.cred_model.proofs.Places.{if_some, place-of_found}
use Rattle.cred_names.specs.Labels.{event_labels}
use Rattle.cred_sound.specs.SlotUse.{slot_use}
use Rattle.cred_sound.specs.Sound.{IsSound}
use Rattle.cred_sound.proofs.Sound.{like_sound}
use Rattle.cred_words.specs.Lists.{Has, IsTaken}
use Rattle.cred_hold.specs.Tokens.{Loan, Held, Written, loan, IsAlone}
use Rattle.cred_work.specs.Decisions.{work_event, put_by}
use Rattle.cred_work.specs.declared.pending.Pending.{Pending}
use Rattle.cred_work.specs.declared.pending.Pending.TheVariants.{Asking, Opening, Signalling, Altering}
use Rattle.cred_tables.specs.Kept.{Standing, creds_in}
use Rattle.cred_tables.specs.Out.{AreHome, AreOut, cleared, hold_token, kept_tokens, tokens_in}
use Rattle.cred_tables.proofs.Returned.{back_new, has_taken, set_again}
use Rattle.cred_tables.proofs.TokensOfLabels.{IsToken, has_first, has_last, has_out, held_token, kept_alone, kept_token, out_like}
use Rattle.cred_tables.proofs.Puts.{was_put}
use Rattle.cred_tables.proofs.Stored.{slots-creds_in}
use Rattle.cred_state.specs.TokensOut.{AreTaken, IsChainOf, IsKeptBy, IsNs, earlier_of, loans_of, hold_loan, with_hold, with_kept, with_lent}
use Rattle.cred_state.proofs.Asking.{WereLent}
use Rattle.cred_state.proofs.Keeping.{home_is}
use Rattle.cred_state.proofs.TokensOut.{like_lent}
use Rattle.cred_state.proofs.Returns.{all_back, fresh, named_for, writer_is}

-- ---- the tokens of an event are out

hold_in : (s : State) (label : ℕ) (e : Loan) → Has (hold_token s label) e → IsToken s e
hold_in s label e has =
    let h = held_token s label e has in
    subst (λ n. Has (hold_token s n ++ kept_tokens s n) e) (ap (λ (x : Loan). x.label) h.is) (has_first (hold_token s label) (kept_tokens s label) e has)

kept_in : (s : State) (label : ℕ) (e : Loan) → Has (kept_tokens s label) e → IsToken s e
kept_in s label e has = by (kept_token s label e has).is
  where
    to : label ≡ e.label → IsToken s e
    to same = subst (λ n. Has (hold_token s n ++ kept_tokens s n) e) same (has_last (hold_token s label) (kept_tokens s label) e has)

    by : {slot place : ℕ} {c : Credential} → (loan label slot None ≡ e) ⊎ (loan label place (Some c) ≡ e) → IsToken s e
    by (inl is) = to (ap (λ (x : Loan). x.label) is)
    by (inr is) = to (ap (λ (x : Loan). x.label) is)

pub tokens_out : (s : State) (event : Event) → AreOut s (tokens_in s event)
tokens_out s (Ask label query) = has_out s (hold_token s label) (hold_in s label)
tokens_out s (OpenFile label file want fd) = has_out s (hold_token s label) (hold_in s label)
tokens_out s (Signal from label to target) =
    All-append (λ e. IsToken s e) (hold_token s target) (hold_token s label)
    (has_out s (hold_token s target) (hold_in s target)) (has_out s (hold_token s label) (hold_in s label))
tokens_out s (Alter label ch) = has_out s (kept_tokens s label) (kept_in s label)
tokens_out s event = All-nil (λ e. IsToken s e)

-- ---- while tokens are lent

pub lent_words : (before : Standing) (lent : Pending) → (with_lent before lent).words ≡ record before.words { out = loans_of lent ++ before.words.out }
lent_words before (Asking hold query told) = refl
lent_words before (Opening hold file want fd may) = refl
lent_words before (Signalling from hold to target may) = refl
lent_words before (Altering base writer change made) = refl

pub lent_out : (before : Standing) (lent : Pending) → (with_lent before lent).words.out ≡ loans_of lent ++ before.words.out
lent_out before lent = ap (λ w. w.out) (lent_words before lent)

module _ {before : Standing} {lent : Pending} (were : WereLent before lent) where
  abbrev now : Standing
  now = with_lent before lent

  pub lent_like : IsLike now.state before.state
  lent_like = like_lent before lent were.sound were.tokens

  pub lent_sound : IsSound now.state
  lent_sound = like_sound now.state before.state lent_like were.sound

  pub lent_are : AreOut now.state now.words.out
  lent_are =
      let own : AreOut before.state (loans_of lent) = subst (λ es. AreOut before.state es) (sym were.tokens) (tokens_out before.state (work_event lent)) in
      out_like now.state before.state lent_like now.words.out
      (subst (λ es. AreOut before.state es) (sym (lent_out before lent))
      (All-append (λ e. IsToken before.state e) (loans_of lent) before.words.out own were.out))

  -- all comes back
  pub lent_back : (new : List Loan) → AreTaken (loans_of lent) now.words.out new → new ≡ before.words.out
  lent_back new taken =
      all_back were.cells lent before.words.out new were.of were.home
      (subst (λ es. AreTaken (loans_of lent) es new) (lent_out before lent) taken)

-- ---- a writer that was used

pub put_label : (made : Result Made Answer) (writer : Written) → (put_by made writer).label ≡ writer.label
put_label (Ok made) writer = refl
put_label (Err answer) writer = refl

pub put_slot : (made : Result Made Answer) (writer : Written) → (put_by made writer).slot ≡ writer.slot
put_slot (Ok made) writer = refl
put_slot (Err answer) writer = refl

-- ---- the root ids that a change is decided by

pub chain_is : (cells : TableId) (script : Script) (s : State) (label : ℕ) (ch : Change) (base : Held) (writer : Written) (ns : ℕ)
    → IsKeptBy cells s label base writer → IsNs s (Alter label ch) ns → IsChainOf script ch base.cred.ns (chain_of script ns)
chain_is cells script s label (change.SetFs kind id) base writer ns kept right = tt
chain_is cells script s label (change.Adjust call) base writer ns kept right = tt
chain_is cells script s label (change.Exec file) base writer ns kept right =
    let of = if_some (λ (p : Prepared). IfSome (numbered s.creds p.base) (λ c. ns ≡ c.cred.ns)) (prepared_of s label) kept.preparation kept.prepared right in
    let found = if_some (λ (c : Numbered). ns ≡ c.cred.ns) (numbered s.creds kept.preparation.base) kept.found kept.sealed of in
    ap (chain_of script) (found ∙ sym (ap (λ (h : Held). h.cred.ns) kept.base_is))
chain_is cells script s label change.Access base writer ns kept right = tt

-- ---- a writer comes back with nothing put

-- what the words of the slot are again
module _ (before : Standing) (base : Held) (writer : Written) (ch : Change) (made : Option (Result Made Answer))
    (were : WereLent before (Altering base writer ch made)) (label : ℕ) (for : writer.label ≡ label)
    (p : Prepared) (prepared : prepared_of before.state label ≡ Some p) (slot : p.slot ≡ writer.slot) where
  home : All (λ (e : Loan). e.label ≢ label) before.words.out
  home =
      let event = work_event (Altering base writer ch made) in
      let own = named_for were.cells (Altering base writer ch made) were.of in
      let P : Loan → Type 0 = λ e. Contains (event_labels event) e.label in
      home_is event label before.words.out were.home
      (subst (λ n. Contains (event_labels event) n) for
      (All-head P (loan writer.label writer.slot None) (loan base.label base.slot (Some base.cred) ∷ []) own))

  was_there : slice_get before.places writer.slot ≡ Some (was_put p)
  was_there =
      let alone = kept_alone before.state were.sound label p prepared before.words.out were.out home in
      let at = place-of_found (λ (q : Prepared). q.label == label) before.state.prepared p prepared in
      subst (λ n. slice_get before.places n ≡ Some (was_put p)) slot
      (All-at (λ (q : Prepared). IsAlone before.words.out q.slot → slice_get before.places q.slot ≡ Some (was_put q)) before.state.prepared at.0 p at.2 were.put
      alone)

  earlier_was : earlier_of before.state label ≡ was_put p
  earlier_was = ap (λ (o : Option Prepared). option_and_then (λ (q : Prepared). option_map (λ (last : Changed). last.cred) q.changed) o) prepared

  pub places_again : (places : List (Option Credential)) → places ≡ slice_set (with_kept before base writer).places writer.slot (earlier_of before.state label)
      → places ≡ before.places
  places_again places is =
      is ∙ ap (λ o. slice_set (slice_set before.places writer.slot None) writer.slot o) earlier_was
      ∙ set_again before.places writer.slot None (was_put p) was_there

  slots_again : map (λ (x : SealedCred). x.slot) (cleared writer.slot before.state.creds) ≡ were.slots
  slots_again =
      (lent_like were).slots
      ∙ ap (λ (cs : List SealedCred). map (λ (x : SealedCred). x.slot) cs) were.creds
      ∙ slots-creds_in before.places were.slots

  pub creds_again : (places : List (Option Credential)) → places ≡ before.places
      → creds_in places (slot_use (with_kept before base writer).state).slots ≡ before.state.creds
  creds_again places same =
      (λ k. creds_in (same k) (slots_again k)) ∙ sym were.creds

-- ---- what comes back at once

standing_is : {a b : Standing} → a.state ≡ b.state → a.words.id ≡ b.words.id → a.words.out ≡ b.words.out → a.places ≡ b.places → a ≡ b
standing_is state id out places = λ k. record { state = state k; words = record { id = id k; out = out k }; places = places k }

module _ (before old mid new : Standing) where
  pub back_one : (hold : Held) (event : Event) → AreHome event before.words.out → Contains (event_labels event) hold.label
      → old ≡ with_hold before hold
      → new.state ≡ old.state → new.places ≡ old.places → new.words.id ≡ old.words.id
      → IsTaken old.words.out (hold_loan hold) new.words.out → new ≡ before
  back_one hold event home named is state places id taken =
      let on : IsTaken (hold_loan hold ∷ before.words.out) (hold_loan hold) new.words.out
      = subst (λ (x : Standing). IsTaken x.words.out (hold_loan hold) new.words.out) is taken in
      standing_is (state ∙ ap (λ (x : Standing). x.state) is) (id ∙ ap (λ (x : Standing). x.words.id) is)
      (back_new (hold_loan hold) before.words.out new.words.out on (fresh event before.words.out (hold_loan hold) home named))
      (places ∙ ap (λ (x : Standing). x.places) is)

  pub back_two : (from to : ℕ) (hold target : Held) (may : Option Bool) → WereLent before (Signalling from hold to target may)
      → old ≡ with_lent before (Signalling from hold to target may)
      → mid.state ≡ old.state → mid.places ≡ old.places → mid.words.id ≡ old.words.id
      → IsTaken old.words.out (hold_loan target) mid.words.out
      → new.state ≡ mid.state → new.places ≡ mid.places → new.words.id ≡ mid.words.id
      → IsTaken mid.words.out (hold_loan hold) new.words.out → new ≡ before
  back_two from to hold target may were is state places id taken state' places' id' taken' =
      let lent : Pending = Signalling from hold to target may in
      let on : AreTaken (loans_of lent) (with_lent before lent).words.out new.words.out
      = subst (λ (x : Standing). AreTaken (loans_of lent) x.words.out new.words.out) is (mid.words.out, taken, (new.words.out, taken', refl)) in
      standing_is (state' ∙ state ∙ ap (λ (x : Standing). x.state) is) (id' ∙ id ∙ ap (λ (x : Standing). x.words.id) is) (lent_back were new.words.out on)
      (places' ∙ places ∙ ap (λ (x : Standing). x.places) is)

  pub back_kept : (base : Held) (writer : Written) (ch : Change) (made : Option (Result Made Answer)) → writer.label ≡ base.label
      → WereLent before (Altering base writer ch made) → old ≡ with_kept before base writer
      → AreOut old.state old.words.out
      → mid.state ≡ record old.state { creds = creds_in mid.places (slot_use old.state).slots }
      → mid.places ≡ slice_set old.places writer.slot (earlier_of old.state base.label) → mid.words.id ≡ old.words.id
      → IsTaken old.words.out (loan writer.label writer.slot None) mid.words.out
      → new.state ≡ mid.state → new.places ≡ mid.places → new.words.id ≡ mid.words.id
      → IsTaken mid.words.out (hold_loan base) new.words.out → new ≡ before
  back_kept base writer ch done for were is are state places id taken state' places' id' taken' =
      let label = base.label in
      let lent = with_kept before base writer in
      let on : AreTaken (loans_of (Altering base writer ch done)) lent.words.out new.words.out
      = subst (λ (x : Standing). AreTaken (loans_of (Altering base writer ch done)) x.words.out new.words.out) is
      (mid.words.out, taken, (new.words.out, taken', refl)) in
      let has : Has lent.words.out (loan label writer.slot None)
      = subst (λ (x : Standing). Has x.words.out (loan label writer.slot None)) is
      (subst (λ n. Has old.words.out (loan n writer.slot None)) for (has_taken old.words.out _ mid.words.out taken)) in
      let w = writer_is lent.state lent.words.out label writer.slot (subst (λ (x : Standing). AreOut x.state x.words.out) is are) has in
      let again : mid.places ≡ before.places
      = places_again before base writer ch done were label for w.preparation w.prepared w.is mid.places
      (places ∙ ap (λ (x : Standing). slice_set x.places writer.slot (earlier_of x.state label)) is) in
      let creds : creds_in mid.places (slot_use lent.state).slots ≡ before.state.creds
      = creds_again before base writer ch done were label for w.preparation w.prepared w.is mid.places again in
      let made : mid.state ≡ before.state
      = state ∙ ap (λ (x : Standing). record x.state { creds = creds_in mid.places (slot_use x.state).slots }) is
      ∙ ap (λ (cs : List SealedCred). record before.state { creds = cs }) creds in
      standing_is (state' ∙ made) (id' ∙ id ∙ ap (λ (x : Standing). x.words.id) is) (lent_back were new.words.out on) (places' ∙ again)
