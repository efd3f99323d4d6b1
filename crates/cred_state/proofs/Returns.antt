-- What was lent comes back.
use Rattle.std.proofs.Common.{◌≡◌, ◌≢◌, ◌<◌, ◌==◌, ◌⊎◌, inl, inr, ℕ, Bool, true, false, cond, List, [], ◌∷◌, ◌++◌, length, slice_get, slice_set, get_or, Option}
use Rattle.std.proofs.Common.{None, Some, is_some, refl, sym, ap, ◌∙◌, subst, arith}
use Rattle.std.specs.List.{All}
use Rattle.std.specs.Prelude.{Contains, IsSome}
use Rattle.std.specs.Option.{IfSome, option_map, option_and_then}
use Rattle.std.proofs.lemmas.Bool.{eqb-true, eqb-false}
use Rattle.std.proofs.lemmas.List.{length-set}
use Rattle.std.proofs.lemmas.List.Elements.{All-cons, All-head, All-map, All-nil, All-tail, Contains-append_left, Contains-push}
use Rattle.std.proofs.lemmas.Option.{slice_get_within}
use Rattle.cred_record.specs.Credential.{Credential}
use Rattle.cred_event.specs.declared.event.Event.{Event}
use Rattle.cred_model.specs.State.{State, Prepared, Changed, Numbered, numbered, held_by, prepared_of}
use Rattle.cred_model.specs.Slots.{kept}
use Rattle.cred_model.specs.Moves.{altered_at, with_change, altered}
use Rattle.cred_model.specs.Like.{IsLike}
use Rattle.cred_model.proofs.Lists.{All-unmap, alone, found}
use Rattle.cred_model.proofs.Places.{place-of_found}
use Rattle.cred_model.proofs.Lists as lists
use Rattle.cred_names.specs.Labels.{event_labels}
use Rattle.cred_sound.specs.Sound.{IsSound}
use Rattle.cred_words.specs.Lists.{Has, IsTaken}
use Rattle.cred_hold.specs.Tokens.{Loan, loan, IsAlone}
use Rattle.atomic_table.specs.Seated.{TableId}
use Rattle.cred_work.specs.Decisions.{AreOf, work_event}
use Rattle.cred_work.specs.declared.pending.Pending.{Pending}
use Rattle.cred_work.specs.declared.pending.Pending.TheVariants.{Asking, Opening, Signalling, Altering}
use Rattle.cred_slots.specs.Table.{Table}
use Rattle.cred_tables.specs.Kept.{StateLists, state_of, IsKept}
use Rattle.cred_tables.specs.Out.{AreHome, AreOut, ArePut}
use Rattle.cred_tables.proofs.Returned.{has_taken, taken_has, back_new, back_newer}
use Rattle.cred_tables.proofs.TokensOfLabels.{IsHeld, IsPrepared, base_out, hold_apart, hold_out, kept_alone_by, kept_spare, kept_none, out_has, token_is}
use Rattle.cred_tables.proofs.Puts.{put_back, put_changed, put_held, was_put}
use Rattle.cred_tables.proofs.Stored.{spare_like}
use Rattle.cred_state.specs.TokensOut.{HoldsApart, AreTaken, IsBase, earlier_of, loans_of, hold_loan}
use Rattle.cred_state.proofs.Labelling.{alter_kept}

-- ---- lists

pub all_has : {A : Type 0} (P : A → Type 0) (xs : List A) (x : A) → All P xs → Has xs x → P x
all_has P [] x each has = absurd has
all_has P (y ∷ xs) x each (inl is) = subst P is (All-head P y xs each)
all_has P (y ∷ xs) x each (inr has) = all_has P xs x (All-tail P y xs each) has

pub all_by : {A : Type 0} (P : A → Type 0) (xs : List A) → ((x : A) → Has xs x → P x) → All P xs
all_by P [] each = All-nil P
all_by P (x ∷ xs) each = All-cons P x xs (each x (inl refl)) (all_by P xs (λ y has. each y (inr has)))

not_alone : (out : List Loan) (e : Loan) → Has out e → IsAlone out e.slot → ⊥
not_alone [] e has are = has
not_alone (x ∷ out) e (inl is) are = are.0 (ap (λ (y : Loan). y.slot) is)
not_alone (x ∷ out) e (inr has) are = not_alone out e has are.1

-- ---- a hold

-- nothing that is held stands in a kept slot
pub holds_apart : (s : State) (out : List Loan) → IsSound s → AreOut s out → HoldsApart (kept s) out
holds_apart s out sound are = all_by (λ e. IsSome e.held → All (λ slot. e.slot ≢ slot) (kept s)) out (λ e has. by e has e.held refl)
  where
    by : (e : Loan) → Has out e → (held : Option Credential) → e.held ≡ held → IsSome e.held → All (λ slot. e.slot ≢ slot) (kept s)
    by e has None is some = let none : is_some e.held ≡ false = ap is_some is in cc
    by e has (Some c) is some =
        All-map (λ slot. e.slot ≢ slot) (λ (p : Prepared). p.slot) s.prepared
        (hold_apart s sound out are e.label e.slot c (subst (λ (x : Loan). Has out x) (ap (λ h. loan e.label e.slot h) is) has))

pub apart_taken : (slots : List ℕ) (old : List Loan) (x : Loan) (new : List Loan) → HoldsApart slots old → IsTaken old x new → HoldsApart slots new
apart_taken slots old x new apart taken =
    let P : Loan → Type 0 = λ e. IsSome e.held → All (λ slot. e.slot ≢ slot) slots in
    all_by P new (λ e has. all_has P old e apart (taken_has old x new taken e has))

pub held_put : (s : State) (out new : List Loan) (places : List (Option Credential)) (label slot : ℕ) (c : Credential) → HoldsApart (kept s) out
    → IsTaken out (loan label slot (Some c)) new → ArePut s.prepared out places → ArePut s.prepared new places
held_put s out new places label slot c apart taken are =
    let e = loan label slot (Some c) in
    let P : Loan → Type 0 = λ e. IsSome e.held → All (λ slot. e.slot ≢ slot) (kept s) in
    let far = all_has P out e apart (has_taken out e new taken) refl in
    put_held s.prepared out e new places taken (All-unmap (λ n. slot ≢ n) (λ (p : Prepared). p.slot) s.prepared far) are

-- ---- a writer

pub record IsWritten (s : State) (label slot : ℕ) : Type 0 where
  pub preparation : Prepared
  pub base : Numbered
  pub prepared : prepared_of s label ≡ Some preparation
  pub sealed : numbered s.creds preparation.base ≡ Some base
  pub is : preparation.slot ≡ slot

pub writer_is : (s : State) (out : List Loan) (label slot : ℕ) → AreOut s out → Has out (loan label slot None) → IsWritten s label slot
writer_is s out label slot are has = by (token_is s (loan label slot None) (out_has s out (loan label slot None) are has))
  where
    by : IsHeld s label (loan label slot None) ⊎ IsPrepared s label (loan label slot None) → IsWritten s label slot
    by (inl h) = let gone = ap (λ (x : Loan). x.held) h.is in cc
    by (inr q) = of q.is
      where
        of : (loan label q.preparation.slot None ≡ loan label slot None) ⊎ (loan label q.base.slot (Some q.base.cred) ≡ loan label slot None)
            → IsWritten s label slot
        of (inl at) = record { preparation = q.preparation; base = q.base; prepared = q.prepared; sealed = q.sealed; is = ap (λ (x : Loan). x.slot) at }
        of (inr at) = let gone = ap (λ (x : Loan). x.held) at in cc

module _ (s : State) (sound : IsSound s) (label : ℕ) (p : Prepared) (prepared : prepared_of s label ≡ Some p) where
  named : p.label ≡ label
  named =
      let Any : Prepared → Type 0 = λ r. Unit {0} in
      eqb-true p.label label (found Any (λ (r : Prepared). r.label == label) s.prepared p prepared (λ k d lt. tt)).1

  -- no other has the label
  one_label : All (λ (q : Prepared). q.label ≡ p.label → q ≡ p) s.prepared
  one_label =
      let at = place-of_found (λ (r : Prepared). r.label == label) s.prepared p prepared in
      lists.All-at (λ (x : Prepared). All (λ (y : Prepared). y.label ≡ x.label → y ≡ x) s.prepared) s.prepared at.0 p at.2
      (alone (λ (r : Prepared). r.label) s.prepared sound.prepared)

module _ {parts : StateLists} {store : List (Option Credential)} {t : Table} {out : List Loan} (inv : IsKept parts store t × ArePut parts.prepared out store)
    (sound : IsSound (state_of parts store t)) (are : AreOut (state_of parts store t) out)
    (label slot : ℕ) (new : List Loan) (taken : IsTaken out (loan label slot None) new) where
  abbrev s : State
  s = state_of parts store t

  has : Has out (loan label slot None)
  has = has_taken out (loan label slot None) new taken

  pub written : IsWritten s label slot
  written = writer_is s out label slot are has

  abbrev p : Prepared
  p = written.preparation

  one_slot : All (λ (q : Prepared). q.slot ≡ p.slot → q ≡ p) parts.prepared
  one_slot = kept_alone_by s sound label p written.prepared

  module _ (value : Option Credential) (lt : slot < length store) where
    words_kept : IsKept parts (slice_set store slot value) t
    words_kept =
        subst (λ (n : ℕ). IsKept parts (slice_set store n value) t) written.is (kept_spare inv.0 sound label p written.prepared value)

    words_like : {more : StateLists} → IsKept more store t → IsLike (state_of more (slice_set store slot value) t) (state_of more store t)
    words_like is =
        spare_like store t slot value is
        (λ n at some. kept_none inv.0 sound label p written.prepared n (at ∙ ap Some (sym written.is)) some)

    -- ---- an earlier change is put again

    module _ (again : value ≡ earlier_of s label) where
      earlier_is : value ≡ was_put p
      earlier_is =
          again ∙ ap (λ (o : Option Prepared). option_and_then (λ (q : Prepared). option_map (λ (last : Changed). last.cred) q.changed) o) written.prepared

      pub earlier_kept : IsKept parts (slice_set store slot value) t × ArePut parts.prepared new (slice_set store slot value)
      earlier_kept = (
        words_kept,
        put_back parts.prepared out (loan label slot None) new store value lt taken
            (λ k d within same. earlier_is ∙ ap was_put (sym (one_slot k d within (same ∙ sym written.is)))) inv.1,
      )

      pub earlier_like : IsLike (state_of parts (slice_set store slot value) t) s
      earlier_like = words_like inv.0

    -- ---- a change is made

    module _ (to : Changed) (put : value ≡ Some to.cred) where
      abbrev more : StateLists
      more = record parts { prepared = with_change parts.prepared label to }

      is_changed : (q : Prepared) → (q.slot ≡ p.slot → q ≡ p) → (test : Bool) → (q.label == label) ≡ test
          → (cond test (record q { changed = Some to }) q).slot ≡ slot → value ≡ was_put (cond test (record q { changed = Some to }) q)
      is_changed q one true is same = put
      is_changed q one false is same =
          let here : q ≡ p = one (same ∙ sym written.is) in
          absurd (eqb-false q.label label is (ap (λ (r : Prepared). r.label) here ∙ named s sound label p written.prepared))

      pub changed_kept : IsKept more (slice_set store slot value) t × ArePut more.prepared new (slice_set store slot value)
      changed_kept = (
        alter_kept words_kept label to,
        put_back more.prepared out (loan label slot None) new store value lt taken
            (All-map (λ (q : Prepared). q.slot ≡ slot → value ≡ was_put q) (altered_at label to) parts.prepared
            (λ k d within. is_changed (get_or parts.prepared k d) (one_slot k d within) ((get_or parts.prepared k d).label == label) refl))
            (put_changed parts.prepared label to out store
            (λ k d within own alone.
            not_alone out (loan label slot None) has
            (subst (λ (n : ℕ). IsAlone out n)
            (ap (λ (r : Prepared). r.slot) (one_label s sound label p written.prepared k d within (own ∙ sym (named s sound label p written.prepared)))
            ∙ written.is)
            alone))
            inv.1),
      )

      pub changed_like : IsLike (state_of more (slice_set store slot value) t) (altered s label to)
      changed_like = words_like (alter_kept inv.0 label to)

-- the place that was written is one
pub set_within : {A : Type 0} (xs ys : List A) (n : ℕ) (x : A) → ys ≡ slice_set xs n x → slice_get ys n ≡ Some x → n < length xs
set_within xs ys n x is at =
    let lt = slice_get_within ys n x at in
    let same = ap length is in
    omega (arith, lt, same, length-set xs n x)

-- ---- all that was lent comes back

-- the event names the labels of what is lent for it
pub named_for : (cells : TableId) (lent : Pending) → AreOf cells lent → All (λ e. Contains (event_labels (work_event lent)) e.label) (loans_of lent)
named_for cells (Asking hold query told) of =
    let P : Loan → Type 0 = λ e. Contains (hold.label ∷ []) e.label in
    All-cons P (hold_loan hold) [] (Contains-push [] hold.label) (All-nil P)
named_for cells (Opening hold file want fd may) of =
    let P : Loan → Type 0 = λ e. Contains (hold.label ∷ []) e.label in
    All-cons P (hold_loan hold) [] (Contains-push [] hold.label) (All-nil P)
named_for cells (Signalling from hold to target may) of =
    let P : Loan → Type 0 = λ e. Contains (hold.label ∷ target.label ∷ []) e.label in
    All-cons P (hold_loan target) (hold_loan hold ∷ []) (Contains-push (hold.label ∷ []) target.label)
    (All-cons P (hold_loan hold) [] (Contains-append_left (hold.label ∷ []) (target.label ∷ []) hold.label (Contains-push [] hold.label)) (All-nil P))
named_for cells (Altering base writer change made) (own, its, same) =
    let P : Loan → Type 0 = λ e. Contains (base.label ∷ []) e.label in
    All-cons P (loan writer.label writer.slot None) (hold_loan base ∷ []) (subst (λ n. Contains (base.label ∷ []) n) (sym same) (Contains-push [] base.label))
    (All-cons P (hold_loan base) [] (Contains-push [] base.label) (All-nil P))

-- nothing that is out has one of them
pub fresh : (event : Event) (out : List Loan) (e : Loan) → AreHome event out → Contains (event_labels event) e.label → Has out e → ⊥
fresh event out e home named has = all_has (λ (x : Loan). Contains (event_labels event) x.label → ⊥) out e home has named

pair_back : (event : Event) (y x : Loan) (out mid later new : List Loan) → AreHome event out → All (λ e. Contains (event_labels event) e.label) (y ∷ x ∷ [])
    → IsTaken (y ∷ x ∷ out) y mid → IsTaken mid x later → new ≡ later → new ≡ out
pair_back event y x out mid later new home own first second rest =
    let Named : Loan → Type 0 = λ e. Contains (event_labels event) e.label in
    let one = back_newer y x out mid first (fresh event out y home (All-head Named y (x ∷ []) own)) in
    rest ∙ back_new x out later (subst (λ es. IsTaken es x later) one second) (fresh event out x home (All-head Named x [] (All-tail Named y (x ∷ []) own)))

pub all_back : (cells : TableId) (lent : Pending) (out new : List Loan) → AreOf cells lent → AreHome (work_event lent) out
    → AreTaken (loans_of lent) (loans_of lent ++ out) new → new ≡ out
all_back cells lent out new of home taken = by lent (named_for cells lent of) home taken
  where
    one : (event : Event) (e : Loan) → AreHome event out → All (λ e. Contains (event_labels event) e.label) (e ∷ [])
        → AreTaken (e ∷ []) (e ∷ out) new → new ≡ out
    one event e home own (mid, taken, rest) =
        let Named : Loan → Type 0 = λ e. Contains (event_labels event) e.label in
        rest ∙ back_new e out mid taken (fresh event out e home (All-head Named e [] own))

    two : (event : Event) (y x : Loan) → AreHome event out → All (λ e. Contains (event_labels event) e.label) (y ∷ x ∷ [])
        → AreTaken (y ∷ x ∷ []) (y ∷ x ∷ out) new → new ≡ out
    two event y x home own (mid, first, (later, second, rest)) = pair_back event y x out mid later new home own first second rest

    by : (lent : Pending) → All (λ e. Contains (event_labels (work_event lent)) e.label) (loans_of lent) → AreHome (work_event lent) out
        → AreTaken (loans_of lent) (loans_of lent ++ out) new → new ≡ out
    by (Asking hold query told) own home taken = one (work_event (Asking hold query told)) (hold_loan hold) home own taken
    by (Opening hold file want fd may) own home taken = one (work_event (Opening hold file want fd may)) (hold_loan hold) home own taken
    by (Signalling from hold to target may) own home taken =
        two (work_event (Signalling from hold to target may)) (hold_loan target) (hold_loan hold) home own taken
    by (Altering base writer change made) own home taken =
        two (work_event (Altering base writer change made)) (loan writer.label writer.slot None) (hold_loan base) home own taken

-- ---- what a label has is what is lent under it

pub held_own : (s : State) (out : List Loan) → IsSound s → AreOut s out → (label slot : ℕ) (cred : Credential) → Has out (loan label slot (Some cred))
    → IfSome (held_by s label) (λ held. held.cred ≡ cred)
held_own s out sound are label slot cred has = by (held_by s label) refl
  where
    by : (o : Option Numbered) → held_by s label ≡ o → IfSome o (λ held. held.cred ≡ cred)
    by None at = tt
    by (Some c) at = (hold_out s sound out are label slot c cred at has).1

pub base_own : (s : State) (out : List Loan) → IsSound s → AreOut s out → (label slot : ℕ) (cred : Credential) → Has out (loan label slot (Some cred))
    → IsBase s label cred
base_own s out sound are label slot cred has = by (prepared_of s label) refl
  where
    sealed : (p : Prepared) → prepared_of s label ≡ Some p → (o : Option Numbered) → numbered s.creds p.base ≡ o → IfSome o (λ base. base.cred ≡ cred)
    sealed p at None num = tt
    sealed p at (Some b) num = (base_out s sound out are label slot p b cred at num has).1

    by : (o : Option Prepared) → prepared_of s label ≡ o → IfSome o (λ p. IfSome (numbered s.creds p.base) (λ base. base.cred ≡ cred))
    by None at = tt
    by (Some p) at = sealed p at (numbered s.creds p.base) refl
