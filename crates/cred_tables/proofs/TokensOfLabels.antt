-- What is lent under a label: the credential that the label holds, or the slot that it keeps and the base of what it prepares.
use Rattle.std.proofs.Common.{◌≡◌, ◌≢◌, ℕ, zero, suc, ◌<◌, ◌==◌, ◌&&◌, Bool, true, false, cond, List, [], ◌∷◌, ◌++◌, find, map, Option, None, Some, is_some}
use Rattle.std.proofs.Common.{slice_get, slice_set, get_or, ◌⊎◌, inl, inr, refl, sym, ap, ◌∙◌, subst, arith}
use Rattle.std.specs.List.{All}
use Rattle.std.specs.Option.{option_map, option_map_or, option_and_then}
use Rattle.std.proofs.lemmas.Bool.{false≢true, eqb-true, ne_eqb}
use Rattle.std.proofs.lemmas.List.Elements.{All-append, All-nil, All-head, All-tail, All-cons}
use Rattle.std.proofs.lemmas.Option.{slice_get-get_or, slice_get-map, same_Some}
use Rattle.cred_record.specs.Credential.{Credential}
use Rattle.cred_event.specs.declared.event.Event.{Event}
use Rattle.cred_event.specs.declared.event.Event.TheVariants.{Ask, Signal, Alter, OpenFile}
use Rattle.cred_model.specs.State.{State, Hold, Prepared, Numbered, SealedCred, numbered, hold_of, prepared_of, held_by, no_credential}
use Rattle.cred_model.specs.Slots.{in_use, refs, swept}
use Rattle.cred_model.specs.Like.{IsLike}
use Rattle.cred_model.proofs.Lists.{found, All-at, All-unmap, AllPairs-unmap, alone, map_same}
use Rattle.cred_model.proofs.LikeReads.{same_numbered, same_held}
use Rattle.cred_model.proofs.Numbers.{numbered_is}
use Rattle.cred_model.proofs.Places.{place-of_found}
use Rattle.cred_model.proofs.Referred.{EachRef, each_ref}
use Rattle.cred_sound.specs.SlotUse.{IsClear}
use Rattle.cred_sound.specs.Sound.{IsSound}
use Rattle.cred_words.specs.Lists.{Has}
use Rattle.cred_hold.specs.Tokens.{Loan, loan, IsAlone}
use Rattle.cred_slots.specs.Table.{Table, is_kept_in, references_to}
use Rattle.cred_slots.specs.Table as table
use Rattle.cred_slots.proofs.Tables.{held_is_referred}
use Rattle.cred_slots.proofs.Counting.{count-append}
use Rattle.cred_tables.specs.Kept.{StateLists, state_of, creds_in, IsKept, IsInUse}
use Rattle.cred_tables.specs.Out.{AreOut, cleared, hold_token, kept_tokens, tokens_in, needs_tokens}
use Rattle.cred_tables.proofs.Bags.{bag-at, count-at}
use Rattle.cred_tables.proofs.Cleared.{count_found, filled_spare, free_clear}
use Rattle.cred_tables.proofs.Keeps.{free-not_kept, among-at}
use Rattle.cred_tables.proofs.Stored.{slots-creds_in}

-- the entry is that of a token of its label
abbrev pub IsToken : State → Loan → Type 0
IsToken s e = Has (hold_token s e.label ++ kept_tokens s e.label) e

-- an entry that is lent is one
pub out_has : (s : State) (out : List Loan) (e : Loan) → AreOut s out → Has out e → IsToken s e
out_has s [] e each has = absurd has
out_has s (x ∷ out) e each (inl is) = subst (λ x. IsToken s x) is (All-head (λ x. IsToken s x) x out each)
out_has s (x ∷ out) e each (inr has) = out_has s out e (All-tail (λ x. IsToken s x) x out each) has

-- and nothing is lent but such
pub has_out : (s : State) (out : List Loan) → ((e : Loan) → Has out e → IsToken s e) → AreOut s out
has_out s [] each = All-nil (λ x. IsToken s x)
has_out s (x ∷ out) each =
    All-cons (λ x. IsToken s x) x out (each x (inl refl)) (has_out s out (λ e has. each e (inr has)))

has_either : {A : Type 0} (xs ys : List A) (x : A) → Has (xs ++ ys) x → Has xs x ⊎ Has ys x
has_either [] ys x has = inr has
has_either (y ∷ xs) ys x (inl is) = inl (inl is)
has_either (y ∷ xs) ys x (inr has) = by (has_either xs ys x has)
  where
    by : Has xs x ⊎ Has ys x → Has (y ∷ xs) x ⊎ Has ys x
    by (inl there) = inl (inr there)
    by (inr there) = inr there

pub has_first : {A : Type 0} (xs ys : List A) (x : A) → Has xs x → Has (xs ++ ys) x
has_first [] ys x has = absurd has
has_first (y ∷ xs) ys x (inl is) = inl is
has_first (y ∷ xs) ys x (inr has) = inr (has_first xs ys x has)

pub has_last : {A : Type 0} (xs ys : List A) (x : A) → Has ys x → Has (xs ++ ys) x
has_last [] ys x has = has
has_last (y ∷ xs) ys x has = inr (has_last xs ys x has)

-- ---- what a token is

-- the token of a hold
pub record IsHeld (s : State) (label : ℕ) (e : Loan) : Type 0 where
  pub credential : Numbered
  pub held : held_by s label ≡ Some credential
  pub is : loan label credential.slot (Some credential.cred) ≡ e

-- one of the two of what is prepared
pub record IsPrepared (s : State) (label : ℕ) (e : Loan) : Type 0 where
  pub preparation : Prepared
  pub base : Numbered
  pub prepared : prepared_of s label ≡ Some preparation
  pub sealed : numbered s.creds preparation.base ≡ Some base
  pub is : (loan label preparation.slot None ≡ e) ⊎ (loan label base.slot (Some base.cred) ≡ e)

module _ (s : State) (label : ℕ) where
  abbrev of_held : Option Numbered → List Loan
  of_held o = option_map_or (λ (held : Numbered). loan label held.slot (Some held.cred) ∷ []) o []

  abbrev of_base : Prepared → Option Numbered → List Loan
  of_base p o =
      option_map_or (λ (base : Numbered). loan label p.slot None ∷ loan label base.slot (Some base.cred) ∷ []) o []

  abbrev of_prepared : List SealedCred → Option Prepared → List Loan
  of_prepared creds o = option_map_or (λ (p : Prepared). of_base p (numbered creds p.base)) o []

  pub hold_token_is : (c : Numbered) → held_by s label ≡ Some c → hold_token s label ≡ loan label c.slot (Some c.cred) ∷ []
  hold_token_is c is = ap (λ o. of_held o) is

  pub no_hold_token : held_by s label ≡ None → hold_token s label ≡ []
  no_hold_token is = ap (λ o. of_held o) is

  pub kept_tokens_are : (p : Prepared) (base : Numbered) → prepared_of s label ≡ Some p → numbered s.creds p.base ≡ Some base
      → kept_tokens s label ≡ loan label p.slot None ∷ loan label base.slot (Some base.cred) ∷ []
  kept_tokens_are p base is sealed = ap (λ o. of_prepared s.creds o) is ∙ ap (λ o. of_base p o) sealed

  pub no_kept_tokens : prepared_of s label ≡ None → kept_tokens s label ≡ []
  no_kept_tokens is = ap (λ o. of_prepared s.creds o) is

  pub held_token : (e : Loan) → Has (hold_token s label) e → IsHeld s label e
  held_token e has = by (held_by s label) refl has
    where
      by : (o : Option Numbered) → held_by s label ≡ o → Has (of_held o) e → IsHeld s label e
      by None at has = absurd has
      by (Some c) at (inl is) = record { credential = c; held = at; is = is }
      by (Some c) at (inr gone) = absurd gone

  pub kept_token : (e : Loan) → Has (kept_tokens s label) e → IsPrepared s label e
  kept_token e has = by (prepared_of s label) refl has
    where
      of : (p : Prepared) → prepared_of s label ≡ Some p → (o : Option Numbered) → numbered s.creds p.base ≡ o → Has (of_base p o) e → IsPrepared s label e
      of p at None sealed has = absurd has
      of p at (Some base) sealed (inl is) =
          record { preparation = p; base = base; prepared = at; sealed = sealed; is = inl is }
      of p at (Some base) sealed (inr (inl is)) =
          record { preparation = p; base = base; prepared = at; sealed = sealed; is = inr is }
      of p at (Some base) sealed (inr (inr gone)) = absurd gone

      by : (o : Option Prepared) → prepared_of s label ≡ o → Has (of_prepared s.creds o) e → IsPrepared s label e
      by None at has = absurd has
      by (Some p) at has = of p at (numbered s.creds p.base) refl has

pub token_is : (s : State) (e : Loan) → IsToken s e → IsHeld s e.label e ⊎ IsPrepared s e.label e
token_is s e has = by (has_either (hold_token s e.label) (kept_tokens s e.label) e has)
  where
    by : Has (hold_token s e.label) e ⊎ Has (kept_tokens s e.label) e → IsHeld s e.label e ⊎ IsPrepared s e.label e
    by (inl has) = inl (held_token s e.label e has)
    by (inr has) = inr (kept_token s e.label e has)

-- ---- a state that is like another

module _ (a b : State) (like : IsLike a b) where
  abbrev over : State
  over = record a { creds = b.creds }

  like_over : IsLike a over
  like_over = record {
    tasks = refl;
    broadcasts = refl;
    files = refl;
    holds = refl;
    prepared = refl;
    deferred = refl;
    dumpable = refl;
    inodes = refl;
    slots = like.slots;
    creds = like.creds;
  }

  pub held_like : (label : ℕ) → held_by a label ≡ held_by b label
  held_like label =
      same_held a b.creds label like_over
      ∙ ap (λ (hs : List Hold). option_and_then (λ (h : Hold). numbered b.creds h.number) (find (λ (h : Hold). h.label == label) hs)) like.holds

  pub prepared_like : (label : ℕ) → prepared_of a label ≡ prepared_of b label
  prepared_like label = ap (λ (ps : List Prepared). find (λ (p : Prepared). p.label == label) ps) like.prepared

  pub base_like : (label : ℕ) (p : Prepared) → prepared_of a label ≡ Some p → numbered a.creds p.base ≡ numbered b.creds p.base
  base_like label p is =
      let P : ℕ → Type 0 = λ n. slice_get a.creds n ≡ slice_get b.creds n in
      same_numbered a.creds b.creds p.base
      (found (λ (x : Prepared). P x.base) (λ (x : Prepared). x.label == label) a.prepared p is (each_ref P a like.creds).bases).0

  pub hold_like : (label : ℕ) → hold_token a label ≡ hold_token b label
  hold_like label = ap (λ o. of_held a label o) (held_like label)

  pub kept_like : (label : ℕ) → kept_tokens a label ≡ kept_tokens b label
  kept_like label = by (prepared_of a label) refl ∙ ap (λ o. of_prepared a label b.creds o) (prepared_like label)
    where
      by : (o : Option Prepared) → prepared_of a label ≡ o
          → of_prepared a label a.creds (prepared_of a label) ≡ of_prepared a label b.creds (prepared_of a label)
      by None is = ap (λ o. of_prepared a label a.creds o) is ∙ sym (ap (λ o. of_prepared a label b.creds o) is)
      by (Some p) is =
          ap (λ o. of_prepared a label a.creds o) is
          ∙ ap (λ o. of_base a label p o) (base_like label p is)
          ∙ sym (ap (λ o. of_prepared a label b.creds o) is)

  pub tokens_like : (event : Event) → tokens_in a event ≡ tokens_in b event
  tokens_like (Ask label query) = hold_like label
  tokens_like (OpenFile hold file want fd) = hold_like hold
  tokens_like (Signal from hold to target) = λ k. hold_like target k ++ hold_like hold k
  tokens_like (Alter label change) = kept_like label
  tokens_like event = refl

  hold_of_like : (label : ℕ) → hold_of a label ≡ hold_of b label
  hold_of_like label = ap (λ (hs : List Hold). find (λ (h : Hold). h.label == label) hs) like.holds

  pub waits_like : (event : Event) → needs_tokens a event ≡ needs_tokens b event
  waits_like (Ask label query) = ap is_some (hold_of_like label)
  waits_like (OpenFile hold file want fd) = ap is_some (hold_of_like hold)
  waits_like (Signal from hold to target) = λ k. is_some (hold_of_like hold k) && is_some (hold_of_like target k)
  waits_like (Alter label change) = ap is_some (prepared_like label)
  waits_like event = refl

  -- what is lent of the one is lent of the other
  pub out_like : (out : List Loan) → AreOut b out → AreOut a out
  out_like out each k d lt =
      let label = (get_or out k d).label in
      subst (λ es. Has es (get_or out k d)) (λ i. sym (hold_like label) i ++ sym (kept_like label) i) (each k d lt)

-- ---- a slot that is kept

abbrev slots_of : State → List ℕ
slots_of s = map (λ (c : SealedCred). c.slot) s.creds

-- where nothing that is referred to stands in a slot
module _ (s : State) (slot : ℕ) (clear : IsClear (slots_of s) slot (refs s)) where
  each_clear : EachRef (λ n. slice_get (slots_of s) n ≢ Some slot) s
  each_clear = each_ref (λ n. slice_get (slots_of s) n ≢ Some slot) s clear

  stands_elsewhere : (n : ℕ) (c : Numbered) → slice_get (slots_of s) n ≢ Some slot → numbered s.creds n ≡ Some c → c.slot ≢ slot
  stands_elsewhere n c other at same =
      other
      (slice_get-map (λ (x : SealedCred). x.slot) s.creds n
      ∙ ap (option_map (λ (x : SealedCred). x.slot)) (numbered_is s.creds n c at).1 ∙ ap Some same)

  -- what a hold holds stands elsewhere
  held_elsewhere : (label : ℕ) (c : Numbered) → held_by s label ≡ Some c → c.slot ≢ slot
  held_elsewhere label c at = by (hold_of s label) refl at
    where
      by : (o : Option Hold) → hold_of s label ≡ o → option_and_then (λ (h : Hold). numbered s.creds h.number) o ≡ Some c → c.slot ≢ slot
      by None there at = cc
      by (Some h) there at =
          stands_elsewhere h.number c
          (found (λ (x : Hold). slice_get (slots_of s) x.number ≢ Some slot) (λ (x : Hold). x.label == label) s.holds h there each_clear.holds).0 at

  -- and so does what a label is based on
  base_elsewhere : (label : ℕ) (p : Prepared) (c : Numbered) → prepared_of s label ≡ Some p → numbered s.creds p.base ≡ Some c → c.slot ≢ slot
  base_elsewhere label p c there at =
      stands_elsewhere p.base c
      (found (λ (x : Prepared). slice_get (slots_of s) x.base ≢ Some slot) (λ (x : Prepared). x.label == label) s.prepared p there each_clear.bases).0 at

module _ (s : State) (sound : IsSound s) where
  all_clear : All (λ (p : Prepared). IsClear (slots_of s) p.slot (refs s)) s.prepared
  all_clear = All-unmap (λ slot. IsClear (slots_of s) slot (refs s)) (λ (p : Prepared). p.slot) s.prepared sound.slots.clear

  -- what a hold holds, and what a label is based on, stands in no slot that is kept
  pub held_apart : (label : ℕ) (c : Numbered) → held_by s label ≡ Some c → All (λ (p : Prepared). c.slot ≢ p.slot) s.prepared
  held_apart label c at k d lt = held_elsewhere s _ (all_clear k d lt) label c at

  pub base_apart : (label : ℕ) (p : Prepared) (c : Numbered) → prepared_of s label ≡ Some p → numbered s.creds p.base ≡ Some c
      → All (λ (q : Prepared). c.slot ≢ q.slot) s.prepared
  base_apart label p c there at k d lt = base_elsewhere s _ (all_clear k d lt) label p c there at

  -- no two labels keep one slot
  pub kept_once : (place : ℕ) (p : Prepared) → slice_get s.prepared place ≡ Some p → All (λ (q : Prepared). q.slot ≡ p.slot → q ≡ p) s.prepared
  kept_once place p there =
      let own = AllPairs-unmap (λ a b. a ≢ b) (λ (r : Prepared). r.slot) s.prepared sound.slots.own in
      All-at (λ x. All (λ y. y.slot ≡ x.slot → y ≡ x) s.prepared) s.prepared place p there (alone (λ (r : Prepared). r.slot) s.prepared own)

module _ (s : State) (sound : IsSound s) (label : ℕ) (p : Prepared) (is : prepared_of s label ≡ Some p) where
  -- nothing that is referred to stands in it
  pub kept_clear : IsClear (slots_of s) p.slot (refs s)
  kept_clear = (found (λ (q : Prepared). IsClear (slots_of s) q.slot (refs s)) (λ (q : Prepared). q.label == label) s.prepared p is (all_clear s sound)).0

  named : (other : ℕ) (q : Prepared) → prepared_of s other ≡ Some q → q.label ≡ other
  named other q at =
      let Any : Prepared → Type 0 = λ r. Unit {0} in
      eqb-true q.label other (found Any (λ (r : Prepared). r.label == other) s.prepared q at (λ k d lt. tt)).1

  -- all others keep another
  pub kept_alone_by : All (λ (q : Prepared). q.slot ≡ p.slot → q ≡ p) s.prepared
  kept_alone_by =
      let here = place-of_found (λ (r : Prepared). r.label == label) s.prepared p is in
      kept_once s sound here.0 p here.2

  pub kept_own : (other : ℕ) (q : Prepared) → prepared_of s other ≡ Some q → q.slot ≡ p.slot → other ≡ label
  kept_own other q at same =
      let there = place-of_found (λ (r : Prepared). r.label == other) s.prepared q at in
      let is_one : q ≡ p = All-at (λ (y : Prepared). y.slot ≡ p.slot → y ≡ p) s.prepared there.0 q there.2 kept_alone_by same in
      sym (named other q at) ∙ ap (λ (r : Prepared). r.label) is_one ∙ named label p is

  -- so a token on it is the label's
  pub token_there : (e : Loan) → IsToken s e → e.slot ≡ p.slot → e.label ≡ label
  token_there e token same = by (token_is s e token)
    where
      by : IsHeld s e.label e ⊎ IsPrepared s e.label e → e.label ≡ label
      by (inl h) = absurd (held_elsewhere s p.slot kept_clear e.label h.credential h.held (ap (λ (x : Loan). x.slot) h.is ∙ same))
      by (inr q) = of q.is
        where
          of : (loan e.label q.preparation.slot None ≡ e) ⊎ (loan e.label q.base.slot (Some q.base.cred) ≡ e) → e.label ≡ label
          of (inl own) = kept_own e.label q.preparation q.prepared (ap (λ (x : Loan). x.slot) own ∙ same)
          of (inr base) =
              absurd (base_elsewhere s p.slot kept_clear e.label q.preparation q.base q.prepared q.sealed (ap (λ (x : Loan). x.slot) base ∙ same))

  -- where nothing is lent under the label, nothing is lent on its slot
  pub kept_alone : (out : List Loan) → AreOut s out → All (λ e. e.label ≢ label) out → IsAlone out p.slot
  kept_alone [] are home = tt
  kept_alone (e ∷ out) are home = (
    λ same. All-head (λ e. e.label ≢ label) e out home (token_there e (All-head (λ x. IsToken s x) e out are) same),
    kept_alone out (All-tail (λ x. IsToken s x) e out are) (All-tail (λ e. e.label ≢ label) e out home),
  )

  test_of : (x : SealedCred) → x.slot ≢ p.slot
      → cond (x.slot == p.slot) (record { cred = no_credential; slot = x.slot }) x ≡ x
  test_of x ne = ap (λ b. cond b (record { cred = no_credential; slot = x.slot }) x) (ne_eqb x.slot p.slot ne)

  -- while nothing is in its words, the state is like the one before
  pub cleared_like : IsLike (record s { creds = cleared p.slot s.creds }) s
  cleared_like = record {
    tasks = refl;
    broadcasts = refl;
    files = refl;
    holds = refl;
    prepared = refl;
    deferred = refl;
    dumpable = refl;
    inodes = refl;
    slots = map_same (λ (x : SealedCred). x.slot) (λ x. cond (x.slot == p.slot) (record { cred = no_credential; slot = x.slot }) x) s.creds
        (λ x. slot_stays x (x.slot == p.slot));
    creds = λ k d lt. under (get_or (refs s) k d) (kept_clear k d lt) (slice_get s.creds (get_or (refs s) k d)) refl;
  }
    where
      slot_stays : (x : SealedCred) (b : Bool) → (cond b (record { cred = no_credential; slot = x.slot }) x).slot ≡ x.slot
      slot_stays x true = refl
      slot_stays x false = refl

      under : (n : ℕ) → slice_get (slots_of s) n ≢ Some p.slot → (o : Option SealedCred) → slice_get s.creds n ≡ o
          → slice_get (cleared p.slot s.creds) n ≡ slice_get s.creds n
      under n clear o at =
          slice_get-map (λ x. cond (x.slot == p.slot) (record { cred = no_credential; slot = x.slot }) x) s.creds n
          ∙ ap (option_map (λ x. cond (x.slot == p.slot) (record { cred = no_credential; slot = x.slot }) x)) at
          ∙ one o at ∙ sym at
        where
          one : (o : Option SealedCred) → slice_get s.creds n ≡ o
              → option_map (λ x. cond (x.slot == p.slot) (record { cred = no_credential; slot = x.slot }) x) o ≡ o
          one None at = refl
          one (Some x) at =
              ap Some
              (test_of x
              (λ same. clear (slice_get-map (λ (c : SealedCred). c.slot) s.creds n ∙ ap (option_map (λ (c : SealedCred). c.slot)) at ∙ ap Some same)))

-- ---- what comes back is the label's

module _ (s : State) (sound : IsSound s) (out : List Loan) (are : AreOut s out) (label slot : ℕ) where
  never_both : (c : Numbered) (p : Prepared) → held_by s label ≡ Some c → prepared_of s label ≡ Some p → ⊥
  never_both c p held prepared = by (hold_of s label) refl held
    where
      none : hold_of s label ≡ None
      none =
          let Free : Prepared → Type 0 = λ q. hold_of s q.label ≡ None in
          let at = found Free (λ (q : Prepared). q.label == label) s.prepared p prepared sound.labels in
          subst (λ n. hold_of s n ≡ None) (eqb-true p.label label at.1) at.0

      by : (o : Option Hold) → hold_of s label ≡ o → option_and_then (λ (h : Hold). numbered s.creds h.number) o ≡ Some c → ⊥
      by None there held = cc
      by (Some h) there held = let both = sym none ∙ there in cc

  -- a hold's token, where the label holds something
  pub hold_out : (c : Numbered) (cred : Credential) → held_by s label ≡ Some c → Has out (loan label slot (Some cred))
      → (c.slot ≡ slot) × (c.cred ≡ cred)
  hold_out c cred held has = by (token_is s (loan label slot (Some cred)) (out_has s out (loan label slot (Some cred)) are has))
    where
      by : IsHeld s label (loan label slot (Some cred)) ⊎ IsPrepared s label (loan label slot (Some cred)) → (c.slot ≡ slot) × (c.cred ≡ cred)
      by (inl h) =
          let same : c ≡ h.credential = same_Some _ _ (sym held ∙ h.held) in
          let at = h.is in (
            ap (λ (x : Numbered). x.slot) same ∙ ap (λ (x : Loan). x.slot) at,
            ap (λ (x : Numbered). x.cred) same ∙ same_Some _ _ (ap (λ (x : Loan). x.held) at),
          )
      by (inr q) = absurd (never_both c q.preparation held q.prepared)

  -- a base's, where the label prepares something
  pub base_out : (p : Prepared) (base : Numbered) (cred : Credential) → prepared_of s label ≡ Some p → numbered s.creds p.base ≡ Some base
      → Has out (loan label slot (Some cred)) → (base.slot ≡ slot) × (base.cred ≡ cred)
  base_out p base cred prepared sealed has = by (token_is s (loan label slot (Some cred)) (out_has s out (loan label slot (Some cred)) are has))
    where
      by : IsHeld s label (loan label slot (Some cred)) ⊎ IsPrepared s label (loan label slot (Some cred)) → (base.slot ≡ slot) × (base.cred ≡ cred)
      by (inl h) = absurd (never_both h.credential p h.held prepared)
      by (inr q) = of q.is
        where
          same : q.preparation ≡ p
          same = same_Some _ _ (sym q.prepared ∙ prepared)

          one : q.base ≡ base
          one = same_Some _ _ (sym q.sealed ∙ ap (λ (r : Prepared). numbered s.creds r.base) same ∙ sealed)

          of : (loan label q.preparation.slot None ≡ loan label slot (Some cred)) ⊎ (loan label q.base.slot (Some q.base.cred) ≡ loan label slot (Some cred))
              → (base.slot ≡ slot) × (base.cred ≡ cred)
          of (inl at) = let no = ap (λ (x : Loan). x.held) at in cc
          of (inr at) = (
            ap (λ (x : Numbered). x.slot) (sym one) ∙ ap (λ (x : Loan). x.slot) at,
            ap (λ (x : Numbered). x.cred) (sym one) ∙ same_Some _ _ (ap (λ (x : Loan). x.held) at),
          )

  -- a writer's
  pub writer_out : (p : Prepared) → prepared_of s label ≡ Some p → Has out (loan label slot None) → p.slot ≡ slot
  writer_out p prepared has = by (token_is s (loan label slot None) (out_has s out (loan label slot None) are has))
    where
      by : IsHeld s label (loan label slot None) ⊎ IsPrepared s label (loan label slot None) → p.slot ≡ slot
      by (inl h) = let no = ap (λ (x : Loan). x.held) h.is in cc
      by (inr q) = of q.is
        where
          same : q.preparation ≡ p
          same = same_Some _ _ (sym q.prepared ∙ prepared)

          of : (loan label q.preparation.slot None ≡ loan label slot None) ⊎ (loan label q.base.slot (Some q.base.cred) ≡ loan label slot None) → p.slot ≡ slot
          of (inl at) = ap (λ (r : Prepared). r.slot) (sym same) ∙ ap (λ (x : Loan). x.slot) at
          of (inr at) = let no = ap (λ (x : Loan). x.held) at in cc

  -- its slot, held or based on, is kept by no label
  pub hold_apart : (cred : Credential) → Has out (loan label slot (Some cred)) → All (λ (p : Prepared). slot ≢ p.slot) s.prepared
  hold_apart cred has = by (token_is s (loan label slot (Some cred)) (out_has s out (loan label slot (Some cred)) are has))
    where
      to : {n m : ℕ} → n ≡ m → All (λ (p : Prepared). n ≢ p.slot) s.prepared → All (λ (p : Prepared). m ≢ p.slot) s.prepared
      to same = subst (λ n. All (λ (p : Prepared). n ≢ p.slot) s.prepared) same

      by : IsHeld s label (loan label slot (Some cred)) ⊎ IsPrepared s label (loan label slot (Some cred)) → All (λ (p : Prepared). slot ≢ p.slot) s.prepared
      by (inl h) = to (ap (λ (x : Loan). x.slot) h.is) (held_apart s sound label h.credential h.held)
      by (inr q) = of q.is
        where
          of : (loan label q.preparation.slot None ≡ loan label slot (Some cred)) ⊎ (loan label q.base.slot (Some q.base.cred) ≡ loan label slot (Some cred))
              → All (λ (p : Prepared). slot ≢ p.slot) s.prepared
          of (inl at) = let no = ap (λ (x : Loan). x.held) at in cc
          of (inr at) = to (ap (λ (x : Loan). x.slot) at) (base_apart s sound label q.preparation q.base q.prepared q.sealed)

-- ---- a slot that is free

at_slot : (store : List (Option Credential)) (slots : List ℕ) (n : ℕ) (x : SealedCred) → slice_get (creds_in store slots) n ≡ Some x
    → slice_get slots n ≡ Some x.slot
at_slot store [] n x at = cc
at_slot store (s ∷ slots) zero x at = ap (λ (o : Option SealedCred). option_map (λ x. x.slot) o) at
at_slot store (s ∷ slots) (suc n) x at = at_slot store slots n x at

module _ {parts : StateLists} {store : List (Option Credential)} {t : Table} (is : IsKept parts store t) where
  abbrev kept_state : State
  kept_state = state_of parts store t

  module _ (slot : ℕ) (takes : table.free_in t ≡ Some slot) where
    -- what stands there isn't in use
    unused : (n : ℕ) (c : Numbered) → IsInUse kept_state n → numbered kept_state.creds n ≡ Some c → c.slot ≢ slot
    unused n c used num same =
        let at : slice_get t.sealed n ≡ Some c.slot = at_slot store t.sealed n _ (numbered_is kept_state.creds n c num).1 in
        let some = bag-at n is.counted.counts used in
        free_clear t slot takes n (at ∙ ap Some same) (held_is_referred (table.swept_table_if_full t) n some)

    each_used : EachRef (λ k. IsInUse kept_state k) (swept kept_state)
    each_used =
        let P : ℕ → Type 0 = λ k. IsInUse kept_state k in
        each_ref P (swept kept_state) (All-append P (in_use kept_state) [] (λ k d lt. count-at (in_use kept_state) k d lt) (All-nil P))

    free_held : (label : ℕ) (c : Numbered) → held_by kept_state label ≡ Some c → c.slot ≢ slot
    free_held label c at = by (hold_of kept_state label) refl at
      where
        by : (o : Option Hold) → hold_of kept_state label ≡ o → option_and_then (λ (h : Hold). numbered kept_state.creds h.number) o ≡ Some c → c.slot ≢ slot
        by None there at = cc
        by (Some h) there at =
            unused h.number c (found (λ (x : Hold). IsInUse kept_state x.number) (λ (x : Hold). x.label == label) kept_state.holds h there each_used.holds).0 at

    free_base : (label : ℕ) (p : Prepared) (c : Numbered) → prepared_of kept_state label ≡ Some p → numbered kept_state.creds p.base ≡ Some c → c.slot ≢ slot
    free_base label p c there at =
        unused p.base c
        (found (λ (x : Prepared). IsInUse kept_state x.base) (λ (x : Prepared). x.label == label) kept_state.prepared p there each_used.bases).0 at

    -- no label keeps it
    pub free_apart : All (λ (p : Prepared). p.slot ≢ slot) parts.prepared
    free_apart k d lt same =
        let p = get_or parts.prepared k d in
        let kept_slots = map (λ (q : Prepared). q.slot) parts.prepared in
        let there : slice_get kept_slots k ≡ Some p.slot
        = slice_get-map (λ (q : Prepared). q.slot) parts.prepared k ∙ ap (option_map (λ (q : Prepared). q.slot)) (slice_get-get_or parts.prepared k d lt) in
        let kept : is_kept_in t p.slot ≡ true = is.counted.keeps p.slot ∙ among-at kept_slots k p.slot there in
        let free : is_kept_in t slot ≡ false = free-not_kept t slot takes in
        false≢true (sym free ∙ sym (ap (is_kept_in t) same) ∙ kept)

    free_kept : (label : ℕ) (p : Prepared) → prepared_of kept_state label ≡ Some p → p.slot ≢ slot
    free_kept label p there = (found (λ (q : Prepared). q.slot ≢ slot) (λ (q : Prepared). q.label == label) parts.prepared p there free_apart).0

    -- so no token is out on it
    pub free_alone : (out : List Loan) → AreOut kept_state out → IsAlone out slot
    free_alone [] are = tt
    free_alone (e ∷ out) are = (
      by (token_is kept_state e (All-head (λ x. IsToken kept_state x) e out are)),
      free_alone out (All-tail (λ x. IsToken kept_state x) e out are),
    )
      where
        by : IsHeld kept_state e.label e ⊎ IsPrepared kept_state e.label e → e.slot ≢ slot
        by (inl h) same = free_held e.label h.credential h.held (ap (λ (x : Loan). x.slot) h.is ∙ same)
        by (inr q) same = of q.is
          where
            of : (loan e.label q.preparation.slot None ≡ e) ⊎ (loan e.label q.base.slot (Some q.base.cred) ≡ e) → ⊥
            of (inl own) = free_kept e.label q.preparation q.prepared (ap (λ (x : Loan). x.slot) own ∙ same)
            of (inr base) = free_base e.label q.preparation q.base q.prepared q.sealed (ap (λ (x : Loan). x.slot) base ∙ same)

  -- ---- a slot that is kept, whatever is in its words

  -- nothing that is referred to belongs to it
  pub kept_none : IsSound kept_state → (label : ℕ) (p : Prepared) → prepared_of kept_state label ≡ Some p
      → (n : ℕ) → slice_get t.sealed n ≡ Some p.slot → 0 < references_to t n → ⊥
  kept_none sound label p prepared n at some =
      let test : ℕ → Bool = λ m. m == n in
      let all = count-append test (in_use kept_state) kept_state.deferred in
      let held = is.counted.counts.counts test in
      let each = count-append test t.held t.deferred in
      let clear = kept_clear kept_state sound label p prepared in
      count_found (λ m. slice_get (slots_of kept_state) m ≢ Some p.slot) (refs kept_state) n clear (omega (arith, some, all, held, each))
      (ap (λ (ss : List ℕ). slice_get ss n) (slots-creds_in store t.sealed) ∙ at)

  pub kept_spare : IsSound kept_state → (label : ℕ) (p : Prepared) → prepared_of kept_state label ≡ Some p → (v : Option Credential)
      → IsKept parts (slice_set store p.slot v) t
  kept_spare sound label p prepared v = record {
    counted = record { counts = is.counted.counts; keeps = is.counted.keeps };
    filled = filled_spare store p.slot v refl (λ n some. some) (kept_none sound label p prepared) is.filled;
  }
