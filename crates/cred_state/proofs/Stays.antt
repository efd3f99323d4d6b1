-- A label that an event doesn't end keeps what it refers to, whatever else the event does, and so what is lent under it stays the label's.
use Rattle.std.proofs.Common.{if◌then◌else◌, ◌≡◌, ℕ, ◌<◌, ◌==◌, ◌&&◌, Bool, List, [], ◌∷◌, ◌++◌, find, length, map, get_or, is_some, Contains, Option, Some}
use Rattle.std.proofs.Common.{None, refl, sym, ap, ◌∙◌, subst, ◌⊎◌, inl, inr, true, false, arith}
use Rattle.std.specs.List.{All}
use Rattle.std.specs.Option.{option_and_then, option_map, option_or}
use Rattle.std.proofs.lemmas.List.{length-map}
use Rattle.std.proofs.lemmas.List.Elements.{All-contains, Contains-append_left, Contains-push}
use Rattle.std.proofs.lemmas.List.Folds.{find-append}
use Rattle.cred_event.specs.declared.event.Event.{Event}
use Rattle.cred_event.specs.declared.event.Event.TheVariants.{Release, Abort, Commit, Override, Ask, Signal, Alter, OpenFile}
use Rattle.cred_model.specs.Script.{Script}
use Rattle.cred_model.specs.State.{State, Hold, Prepared, Changed, Numbered, SealedCred, numbered, hold_of, held_by, prepared_of}
use Rattle.cred_model.specs.Moves.{altered_at}
use Rattle.cred_model.specs.Step.{step}
use Rattle.cred_model.proofs.Lists.{find-remove_other, find_changed, found, slice_get_at}
use Rattle.cred_model.proofs.Numbers.{numbered_stays}
use Rattle.cred_model.proofs.Referred.{EachRef, each_ref}
use Rattle.cred_names.specs.Labels.{event_labels}
use Rattle.cred_sound.specs.SlotUse.{SealsOf}
use Rattle.cred_sound.proofs.Parts.{Stays, Adds, Removes, SamePrepared, Prepares, Alters, Ends, SameCreds, Seals, HoldsChange, PreparedChange, CredsChange}
use Rattle.cred_sound.proofs.Parts.{Changes, sealed_cred}
use Rattle.cred_sound.proofs.Events.{changes}
use Rattle.cred_sound.specs.Sound.{IsSound}
use Rattle.cred_words.specs.Lists.{Has}
use Rattle.cred_hold.specs.Tokens.{Loan, loan}
use Rattle.cred_tables.specs.Out.{AreHome, AreOut, hold_token, kept_tokens, tokens_in, needs_tokens}
use Rattle.cred_tables.proofs.TokensOfLabels.{IsToken, IsHeld, IsPrepared, token_is, hold_token_is, kept_tokens_are, has_first, has_last}

-- the event drops what the label has
pub data EndsLabel (event : Event) (label : ℕ) : Type 0 where
  LetsGo : event ≡ Release label → EndsLabel event label
  SealsIt : SealsOf event label → EndsLabel event label
  GivesUp : event ≡ Abort label → EndsLabel event label

found-first : {X : Type 0} (p : X → Bool) (xs ys : List X) (x : X) → find p xs ≡ Some x → find p (xs ++ ys) ≡ Some x
found-first p xs ys x is = find-append p xs ys ∙ ap (λ o. option_or o (find p ys)) is

-- a change of one label leaves bases and slots
pub record IsSameBut (p q : Prepared) : Type 0 where
  pub base : q.base ≡ p.base
  pub slot : q.slot ≡ p.slot

labels_same : (name : ℕ) (to : Changed) (p : Prepared) → (altered_at name to p).label ≡ p.label
labels_same name to p = by (p.label == name)
  where
    by : (test : Bool) → (if test then record p { changed = Some to } else p).label ≡ p.label
    by true = refl
    by false = refl

parts_same : (name : ℕ) (to : Changed) (p : Prepared) → IsSameBut p (altered_at name to p)
parts_same name to p = by (p.label == name)
  where
    by : (test : Bool) → IsSameBut p (if test then record p { changed = Some to } else p)
    by true = record { base = refl; slot = refl }
    by false = record { base = refl; slot = refl }

module _ (script : Script) (s : State) (line : ℕ) (event : Event) (label : ℕ) (other : EndsLabel event label → ⊥) where
  abbrev after : State
  after = (step script s line event).1

  made : Changes script s event (step script s line event)
  made = changes script s line event

  -- a hold stays
  pub hold_stays : (h : Hold) → hold_of s label ≡ Some h → hold_of after label ≡ Some h
  hold_stays h is = by made.holds
    where
      by : HoldsChange s event made.left after → hold_of after label ≡ Some h
      by (Stays same) = ap (λ hs. find (λ (h : Hold). h.label == label) hs) same ∙ is
      by (Adds x same new is_new) =
          ap (λ hs. find (λ (h : Hold). h.label == label) hs) same ∙ found-first (λ (h : Hold). h.label == label) s.holds (x ∷ []) h is
      by (Removes number place x gone same at there) =
          ap (λ hs. find (λ (h : Hold). h.label == label) hs) same
          ∙ find-remove_other (λ (h : Hold). h.label) s.holds label number place x at there (λ e. other (LetsGo (gone ∙ ap (λ n. Release n) e)))
          ∙ is

  ended : {name : ℕ} → SealsOf event name ⊎ (event ≡ Abort name) → name ≡ label → EndsLabel event label
  ended (inl seals) e = SealsIt (subst (λ n. SealsOf event n) e seals)
  ended (inr aborts) e = GivesUp (aborts ∙ ap (λ n. Abort n) e)

  -- a prepared label keeps its base and its slot
  pub prepared_stays : (p : Prepared) → prepared_of s label ≡ Some p → (q : Prepared) × (prepared_of after label ≡ Some q) × IsSameBut p q
  prepared_stays p is = by made.prepared
    where
      same_as : prepared_of after label ≡ prepared_of s label → (q : Prepared) × (prepared_of after label ≡ Some q) × IsSameBut p q
      same_as same = (p, same ∙ is, record { base = refl; slot = refl })

      by : PreparedChange script s event made.left after → (q : Prepared) × (prepared_of after label ≡ Some q) × IsSameBut p q
      by (SamePrepared same) = same_as (ap (λ ps. find (λ (p : Prepared). p.label == label) ps) same)
      by (Prepares x same un new none old free) = (
        p,
        ap (λ ps. find (λ (p : Prepared). p.label == label) ps) same
            ∙ found-first (λ (p : Prepared). p.label == label) s.prepared (x ∷ []) p is,
        record { base = refl; slot = refl },
      )
      by (Alters name to x base answer same there sealed rule acts) = (
        altered_at name to p,
        ap (λ ps. find (λ (p : Prepared). p.label == label) ps) same
            ∙ find_changed (λ (p : Prepared). p.label) (altered_at name to) s.prepared label (λ x. labels_same name to x)
            ∙ ap (option_map (altered_at name to)) is,
        parts_same name to p,
      )
      by (Ends name place x how same at there) =
          same_as (ap (λ ps. find (λ (p : Prepared). p.label == label) ps) same
          ∙ find-remove_other (λ (p : Prepared). p.label) s.prepared label name place x at there (λ e. other (ended how e)))

  -- a number that was sealed stays so
  pub number_stays : (n : ℕ) (c : Numbered) → numbered s.creds n ≡ Some c → numbered after.creds n ≡ Some c
  number_stays n c is = by made.creds
    where
      by : CredsChange s event made.left after → numbered after.creds n ≡ Some c
      by (SameCreds same) = ap (λ cs. numbered cs n) same ∙ is
      by (Seals new slot same fits origin) = ap (λ cs. numbered cs n) same ∙ numbered_stays s.creds (sealed_cred new slot ∷ []) n c is

  -- ---- what is lent stays the label's

  pub held_stays : (c : Numbered) → held_by s label ≡ Some c → held_by after label ≡ Some c
  held_stays c is = by (hold_of s label) refl is
    where
      by : (o : Option Hold) → hold_of s label ≡ o → option_and_then (λ (h : Hold). numbered s.creds h.number) o ≡ Some c → held_by after label ≡ Some c
      by None at is = cc
      by (Some h) at is =
          ap (λ (o : Option Hold). option_and_then (λ (h : Hold). numbered after.creds h.number) o) (hold_stays h at)
          ∙ number_stays h.number c is

  -- the tokens are the same
  pub hold_token_stays : (c : Numbered) → held_by s label ≡ Some c → hold_token after label ≡ hold_token s label
  hold_token_stays c is = hold_token_is after label c (held_stays c is) ∙ sym (hold_token_is s label c is)

  pub kept_tokens_stay : (p : Prepared) (base : Numbered) → prepared_of s label ≡ Some p → numbered s.creds p.base ≡ Some base
      → kept_tokens after label ≡ kept_tokens s label
  kept_tokens_stay p base is sealed =
      let q = prepared_stays p is in
      let now : numbered after.creds q.0.base ≡ Some base = ap (λ n. numbered after.creds n) q.2.base ∙ number_stays p.base base sealed in
      kept_tokens_are after label q.0 base q.1 now
      ∙ ap (λ (slot : ℕ). loan label slot None ∷ loan label base.slot (Some base.cred) ∷ []) q.2.slot
      ∙ sym (kept_tokens_are s label p base is sealed)

-- ---- labels that an event doesn't name

-- an event names the label that it ends
pub names_ended : (event : Event) (label : ℕ) → EndsLabel event label → Contains (event_labels event) label
names_ended event label (LetsGo is) = subst (λ e. Contains (event_labels e) label) (sym is) (Contains-push [] label)
names_ended event label (GivesUp is) = subst (λ e. Contains (event_labels e) label) (sym is) (Contains-push [] label)
names_ended (Commit name) label (SealsIt is) = subst (λ n. Contains (name ∷ []) n) is (Contains-push [] name)
names_ended (Override task name) label (SealsIt is) = subst (λ n. Contains (name ∷ []) n) is (Contains-push [] name)
names_ended event label (SealsIt is) = absurd is

module _ (script : Script) (s : State) (line : ℕ) (event : Event) where
  abbrev later : State
  later = (step script s line event).1

  pub token_stays : (e : Loan) → (EndsLabel event e.label → ⊥) → IsToken s e → IsToken later e
  token_stays e other token = by (token_is s e token)
    where
      same : {xs ys : List Loan} → ys ≡ xs → Has xs e → Has ys e
      same are has = subst (λ es. Has es e) (sym are) has

      by : IsHeld s e.label e ⊎ IsPrepared s e.label e → IsToken later e
      by (inl h) =
          has_first (hold_token later e.label) (kept_tokens later e.label) e
          (same (hold_token_is later e.label h.credential (held_stays script s line event e.label other h.credential h.held)) (inl h.is))
      by (inr q) =
          has_last (hold_token later e.label) (kept_tokens later e.label) e
          (same (kept_tokens_stay script s line event e.label other q.preparation q.base q.prepared q.sealed
          ∙ kept_tokens_are s e.label q.preparation q.base q.prepared q.sealed) (one q.is))
        where
          one : {a b : Loan} → (a ≡ e) ⊎ (b ≡ e) → Has (a ∷ b ∷ []) e
          one (inl is) = inl is
          one (inr is) = inr (inl is)

  -- what is lent under labels that the event doesn't name stays so
  pub out_stays : (out : List Loan) → AreHome event out → AreOut s out → AreOut later out
  out_stays out home are k d lt =
      token_stays (get_or out k d) (λ ends. home k d lt (names_ended event (get_or out k d).label ends)) (are k d lt)

-- ---- an event that waits

-- what a label refers to is sealed
module _ (s : State) (sound : IsSound s) (label : ℕ) where
  sealed_each : EachRef (λ n. n < length (map (λ (c : SealedCred). c.slot) s.creds)) s
  sealed_each = each_ref (λ n. n < length (map (λ (c : SealedCred). c.slot) s.creds)) s sound.slots.sealed

  at_number : (n : ℕ) → n < length (map (λ (c : SealedCred). c.slot) s.creds) → (c : Numbered) × (numbered s.creds n ≡ Some c)
  at_number n lt =
      let x = slice_get_at s.creds n (omega (arith, lt, length-map s.creds (λ (c : SealedCred). c.slot))) in
      (record { number = n; cred = x.0.cred; slot = x.0.slot }, ap (option_map (λ (c : SealedCred). record { number = n; cred = c.cred; slot = c.slot })) x.1)

  pub held_sealed : (h : Hold) → hold_of s label ≡ Some h → (c : Numbered) × (held_by s label ≡ Some c)
  held_sealed h is =
      let lt =
      (found (λ (x : Hold). x.number < length (map (λ (c : SealedCred). c.slot) s.creds)) (λ (x : Hold). x.label == label) s.holds h is sealed_each.holds).0 in
      let c = at_number h.number lt in
      (c.0, ap (λ (o : Option Hold). option_and_then (λ (x : Hold). numbered s.creds x.number) o) is ∙ c.1)

  pub base_sealed : (p : Prepared) → prepared_of s label ≡ Some p → (c : Numbered) × (numbered s.creds p.base ≡ Some c)
  base_sealed p is =
      at_number p.base
      (found (λ (x : Prepared). x.base < length (map (λ (c : SealedCred). c.slot) s.creds)) (λ (x : Prepared). x.label == label) s.prepared p is
      sealed_each.bases).0

both_true : (a b : Bool) → (a && b) ≡ true → (a ≡ true) × (b ≡ true)
both_true true b is = (refl, is)
both_true false b is = cc

-- What waits for a decision waits still, on the same tokens.
pub record StillWaits (before after : State) (event : Event) : Type 0 where
  pub waits : needs_tokens after event ≡ true
  pub tokens : tokens_in after event ≡ tokens_in before event

module _ (script : Script) (s : State) (line : ℕ) (event : Event) (sound : IsSound s) where
  abbrev next : State
  next = (step script s line event).1

  hold_waits : (label : ℕ) → (EndsLabel event label → ⊥) → is_some (hold_of s label) ≡ true
      → (is_some (hold_of next label) ≡ true) × (hold_token next label ≡ hold_token s label)
  hold_waits label other is = by (hold_of s label) refl is
    where
      by : (o : Option Hold) → hold_of s label ≡ o → is_some o ≡ true
          → (is_some (hold_of next label) ≡ true) × (hold_token next label ≡ hold_token s label)
      by None at is = cc
      by (Some h) at is =
          let c = held_sealed s sound label h at in
          (ap is_some (hold_stays script s line event label other h at), hold_token_stays script s line event label other c.0 c.1)

  prepared_waits : (label : ℕ) → (EndsLabel event label → ⊥) → is_some (prepared_of s label) ≡ true
      → (is_some (prepared_of next label) ≡ true) × (kept_tokens next label ≡ kept_tokens s label)
  prepared_waits label other is = by (prepared_of s label) refl is
    where
      by : (o : Option Prepared) → prepared_of s label ≡ o → is_some o ≡ true
          → (is_some (prepared_of next label) ≡ true) × (kept_tokens next label ≡ kept_tokens s label)
      by None at is = cc
      by (Some p) at is =
          let c = base_sealed s sound label p at in
          let q = prepared_stays script s line event label other p at in
          (ap is_some q.1, kept_tokens_stay script s line event label other p c.0 at c.1)

  -- one whose labels the other event doesn't end
  pub tokens_same : (waiting : Event) → needs_tokens s waiting ≡ true → ((label : ℕ) → Contains (event_labels waiting) label → EndsLabel event label → ⊥)
      → StillWaits s next waiting
  tokens_same (Ask label query) waits other =
      let h = hold_waits label (other label (Contains-push [] label)) waits in
      record { waits = h.0; tokens = h.1 }
  tokens_same (OpenFile label file want fd) waits other =
      let h = hold_waits label (other label (Contains-push [] label)) waits in
      record { waits = h.0; tokens = h.1 }
  tokens_same (Signal from label to target) waits other =
      let both = both_true (is_some (hold_of s label)) (is_some (hold_of s target)) waits in
      let h = hold_waits label (other label (Contains-append_left (label ∷ []) (target ∷ []) label (Contains-push [] label))) both.0 in
      let g = hold_waits target (other target (Contains-push (label ∷ []) target)) both.1 in
      record { waits = λ k. h.0 k && g.0 k; tokens = λ k. g.1 k ++ h.1 k }
  tokens_same (Alter label change) waits other =
      let p = prepared_waits label (other label (Contains-push [] label)) waits in
      record { waits = p.0; tokens = p.1 }
  tokens_same waiting waits other = cc

  -- so one whose labels it doesn't name
  pub waiting_stays : (waiting : Event) → needs_tokens s waiting ≡ true → All (λ label. Contains (event_labels event) label → ⊥) (event_labels waiting)
      → StillWaits s next waiting
  waiting_stays waiting waits apart =
      tokens_same waiting waits
      (λ label has ends. All-contains (λ l. Contains (event_labels event) l → ⊥) (event_labels waiting) label apart has (names_ended event label ends))
