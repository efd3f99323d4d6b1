-- Each prepared credential is what its last change makes of its base.
use Rattle.std.proofs.Common.{◌≡◌, ◌==◌, ℕ, ◌<◌, List, [], ◌∷◌, length, map, get_or, fold, Some, true, sym, ap, ◌∙◌, subst, arith}
use Rattle.std.specs.List.{All}
use Rattle.std.specs.Option.{IfSome}
use Rattle.std.proofs.lemmas.List.{length-map}
use Rattle.std.proofs.lemmas.List.Elements.{All-map, All-push, All-weaker}
use Rattle.std.proofs.lemmas.Option.{slice_get_within}
use Rattle.std.proofs.lemmas.Bool.{eqb-true}
use Rattle.cred_event.specs.declared.event.Event.{Event}
use Rattle.cred_event.specs.declared.entry.Entry.{Entry}
use Rattle.cred_model.specs.Script.{Script}
use Rattle.cred_model.specs.State.{State, SealedCred, Prepared, numbered, prepared_of, opening, info_of}
use Rattle.cred_model.specs.Named.{change_files}
use Rattle.cred_model.specs.Moves.{altered_at}
use Rattle.cred_model.specs.Step.{step}
use Rattle.cred_model.proofs.Lists.{All-remove, alone, found}
use Rattle.cred_model.proofs.Numbers.{changed_as, numbered_is, numbered_before, sealed_cred_of}
use Rattle.cred_model.proofs.Referred.{each_ref}
use Rattle.cred_sound.specs.Sound.{IsSound}
use Rattle.cred_sound.proofs.Parts.{CredsChange, PreparedChange, SameCreds, Seals, SamePrepared, Prepares, Alters, Ends}
use Rattle.cred_sound.proofs.Events.{changes}
use Rattle.cred_sound.proofs.Sound.{step_sound, opening_sound}
use Rattle.cred_laws.specs.Made.{IsChangedFrom, IsMade, AreMade, PreparedAreMade}

-- what was sealed stays under its number
pub same_numbered : (s : State) (event : Event) (left : List ℕ) (t : State) → CredsChange s event left t → (n : ℕ)
    → n < length s.creds → numbered t.creds n ≡ numbered s.creds n
same_numbered s event left t (SameCreds same) n lt = ap (λ creds. numbered creds n) same
same_numbered s event left t (Seals c slot creds fits origin) n lt =
    ap (λ creds. numbered creds n) creds ∙ numbered_before s.creds _ n lt

pub bases_sealed : (s : State) → IsSound s → All (λ p. p.base < length s.creds) s.prepared
bases_sealed s sound k d lt =
    let slots = map (λ (x : SealedCred). x.slot) s.creds in
    let below : (get_or s.prepared k d).base < length slots = (each_ref (λ n. n < length slots) s sound.slots.sealed).bases k d lt in
    omega (arith, length-map s.creds (λ (x : SealedCred). x.slot))

-- whoever has the label is the one that was found
pub the_one : (s : State) (label : ℕ) (p : Prepared) → IsSound s → prepared_of s label ≡ Some p
    → All (λ q. (q.label == label) ≡ true → q ≡ p) s.prepared
the_one s label p sound is =
    let at =
    found (λ (x : Prepared). All (λ (y : Prepared). y.label ≡ x.label → y ≡ x) s.prepared) (λ (q : Prepared). q.label == label) s.prepared p is
    (alone (λ (p : Prepared). p.label) s.prepared sound.prepared) in
    All-weaker (λ (q : Prepared). q.label ≡ p.label → q ≡ p) (λ q. (q.label == label) ≡ true → q ≡ p)
    (λ q same test. same (eqb-true q.label label test ∙ sym (eqb-true p.label label at.1))) s.prepared at.0

all_made : (script : Script) (s : State) (event : Event) (left : List ℕ) (t : State) → IsSound s → CredsChange s event left t
    → PreparedChange script s event left t → All (IsMade script t.creds) s.prepared → AreMade script t
all_made script s event left t sound creds (SamePrepared same) made = subst (All (IsMade script t.creds)) (sym same) made
all_made script s event left t sound creds (Prepares p prepared fresh unheld new stands free) made =
    subst (All (IsMade script t.creds)) (sym prepared)
    (All-push (IsMade script t.creds) s.prepared p made
    (subst (λ o. IfSome o (IsChangedFrom script (numbered t.creds p.base))) (sym fresh) tt))
all_made script s event left t sound creds (Alters label to p base answer prepared is at so acts) made =
    let one = the_one s label p sound is in
    let lt = slice_get_within s.creds p.base (sealed_cred_of base) (numbered_is s.creds p.base base at).1 in
    let now = same_numbered s event left t creds p.base lt ∙ at in
    subst (All (IsMade script t.creds)) (sym prepared)
    (All-map (IsMade script t.creds) (altered_at label to) s.prepared (λ k d lt.
    changed_as (IsMade script t.creds) label to _
    (λ test.
    subst (λ found. IsChangedFrom script found to)
    (sym now ∙ ap (λ (q : Prepared). numbered t.creds q.base) (sym (one k d lt test))) (info_of s.inodes (change_files to.change), answer, so, tt))
    (made k d lt)))
all_made script s event left t sound creds (Ends label place p ends prepared at is) made =
    subst (All (IsMade script t.creds)) (sym prepared) (All-remove (IsMade script t.creds) s.prepared place made)

pub step_made : (script : Script) (s : State) (line : ℕ) (event : Event) → IsSound s → AreMade script s
    → AreMade script (step script s line event).1
step_made script s line event sound made =
    let c = changes script s line event in
    let t = (step script s line event).1 in
    let sealed = bases_sealed s sound in
    all_made script s event c.left t sound c.creds c.prepared (λ k d lt.
    subst (λ found. IfSome (get_or s.prepared k d).changed (IsChangedFrom script found)) (sym (same_numbered s event c.left t c.creds _ (sealed k d lt)))
    (made k d lt))

made_from : (script : Script) (journal : List Entry) (s : State) → IsSound s → AreMade script s
    → AreMade script (fold (λ (state : State) (entry : Entry). (step script state entry.line entry.event).1) s journal)
made_from script [] s sound made = made
made_from script (entry ∷ journal) s sound made =
    made_from script journal (step script s entry.line entry.event).1 (step_sound script s entry.line entry.event sound)
    (step_made script s entry.line entry.event sound made)

pub made_after : PreparedAreMade
made_after script journal = made_from script journal (opening script) (opening_sound script) (λ k d lt. absurd (omega arith))
