use Rattle.std.proofs.Common.{◌≡◌, ◌≢◌, ◌==◌, ◌<◌, ◌∷◌, [], ℕ, List, Option, None, Some, slice_set, refl, sym, ap, ◌∙◌}
use Rattle.std.specs.Option.{option_and_then}
use Rattle.std.proofs.lemmas.Option.{same_Some}
use Rattle.cred_ids.specs.Limits.{SLOTS}
use Rattle.cred_record.specs.Credential.{Credential}
use Rattle.cred_model.specs.State.{Prepared, numbered, prepared_of}
use Rattle.cred_model.proofs.Lists.{found, All-unmap}
use Rattle.cred_hold.specs.Tokens.{loan}
use Rattle.cred_tables.specs.Kept.{creds_in, cred_under, seen_in}
use Rattle.cred_tables.specs.Prepared.{prepared_as}
use Rattle.cred_tables.proofs.Returned.{cleared_creds}
use Rattle.cred_tables.proofs.TokensOfLabels.{base_apart, kept_alone, kept_spare}
use Rattle.cred_tables.proofs.Puts.{put_written}
use Rattle.cred_state.proofs.Seen.{seen_state}
use Rattle.cred_state.proofs.LentForEvent.{no_base}
use Rattle.cred_state.proofs.Reading.{found-place, found-sealed, is_found}
use Rattle.cred_state.proofs.Standing.{base-in_use}
use Rattle.cred_state.proofs.state.State.lend_kept.Goals as goal

pub returns-in_err-base-clause-none : goal.returns-in_err-base-clause-none
returns-in_err-base-clause-none c =
    rw c.from_residual.ensures (refl, no_base c.args.self.now.state c.requires.sound c.args.label (sym c.in_err-base.ensures))

pub lend-hold-requires-clause-sealed : goal.lend-hold-requires-clause-sealed
lend-hold-requires-clause-sealed c =
    let t = c.self.inside in
    let s = seen_state t in
    let base = rw (← c.self.view_is) at c.in_ok-base.ensures in
    found-sealed c.self.invariant.0 c.in_ok-base.base (is_found s.creds (λ (p : Prepared). p.base) (prepared_of s c.args.label) _ (sym base))
    (base-in_use s c.args.label _ (sym base))

pub lend_writer-writer-requires-clause-within : goal.lend_writer-writer-requires-clause-within
lend_writer-writer-requires-clause-within c =
    let t = c.self.inside in
    let s = seen_state t in
    let sound = rw (← c.self.view_is) at c.requires.sound in
    let each = All-unmap (λ n. n < SLOTS) (λ (p : Prepared). p.slot) s.prepared sound.slots.kept in
    (found (λ (p : Prepared). p.slot < SLOTS) (λ (p : Prepared). p.label == c.args.label) s.prepared _ (sym c.in_ok-slot.ensures) each).0

pub lend_writer-writer-requires-clause-alone : goal.lend_writer-writer-requires-clause-alone
lend_writer-writer-requires-clause-alone c =
    let t = c.self.inside in
    let s = seen_state t in
    let sound = rw (← c.self.view_is) at c.requires.sound in
    let are = rw (← c.self.view_is) at c.requires.out in
    let home = rw (← c.self.view_is) at c.requires.home in
    let base = rw (← c.self.view_is) at c.in_ok-base.ensures in
    let p : Prepared = prepared_as c.args.label c.in_ok-slot.field-0.now in
    let prepared : prepared_of s c.args.label ≡ Some p = sym c.in_ok-slot.ensures in
    let sealed : numbered s.creds p.base ≡ Some (seen_in s.creds c.in_ok-base.base)
    = sym (ap (option_and_then (λ (q : Prepared). numbered s.creds q.base)) prepared) ∙ sym base in
    let apart = (found (λ (q : Prepared). c.in_ok-base.base.slot ≢ q.slot) (λ (q : Prepared). q.label == c.args.label) s.prepared p prepared
    (base_apart s sound c.args.label p (seen_in s.creds c.in_ok-base.base) prepared sealed)).0 in
    rw c.lend-hold.ensures.loans (apart, kept_alone s sound c.args.label p prepared t.master.loans are home)

pub invariant_of-self : goal.invariant_of-self
invariant_of-self c =
    let t = c.self.inside in
    let s = seen_state t in
    let sound = rw (← c.self.view_is) at c.requires.sound in
    let p : Prepared = prepared_as c.args.label c.in_ok-slot.field-0.now in
    let prepared : prepared_of s c.args.label ≡ Some p = sym c.in_ok-slot.ensures in
    let label = c.args.label in
    let lent = loan label p.slot None ∷ loan label c.in_ok-base.base.slot (Some c.lend-hold.result.cred) ∷ [] in
    rw (c.lend_writer-writer.ensures.slots, c.lend-hold.ensures.rest.1, c.lend_writer-writer.ensures.loans, c.lend-hold.ensures.loans) (
      kept_spare c.self.invariant.0 sound label p prepared None,
      put_written t.prepared lent t.master.loans t.master.slots p.slot (λ alone. alone.0 refl) c.self.invariant.1,
    )

pub returns-clause-kept : goal.returns-clause-kept
returns-clause-kept c =
    let t = c.self.inside in
    let s = seen_state t in
    let own = rw (← c.self.view_is) at c.requires.own in
    let base = rw (← c.self.view_is) at c.in_ok-base.ensures in
    let p : Prepared = prepared_as c.args.label c.in_ok-slot.field-0.now in
    let prepared : prepared_of s c.args.label ≡ Some p = sym c.in_ok-slot.ensures in
    let sealed : numbered s.creds p.base ≡ Some (seen_in s.creds c.in_ok-base.base)
    = sym (ap (option_and_then (λ (q : Prepared). numbered s.creds q.base)) prepared) ∙ sym base in
    let place = found-place c.self.invariant.0 c.in_ok-base.base (is_found s.creds (λ (q : Prepared). q.base) (prepared_of s c.args.label) _ (sym base))
    (base-in_use s c.args.label _ (sym base)) in
    let cred : c.lend-hold.result.cred ≡ cred_under s.creds c.in_ok-base.base.number = same_Some _ _ (same_Some _ _ (sym c.lend-hold.ensures.cred ∙ place)) in
    let hold = c.lend-hold.ensures.hold in
    let w = c.lend_writer-writer.ensures.writer in
    rw (← c.self.view_is)
    (record {
      preparation = p;
      found = seen_in s.creds c.in_ok-base.base;
      prepared = prepared;
      sealed = sealed;
      base_is = λ k. record { id = (hold.0 ∙ own) k; label = hold.1 k; slot = hold.2 k; cred = cred k };
      writer_is = λ k. record { id = (w.0 ∙ c.lend-hold.ensures.rest.0 ∙ own) k; label = w.1 k; slot = w.2 k; put = w.3 k };
    })

pub returns-clause-lent : goal.returns-clause-lent
returns-clause-lent c =
    let t = c.self.inside in
    let s = seen_state t in
    let slot = c.in_ok-slot.field-0.now.slot in
    let h = c.lend-hold.result in
    let w = c.lend_writer-writer.result in
    let hold = c.lend-hold.ensures.hold in
    let writer = c.lend_writer-writer.ensures.writer in
    let new = c.lend_writer-writer.new.self in
    let places : new.slots ≡ slice_set t.master.slots w.slot None
    = c.lend_writer-writer.ensures.slots ∙ ap (λ (st : List (Option Credential)). slice_set st slot None) c.lend-hold.ensures.rest.1
    ∙ ap (λ (n : ℕ). slice_set t.master.slots n None) (sym writer.2) in
    let creds = ap (λ (st : List (Option Credential)). creds_in st t.slots.sealed) places ∙ cleared_creds t.master.slots w.slot t.slots.sealed in
    let id = c.lend_writer-writer.ensures.same ∙ c.lend-hold.ensures.rest.0 in
    let out = c.lend_writer-writer.ensures.loans
    ∙ (λ k. loan (sym writer.1 k) (sym writer.2 k) None ∷ c.lend-hold.ensures.loans k)
    ∙ (λ k. loan w.label w.slot None ∷ loan (sym hold.1 k) (sym hold.2 k) (Some h.cred) ∷ t.master.loans) in
    rw (← c.self.view_is)
    (λ k. record { state = record s { creds = creds k }; words = record { id = id k; out = out k }; places = places k })

pub returns-clause-standing : goal.returns-clause-standing
returns-clause-standing c =
    rw (← c.self.view_is) (record { put = c.self.invariant.1; slots = c.self.inside.slots.sealed; creds = refl })
