use Rattle.std.proofs.Common.{◌≡◌, None, refl, sym, ap, ◌∙◌, arith}
use Rattle.cred_slots.specs.Table.{Table}
use Rattle.cred_slots.proofs.Tables.{held_is_referred}
use Rattle.cred_model.specs.State.{Prepared}
use Rattle.cred_model.proofs.Likes.{does_same}
use Rattle.cred_tables.proofs.Cleared.{free_within}
use Rattle.cred_tables.proofs.TokensOfLabels.{free_alone, free_apart}
use Rattle.cred_tables.proofs.Puts.{put_more}
use Rattle.cred_state.proofs.Seen.{seen_parts}
use Rattle.cred_state.proofs.Reading.{some_spare}
use Rattle.cred_tables.proofs.Free.{full_swept}
use Rattle.cred_state.proofs.Holding.{hold-held_found}
use Rattle.cred_state.proofs.Labelling.{claims, prepare_full, prepare_kept, prepare_done}
use Rattle.cred_tables.proofs.Sealing.{none_spare, roomy_spare}
use Rattle.cred_state.proofs.Reserved.{kept_spare, kept_swept}
use Rattle.cred_state.proofs.state.State.prepare.Goals as goal

pub returns-in_default-clause-ok : goal.returns-in_default-clause-ok
returns-in_default-clause-ok c =
    let t = c.self.inside in
    let may = rw (← c.self.view_is) at c.in-Ok.ensures in
    let none = sym c.in_default.ensures in
    rw (← c.self.view_is)
    (does_same _ _ _ (prepare_full c.self.invariant.0 c.sweep.new.self c.args.label c.args.task c.args.hold
    c.in-Ok.base may
    (none_spare t.slots c.in_ok-reserve.ensures.ok none)
    (roomy_spare (seen_parts t) t.master.slots t.slots _ _ _ c.in_ok-reserve.ensures.ok
    (c.sweep.ensures ∙ sym (full_swept c.reserve.new.self none)))))

pub claim-requires : goal.claim-requires
claim-requires c = sym c.in-Some.ensures

pub add-requires-clause-referred : goal.add-requires-clause-referred
add-requires-clause-referred c =
    let t = c.self.inside in
    let may = rw (← c.self.view_is) at c.in-Ok.ensures in
    let held : c.claim.new.self.held ≡ t.slots.held =
    ap (λ (x : Table). x.held) c.claim.ensures.table ∙ ap (λ (x : Table). x.held) c.in_ok-reserve.ensures.ok in
    held_is_referred c.claim.new.self c.in-Ok.base
    (rw (held, ← may.is) (hold-held_found c.self.invariant.0 c.args.hold may.base may.has))

pub invariant_of-self-2 : goal.invariant_of-self-2
invariant_of-self-2 c =
    let t = c.self.inside in
    let slot = c.in-Some.slot in
    let may = rw (← c.self.view_is) at c.in-Ok.ensures in
    let claim = claims t.slots c.reserve.new.self c.claim.new.self c.add.new.self _ _ c.in-Ok.base slot c.in_ok-reserve.ensures.ok
    c.in-Some.ensures c.claim.ensures.table c.claim.ensures.kept c.add.ensures.held c.add.ensures.table in
    let p : Prepared = record { label = c.args.label; task = c.args.task; base = c.in-Ok.base; slot = slot; changed = None } in
    rw (c.in_ok-prepare.ensures.ok, c.clear.ensures.made) (
      prepare_kept c.self.invariant.0 c.add.new.self p claim
          (rw (← may.is) (hold-held_found c.self.invariant.0 c.args.hold may.base may.has)),
      put_more t.prepared p t.master.loans t.master.slots refl (omega (arith, c.clear.ensures.long, free_within t.slots slot claim.takes))
          (free_apart c.self.invariant.0 slot claim.takes) c.self.invariant.1,
    )

pub clear-requires-clause-within : goal.clear-requires-clause-within
clear-requires-clause-within c =
    let slot = c.in-Some.slot in
    free_within c.self.inside.slots slot (some_spare c.self.inside.slots c.in_ok-reserve.ensures.ok (sym c.in-Some.ensures))

pub clear-requires-clause-alone : goal.clear-requires-clause-alone
clear-requires-clause-alone c =
    let slot = c.in-Some.slot in
    free_alone c.self.invariant.0 slot (some_spare c.self.inside.slots c.in_ok-reserve.ensures.ok (sym c.in-Some.ensures)) _
    (rw (← c.self.view_is) at c.requires.out)

pub returns-clause-ok : goal.returns-clause-ok
returns-clause-ok c =
    let t = c.self.inside in
    let slot = c.in-Some.slot in
    let may = rw (← c.self.view_is) at c.in-Ok.ensures in
    let claim = claims t.slots c.reserve.new.self c.claim.new.self c.add.new.self _ _ c.in-Ok.base slot c.in_ok-reserve.ensures.ok
    c.in-Some.ensures c.claim.ensures.table c.claim.ensures.kept c.add.ensures.held c.add.ensures.table in
    rw (← c.self.view_is, c.in_ok-prepare.ensures.ok, c.clear.ensures.made, ← may.is)
    (prepare_done c.self.invariant.0 c.add.new.self c.args.label c.args.task c.args.hold slot c.in-Ok.base may
    (rw may.is claim) (hold-held_found c.self.invariant.0 c.args.hold may.base may.has))

pub invariant_of-self : goal.invariant_of-self
invariant_of-self c = rw c.in_err-reserve.ensures.err c.self.invariant

pub invariant_of-self-in_default : goal.invariant_of-self-in_default
invariant_of-self-in_default c = (kept_swept (kept_spare c.self.invariant.0 c.in_ok-reserve.ensures.ok) c.sweep.ensures, c.self.invariant.1)

pub invariant_of-self-in_err-prepare : goal.invariant_of-self-in_err-prepare
invariant_of-self-in_err-prepare c = rw c.in_err-prepare.ensures.err (kept_spare c.self.invariant.0 c.in_ok-reserve.ensures.ok, c.self.invariant.1)
