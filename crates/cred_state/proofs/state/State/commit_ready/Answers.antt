use Rattle.std.proofs.Common.{◌≡◌, ◌==◌, ℕ, Some, length, is_some, refl, sym, ap, ◌∙◌, subst}
use Rattle.std.specs.Option.{option_and_then}
use Rattle.cred_event.specs.declared.event.Change.{Change}
use Rattle.cred_model.specs.State.{Changed, Prepared}
use Rattle.cred_model.specs.Moves.{with_current}
use Rattle.cred_model.specs.LabelEvents.{is_access}
use Rattle.cred_model.proofs.Places.{find-at}
use Rattle.cred_model.specs.Broadcasts.{broadcasts_left}
use Rattle.cred_slots.specs.Table.{Table}
use Rattle.cred_procs.specs.Tasks.{task_in}
use Rattle.cred_tables.specs.Kept.{SealsKept}
use Rattle.cred_tables.specs.Prepared.{changed_of}
use Rattle.cred_state.proofs.Seen.{seen_state}
use Rattle.cred_state.proofs.Commits.{goes_on, owner-held, base-held_still, slot-kept_still, commit_kept, commit_done}
use Rattle.cred_tables.proofs.Ending.{EndsWith, ends_so, ended-held}
use Rattle.cred_tables.proofs.Labels.{same_label}
use Rattle.cred_tables.proofs.Owners.{has_process_of, owner_process, own_owner}
use Rattle.cred_tables.proofs.Sealing.{drops}
use Rattle.cred_tables.proofs.Puts.{put_less}
use Rattle.cred_state.proofs.Keeping.{committed_words}
use Rattle.cred_state.proofs.Reserved.{kept_spare}
use Rattle.cred_state.proofs.Traces.{flags_are}
use Rattle.cred_state.proofs.state.State.commit_ready.Goals as goal

pub unwrap-process-requires : goal.unwrap-process-requires
unwrap-process-requires c =
    let lives = rw (← c.self.view_is) at c.requires.current in
    has_process_of c.self.inside.tasks c.args.task c.args.now lives c.process_of.ensures

pub drop_all-requires : goal.drop_all-requires
drop_all-requires c =
    let lives = rw (← c.self.view_is) at c.requires.current in
    ended-held c.self.invariant.0 c.args.change c.end_with.new.tasks c.in_ok-ended.ended.tasks c.in_ok-ended.ended.numbers c.items.result.now
    c.reserve.new.self.held
    (task_in c.self.inside.tasks c.args.task) lives c.in_ok-ended.ensures.ended c.items.ensures
    (ap (λ (x : Table). x.held) c.in_ok-reserve.ensures.ok)

pub drop_later-requires : goal.drop_later-requires
drop_later-requires c =
    let t = c.self.inside in
    let ready = rw (← c.self.view_is) at c.requires.ready in
    let lives = rw (← c.self.view_is) at c.requires.current in
    let now = c.args.now in
    let e = ends_so c.args.change t.tasks c.end_with.new.tasks t.slots c.args.task now lives c.in_ok-ended.ensures.ended
    c.in_ok-reserve.ensures.ok c.items.ensures c.drop_all.ensures.held c.drop_all.ensures.table in
    owner-held c.self.invariant.0 c.args.change now c.args.task e

pub seal_kept-number-requires-clause-slot : goal.seal_kept-number-requires-clause-slot
seal_kept-number-requires-clause-slot c =
    let t = c.self.inside in
    let ready = rw (← c.self.view_is) at c.requires.ready in
    let lives = rw (← c.self.view_is) at c.requires.current in
    let now = c.args.now in
    let e = ends_so c.args.change t.tasks c.end_with.new.tasks t.slots c.args.task now lives c.in_ok-ended.ensures.ended
    c.in_ok-reserve.ensures.ok c.items.ensures c.drop_all.ensures.held c.drop_all.ensures.table in
    let gives = c.finish-last.ensures in
    let same = same_label t.prepared c.finish-last.new.self c.args.label c.args.task now c.finish-last.result.0.base c.finish-last.result.0.slot c.args.change
    c.finish-last.result.1 ready gives in
    let own =
    subst (λ (n : ℕ). EndsWith c.args.change t.tasks c.end_with.new.tasks t.slots c.drop_all.new.slots n now c.in_ok-ended.ended.tasks) (sym same.0) e in
    let less = drops c.drop_later.ensures.held c.drop_later.ensures.table in
    slot-kept_still c.self.invariant.0 gives.gives.place _ gives.gives.there c.args.change now own less

pub seal_kept-number-requires-clause-base : goal.seal_kept-number-requires-clause-base
seal_kept-number-requires-clause-base c =
    let t = c.self.inside in
    let ready = rw (← c.self.view_is) at c.requires.ready in
    let lives = rw (← c.self.view_is) at c.requires.current in
    let now = c.args.now in
    let e = ends_so c.args.change t.tasks c.end_with.new.tasks t.slots c.args.task now lives c.in_ok-ended.ensures.ended
    c.in_ok-reserve.ensures.ok c.items.ensures c.drop_all.ensures.held c.drop_all.ensures.table in
    let gives = c.finish-last.ensures in
    let same = same_label t.prepared c.finish-last.new.self c.args.label c.args.task now c.finish-last.result.0.base c.finish-last.result.0.slot c.args.change
    c.finish-last.result.1 ready gives in
    let own =
    subst (λ (n : ℕ). EndsWith c.args.change t.tasks c.end_with.new.tasks t.slots c.drop_all.new.slots n now c.in_ok-ended.ended.tasks) (sym same.0) e in
    let less = drops c.drop_later.ensures.held c.drop_later.ensures.table in
    base-held_still c.self.invariant.0 gives.gives.place _ gives.gives.there c.args.change now own less (sym same.1)

pub set_current-requires : goal.set_current-requires
set_current-requires c =
    let t = c.self.inside in
    let ready = rw (← c.self.view_is) at c.requires.ready in
    let lives = rw (← c.self.view_is) at c.requires.current in
    let now = c.args.now in
    let e = ends_so c.args.change t.tasks c.end_with.new.tasks t.slots c.args.task now lives c.in_ok-ended.ensures.ended
    c.in_ok-reserve.ensures.ok c.items.ensures c.drop_all.ensures.held c.drop_all.ensures.table in
    ap is_some (goes_on e)

pub invariant_of-self-2 : goal.invariant_of-self-2
invariant_of-self-2 c =
    let t = c.self.inside in
    let ready = rw (← c.self.view_is) at c.requires.ready in
    let lives = rw (← c.self.view_is) at c.requires.current in
    let now = c.args.now in
    let e = ends_so c.args.change t.tasks c.end_with.new.tasks t.slots c.args.task now lives c.in_ok-ended.ensures.ended
    c.in_ok-reserve.ensures.ok c.items.ensures c.drop_all.ensures.held c.drop_all.ensures.table in
    let gives = c.finish-last.ensures in
    let same = same_label t.prepared c.finish-last.new.self c.args.label c.args.task now c.finish-last.result.0.base c.finish-last.result.0.slot c.args.change
    c.finish-last.result.1 ready gives in
    let own =
    subst (λ (n : ℕ). EndsWith c.args.change t.tasks c.end_with.new.tasks t.slots c.drop_all.new.slots n now c.in_ok-ended.ended.tasks) (sym same.0) e in
    let less = drops c.drop_later.ensures.held c.drop_later.ensures.table in
    let sound = rw (← c.self.view_is) at c.requires.sound in
    let seals : SealsKept c.drop_later.new.self c.seal_kept-number.new.slots c.seal_kept-number.result c.finish-last.result.0.base c.finish-last.result.0.slot
    = c.seal_kept-number.ensures in
    let tasks : c.set_current.new.self ≡ with_current c.end_with.new.tasks gives.task c.seal_kept-number.result
    = c.set_current.ensures.tasks ∙ ap (λ (n : ℕ). with_current c.end_with.new.tasks n c.seal_kept-number.result) (sym same.0) in
    let out = rw (← c.self.view_is) at c.requires.out in
    let home = rw (← c.self.view_is) at c.requires.home in
    let words =
    committed_words t.master.loans c.self.invariant c.args.label gives.gives.place _ gives.gives.found gives.gives.there c.finish-last.result.1 refl sound out
    home in
    let change : c.last.inside.change ≡ c.args.change = ap (λ (x : Changed). x.change) c.last.view_is ∙ same.2 in
    let process = owner_process t.tasks c.args.task c.unwrap-process.result e.owner e.lives c.unwrap-process.ensures c.process_of.ensures in
    let broadcasts : c.drop_broadcast.new.broadcasts ≡ broadcasts_left c.args.change e.owner.process t.broadcasts
    = c.drop_broadcast.ensures ∙ ap (λ (x : Change). broadcasts_left x c.unwrap-process.result t.broadcasts) change
    ∙ ap (λ (n : ℕ). broadcasts_left c.args.change n t.broadcasts) process in
    let s = seen_state t in
    let changed : changed_of t.prepared c.args.label ≡ Some c.finish-last.result.1
    = ap (option_and_then (λ (p : Prepared). p.changed))
    (find-at (λ (p : Prepared). p.label == c.args.label) t.prepared gives.gives.place _
    gives.gives.found gives.gives.there) in
    let flags = flags_are s c.args.task c.unwrap-process.result e.owner c.finish-last.result.1 _ _
    c.args.ids_changed c.commit.new.self c.commit.ensures
    (ap (λ (x : Changed). x.change) c.last.view_is) (ap (λ (x : Changed). x.gains) c.last.view_is)
    process ((rw (← c.self.view_is) at c.requires.ids_changed) c.finish-last.result.1 changed) e.lives in
    rw (tasks, broadcasts, gives.gives.left, flags) (
      commit_kept c.self.invariant.0 gives.gives.place _ gives.gives.there c.args.change now own less c.seal_kept-number.new.slots
          c.finish-last.result.1 words seals sound.tasks sound.slots.own,
      put_less t.prepared gives.gives.place t.master.loans t.master.slots c.self.invariant.1,
    )

pub returns-clause-ok : goal.returns-clause-ok
returns-clause-ok c =
    let t = c.self.inside in
    let ready = rw (← c.self.view_is) at c.requires.ready in
    let lives = rw (← c.self.view_is) at c.requires.current in
    let now = c.args.now in
    let e = ends_so c.args.change t.tasks c.end_with.new.tasks t.slots c.args.task now lives c.in_ok-ended.ensures.ended
    c.in_ok-reserve.ensures.ok c.items.ensures c.drop_all.ensures.held c.drop_all.ensures.table in
    let gives = c.finish-last.ensures in
    let same = same_label t.prepared c.finish-last.new.self c.args.label c.args.task now c.finish-last.result.0.base c.finish-last.result.0.slot c.args.change
    c.finish-last.result.1 ready gives in
    let own =
    subst (λ (n : ℕ). EndsWith c.args.change t.tasks c.end_with.new.tasks t.slots c.drop_all.new.slots n now c.in_ok-ended.ended.tasks) (sym same.0) e in
    let less = drops c.drop_later.ensures.held c.drop_later.ensures.table in
    let sound = rw (← c.self.view_is) at c.requires.sound in
    let seals : SealsKept c.drop_later.new.self c.seal_kept-number.new.slots c.seal_kept-number.result c.finish-last.result.0.base c.finish-last.result.0.slot
    = c.seal_kept-number.ensures in
    let tasks : c.set_current.new.self ≡ with_current c.end_with.new.tasks gives.task c.seal_kept-number.result
    = c.set_current.ensures.tasks ∙ ap (λ (n : ℕ). with_current c.end_with.new.tasks n c.seal_kept-number.result) (sym same.0) in
    let out = rw (← c.self.view_is) at c.requires.out in
    let home = rw (← c.self.view_is) at c.requires.home in
    let words =
    committed_words t.master.loans c.self.invariant c.args.label gives.gives.place _ gives.gives.found gives.gives.there c.finish-last.result.1 refl sound out
    home in
    let allowed = rw (← c.self.view_is) at c.requires.allowed in
    let idle = rw (← c.self.view_is) at c.requires.idle in
    let gains : c.last.inside.gains ≡ c.finish-last.result.1.gains = ap (λ (x : Changed). x.gains) c.last.view_is in
    let change : c.last.inside.change ≡ c.args.change = ap (λ (x : Changed). x.change) c.last.view_is ∙ same.2 in
    let process = owner_process t.tasks c.args.task c.unwrap-process.result e.owner e.lives c.unwrap-process.ensures c.process_of.ensures in
    let broadcasts : c.drop_broadcast.new.broadcasts ≡ broadcasts_left c.args.change e.owner.process t.broadcasts
    = c.drop_broadcast.ensures ∙ ap (λ (x : Change). broadcasts_left x c.unwrap-process.result t.broadcasts) change
    ∙ ap (λ (n : ℕ). broadcasts_left c.args.change n t.broadcasts) process in
    let s = seen_state t in
    let changed : changed_of t.prepared c.args.label ≡ Some c.finish-last.result.1
    = ap (option_and_then (λ (p : Prepared). p.changed))
    (find-at (λ (p : Prepared). p.label == c.args.label) t.prepared gives.gives.place _
    gives.gives.found gives.gives.there) in
    let flags = flags_are s c.args.task c.unwrap-process.result e.owner c.finish-last.result.1 _ _
    c.args.ids_changed c.commit.new.self c.commit.ensures
    (ap (λ (x : Changed). x.change) c.last.view_is) (ap (λ (x : Changed). x.gains) c.last.view_is)
    process ((rw (← c.self.view_is) at c.requires.ids_changed) c.finish-last.result.1 changed) e.lives in
    rw (← c.self.view_is, tasks, broadcasts, gives.gives.left, flags, c.committed_by.ensures, gains, change)
    (commit_done c.self.invariant.0 gives.gives.place _ gives.gives.there c.args.change now own less c.seal_kept-number.new.slots
    c.finish-last.result.1 words seals sound.tasks sound.slots.own c.args.label (length c.items-2.result.now) gives.gives.found refl
    (ap is_access same.2 ∙ ready.for_task) (rw same.0 idle)
    (own_owner (seen_state t) gives.task own.owner own.lives
    (rw same.0 allowed))
    same.2 (sym same.1)
    (ap length c.items-2.ensures))

pub invariant_of-self : goal.invariant_of-self
invariant_of-self c = rw c.in_err-reserve.ensures.err c.self.invariant

pub invariant_of-self-in_err-ended : goal.invariant_of-self-in_err-ended
invariant_of-self-in_err-ended c = rw c.in_err-ended.ensures.err (kept_spare c.self.invariant.0 c.in_ok-reserve.ensures.ok, c.self.invariant.1)
