use Rattle.std.proofs.Common.{◌<◌, arith, sym}
use Rattle.cred_ids.specs.Limits.{SLOTS}
use Rattle.cred_slots.specs.Rows.{unused}
use Rattle.cred_slots.proofs.Sound.{row_fits}
use Rattle.cred_slots.proofs.Uses.{uses_here, uses_beyond, one_number}
use Rattle.cred_slots.proofs.slots.Slots.uses.Goals as goal

pub overflow_add-result : goal.overflow_add-result
overflow_add-result c =
    let s = c.self.inside in
    let found = (rw c.deref.ensures.value at c.in-Some.ensures.lookup).3 in
    let row = found.1 unused in
    let within : c.args.slot < SLOTS = omega (arith, found.0, c.self.invariant.all_rows) in
    rw row (omega (arith, row_fits c.self.invariant c.args.slot within, s.deferred.small))

pub returns-in-Some-clause-uses : goal.returns-in-Some-clause-uses
returns-in-Some-clause-uses c =
    let found = (rw c.deref.ensures.value at c.in-Some.ensures.lookup).3 in
    let row = found.1 unused in
    let within : c.args.slot < SLOTS = omega (arith, found.0, c.self.invariant.all_rows) in
    rw (← c.self.view_is, row) (uses_here c.self.invariant c.args.slot within)

pub returns-in-Some-clause-one_number : goal.returns-in-Some-clause-one_number
returns-in-Some-clause-one_number c =
    let found = (rw c.deref.ensures.value at c.in-Some.ensures.lookup).3 in
    let row = found.1 unused in
    rw (← c.self.view_is, row) (one_number c.self.invariant c.args.slot)

pub returns-in-None-clause-uses : goal.returns-in-None-clause-uses
returns-in-None-clause-uses c =
    let none = (rw c.deref.ensures.value at c.in-None.ensures.lookup).3 in
    rw (← c.self.view_is) (sym (uses_beyond c.self.invariant c.args.slot (omega (arith, none, c.self.invariant.all_rows))))
