use Rattle.std.proofs.Common.{Bool, cond, sym, ap, ◌∙◌}
use Rattle.cred_event.specs.declared.answer.Answer.TheVariants.{Done, Eperm}
use Rattle.cred_model.specs.Script.{reaches}
use Rattle.cred_model.specs.State.{Hold, hold_of}
use Rattle.cred_tables.specs.Kept.{cred_under, seen_in}
use Rattle.cred_state.proofs.Seen.{seen_state}
use Rattle.cred_state.proofs.Reading.{is_found}
use Rattle.cred_state.proofs.Standing.{held-in_use}
use Rattle.cred_state.proofs.Traces.{trace_no_other, trace_no_own, trace_no_receiver, trace_no_sender, traces}
use Rattle.cred_state.proofs.state.State.trace.Goals as goal

pub read_seen-asker-requires-clause-found : goal.read_seen-asker-requires-clause-found
read_seen-asker-requires-clause-found c =
    let s = c.args.self.now.state in
    is_found s.creds (λ (h : Hold). h.number) (hold_of s c.args.hold) _
    (sym c.in-Some-held.ensures)

pub read_seen-seen-requires-clause-found : goal.read_seen-seen-requires-clause-found
read_seen-seen-requires-clause-found c =
    let s = c.args.self.now.state in
    rw c.read_seen-asker.ensures.same
    (is_found s.creds (λ (h : Hold). h.number) (hold_of s c.args.target) _
    (sym c.in-Some-held-2.ensures))

pub read_seen-asker-requires-clause-used : goal.read_seen-asker-requires-clause-used
read_seen-asker-requires-clause-used c =
    held-in_use c.args.self.now.state c.args.hold _ (sym c.in-Some-held.ensures)

pub read_seen-seen-requires-clause-used : goal.read_seen-seen-requires-clause-used
read_seen-seen-requires-clause-used c =
    rw c.read_seen-asker.ensures.same
    (held-in_use c.args.self.now.state c.args.target _ (sym c.in-Some-held-2.ensures))

pub returns-in_default-clause-made : goal.returns-in_default-clause-made
returns-in_default-clause-made c =
    let t = c.self.inside in
    let s = seen_state t in
    rw (← c.self.view_is) (trace_no_sender c.args.script.now s c.args.from c.args.hold c.args.to c.args.target c.args.mode c.in_default.ensures)

pub returns-in_default-process_of-clause-made : goal.returns-in_default-process_of-clause-made
returns-in_default-process_of-clause-made c =
    let t = c.self.inside in
    let s = seen_state t in
    rw (← c.self.view_is)
    (trace_no_receiver c.args.script.now s c.args.from c.args.hold c.args.to c.args.target c.args.mode
    c.in-Some.sender c.in-Some.ensures c.in_default-process_of.ensures)

pub returns-in_default-held-clause-made : goal.returns-in_default-held-clause-made
returns-in_default-held-clause-made c =
    let t = c.self.inside in
    let s = seen_state t in
    rw (← c.self.view_is)
    (trace_no_own c.args.script.now s c.args.from c.args.hold c.args.to c.args.target c.args.mode
    c.in-Some.sender c.in-Some.ensures c.in-Some-process_of.receiver c.in-Some-process_of.ensures
    (rw (← c.self.view_is) at (sym c.in_default-held.ensures)))

pub returns-in_default-held-2-clause-made : goal.returns-in_default-held-2-clause-made
returns-in_default-held-2-clause-made c =
    let t = c.self.inside in
    let s = seen_state t in
    rw (← c.self.view_is)
    (trace_no_other c.args.script.now s c.args.from c.args.hold c.args.to c.args.target c.args.mode
    c.in-Some.sender c.in-Some.ensures c.in-Some-process_of.receiver c.in-Some-process_of.ensures
    (seen_in s.creds c.in-Some-held.own) (rw (← c.self.view_is) at (sym c.in-Some-held.ensures))
    (rw (← c.self.view_is) at (sym c.in_default-held-2.ensures)))

pub returns-then-may_trace_by-clause-made : goal.returns-then-may_trace_by-clause-made
returns-then-may_trace_by-clause-made c =
    let t = c.self.inside in
    let s = seen_state t in
    let own = rw (← c.self.view_is) at (sym c.in-Some-held.ensures) in
    let other = rw (← c.self.view_is) at (sym c.in-Some-held-2.ensures) in
    let asker = rw (← c.self.view_is) at c.read_seen-asker.ensures.seen in
    let seen = rw (c.read_seen-asker.ensures.same, ← c.self.view_is) at c.read_seen-seen.ensures.seen in
    let within = c.reaches-reach.ensures
    ∙ (λ i. reaches c.args.script.now.namespaces (asker i).ns (seen i).ns) in
    rw (c.read_seen-seen.ensures.same, c.read_seen-asker.ensures.same, ← c.self.view_is)
    (traces c.args.script.now s c.args.from c.args.hold c.args.to c.args.target c.args.mode
    c.in-Some.sender c.in-Some.ensures c.in-Some-process_of.receiver c.in-Some-process_of.ensures
    (seen_in s.creds c.in-Some-held.own) (seen_in s.creds c.in-Some-held-2.other) own other
    c.reaches-reach.result c.is_dumpable-dumpable.result c.may_trace_by.result within
    c.is_dumpable-dumpable.ensures
    (c.may_trace_by.ensures (cred_under s.creds c.in-Some-held.own.number)
    (cred_under s.creds c.in-Some-held-2.other.number) asker seen)
    ∙ ap (λ (b : Bool). cond b (Done, s) (Eperm, s)) c.if-may_trace_by.true)

pub returns-else-may_trace_by-clause-made : goal.returns-else-may_trace_by-clause-made
returns-else-may_trace_by-clause-made c =
    let t = c.self.inside in
    let s = seen_state t in
    let own = rw (← c.self.view_is) at (sym c.in-Some-held.ensures) in
    let other = rw (← c.self.view_is) at (sym c.in-Some-held-2.ensures) in
    let asker = rw (← c.self.view_is) at c.read_seen-asker.ensures.seen in
    let seen = rw (c.read_seen-asker.ensures.same, ← c.self.view_is) at c.read_seen-seen.ensures.seen in
    let within = c.reaches-reach.ensures
    ∙ (λ i. reaches c.args.script.now.namespaces (asker i).ns (seen i).ns) in
    rw (c.read_seen-seen.ensures.same, c.read_seen-asker.ensures.same, ← c.self.view_is)
    (traces c.args.script.now s c.args.from c.args.hold c.args.to c.args.target c.args.mode
    c.in-Some.sender c.in-Some.ensures c.in-Some-process_of.receiver c.in-Some-process_of.ensures
    (seen_in s.creds c.in-Some-held.own) (seen_in s.creds c.in-Some-held-2.other) own other
    c.reaches-reach.result c.is_dumpable-dumpable.result c.may_trace_by.result within
    c.is_dumpable-dumpable.ensures
    (c.may_trace_by.ensures (cred_under s.creds c.in-Some-held.own.number)
    (cred_under s.creds c.in-Some-held-2.other.number) asker seen)
    ∙ ap (λ (b : Bool). cond b (Done, s) (Eperm, s)) c.if-may_trace_by.false)
