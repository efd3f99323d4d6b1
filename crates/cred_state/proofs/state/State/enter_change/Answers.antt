use Rattle.std.proofs.Common.{ℕ, List, None, map, ap, ◌∙◌, subst}
use Rattle.cred_model.specs.State.{Prepared}
use Rattle.cred_words.specs.Lists.{Has}
use Rattle.cred_hold.specs.Tokens.{loan}
use Rattle.cred_tables.proofs.Returned.{has_taken}
use Rattle.cred_tables.proofs.InUse.{kept-altered}
use Rattle.cred_tables.proofs.Stored.{does_made}
use Rattle.cred_state.proofs.Entering.{alter_made, alter_refused}
use Rattle.cred_state.proofs.Returns.{writer_is}
use Rattle.cred_state.proofs.state.State.enter_change.Goals as goal

pub returns-in-Ok-clause-made : goal.returns-in-Ok-clause-made
returns-in-Ok-clause-made c = λ script chain base right own.
    let s = c.args.self.now.state in
    let out = c.args.self.now.words.out in
    let slot = c.args.writer.slot in
    let r = rw (c.in-Ok.is, ← c.made.view_is) at right in
    let has = subst (λ (n : ℕ). Has out (loan n slot None)) c.requires.label (has_taken out _ c.change_to.new.self.words.out c.change_to.ensures.taken) in
    let w = writer_is s out c.args.label slot c.requires.out has in
    does_made (alter_made script s c.args.label c.args.change w.preparation w.base w.prepared w.sealed base own chain _ r)
    c.change_to.ensures.like

pub returns-in-Ok-clause-kept : goal.returns-in-Ok-clause-kept
returns-in-Ok-clause-kept c =
    ap (λ (ps : List Prepared). map (λ (p : Prepared). p.slot) ps) c.change_to.ensures.like.prepared
    ∙ kept-altered c.args.self.now.state c.args.label _

pub returns-in-Err-clause-made : goal.returns-in-Err-clause-made
returns-in-Err-clause-made c = λ script chain base right own.
    let s = c.args.self.now.state in
    let out = c.args.self.now.words.out in
    let slot = c.args.writer.slot in
    let r = rw c.in-Err.is at right in
    let has = subst (λ (n : ℕ). Has out (loan n slot None)) c.requires.label (has_taken out _ c.put_earlier.new.self.words.out c.put_earlier.ensures.taken) in
    let w = writer_is s out c.args.label slot c.requires.out has in
    does_made (alter_refused script s c.args.label c.args.change w.preparation w.base w.prepared w.sealed base own chain _ r)
    c.put_earlier.ensures.like
