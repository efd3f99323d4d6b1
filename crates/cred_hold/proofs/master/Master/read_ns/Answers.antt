use Rattle.std.proofs.Common.{ap, ◌∙◌, arith}
use Rattle.std.specs.Prelude.{slice_get}
use Rattle.cred_words.specs.Words.{words_at}
use Rattle.cred_words.proofs.Opens.{width_is}
use Rattle.cred_hold.proofs.Within.{knows, master_again}
use Rattle.cred_hold.proofs.master.Master.read_ns.Goals as goal

pub load_sealed-requires : goal.load_sealed-requires
load_sealed-requires c =
    let i = c.self.invariant in
    let s = c.requires.sealed in
    let x = knows c.self.inside.inner.ledger c.args.slot s.0 i.1 (ap (λ m. slice_get m.slots c.args.slot) c.self.view_is ∙ s.1) in
    let w = width_is in
    (omega arith, (ap (λ m. m.id) c.self.view_is ∙ c.requires.own, (i.0, (x.sealed, (x.wide, omega arith)))))

pub invariant_of-self : goal.invariant_of-self
invariant_of-self c = master_again _ _ c.load_sealed.ensures.same.1 c.self.invariant

pub ns_from_valid-requires : goal.ns_from_valid-requires
ns_from_valid-requires c =
    let s = c.requires.sealed in
    let x = knows c.self.inside.inner.ledger c.args.slot s.0 c.self.invariant.1 (ap (λ m. slice_get m.slots c.args.slot) c.self.view_is ∙ s.1) in
    (words_at c.self.inside.inner.ledger.slots c.args.slot, x.are, c.load_sealed.ensures.words)

pub returns-clause-ns : goal.returns-clause-ns
returns-clause-ns c d at =
    let x = knows c.self.inside.inner.ledger c.args.slot d c.self.invariant.1 (ap (λ m. slice_get m.slots c.args.slot) c.self.view_is ∙ at) in
    let e = c.ns_from_valid.ensures (words_at c.self.inside.inner.ledger.slots c.args.slot) x.are c.load_sealed.ensures.words in
    e ∙ ap (λ c. c.ns) x.cred
