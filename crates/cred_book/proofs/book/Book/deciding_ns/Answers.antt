use Rattle.std.proofs.Common.{◌++◌, ℕ, subst}
use Rattle.std.specs.Option.{IfSome}
use Rattle.cred_model.specs.Script.{chain_of}
use Rattle.cred_model.specs.Journal.{replay}
use Rattle.cred_state.specs.TokensOut.{IsNs}
use Rattle.cred_book.specs.Book.{Recorded}
use Rattle.cred_book.specs.Works.{IsChainFor}
use Rattle.cred_book.proofs.Handed.{ns_chain, some_each}
use Rattle.cred_book.proofs.book.Book.deciding_ns.Goals as goal

pub returns-clause-chain : goal.returns-clause-chain
returns-clause-chain c =
    let b = c.self.inside in
    let event = c.args.event.now in
    let For : Recorded → ℕ → Type 0 = λ r ns. IsChainFor r event (chain_of r.script ns) in
    subst (λ (r : Recorded). IfSome c.deciding_ns.result (For r)) c.self.view_is
    (some_each (IsNs b.state.state event) _ c.deciding_ns.result
    (λ ns is. ns_chain b.script b.state.state (replay b.script (b.earlier ++ b.kept.items)) c.self.invariant.0.0 event ns is)
    c.deciding_ns.ensures.ns)
