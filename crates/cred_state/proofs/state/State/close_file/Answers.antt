use Rattle.cred_state.proofs.Opening.{opener-held, close_kept, close_done}
use Rattle.cred_tables.proofs.Sealing.{drops}
use Rattle.cred_state.proofs.state.State.close_file.Goals as goal

pub drop_later-requires : goal.drop_later-requires
drop_later-requires c = opener-held c.self.invariant.0 c.in-Some.ensures.place _ c.in-Some.ensures.there

pub invariant_of-self-2 : goal.invariant_of-self-2
invariant_of-self-2 c =
    let gone = c.in-Some.ensures in
    rw gone.left (
      close_kept c.self.invariant.0 c.drop_later.new.self gone.place _ gone.there (drops c.drop_later.ensures.held c.drop_later.ensures.table),
      c.self.invariant.1,
    )

pub returns-clause-made : goal.returns-clause-made
returns-clause-made c =
    let gone = c.in-Some.ensures in
    rw (← c.self.view_is, gone.left)
    (close_done c.self.invariant.0 c.drop_later.new.self gone.place _ gone.there (drops c.drop_later.ensures.held c.drop_later.ensures.table)
    c.args.fd gone.found)
