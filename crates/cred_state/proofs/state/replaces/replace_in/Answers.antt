use Rattle.cred_state.proofs.Reading.{found-there}
use Rattle.cred_state.proofs.Replacing.{alone, apart, held, lives, sealed, stands, there}
use Rattle.cred_state.proofs.state.replaces.replace_in.Goals as goal

pub renew_in-requires : goal.renew_in-requires
renew_in-requires c = lives c.requires.may

pub set_like-requires-clause-sealed : goal.set_like-requires-clause-sealed
set_like-requires-clause-sealed c = sealed c.requires.may

pub set_like-requires-clause-alone : goal.set_like-requires-clause-alone
set_like-requires-clause-alone c = alone c.requires.may

pub set_like-requires-clause-apart : goal.set_like-requires-clause-apart
set_like-requires-clause-apart c = apart c.requires.may c.seal_next-number.ensures

pub set_like-requires-clause-valid : goal.set_like-requires-clause-valid
set_like-requires-clause-valid c =
    λ x at. rw (found-there c.args.master.now.slots c.args.slots.now.sealed c.args.now (there c.requires.may) x at) c.requires.valid

pub set_current-requires : goal.set_current-requires
set_current-requires c = lives c.requires.may

pub drop_later-requires : goal.drop_later-requires
drop_later-requires c = held c.requires.may c.seal_next-number.ensures

pub returns-clause-table : goal.returns-clause-table
returns-clause-table c = record {
  between = c.seal_next-number.new.slots;
  seals = c.seal_next-number.ensures;
  held = c.drop_later.ensures.held;
  made = c.drop_later.ensures.table;
}

pub returns-clause-words : goal.returns-clause-words
returns-clause-words c = c.set_like.ensures.made _ (stands c.requires.may)
