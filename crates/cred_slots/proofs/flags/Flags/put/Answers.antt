use Rattle.cred_slots.proofs.Words.{flags_of-put}
use Rattle.cred_slots.proofs.flags.Flags.put.Goals as goal

pub returns : goal.returns
returns c =
    let same = c.put_bit.ensures.same in
    let others = c.put_bit.ensures.others in
    rw (← c.self.view_is) (flags_of-put c.self.inside.words c.args.slot _ c.args.flag c.self.told c.requires same others)
