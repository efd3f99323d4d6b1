use Rattle.std.proofs.Common.{◌==◌, ◌∙◌, ℕ, sym}
use Rattle.cred_broadcasts.proofs.Falling.{any-reverse}
use Rattle.cred_broadcasts.proofs.one_broadcast.Broadcast.waits.Goals as goal

pub returns : goal.returns
returns c =
    rw (← c.self.view_is)
    (rw (c.deref.ensures.value) at c.contains.ensures.value ∙ sym (any-reverse (λ (n : ℕ). n == c.args.task) c.self.inside.waiting.items))
