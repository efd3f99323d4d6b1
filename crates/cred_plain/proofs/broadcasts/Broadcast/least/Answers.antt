use Rattle.std.proofs.Common.{◌-◌, ◌∙◌, ℕ, List, length, slice_get, sym, ap}
use Rattle.cred_plain.proofs.Falling.{last_is}
use Rattle.cred_plain.proofs.broadcasts.Broadcast.least.Goals as goal

pub returns : goal.returns
returns c =
    rw (← c.self.view_is)
    (c.copied.ensures ∙ c.last.ensures.value ∙ ap (λ (ns : List ℕ). slice_get ns (length ns - 1)) c.deref.ensures.value
    ∙ sym (last_is c.self.inside.falling.items))
