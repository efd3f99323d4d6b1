use Rattle.std.proofs.Common.{◌==◌, ◌∙◌, ℕ, not, sym, ap}
use Rattle.std.proofs.lemmas.List.{length-reverse}
use Rattle.cred_broadcasts.proofs.one_broadcast.Broadcast.is_open.Goals as goal

pub returns : goal.returns
returns c =
    let waiting = c.self.inside.waiting in
    rw (← c.self.view_is)
    (ap not (c.is_empty.ensures ∙ ap (λ (n : ℕ). n == 0) (waiting.ok.0 ∙ sym (length-reverse waiting.items))))
