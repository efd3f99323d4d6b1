use Rattle.std.proofs.Common.{◌==◌, ◌∙◌, ℕ, sym, ap}
use Rattle.std.specs.List.{list_any}
use Rattle.cred_plain.proofs.Falling.{any_turned}
use Rattle.cred_plain.proofs.broadcasts.Broadcast.waits.Goals as goal

pub returns : goal.returns
returns c =
    let test = λ (n : ℕ). n == c.args.task in
    rw (← c.self.view_is) (c.contains.ensures.value ∙ ap (list_any test) c.deref.ensures.value ∙ sym (any_turned test c.self.inside.falling.items))
