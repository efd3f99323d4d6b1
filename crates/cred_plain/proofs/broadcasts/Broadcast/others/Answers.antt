use Rattle.std.proofs.Common.{◌≡◌, ◌∙◌, ◌-◌, ◌≤◌, length, reverse, slice_get, Some, sym, ap, arith}
use Rattle.std.specs.Option.{option_copied}
use Rattle.std.proofs.lemmas.List.{length-reverse}
use Rattle.cred_model.proofs.Waiting.{greatest_bounds}
use Rattle.cred_plain.proofs.Falling.{first_is}
use Rattle.cred_plain.proofs.broadcasts.Broadcast.others.Goals as goal

pub prove-unreachable-requires : goal.prove-unreachable-requires
prove-unreachable-requires c =
    let fs = c.self.inside.falling.items in
    let greatest = c.unwrap-greatest.result.now in
    let there : slice_get fs 0 ≡ Some greatest
    = rw (← c.deref.ensures.value) (sym c.first.ensures.value ∙ ap option_copied c.unwrap-greatest.ensures) in
    let many = length-reverse fs in
    let bounds : length (reverse fs) - 1 ≤ greatest
    = greatest_bounds (reverse fs) greatest (rw (← c.self.view_is) at c.requires.rising) (rw (← c.self.view_is) at c.requires.some)
    (sym (first_is fs) ∙ there) in
    omega arith
