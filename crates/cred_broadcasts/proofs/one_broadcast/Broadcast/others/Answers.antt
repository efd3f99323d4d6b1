use Rattle.std.proofs.Common.{◌≡◌, ◌∙◌, ◌-◌, ◌≤◌, ℕ, length, reverse, slice_get, Some, sym, ap, arith}
use Rattle.std.specs.Option.{option_copied}
use Rattle.std.proofs.lemmas.List.{length-reverse}
use Rattle.cred_broadcasts.proofs.Falling.{greatest_first}
use Rattle.cred_model.proofs.Waiting.{greatest_bounds}
use Rattle.cred_broadcasts.proofs.one_broadcast.Broadcast.others.Goals as goal

pub prove-unreachable-requires : goal.prove-unreachable-requires
prove-unreachable-requires c =
    let ws = c.self.inside.waiting.items in
    let greatest = c.unwrap-greatest.result.now in
    let there : slice_get ws 0 ≡ Some greatest
    = rw (← c.deref.ensures.value) (sym c.first.ensures.value ∙ ap option_copied c.unwrap-greatest.ensures) in
    let last : slice_get (reverse ws) (length (reverse ws) - 1) ≡ Some greatest
    = ap (λ (n : ℕ). slice_get (reverse ws) (n - 1)) (length-reverse ws) ∙ greatest_first ws ∙ there in
    let bounds : length (reverse ws) - 1 ≤ greatest
    = greatest_bounds (reverse ws) greatest (rw (← c.self.view_is) at c.requires.rising) (rw (← c.self.view_is) at c.requires.some) last in
    omega (arith, length-reverse ws)
