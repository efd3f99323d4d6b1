use Rattle.std.proofs.Common.{◌≡◌, ◌∙◌, ap, sym, subst, ℕ, ◌≤◌}
use Rattle.cred_script.specs.Lanes.{lanes}
use Rattle.cred_script.proofs.SmallLanes.{lanes_small, setup_only}
use Rattle.cred_script.proofs.script.Script.lanes.Goals as goal

pub returns-clause-few : goal.returns-clause-few
returns-clause-few c =
    let is : c.greatest_lane.result ≡ lanes c.self.inside.lines.items = c.greatest_lane.ensures ∙ ap lanes c.deref.ensures.value in
    subst (λ (n : ℕ). n ≤ 16) (sym is) (lanes_small _ _ _ c.self.invariant.each)

pub returns-clause-setup : goal.returns-clause-setup
returns-clause-setup c =
    let is : c.greatest_lane.result ≡ lanes c.self.inside.lines.items = c.greatest_lane.ensures ∙ ap lanes c.deref.ensures.value in
    λ none. rw (← c.self.view_is) (setup_only c.self.inside.lines.items (sym is ∙ none))

pub returns-clause-apart : goal.returns-clause-apart
returns-clause-apart c = rw (← c.self.view_is) c.self.invariant.apart
