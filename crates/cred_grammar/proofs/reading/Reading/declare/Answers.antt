use Rattle.std.proofs.Common.{ap}
use Rattle.cred_grammar.specs.Reading.{Reading}
use Rattle.cred_grammar.proofs.Own.{form_sound}
use Rattle.cred_grammar.proofs.reading.Reading.declare.Goals as goal

pub keep-requires-clause-sound : goal.keep-requires-clause-sound
keep-requires-clause-sound c =
    let files = ap (λ (r : Reading). r.files) c.self.view_is in
    form_sound c.args.self.now _ _ _ (rw files at c.in_ok-line.ensures) c.in_ok-admits.ensures
