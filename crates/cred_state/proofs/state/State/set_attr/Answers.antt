use Rattle.std.proofs.Common.{◌≡◌, Some, slice_get, sym, ◌∙◌}
use Rattle.std.specs.Option.{option_map}
use Rattle.cred_record.specs.Credential.{Credential}
use Rattle.cred_record.specs.File.{File}
use Rattle.cred_rules.specs.Files as rules
use Rattle.cred_model.specs.State.{Numbered, held_by}
use Rattle.cred_state.proofs.FileCalls.{by_exactly}
use Rattle.cred_state.proofs.state.State.set_attr.Goals as goal

pub returns-clause-ok : goal.returns-clause-ok
returns-clause-ok c =
    let s = c.args.self.now.state in
    let same = c.in_ok-cred.ensures.same in
    let held : option_map (λ (held : Numbered). held.cred) (held_by s c.args.hold) ≡ Some c.in-Some.cred
    = sym c.in_ok-cred.ensures.cred ∙ c.in-Some.is in
    let there : slice_get s.inodes c.args.place ≡ Some c.in-Some-file.file.now
    = sym (rw (c.inodes.ensures, same) at c.in-Some-file.ensures) in
    (rw same at c.put_file.ensures.ok) c.args.hold (λ (by : Credential) (file : File). rules.set_attr by file c.args.attr.now)
    c.in-Some.cred c.in-Some-file.file.now held there (by_exactly c.set_attr-made.result _ (rw c.in_ok-attr.ensures.equal at c.set_attr-made.ensures))
