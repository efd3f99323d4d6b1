use Rattle.std.proofs.Common.{◌∙◌}
use Rattle.cred_script.proofs.FileMap.{place_by_name}
use Rattle.cred_script.proofs.files.DeclaredFiles.place_of.Goals as goal

pub returns-in_err-get_index_of-clause-place : goal.returns-in_err-get_index_of-clause-place
returns-in_err-get_index_of-clause-place c =
    rw (← c.self.view_is) (c.from_residual.ensures ∙ c.in_err-get_index_of.ensures.index ∙ place_by_name c.args.name.now c.self.inside.by_name.entries)

pub returns-clause-place : goal.returns-clause-place
returns-clause-place c = rw (← c.self.view_is) (c.in_ok-get_index_of.ensures.index ∙ place_by_name c.args.name.now c.self.inside.by_name.entries)
