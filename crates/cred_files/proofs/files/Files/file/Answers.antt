use Rattle.std.proofs.Common.{◌≡◌, ℕ, ◌∙◌, sym, ap, refl, Option, None, Some, Bor}
use Rattle.std.specs.Option.{option_map, option_copied}
use Rattle.cred_files.specs.declared.file_description.FileDescription.{FileDescription}
use Rattle.cred_files.specs.Open.{file_as}
use Rattle.cred_files.proofs.Kept.{file_at-files_of}
use Rattle.cred_files.proofs.files.Files.file.Goals as goal

read : (fd : ℕ) (found : Option (Bor FileDescription)) → option_map (λ f. file_as fd f.now) found ≡ option_map (file_as fd) (option_copied found)
read fd None = refl
read fd (Some f) = refl

pub returns : goal.returns
returns c =
    rw (← c.self.view_is)
    (read c.args.fd c.get.result ∙ ap (option_map (file_as c.args.fd)) c.get.ensures.value ∙ sym (file_at-files_of c.args.fd c.self.inside.files.entries))
