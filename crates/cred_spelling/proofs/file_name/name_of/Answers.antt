use Rattle.std.proofs.Common.{refl}
use Rattle.cred_spelling.proofs.FileNames.{no_text}
use Rattle.cred_spelling.proofs.file_name.name_of.Goals as goal

pub returns-in-Err : goal.returns-in-Err
returns-in-Err c = rw (no_text c.args.word.now c.in-Err.ensures.cases.0) refl
