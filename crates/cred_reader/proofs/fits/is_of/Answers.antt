use Rattle.std.proofs.Common.{rules}
use Rattle.cred_reader.proofs.OneFile.{one_file}
use Rattle.cred_reader.proofs.fits.is_of.Goals as goal

pub returns-in-OpenFile : goal.returns-in-OpenFile
returns-in-OpenFile c = one_file _ _ c.in-OpenFile.file _ (search rules) (search rules) c.is_file-in-OpenFile.ensures
