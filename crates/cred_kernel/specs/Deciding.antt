-- What a decision made of a work.
use Rattle.std.specs.Prelude.{◌≡◌, List}
use Rattle.atomic_table.specs.Seated.{TableId}
use Rattle.cred_record.specs.File.{File}
use Rattle.cred_model.specs.Script.{Script}
use Rattle.cred_work.specs.Work.{Work}
use Rattle.cred_work.specs.DecidedWorks.{IsDecided}
use Rattle.cred_book.specs.Works.{IsWorkOf}

-- the work, decided, of the same line and of the same kernel
pub record WasDecided
    (script : Script) (inodes : List File) (cells : TableId) (work decided : Work) : Type 0 where
  pub line : decided.line ≡ work.line
  pub work_is : IsWorkOf script inodes cells decided
  pub right : IsDecided decided
