-- While the setup runs.
use Rattle.std.proofs.Common.{◌≡◌, None}
use Rattle.cred_book.specs.Book.{Recorded, out_of}
use Rattle.cred_kernel.specs.Locks.{IsFirst}

-- Nothing was done for any lane but the setup, and no work of the setup is out either.
pub record IsHome (book : Recorded) : Type 0 where
  pub first : IsFirst book
  pub setup : out_of book 0 ≡ None
