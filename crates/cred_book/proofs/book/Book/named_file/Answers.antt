use Rattle.std.proofs.Common.{List, ap, ◌∙◌}
use Rattle.cred_record.specs.File.{File}
use Rattle.cred_model.specs.Named.{event_files}
use Rattle.cred_model.specs.State.{info_of}
use Rattle.cred_book.specs.Book.{Recorded, inodes_in}
use Rattle.cred_book.proofs.book.Book.named_file.Goals as goal

pub returns : goal.returns
returns c =
    let places = event_files c.args.event.now in
    c.event_file.ensures
    ∙ ap (λ (files : List File). info_of files places) (c.inodes.ensures ∙ c.self.invariant.0.0.inodes)
    ∙ ap (λ (r : Recorded). info_of (inodes_in r) places) c.self.view_is
