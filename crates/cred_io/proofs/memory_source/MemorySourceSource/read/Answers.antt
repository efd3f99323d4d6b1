use Rattle.std.proofs.Common.{◌≡◌, ◌++◌, drop, sym, ap, ◌∙◌}
use Rattle.std.proofs.lemmas.List.{drop-drop, take_rest}
use Rattle.cred_io.proofs.Known.{copied_piece, read_piece}
use Rattle.cred_io.proofs.memory_source.MemorySourceSource.read.Goals as goal

pub returns-clause-bytes : goal.returns-clause-bytes
returns-clause-bytes c =
    let bytes = c.self.inside.bytes.items in
    let n = c.copy_prefix-count.result in
    let left_is : drop c.self.inside.at bytes ≡ c.args.self.now.left = ap (λ s. s.left) c.self.view_is in
    let most = rw (take_rest, c.deref-2.ensures.value, left_is) at c.min.ensures in
    let fits = rw (take_rest, c.deref-2.ensures.value, left_is) at c.copy_prefix-count.ensures.count in
    let copied = rw (take_rest, c.deref-2.ensures.value, left_is) at c.copy_prefix-count.ensures.copied in
    let (fits, same) = copied_piece c.args.self.now.left c.args.buf.now c.self.inside.piece c.min.result n most fits in
    read_piece c.args.self.now.left c.args.buf.now c.copy_prefix-count.new.buf _ c.self.inside.piece n c.self.invariant.1 fits
    (copied ∙ ap (λ z. z ++ drop n c.args.buf.now) same)
    (sym (drop-drop n c.self.inside.at bytes) ∙ ap (drop n) left_is)
