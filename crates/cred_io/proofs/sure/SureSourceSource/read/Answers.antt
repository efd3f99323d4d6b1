use Rattle.std.proofs.Common.{◌≡◌, drop, sym, ap, ◌∙◌}
use Rattle.std.proofs.lemmas.List.{drop-drop, take_rest}
use Rattle.cred_io.proofs.Known.{read_prefix}
use Rattle.cred_io.proofs.sure.SureSourceSource.read.Goals as goal

pub returns-clause-bytes : goal.returns-clause-bytes
returns-clause-bytes c =
    let bytes = c.self.inside.bytes.items in
    let left_is : drop c.self.inside.at bytes ≡ c.args.self.now = c.self.view_is in
    let fits = rw (take_rest, c.deref.ensures.value, left_is) at c.copy_prefix-count.ensures.count in
    let copied = rw (take_rest, c.deref.ensures.value, left_is) at c.copy_prefix-count.ensures.copied in
    read_prefix c.args.self.now c.args.buf.now c.copy_prefix-count.new.buf _ c.copy_prefix-count.result fits copied
    (sym (drop-drop c.copy_prefix-count.result c.self.inside.at bytes) ∙ ap (drop c.copy_prefix-count.result) left_is)
