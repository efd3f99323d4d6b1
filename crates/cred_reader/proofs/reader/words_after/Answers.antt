use Rattle.std.proofs.Common.{◌+◌, ◌∙◌, ℕ, List, Bor, ap, sym}
use Rattle.std.proofs.lemmas.List.{drop-map, take_rest}
use Rattle.cred_spelling.specs.Read.{nows}
use Rattle.cred_reader.proofs.reader.words_after.Goals as goal

pub returns : goal.returns
returns c =
    ap nows (take_rest c.args.words.now (c.args.place + 1))
    ∙ sym (drop-map (λ (word : Bor (List ℕ)). word.now) (c.args.place + 1) c.args.words.now)
