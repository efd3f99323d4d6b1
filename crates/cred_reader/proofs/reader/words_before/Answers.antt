use Rattle.std.proofs.Common.{ℕ, List, Bor, sym}
use Rattle.std.proofs.lemmas.List.{take-map}
use Rattle.cred_reader.proofs.reader.words_before.Goals as goal

pub returns : goal.returns
returns c = sym (take-map (λ (word : Bor (List ℕ)). word.now) c.args.place c.args.words.now)
