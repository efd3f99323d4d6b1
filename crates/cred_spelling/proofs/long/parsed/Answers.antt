use Rattle.std.proofs.Common.{ℕ, List, sym, ◌∙◌, subst}
use Rattle.std.specs.Str.Parse.{ParsesUnsigned}
use Rattle.cred_spelling.proofs.Numerals.{long_of_parsed, long_of_no_text}
use Rattle.cred_spelling.proofs.long.parsed.Goals as goal

pub returns-in-Ok : goal.returns-in-Ok
returns-in-Ok c =
    c.ok.ensures.value
    ∙ long_of_parsed c.args.word.now c.parse.result
    (subst (λ (bs : List ℕ). ParsesUnsigned 64 10 bs c.parse.result) c.in-Ok.ensures.cases.0 c.parse.ensures.value.0) c.requires.some c.requires.low

pub returns-in-Err : goal.returns-in-Err
returns-in-Err c = sym (long_of_no_text c.args.word.now c.in-Err.ensures.cases.0 c.requires.some c.requires.low)
