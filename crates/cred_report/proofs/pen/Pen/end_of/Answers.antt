use Rattle.std.proofs.Common.{◌≡◌, ◌-◌, length, take, drop, rules}
use Rattle.cred_report.proofs.Pieces.{word_again}
use Rattle.cred_report.proofs.pen.Pen.end_of.Goals as goal

pub returns-in-Some-clause-text : goal.returns-in-Some-clause-text
returns-in-Some-clause-text g c =
    let first : c.in-Some.prefix.now ≡ take (length c.args.word.now - g.row.N) c.args.word.now = search rules in
    let second : c.in-Some.last.now ≡ drop (length c.args.word.now - g.row.N) c.args.word.now = search rules in
    word_again c.args.word.now c.in-Some.prefix.now c.in-Some.last.now _ _ _ first second c.piece.ensures.text
