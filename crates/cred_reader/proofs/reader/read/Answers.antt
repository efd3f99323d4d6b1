use Rattle.std.proofs.Common.{◌≡◌}
use Rattle.cred_spelling.specs.Read.{nows}
use Rattle.cred_spelling.specs.Words.{line_words}
use Rattle.cred_reader.specs.Entry.{body_of}
use Rattle.cred_reader.proofs.Confirmed.{spelled_fits, read_is, confirmed_is, refused}
use Rattle.cred_reader.proofs.EntryFit.{entry_spelled}
use Rattle.cred_reader.proofs.reader.read.Goals as goal

pub returns-in-Ok-clause-value : goal.returns-in-Ok-clause-value
returns-in-Ok-clause-value c =
    spelled_fits c.args.script.now c.args.line.now c.in-Ok.entry c.confirm.result
    (entry_spelled c.args.script.now.files (nows c.deref.result.now) c.in-Ok.entry c.in-Ok.ensures)
    c.confirm.ensures.value

pub returns-in-Ok-clause-each_value : goal.returns-in-Ok-clause-each_value
returns-in-Ok-clause-each_value c entry fits text =
    let split : nows c.deref.result.now ≡ line_words (body_of c.args.line.now) = cc (c.in_ok-split_into.ensures, c.deref.ensures.value, c.body_of.ensures) in
    let is = read_is c.args.script.now c.args.line.now (nows c.deref.result.now) entry split fits text in
    let same : c.in-Ok.entry ≡ entry = cc (is, c.in-Ok.ensures) in
    confirmed_is c.args.script.now c.args.line.now c.in-Ok.entry entry c.confirm.result c.confirm.ensures.each_value same fits text

pub returns-in-Err-Bad-clause-each_value : goal.returns-in-Err-Bad-clause-each_value
returns-in-Err-Bad-clause-each_value c entry fits text =
    let split : nows c.deref.result.now ≡ line_words (body_of c.args.line.now) = cc (c.in_ok-split_into.ensures, c.deref.ensures.value, c.body_of.ensures) in
    let is = read_is c.args.script.now c.args.line.now (nows c.deref.result.now) entry split fits text in
    let bad = refused c.read_entry.result c.in-Err-Bad.field-0 c.in-Err-Bad.field-0-0 _ c.in-Err-Bad.is c.in-Err-Bad.field-0-is c.read_entry.ensures in
    absurd (cc (is, bad))
