use Rattle.std.proofs.Common.{◌≡◌, Some, None, sym, ap, ◌∙◌}
use Rattle.std.specs.Option.{option_map}
use Rattle.cred_script.specs.Lines.{line_seen, line_at}
use Rattle.cred_audit.proofs.Numbers.{line_read, lane_read}
use Rattle.cred_audit.proofs.lane.lane_at.Goals as goal

pub returns-in_err-number : goal.returns-in_err-number
returns-in_err-number c = λ entry rest lane own is.
    let read = line_read c.args.script.now c.args.bytes.now entry rest lane c.number_at.result c.requires own is c.number_at.ensures in
    let none = c.in_err-number.was in
    cc

pub returns-in_err-lane : goal.returns-in_err-lane
returns-in_err-lane c = λ entry rest lane own is.
    let script = c.args.script.now in
    let read = line_read script c.args.bytes.now entry rest lane c.number_at.result c.requires own is c.number_at.ensures in
    let at : None ≡ line_at script c.in_ok-number.number = ap (option_map line_seen) (sym c.in_err-lane.was) ∙ c.line.ensures.found in
    let both : None ≡ Some lane = lane_read script c.in_ok-number.number entry.line lane None (sym c.in_ok-number.was ∙ read) own at in
    cc

pub returns : goal.returns
returns c = λ entry rest lane own is.
    let script = c.args.script.now in
    let read = line_read script c.args.bytes.now entry rest lane c.number_at.result c.requires own is c.number_at.ensures in
    let line = line_seen (c.in_ok-lane.lane, c.in_ok-lane.field-0-1) in
    let at : Some line ≡ line_at script c.in_ok-number.number = ap (option_map line_seen) (sym c.in_ok-lane.was) ∙ c.line.ensures.found in
    lane_read script c.in_ok-number.number entry.line lane (Some line) (sym c.in_ok-number.was ∙ read) own at
