use Rattle.std.proofs.Common.{◌≡◌, rules, map, string_bytes, ap, ap₂, ◌∙◌}
use Rattle.clap.specs.Words.{app_of, is_simple_and_free, rule_of, with_rule}
use Rattle.cred_args.specs.Line.{bare_line, command, line, operand}
use Rattle.cred_args.proofs.Parsed.{bared, found_so, is_free}
use Rattle.cred_args.proofs.parsing.match_words.Goals as goal

pub returns : goal.returns
returns c =
    let command_is : rule_of c.required-command.result ≡ command = search rules in
    let operand_is : rule_of c.new-operand.result ≡ operand = search rules in
    let bare_is : app_of c.disable_help_flag.result ≡ bare_line
    = bared c.new-2.result c.no_binary_name.result c.disable_help_flag.result c.new-2.ensures.app c.no_binary_name.ensures c.disable_help_flag.ensures in
    let line_is : app_of c.in_ok-line.line ≡ line
    = c.in_ok-line.ensures.shape (search rules) ∙ ap₂ with_rule (c.in_ok-arg.ensures.shape (search rules) ∙ ap₂ with_rule bare_is command_is) operand_is in
    let parse = c.try_get_matches_from in
    found_so (app_of c.in_ok-line.line) (map string_bytes c.args.words.now) parse.result line_is (parse.ensures.kinds (ap is_simple_and_free line_is ∙ is_free))
    parse.ensures.matches
