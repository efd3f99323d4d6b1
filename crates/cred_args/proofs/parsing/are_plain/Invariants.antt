use Rattle.std.proofs.Common.{◌≡◌, map, string_bytes, drop}
use Rattle.std.specs.List.{list_all}
use Rattle.cred_args.specs.Positionals.{is_plain}
use Rattle.cred_args.proofs.parsing.are_plain.Given as goal

abbrev pub invariant-loop-word : goal.invariant-loop-word
invariant-loop-word l = list_all is_plain (map string_bytes (drop l.word-index l.words)) ≡ list_all is_plain (map string_bytes l.words)
