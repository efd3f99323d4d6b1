-- Which questions read groups, or a whole credential.
use Rattle.std.specs.Prelude.{Bool, true, false}
use Rattle.cred_event.specs.declared.event.Query.{Query}
use Rattle.cred_event.specs.declared.event.Query.TheVariants.{Groups, Bits, Check}

-- the question isn't about ids or capability sets alone
abbrev pub is_on_whole : Query → Bool
is_on_whole Groups = true
is_on_whole Bits = true
is_on_whole (Check file want) = true
is_on_whole query = false
