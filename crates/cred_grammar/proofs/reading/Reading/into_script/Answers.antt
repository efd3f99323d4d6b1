use Rattle.cred_grammar.proofs.LanesOfLines.{apart}
use Rattle.cred_grammar.proofs.reading.Reading.into_script.Goals as goal

pub new-requires : goal.new-requires
new-requires c = record {
  few = c.self.invariant.few;
  each = c.self.invariant.each;
  first = c.self.invariant.first;
  apart = apart c.self.inside.lanes _ c.self.invariant.owned;
}
