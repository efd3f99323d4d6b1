use Rattle.std.proofs.Common.{◌∙◌, ap}
use Rattle.cred_captext.specs.Meaning.{attribute_or_mixed}
use Rattle.cred_captext.proofs.Live.{none-there}
use Rattle.cred_captext.proofs.Read.{answers, same-sets}
use Rattle.cred_captext.proofs.reading.read_text.Goals as goal

pub returns-in-Ok : goal.returns-in-Ok
returns-in-Ok c =
    let is = answers c.args.text.now c.in-Ok.sets c.caps_of.result c.in-Ok.ensures.sets
    c.caps_of.ensures in
    record {
      value = is.value;
      each_value = λ t spells. c.caps_of.ensures
          ∙ ap attribute_or_mixed (same-sets c.args.text.now c.in-Ok.sets c.in-Ok.ensures.sets t spells);
      refusal = is.refusal;
    }

pub returns-in-Err : goal.returns-in-Err
returns-in-Err c =
    let none = none-there c.args.text.now c.in-Err.place c.in-Err.ensures.stops in
    record {
      value = tt;
      each_value = λ t spells. absurd (none.none t spells);
      refusal = none;
    }
