use Rattle.std.proofs.Common.{take, ap, sym, ◌∙◌, Some, arith}
use Rattle.std.proofs.lemmas.List.{take_more}
use Rattle.cred_captext.specs.Machine.{first_reader, run, sets_at_end}
use Rattle.cred_captext.proofs.Live.{run-push}
use Rattle.cred_captext.proofs.Read.{at-end}
use Rattle.cred_captext.proofs.reading.sets_in.Goals as goal

pub loop-place-preserved : goal.loop-place-preserved
loop-place-preserved c =
    ap (run first_reader) (take_more c.args.text.now c.loop-place.place 0 c.loop-place-test.true)
    ∙ run-push (take c.loop-place.place c.args.text.now) _ first_reader c.loop-place.reader
    (Some c.in-Some.next) c.loop-place.invariant (sym c.after_byte.ensures ∙ c.in-Some.is)

pub returns-in-None : goal.returns-in-None
returns-in-None c = record {
  sets = tt;
  stops = record {
    reader = c.loop-place.reader;
    read = c.loop-place.invariant;
    within = c.loop-place.auto.place-end;
    next = λ lt. sym c.after_byte.ensures ∙ c.in-None.is;
    last = λ end. absurd (omega (arith, c.loop-place-test.true));
  };
}

pub returns : goal.returns
returns c =
    let is = at-end c.args.text.now c.loop-place.place c.loop-place.reader c.sets_at_end.result
    c.ok_or.result c.loop-place-test.false c.loop-place.invariant c.sets_at_end.ensures
    c.ok_or.ensures.value in
    record { sets = is.sets; stops = is.stops }
