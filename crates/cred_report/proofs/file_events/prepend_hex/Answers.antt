use Rattle.std.proofs.Common.{◌∙◌, ◌++◌, sym, ap}
use Rattle.hex.specs.Hex.{encode_lower}
use Rattle.cred_report.proofs.Hex.{last_written, none_left}
use Rattle.cred_report.proofs.file_events.prepend_hex.Goals as goal

pub loop-byte-preserved : goal.loop-byte-preserved
loop-byte-preserved c = record {
  room = c.in_ok-reserve-2.ensures.room;
  written =
      let written = last_written c.next.new.self.iter.rest.now c.in-Some.byte.now c.loop-byte.out.text in
      let before = c.loop-byte.invariant.written in
      let rest = c.in-Some.ensures.steps in
      rw (c.in_ok-reserve-2.ensures.text, c.piece.ensures.text, c.digit.ensures, c.digit-in-loop-byte.ensures, written, ← rest) before;
}

pub returns-clause-text : goal.returns-clause-text
returns-clause-text c =
    sym (none_left _ _ c.in-None.ensures.steps.0) ∙ c.loop-byte.invariant.written
    ∙ ap (λ text. encode_lower c.args.bytes.now ++ text) c.in_ok-reserve.ensures.text
