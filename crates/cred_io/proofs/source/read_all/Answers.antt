use Rattle.std.proofs.Common.{ℕ, arith, rules, ◌≤◌, ◌++◌, ◌∙◌, refl, length, take, length-append}
use Rattle.std.proofs.lemmas.List.{take-append-le, length-take}
use Rattle.cred_io.proofs.Known.{consumes_nothing, consumes_more}
use Rattle.cred_io.proofs.source.read_all.Goals as goal

pub loop-buf-init : goal.loop-buf-init
loop-buf-init g c = record { within = omega arith; faults = refl; taken = rw c.new-bytes.ensures.items (consumes_nothing (g.S.Source.left c.args.source.now)) }

pub loop-buf-preserved : goal.loop-buf-preserved
loop-buf-preserved g c =
    let n = c.in_ok-count.count in
    let got = c.read.new.buf in
    let known : n ≤ length got = c.in_ok-count.ensures.bound.0 in
    record {
      within = omega (arith, c.in_ok-extend_from_slice.ensures.len, length-take {A = ℕ}, length-append {A = ℕ}, c.read.auto.buf);
      faults = c.in_ok-count.ensures.cause.stayed (λ failed. cc) ∙ c.loop-buf.invariant.faults;
      taken = rw c.in_ok-extend_from_slice.ensures.items (rw take-append-le (consumes_more _ _ _ _ _ c.loop-buf.invariant.taken c.in_ok-count.ensures.bytes.0));
    }

pub returns-in_err-extend_from_slice-clause-no_more : goal.returns-in_err-extend_from_slice-clause-no_more
returns-in_err-extend_from_slice-clause-no_more g c =
    let known : c.in_ok-count.count ≤ length c.read.new.buf = c.in_ok-count.ensures.bound.0 in
    record {
      bytes = c.loop-buf.bytes.items ++ take c.in_ok-count.count c.read.new.buf;
      taken = consumes_more _ _ _ _ _ c.loop-buf.invariant.taken c.in_ok-count.ensures.bytes.0;
      within = omega (arith, length-take {A = ℕ}, length-append {A = ℕ}, c.read.auto.buf);
    }

pub returns-clause-too_large : goal.returns-clause-too_large
returns-clause-too_large g c = λ _. record {
  bytes = c.loop-buf.bytes.items;
  taken = c.loop-buf.invariant.taken;
  above = omega arith;
}

pub returns-clause-fault : goal.returns-clause-fault
returns-clause-fault g c = λ e. cc

pub returns-clause-cause : goal.returns-clause-cause
returns-clause-cause g c = search rules

pub returns-clause-no_more : goal.returns-clause-no_more
returns-clause-no_more g c = record {
  bytes = c.loop-buf.bytes.items;
  taken = c.loop-buf.invariant.taken;
  within = omega arith;
}
