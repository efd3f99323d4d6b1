-- What a clause reads of an end over std's streams.
use Rattle.std.specs.Prelude.{ℕ, Bool}
use Rattle.cred_io.specs.declared.standard.StdSource.{StdSource}
use Rattle.cred_io.specs.declared.standard.StdSink.{StdSink}

-- the most pieces of a text that are gathered for one write
abbrev pub MOST_GATHERED : ℕ
MOST_GATHERED = 1024

-- the reader below
abbrev pub std_reader : {R : Type 0} → StdSource R → R
std_reader s = s.reader

-- how many reads have failed
abbrev pub std_source_faults : {R : Type 0} → StdSource R → ℕ
std_source_faults s = s.faults

-- the writer below
abbrev pub std_writer : {W : Type 0} → StdSink W → W
std_writer s = s.writer

-- the writer was flushed, and nothing was written since
abbrev pub std_sink_flushed : {W : Type 0} → StdSink W → Bool
std_sink_flushed s = s.flushed

-- how many writes and flushes have failed
abbrev pub std_sink_faults : {W : Type 0} → StdSink W → ℕ
std_sink_faults s = s.faults
