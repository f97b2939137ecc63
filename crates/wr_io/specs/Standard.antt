-- Standard readers and writers as sources and sinks.
use Rattle.std.specs.Prelude.{ℕ, List, Option}
use Rattle.wr_io.specs.declared.standard.StdSource.{StdSource}
use Rattle.wr_io.specs.declared.standard.StdSink.{StdSink}

-- the reader of a source, and how many of its calls failed
abbrev pub holds_reader : {R : Type 0} → StdSource R → R
holds_reader s = s.reader

abbrev pub source_faults : {R : Type 0} → StdSource R → ℕ
source_faults s = s.faults

-- the bytes that are left: those that the reader will give, where it tells them
abbrev pub source_left : {R : Type 0} → (R → Option (List ℕ)) → StdSource R → Option (List ℕ)
source_left remaining s = remaining s.reader

-- the writer of a sink, and how many of its calls failed
abbrev pub holds_writer : {W : Type 0} → StdSink W → W
holds_writer s = s.writer

abbrev pub sink_faults : {W : Type 0} → StdSink W → ℕ
sink_faults s = s.faults

-- the bytes that were written: those that the writer holds, where it tells them
abbrev pub sink_written : {W : Type 0} → (W → Option (List ℕ)) → StdSink W → Option (List ℕ)
sink_written contents s = contents s.writer
