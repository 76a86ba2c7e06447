-- A reader and a writer of std with a count of faults.
use Rattle.std.specs.Prelude.{ℕ}
use Rattle.svc_value.specs.declared.std_streams.StdSource.{StdSource}
use Rattle.svc_value.specs.declared.std_streams.StdSink.{StdSink}

-- the reader that the source reads from
abbrev pub reader_of : {R : Type 0} → StdSource R → R
reader_of source = source.reader

-- how often the source has failed
abbrev pub source_faults : {R : Type 0} → StdSource R → ℕ
source_faults source = source.faults

-- the writer that the sink writes to
abbrev pub writer_of : {W : Type 0} → StdSink W → W
writer_of sink = sink.writer

-- how often the sink has failed
abbrev pub sink_faults : {W : Type 0} → StdSink W → ℕ
sink_faults sink = sink.faults
