-- A sink over a writer of std.
use Rattle.std.specs.Prelude.{ℕ}
use Rattle.nf_edge.specs.declared.real.StdSink.{StdSink}

-- the writer
abbrev pub writer_of : {W : Type 0} → StdSink W → W
writer_of sink = sink.writer

-- how many writes have failed
abbrev pub faults_of : {W : Type 0} → StdSink W → ℕ
faults_of sink = sink.faults
