-- What a sink took in a call that writes a text.
use Rattle.std.specs.Prelude.{◌≡◌, ℕ, ◌≤◌, List, Option, Result, OnOk, OnErr}
use Rattle.nf_edge.specs.declared.Sink.{Ghosts}
use Rattle.nf_edge.specs.Faults.{one_more}
use Rattle.nf_edge.specs.Taken.{with_more, TookFront}

-- the bytes that a sink took so far, if they are known, and its count of faults
pub record SinkState : Type 0 where
  pub took : Option (List ℕ)
  pub faults : ℕ

abbrev pub state_of : {S : Type 0} → Ghosts S → S → SinkState
state_of sink here = record { took = sink.took here; faults = sink.faults here }

-- A text was written to a sink: the whole text, with no fault; or a proper prefix of it, with one fault, which ended the writing.
pub record Wrote {E : Type 0} (before now : SinkState) (text : List ℕ) (result : Result (Unit {0}) E) : Type 0 where
  pub whole : OnOk result (now.took ≡ with_more before.took text)
  pub no_fault : OnOk result (now.faults ≡ before.faults)
  pub front : OnErr result (TookFront before.took now.took text)
  pub cause : OnErr result (now.faults ≡ one_more before.faults)
  pub never_falls : before.faults ≤ now.faults
