-- What a sink took of a text in a call.
use Rattle.std.specs.Prelude.{◌≡◌, ◌⊎◌, ℕ, List, Option}
use Rattle.nf_edge.specs.declared.Sink.{Ghosts}
use Rattle.nf_edge.specs.Faults.{one_more}
use Rattle.nf_edge.specs.Taken.{with_more, TookFront}

-- the bytes that a sink took and its faults, before a call and after it
pub record Took : Type 0 where
  pub before : Option (List ℕ)
  pub now : Option (List ℕ)
  pub faults_before : ℕ
  pub faults_now : ℕ

-- the same of a sink, by its states before the call and after it
abbrev pub took_of : {S : Type 0} → Ghosts S → S → S → Took
took_of sink before now =
    record { before = sink.took before; now = sink.took now; faults_before = sink.faults before; faults_now = sink.faults now }

-- the sink took the whole text
abbrev pub TookAll : Took → List ℕ → Type 0
TookAll sink text = sink.now ≡ with_more sink.before text

-- and no fault was counted
pub record TookWhole (sink : Took) (text : List ℕ) : Type 0 where
  pub all : TookAll sink text
  pub no_fault : sink.faults_now ≡ sink.faults_before

-- the sink took a proper prefix of the text, and one fault ended the writing
pub record CutShort (sink : Took) (text : List ℕ) : Type 0 where
  pub front : TookFront sink.before sink.now text
  pub cause : sink.faults_now ≡ one_more sink.faults_before

-- the whole text without a fault, or a proper prefix of it with one
abbrev pub TookText : Took → List ℕ → Type 0
TookText sink text = TookWhole sink text ⊎ CutShort sink text
