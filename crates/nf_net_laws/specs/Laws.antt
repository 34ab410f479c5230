-- Theorems about the definitions of the network file.
use Rattle.std.specs.Prelude.{◌≡◌, ℕ, List, Result, Ok}
use Rattle.nf_net_def.specs.Named.{Named}
use Rattle.nf_net_def.specs.WellNamed.{IsNamed}
use Rattle.nf_net_def.specs.NetLines.{Broken}
use Rattle.nf_net_def.specs.NetFile.{Reads}
use Rattle.nf_net_def.specs.NetText.{canonical}

-- a text has at most one reading
abbrev pub ReadsOnce : Type 0
ReadsOnce = (text : List ℕ) (one other : Result Named Broken) → Reads text one → Reads text other → one ≡ other

-- each text has a reading
abbrev pub ReadsEach : Type 0
ReadsEach = (text : List ℕ) → (result : Result Named Broken) × Reads text result

-- reading a network's canonical text returns that network, with its names
abbrev pub CanonicalReadsBack : Type 0
CanonicalReadsBack = (n : Named) → IsNamed n → Reads (canonical n) (Ok n)

-- the network of each accepted file satisfies `IsNamed`
abbrev pub AcceptedIsNamed : Type 0
AcceptedIsNamed = (text : List ℕ) (n : Named) → Reads text (Ok n) → IsNamed n
