-- The question of a network's listing.
use Rattle.std.specs.Prelude.{◌≡◌, ℕ, length}
use Rattle.nf_model.specs.Entries.{Has}
use Rattle.nf_model.specs.Network.{Network, hops, unbounded}
use Rattle.nf_model.specs.ThinFlow.{Sets}
use Rattle.nf_model.specs.Pattern.{Pattern}
use Rattle.nf_pattern.specs.Given.{Question, IsQuestion, Given, AtStart}
use Rattle.nf_thin_laws.specs.ActiveLinks.{AreSets}

-- No unbounded link is resetting.
abbrev pub NoneResetsUnbounded : Network → Sets → Type 0
NoneResetsUnbounded net sets = (e : ℕ) → Has (unbounded net) e → Has sets.resetting e → ⊥

-- The sets have one flag of each kind for each link, resetting links are active, and no unbounded link is resetting.
pub record AreSetsOf (net : Network) (sets : Sets) : Type 0 where
  pub sets_are : AreSets net sets
  pub count : length sets.resetting ≡ length net.links
  pub bounded : NoneResetsUnbounded net sets

-- The question of the network's listing, for these sets and this base.
abbrev pub question_of : Network → Sets → Pattern → Question
question_of net sets base =
    record { nodes = net.nodes; source = net.source; hops = hops net; sets = sets; unbounded = unbounded net; base = base }

-- A listing of the network's patterns of which nothing is enumerated yet.
pub record AsksOf (net : Network) (sets : Sets) (given : Given) : Type 0 where
  pub asked : given.question ≡ question_of net sets given.question.base
  pub is_question : IsQuestion given.question
  pub start : given.last ≡ AtStart
