-- Tolls of a link.
use Rattle.std.specs.Prelude.{◌≡◌, ℕ, List, [], ◌∷◌, codes, flat_map, Option}
use Rattle.nf_rational.specs.Rational.{ℚ}
use Rattle.nf_frac_words.specs.Printed.{printed}
use Rattle.nf_text_def.specs.Words.{line_of_words}
use Rattle.nf_model.specs.Network.{Link, Piece, IsLink}
use Rattle.nf_model.specs.Queue.{waiting}
use Rattle.nf_net_def.specs.Names.{Name, name_at}
use Rattle.nf_net_def.specs.Named.{Named}
use Rattle.nf_load_def.specs.Loading.{Loaded}
use Rattle.nf_load_def.specs.Meanings.{IsLinkLoaded}

abbrev pub toll_line : Name → ℚ → ℚ → List ℕ
toll_line name time toll = line_of_words (codes "toll" ∷ name ∷ printed time ∷ printed toll ∷ [])

-- the line of a point of the queue: the time, and the time that one waits who enters then
abbrev pub toll_at : Option ℚ → Name → ℚ × ℚ → List ℕ
toll_at capacity name point = toll_line name point.0 (waiting capacity point.1)

-- The text has the tolls of link e up to `last`: a line for each point of its queue, in order. The queue is that of the link loaded with
-- these pieces of inflow.
pub record AreTolls (n : Named) (last : ℚ) (e : ℕ) (pieces : List Piece) (text : List ℕ) : Type 0 where
  pub link : Link
  pub is_link : IsLink n.net e link
  pub loaded : Loaded
  pub loading : IsLinkLoaded last link pieces loaded
  pub is_text : text ≡ flat_map (toll_at link.capacity (name_at n.link_names e)) loaded.queue
