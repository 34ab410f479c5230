-- Parts of the canonical text.
use Rattle.std.specs.Prelude.{◌≡◌, ℕ, ◌+◌, List, [], ◌∷◌, ◌++◌, drop, codes}
use Rattle.nf_frac_words.specs.Digits.{digits_of}
use Rattle.nf_text_def.specs.Words.{line_of_words}
use Rattle.nf_net_def.specs.Names.{name_at}
use Rattle.nf_net_def.specs.Named.{NamedLink, Named, active_links}
use Rattle.nf_net_def.specs.NetText.{link_words}

-- the lines of the version, the source and the sink
abbrev pub head_text : Named → List ℕ
head_text n = line_of_words (codes "nfot" ∷ digits_of n.version ∷ [])
    ++ line_of_words (codes "source" ∷ name_at n.node_names n.net.source ∷ [])
    ++ line_of_words (codes "sink" ∷ name_at n.node_names n.net.sink ∷ [])

-- the new text is the old one, followed by the line of link `number`
pub record PushesLink (n : Named) (number : ℕ) (old new : List ℕ) : Type 0 where
  pub link : NamedLink
  pub is_link : drop number (active_links n) ≡ link ∷ drop (number + 1) (active_links n)
  pub text : new ≡ old ++ line_of_words (link_words link)
