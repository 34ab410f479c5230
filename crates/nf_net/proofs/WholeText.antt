-- The text of a network, put together.
use Rattle.std.proofs.Common.{◌≡◌, ℕ, List, [], ◌∷◌, ◌++◌, map, ap, ◌∙◌, codes, append_assoc, append-nil}
use Rattle.nf_net.proofs.Common.{flat_map, Piece, digits_of, line_of_words, name_at, NamedLink, Named, active_links, link_words, inflow_words, canonical}
use Rattle.nf_net.proofs.Common.{head_text}
use Rattle.std.proofs.lemmas.List.Concat.{flat_map-append}

-- three lines, three lists of lines and one line
joined : {X : Type 0} (f : X → List ℕ) (a b c : X) (xs ys zs : List X) (e : X)
    → ((((f a ++ f b ++ f c) ++ flat_map f xs) ++ flat_map f ys) ++ flat_map f zs) ++ f e ≡ flat_map f (a ∷ b ∷ c ∷ (xs ++ ys ++ zs ++ e ∷ []))
joined f a b c xs ys zs e = simp (flat_map-append, append_assoc, append-nil)

pub whole_by_parts : (n : Named) (idle : List NamedLink) (pieces : List Piece) (t0 t1 t2 t3 t4 t5 : List ℕ) → idle ≡ n.idle_links → pieces ≡ n.net.pieces
    → t0 ≡ [] → t1 ≡ t0 ++ head_text n
    → t2 ≡ t1 ++ flat_map line_of_words (map link_words (active_links n)) → t3 ≡ t2 ++ flat_map line_of_words (map link_words idle)
    → t4 ≡ t3 ++ flat_map line_of_words (map inflow_words pieces)
    → t5 ≡ t4 ++ line_of_words (codes "end" ∷ []) → t5 ≡ canonical n
whole_by_parts n idle pieces t0 t1 t2 t3 t4 t5 i p e0 e1 e2 e3 e4 e5 =
    e5 ∙ ap (λ (t : List ℕ). t ++ line_of_words (codes "end" ∷ []))
    (e4 ∙ (λ k. (e3 ∙ (λ j. (e2 ∙ ap (λ (t : List ℕ). t ++ flat_map line_of_words (map link_words (active_links n)))
    (e1 ∙ ap (λ (t : List ℕ). t ++ head_text n) e0)) j ++ flat_map line_of_words (map link_words (i j)))) k ++ flat_map line_of_words
    (map inflow_words (p k))))
    ∙ joined line_of_words (codes "nfot" ∷ digits_of n.version ∷ []) (codes "source" ∷ name_at n.node_names n.net.source ∷ []) (codes "sink" ∷ name_at n.node_names n.net.sink ∷ [])
    (map link_words (active_links n)) (map link_words n.idle_links) (map inflow_words n.net.pieces) (codes "end" ∷ [])
