-- The lines of a canonical text are made of plain words, and are short.
use Rattle.std.proofs.Common.{◌≡◌, ℕ, ◌*◌, ◌<◌, ◌≤◌, ◌⊎◌, true, List, [], ◌∷◌, ◌++◌, length, map, refl, sym, subst, inl, inr, arith, codes, Option, Some}
use Rattle.std.proofs.Common.{None}
use Rattle.nf_net_laws.proofs.Common.{AllByRecursion, join_with_byte, ℚ, Piece, Name, is_name, name_at, capacity_word, NamedLink, Named, active_links}
use Rattle.nf_net_laws.proofs.Common.{all_links, link_words, inflow_words, canonical_lines, IsCapacity, IsNamedLink, IsFractionPiece, IsNamed}
use Rattle.nf_frac_words.specs.Digits.{digits_of}
use Rattle.nf_net_laws.proofs.LinesBack.{s_is_name, t_is_name}
use Rattle.nf_net_laws.proofs.LinkFacts.{map-append}
use Rattle.nf_net_laws.proofs.ShortWords.{IsShortWord, short_name, short_number, short_key, length_join, plain_words}
use Rattle.nf_net_laws.proofs.TextBack.{IsPlainLine}

-- ---- lines of a few short words
short_capacity : (version : ℕ) (capacity : Option ℚ) → IsCapacity version capacity → IsShortWord (capacity_word capacity)
short_capacity version None h = short_key (codes "inf") refl refl refl
short_capacity version (Some q) h = short_number q h.0

plain_line : (ws : List (List ℕ)) → 0 < length ws → length ws ≤ 12 → AllByRecursion IsShortWord ws → IsPlainLine ws
plain_line ws some few h = record {
  some = some;
  plain = plain_words ws h;
  short = (let long : length (join_with_byte 32 ws) ≤ length ws * 81 = length_join ws h in omega arith);
}

link_line : (version : ℕ) (l : NamedLink) → IsNamedLink version l → IsPlainLine (link_words l)
link_line version l h = plain_line (link_words l) (omega arith) (omega arith)
    (short_key (codes "link") refl refl refl, (short_name l.name h.name, (short_name l.tail h.tail, (short_name l.head h.head, (short_number l.transit h.fraction, (short_capacity version l.capacity h.capacity, tt))))))

inflow_line : (piece : Piece) → IsFractionPiece piece → IsPlainLine (inflow_words piece)
inflow_line piece h = plain_line (inflow_words piece) (omega arith) (omega arith)
    (short_key (codes "inflow") refl refl refl, (short_number piece.start h.start, (short_number piece.rate h.rate, tt)))

source_line : (name : Name) → is_name name ≡ true → IsPlainLine (codes "source" ∷ name ∷ [])
source_line name h = plain_line (codes "source" ∷ name ∷ []) (omega arith) (omega arith) (short_key (codes "source") refl refl refl, (short_name name h, tt))

sink_line : (name : Name) → is_name name ≡ true → IsPlainLine (codes "sink" ∷ name ∷ [])
sink_line name h = plain_line (codes "sink" ∷ name ∷ []) (omega arith) (omega arith) (short_key (codes "sink") refl refl refl, (short_name name h, tt))

end_line : IsPlainLine (codes "end" ∷ [])
end_line = plain_line (codes "end" ∷ []) (omega arith) (omega arith) (short_key (codes "end") refl refl refl, tt)

head_line : (version : ℕ) → (version ≡ 1) ⊎ (version ≡ 2) → IsPlainLine (codes "nfot" ∷ digits_of version ∷ [])
unfolding digits_of
head_line version (inl e) = subst (λ v. IsPlainLine (codes "nfot" ∷ digits_of v ∷ [])) (sym e)
    (plain_line (codes "nfot" ∷ digits_of 1 ∷ []) (omega arith) (omega arith) (short_key (codes "nfot") refl refl refl, (short_key (digits_of 1) refl refl refl, tt)))
head_line version (inr e) = subst (λ v. IsPlainLine (codes "nfot" ∷ digits_of v ∷ [])) (sym e)
    (plain_line (codes "nfot" ∷ digits_of 2 ∷ []) (omega arith) (omega arith) (short_key (codes "nfot") refl refl refl, (short_key (digits_of 2) refl refl refl, tt)))

-- ---- all lines
each_line : {X : Type 0} (P : X → Type 0) (words_of : X → List (List ℕ)) → ((x : X) → P x → IsPlainLine (words_of x)) → (xs : List X) → AllByRecursion P xs
    → AllByRecursion IsPlainLine (map words_of xs)
each_line P words_of f [] h = tt
each_line P words_of f (x ∷ xs) h = (f x h.0, each_line P words_of f xs h.1)

lines_append : (xs ys : List (List (List ℕ))) → AllByRecursion IsPlainLine xs → AllByRecursion IsPlainLine ys → AllByRecursion IsPlainLine (xs ++ ys)
lines_append [] ys h k = k
lines_append (x ∷ xs) ys h k = (h.0, lines_append xs ys h.1 k)

pub plain_canonical : (n : Named) → IsNamed n → AllByRecursion IsPlainLine (canonical_lines n)
plain_canonical n h =
    let links : AllByRecursion IsPlainLine (map link_words (active_links n) ++ map link_words n.idle_links) =
    subst (AllByRecursion IsPlainLine) (map-append link_words (active_links n) n.idle_links)
    (each_line (IsNamedLink n.version) link_words (link_line n.version) (all_links n) h.links) in (
      head_line n.version h.version,
      (
        subst (λ v. IsPlainLine (codes "source" ∷ name_at n.node_names v ∷ [])) (sym h.numbered.source) (source_line (name_at n.node_names 0) (s_is_name n h)),
        (
          subst (λ v. IsPlainLine (codes "sink" ∷ name_at n.node_names v ∷ [])) (sym h.numbered.sink) (sink_line (name_at n.node_names 1) (t_is_name n h)),
          lines_append (map link_words (active_links n) ++ map link_words n.idle_links ++ map inflow_words n.net.pieces) ((codes "end" ∷ []) ∷ [])
              (lines_append (map link_words (active_links n) ++ map link_words n.idle_links) (map inflow_words n.net.pieces) links
              (each_line IsFractionPiece inflow_words inflow_line n.net.pieces h.pieces))
              (end_line, tt),
        ),
      ),
    )
