-- The network that a file stands for, from its parts.
use Rattle.std.proofs.Common.{◌≡◌, ℕ, zero, suc, ◌≤◌, Bool, true, false, not, List, [], ◌∷◌, length, map, unwrap_or, Option, Some, refl, sym, ◌∙◌, ap}
use Rattle.std.proofs.Common.{subst}
use Rattle.nf_net.proofs.Common.{AllZip, bytes_eq, Has, hop_of, Name, place_of, with_names, without, NamedLink, Named, numbered, ends, names_of, Draft}
use Rattle.nf_net.proofs.Common.{source_name, sink_name, IsReached, marked, network_of, IsNamed, same_names, has_none, with_name_new, AreDivided}
use Rattle.nf_net.proofs.Common.{AreNodesOf, AreTablesOf, net_of, ArePartsOf, IsRead, HasEnds, BreaksNone, flag_at, tail_flags, AreFlags, good_of}
use Rattle.nf_net.proofs.Common.{source_given, sink_given, is_its_name}
use Rattle.std.specs.Bool.{Decides}
use Rattle.std.proofs.lemmas.Simd.{map-map}
use Rattle.nf_net_laws.proofs.AcceptedNamed.{is_named}
use Rattle.nf_net.specs.declared.building.SortedLinks.{SortedLinks}
use Rattle.nf_net.specs.declared.building.SortedNodes.{SortedNodes}
use Rattle.nf_net.specs.declared.building.Tables.{Tables}
use Rattle.nf_net.specs.declared.building.Parts.{Parts}
use Rattle.nf_net.specs.Kept.{with_parts}
use Rattle.nf_net.proofs.Limits.{few_nodes}

-- ---- names put one after the other
put_two : (s t : Name) → (s ≡ t → ⊥) → with_names [] (s ∷ t ∷ []) ≡ s ∷ t ∷ []
put_two s t apart = step (bytes_eq t s) refl
  where
    step : (b : Bool) → bytes_eq t s ≡ b → with_names [] (s ∷ t ∷ []) ≡ s ∷ t ∷ []
    step true e = absurd (apart (sym (same_names t s e)))
    step false e = with_name_new (s ∷ []) t (has_none (s ∷ []) t (e, tt))

-- ---- the flags of links
flag_set : (flags : List Bool) (v : ℕ) → flag_at flags v ≡ true → Has flags v
flag_set [] v e = absurd (cc)
flag_set (b ∷ flags) zero e = ap (λ x. Some x) e
flag_set (b ∷ flags) (suc v) e = flag_set flags v e

module _ (draft : Draft) (flags : List Bool) (are : AreFlags draft flags) where
  active_flags : (links : List NamedLink) → AllZip (λ flag l. Decides flag (IsReached draft (place_of draft.nodes l.tail))) (tail_flags draft.nodes flags links) links
  active_flags [] = tt
  active_flags (l ∷ links) = (
    (
      λ e. (are.each (place_of draft.nodes l.tail)).0 (flag_set flags (place_of draft.nodes l.tail) e),
      λ r. ap (λ (o : Option Bool). unwrap_or o false) ((are.each (place_of draft.nodes l.tail)).1 r),
    ),
    active_flags links,
  )

module _ (draft : Draft) (flags : List Bool) (read : IsRead draft) (has : HasEnds draft) (fine : BreaksNone draft) (are : AreFlags draft flags) where
  named_net : IsNamed (network_of draft (marked (tail_flags draft.nodes flags draft.links) draft.links) (marked (map not (tail_flags draft.nodes flags draft.links)) draft.links))
  named_net = is_named draft (good_of draft read) fine (tail_flags draft.nodes flags draft.links) (active_flags draft flags are draft.links)

  two_ends : source_name draft ≡ sink_name draft → ⊥
  two_ends e = has.apart (is_its_name draft.source (source_given draft has) ∙ ap (λ (x : Name). Some x) e ∙ sym (is_its_name draft.sink (sink_given draft has)))

  abbrev nodes_with : List NamedLink → List Name
  nodes_with active = with_names (source_name draft ∷ sink_name draft ∷ []) (ends active)

  abbrev net_with : List Name → List NamedLink → List NamedLink → Named
  net_with nodes active idle = with_parts draft.version nodes (names_of active) (map (numbered nodes) active) draft.pieces (without nodes (with_names [] (ends idle))) idle

  module _ (links : SortedLinks) (nodes : SortedNodes) (sorted : AreDivided draft flags links) (of : AreNodesOf draft links nodes) where
    nodes_are : nodes.active ≡ nodes_with links.active.items
    nodes_are = of.active ∙ ap (λ (l : List Name). with_names l (ends links.active.items)) (put_two (source_name draft) (sink_name draft) two_ends)

    nodes_all : nodes.active ≡ nodes_with (marked (tail_flags draft.nodes flags draft.links) draft.links)
    nodes_all = nodes_are ∙ ap nodes_with sorted.active

    pub few_names : length nodes.active ≤ 64
    few_names = subst (λ (l : List Name). length l ≤ 64) (sym nodes_all) (few_nodes _ named_net)

    net_is : net_with nodes.active links.active.items links.idle.items
        ≡ network_of draft (marked (tail_flags draft.nodes flags draft.links) draft.links) (marked (map not (tail_flags draft.nodes flags draft.links)) draft.links)
    net_is = ap (λ (l : List Name). net_with l links.active.items links.idle.items) nodes_are ∙ (λ i. net_with (nodes_with (sorted.active i)) (sorted.active i) (sorted.idle i))

    module _ (tables : Tables) (are_tables : AreTablesOf nodes.active links.active.items tables) where
      abbrev parts : Parts
      parts = record { links = links; nodes = nodes; tables = tables }

      net_of_is : net_of draft parts
          ≡ network_of draft (marked (tail_flags draft.nodes flags draft.links) draft.links) (marked (map not (tail_flags draft.nodes flags draft.links)) draft.links)
      net_of_is = (λ i. with_parts draft.version (are_tables.node_names i) (are_tables.link_names i) (are_tables.links i) draft.pieces (of.idle i) links.idle.items) ∙ net_is

      pub are_parts : ArePartsOf draft parts
      are_parts = record {
        kept = record {
          named = subst IsNamed (sym net_of_is) named_net;
          hops = are_tables.hops ∙ sym (map-map hop_of (numbered nodes.active) links.active.items) ∙ ap (map hop_of) (sym are_tables.links);
        };
        stands = record { flags = tail_flags draft.nodes flags draft.links; active = active_flags draft flags are draft.links; network = net_of_is };
      }
