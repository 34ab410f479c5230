-- The keys of a report's curves by their numbers.
use Rattle.std.proofs.Common.{◌≡◌, ℕ, zero, suc, ◌+◌, ◌*◌, ◌/◌, ◌%◌, ◌<◌, ◌≤◌, List, [], ◌∷◌, ◌++◌, length, map, Some, None, refl, ap, ◌∙◌, arith}
use Rattle.std.proofs.Common.{length-append, slice_get}
use Rattle.nf_report_lines.proofs.Common.{length-map, Name, name_at, Named, as_many_names, CurveKey, key_of, curve_keys, link_keys, kind_of_three}
use Rattle.std.proofs.Math.Nat.{div-add-mod, mod-lt}
use Rattle.std.proofs.lemmas.Option.{slice_get_past}
use Rattle.nf_net_def.specs.WellNamed.{IsNamed}
use Rattle.nf_report_def.specs.ReportLines as lines

-- ---- how many there are
length_link_keys : (names : List Name) → length (link_keys names) ≡ 3 * length names
length_link_keys [] = refl
length_link_keys (name ∷ names) = let k = length_link_keys names in omega (arith, k)

abbrev before_links : Named → List CurveKey
before_links n = map (key_of lines.OfLabel) n.node_names ++ map (key_of lines.OfNever) n.idle_nodes

pub length_curve_keys : (n : Named) → length (curve_keys n) ≡ length n.node_names + length n.idle_nodes + 3 * length n.link_names
length_curve_keys n =
    let a : length (curve_keys n) ≡ length (before_links n) + length (link_keys n.link_names) = length-append (before_links n) (link_keys n.link_names) in
    let b : length (before_links n) ≡ length (map (key_of lines.OfLabel) n.node_names) + length (map (key_of lines.OfNever) n.idle_nodes) =
    length-append (map (key_of lines.OfLabel) n.node_names) (map (key_of lines.OfNever) n.idle_nodes) in
    let d : length (map (key_of lines.OfLabel) n.node_names) ≡ length n.node_names = length-map n.node_names (key_of lines.OfLabel) in
    let e : length (map (key_of lines.OfNever) n.idle_nodes) ≡ length n.idle_nodes = length-map n.idle_nodes (key_of lines.OfNever) in
    let f = length_link_keys n.link_names in
    omega (arith, a, b, d, e, f)

pub curves_counted : (n : Named) → IsNamed n → n.net.nodes + length n.idle_nodes + 3 * length n.net.links ≡ length (curve_keys n)
curves_counted n h = let a = length_curve_keys n in let b = h.numbered.nodes in let d = as_many_names n h in omega (arith, a, b, d)

-- ---- by their numbers
of_three : (name : Name) (rest : List CurveKey) (r : ℕ) → r < 3
    → slice_get (key_of lines.OfInflow name ∷ key_of lines.OfOutflow name ∷ key_of lines.OfQueue name ∷ rest) r ≡ Some (key_of (kind_of_three r) name)
of_three name rest zero lt = refl
of_three name rest (suc zero) lt = refl
of_three name rest (suc (suc zero)) lt = refl
of_three name rest (suc (suc (suc r))) lt = absurd (omega arith)

by_three : (names : List Name) (e r i : ℕ) → r < 3 → e < length names → i ≡ 3 * e + r → slice_get (link_keys names) i ≡ Some (key_of (kind_of_three r) (name_at names e))
by_three [] e r i s lt is = absurd (omega arith)
by_three (name ∷ names) zero r i s lt is =
    let e : i ≡ r = omega (arith, is) in
    ap (slice_get (link_keys (name ∷ names))) e ∙ of_three name (link_keys names) r s
by_three (name ∷ names) (suc e) r i s lt is =
    let next : i ≡ suc (suc (suc (3 * e + r))) = omega (arith, is) in
    ap (slice_get (link_keys (name ∷ names))) next ∙ by_three names e r (3 * e + r) s (omega arith) refl

pub link_key_there : (names : List Name) (i e : ℕ) → e ≡ i / 3 → e < length names → slice_get (link_keys names) i ≡ Some (key_of (kind_of_three (i % 3)) (name_at names e))
link_key_there names i e is lt =
    let r : i % 3 < 3 = mod-lt i (omega arith) in
    let d = div-add-mod i 3 in
    by_three names e (i % 3) i r lt (omega (arith, d, is))

pub link_key_past : (names : List Name) (i e : ℕ) → e ≡ i / 3 → length names ≤ e → slice_get (link_keys names) i ≡ None
link_key_past names i e is le =
    let d = div-add-mod i 3 in
    slice_get_past (link_keys names) i (omega (arith, length_link_keys names, d, is, le))
