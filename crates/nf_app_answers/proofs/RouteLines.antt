-- The curves of links in order of number, in two forms.
use Rattle.std.proofs.Common.{◌≡◌, ℕ, suc, ◌+◌, List, [], ◌∷◌, ◌++◌, length, refl, sym, ap, ◌∙◌, zero-add, arith, Option, Some, flat_map, slice_get}
use Rattle.std.proofs.Common.{unwrap_or, map}
use Rattle.nf_app_answers.proofs.Common.{enumerate_from, range_with_len, for_each, Named, loaded_of, loaded_lines, Routed, link_loaded, link_curve_lines}
use Rattle.nf_load_def.specs.Loading.{Loaded}
use Rattle.nf_load.specs.declared.loading.Loaded.{Loaded as CodeLoaded}

-- a map over numbered elements is a map over the numbers, if the numbers determine the elements
by_number : {X A : Type 0} (f : ℕ × X → List A) (g : ℕ → X) (xs : List X) (k : ℕ) → ((i : ℕ) (x : X) → slice_get xs i ≡ Some x → g (k + i) ≡ x)
    → flat_map f (enumerate_from k xs) ≡ flat_map (λ e. f (e, g e)) (range_with_len k (length xs))
by_number f g [] k h = refl
by_number {X} {A} f g (x ∷ xs) k h =
    let same : k ≡ k + 0 = omega arith in
    let first : g k ≡ x = ap g same ∙ h 0 x refl in
    ap (λ (y : X). f (k, y) ++ flat_map f (enumerate_from (k + 1) xs)) (sym first)
    ∙ ap (λ (l : List A). f (k, g k) ++ l) (by_number f g xs (k + 1) (λ i y e. (let more : k + 1 + i ≡ k + suc i = omega arith in ap g more ∙ h (suc i) y e)))

pub links_told : (n : Named) (routed : Routed) (links : List CodeLoaded) → map loaded_of links ≡ routed.links → length routed.links ≡ length n.net.links
    → flat_map (loaded_lines n.link_names) (enumerate_from 0 (map loaded_of links)) ≡ for_each (length n.net.links) (link_curve_lines n routed)
links_told n routed links same many =
    ap (λ (l : List Loaded). flat_map (loaded_lines n.link_names) (enumerate_from 0 l)) same
    ∙ by_number (loaded_lines n.link_names) (link_loaded routed) routed.links 0
    (λ i x e. ap (link_loaded routed) (zero-add i) ∙ ap (λ (o : Option Loaded). unwrap_or o (record { queue = []; outflow = []; exit = [] })) e)
    ∙ ap (λ (count : ℕ). for_each count (link_curve_lines n routed)) many
