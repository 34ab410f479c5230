-- The bytes under a name, file after file.
use Rattle.std.specs.Prelude.{◌≡◌, ℕ, ◌+◌, ◌<◌, ◌≤◌, Bool, true, false, if◌then◌else◌, List, length, get_or, drop, Some, None}
use Rattle.std.proofs.Common.{sym, ap, ◌∙◌}
use Rattle.std.proofs.lemmas.List.{at_drop_more, at_drop_all}
use Rattle.std.specs.Str.{bytes_eq}
use Rattle.nf_edge.specs.Memory.{told_under}

-- what the file at an index, the first of those left, says
module _ (files : List (List ℕ × List ℕ)) (i : ℕ) (file : List ℕ × List ℕ) (key bytes name : List ℕ)
    (below : i < length files) (at_i : file ≡ get_or files i file) (view : (key, bytes) ≡ file) where
  here : get_or files i file ≡ (key, bytes)
  here = sym (view ∙ at_i)

  told_from : told_under (drop i files) name ≡ (if bytes_eq key name then Some bytes else told_under (drop (i + 1) files) name)
  told_from = at_drop_more (λ (left : List (List ℕ × List ℕ)). told_under left name) files i file below
      ∙ ap (λ (f : List ℕ × List ℕ). if bytes_eq f.0 name then Some f.1 else told_under (drop (i + 1) files) name) here

  tested : (shown : List ℕ) (same : Bool) → shown ≡ key → same ≡ bytes_eq shown name
      → told_under (drop i files) name ≡ (if same then Some bytes else told_under (drop (i + 1) files) name)
  tested shown same is test = told_from
      ∙ ap (λ (b : Bool). if b then Some bytes else told_under (drop (i + 1) files) name) (sym (test ∙ ap (λ (k : List ℕ). bytes_eq k name) is))

  pub told_here : (shown given : List ℕ) → told_under files name ≡ told_under (drop i files) name → shown ≡ key → true ≡ bytes_eq shown name → given ≡ bytes
      → told_under files name ≡ Some given
  told_here shown given so_far is test gives = so_far ∙ tested shown true is test ∙ ap Some (sym gives)

  pub told_later : (shown : List ℕ) → told_under files name ≡ told_under (drop i files) name → shown ≡ key → false ≡ bytes_eq shown name
      → told_under files name ≡ told_under (drop (i + 1) files) name
  told_later shown so_far is test = so_far ∙ tested shown false is test

pub told_nowhere : (files : List (List ℕ × List ℕ)) (i : ℕ) (name : List ℕ) → told_under files name ≡ told_under (drop i files) name → length files ≤ i
    → told_under files name ≡ None
told_nowhere files i name so_far all = so_far ∙ at_drop_all (λ (left : List (List ℕ × List ℕ)). told_under left name) files i all
