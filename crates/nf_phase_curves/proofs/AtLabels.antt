-- The labels of a link's ends, read from the list, and curves that end before these labels.
use Rattle.std.proofs.Common.{◌≡◌, ℕ, ◌<◌, List, length, get_or, refl, sym, ap, subst, ◌∙◌, Option, Some, None, IsSome, unwrap_or}
use Rattle.nf_phase_curves.proofs.Common.{slice_get_read, ℚ, 0ℚ, ◌<ℚ◌, Point, number_at, time_of_last}
use Rattle.std.proofs.lemmas.Bool.{false≢true}

pub number_read : (numbers : List ℚ) (v i : ℕ) (number : ℚ) → i ≡ v → v < length numbers → number ≡ get_or numbers i number → number_at numbers v ≡ number
number_read numbers v i number same inside is =
    ap (λ (j : ℕ). number_at numbers j) (sym same)
    ∙ ap (λ (o : Option ℚ). unwrap_or o 0ℚ) (slice_get_read numbers (length numbers) i number refl (subst (λ (j : ℕ). j < length numbers) (sym same) inside) is)

pub ends_before : {A : Type 0} (step : Option A) (points : List Point) (time label : ℚ) → time ≡ label → ((x : A) → step ≡ Some x → time_of_last points <ℚ time)
    → IsSome step → time_of_last points <ℚ label
ends_before (Some x) points time label e later some = subst (λ (t : ℚ). time_of_last points <ℚ t) e (later x refl)
ends_before None points time label e later some = absurd (false≢true some)
