-- The first listed pattern of a phase that no phase precedes.
use Rattle.std.proofs.Common.{◌≡◌, ℕ, ◌<◌, Bool, List, length, replicate, Option, Some, None, slice_get, unwrap_or, sym, ap, ◌∙◌, arith}
use Rattle.std.proofs.lemmas.List.{get_or-replicate}
use Rattle.std.proofs.lemmas.Option.{slice_get_within, unwrap_or-slice_get}
use Rattle.nf_rational_laws.proofs.Entries.{entry}
use Rattle.std.proofs.lemmas.List.{length-replicate}
use Rattle.nf_model.specs.declared.State.{State}
use Rattle.nf_model.specs.declared.State.TheVariants.{Tight, Full, Zero}
use Rattle.nf_model.specs.Walk.{Hop}
use Rattle.nf_model.specs.ThinFlow.{Sets}
use Rattle.nf_model.specs.Pattern.{Pattern, HasState, NeedsState, IsPattern, IsBase}

no_state : (n e : ℕ) → e < n → ◌≡◌ {A = Option (Option State)} (slice_get (replicate n None) e) (Some None)
no_state n e less =
    let blank : Option State = None in
    let none : List (Option State) = replicate n blank in
    let within : e < length none = omega (arith, length-replicate n blank) in
    let here = entry none e within in
    here.1 ∙ ap (λ (o : Option State). Some o)
    (ap (λ (o : Option (Option State)). unwrap_or o blank) (sym here.1) ∙ (unwrap_or-slice_get none e blank ∙ get_or-replicate n e blank blank less))

-- the base pattern is a pattern: no link is Full
pub first_base : (hops : List Hop) (sets : Sets) (unbounded : List Bool) (before base : Pattern) → before ≡ replicate (length hops) None
    → length sets.active ≡ length hops → IsBase hops sets before base → IsPattern sets unbounded base
first_base hops sets unbounded before base none count b = record { count = b.count; states = b.states; no_full = λ e u. never e }
  where
    differ : (e : ℕ) → HasState base e Full → HasState base e Tight → ⊥
    differ e full tight = absurd (cc)

    zero_differs : (e : ℕ) → HasState base e Full → HasState base e Zero → ⊥
    zero_differs e full zero = absurd (cc)

    never : (e : ℕ) → HasState base e Full → ⊥
    never e full =
        let need : NeedsState sets e = (b.states e).1 (Full, full) in
        let within : e < length sets.active = slice_get_within sets.active e _ need.0 in
        let empty : slice_get before e ≡ Some None = ap (λ (p : Pattern). slice_get p e) none ∙ no_state (length hops) e (omega arith) in
        zero_differs e full (b.later e need empty (λ hop first. differ e full (b.first e hop need empty first)))
