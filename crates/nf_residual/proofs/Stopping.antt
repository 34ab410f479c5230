-- A failure of a computation of part Quick is the failure of the computation followed by any other. Its value is passed to the next one.
use Rattle.std.proofs.Common.{◌≡◌, List, Option, Some, None, sym, ap, subst, ◌∙◌, Result, Ok, Err, unwrap_or}
use Rattle.nf_residual.proofs.Common.{ℚ, 0ℚ, Passing, Halt, PassedAt, Checked, Stops, at_part, fold_checked, seen_passed_at, ◌>>=◌, Network, Step, Reach}
use Rattle.nf_residual.proofs.Common.{Walk, room_after, with_room}
use Rattle.nf_frac_def.specs.declared.Part.TheVariants as Part

pub ok_of_part : {A : Type 0} (r : Checked A) (x : A) → at_part Part.Quick r ≡ Ok x → r ≡ Ok x
ok_of_part (Ok a) x e = let h = e in cc
ok_of_part (Err p) x e = absurd (cc)

module _ {A B : Type 0} where
  moved : (p q : PassedAt ℚ) → ◌≡◌ {A = Result A (PassedAt ℚ)} (Err p) (Err q) → ◌≡◌ {A = Result B (PassedAt ℚ)} (Err p) (Err q)
  moved p q e = let f = e in cc

  pub stopped : (r : Checked A) (f : A → Checked B) (p : PassedAt ℚ) → at_part Part.Quick r ≡ Err p → at_part Part.Quick (r >>= f) ≡ Err p
  stopped (Ok x) f p e = absurd (cc)
  stopped (Err q) f p e = moved _ p e

  pub stops : (r : Checked A) (f : A → Checked B) (h : Halt ℚ) → Stops (λ (q : ℚ). q) h (at_part Part.Quick r) → Stops (λ (q : ℚ). q) h (at_part Part.Quick (r >>= f))
  stops r f (Halt.Passed p) e = stopped r f (seen_passed_at (λ (q : ℚ). q) p) e
  stops r f Halt.Memory e = tt

  pub goes_on : (r : Checked A) (f : A → Checked B) (x : A) → at_part Part.Quick r ≡ Ok x → (r >>= f) ≡ f x
  goes_on r f x e = ap (λ (w : Checked A). w >>= f) (ok_of_part r x e)

-- The same for equal computations.
pub stops_as : {A : Type 0} (r s : Checked A) (h : Halt ℚ) → r ≡ s → Stops (λ (q : ℚ). q) h (at_part Part.Quick s) → Stops (λ (q : ℚ). q) h (at_part Part.Quick r)
stops_as {A} r s h e k = subst (λ (w : Checked A). Stops (λ (q : ℚ). q) h (at_part Part.Quick w)) (sym e) k

-- The room of a path, if an operation of it exceeds its bound.
pub room_stops : (passes : Passing) (net : Network) (flows : List ℚ) (way : Option Reach) (reach : Reach) (steps : List Step) → way ≡ Some reach → steps ≡ reach.steps → (p : PassedAt ℚ)
    → Err p ≡ at_part Part.Quick (fold_checked (room_after passes net flows) None steps) → Err p ≡ at_part Part.Quick (with_room passes net flows way)
room_stops passes net flows way reach steps is along p e =
    let room : List Step → Checked (Option ℚ) = λ steps. fold_checked (room_after passes net flows) None steps in
    sym (ap (λ (o : Option Reach). at_part Part.Quick (with_room passes net flows o)) is
    ∙ stopped (room reach.steps) (λ room. Ok (Some (record { steps = reach.steps; length = reach.distance; room = unwrap_or room 0ℚ }))) p
    (ap (λ (l : List Step). at_part Part.Quick (room l)) (sym along) ∙ sym e))

-- The walk of a path, with its room.
abbrev pub walk_of : Reach → ℚ → Walk
walk_of reach room = record { steps = reach.steps; length = reach.distance; room = room }

pub room_found : (passes : Passing) (net : Network) (flows : List ℚ) (way : Option Reach) (reach : Reach) (steps : List Step) → way ≡ Some reach → steps ≡ reach.steps → (room : Option ℚ)
    → Ok room ≡ at_part Part.Quick (fold_checked (room_after passes net flows) None steps) → (least : ℚ) → room ≡ Some least
    → Ok (Some (walk_of reach least)) ≡ at_part Part.Quick (with_room passes net flows way)
room_found passes net flows way reach steps is along room e least some =
    let room_along : List Step → Checked (Option ℚ) = λ steps. fold_checked (room_after passes net flows) None steps in
    sym (ap (λ (o : Option Reach). at_part Part.Quick (with_room passes net flows o)) is
    ∙ ap (at_part Part.Quick) (goes_on (room_along reach.steps) (λ (o : Option ℚ). Ok (Some (walk_of reach (unwrap_or o 0ℚ)))) room
    (ap (λ (l : List Step). at_part Part.Quick (room_along l)) (sym along) ∙ sym e))
    ∙ ap (λ (o : Option ℚ). Ok (Some (walk_of reach (unwrap_or o 0ℚ)))) some)
