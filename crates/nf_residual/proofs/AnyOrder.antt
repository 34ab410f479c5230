-- A round that tries some of the arcs, in any order, gives the table of the whole round, if no arc then offers anything new.
use Rattle.std.proofs.Common.{◌≡◌, ◌≢◌, ℕ, zero, suc, ◌<◌, List, [], ◌∷◌, length, length-set, Bool, true, false, if◌then◌else◌, ◌⊎◌, inl, inr, ⊎_elim, eqb}
use Rattle.std.proofs.Common.{Option, Some, None, slice_get, refl, sym, ap, subst, ◌∙◌, arith, Ok}
use Rattle.nf_residual.proofs.Common.{eqb_tells, Passing, Checked, fold_checked, ◌>>=◌, bind_ok, Reach, IsAtMost, is_better, Known, known_at, better_of}
use Rattle.nf_residual.proofs.Common.{offered, IsAtMost-refl, IsAtMost-trans, better-old, known_at-set, Leg, along_leg}
use Rattle.nf_residual.proofs.Offering.{set_elsewhere}
use Rattle.nf_residual.proofs.Settled.{one_way, at_most, lost_there, gives, Offers, same_ok, settled_here, settled_then}

-- ---- tables
-- To each node to which `other` has a path, `known` has one that is at most that path.
abbrev pub IsAsGood : Known → Known → Type 0
IsAsGood known other = (v : ℕ) (way : Reach) → known_at other v ≡ Some way → (best : Reach) × (known_at known v ≡ Some best) × IsAtMost best way

same_some : (a b : Reach) → Some a ≡ Some b → a ≡ b
same_some a b e = cc

apart : (a : Reach) → None ≡ Some a → ⊥
apart a e = cc

abbrev EntryIsAsGood : Option Reach → Option Reach → Type 0
EntryIsAsGood o p = (way : Reach) → p ≡ Some way → (best : Reach) × (o ≡ Some best) × IsAtMost best way

one_entry : (o p : Option Reach) → EntryIsAsGood o p → EntryIsAsGood p o → o ≡ p
one_entry None None f g = refl
one_entry None (Some b) f g = absurd (apart (f b refl).0 (f b refl).1)
one_entry (Some a) None f g = absurd (apart (g a refl).0 (g a refl).1)
one_entry (Some a) (Some b) f g = ap (λ (r : Reach). Some r) (one_way a b
    (subst (λ (r : Reach). IsAtMost r b) (sym (same_some a (f b refl).0 (f b refl).1)) (f b refl).2)
    (subst (λ (r : Reach). IsAtMost r a) (sym (same_some b (g a refl).0 (g a refl).1)) (g a refl).2))

same_tables : (known other : Known) → length known ≡ length other → IsAsGood known other → IsAsGood other known → known ≡ other
same_tables [] [] e f g = refl
same_tables [] (p ∷ other) e f g = absurd (omega arith)
same_tables (o ∷ known) [] e f g = absurd (omega arith)
same_tables (o ∷ known) (p ∷ other) e f g =
    ap (λ (h : Option Reach). h ∷ known) (one_entry o p (λ way is. f zero way is) (λ way is. g zero way is))
    ∙ ap (λ (l : Known). p ∷ l) (same_tables known other (omega arith) (λ v way is. f (suc v) way is) (λ v way is. g (suc v) way is))

-- ---- the better of a known path and an offered one
best_of : (o : Option Reach) (way old : Reach) → IsAtMost old way → ((known : Reach) → o ≡ Some known → IsAtMost old known) → IsAtMost old (better_of o way)
best_of None way old h k = h
best_of (Some known) way old h k = by_test (is_better way known)
  where
    by_test : (t : Bool) → IsAtMost old (if t then way else known)
    by_test true = h
    by_test false = k known refl

-- ---- one offer
offer_stays : (full so_far : Known) (v : ℕ) (way old : Reach) → v < length so_far → known_at full v ≡ Some old → IsAtMost old way → IsAsGood full so_far
    → IsAsGood full (offered so_far v way)
offer_stays full so_far v way old h at less good w other is = by_node (eqb_tells w v)
  where
    by_node : ((eqb w v ≡ true) × (w ≡ v)) ⊎ ((eqb w v ≡ false) × (w ≢ v)) → (best : Reach) × (known_at full w ≡ Some best) × IsAtMost best other
    by_node (inl k) =
        let made : known_at (offered so_far v way) w ≡ Some (better_of (known_at so_far v) way) =
        ap (λ (u : ℕ). known_at (offered so_far v way) u) k.1 ∙ known_at-set so_far v (Some (better_of (known_at so_far v) way)) h in
        let least : IsAtMost old (better_of (known_at so_far v) way) = best_of (known_at so_far v) way old less
        (λ known e. let g = good v known e in subst (λ (r : Reach). IsAtMost r known) (same_some g.0 old (sym g.1 ∙ at)) g.2) in
        (old, ap (λ (u : ℕ). known_at full u) k.1 ∙ at, subst (λ (r : Reach). IsAtMost old r) (same_some _ other (sym made ∙ is)) least)
    by_node (inr k) = good w other (sym (set_elsewhere so_far v w (Some (better_of (known_at so_far v) way)) k.1) ∙ is)

offer_betters : (so_far base : Known) (v : ℕ) (way : Reach) → v < length so_far → IsAsGood so_far base → IsAsGood (offered so_far v way) base
offer_betters so_far base v way h good w other is = by_node (good w other is) (eqb_tells w v)
  where
    by_node : (best : Reach) × (known_at so_far w ≡ Some best) × IsAtMost best other → ((eqb w v ≡ true) × (w ≡ v)) ⊎ ((eqb w v ≡ false) × (w ≢ v))
        → (best : Reach) × (known_at (offered so_far v way) w ≡ Some best) × IsAtMost best other
    by_node g (inl k) =
        let there : known_at so_far v ≡ Some g.0 = ap (λ (u : ℕ). known_at so_far u) (sym k.1) ∙ g.1 in
        let made : known_at (offered so_far v way) w ≡ Some (better_of (Some g.0) way) =
        ap (λ (u : ℕ). known_at (offered so_far v way) u) k.1 ∙ known_at-set so_far v (Some (better_of (known_at so_far v) way)) h
        ∙ ap (λ (o : Option Reach). Some (better_of o way)) there in
        (better_of (Some g.0) way, made, IsAtMost-trans (better_of (Some g.0) way) g.0 other (better-old g.0 way) g.2)
    by_node g (inr k) = (g.0, set_elsewhere so_far v w (Some (better_of (known_at so_far v) way)) k.1 ∙ g.1, g.2)

-- ---- one arc
module _ (passes : Passing) (before : Known) where
  abbrev goes : Known → Leg → Checked Known
  goes = along_leg passes before

  abbrev EndsWithin : ℕ → List Leg → Type 0
  EndsWithin count legs = (j : ℕ) (leg : Leg) → slice_get legs j ≡ Some leg → leg.end < count

  abbrev AllSettled : Known → List Leg → Type 0
  AllSettled full legs = (j : ℕ) (leg : Leg) → slice_get legs j ≡ Some leg → goes full leg ≡ Ok full

  module _ (leg : Leg) where
    leg_length : (so_far next : Known) → goes so_far leg ≡ Ok next → length next ≡ length so_far
    leg_length so_far next e = ⊎_elim
        (λ (o : (later : Known) → along_leg passes before later leg ≡ Ok later). ap (λ (k : Known). length k) (same_ok next so_far (sym e ∙ o so_far)))
        (λ (o : Offers passes before leg so_far next). ap (λ (k : Known). length k) o.1 ∙ length-set so_far leg.end _)
        (gives passes before leg (known_at before leg.begin) so_far next e)

    leg_stays : (full so_far next : Known) → leg.end < length full → leg.end < length so_far → goes full leg ≡ Ok full → goes so_far leg ≡ Ok next
        → IsAsGood full so_far → IsAsGood full next
    leg_stays full so_far next h k e f good = ⊎_elim
        (λ (o : (later : Known) → along_leg passes before later leg ≡ Ok later). subst (λ (n : Known). IsAsGood full n) (same_ok so_far next (sym (o so_far) ∙ f)) good)
        (λ (o : Offers passes before leg so_far next).
        let l = lost_there full leg.end o.0 h (same_ok (offered full leg.end o.0) full (sym (o.2 full) ∙ e)) in
        subst (λ (n : Known). IsAsGood full n) (sym o.1) (offer_stays full so_far leg.end o.0 l.0 k l.1 (at_most l.0 o.0 l.2) good))
        (gives passes before leg (known_at before leg.begin) so_far next f)

    leg_betters : (so_far next base : Known) → leg.end < length so_far → goes so_far leg ≡ Ok next → IsAsGood so_far base → IsAsGood next base
    leg_betters so_far next base h e good = ⊎_elim
        (λ (o : (later : Known) → along_leg passes before later leg ≡ Ok later). subst (λ (n : Known). IsAsGood n base) (same_ok so_far next (sym (o so_far) ∙ e)) good)
        (λ (o : Offers passes before leg so_far next). subst (λ (n : Known). IsAsGood n base) (sym o.1) (offer_betters so_far base leg.end o.0 h good))
        (gives passes before leg (known_at before leg.begin) so_far next e)

    -- An arc whose operation doesn't pass once never passes.
    leg_goes : (full so_far : Known) → goes full leg ≡ Ok full → (next : Known) × (goes so_far leg ≡ Ok next)
    leg_goes full so_far e = ⊎_elim
        (λ (o : (later : Known) → along_leg passes before later leg ≡ Ok later). (so_far, o so_far))
        (λ (o : Offers passes before leg full full). (offered so_far leg.end o.0, o.2 so_far))
        (gives passes before leg (known_at before leg.begin) full full e)

  -- ---- many arcs
  pub fold_length : (legs : List Leg) (so_far next : Known) → fold_checked goes so_far legs ≡ Ok next → length next ≡ length so_far
  fold_length [] so_far next e = ap (λ (k : Known). length k) (same_ok next so_far (sym e))
  fold_length (leg ∷ legs) so_far next e =
      let b = bind_ok (goes so_far leg) (λ mid. fold_checked goes mid legs) next e in
      fold_length legs b.0 next b.2 ∙ leg_length leg so_far b.0 b.1

  fold_stays : (legs : List Leg) (full so_far next : Known) → EndsWithin (length full) legs → length so_far ≡ length full → AllSettled full legs → fold_checked goes so_far legs ≡ Ok next
      → IsAsGood full so_far → IsAsGood full next
  fold_stays [] full so_far next ends count settled e good = subst (λ (n : Known). IsAsGood full n) (same_ok so_far next e) good
  fold_stays (leg ∷ legs) full so_far next ends count settled e good =
      let b = bind_ok (goes so_far leg) (λ mid. fold_checked goes mid legs) next e in
      fold_stays legs full b.0 next (λ j other is. ends (suc j) other is) (leg_length leg so_far b.0 b.1 ∙ count) (λ j other is. settled (suc j) other is) b.2
      (leg_stays leg full so_far b.0 (ends zero leg refl) (subst (λ (n : ℕ). leg.end < n) (sym count) (ends zero leg refl)) (settled zero leg refl) b.1 good)

  fold_betters : (legs : List Leg) (so_far next base : Known) → EndsWithin (length so_far) legs → fold_checked goes so_far legs ≡ Ok next → IsAsGood so_far base → IsAsGood next base
  fold_betters [] so_far next base ends e good = subst (λ (n : Known). IsAsGood n base) (same_ok so_far next e) good
  fold_betters (leg ∷ legs) so_far next base ends e good =
      let b = bind_ok (goes so_far leg) (λ mid. fold_checked goes mid legs) next e in
      fold_betters legs b.0 next base (λ j other is. subst (λ (n : ℕ). other.end < n) (sym (leg_length leg so_far b.0 b.1)) (ends (suc j) other is)) b.2
      (leg_betters leg so_far b.0 base (ends zero leg refl) b.1 good)

  fold_goes : (legs : List Leg) (full so_far : Known) → AllSettled full legs → (next : Known) × (fold_checked goes so_far legs ≡ Ok next)
  fold_goes [] full so_far settled = (so_far, refl)
  fold_goes (leg ∷ legs) full so_far settled =
      let one = leg_goes leg full so_far (settled zero leg refl) in
      let more = fold_goes legs full one.0 (λ j other is. settled (suc j) other is) in
      (more.0, ap (λ (r : Checked Known). r >>= λ mid. fold_checked goes mid legs) one.1 ∙ more.1)

  -- An arc that is settled stays so.
  pub fold_keeps : (legs : List Leg) (so_far next : Known) → EndsWithin (length so_far) legs → fold_checked goes so_far legs ≡ Ok next
      → (other : Leg) → other.end < length so_far → goes so_far other ≡ Ok so_far → goes next other ≡ Ok next
  fold_keeps [] so_far next ends e other h f = subst (λ (n : Known). goes n other ≡ Ok n) (same_ok so_far next e) f
  fold_keeps (leg ∷ legs) so_far next ends e other h f =
      let b = bind_ok (goes so_far leg) (λ mid. fold_checked goes mid legs) next e in
      let long : length b.0 ≡ length so_far = leg_length leg so_far b.0 b.1 in
      fold_keeps legs b.0 next (λ j more is. subst (λ (n : ℕ). more.end < n) (sym long) (ends (suc j) more is)) b.2 other (subst (λ (n : ℕ). other.end < n) (sym long) h)
      (settled_then passes before other leg so_far b.0 h f b.1)

  pub fold_settles : (legs : List Leg) (so_far next : Known) → EndsWithin (length so_far) legs → fold_checked goes so_far legs ≡ Ok next → AllSettled next legs
  fold_settles [] so_far next ends e j leg is = absurd (cc)
  fold_settles (first ∷ legs) so_far next ends e zero leg is =
      let b = bind_ok (goes so_far first) (λ mid. fold_checked goes mid legs) next e in
      let long : length b.0 ≡ length so_far = leg_length first so_far b.0 b.1 in
      let same : first ≡ leg = cc in
      subst (λ (l : Leg). goes next l ≡ Ok next) same
      (fold_keeps legs b.0 next (λ j more at. subst (λ (n : ℕ). more.end < n) (sym long) (ends (suc j) more at)) b.2 first
      (subst (λ (n : ℕ). first.end < n) (sym long) (ends zero first refl))
      (settled_here passes before first so_far b.0 (ends zero first refl) b.1))
  fold_settles (first ∷ legs) so_far next ends e (suc j) leg is =
      let b = bind_ok (goes so_far first) (λ mid. fold_checked goes mid legs) next e in
      fold_settles legs b.0 next (λ j more at. subst (λ (n : ℕ). more.end < n) (sym (leg_length first so_far b.0 b.1)) (ends (suc j) more at)) b.2 j leg is

  abbrev pub AreAmong : List Leg → List Leg → Type 0
  AreAmong tried legs = (j : ℕ) (leg : Leg) → slice_get tried j ≡ Some leg → (i : ℕ) × (slice_get legs i ≡ Some leg)

  pub any_order : (legs tried : List Leg) (full : Known) → EndsWithin (length before) legs → AreAmong tried legs → fold_checked goes before tried ≡ Ok full → AllSettled full legs
      → fold_checked goes before legs ≡ Ok full
  any_order legs tried full ends among e settled =
      let whole = fold_goes legs full before settled in
      let long : length whole.0 ≡ length before = fold_length legs before whole.0 whole.1 in
      let count : length full ≡ length before = fold_length tried before full e in
      let same : IsAsGood before before = λ v way is. (way, is, IsAtMost-refl way) in
      let tried_ends : EndsWithin (length before) tried = λ j leg is. let a = among j leg is in ends a.0 leg a.1 in
      let all : AllSettled whole.0 legs = fold_settles legs before whole.0 ends whole.1 in
      let one : IsAsGood whole.0 full = fold_stays tried whole.0 before full (λ j leg is. subst (λ (n : ℕ). leg.end < n) (sym long) (tried_ends j leg is)) (sym long)
      (λ j leg is. let a = among j leg is in all a.0 leg a.1) e (fold_betters legs before whole.0 before ends whole.1 same) in
      let other : IsAsGood full whole.0 = fold_stays legs full before whole.0 (λ j leg is. subst (λ (n : ℕ). leg.end < n) (sym count) (ends j leg is)) (sym count)
      settled whole.1 (fold_betters tried before full before tried_ends e same) in
      whole.1 ∙ ap Ok (same_tables whole.0 full (long ∙ sym count) one other)
