-- Patterns with forced states, and patterns without the forced links.
use Rattle.std.proofs.Common.{◌≡◌, ◌⊎◌, inl, inr, ℕ, Bool, true, false, List, [], ◌∷◌, length, refl, sym, ap, ◌∙◌, arith, Option, Some, None, slice_get}
use Rattle.nf_thin_laws.proofs.Common.{none-some, same_Some, slice_get_within, State, Tight, Full, Zero, Has, Hop, Sets, Pattern, HasState, NeedsState}
use Rattle.nf_thin_laws.proofs.Common.{IsPattern, IsTrail, IsForest, IsListed, entry, free_state, given_state, unforced_of, filled, still_active}
use Rattle.nf_thin_laws.proofs.Common.{now_resetting, sets_left, IsForcing, HasForced}
use Rattle.nf_thin_laws.proofs.Entrywise.{entrywise-length, entrywise-at, entrywise-parts, entrywise-back}

-- ---- forests of fewer hops
trail_within : (hops : List Hop) (A B : ℕ → Type 0) → ((e : ℕ) → A e → B e) → (steps : List (ℕ × Bool)) (v w : ℕ) → IsTrail hops A steps v w → IsTrail hops B steps v w
trail_within hops A B into [] v w t = t
trail_within hops A B into ((e, b) ∷ steps) v w (g, p, a, at, t) = (g, p, into e a, at, trail_within hops A B into steps _ w t)

pub forest_within : (hops : List Hop) (A B : ℕ → Type 0) → ((e : ℕ) → A e → B e) → IsForest hops B → IsForest hops A
forest_within hops A B into forest first steps v differ t = forest first steps v differ (trail_within hops A B into (first ∷ steps) v v t)

-- ---- forced states put in, and removed again
abbrev pub IsBare : Pattern → Pattern → Type 0
IsBare forced p = (e : ℕ) (f : State) → HasState forced e f → slice_get p e ≡ Some None

bare_left : (forced p : Pattern) → IsBare forced p → (e : ℕ) (f s : Option State) → slice_get forced e ≡ Some f → slice_get p e ≡ Some s → free_state f (given_state f s) ≡ s
bare_left forced p b e None s h k = refl
bare_left forced p b e (Some f) s h k = same_Some None s (sym (b e f h) ∙ k)

pub unforced_of-filled : (forced p : Pattern) → length forced ≡ length p → IsBare forced p → unforced_of forced (filled forced p) ≡ p
unforced_of-filled forced p n b = entrywise-back free_state given_state forced p n (bare_left forced p b)

forced_given : (forced p : Pattern) → HasForced forced p → (e : ℕ) (f s : Option State) → slice_get forced e ≡ Some f → slice_get p e ≡ Some s → given_state f (free_state f s) ≡ s
forced_given forced p has e None s h k = refl
forced_given forced p has e (Some f) s h k = same_Some (Some f) s (sym (has e f h) ∙ k)

pub filled-unforced_of : (forced p : Pattern) → length forced ≡ length p → HasForced forced p → filled forced (unforced_of forced p) ≡ p
filled-unforced_of forced p n has = entrywise-back given_state free_state forced p n (forced_given forced p has)

-- ---- entries
state_left : (forced p : Pattern) (e : ℕ) (s : State) → HasState (unforced_of forced p) e s → (slice_get forced e ≡ Some None) × HasState p e s
state_left forced p e s h = let w = entrywise-parts free_state forced p e (Some s) h in go w.0 w.1 w.2 w.3 w.4
  where
    go : (f t : Option State) → slice_get forced e ≡ Some f → slice_get p e ≡ Some t → Some s ≡ free_state f t → (slice_get forced e ≡ Some None) × HasState p e s
    go None t at_f at_t is = (at_f, at_t ∙ ap (λ (x : Option State). Some x) (sym is))
    go (Some f) t at_f at_t is = absurd (none-some s (sym is))

left_state : (forced p : Pattern) (e : ℕ) (s : State) → slice_get forced e ≡ Some None → HasState p e s → HasState (unforced_of forced p) e s
left_state forced p e s free h = entrywise-at free_state forced p e None (Some s) free h

state_filled : (forced p : Pattern) (e : ℕ) (s : State) → HasState (filled forced p) e s → ((slice_get forced e ≡ Some None) × HasState p e s) ⊎ HasState forced e s
state_filled forced p e s h = let w = entrywise-parts given_state forced p e (Some s) h in go w.0 w.1 w.2 w.3 w.4
  where
    go : (f t : Option State) → slice_get forced e ≡ Some f → slice_get p e ≡ Some t → Some s ≡ given_state f t
        → ((slice_get forced e ≡ Some None) × HasState p e s) ⊎ HasState forced e s
    go None t at_f at_t is = inl (at_f, at_t ∙ ap (λ (x : Option State). Some x) (sym is))
    go (Some f) t at_f at_t is = inr (at_f ∙ ap (λ (x : Option State). Some x) (sym is))

filled_state : (forced p : Pattern) (e : ℕ) (s : State) → slice_get forced e ≡ Some None → HasState p e s → HasState (filled forced p) e s
filled_state forced p e s free h = entrywise-at given_state forced p e None (Some s) free h

filled_forced : (forced p : Pattern) (e : ℕ) (s : State) → length forced ≡ length p → HasState forced e s → HasState (filled forced p) e s
filled_forced forced p e s n h =
    let t = entry p e (let w = slice_get_within forced e (Some s) h in omega arith) in
    entrywise-at given_state forced p e (Some s) t.0 h t.1

module _ (sets : Sets) (unbounded : List Bool) (forced : Pattern) (is : IsForcing sets unbounded forced) where
  full_resets : (e : ℕ) → HasState forced e Full → Has (sets_left forced sets).resetting e
  full_resets e at =
      let r = entry sets.resetting e (let w = slice_get_within forced e (Some Full) at in let c = is.count in let d = is.flags in omega arith) in
      entrywise-at now_resetting forced sets.resetting e (Some Full) r.0 at r.1

  -- A resetting link is still resetting.
  still_resets : (e : ℕ) → Has sets.resetting e → Has (sets_left forced sets).resetting e
  still_resets e r = let f = entry forced e (let w = slice_get_within sets.resetting e true r in let c = is.count in let d = is.flags in omega arith) in go f.0 f.1
    where
      go : (f : Option State) → slice_get forced e ≡ Some f → Has (sets_left forced sets).resetting e
      go None at = entrywise-at now_resetting forced sets.resetting e None true at r
      go (Some Tight) at = entrywise-at now_resetting forced sets.resetting e (Some Tight) true at r
      go (Some Full) at = full_resets e at
      go (Some Zero) at = entrywise-at now_resetting forced sets.resetting e (Some Zero) true at r

  -- A link that counts as resetting was resetting, or is forced to be Full.
  was_resetting : (e : ℕ) → Has (sets_left forced sets).resetting e → Has sets.resetting e ⊎ HasState forced e Full
  was_resetting e h = let w = entrywise-parts now_resetting forced sets.resetting e true h in go w.0 w.1 w.2 w.3 w.4
    where
      go : (f : Option State) (r : Bool) → slice_get forced e ≡ Some f → slice_get sets.resetting e ≡ Some r → true ≡ now_resetting f r → Has sets.resetting e ⊎ HasState forced e Full
      go None r at_f at_r same = inl (at_r ∙ ap (λ (x : Bool). Some x) (sym same))
      go (Some Tight) r at_f at_r same = inl (at_r ∙ ap (λ (x : Bool). Some x) (sym same))
      go (Some Full) r at_f at_r same = inr at_f
      go (Some Zero) r at_f at_r same = inl (at_r ∙ ap (λ (x : Bool). Some x) (sym same))

  not_both_entries : (e : ℕ) (f : State) → slice_get forced e ≡ Some None → HasState forced e f → ⊥
  not_both_entries e f free at = none-some f (same_Some None (Some f) (sym free ∙ at))

  free_needs : (e : ℕ) → slice_get forced e ≡ Some None → NeedsState sets e → NeedsState (sets_left forced sets) e
  free_needs e free needs = (entrywise-at still_active forced sets.active e None true free needs.0, λ r. go (was_resetting e r))
    where
      go : Has sets.resetting e ⊎ HasState forced e Full → ⊥
      go (inl r) = needs.1 r
      go (inr full) = not_both_entries e Full free full

  needs_free : (e : ℕ) → NeedsState (sets_left forced sets) e → (slice_get forced e ≡ Some None) × NeedsState sets e
  needs_free e needs = let w = entrywise-parts still_active forced sets.active e true needs.0 in go w.0 w.1 w.2 w.3 w.4
    where
      no : false ≡ true → ⊥
      no h = cc

      go : (f : Option State) (a : Bool) → slice_get forced e ≡ Some f → slice_get sets.active e ≡ Some a → true ≡ still_active f a → (slice_get forced e ≡ Some None) × NeedsState sets e
      go None a at_f at_a same = (at_f, (at_a ∙ ap (λ (x : Bool). Some x) (sym same), λ r. needs.1 (still_resets e r)))
      go (Some Tight) a at_f at_a same = absurd (is.not_tight e at_f)
      go (Some Full) a at_f at_a same = absurd (needs.1 (full_resets e at_f))
      go (Some Zero) a at_f at_a same = absurd (no (sym same))

  -- Resetting links are still active, if they were.
  pub left_active : ((e : ℕ) → Has sets.resetting e → Has sets.active e) → (e : ℕ) → Has (sets_left forced sets).resetting e → Has (sets_left forced sets).active e
  left_active resets e h = go (was_resetting e h)
    where
      by : (f : Option State) → slice_get forced e ≡ Some f → Has sets.resetting e → Has (sets_left forced sets).active e
      by None at r = entrywise-at still_active forced sets.active e None true at (resets e r)
      by (Some Tight) at r = entrywise-at still_active forced sets.active e (Some Tight) true at (resets e r)
      by (Some Full) at r = entrywise-at still_active forced sets.active e (Some Full) true at (resets e r)
      by (Some Zero) at r = absurd ((is.needed e Zero at).1 r)

      go : Has sets.resetting e ⊎ HasState forced e Full → Has (sets_left forced sets).active e
      go (inl r) = let f = entry forced e (let w = slice_get_within sets.resetting e true r in let c = is.count in let d = is.flags in omega arith) in by f.0 f.1 r
      go (inr at) = entrywise-at still_active forced sets.active e (Some Full) true at (is.needed e Full at).0

  pub sets_count : length (sets_left forced sets).active ≡ length sets.active
  sets_count = entrywise-length still_active forced sets.active is.count

  pub same_count : (p : Pattern) → IsPattern sets unbounded p → length forced ≡ length p
  same_count p pattern = is.count ∙ sym pattern.count

  pub left_count : (p : Pattern) → IsPattern (sets_left forced sets) unbounded p → length forced ≡ length p
  left_count p pattern = is.count ∙ (sym sets_count ∙ sym pattern.count)

  pub flags_count : length (sets_left forced sets).resetting ≡ length sets.active
  flags_count = entrywise-length now_resetting forced sets.resetting (is.count ∙ sym is.flags) ∙ is.flags

  -- ---- patterns
  pub left_pattern : (p : Pattern) → IsPattern sets unbounded p → IsPattern (sets_left forced sets) unbounded (unforced_of forced p)
  left_pattern p pattern = record {
    count = entrywise-length free_state forced p (same_count p pattern) ∙ (pattern.count ∙ sym sets_count);
    states = λ e. (
      λ needs. (let n = needs_free e needs in let s = (pattern.states e).0 n.1 in (s.0, left_state forced p e s.0 n.0 s.1)),
      λ s. (let o = state_left forced p e s.0 s.1 in free_needs e o.0 ((pattern.states e).1 (s.0, o.1))),
    );
    no_full = λ e u h. pattern.no_full e u (state_left forced p e Full h).1;
  }

  pub filled_pattern : (p : Pattern) → IsPattern (sets_left forced sets) unbounded p → IsPattern sets unbounded (filled forced p)
  filled_pattern p pattern = record {
    count = entrywise-length given_state forced p n ∙ (pattern.count ∙ sets_count);
    states = λ e. (λ needs. there e needs, λ s. back e s.0 (state_filled forced p e s.0 s.1));
    no_full = λ e u h. none e u (state_filled forced p e Full h);
  }
    where
      n : length forced ≡ length p
      n = left_count p pattern

      there : (e : ℕ) → NeedsState sets e → (state : State) × HasState (filled forced p) e state
      there e needs = let f = entry forced e (let w = slice_get_within sets.active e true needs.0 in let c = is.count in omega arith) in go f.0 f.1
        where
          go : (f : Option State) → slice_get forced e ≡ Some f → (state : State) × HasState (filled forced p) e state
          go None at = let s = (pattern.states e).0 (free_needs e at needs) in (s.0, filled_state forced p e s.0 at s.1)
          go (Some f) at = (f, filled_forced forced p e f n at)

      back : (e : ℕ) (s : State) → ((slice_get forced e ≡ Some None) × HasState p e s) ⊎ HasState forced e s → NeedsState sets e
      back e s (inl w) = (needs_free e ((pattern.states e).1 (s, w.1))).1
      back e s (inr at) = is.needed e s at

      none : (e : ℕ) → Has unbounded e → ((slice_get forced e ≡ Some None) × HasState p e Full) ⊎ HasState forced e Full → ⊥
      none e u (inl w) = pattern.no_full e u w.1
      none e u (inr at) = is.no_full e u at

  pub has_forced : (p : Pattern) → length forced ≡ length p → HasForced forced (filled forced p)
  has_forced p n e s at = filled_forced forced p e s n at

  -- Forced links have no state in the pattern left.
  pub left_bare : (p : Pattern) → IsPattern (sets_left forced sets) unbounded p → IsBare forced p
  left_bare p pattern e f at = let t = entry p e (let w = slice_get_within forced e (Some f) at in let n = left_count p pattern in omega arith) in go t.0 t.1
    where
      go : (t : Option State) → slice_get p e ≡ Some t → slice_get p e ≡ Some None
      go None at_t = at_t
      go (Some s) at_t = absurd (not_both_entries e f (needs_free e ((pattern.states e).1 (s, at_t))).0 at)

  -- ---- listed patterns
  module _ (nodes source : ℕ) (hops : List Hop) where
    pub left_listed : (p : Pattern) → IsListed nodes source hops sets unbounded p → HasForced forced p → IsListed nodes source hops (sets_left forced sets) unbounded (unforced_of forced p)
    left_listed p listed has = record {
      states = left_pattern p listed.states;
      forest = forest_within hops (λ (e : ℕ). HasState (unforced_of forced p) e Tight) (λ (e : ℕ). HasState p e Tight) (λ e h. (state_left forced p e Tight h).1) listed.forest;
      entered = λ v less other. let w = listed.entered v less other in (w.0, w.1, w.2, w.3, enters w.0 w.4);
    }
      where
        free_or : (e : ℕ) (s : State) → HasState p e s → HasState (unforced_of forced p) e s ⊎ HasState forced e s
        free_or e s h = let f = entry forced e (let w = slice_get_within p e (Some s) h in let n = same_count p listed.states in omega arith) in go f.0 f.1
          where
            same : (f : State) → HasState forced e f → f ≡ s
            same f at = same_Some f s (same_Some (Some f) (Some s) (sym (has e f at) ∙ h))

            go : (f : Option State) → slice_get forced e ≡ Some f → HasState (unforced_of forced p) e s ⊎ HasState forced e s
            go None at = inl (left_state forced p e s at h)
            go (Some f) at = inr (at ∙ ap (λ (x : State). Some (Some x)) (same f at))

        tight : (e : ℕ) → HasState (unforced_of forced p) e Tight ⊎ HasState forced e Tight
            → Has (sets_left forced sets).resetting e ⊎ (HasState (unforced_of forced p) e Tight ⊎ HasState (unforced_of forced p) e Full)
        tight e (inl h) = inr (inl h)
        tight e (inr at) = absurd (is.not_tight e at)

        full : (e : ℕ) → HasState (unforced_of forced p) e Full ⊎ HasState forced e Full
            → Has (sets_left forced sets).resetting e ⊎ (HasState (unforced_of forced p) e Tight ⊎ HasState (unforced_of forced p) e Full)
        full e (inl h) = inr (inr h)
        full e (inr at) = inl (full_resets e at)

        enters : (e : ℕ) → Has sets.resetting e ⊎ (HasState p e Tight ⊎ HasState p e Full)
            → Has (sets_left forced sets).resetting e ⊎ (HasState (unforced_of forced p) e Tight ⊎ HasState (unforced_of forced p) e Full)
        enters e (inl r) = inl (still_resets e r)
        enters e (inr (inl h)) = tight e (free_or e Tight h)
        enters e (inr (inr h)) = full e (free_or e Full h)

    pub filled_listed : (p : Pattern) → IsListed nodes source hops (sets_left forced sets) unbounded p → IsListed nodes source hops sets unbounded (filled forced p)
    filled_listed p listed = record {
      states = filled_pattern p listed.states;
      forest = forest_within hops (λ (e : ℕ). HasState (filled forced p) e Tight) (λ (e : ℕ). HasState p e Tight) (λ e h. tight e (state_filled forced p e Tight h)) listed.forest;
      entered = λ v less other. let w = listed.entered v less other in (w.0, w.1, w.2, w.3, enters w.0 w.4);
    }
      where
        tight : (e : ℕ) → ((slice_get forced e ≡ Some None) × HasState p e Tight) ⊎ HasState forced e Tight → HasState p e Tight
        tight e (inl w) = w.1
        tight e (inr at) = absurd (is.not_tight e at)

        free_link : (e : ℕ) (s : State) → HasState p e s → slice_get forced e ≡ Some None
        free_link e s h = (needs_free e ((listed.states.states e).1 (s, h))).0

        resets : (e : ℕ) → Has sets.resetting e ⊎ HasState forced e Full → Has sets.resetting e ⊎ (HasState (filled forced p) e Tight ⊎ HasState (filled forced p) e Full)
        resets e (inl r) = inl r
        resets e (inr at) = inr (inr (filled_forced forced p e Full (left_count p listed.states) at))

        enters : (e : ℕ) → Has (sets_left forced sets).resetting e ⊎ (HasState p e Tight ⊎ HasState p e Full)
            → Has sets.resetting e ⊎ (HasState (filled forced p) e Tight ⊎ HasState (filled forced p) e Full)
        enters e (inl r) = resets e (was_resetting e r)
        enters e (inr (inl h)) = inr (inl (filled_state forced p e Tight (free_link e Tight h) h))
        enters e (inr (inr h)) = inr (inr (filled_state forced p e Full (free_link e Full h) h))
