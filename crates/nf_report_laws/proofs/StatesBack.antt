-- The lines of the states are read as the pattern that they are printed of.
use Rattle.std.proofs.Common.{◌≡◌, ℕ, suc, ◌+◌, ◌<◌, ◌≤◌, true, not, ◌||◌, nat_lt, if◌then◌else◌, List, [], ◌∷◌, ◌++◌, length, replicate, set, Option, Some}
use Rattle.std.proofs.Common.{None, slice_get, Ok, Err, refl, sym, ap, subst, ◌∙◌, codes, bytes_eq, arith, append_assoc, length-append}
use Rattle.nf_report_laws.proofs.Common.{IsDistinct, le-ltb, ℚ, ◌>>=◌, State, Tight, Full, Zero, Pattern, HasState, Name, has_name, place_of, name_at}
use Rattle.nf_report_laws.proofs.Common.{Cause, Named, state_word, has_at, place_at, P7, P9, or_rule, OfLabel, OfNever, OfInflow, OfOutflow, OfQueue}
use Rattle.nf_report_laws.proofs.Common.{InBody, ReadCurve, ReportDraft, with_current, state_in, state_of_link, capacity_at, report_line}
use Rattle.nf_report_laws.proofs.ReportShape.{state_lines_of}
use Rattle.nf_report_laws.proofs.ReportSteps.{next_of, Reads}
use Rattle.nf_report_laws.proofs.CurvesBack.{IsBehind}

state_back : (state : State) → state_in (state_word state) ≡ Some state
state_back Tight = refl
state_back Full = refl
state_back Zero = refl

-- ---- places
at_front : {A : Type 0} (front : List A) (x : A) (rest : List A) → slice_get (front ++ x ∷ rest) (length front) ≡ Some x
at_front [] x rest = refl
at_front (y ∷ front) x rest = at_front front x rest

set_front : {A : Type 0} (front : List A) (x y : A) (rest : List A) → set (front ++ x ∷ rest) (length front) y ≡ front ++ y ∷ rest
set_front [] x y rest = refl
set_front (z ∷ front) x y rest = ap (λ l. z ∷ l) (set_front front x y rest)

name_front : (front : List Name) (x : Name) (rest : List Name) → name_at (front ++ x ∷ rest) (length front) ≡ x
name_front [] x rest = refl
name_front (y ∷ front) x rest = name_front front x rest

below : (front : List Name) (x : Name) (rest : List Name) → length front < length (front ++ x ∷ rest)
below front x rest = let e : length (front ++ x ∷ rest) ≡ length front + suc (length rest) = length-append front (x ∷ rest) in omega arith

place_front : (front : List Name) (x : Name) (rest : List Name) → IsDistinct bytes_eq (front ++ x ∷ rest) → place_of (front ++ x ∷ rest) x ≡ length front
place_front front x rest d = ap (place_of (front ++ x ∷ rest)) (sym (name_front front x rest)) ∙ place_at (front ++ x ∷ rest) (length front) d (below front x rest)

has_front : (front : List Name) (x : Name) (rest : List Name) → has_name (front ++ x ∷ rest) x ≡ true
has_front front x rest = ap (has_name (front ++ x ∷ rest)) (sym (name_front front x rest)) ∙ has_at (front ++ x ∷ rest) (length front) (below front x rest)

-- ---- the lines
module _ (n : Named) (horizon reached : ℚ) (stop : Option (Cause ℚ)) where
  abbrev pub in_states : List ReadCurve → Option ReadCurve → ℕ → Pattern → ReportDraft
  in_states done current next_state states = record {
    stage = InBody;
    horizon = horizon;
    reached = reached;
    stop = stop;
    done = done;
    current = current;
    keys = [];
    next_state = next_state;
    states = states;
  }

  state_put : (done : List ReadCurve) (current : Option ReadCurve) (k : ℕ) (states : Pattern) (name : Name) (state : State) (e : ℕ) (next : Option (List (List ℕ)))
      → has_name n.link_names name ≡ true → place_of n.link_names name ≡ e → k ≤ e → state_of_link (capacity_at n.net.links e) state ≡ Ok state
      → report_line n (in_states done current k states) true next (codes "state" ∷ name ∷ state_word state ∷ []) ≡ Ok (in_states (with_current done current) None (suc e) (set states e (Some state)))
  state_put done current k states name state e next h p low allowed =
      (λ i. if not (h i) || nat_lt (p i) k then Err P7 else (or_rule P9 (state_back state i) >>= λ word. (state_of_link (capacity_at n.net.links (p i)) word >>= λ state.
      Ok (in_states (with_current done current) None (suc (p i)) (set states (p i) (Some state))))))
      ∙ (λ i. if le-ltb e k low i then Err P7 else (allowed i >>= λ state. Ok (in_states (with_current done current) None (suc e) (set states e (Some state)))))

  pub record AfterStates (done : List ReadCurve) (current : Option ReadCurve) (k : ℕ) (from : Pattern) (lines : List (List (List ℕ)))
      (after : Option (List (List ℕ))) (pattern : Pattern) : Type 0 where
    pub last_done : List ReadCurve
    pub last : Option ReadCurve
    pub last_state : ℕ
    pub same : with_current last_done last ≡ with_current done current
    pub reads : Reads n (in_states done current k from) lines after (in_states last_done last last_state pattern)

  pub states_read : (names_front names : List Name) (front pattern : Pattern) (done : List ReadCurve) (current : Option ReadCurve) (k : ℕ) (after : Option (List (List ℕ)))
      → n.link_names ≡ names_front ++ names → IsDistinct bytes_eq n.link_names → length front ≡ length names_front → length pattern ≡ length names → k ≤ length front
      → ((e : ℕ) (state : State) → HasState (front ++ pattern) e state → state_of_link (capacity_at n.net.links e) state ≡ Ok state)
      → AfterStates done current k (front ++ replicate (length names) None) (state_lines_of names pattern) after (front ++ pattern)
  states_read names_front [] front [] done current k after e d c f low allowed = record { last_done = done; last = current; last_state = k; same = refl; reads = refl }
  states_read names_front [] front (state ∷ pattern) done current k after e d c f low allowed = absurd (omega arith)
  states_read names_front (name ∷ names) front [] done current k after e d c f low allowed = absurd (omega arith)
  states_read names_front (name ∷ names) front (None ∷ pattern) done current k after e d c f low allowed =
      let more = append_assoc front (None ∷ []) pattern in
      let long : length (front ++ None ∷ []) ≡ length front + 1 = length-append front (None ∷ []) in
      let names_long : length (names_front ++ name ∷ []) ≡ length names_front + 1 = length-append names_front (name ∷ []) in
      let w = states_read (names_front ++ name ∷ []) names (front ++ None ∷ []) pattern done current k after
      (e ∙ sym (append_assoc names_front (name ∷ []) names)) d (omega arith) (omega arith) (omega arith)
      (subst (λ (p : Pattern). (e : ℕ) (state : State) → HasState p e state → state_of_link (capacity_at n.net.links e) state ≡ Ok state) (sym more) allowed) in
      subst (λ (p : Pattern). AfterStates done current k p (state_lines_of names pattern) after (front ++ None ∷ pattern))
      (append_assoc front (None ∷ []) (replicate (length names) None))
      (subst (λ (p : Pattern). AfterStates done current k (front ++ None ∷ [] ++ replicate (length names) None) (state_lines_of names pattern) after p) more w)
  states_read names_front (name ∷ names) front (Some state ∷ pattern) done current k after e d c f low allowed =
      let more = append_assoc front (Some state ∷ []) pattern in
      let place = length front in
      let long : length (front ++ Some state ∷ []) ≡ length front + 1 = length-append front (Some state ∷ []) in
      let names_long : length (names_front ++ name ∷ []) ≡ length names_front + 1 = length-append names_front (name ∷ []) in
      let w = states_read (names_front ++ name ∷ []) names (front ++ Some state ∷ []) pattern (with_current done current) None (suc place) after
      (e ∙ sym (append_assoc names_front (name ∷ []) names)) d (omega arith) (omega arith) (omega arith)
      (subst (λ (p : Pattern). (e : ℕ) (state : State) → HasState p e state → state_of_link (capacity_at n.net.links e) state ≡ Ok state) (sym more) allowed) in
      let here = place_front names_front name names (subst (IsDistinct bytes_eq) e d) in
      let at : place_of n.link_names name ≡ place = ap (λ names. place_of names name) e ∙ here ∙ sym c in
      let from : set (front ++ None ∷ replicate (length names) None) place (Some state) ≡ front ++ Some state ∷ [] ++ replicate (length names) None =
      set_front front None (Some state) (replicate (length names) None) ∙ sym (append_assoc front (Some state ∷ []) (replicate (length names) None)) in
      record {
        last_done = w.last_done;
        last = w.last;
        last_state = w.last_state;
        same = w.same;
        reads = (
          in_states (with_current done current) None (suc place) (front ++ Some state ∷ [] ++ replicate (length names) None),
          state_put done current k (front ++ None ∷ replicate (length names) None) name state place (next_of (state_lines_of names pattern) after)
              (ap (λ names. has_name names name) e ∙ has_front names_front name names) at low (allowed place state (at_front front (Some state) pattern))
              ∙ ap (λ (p : Pattern). Ok (in_states (with_current done current) None (suc place) p)) from,
          subst (λ (p : Pattern). Reads n (in_states (with_current done current) None (suc place)
              (front ++ Some state ∷ [] ++ replicate (length names) None)) (state_lines_of names pattern) after
              (in_states w.last_done w.last w.last_state p)) more w.reads,
        );
      }

-- ---- no curve goes on behind the curves
pub states_behind : (names : List Name) (pattern : Pattern) → IsBehind (next_of (state_lines_of names pattern) (Some (codes "end" ∷ [])))
states_behind [] pattern kind name = refl
states_behind (x ∷ names) [] kind name = refl
states_behind (x ∷ names) (None ∷ pattern) kind name = states_behind names pattern kind name
states_behind (x ∷ names) (Some state ∷ pattern) OfLabel name = refl
states_behind (x ∷ names) (Some state ∷ pattern) OfNever name = refl
states_behind (x ∷ names) (Some state ∷ pattern) OfInflow name = refl
states_behind (x ∷ names) (Some state ∷ pattern) OfOutflow name = refl
states_behind (x ∷ names) (Some state ∷ pattern) OfQueue name = refl
