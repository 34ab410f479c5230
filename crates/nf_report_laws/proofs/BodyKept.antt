-- Each line after the head leads to a parser state whose lines are those read so far.
use Rattle.std.proofs.Common.{◌≡◌, ◌⊎◌, inl, inr, ⊎_elim, ℕ, zero, suc, ◌<◌, ◌≤◌, ◌==◌, Bool, true, false, not, ◌||◌, nat_lt, List, [], ◌∷◌, ◌++◌, length}
use Rattle.std.proofs.Common.{flat_map, set, Option, Some, None, Result, Ok, Err, refl, sym, ap, subst, ◌∙◌, codes, arith, append_assoc, append-nil}
use Rattle.nf_report_laws.proofs.Common.{length-set, AllByRecursion, ltb-false, or_parts, not-false, ℚ, State, Tight, Full, Zero, Link, IsLink, Pattern}
use Rattle.nf_report_laws.proofs.Common.{HasState, Name, has_name, place_of, name_at, Named, state_word, written_state, place_below, name_at-place}
use Rattle.nf_report_laws.proofs.Common.{ReportRule, P3, P5, P6, P7, P9, P13, P14, or_rule, Kind, OfLabel, OfNever, OfInflow, OfOutflow, OfQueue, CurveKey}
use Rattle.nf_report_laws.proofs.Common.{key_word, curve_keys, Stage, InBody, AtEnd, ReportDraft, begins_with, with_current, has_all, state_in}
use Rattle.nf_report_laws.proofs.Common.{state_of_link, capacity_of, capacity_at, end_line, LineKind, OfCurve, OfState, OfEnd, never_kinds, line_kind}
use Rattle.nf_report_laws.proofs.Common.{line_of_kind, body_line, nothing_more, staged_line, report_line, same_Ok}
use Rattle.nf_report_def.specs.ReportLines as lines
use Rattle.nf_report_laws.proofs.Outcomes.{both_ok, no_err, where_true, where_false, or_ok, named_is}
use Rattle.nf_report_laws.proofs.ReportShape.{curve_lines, IsRead, state_lines_of, end_lines}
use Rattle.nf_report_laws.proofs.ReportSteps.{next_of, Reads}
use Rattle.nf_report_laws.proofs.CurvesBack.{keys_of}
use Rattle.nf_report_laws.proofs.CurvesKept.{all_closed, AreKept, LineKept, curve_kept}

-- ---- states
-- none from a place on
abbrev pub Blank : ℕ → Pattern → Type 0
Blank k [] = Unit {0}
Blank zero (s ∷ states) = (s ≡ None) × Blank zero states
Blank (suc k) (s ∷ states) = Blank k states

pub blank_lines : (names : List Name) (states : Pattern) → Blank 0 states → state_lines_of names states ≡ []
blank_lines [] states h = refl
blank_lines (name ∷ names) [] h = refl
blank_lines (name ∷ names) (s ∷ states) h = λ i. written_state name (h.0 i) ++ blank_lines names states h.1 i

state_added : (names : List Name) (states : Pattern) (e : ℕ) (state : State) (k : ℕ) → Blank k states → k ≤ e → e < length states → length states ≡ length names
    → state_lines_of names (set states e (Some state)) ≡ state_lines_of names states ++ (codes "state" ∷ name_at names e ∷ state_word state ∷ []) ∷ []
state_added names [] e state k h low below c = absurd (omega arith)
state_added [] (s ∷ states) e state k h low below c = absurd (omega arith)
state_added (name ∷ names) (s ∷ states) zero state zero h low below c =
    ap (λ l. (codes "state" ∷ name ∷ state_word state ∷ []) ∷ l) (blank_lines names states h.1)
    ∙ sym (λ i. written_state name (h.0 i) ++ blank_lines names states h.1 i ++ (codes "state" ∷ name ∷ state_word state ∷ []) ∷ [])
state_added (name ∷ names) (s ∷ states) zero state (suc k) h low below c = absurd (omega arith)
state_added (name ∷ names) (s ∷ states) (suc e) state zero h low below c =
    ap (λ l. written_state name s ++ l) (state_added names states e state zero h.1 (omega arith) (omega arith) (omega arith)) ∙ sym (append_assoc (written_state name s) (state_lines_of names states) ((codes "state" ∷ name_at names e ∷ state_word state ∷ []) ∷ []))
state_added (name ∷ names) (s ∷ states) (suc e) state (suc k) h low below c =
    ap (λ l. written_state name s ++ l) (state_added names states e state k h (omega arith) (omega arith) (omega arith)) ∙ sym (append_assoc (written_state name s) (state_lines_of names states) ((codes "state" ∷ name_at names e ∷ state_word state ∷ []) ∷ []))

blank_set : (states : Pattern) (e : ℕ) (state : Option State) (k : ℕ) → Blank k states → k ≤ e → Blank (suc e) (set states e state)
blank_set [] e state k h low = tt
blank_set (s ∷ states) zero state zero h low = h.1
blank_set (s ∷ states) zero state (suc k) h low = absurd (omega arith)
blank_set (s ∷ states) (suc e) state zero h low = blank_set states e state zero h.1 (omega arith)
blank_set (s ∷ states) (suc e) state (suc k) h low = blank_set states e state k h (omega arith)

set_full : (states : Pattern) (e : ℕ) (state : State) (i : ℕ) → HasState (set states e (Some state)) i Full → ((i ≡ e) × (state ≡ Full)) ⊎ HasState states i Full
set_full [] e state i h = inr h
set_full (s ∷ states) zero state zero h = inl (refl, same h)
  where
    same : ◌≡◌ {A = Option (Option State)} (Some (Some state)) (Some (Some Full)) → state ≡ Full
    same e = cc
set_full (s ∷ states) zero state (suc i) h = inr h
set_full (s ∷ states) (suc e) state zero h = inr h
set_full (s ∷ states) (suc e) state (suc i) h = later (set_full states e state i h)
  where
    later : ((i ≡ e) × (state ≡ Full)) ⊎ HasState states i Full → ((suc i ≡ suc e) × (state ≡ Full)) ⊎ HasState states i Full
    later (inl w) = inl (ap suc w.0, w.1)
    later (inr w) = inr w

allowed_is : (capacity : Option ℚ) (word state : State) → state_of_link capacity word ≡ Ok state → (word ≡ state) × (capacity ≡ None → state ≡ Full → ⊥)
allowed_is None Tight state e = let s = same_Ok Tight state e in (s, λ c f. differ s f)
  where
    differ : Tight ≡ state → state ≡ Full → ⊥
    differ s f = absurd (cc)
allowed_is None Full state e = absurd (no_err P9 state e)
allowed_is None Zero state e = let s = same_Ok Zero state e in (s, λ c f. differ s f)
  where
    differ : Zero ≡ state → state ≡ Full → ⊥
    differ s f = absurd (cc)
allowed_is (Some q) Tight state e = (same_Ok Tight state e, λ c f. absurd (cc))
allowed_is (Some q) Full state e = (same_Ok Full state e, λ c f. absurd (cc))
allowed_is (Some q) Zero state e = (same_Ok Zero state e, λ c f. absurd (cc))

state_is : (word : List ℕ) (state : State) → state_in word ≡ Some state → word ≡ state_word state
state_is word state e = named_is state_word word ((codes "tight", Tight) ∷ (codes "full", Full) ∷ (codes "zero", Zero) ∷ []) state (refl, (refl, (refl, tt))) e

-- ---- what is kept of a draft
abbrev pub NoFull : Named → Pattern → Type 0
NoFull n states = (e : ℕ) (link : Link) → IsLink n.net e link → link.capacity ≡ None → ¬ HasState states e Full

pub record IsKept (n : Named) (next : Option (List (List ℕ))) (draft : ReportDraft) : Type 0 where
  pub curves : AreKept n next draft.done draft.current draft.keys
  pub blank : Blank draft.next_state draft.states
  pub count : length draft.states ≡ length n.link_names
  pub no_full : NoFull n draft.states
  -- no state yet, or no curve more
  pub phase : (state_lines_of n.link_names draft.states ≡ []) ⊎ ((draft.current ≡ None) × (draft.keys ≡ []))

abbrev pub lines_of : Named → ReportDraft → List (List (List ℕ))
lines_of n draft = flat_map curve_lines (with_current draft.done draft.current) ++ state_lines_of n.link_names draft.states

-- a line in the body, and the last line
pub record GoesOn (n : Named) (next : Option (List (List ℕ))) (words : List (List ℕ)) (draft left : ReportDraft) : Type 0 where
  pub stage : left.stage ≡ draft.stage
  pub horizon : left.horizon ≡ draft.horizon
  pub reached : left.reached ≡ draft.reached
  pub stop : left.stop ≡ draft.stop
  pub kept : IsKept n next left
  pub lines : lines_of n draft ++ words ∷ [] ≡ lines_of n left

pub record Ends (n : Named) (words : List (List ℕ)) (draft left : ReportDraft) : Type 0 where
  pub is : left ≡ record draft { stage = AtEnd; done = with_current draft.done draft.current; current = None }
  pub keys : draft.keys ≡ []
  pub words_are : words ≡ codes "end" ∷ []
  pub read : AllByRecursion IsRead (with_current draft.done draft.current)

curve_goes_on : (n : Named) (kind : Kind) (draft : ReportDraft) (next : Option (List (List ℕ))) (words : List (List ℕ)) (left : ReportDraft)
    → IsKept n (Some (key_word kind ∷ words)) draft
    → LineKept n next (key_word kind ∷ words) draft left → GoesOn n next (key_word kind ∷ words) draft left
curve_goes_on n kind draft next words left h l =
    let none : state_lines_of n.link_names draft.states ≡ [] = no_states h.phase in
    let before = flat_map curve_lines (with_current draft.done draft.current) in
    subst (GoesOn n next (key_word kind ∷ words) draft) (sym l.is) (record {
      stage = refl;
      horizon = refl;
      reached = refl;
      stop = refl;
      kept = record { curves = l.kept; blank = h.blank; count = h.count; no_full = h.no_full; phase = inl none };
      lines = ap (λ s. before ++ s ++ (key_word kind ∷ words) ∷ []) none ∙ ap (λ s. s ++ (key_word kind ∷ words) ∷ []) (append-nil before) ∙ l.lines
          ∙ sym (append-nil (flat_map curve_lines (with_current l.done l.current))) ∙ ap (λ s. flat_map curve_lines (with_current l.done l.current) ++ s) (sym none);
    })
  where
    no_states : (state_lines_of n.link_names draft.states ≡ []) ⊎ ((draft.current ≡ None) × (draft.keys ≡ [])) → state_lines_of n.link_names draft.states ≡ []
    no_states (inl e) = e
    no_states (inr e) = absurd (l.more e)

all_keys : (keys : List CurveKey) → has_all keys ≡ true → keys ≡ []
all_keys [] e = refl
all_keys (key ∷ keys) e = absurd (cc)

state_other : (kind : Kind) (other name word : List ℕ) → begins_with (key_word kind) other (Some (codes "state" ∷ name ∷ word ∷ [])) ≡ false
state_other OfLabel other name word = refl
state_other OfNever other name word = refl
state_other OfInflow other name word = refl
state_other OfOutflow other name word = refl
state_other OfQueue other name word = refl

state_goes_on : (n : Named) (draft : ReportDraft) (next : Option (List (List ℕ))) (words : List (List ℕ)) (left : ReportDraft) → IsKept n (Some (codes "state" ∷ words)) draft
    → lines.state_line n draft words ≡ Ok left → GoesOn n next (codes "state" ∷ words) draft left
state_goes_on n draft next [] left h e = absurd (no_err P6 left e)
state_goes_on n draft next (a ∷ []) left h e = absurd (no_err P6 left e)
state_goes_on n draft next (name ∷ word ∷ []) left h e =
    let k = place_of n.link_names name in
    let t = where_false (not (has_name n.link_names name) || nat_lt k draft.next_state) P7 _ left e in
    let apart = or_parts (not (has_name n.link_names name)) (nat_lt k draft.next_state) t.0 in
    let has = not-false (has_name n.link_names name) apart.0 in
    let low : draft.next_state ≤ k = ltb-false k draft.next_state apart.1 in
    let below : k < length n.link_names = place_below n.link_names name has in
    let v = both_ok (or_rule P9 (state_in word)) _ left t.1 in
    let u = both_ok (state_of_link (capacity_at n.net.links k) v.between) _ left v.next in
    let allowed = allowed_is (capacity_at n.net.links k) v.between u.between u.first in
    let word_is : word ≡ state_word u.between = state_is word v.between (or_ok P9 (state_in word) v.between v.first) ∙ ap state_word allowed.0 in
    let s = where_true (has_all draft.keys) P13 _ left u.next in
    let keys = all_keys draft.keys s.0 in
    let here = Some (codes "state" ∷ name ∷ word ∷ []) in
    let all = with_current draft.done draft.current in
    let count = h.count in
    subst (GoesOn n next (codes "state" ∷ name ∷ word ∷ []) draft) (same_Ok _ left s.1) (record {
      stage = refl;
      horizon = refl;
      reached = refl;
      stop = refl;
      kept = record {
        curves = record {
          in_order = h.curves.in_order;
          read = all_closed draft.done draft.current here h.curves.read h.curves.open_ (λ c same. state_other c.key.kind c.key.name name word);
          open_ = tt;
        };
        blank = blank_set draft.states k (Some u.between) draft.next_state h.blank low;
        count = length-set draft.states k (Some u.between) ∙ h.count;
        no_full = λ e link is none full. ⊎_elim
            (λ (w : (e ≡ k) × (u.between ≡ Full)). allowed.1 (ap (capacity_at n.net.links) (sym w.0) ∙ ap capacity_of is ∙ none) w.1)
            (λ (w : HasState draft.states e Full). h.no_full e link is none w)
            (set_full draft.states k u.between e full);
        phase = inr (refl, keys);
      };
      lines = append_assoc (flat_map curve_lines all) (state_lines_of n.link_names draft.states) ((codes "state" ∷ name ∷ word ∷ []) ∷ [])
          ∙ ap (λ l. flat_map curve_lines all ++ l) ((λ i. state_lines_of n.link_names draft.states ++ (codes "state" ∷ sym (name_at-place n.link_names name has) i ∷ word_is i ∷ []) ∷ [])
          ∙ sym (state_added n.link_names draft.states k u.between draft.next_state h.blank low (omega arith) h.count));
    })
state_goes_on n draft next (a ∷ b ∷ c ∷ words) left h e = absurd (no_err P6 left e)

ends : (n : Named) (draft : ReportDraft) (words : List (List ℕ)) (left : ReportDraft) → IsKept n (Some (codes "end" ∷ words)) draft → end_line draft words ≡ Ok left → Ends n (codes "end" ∷ words) draft left
ends n draft [] left h e =
    let s = where_true (has_all draft.keys) P13 _ left e in
    record {
      is = sym (same_Ok _ left s.1);
      keys = all_keys draft.keys s.0;
      words_are = refl;
      read = all_closed draft.done draft.current (Some (codes "end" ∷ [])) h.curves.read h.curves.open_ (λ c same. refl);
    }
ends n draft (a ∷ words) left h e = absurd (no_err P6 left e)

-- ---- any line
abbrev line_word : LineKind → List ℕ
line_word (OfCurve kind) = key_word kind
line_word OfState = codes "state"
line_word OfEnd = codes "end"

abbrev Steps : Named → Option (List (List ℕ)) → List (List ℕ) → ReportDraft → ReportDraft → Type 0
Steps n next words draft left = GoesOn n next words draft left ⊎ Ends n words draft left

kind_steps : (n : Named) (kind : LineKind) (draft : ReportDraft) (next : Option (List (List ℕ))) (words : List (List ℕ)) (left : ReportDraft)
    → IsKept n (Some (line_word kind ∷ words)) draft
    → line_of_kind n draft next words kind ≡ Ok left → Steps n next (line_word kind ∷ words) draft left
kind_steps n (OfCurve OfLabel) draft next words left h e = inl (curve_goes_on n OfLabel draft next words left h (curve_kept n OfLabel draft next words left h.curves e))
kind_steps n (OfCurve OfNever) draft next words left h e = inl (curve_goes_on n OfNever draft next words left h (curve_kept n OfNever draft next words left h.curves e))
kind_steps n (OfCurve OfInflow) draft next words left h e = inl (curve_goes_on n OfInflow draft next words left h (curve_kept n OfInflow draft next words left h.curves e))
kind_steps n (OfCurve OfOutflow) draft next words left h e = inl (curve_goes_on n OfOutflow draft next words left h (curve_kept n OfOutflow draft next words left h.curves e))
kind_steps n (OfCurve OfQueue) draft next words left h e = inl (curve_goes_on n OfQueue draft next words left h (curve_kept n OfQueue draft next words left h.curves e))
kind_steps n OfState draft next words left h e = inl (state_goes_on n draft next words left h e)
kind_steps n OfEnd draft next words left h e = inr (ends n draft words left h e)

never_named : (b : Bool) → AllByRecursion (λ (named : List ℕ × LineKind). named.0 ≡ line_word named.1) (never_kinds b)
never_named true = tt
never_named false = (refl, tt)

line_steps : (n : Named) (draft : ReportDraft) (next : Option (List (List ℕ))) (words : List (List ℕ)) (left : ReportDraft) → IsKept n (Some words) draft
    → body_line n draft next words ≡ Ok left → Steps n next words draft left
line_steps n draft next [] left h e = absurd (no_err P3 left e)
line_steps n draft next (key ∷ words) left h e =
    let w = both_ok (or_rule P5 (line_kind n.version key)) _ left e in
    let k = named_is line_word key (
    (codes "label", OfCurve OfLabel) ∷ (codes "inflow", OfCurve OfInflow) ∷ (codes "outflow", OfCurve OfOutflow) ∷ (codes "queue", OfCurve OfQueue)
    ∷ (codes "state", OfState) ∷ (codes "end", OfEnd) ∷ never_kinds (n.version == 1)) w.between
    (refl, (refl, (refl, (refl, (refl, (refl, never_named (n.version == 1))))))) (or_ok P5 (line_kind n.version key) w.between w.first) in
    subst (λ (key : List ℕ). Steps n next (key ∷ words) draft left) (sym k)
    (kind_steps n w.between draft next words left (subst (λ (key : List ℕ). IsKept n (Some (key ∷ words)) draft) k h) w.next)

-- ---- all lines
pub record Finished (n : Named) (draft last : ReportDraft) (lines : List (List (List ℕ))) : Type 0 where
  pub horizon : last.horizon ≡ draft.horizon
  pub reached : last.reached ≡ draft.reached
  pub stop : last.stop ≡ draft.stop
  pub in_order : keys_of last.done ≡ curve_keys n
  pub read : AllByRecursion IsRead last.done
  pub count : length last.states ≡ length n.link_names
  pub no_full : NoFull n last.states
  pub lines_are : lines_of n draft ++ lines ≡ flat_map curve_lines last.done ++ state_lines_of n.link_names last.states ++ end_lines

pub in_stage : (n : Named) (draft : ReportDraft) (next : Option (List (List ℕ))) (words : List (List ℕ)) (left : ReportDraft) (stage : Stage)
    → draft.stage ≡ stage → report_line n draft true next words ≡ Ok left
    → staged_line n draft next words stage ≡ Ok left
in_stage n draft next [] left stage s e = absurd (no_err P3 left e)
in_stage n draft next (word ∷ words) left stage s e = subst (λ (stage : Stage). staged_line n draft next (word ∷ words) stage ≡ Ok left) s e

nothing_behind : (r : Result ReportDraft ReportRule) (left : ReportDraft) → nothing_more r ≡ Ok left → ⊥
nothing_behind (Ok draft) left e = no_err P14 left e
nothing_behind (Err rule) left e = no_err rule left e

pub body_kept : (n : Named) (draft last : ReportDraft) (lines : List (List (List ℕ))) → draft.stage ≡ InBody → last.stage ≡ AtEnd
    → IsKept n (next_of lines None) draft → Reads n draft lines None last
    → Finished n draft last lines
body_kept n draft last [] s t h r = absurd (no (sym s ∙ ap (λ d. d.stage) r ∙ t))
  where
    no : InBody ≡ AtEnd → ⊥
    no e = absurd (cc)
body_kept n draft last (words ∷ lines) s t h r =
    finish (line_steps n draft (next_of lines None) words r.0 h (in_stage n draft (next_of lines None) words r.0 InBody s r.1)) lines refl
    (λ stage kept. body_kept n r.0 last lines stage t kept r.2)
  where
    finish : Steps n (next_of lines None) words draft r.0 → (rest : List (List (List ℕ))) → lines ≡ rest
        → (r.0.stage ≡ InBody → IsKept n (next_of lines None) r.0 → Finished n r.0 last lines) → Finished n draft last (words ∷ lines)
    finish (inl g) rest same more =
        let f = more (g.stage ∙ s) g.kept in
        record {
          horizon = f.horizon ∙ g.horizon;
          reached = f.reached ∙ g.reached;
          stop = f.stop ∙ g.stop;
          in_order = f.in_order;
          read = f.read;
          count = f.count;
          no_full = f.no_full;
          lines_are = sym (append_assoc (lines_of n draft) (words ∷ []) lines) ∙ ap (λ l. l ++ lines) g.lines ∙ f.lines_are;
        }
    finish (inr g) [] same more =
        let end : r.0 ≡ last = subst (λ (l : List (List (List ℕ))). Reads n r.0 l None last) same r.2 in
        let is = sym g.is ∙ end in
        subst (λ (d : ReportDraft). Finished n draft d (words ∷ lines)) is (record {
          horizon = refl;
          reached = refl;
          stop = refl;
          in_order = sym (append-nil (keys_of (with_current draft.done draft.current)))
              ∙ ap (λ keys. keys_of (with_current draft.done draft.current) ++ keys) (sym g.keys) ∙ h.curves.in_order;
          read = g.read;
          count = h.count;
          no_full = h.no_full;
          lines_are = (λ i. lines_of n draft ++ g.words_are i ∷ same i);
        })
    finish (inr g) (x ∷ rest) same more =
        let w = subst (λ (l : List (List (List ℕ))). Reads n r.0 l None last) same r.2 in
        absurd (nothing_behind (body_line n r.0 (next_of rest None) x) w.0 (in_stage n r.0 (next_of rest None) x w.0 AtEnd (ap (λ d. d.stage) g.is) w.1))
