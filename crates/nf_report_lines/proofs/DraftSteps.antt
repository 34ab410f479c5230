-- What a draft is seen as when something is added to it.
use Rattle.std.proofs.Common.{◌≡◌, ◌≢◌, ◌⊎◌, inl, inr, ⊎_elim, ℕ, zero, suc, ◌+◌, ◌<◌, ◌≤◌, Bool, true, false, ◌&&◌, cond, bytes_eq, nat_eq, List, [], ◌∷◌}
use Rattle.std.proofs.Common.{◌++◌, length, drop, Option, Some, None, Result, Ok, Err, refl, sym, ap, subst, ◌∙◌, arith, length-append, replicate, set}
use Rattle.std.proofs.Common.{slice_get, unwrap_or}
use Rattle.nf_report_lines.proofs.Common.{ℚ, 0ℚ, State, drop_all, Trace, Name, Named, ReportRule, P7, P14, Stage, CurveKey, ReadCurve, ReportDraft, Opened}
use Rattle.nf_report_lines.proofs.Common.{key_of, key_word, curve_keys, with_current, with_rate, has_all, is_key, begun, opened, key_at, key_of_number}
use Rattle.nf_report_lines.proofs.Common.{is_some_key, seen_stage, seen_curve, seen_done, seen_current, with_open, begun_count, seen_draft, LacksIdleOnly}
use Rattle.nf_report_lines.proofs.Common.{IsWithinNetwork, begun_by, opened_by, closed, drafted, IsNeverNext, word_at, ◌>>=◌}
use Rattle.std.proofs.lemmas.Bool.Decides.{eqb_tells}
use Rattle.nf_report_def.specs.ReportFile.{if_at_end}
use Rattle.nf_report_lines.specs.declared.draft.Stage.TheVariants as stages
use Rattle.nf_report_def.specs.ReportLines as lines
use Rattle.nf_report_lines.specs.declared.draft.Draft.{Draft}
use Rattle.nf_report_lines.specs.declared.entry.RatedPoint.{RatedPoint}
use Rattle.nf_report_lines.specs.declared.entry.Opening.TheVariants.{Begins}
use Rattle.nf_report_lines.specs.declared.entry.Entry.TheVariants.{OfCurve, Never, OfLink}
use Rattle.nf_report_lines.proofs.WordCounts.{one_behind}

-- ---- keys that are left
keys_from : (keys : List CurveKey) (k : ℕ) (other : CurveKey) → k < length keys → drop k keys ≡ unwrap_or (slice_get keys k) other ∷ drop (k + 1) keys
keys_from [] k other lt = absurd (omega arith)
keys_from (key ∷ keys) zero other lt = refl
keys_from (key ∷ keys) (suc k) other lt =
    let e : suc (k + 1) ≡ suc k + 1 = omega arith in
    keys_from keys k other (omega arith) ∙ ap (λ (j : ℕ). unwrap_or (slice_get keys k) other ∷ drop j (key ∷ keys)) e

pub all_begun : (keys : List CurveKey) (k : ℕ) → k ≤ length keys → nat_eq k (length keys) ≡ has_all (drop k keys)
all_begun keys k le = ⊎_elim
    (λ (w : (nat_eq k (length keys) ≡ true) × (k ≡ length keys)). w.0 ∙ sym (ap has_all (drop_all k keys (omega (arith, w.1)))))
    (λ (w : (nat_eq k (length keys) ≡ false) × (k ≢ length keys)). w.0 ∙ sym (ap has_all (keys_from keys k (key_of lines.OfNever []) (omega (arith, le, w.1)))))
    (eqb_tells k (length keys))

pub some_left : (keys : List CurveKey) (k : ℕ) (kind : lines.Kind) (name : Name) → is_some_key kind name (slice_get keys k) ≡ true → 0 < length (drop k keys)
some_left [] k kind name e = absurd (cc)
some_left (key ∷ keys) zero kind name e = omega arith
some_left (key ∷ keys) (suc k) kind name e = some_left keys k kind name e

begun_test : (done : List ReadCurve) (kind : lines.Kind) (name : Name) (keys : List CurveKey) (k : ℕ)
    → begun done kind name (drop k keys) ≡ cond (is_some_key kind name (slice_get keys k)) (Ok (begun_by done (drop k keys))) (Err P7)
begun_test done kind name [] zero = refl
begun_test done kind name [] (suc k) = refl
begun_test done kind name (key ∷ keys) zero = refl
begun_test done kind name (key ∷ keys) (suc k) = begun_test done kind name keys k

same_test : (keys : List CurveKey) (k : ℕ) (other : CurveKey) (kind : lines.Kind) (name : Name) → k < length keys
    → is_key kind name (unwrap_or (slice_get keys k) other) ≡ is_some_key kind name (slice_get keys k)
same_test [] k other kind name lt = absurd (omega arith)
same_test (key ∷ keys) zero other kind name lt = refl
same_test (key ∷ keys) (suc k) other kind name lt = same_test keys k other kind name (omega arith)

-- ---- curves behind others
seen_done-push : (n : Named) (k : ℕ) (curves : List (Option Trace)) (curve : Option Trace)
    → seen_done n k (curves ++ curve ∷ []) ≡ seen_done n k curves ++ seen_curve (key_at n (k + length curves)) curve ∷ []
seen_done-push n k [] curve = let e : k ≡ k + 0 = omega arith in ap (λ (i : ℕ). seen_curve (key_at n i) curve ∷ []) e
seen_done-push n k (c ∷ curves) curve =
    let e : k + 1 + length curves ≡ k + suc (length curves) = omega arith in
    ap (λ (l : List ReadCurve). seen_curve (key_at n k) c ∷ l) (seen_done-push n (k + 1) curves curve
    ∙ ap (λ (i : ℕ). seen_done n (k + 1) curves ++ seen_curve (key_at n i) curve ∷ []) e)

pub pushed : (n : Named) (curves : List (Option Trace)) (curve : Option Trace)
    → seen_done n 0 (curves ++ curve ∷ []) ≡ seen_done n 0 curves ++ seen_curve (key_at n (length curves)) curve ∷ []
pushed n curves curve =
    let e : 0 + length curves ≡ length curves = omega arith in
    seen_done-push n 0 curves curve ∙ ap (λ (i : ℕ). seen_done n 0 curves ++ seen_curve (key_at n i) curve ∷ []) e

-- a draft with other curves
abbrev pub seen_with : Named → Draft → List (Option Trace) → Option Trace → ReportDraft
seen_with n d curves current = record {
  stage = seen_stage d.stage;
  horizon = d.horizon;
  reached = d.reached;
  stop = d.stop;
  done = seen_done n 0 curves;
  current = seen_current (key_at n (length curves)) current;
  keys = drop (with_open (length curves) current) (curve_keys n);
  next_state = d.next_state;
  states = d.states;
}

module _ (n : Named) (d : Draft) where
  -- the current curve becomes a complete one
  pub closed_is : (curves : List (Option Trace)) (current : Option Trace) (trace whole : Trace) → d.current ≡ Some trace → current ≡ None
      → whole.curve.points ≡ trace.curve.points → whole.rates.items ≡ trace.rates.items → curves ≡ d.done.items ++ Some whole ∷ []
      → seen_with n d curves current ≡ closed (seen_draft n d)
  closed_is curves current trace whole some none points rates e =
      let len : length curves ≡ length d.done.items + 1 = ap (λ (l : List (Option Trace)). length l) e ∙ length-append d.done.items (Some whole ∷ []) in
      (λ i. seen_with n d (e i) (none i))
      ∙ (λ i. record (seen_with n d (d.done.items ++ Some whole ∷ []) None) {
        done = pushed n d.done.items (Some whole) i;
        keys =
            drop ((sym (ap (λ (l : List (Option Trace)). length l) e) ∙ len) i) (curve_keys n);
      })
      ∙ (λ i. record (closed (seen_with n d d.done.items (Some trace))) {
        done = seen_done n 0 d.done.items ++ record { key = key_at n (length d.done.items); points = points i; rates = rates i } ∷ [];
      })
      ∙ ap (λ (o : Option Trace). closed (seen_with n d d.done.items o)) (sym some)

  module _ (next : Draft) (seen : seen_draft n next ≡ closed (seen_draft n d)) (none : next.current ≡ None) (many : length next.done.items ≡ begun_count d)
      (more : begun_count d < length (curve_keys n)) where
    keys_here : drop (begun_count d) (curve_keys n) ≡ key_at n (begun_count d) ∷ drop (begun_count d + 1) (curve_keys n)
    keys_here = keys_from (curve_keys n) (begun_count d) (key_of lines.OfNever []) more

    -- a curve begins
    pub begun_is : (trace : Trace) (point : RatedPoint) → trace.curve.points ≡ (point.time, point.value) ∷ [] → trace.rates.items ≡ with_rate [] point.rate
        → seen_with n next next.done.items (Some trace) ≡ drafted n (seen_draft n d) (OfCurve Begins point)
    begun_is trace point points rates =
        ap (λ (r : ReportDraft). record r {
          current = Some (seen_curve (key_at n (length next.done.items)) (Some trace));
          keys = drop (length next.done.items + 1) (curve_keys n);
        }) seen
        ∙ (λ i. record (closed (seen_draft n d)) {
          current = Some (record { key = key_at n (many i); points = points i; rates = rates i });
          keys = drop (many i + 1) (curve_keys n);
        })
        ∙ sym (ap (λ (keys : List CurveKey).
        let o = begun_by (with_current (seen_draft n d).done (seen_draft n d).current) keys in
        lines.with_point (seen_draft n d) o (point.time, point.value) (with_rate o.curve.rates point.rate)) keys_here)

    -- an idle node is passed
    pub never_is : (curves : List (Option Trace)) → curves ≡ next.done.items ++ None ∷ [] → seen_with n next curves next.current ≡ drafted n (seen_draft n d) Never
    never_is curves e =
        let len : length curves ≡ begun_count d + 1 = ap (λ (l : List (Option Trace)). length l) e ∙ length-append next.done.items (None ∷ []) ∙ ap (λ (k : ℕ). k + 1) many in
        (λ i. seen_with n next curves (none i))
        ∙ (λ i. record (seen_with n next curves None) {
          done = (ap (λ (l : List (Option Trace)). seen_done n 0 l) e ∙ pushed n next.done.items None)
              i;
          keys = drop (len i) (curve_keys n);
        })
        ∙ ap (λ (r : ReportDraft). record r {
          done = r.done ++ seen_curve (key_at n (length next.done.items)) None ∷ [];
          current = None;
          keys = drop (begun_count d + 1) (curve_keys n);
        }) seen
        ∙ ap (λ (k : ℕ). record (closed (seen_draft n d)) {
          done = with_current (seen_draft n d).done (seen_draft n d).current ++ seen_curve (key_at n k) None ∷ [];
          keys = drop (begun_count d + 1) (curve_keys n);
        }) many
        ∙ sym (ap (λ (keys : List CurveKey).
        let o = begun_by (with_current (seen_draft n d).done (seen_draft n d).current) keys in
        record (seen_draft n d) { done = o.done ++ o.curve ∷ []; current = None; keys = o.keys }) keys_here)

-- ---- which curve a line adds to
abbrev opens : Named → Draft → lines.Kind → Name → Option Trace → Result Opened ReportRule
opens n d kind name current = opened (seen_with n d d.done.items current) kind name (seen_current (key_at n (length d.done.items)) current)

module _ (n : Named) (d : Draft) (within : IsWithinNetwork n d) (kind : lines.Kind) (name : Name) where
  -- none is being read
  pub begins_first : d.current ≡ None → is_some_key kind name (key_of_number n (length d.done.items)) ≡ true
      → opened (seen_draft n d) kind name (seen_draft n d).current ≡ Ok (opened_by (seen_draft n d) Begins)
  begins_first none e =
      subst (λ (o : Option Trace). opens n d kind name o ≡ Ok (opened_by (seen_with n d d.done.items o) Begins)) (sym none)
      (begun_test (seen_done n 0 d.done.items) kind name (curve_keys n) (length d.done.items)
      ∙ ap (λ (b : Bool). cond b (Ok (begun_by (seen_done n 0 d.done.items) (drop (length d.done.items) (curve_keys n)))) (Err P7)) e)

  pub none_begins : d.current ≡ None → is_some_key kind name (key_of_number n (length d.done.items)) ≡ false → opened (seen_draft n d) kind name (seen_draft n d).current ≡ Err P7
  none_begins none e =
      subst (λ (o : Option Trace). opens n d kind name o ≡ Err P7) (sym none)
      (begun_test (seen_done n 0 d.done.items) kind name (curve_keys n) (length d.done.items)
      ∙ ap (λ (b : Bool). cond b (Ok (begun_by (seen_done n 0 d.done.items) (drop (length d.done.items) (curve_keys n)))) (Err P7)) e)

  -- one is
  module _ (trace : Trace) (some : d.current ≡ Some trace) where
    fewer : length d.done.items < length (curve_keys n)
    fewer = let h : with_open (length d.done.items) (Some trace) ≤ length (curve_keys n) =
        subst (λ (o : Option Trace). with_open (length d.done.items) o ≤ length (curve_keys n)) some within.curves in omega (arith, h)

    abbrev by_test : Bool → Result Opened ReportRule
    by_test b = cond b
        (Ok (record { curve = seen_curve (key_at n (length d.done.items)) (Some trace); done = seen_done n 0 d.done.items; keys = drop (length d.done.items + 1) (curve_keys n) }))
        (begun (seen_done n 0 d.done.items ++ seen_curve (key_at n (length d.done.items)) (Some trace) ∷ []) kind name (drop (length d.done.items + 1) (curve_keys n)))

    by_key : (b : Bool) → is_some_key kind name (key_of_number n (length d.done.items)) ≡ b → opens n d kind name (Some trace) ≡ by_test b
    by_key b e = ap by_test (same_test (curve_keys n) (length d.done.items) (key_of lines.OfNever []) kind name fewer ∙ e)

    module _ (not_this : is_some_key kind name (key_of_number n (length d.done.items)) ≡ false) where
      next_test : (b : Bool) → is_some_key kind name (key_of_number n (length d.done.items + 1)) ≡ b
          → opens n d kind name (Some trace) ≡ cond b (Ok (opened_by (seen_with n d d.done.items (Some trace)) Begins)) (Err P7)
      next_test b e =
          by_key false not_this
          ∙ begun_test (seen_done n 0 d.done.items ++ seen_curve (key_at n (length d.done.items)) (Some trace) ∷ []) kind name (curve_keys n) (length d.done.items + 1)
          ∙ ap (λ (t : Bool). cond t (Ok (opened_by (seen_with n d d.done.items (Some trace)) Begins)) (Err P7)) e

      pub begins_next : is_some_key kind name (key_of_number n (length d.done.items + 1)) ≡ true
          → opened (seen_draft n d) kind name (seen_draft n d).current ≡ Ok (opened_by (seen_draft n d) Begins)
      begins_next e = subst (λ (o : Option Trace). opens n d kind name o ≡ Ok (opened_by (seen_with n d d.done.items o) Begins)) (sym some) (next_test true e)

      pub other_curve : is_some_key kind name (key_of_number n (length d.done.items + 1)) ≡ false → opened (seen_draft n d) kind name (seen_draft n d).current ≡ Err P7
      other_curve e = subst (λ (o : Option Trace). opens n d kind name o ≡ Err P7) (sym some) (next_test false e)

-- ---- an idle node
module _ (n : Named) (d : Draft) (words : List (List ℕ)) (two : length words ≡ 2) where
  abbrev by_begun : Result Opened ReportRule → Result ReportDraft ReportRule
  by_begun r = r >>= λ o. Ok (record (seen_draft n d) { done = o.done ++ o.curve ∷ []; current = None; keys = o.keys })

  never_test : (b : Bool) → is_some_key lines.OfNever (word_at words 1) (key_of_number n (begun_count d)) ≡ b
      → lines.never_line (seen_draft n d) (drop 1 words) ≡ by_begun (cond b (Ok (begun_by (with_current (seen_draft n d).done (seen_draft n d).current) (seen_draft n d).keys)) (Err P7))
  never_test b e =
      ap (lines.never_line (seen_draft n d)) (one_behind words two)
      ∙ ap by_begun (begun_test (with_current (seen_draft n d).done (seen_draft n d).current) lines.OfNever (word_at words 1) (curve_keys n) (begun_count d)
      ∙ ap (λ (t : Bool). cond t (Ok (begun_by (with_current (seen_draft n d).done (seen_draft n d).current) (seen_draft n d).keys)) (Err P7)) e)

  pub never_there : is_some_key lines.OfNever (word_at words 1) (key_of_number n (begun_count d)) ≡ true
      → lines.never_line (seen_draft n d) (drop 1 words) ≡ Ok (drafted n (seen_draft n d) Never)
  never_there e = never_test true e

  pub never_elsewhere : is_some_key lines.OfNever (word_at words 1) (key_of_number n (begun_count d)) ≡ false → lines.never_line (seen_draft n d) (drop 1 words) ≡ Err P7
  never_elsewhere e = never_test false e

-- ---- what is kept
pub nothing_read : (n : Named) (horizon reached : ℚ) (done : List (Option Trace)) (states : List (Option State)) → horizon ≡ 0ℚ → reached ≡ 0ℚ → done ≡ []
    → states ≡ replicate (length n.link_names) None
    → record {
      stage = lines.AtVersion;
      horizon = horizon;
      reached = reached;
      stop = None;
      done = seen_done n 0 done;
      current = None;
      keys = drop (length done) (curve_keys n);
      next_state = 0;
      states = states;
    } ≡ lines.empty_report n
nothing_read n horizon reached done states h r d s = rw (h, r, d, s) refl

pub within_by : (n : Named) (d : Draft) (count : ℕ) → d.current ≡ None → length d.done.items ≡ count → count ≤ length (curve_keys n) → LacksIdleOnly n d.done.items
    → length d.states ≡ length n.net.links → IsWithinNetwork n d
within_by n d count none many few idle states =
    record { curves = subst (λ (k : ℕ). k ≤ length (curve_keys n)) (sym (ap (with_open (length d.done.items)) none ∙ many)) few; idle = idle; states = states }

pub done_few : (n : Named) (d : Draft) → IsWithinNetwork n d → length d.done.items ≤ length (curve_keys n)
done_few n d within = by_current d.current within.curves
  where
    by_current : (o : Option Trace) → with_open (length d.done.items) o ≤ length (curve_keys n) → length d.done.items ≤ length (curve_keys n)
    by_current None h = h
    by_current (Some trace) h = omega (arith, h)

-- ---- only idle nodes have no curve
none_behind : (curves : List (Option Trace)) (curve : Option Trace) (i : ℕ) → slice_get (curves ++ curve ∷ []) i ≡ Some None
    → (slice_get curves i ≡ Some None) ⊎ ((i ≡ length curves) × (curve ≡ None))
none_behind [] curve zero e = inr (refl, same curve e)
  where
    same : (c : Option Trace) → ◌≡◌ {A = Option (Option Trace)} (Some c) (Some None) → c ≡ None
    same None e = refl
    same (Some trace) e = absurd (cc)
none_behind [] curve (suc i) e = absurd (cc)
none_behind (c ∷ curves) curve zero e = inl e
none_behind (c ∷ curves) curve (suc i) e = ⊎_elim
    (λ (w : slice_get curves i ≡ Some None). inl w)
    (λ (w : (i ≡ length curves) × (curve ≡ None)). inr (ap suc w.0, w.1))
    (none_behind curves curve i e)

pub idle_kept : (n : Named) (curves all : List (Option Trace)) (trace : Trace) → all ≡ curves ++ Some trace ∷ [] → LacksIdleOnly n curves → LacksIdleOnly n all
idle_kept n curves all trace same h i e = ⊎_elim
    (λ (w : slice_get curves i ≡ Some None). h i w)
    (λ (w : (i ≡ length curves) × (Some trace ≡ None)). absurd (some_none w.1))
    (none_behind curves (Some trace) i (sym (ap (λ (l : List (Option Trace)). slice_get l i) same) ∙ e))
  where
    some_none : Some trace ≡ None → ⊥
    some_none e = cc

pub idle_passed : (n : Named) (curves all : List (Option Trace)) → all ≡ curves ++ None ∷ [] → (key_at n (length curves)).kind ≡ lines.OfNever
    → LacksIdleOnly n curves → LacksIdleOnly n all
idle_passed n curves all same is h i e = ⊎_elim
    (λ (w : slice_get curves i ≡ Some None). h i w)
    (λ (w : (i ≡ length curves) × (◌≡◌ {A = Option Trace} None None)). subst (λ (k : ℕ). (key_at n k).kind ≡ lines.OfNever) (sym w.0) is)
    (none_behind curves None i (sym (ap (λ (l : List (Option Trace)). slice_get l i) same) ∙ e))

pub no_curves : (n : Named) (curves : List (Option Trace)) → curves ≡ [] → LacksIdleOnly n curves
no_curves n curves none i e = absurd (there (sym (ap (λ (l : List (Option Trace)). slice_get l i) none) ∙ e))
  where
    there : ◌≡◌ {A = Option (Option Trace)} None (Some None) → ⊥
    there e = cc

pub never_some : (keys : List CurveKey) → IsNeverNext keys → 0 < length keys
never_some [] h = absurd h
never_some (key ∷ keys) h = omega arith

pub never_at : (keys : List CurveKey) (k : ℕ) (other : CurveKey) → IsNeverNext (drop k keys) → (unwrap_or (slice_get keys k) other).kind ≡ lines.OfNever
never_at [] zero other h = absurd h
never_at [] (suc k) other h = absurd h
never_at (key ∷ keys) zero other h = h
never_at (key ∷ keys) (suc k) other h = never_at keys k other h

never_by_word : (kind : lines.Kind) (b : Bool) → bytes_eq (key_word kind) (key_word lines.OfNever) && b ≡ true → kind ≡ lines.OfNever
never_by_word lines.OfLabel b e = absurd (cc)
never_by_word lines.OfNever b e = refl
never_by_word lines.OfInflow b e = absurd (cc)
never_by_word lines.OfOutflow b e = absurd (cc)
never_by_word lines.OfQueue b e = absurd (cc)

pub never_next : (keys : List CurveKey) (k : ℕ) (name : Name) → is_some_key lines.OfNever name (slice_get keys k) ≡ true → IsNeverNext (drop k keys)
never_next [] k name e = absurd (cc)
never_next (key ∷ keys) zero name e = never_by_word key.kind (bytes_eq key.name name) e
never_next (key ∷ keys) (suc k) name e = never_next keys k name e

pub with_state : (n : Named) (d e : Draft) (link next : ℕ) (state : State) (states : List (Option State)) → seen_draft n e ≡ closed (seen_draft n d)
    → next ≡ suc link → states ≡ set d.states link (Some state)
    → record (seen_draft n e) { next_state = next; states = states } ≡ drafted n (seen_draft n d) (OfLink link state)
with_state n d e link next state states h i s =
    ap (λ (r : ReportDraft). record r { next_state = next; states = states }) h
    ∙ ap (λ (k : ℕ). record (closed (seen_draft n d)) { next_state = k; states = states }) i
    ∙ ap (λ (l : List (Option State)). record (closed (seen_draft n d)) { next_state = suc link; states = l }) s

pub not_ended : (stage : Stage) (draft : ReportDraft) → (stage ≡ stages.End → ⊥) → if_at_end (seen_stage stage) draft ≡ Err (record { rule = P14; line = 0 })
not_ended stages.Version draft other = refl
not_ended stages.Horizon draft other = refl
not_ended stages.Reached draft other = refl
not_ended stages.Cause draft other = refl
not_ended stages.Body draft other = refl
not_ended stages.End draft other = absurd (other refl)
