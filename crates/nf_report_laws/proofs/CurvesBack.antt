-- The lines of curves, in their order, are read as these curves.
use Rattle.std.proofs.Common.{◌≡◌, ℕ, suc, Bool, true, false, not, ◌&&◌, ◌==◌, if◌then◌else◌, List, [], ◌∷◌, ◌++◌, length, map, flat_map, Option, Some}
use Rattle.std.proofs.Common.{None, is_none, Result, Ok, Err, refl, sym, ap, subst, ◌∙◌, codes, bytes_eq, arith, append_assoc, append-nil}
use Rattle.nf_report_laws.proofs.Common.{AllByRecursion, last_or, and_from, ℚ, 0ℚ, le_ℚ, test_of_le, test_of_less, ◌>>=◌, Point, TimesRise, IsCurve}
use Rattle.nf_report_laws.proofs.Common.{printed, Name, Named, IsFraction, point_lines, trace_lines, bytes_eq-self, is_same, ReportRule, P5, P7, P11, P12}
use Rattle.nf_report_laws.proofs.Common.{or_rule, first_named, Kind, OfLabel, OfNever, OfInflow, OfOutflow, OfQueue, CurveKey, key_word, key_of, InBody}
use Rattle.nf_report_laws.proofs.Common.{ReadCurve, ReportDraft, are_alike, begins_with, is_key, with_current, Opened, begun, opened, comes_after}
use Rattle.nf_report_laws.proofs.Common.{with_point, point_numbers, rate_word, with_rate, point_line, trace_line, never_line, never_kinds, line_of_kind}
use Rattle.nf_report_laws.proofs.Common.{report_line, IsFractionPoint, AreFractionPoints, IsFractionOrNone, last-append}
use Rattle.nf_rational_laws.proofs.Order.{≤ℚ_of_same}
use Rattle.nf_report_laws.proofs.NumbersBack.{numbers_back, rate_text, rate_back}
use Rattle.nf_report_laws.proofs.ReportShape.{lines_of_kind, curve_lines, IsOfKind, IsRead, plain_curve}
use Rattle.nf_report_laws.proofs.ReportSteps.{next_of, Reads, reads-append, key_self, other_key}

-- ---- times that rise, seen from the point before
abbrev pub InTime : Option Point → List Point → Type 0
InTime before [] = Unit {0}
InTime before (p ∷ points) = (comes_after before p.0 ≡ true) × InTime (Some p) points

pub is_zero_time : (x : ℚ) → x ≡ 0ℚ → is_same x 0ℚ ≡ true
is_zero_time x e = and_from (le_ℚ x 0ℚ) (le_ℚ 0ℚ x) (test_of_le x 0ℚ (≤ℚ_of_same x 0ℚ e)) (test_of_le 0ℚ x (≤ℚ_of_same 0ℚ x (sym e)))

rising : (p : Point) (points : List Point) → TimesRise (p ∷ points) → InTime (Some p) points
rising p [] h = tt
rising p (q ∷ points) h = (test_of_less p.0 q.0 h.0, rising q points h.1)

pub curve_in_time : (points : List Point) → IsCurve points → InTime None points
curve_in_time [] h = tt
curve_in_time (p ∷ points) h = (is_zero_time p.0 h.0, rising p points h.1)

-- ---- one line
abbrev opened_curve : Kind → Name → List Point → List ℚ → List ReadCurve → List CurveKey → Opened
opened_curve kind name points rates done keys = record { curve = record { key = key_of kind name; points = points; rates = rates }; done = done; keys = keys }

point_put : (kind : Kind) (draft : ReportDraft) (name : Name) (o : Opened) (p : Point) → opened draft kind name draft.current ≡ Ok o → IsFractionPoint p
    → comes_after (last_or None o.curve.points) p.0 ≡ true
    → point_line kind draft (name ∷ printed p.0 ∷ printed p.1 ∷ []) ≡ Ok (with_point draft o p o.curve.rates)
point_put kind draft name o p e h t =
    ap (λ r. r >>= λ o. (point_numbers (printed p.0) (printed p.1) >>= λ p. if comes_after (last_or None o.curve.points) p.0 then Ok (with_point draft o p o.curve.rates) else Err P11)) e
    ∙ ap (λ r. r >>= λ p. if comes_after (last_or None o.curve.points) p.0 then Ok (with_point draft o p o.curve.rates) else Err P11) (numbers_back p h)
    ∙ ap (λ (b : Bool). if b then Ok (with_point draft o p o.curve.rates) else Err P11) t

trace_put : (kind : Kind) (draft : ReportDraft) (next : Option (List (List ℕ))) (name : Name) (o : Opened) (p : Point) (rate : Option ℚ)
    → opened draft kind name draft.current ≡ Ok o → IsFractionPoint p → IsFractionOrNone rate
    → comes_after (last_or None o.curve.points) p.0 ≡ true → are_alike (is_none rate) (begins_with (key_word kind) name next) ≡ false
    → trace_line kind draft next (name ∷ printed p.0 ∷ printed p.1 ∷ rate_text rate ∷ []) ≡ Ok (with_point draft o p (with_rate o.curve.rates rate))
trace_put kind draft next name o p rate e h k t a =
    ap (λ r. r >>= λ o. (point_numbers (printed p.0) (printed p.1) >>= λ p. (rate_word (rate_text rate) >>= λ r.
    if not (comes_after (last_or None o.curve.points) p.0) then Err P11
    else (if are_alike (is_none r) (begins_with (key_word kind) name next) then Err P12 else Ok (with_point draft o p (with_rate o.curve.rates r)))))) e
    ∙ ap (λ r. r >>= λ p. (rate_word (rate_text rate) >>= λ r.
    if not (comes_after (last_or None o.curve.points) p.0) then Err P11
    else (if are_alike (is_none r) (begins_with (key_word kind) name next) then Err P12 else Ok (with_point draft o p (with_rate o.curve.rates r))))) (numbers_back p h)
    ∙ ap (λ r. r >>= λ r.
    if not (comes_after (last_or None o.curve.points) p.0) then Err P11
    else (if are_alike (is_none r) (begins_with (key_word kind) name next) then Err P12 else Ok (with_point draft o p (with_rate o.curve.rates r)))) (rate_back rate k)
    ∙ (λ i. if not (t i) then Err P11 else (if a i then Err P12 else Ok (with_point draft o p (with_rate o.curve.rates rate))))

-- ---- the lines of one curve
module _ (n : Named) (d : ReportDraft) where
  abbrev pub in_body : List ReadCurve → Option ReadCurve → List CurveKey → ReportDraft
  in_body done current keys = record d { stage = InBody; done = done; current = current; keys = keys }

  abbrev Says : Kind → (Option (List (List ℕ)) → ReportDraft → List (List ℕ) → Result ReportDraft ReportRule) → Type 0
  Says kind line = (done : List ReadCurve) (current : Option ReadCurve) (keys : List CurveKey) (next : Option (List (List ℕ))) (words : List (List ℕ))
      → report_line n (in_body done current keys) true next (key_word kind ∷ words) ≡ line next (in_body done current keys) words

  goes_on : (done : List ReadCurve) (keys : List CurveKey) (kind : Kind) (name : Name) (points : List Point) (rates : List ℚ) (c : ReadCurve) → c.key ≡ key_of kind name
      → opened (in_body done (Some c) keys) kind name (Some c) ≡ Ok (record { curve = c; done = done; keys = keys })
  goes_on done keys kind name points rates c e =
      ap (λ (b : Bool). if b then Ok (record { curve = c; done = done; keys = keys }) else begun (done ++ c ∷ []) kind name keys)
      (ap (is_key kind name) e ∙ key_self kind name)

  begins : (done : List ReadCurve) (keys : List CurveKey) (kind : Kind) (name : Name) → begun done kind name (key_of kind name ∷ keys) ≡ Ok (opened_curve kind name [] [] done keys)
  begins done keys kind name = ap (λ (b : Bool). if b then Ok (opened_curve kind name [] [] done keys) else Err P7) (key_self kind name)

  -- the curve before isn't the next one
  abbrev pub IsOther : Option ReadCurve → CurveKey → Type 0
  IsOther None key = Unit {0}
  IsOther (Some c) key = c.key ≡ key → ⊥

  opens : (done : List ReadCurve) (current : Option ReadCurve) (keys : List CurveKey) (kind : Kind) (name : Name) → IsOther current (key_of kind name)
      → opened (in_body done current (key_of kind name ∷ keys)) kind name current ≡ Ok (opened_curve kind name [] [] (with_current done current) keys)
  opens done None keys kind name h = begins done keys kind name
  opens done (Some c) keys kind name h =
      ap (λ (b : Bool). if b then Ok (record { curve = c; done = done; keys = key_of kind name ∷ keys }) else begun (done ++ c ∷ []) kind name
      (key_of kind name ∷ keys)) (other_key kind name c.key h)
      ∙ begins (done ++ c ∷ []) keys kind name

  points_read : (kind : Kind) (name : Name) → Says kind (λ _. point_line kind)
      → (done : List ReadCurve) (current : Option ReadCurve) (keys : List CurveKey) (front : List Point) (rates : List ℚ) (after_done : List ReadCurve)
      (after_keys : List CurveKey)
      (p : Point) (points : List Point) (after : Option (List (List ℕ)))
      → opened (in_body done current keys) kind name current ≡ Ok (opened_curve kind name front rates after_done after_keys)
      → InTime (last_or None front) (p ∷ points) → AreFractionPoints (p ∷ points)
      → Reads n (in_body done current keys) (point_lines (key_word kind) name (p ∷ points)) after
      (in_body after_done (Some (record { key = key_of kind name; points = front ++ p ∷ points; rates = rates })) after_keys)
  points_read kind name says done current keys front rates after_done after_keys p [] after e t h = (
    in_body after_done (Some (record { key = key_of kind name; points = front ++ p ∷ []; rates = rates })) after_keys,
    says done current keys after (name ∷ printed p.0 ∷ printed p.1 ∷ []) ∙ point_put kind (in_body done current keys) name
        (opened_curve kind name front rates after_done after_keys) p e h.0 t.0,
    refl,
  )
  points_read kind name says done current keys front rates after_done after_keys p (q ∷ points) after e t h =
      let c : ReadCurve = record { key = key_of kind name; points = front ++ p ∷ []; rates = rates } in (
        in_body after_done (Some c) after_keys,
        says done current keys (next_of (point_lines (key_word kind) name (q ∷ points)) after) (name ∷ printed p.0 ∷ printed p.1 ∷ [])
            ∙ point_put kind (in_body done current keys) name (opened_curve kind name front rates after_done after_keys) p e h.0 t.0,
        subst (λ (ps : List Point). Reads n (in_body after_done (Some c) after_keys) (point_lines (key_word kind) name (q ∷ points)) after
            (in_body after_done (Some (record { key = key_of kind name; points = ps; rates = rates })) after_keys))
            (append_assoc front (p ∷ []) (q ∷ points))
            (points_read kind name says after_done (Some c) after_keys (front ++ p ∷ []) rates after_done after_keys q points after (goes_on after_done after_keys kind name [] [] c refl)
            (subst (λ (o : Option Point). InTime o (q ∷ points)) (sym (last-append None front p)) t.1) h.1),
      )

  trace_goes_on : (key name : List ℕ) (p : Point) (points : List Point) (rates : List ℚ) (after : Option (List (List ℕ)))
      → begins_with key name (next_of (trace_lines key name (p ∷ points) rates) after) ≡ true
  trace_goes_on key name p points [] after = and_from (bytes_eq key key) (bytes_eq name name) (bytes_eq-self key) (bytes_eq-self name)
  trace_goes_on key name p points (rate ∷ rates) after = and_from (bytes_eq key key) (bytes_eq name name) (bytes_eq-self key) (bytes_eq-self name)

  traces_read : (kind : Kind) (name : Name) → Says kind (λ next draft. trace_line kind draft next)
      → (done : List ReadCurve) (current : Option ReadCurve) (keys : List CurveKey) (front : List Point) (before : List ℚ) (after_done : List ReadCurve)
      (after_keys : List CurveKey)
      (p : Point) (points : List Point) (rates : List ℚ) (after : Option (List (List ℕ)))
      → opened (in_body done current keys) kind name current ≡ Ok (opened_curve kind name front before after_done after_keys)
      → InTime (last_or None front) (p ∷ points) → AreFractionPoints (p ∷ points) → AllByRecursion IsFraction rates → length points ≡ length rates
      → begins_with (key_word kind) name after ≡ false
      → Reads n (in_body done current keys) (trace_lines (key_word kind) name (p ∷ points) rates) after
      (in_body after_done (Some (record { key = key_of kind name; points = front ++ p ∷ points; rates = before ++ rates })) after_keys)
  traces_read kind name says done current keys front before after_done after_keys p [] [] after e t h r c last = (
    in_body after_done (Some (record { key = key_of kind name; points = front ++ p ∷ []; rates = before })) after_keys,
    says done current keys after (name ∷ printed p.0 ∷ printed p.1 ∷ codes "-" ∷ []) ∙ trace_put kind (in_body done current keys) after name (opened_curve kind name front before after_done after_keys) p None e h.0 tt t.0 last,
    ap (λ (rs : List ℚ). in_body after_done (Some (record { key = key_of kind name; points = front ++ p ∷ []; rates = rs })) after_keys) (sym (append-nil before)),
  )
  traces_read kind name says done current keys front before after_done after_keys p [] (rate ∷ rates) after e t h r c last = absurd (omega arith)
  traces_read kind name says done current keys front before after_done after_keys p (q ∷ points) [] after e t h r c last = absurd (omega arith)
  traces_read kind name says done current keys front before after_done after_keys p (q ∷ points) (rate ∷ rates) after e t h r c last =
      let curve : ReadCurve = record { key = key_of kind name; points = front ++ p ∷ []; rates = before ++ rate ∷ [] } in
      let next = next_of (trace_lines (key_word kind) name (q ∷ points) rates) after in (
        in_body after_done (Some curve) after_keys,
        says done current keys next (name ∷ printed p.0 ∷ printed p.1 ∷ printed rate ∷ [])
            ∙ trace_put kind (in_body done current keys) next name (opened_curve kind name front before after_done after_keys) p (Some rate) e h.0 r.0 t.0
            (ap not (trace_goes_on (key_word kind) name q points rates after)),
        subst (λ (rs : List ℚ). Reads n (in_body after_done (Some curve) after_keys) (trace_lines (key_word kind) name (q ∷ points) rates) after
            (in_body after_done (Some (record { key = key_of kind name; points = front ++ p ∷ q ∷ points; rates = rs })) after_keys))
            (append_assoc before (rate ∷ []) rates)
            (subst (λ (ps : List Point). Reads n (in_body after_done (Some curve) after_keys) (trace_lines (key_word kind) name (q ∷ points) rates) after
            (in_body after_done (Some (record { key = key_of kind name; points = ps; rates = before ++ rate ∷ [] ++ rates })) after_keys))
            (append_assoc front (p ∷ []) (q ∷ points))
            (traces_read kind name says after_done (Some curve) after_keys (front ++ p ∷ [])
            (before ++ rate ∷ []) after_done after_keys q points rates after (goes_on after_done after_keys kind name [] [] curve refl)
            (subst (λ (o : Option Point). InTime o (q ∷ points)) (sym (last-append None front p)) t.1) h.1 r.1 (omega arith) last)),
      )

  -- ---- any curve
  -- a curve, and what is behind it
  abbrev pub Follows : List ReadCurve → Option ReadCurve → List CurveKey → List (List (List ℕ)) → Option (List (List ℕ)) → List ReadCurve → Type 0
  Follows done current keys lines after curves = (last_done : List ReadCurve) × (last : Option ReadCurve)
      × (with_current last_done last ≡ with_current done current ++ curves) × Reads n (in_body done current keys) lines after (in_body last_done last [])

  never_says : (done : List ReadCurve) (current : Option ReadCurve) (keys : List CurveKey) (next : Option (List (List ℕ))) (words : List (List ℕ)) → (n.version == 1) ≡ false
      → report_line n (in_body done current keys) true next (codes "never" ∷ words) ≡ never_line (in_body done current keys) words
  never_says done current keys next words e = ap (λ (b : Bool). or_rule P5 (first_named (codes "never") (never_kinds b)) >>= λ kind. line_of_kind n (in_body done current keys) next words kind) e

  never_read : (name : Name) (done : List ReadCurve) (current : Option ReadCurve) (keys : List CurveKey) (after : Option (List (List ℕ))) → (n.version == 1) ≡ false
      → Reads n (in_body done current (key_of OfNever name ∷ keys)) ((codes "never" ∷ name ∷ []) ∷ []) after (in_body (with_current done current ++ plain_curve OfNever name [] ∷ []) None keys)
  never_read name done current keys after e = (
    in_body (with_current done current ++ plain_curve OfNever name [] ∷ []) None keys,
    never_says done current (key_of OfNever name ∷ keys) after (name ∷ []) e
        ∙ ap (λ r. r >>= λ o. Ok (in_body (o.done ++ o.curve ∷ []) None o.keys)) (begins (with_current done current) keys OfNever name),
    refl,
  )

-- what a curve's lines leave: the curve before is done, and this one is being read, if more could come of it
abbrev pub left_done : List ReadCurve → Option ReadCurve → ReadCurve → Kind → List ReadCurve
left_done done current c OfNever = with_current done current ++ c ∷ []
left_done done current c kind = with_current done current

abbrev pub left_current : ReadCurve → Kind → Option ReadCurve
left_current c OfNever = None
left_current c kind = Some c

abbrev read_of : Kind → Name → List Point → List ℚ → ReadCurve
read_of kind name points rates = record { key = key_of kind name; points = points; rates = rates }

left_is : (done : List ReadCurve) (current : Option ReadCurve) (c : ReadCurve) (kind : Kind)
    → with_current (left_done done current c kind) (left_current c kind) ≡ with_current done current ++ c ∷ []
left_is done current c OfLabel = refl
left_is done current c OfNever = refl
left_is done current c OfInflow = refl
left_is done current c OfOutflow = refl
left_is done current c OfQueue = refl

-- `never` stands in no version but from 2 on
abbrev pub IsAllowed : ℕ → Kind → Type 0
IsAllowed version OfNever = (version == 1) ≡ false
IsAllowed version kind = Unit {0}

kind_read : (n : Named) (d : ReportDraft) (kind : Kind) (name : Name) (points : List Point) (rates : List ℚ) (done : List ReadCurve)
    (current : Option ReadCurve) (keys : List CurveKey) (after : Option (List (List ℕ)))
    → IsOfKind kind points rates → IsAllowed n.version kind → IsOther n d current (key_of kind name) → begins_with (key_word kind) name after ≡ false
    → Reads n (in_body n d done current (key_of kind name ∷ keys)) (lines_of_kind kind name points rates) after
    (in_body n d (left_done done current (read_of kind name points rates) kind) (left_current (read_of kind name points rates) kind) keys)
kind_read n d OfLabel name [] rates done current keys after h v o b = absurd (h.0.0)
kind_read n d OfLabel name (p ∷ points) rates done current keys after h v o b =
    subst (λ (rs : List ℚ). Reads n (in_body n d done current (key_of OfLabel name ∷ keys)) (point_lines (codes "label") name (p ∷ points)) after (in_body n d (with_current done current) (Some (read_of OfLabel name (p ∷ points) rs)) keys)) (sym h.1)
    (points_read n d OfLabel name (λ done current keys next words. refl) done current (key_of OfLabel name ∷ keys) [] [] (with_current done current) keys p points after
    (opens n d done current keys OfLabel name o) (curve_in_time (p ∷ points) h.0.0) h.0.1)
kind_read n d OfNever name points rates done current keys after h v o b =
    subst (λ (c : ReadCurve). Reads n (in_body n d done current (key_of OfNever name ∷ keys)) ((codes "never" ∷ name ∷ []) ∷ []) after (in_body n d (with_current done current ++ c ∷ []) None keys)) (λ i. read_of OfNever name (sym h.0 i) (sym h.1 i))
    (never_read n d name done current keys after v)
kind_read n d OfInflow name [] rates done current keys after h v o b = absurd (h.curve)
kind_read n d OfInflow name (p ∷ points) rates done current keys after h v o b =
    traces_read n d OfInflow name (λ done current keys next words. refl) done current (key_of OfInflow name ∷ keys) [] [] (with_current done current) keys p points rates after
    (opens n d done current keys OfInflow name o) (curve_in_time (p ∷ points) h.curve) h.points h.rates (let k : suc (length points) ≡ suc (length rates) = h.count in omega arith) b
kind_read n d OfOutflow name [] rates done current keys after h v o b = absurd (h.curve)
kind_read n d OfOutflow name (p ∷ points) rates done current keys after h v o b =
    traces_read n d OfOutflow name (λ done current keys next words. refl) done current (key_of OfOutflow name ∷ keys) [] [] (with_current done current) keys p points rates after
    (opens n d done current keys OfOutflow name o) (curve_in_time (p ∷ points) h.curve) h.points h.rates (let k : suc (length points) ≡ suc (length rates) = h.count in omega arith) b
kind_read n d OfQueue name [] rates done current keys after h v o b = absurd (h.0.0)
kind_read n d OfQueue name (p ∷ points) rates done current keys after h v o b =
    subst (λ (rs : List ℚ). Reads n (in_body n d done current (key_of OfQueue name ∷ keys)) (point_lines (codes "queue") name (p ∷ points)) after (in_body n d (with_current done current) (Some (read_of OfQueue name (p ∷ points) rs)) keys)) (sym h.1)
    (points_read n d OfQueue name (λ done current keys next words. refl) done current (key_of OfQueue name ∷ keys) [] [] (with_current done current) keys p points after
    (opens n d done current keys OfQueue name o) (curve_in_time (p ∷ points) h.0.0) h.0.1)

-- ---- all curves
-- the first line of a curve has its key
kind_begins : (kind : Kind) (name : Name) (points : List Point) (rates : List ℚ) (key other : List ℕ) (more : List (List (List ℕ)))
    (after : Option (List (List ℕ))) → IsOfKind kind points rates
    → begins_with key other (next_of (lines_of_kind kind name points rates ++ more) after) ≡ (bytes_eq (key_word kind) key && bytes_eq name other)
kind_begins OfLabel name [] rates key other more after h = absurd (h.0.0)
kind_begins OfLabel name (p ∷ points) rates key other more after h = refl
kind_begins OfNever name points rates key other more after h = refl
kind_begins OfInflow name [] rates key other more after h = absurd (h.curve)
kind_begins OfInflow name (p ∷ points) [] key other more after h = refl
kind_begins OfInflow name (p ∷ points) (rate ∷ rates) key other more after h = refl
kind_begins OfOutflow name [] rates key other more after h = absurd (h.curve)
kind_begins OfOutflow name (p ∷ points) [] key other more after h = refl
kind_begins OfOutflow name (p ∷ points) (rate ∷ rates) key other more after h = refl
kind_begins OfQueue name [] rates key other more after h = absurd (h.0.0)
kind_begins OfQueue name (p ∷ points) rates key other more after h = refl

-- neighbours differ
abbrev pub Differ : Option CurveKey → CurveKey → Type 0
Differ None key = Unit {0}
Differ (Some before) key = before ≡ key → ⊥

abbrev pub Adjacent : Option CurveKey → List CurveKey → Type 0
Adjacent before [] = Unit {0}
Adjacent before (key ∷ keys) = Differ before key × Adjacent (Some key) keys

abbrev pub keys_of : List ReadCurve → List CurveKey
keys_of curves = map (λ curve. curve.key) curves

-- no curve goes on with what is behind them all
abbrev pub IsBehind : Option (List (List ℕ)) → Type 0
IsBehind after = (kind : Kind) (name : Name) → begins_with (key_word kind) name after ≡ false

goes_not_on : (c : ReadCurve) (curves : List ReadCurve) (after : Option (List (List ℕ))) → AllByRecursion IsRead curves → Adjacent (Some c.key) (keys_of curves) → IsBehind after
    → begins_with (key_word c.key.kind) c.key.name (next_of (flat_map curve_lines curves) after) ≡ false
goes_not_on c [] after h a b = b c.key.kind c.key.name
goes_not_on c (x ∷ curves) after h a b =
    kind_begins x.key.kind x.key.name x.points x.rates (key_word c.key.kind) c.key.name (flat_map curve_lines curves) after h.0
    ∙ other_key c.key.kind c.key.name x.key (λ e. a.0 (sym e))

pub curves_read : (n : Named) (d : ReportDraft) (curves done : List ReadCurve) (current : Option ReadCurve) (before : Option CurveKey) (after : Option (List (List ℕ)))
    → AllByRecursion IsRead curves → AllByRecursion (λ c. IsAllowed n.version c.key.kind) curves → ((key : CurveKey) → Differ before key → IsOther n d current key)
    → Adjacent before (keys_of curves) → IsBehind after
    → Follows n d done current (keys_of curves) (flat_map curve_lines curves) after curves
curves_read n d [] done current before after h v o a b = (done, current, sym (append-nil (with_current done current)), refl)
curves_read n d (c ∷ curves) done current before after h v o a b =
    let kind = c.key.kind in
    let next_done = left_done done current c kind in
    let next = left_current c kind in
    let w = curves_read n d curves next_done next (Some c.key) after h.1 v.1 (others kind) a.1 b in (
      w.0,
      w.1,
      w.2 ∙ ap (λ l. l ++ curves) (left_is done current c kind) ∙ append_assoc (with_current done current) (c ∷ []) curves,
      reads-append n (in_body n d done current (c.key ∷ keys_of curves)) (in_body n d next_done next (keys_of curves)) (in_body n d w.0 w.1 [])
          (curve_lines c) (flat_map curve_lines curves) after
          (kind_read n d kind c.key.name c.points c.rates done current (keys_of curves) (next_of (flat_map curve_lines curves) after) h.0 v.0 (o c.key a.0)
          (goes_not_on c curves after h.1 a.1 b))
          w.3,
    )
  where
    others : (kind : Kind) (key : CurveKey) → Differ (Some c.key) key → IsOther n d (left_current c kind) key
    others OfLabel key e = e
    others OfNever key e = tt
    others OfInflow key e = e
    others OfOutflow key e = e
    others OfQueue key e = e
