-- Each line of a curve leads to complete and current curves whose lines are those read so far.
use Rattle.std.proofs.Common.{◌≡◌, ℕ, suc, ◌+◌, Bool, true, false, not, if◌then◌else◌, List, [], ◌∷◌, ◌++◌, length, flat_map, Option, Some, None, is_none}
use Rattle.std.proofs.Common.{Result, Ok, Err, refl, sym, ap, subst, ◌∙◌, codes, arith, append_assoc, append-nil, length-append}
use Rattle.nf_report_laws.proofs.Common.{AllByRecursion, last_or, map-append, ℚ, 0ℚ, less_of_test, Point, TimesRise, IsCurve, printed, Name, Named}
use Rattle.nf_report_laws.proofs.Common.{IsFraction, point_lines, trace_lines, ReportRule, P6, P7, P11, P12, Kind, OfLabel, OfNever, OfInflow, OfOutflow}
use Rattle.nf_report_laws.proofs.Common.{OfQueue, CurveKey, key_word, key_of, curve_keys, ReadCurve, ReportDraft, are_alike, begins_with, is_key}
use Rattle.nf_report_laws.proofs.Common.{with_current, Opened, begun, opened, comes_after, with_point, point_numbers, rate_word, with_rate, point_line}
use Rattle.nf_report_laws.proofs.Common.{trace_line, never_line, IsFractionPoint, AreFractionPoints, IsFractionOrNone, not_both, same_Ok, same_of_test}
use Rattle.nf_report_laws.proofs.Common.{not-false, every_append, flat_map-append}
use Rattle.nf_report_laws.proofs.Outcomes.{both_ok, no_err, where_true, where_false}
use Rattle.nf_report_laws.proofs.NumbersBack.{ArePrinted, numbers_are, rate_text, rate_is}
use Rattle.nf_report_laws.proofs.ReportShape.{lines_of_kind, curve_lines, IsReadPoints, IsReadTrace, IsOfKind, IsRead}
use Rattle.nf_report_laws.proofs.ReportSteps.{key_same, key_self, other_key}
use Rattle.nf_report_laws.proofs.CurvesBack.{InTime, curve_in_time, keys_of}

-- ---- times that rise
rises_on : (p : Point) (points : List Point) → InTime (Some p) points → TimesRise (p ∷ points)
rises_on p [] h = tt
rises_on p (q ∷ points) h = (less_of_test p.0 q.0 h.0, rises_on q points h.1)

in_time_more : (before : Option Point) (points : List Point) (p : Point) → InTime before points → comes_after (last_or before points) p.0 ≡ true → InTime before (points ++ p ∷ [])
in_time_more before [] p h t = (t, tt)
in_time_more before (q ∷ points) p h t = (h.0, in_time_more (Some q) points p h.1 t)

curve_of_times : (points : List Point) (p : Point) → InTime None (points ++ p ∷ []) → IsCurve (points ++ p ∷ [])
curve_of_times [] p h = (same_of_test p.0 0ℚ h.0, tt)
curve_of_times (q ∷ points) p h = (same_of_test q.0 0ℚ h.0, rises_on q (points ++ p ∷ []) h.1)

-- ---- a curve that is being read
abbrev pub Counts : Bool → ℕ → ℕ → Type 0
Counts true points rates = points ≡ rates
Counts false points rates = points ≡ suc rates

pub record IsOpenTrace (goes_on : Bool) (points : List Point) (rates : List ℚ) : Type 0 where
  pub curve : IsCurve points
  pub fractions : AreFractionPoints points
  pub rate_fractions : AllByRecursion IsFraction rates
  pub count : Counts goes_on (length points) (length rates)

-- by what the next line begins with
abbrev pub IsOpenKind : Kind → Name → Option (List (List ℕ)) → List Point → List ℚ → Type 0
IsOpenKind OfLabel name next points rates = IsReadPoints points × (rates ≡ [])
IsOpenKind OfNever name next points rates = ⊥
IsOpenKind OfInflow name next points rates = IsOpenTrace (begins_with (codes "inflow") name next) points rates
IsOpenKind OfOutflow name next points rates = IsOpenTrace (begins_with (codes "outflow") name next) points rates
IsOpenKind OfQueue name next points rates = IsReadPoints points × (rates ≡ [])

abbrev pub IsOpen : Option (List (List ℕ)) → Option ReadCurve → Type 0
IsOpen next None = Unit {0}
IsOpen next (Some c) = IsOpenKind c.key.kind c.key.name next c.points c.rates

trace_closes : (b : Bool) (points : List Point) (rates : List ℚ) → IsOpenTrace b points rates → b ≡ false → IsReadTrace (record { points = points; rates = rates })
trace_closes b points rates h e =
    record {
      curve = h.curve;
      points = h.fractions;
      rates = h.rate_fractions;
      count =
          subst (λ (b : Bool). Counts b (length points) (length rates)) e h.count;
    }

-- it is read where the next line is of another one
closes : (kind : Kind) (name : Name) (next : Option (List (List ℕ))) (points : List Point) (rates : List ℚ) → IsOpenKind kind name next points rates
    → begins_with (key_word kind) name next ≡ false → IsOfKind kind points rates
closes OfLabel name next points rates h e = h
closes OfNever name next points rates h e = absurd h
closes OfInflow name next points rates h e = trace_closes (begins_with (codes "inflow") name next) points rates h e
closes OfOutflow name next points rates h e = trace_closes (begins_with (codes "outflow") name next) points rates h e
closes OfQueue name next points rates h e = h

pub all_closed : (done : List ReadCurve) (current : Option ReadCurve) (next : Option (List (List ℕ))) → AllByRecursion IsRead done → IsOpen next current
    → ((c : ReadCurve) → current ≡ Some c → begins_with (key_word c.key.kind) c.key.name next ≡ false) → AllByRecursion IsRead (with_current done current)
all_closed done None next h o e = h
all_closed done (Some c) next h o e = every_append IsRead done (c ∷ []) h (closes c.key.kind c.key.name next c.points c.rates o (e c refl), tt)

-- ---- what is kept of a draft, as far as curves go
pub record AreKept (n : Named) (next : Option (List (List ℕ))) (done : List ReadCurve) (current : Option ReadCurve) (keys : List CurveKey) : Type 0 where
  pub in_order : keys_of (with_current done current) ++ keys ≡ curve_keys n
  pub read : AllByRecursion IsRead done
  pub open_ : IsOpen next current

-- ---- a line's curve
-- what was read of it before: a front of its points, each with a rate in a trace
pub record IsTraceFront (points : List Point) (rates : List ℚ) : Type 0 where
  pub in_time : InTime None points
  pub fractions : AreFractionPoints points
  pub rate_fractions : AllByRecursion IsFraction rates
  pub count : length points ≡ length rates

pub record IsPointsFront (points : List Point) (rates : List ℚ) : Type 0 where
  pub in_time : InTime None points
  pub fractions : AreFractionPoints points
  pub no_rates : rates ≡ []

abbrev pub IsFront : Kind → List Point → List ℚ → Type 0
IsFront OfLabel points rates = IsPointsFront points rates
IsFront OfNever points rates = ⊥
IsFront OfInflow points rates = IsTraceFront points rates
IsFront OfOutflow points rates = IsTraceFront points rates
IsFront OfQueue points rates = IsPointsFront points rates

abbrev HasPoints : Kind → Type 0
HasPoints OfNever = ⊥
HasPoints kind = Unit {0}

pub record IsOpened (n : Named) (kind : Kind) (name : Name) (done : List ReadCurve) (current : Option ReadCurve) (keys : List CurveKey) (o : Opened) : Type 0 where
  pub key : o.curve.key ≡ key_of kind name
  pub in_order : keys_of (o.done ++ o.curve ∷ []) ++ o.keys ≡ curve_keys n
  pub read : AllByRecursion IsRead o.done
  pub front : IsFront kind o.curve.points o.curve.rates
  pub lines : flat_map curve_lines (with_current done current) ≡ flat_map curve_lines (o.done ++ o.curve ∷ [])
  pub more : (current ≡ None) × (keys ≡ []) → ⊥

nothing_yet : (kind : Kind) → HasPoints kind → IsFront kind [] []
nothing_yet OfLabel h = record { in_time = tt; fractions = tt; no_rates = refl }
nothing_yet OfNever h = absurd h
nothing_yet OfInflow h = record { in_time = tt; fractions = tt; rate_fractions = tt; count = refl }
nothing_yet OfOutflow h = record { in_time = tt; fractions = tt; rate_fractions = tt; count = refl }
nothing_yet OfQueue h = record { in_time = tt; fractions = tt; no_rates = refl }

trace_so_far : (b : Bool) (points : List Point) (rates : List ℚ) → IsOpenTrace b points rates → b ≡ true → IsTraceFront points rates
trace_so_far b points rates h e =
    record {
      in_time = curve_in_time points h.curve;
      fractions = h.fractions;
      rate_fractions = h.rate_fractions;
      count =
          subst (λ (b : Bool). Counts b (length points) (length rates)) e h.count;
    }

so_far : (kind : Kind) (name : Name) (next : Option (List (List ℕ))) (points : List Point) (rates : List ℚ) → IsOpenKind kind name next points rates
    → begins_with (key_word kind) name next ≡ true → IsFront kind points rates
so_far OfLabel name next points rates h e = record { in_time = curve_in_time points h.0.0; fractions = h.0.1; no_rates = h.1 }
so_far OfNever name next points rates h e = h
so_far OfInflow name next points rates h e = trace_so_far (begins_with (codes "inflow") name next) points rates h e
so_far OfOutflow name next points rates h e = trace_so_far (begins_with (codes "outflow") name next) points rates h e
so_far OfQueue name next points rates h e = record { in_time = curve_in_time points h.0.0; fractions = h.0.1; no_rates = h.1 }

no_lines : (kind : Kind) (name : Name) → HasPoints kind → lines_of_kind kind name [] [] ≡ []
no_lines OfLabel name h = refl
no_lines OfNever name h = absurd h
no_lines OfInflow name h = refl
no_lines OfOutflow name h = refl
no_lines OfQueue name h = refl

-- the next curve begins
begun_is : (n : Named) (kind : Kind) (name : Name) (all : List ReadCurve) (keys : List CurveKey) (o : Opened) → begun all kind name keys ≡ Ok o
    → (o.curve ≡ record { key = key_of kind name; points = []; rates = [] }) × (o.done ≡ all) × (keys ≡ key_of kind name ∷ o.keys)
begun_is n kind name all [] o e = absurd (no_err P7 o e)
begun_is n kind name all (key ∷ keys) o e =
    let w = where_true (is_key kind name key) P7 (Ok (record { curve = record { key = key; points = []; rates = [] }; done = all; keys = keys })) o e in
    let same = same_Ok (record { curve = record { key = key; points = []; rates = [] }; done = all; keys = keys }) o w.1 in
    let k = key_same kind name key w.0 in (
      sym (ap (λ (o : Opened). o.curve) same) ∙ (λ i. record { key = k i; points = []; rates = [] }),
      sym (ap (λ (o : Opened). o.done) same),
      (λ i. k i ∷ ap (λ (o : Opened). o.keys) same i),
    )

begins_opened : (n : Named) (kind : Kind) (name : Name) (done : List ReadCurve) (current : Option ReadCurve) (keys : List CurveKey) (o : Opened)
    → HasPoints kind → keys_of (with_current done current) ++ keys ≡ curve_keys n
    → AllByRecursion IsRead (with_current done current) → begun (with_current done current) kind name keys ≡ Ok o → IsOpened n kind name done current keys o
begins_opened n kind name done current keys o some order read e =
    let all = with_current done current in
    let w = begun_is n kind name all keys o e in
    let empty : ReadCurve = record { key = key_of kind name; points = []; rates = [] } in
    record {
      key = ap (λ (c : ReadCurve). c.key) w.0;
      in_order = (λ i. keys_of (w.1 i ++ w.0 i ∷ []) ++ o.keys) ∙ ap (λ l. l ++ o.keys) (map-append (λ curve. curve.key) all (empty ∷ []))
          ∙ append_assoc (keys_of all) (key_of kind name ∷ []) o.keys
          ∙ ap (λ l. keys_of all ++ l) (sym w.2) ∙ order;
      read = subst (AllByRecursion IsRead) (sym w.1) read;
      front = subst (λ (c : ReadCurve). IsFront kind c.points c.rates) (sym w.0) (nothing_yet kind some);
      lines = sym ((λ i. flat_map curve_lines (w.1 i ++ w.0 i ∷ [])) ∙ flat_map-append curve_lines all (empty ∷ [])
          ∙ ap (λ l. flat_map curve_lines all ++ (l ++ [])) (no_lines kind name some) ∙ append-nil (flat_map curve_lines all));
      more = λ h. none (sym h.1 ∙ w.2);
    }
  where
    none : [] ≡ key_of kind name ∷ o.keys → ⊥
    none e = absurd (cc)

opened_is : (n : Named) (kind : Kind) (name : Name) (rest : List (List ℕ)) (draft : ReportDraft) (current : Option ReadCurve) (o : Opened) → HasPoints kind
    → AreKept n (Some (key_word kind ∷ name ∷ rest)) draft.done current draft.keys → opened draft kind name current ≡ Ok o → IsOpened n kind name draft.done current draft.keys o
opened_is n kind name rest draft None o some h e = begins_opened n kind name draft.done None draft.keys o some h.in_order h.read e
opened_is n kind name rest draft (Some c) o some h e = go (is_key kind name c.key) refl e
  where
    turned : is_key kind name c.key ≡ false → begins_with (key_word c.key.kind) c.key.name (Some (key_word kind ∷ name ∷ rest)) ≡ false
    turned f = other_key c.key.kind c.key.name (key_of kind name) (λ same. not_both (is_key kind name c.key)
        (subst (λ (k : CurveKey). is_key kind name k ≡ true) same (key_self kind name)) f)

    no : Some c ≡ None → ⊥
    no e = absurd (cc)

    go : (b : Bool) → is_key kind name c.key ≡ b → (if b then Ok (record { curve = c; done = draft.done; keys = draft.keys }) else begun
        (draft.done ++ c ∷ []) kind name draft.keys) ≡ Ok o
        → IsOpened n kind name draft.done (Some c) draft.keys o
    go true f g =
        let k = key_same kind name c.key f in
        subst (IsOpened n kind name draft.done (Some c) draft.keys) (same_Ok (record { curve = c; done = draft.done; keys = draft.keys }) o g) (record {
          key = k;
          in_order = h.in_order;
          read = h.read;
          front = so_far kind name (Some (key_word kind ∷ name ∷ rest)) c.points c.rates
              (subst (λ (key : CurveKey). IsOpenKind key.kind key.name (Some (key_word kind ∷ name ∷ rest)) c.points c.rates) k h.open_)
              (key_self kind name);
          lines = refl;
          more = λ w. no w.0;
        })
    go false f g = begins_opened n kind name draft.done (Some c) draft.keys o some h.in_order
        (all_closed draft.done (Some c) (Some (key_word kind ∷ name ∷ rest)) h.read h.open_
        (λ d same. subst (λ (c : ReadCurve). begins_with (key_word c.key.kind) c.key.name (Some (key_word kind ∷ name ∷ rest)) ≡ false) (some_same same)
        (turned f))) g
      where
        some_same : {d : ReadCurve} → ◌≡◌ {A = Option ReadCurve} (Some c) (Some d) → c ≡ d
        some_same e = cc

-- ---- what a line of a curve leaves
pub record LineKept (n : Named) (next : Option (List (List ℕ))) (words : List (List ℕ)) (draft left : ReportDraft) : Type 0 where
  pub done : List ReadCurve
  pub current : Option ReadCurve
  pub keys : List CurveKey
  pub is : left ≡ record draft { done = done; current = current; keys = keys }
  pub kept : AreKept n next done current keys
  pub lines : flat_map curve_lines (with_current draft.done draft.current) ++ words ∷ [] ≡ flat_map curve_lines (with_current done current)
  pub more : (draft.current ≡ None) × (draft.keys ≡ []) → ⊥

-- a point more
put_on : (n : Named) (next : Option (List (List ℕ))) (words : List (List ℕ)) (draft : ReportDraft) (kind : Kind) (name : Name) (o : Opened) (p : Point) (rates : List ℚ)
    → IsOpened n kind name draft.done draft.current draft.keys o → IsOpenKind kind name next (o.curve.points ++ p ∷ []) rates
    → lines_of_kind kind name (o.curve.points ++ p ∷ []) rates ≡ lines_of_kind kind name o.curve.points o.curve.rates ++ words ∷ []
    → LineKept n next words draft (with_point draft o p rates)
put_on n next words draft kind name o p rates h k e =
    let c : ReadCurve = record { key = o.curve.key; points = o.curve.points ++ p ∷ []; rates = rates } in
    let here : curve_lines o.curve ++ words ∷ [] ≡ curve_lines c =
    subst (λ (key : CurveKey). lines_of_kind key.kind key.name o.curve.points o.curve.rates ++ words ∷ [] ≡ lines_of_kind key.kind key.name
    (o.curve.points ++ p ∷ []) rates) (sym h.key) (sym e) in
    record {
      done = o.done;
      current = Some c;
      keys = o.keys;
      is = refl;
      kept = record {
        in_order = ap (λ l. l ++ o.keys) (map-append (λ curve. curve.key) o.done (c ∷ []) ∙ sym (map-append (λ curve. curve.key) o.done (o.curve ∷ []))) ∙ h.in_order;
        read = h.read;
        open_ = subst (λ (key : CurveKey). IsOpenKind key.kind key.name next (o.curve.points ++ p ∷ []) rates) (sym h.key) k;
      };
      lines = ap (λ l. l ++ words ∷ []) (h.lines ∙ flat_map-append curve_lines o.done (o.curve ∷ []))
          ∙ append_assoc (flat_map curve_lines o.done) (curve_lines o.curve ++ []) (words ∷ [])
          ∙ ap (λ l. flat_map curve_lines o.done ++ (l ++ words ∷ [])) (append-nil (curve_lines o.curve))
          ∙ ap (λ l. flat_map curve_lines o.done ++ l) (here ∙ sym (append-nil (curve_lines c)))
          ∙ sym (flat_map-append curve_lines o.done (c ∷ []));
      more = h.more;
    }

point_lines_more : (key name : List ℕ) (points : List Point) (p : Point)
    → point_lines key name (points ++ p ∷ []) ≡ point_lines key name points ++ (key ∷ name ∷ printed p.0 ∷ printed p.1 ∷ []) ∷ []
point_lines_more key name [] p = refl
point_lines_more key name (q ∷ points) p = ap (λ l. (key ∷ name ∷ printed q.0 ∷ printed q.1 ∷ []) ∷ l) (point_lines_more key name points p)

trace_lines_more : (key name : List ℕ) (points : List Point) (rates : List ℚ) (p : Point) (rate : Option ℚ) → length points ≡ length rates
    → trace_lines key name (points ++ p ∷ []) (with_rate rates rate) ≡ trace_lines key name points rates ++ (key ∷ name ∷ printed p.0 ∷ printed p.1 ∷ rate_text rate ∷ []) ∷ []
trace_lines_more key name [] [] p None e = refl
trace_lines_more key name [] [] p (Some rate) e = refl
trace_lines_more key name [] (r ∷ rates) p rate e = absurd (omega arith)
trace_lines_more key name (q ∷ points) [] p rate e = absurd (omega arith)
trace_lines_more key name (q ∷ points) (r ∷ rates) p None e =
    ap (λ l. (key ∷ name ∷ printed q.0 ∷ printed q.1 ∷ printed r ∷ []) ∷ l) (trace_lines_more key name points rates p None (omega arith))
trace_lines_more key name (q ∷ points) (r ∷ rates) p (Some rate) e =
    ap (λ l. (key ∷ name ∷ printed q.0 ∷ printed q.1 ∷ printed r ∷ []) ∷ l) (trace_lines_more key name points rates p (Some rate) (omega arith))

line_two : (key name time value : List ℕ) (p : Point) → ArePrinted time value p → (key ∷ name ∷ printed p.0 ∷ printed p.1 ∷ []) ≡ (key ∷ name ∷ time ∷ value ∷ [])
line_two key name time value p a = λ i. key ∷ name ∷ sym a.time_is i ∷ sym a.value_is i ∷ []

point_kept : (n : Named) (kind : Kind) → HasPoints kind → ((points : List Point) (rates : List ℚ) → IsFront kind points rates → IsPointsFront points rates)
    → ((name : Name) (next : Option (List (List ℕ))) (points : List Point) (rates : List ℚ) → IsReadPoints points → rates ≡ [] → IsOpenKind kind name next points rates)
    → ((name : Name) (points : List Point) (rates : List ℚ) → lines_of_kind kind name points rates ≡ point_lines (key_word kind) name points)
    → (draft : ReportDraft) (next : Option (List (List ℕ))) (words : List (List ℕ)) (left : ReportDraft) → AreKept n (Some (key_word kind ∷ words)) draft.done draft.current draft.keys
    → point_line kind draft words ≡ Ok left → LineKept n next (key_word kind ∷ words) draft left
point_kept n kind has front open_ lines draft next [] left h e = absurd (no_err P6 left e)
point_kept n kind has front open_ lines draft next (a ∷ []) left h e = absurd (no_err P6 left e)
point_kept n kind has front open_ lines draft next (a ∷ b ∷ []) left h e = absurd (no_err P6 left e)
point_kept n kind has front open_ lines draft next (name ∷ time ∷ value ∷ []) left h e =
    let w = both_ok (opened draft kind name draft.current) _ left e in
    let o = w.between in
    let v = both_ok (point_numbers time value) _ left w.next in
    let p = v.between in
    let a = numbers_are time value p v.first in
    let t = where_true (comes_after (last_or None o.curve.points) p.0) P11 (Ok (with_point draft o p o.curve.rates)) left v.next in
    let k = opened_is n kind name (time ∷ value ∷ []) draft draft.current o has h w.first in
    let f = front o.curve.points o.curve.rates k.front in
    subst (LineKept n next (key_word kind ∷ name ∷ time ∷ value ∷ []) draft) (same_Ok (with_point draft o p o.curve.rates) left t.1)
    (put_on n next (key_word kind ∷ name ∷ time ∷ value ∷ []) draft kind name o p o.curve.rates k
    (open_ name next (o.curve.points ++ p ∷ []) o.curve.rates
    (curve_of_times o.curve.points p (in_time_more None o.curve.points p f.in_time t.0), every_append IsFractionPoint o.curve.points (p ∷ []) f.fractions (a.fractions, tt)) f.no_rates)
    (lines name (o.curve.points ++ p ∷ []) o.curve.rates ∙ point_lines_more (key_word kind) name o.curve.points p
    ∙ (λ i. sym (lines name o.curve.points o.curve.rates) i ++ line_two (key_word kind) name time value p a i ∷ [])))
point_kept n kind has front open_ lines draft next (a ∷ b ∷ c ∷ d ∷ words) left h e = absurd (no_err P6 left e)

count_more : (points : List Point) (rates : List ℚ) (p : Point) (rate : Option ℚ) (b : Bool) → length points ≡ length rates
    → are_alike (is_none rate) b ≡ false → Counts b (length (points ++ p ∷ [])) (length (with_rate rates rate))
count_more points rates p None true c e = absurd (cc)
count_more points rates p None false c e = let long : length (points ++ p ∷ []) ≡ length points + 1 = length-append points (p ∷ []) in omega arith
count_more points rates p (Some rate) true c e =
    let long : length (points ++ p ∷ []) ≡ length points + 1 = length-append points (p ∷ []) in
    let rates_long : length (rates ++ rate ∷ []) ≡ length rates + 1 = length-append rates (rate ∷ []) in omega arith
count_more points rates p (Some rate) false c e = absurd (cc)

rates_more : (rates : List ℚ) (rate : Option ℚ) → AllByRecursion IsFraction rates → IsFractionOrNone rate → AllByRecursion IsFraction (with_rate rates rate)
rates_more rates None h k = h
rates_more rates (Some rate) h k = every_append IsFraction rates (rate ∷ []) h (k, tt)

trace_kept : (n : Named) (kind : Kind) → HasPoints kind → ((points : List Point) (rates : List ℚ) → IsFront kind points rates → IsTraceFront points rates)
    → ((name : Name) (next : Option (List (List ℕ))) (points : List Point) (rates : List ℚ)
    → IsOpenTrace (begins_with (key_word kind) name next) points rates → IsOpenKind kind name next points rates)
    → ((name : Name) (points : List Point) (rates : List ℚ) → lines_of_kind kind name points rates ≡ trace_lines (key_word kind) name points rates)
    → (draft : ReportDraft) (next : Option (List (List ℕ))) (words : List (List ℕ)) (left : ReportDraft) → AreKept n (Some (key_word kind ∷ words)) draft.done draft.current draft.keys
    → trace_line kind draft next words ≡ Ok left → LineKept n next (key_word kind ∷ words) draft left
trace_kept n kind has front open_ lines draft next [] left h e = absurd (no_err P6 left e)
trace_kept n kind has front open_ lines draft next (a ∷ []) left h e = absurd (no_err P6 left e)
trace_kept n kind has front open_ lines draft next (a ∷ b ∷ []) left h e = absurd (no_err P6 left e)
trace_kept n kind has front open_ lines draft next (a ∷ b ∷ c ∷ []) left h e = absurd (no_err P6 left e)
trace_kept n kind has front open_ lines draft next (name ∷ time ∷ value ∷ rate ∷ []) left h e =
    let w = both_ok (opened draft kind name draft.current) _ left e in
    let o = w.between in
    let v = both_ok (point_numbers time value) _ left w.next in
    let p = v.between in
    let a = numbers_are time value p v.first in
    let u = both_ok (rate_word rate) _ left v.next in
    let r = u.between in
    let b = rate_is rate r u.first in
    let t = where_false (not (comes_after (last_or None o.curve.points) p.0)) P11
    (if are_alike (is_none r) (begins_with (key_word kind) name next) then Err P12 else Ok (with_point draft o p (with_rate o.curve.rates r))) left
    u.next in
    let s = where_false (are_alike (is_none r) (begins_with (key_word kind) name next)) P12 (Ok (with_point draft o p (with_rate o.curve.rates r))) left t.1 in
    let k = opened_is n kind name (time ∷ value ∷ rate ∷ []) draft draft.current o has h w.first in
    let f = front o.curve.points o.curve.rates k.front in
    subst (LineKept n next (key_word kind ∷ name ∷ time ∷ value ∷ rate ∷ []) draft) (same_Ok (with_point draft o p (with_rate o.curve.rates r)) left s.1)
    (put_on n next (key_word kind ∷ name ∷ time ∷ value ∷ rate ∷ []) draft kind name o p (with_rate o.curve.rates r) k
    (open_ name next (o.curve.points ++ p ∷ []) (with_rate o.curve.rates r) (record {
      curve = curve_of_times o.curve.points p (in_time_more None o.curve.points p f.in_time (not-false (comes_after (last_or None o.curve.points) p.0) t.0));
      fractions = every_append IsFractionPoint o.curve.points (p ∷ []) f.fractions (a.fractions, tt);
      rate_fractions = rates_more o.curve.rates r f.rate_fractions b.1;
      count = count_more o.curve.points o.curve.rates p r (begins_with (key_word kind) name next) f.count s.0;
    }))
    (lines name (o.curve.points ++ p ∷ []) (with_rate o.curve.rates r) ∙ trace_lines_more (key_word kind) name o.curve.points o.curve.rates p r f.count
    ∙ (λ i. sym (lines name o.curve.points o.curve.rates) i ++ (key_word kind ∷ name ∷ sym a.time_is i ∷ sym a.value_is i ∷ sym b.0 i ∷ []) ∷ [])))
trace_kept n kind has front open_ lines draft next (a ∷ b ∷ c ∷ d ∷ f ∷ words) left h e = absurd (no_err P6 left e)

never_other : (kind : Kind) (other name : Name) (next : Option (List (List ℕ))) (points : List Point) (rates : List ℚ) → IsOpenKind kind other next points rates → begins_with (key_word kind) other (Some (codes "never" ∷ name ∷ [])) ≡ false
never_other OfLabel other name next points rates h = refl
never_other OfNever other name next points rates h = absurd h
never_other OfInflow other name next points rates h = refl
never_other OfOutflow other name next points rates h = refl
never_other OfQueue other name next points rates h = refl

never_kept : (n : Named) (draft : ReportDraft) (next : Option (List (List ℕ))) (words : List (List ℕ)) (left : ReportDraft) → AreKept n (Some (codes "never" ∷ words)) draft.done draft.current draft.keys
    → never_line draft words ≡ Ok left → LineKept n next (codes "never" ∷ words) draft left
never_kept n draft next [] left h e = absurd (no_err P6 left e)
never_kept n draft next (name ∷ []) left h e =
    let all = with_current draft.done draft.current in
    let w = both_ok (begun all OfNever name draft.keys) _ left e in
    let o = w.between in
    let k = begun_is n OfNever name all draft.keys o w.first in
    let c : ReadCurve = record { key = key_of OfNever name; points = []; rates = [] } in
    let here = Some (codes "never" ∷ name ∷ []) in
    let read = all_closed draft.done draft.current here h.read h.open_ (λ c same. never_other c.key.kind c.key.name name here c.points c.rates (subst (IsOpen here) same h.open_)) in
    record {
      done = all ++ c ∷ [];
      current = None;
      keys = o.keys;
      is = sym (same_Ok _ left w.next) ∙ (λ i. record draft { done = k.1 i ++ k.0 i ∷ []; current = None; keys = o.keys });
      kept = record {
        in_order = ap (λ l. l ++ o.keys) (map-append (λ curve. curve.key) all (c ∷ [])) ∙ append_assoc (keys_of all) (key_of OfNever name ∷ []) o.keys
            ∙ ap (λ l. keys_of all ++ l) (sym k.2) ∙ h.in_order;
        read = every_append IsRead all (c ∷ []) read ((refl, refl), tt);
        open_ = tt;
      };
      lines = sym (flat_map-append curve_lines all (c ∷ []));
      more = λ m. none (sym m.1 ∙ k.2);
    }
  where
    none : {key : CurveKey} {keys : List CurveKey} → [] ≡ key ∷ keys → ⊥
    none e = absurd (cc)
never_kept n draft next (a ∷ b ∷ words) left h e = absurd (no_err P6 left e)

-- any line of a curve
abbrev pub curve_line : Kind → ReportDraft → Option (List (List ℕ)) → List (List ℕ) → Result ReportDraft ReportRule
curve_line OfLabel draft next words = point_line OfLabel draft words
curve_line OfNever draft next words = never_line draft words
curve_line OfInflow draft next words = trace_line OfInflow draft next words
curve_line OfOutflow draft next words = trace_line OfOutflow draft next words
curve_line OfQueue draft next words = point_line OfQueue draft words

pub curve_kept : (n : Named) (kind : Kind) (draft : ReportDraft) (next : Option (List (List ℕ))) (words : List (List ℕ)) (left : ReportDraft)
    → AreKept n (Some (key_word kind ∷ words)) draft.done draft.current draft.keys → curve_line kind draft next words ≡ Ok left → LineKept n next (key_word kind ∷ words) draft left
curve_kept n OfLabel draft next words left h e =
    point_kept n OfLabel tt (λ points rates f. f) (λ name next points rates r s. (r, s)) (λ name points rates. refl) draft next words left h e
curve_kept n OfNever draft next words left h e = never_kept n draft next words left h e
curve_kept n OfInflow draft next words left h e = trace_kept n OfInflow tt (λ points rates f. f) (λ name next points rates f. f) (λ name points rates. refl) draft next words left h e
curve_kept n OfOutflow draft next words left h e = trace_kept n OfOutflow tt (λ points rates f. f) (λ name next points rates f. f) (λ name points rates. refl) draft next words left h e
curve_kept n OfQueue draft next words left h e =
    point_kept n OfQueue tt (λ points rates f. f) (λ name next points rates r s. (r, s)) (λ name points rates. refl) draft next words left h e
