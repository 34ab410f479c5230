-- The lines of a report after its head.
use Rattle.std.proofs.Common.{◌≡◌, ◌≢◌, ℕ, suc, ◌<◌, ◌≤◌, Bool, true, false, not, ◌||◌, cond, nat_lt, List, [], ◌∷◌, length, drop, Option, Some, None}
use Rattle.std.proofs.Common.{Result, Ok, Err, refl, sym, ap, ◌∙◌, arith, is_none, is_some, if◌then◌else◌, set}
use Rattle.nf_report_lines.proofs.Common.{le-ltb, State, last_or, ℚ, ◌>>=◌, Named, ReportRule, P5, P6, P7, P8, P9, P11, P12, P13, or_rule, printed_number}
use Rattle.nf_report_lines.proofs.Common.{Kind, LineKind, ReportDraft, Opened, key_word, opened, comes_after, rate_word, with_rate, with_point, are_alike}
use Rattle.nf_report_lines.proofs.Common.{begins_with, point_line, trace_line, line_kind, line_of_kind, body_line, has_all, with_current, state_in}
use Rattle.nf_report_lines.proofs.Common.{state_of_link, state_line, capacity_at, word_at, seen_line_kind, state_read}
use Rattle.nf_report_lines.specs.declared.body.LineKind as code
use Rattle.nf_side.specs.NameAt.{IsNameAt}
use Rattle.nf_report_lines.proofs.WordCounts.{first_word}

-- ---- a line by its first word
module _ (n : Named) (draft : ReportDraft) (next : Option (List (List ℕ))) (words : List (List ℕ)) (some : 0 < length words)
    (version : ℕ) (ev : version ≡ n.version) (word : List ℕ) (ew : word ≡ word_at words 0) where
  by_kind : (kind : Option LineKind) → kind ≡ line_kind version word → body_line n draft next words ≡ (or_rule P5 kind >>= λ kind. line_of_kind n draft next (drop 1 words) kind)
  by_kind kind e =
      ap (body_line n draft next) (first_word words some)
      ∙ ap (λ (k : Option LineKind). or_rule P5 k >>= λ kind. line_of_kind n draft next (drop 1 words) kind) (sym (e ∙ (λ i. line_kind (ev i) (ew i))))

  pub of_kind : (kind this : code.LineKind) → Some (seen_line_kind kind) ≡ line_kind version word → kind ≡ this
      → body_line n draft next words ≡ line_of_kind n draft next (drop 1 words) (seen_line_kind this)
  of_kind kind this e is = by_kind (Some (seen_line_kind this)) (sym (ap (λ (k : code.LineKind). Some (seen_line_kind k)) is) ∙ e)

  pub of_none : None ≡ line_kind version word → body_line n draft next words ≡ Err P5
  of_none e = by_kind None e

-- ---- the lines of points
pub point_count : (draft : ReportDraft) (kind : Kind) (words : List (List ℕ)) → 0 < length words → length words ≢ 4 → point_line kind draft (drop 1 words) ≡ Err P6
point_count draft kind [] lt ne = absurd (omega arith)
point_count draft kind (key ∷ []) lt ne = refl
point_count draft kind (key ∷ a ∷ []) lt ne = refl
point_count draft kind (key ∷ a ∷ b ∷ []) lt ne = refl
point_count draft kind (key ∷ a ∷ b ∷ c ∷ []) lt ne = absurd (ne refl)
point_count draft kind (key ∷ a ∷ b ∷ c ∷ d ∷ words) lt ne = refl

pub trace_count : (draft : ReportDraft) (kind : Kind) (next : Option (List (List ℕ))) (words : List (List ℕ)) → 0 < length words → length words ≢ 5
    → trace_line kind draft next (drop 1 words) ≡ Err P6
trace_count draft kind next [] lt ne = absurd (omega arith)
trace_count draft kind next (key ∷ []) lt ne = refl
trace_count draft kind next (key ∷ a ∷ []) lt ne = refl
trace_count draft kind next (key ∷ a ∷ b ∷ []) lt ne = refl
trace_count draft kind next (key ∷ a ∷ b ∷ c ∷ []) lt ne = refl
trace_count draft kind next (key ∷ a ∷ b ∷ c ∷ d ∷ []) lt ne = absurd (ne refl)
trace_count draft kind next (key ∷ a ∷ b ∷ c ∷ d ∷ e ∷ words) lt ne = refl

module _ (draft : ReportDraft) (kind : Kind) (words : List (List ℕ)) (name time value : List ℕ) where
  abbrev by_parts : Result Opened ReportRule → Result ℚ ReportRule → Result ℚ ReportRule → Result ReportDraft ReportRule
  by_parts o t y = o >>= λ o. (t >>= λ t. y >>= λ y. Ok (t, y)) >>= λ p. if comes_after (last_or None o.curve.points) p.0 then Ok (with_point draft o p o.curve.rates) else Err P11

  module _ (is : drop 1 words ≡ name ∷ time ∷ value ∷ []) (o : Result Opened ReportRule) (eo : opened draft kind name draft.current ≡ o) where
    pub point_by : (t y : Result ℚ ReportRule) → or_rule P8 (printed_number time) ≡ t → or_rule P8 (printed_number value) ≡ y → point_line kind draft (drop 1 words) ≡ by_parts o t y
    point_by t y et ey = ap (point_line kind draft) is ∙ (λ i. by_parts (eo i) (et i) (ey i))

  pub point_out : (is : drop 1 words ≡ name ∷ time ∷ value ∷ []) (o : Opened) → opened draft kind name draft.current ≡ Ok o
      → (t y : ℚ) → or_rule P8 (printed_number time) ≡ Ok t → or_rule P8 (printed_number value) ≡ Ok y → (b : Bool) → comes_after (last_or None o.curve.points) t ≡ b
      → point_line kind draft (drop 1 words) ≡ (if b then Ok (with_point draft o (t, y) o.curve.rates) else Err P11)
  point_out is o eo t y et ey b e =
      point_by is (Ok o) eo (Ok t) (Ok y) et ey ∙ ap (λ (b : Bool). if b then Ok (with_point draft o (t, y) o.curve.rates) else Err P11) e

  module _ (next : Option (List (List ℕ))) (rate : List ℕ) (is : drop 1 words ≡ name ∷ time ∷ value ∷ rate ∷ []) where
    abbrev by_rated : Result Opened ReportRule → Result ℚ ReportRule → Result ℚ ReportRule → Result ReportDraft ReportRule
    by_rated o t y = o >>= λ o. (t >>= λ t. y >>= λ y. Ok (t, y)) >>= λ p. rate_word rate >>= λ r.
        cond (not (comes_after (last_or None o.curve.points) p.0)) (Err P11)
        (cond (are_alike (is_none r) (begins_with (key_word kind) name next)) (Err P12)
        (Ok (with_point draft o p (with_rate o.curve.rates r))))

    pub rated_by : (o : Result Opened ReportRule) → opened draft kind name draft.current ≡ o → (t y : Result ℚ ReportRule)
        → or_rule P8 (printed_number time) ≡ t → or_rule P8 (printed_number value) ≡ y
        → trace_line kind draft next (drop 1 words) ≡ by_rated o t y
    rated_by o eo t y et ey = ap (trace_line kind draft next) is ∙ (λ i. by_rated (eo i) (et i) (ey i))

module _ (draft : ReportDraft) (kind : Kind) (next : Option (List (List ℕ))) (words : List (List ℕ)) (name time value rate : List ℕ) (is : drop 1 words ≡ name ∷ time ∷ value ∷ rate ∷ [])
    (o : Opened) (eo : opened draft kind name draft.current ≡ Ok o) (t y : ℚ) (et : or_rule P8 (printed_number time) ≡ Ok t) (ey : or_rule P8 (printed_number value) ≡ Ok y) where
  abbrev by_tests : Option ℚ → Bool → Bool → Result ReportDraft ReportRule
  by_tests r a b = cond (not a) (Err P11) (cond b (Err P12) (Ok (with_point draft o (t, y) (with_rate o.curve.rates r))))

  abbrev by_rate : Result (Option ℚ) ReportRule → Result ReportDraft ReportRule
  by_rate read = read >>= λ r. by_tests r (comes_after (last_or None o.curve.points) t) (are_alike (is_none r) (begins_with (key_word kind) name next))

  trace_is : trace_line kind draft next (drop 1 words) ≡ by_rate (rate_word rate)
  trace_is =
      ap (trace_line kind draft next) is
      ∙ (λ i. eo i >>= λ o. (et i >>= λ t. (ey i >>= λ y. Ok (t, y))) >>= λ p. rate_word rate >>= λ r.
      cond (not (comes_after (last_or None o.curve.points) p.0)) (Err P11)
      (cond (are_alike (is_none r) (begins_with (key_word kind) name next)) (Err P12)
      (Ok (with_point draft o p (with_rate o.curve.rates r)))))

  pub rate_wrong : (rule : ReportRule) → rate_word rate ≡ Err rule → trace_line kind draft next (drop 1 words) ≡ Err rule
  rate_wrong rule e = trace_is ∙ ap by_rate e

  pub rated_out : (r : Option ℚ) (a b : Bool) → rate_word rate ≡ Ok r → comes_after (last_or None o.curve.points) t ≡ a
      → are_alike (is_none r) (begins_with (key_word kind) name next) ≡ b
      → trace_line kind draft next (drop 1 words) ≡ by_tests r a b
  rated_out r a b e ea eb = trace_is ∙ ap by_rate e ∙ (λ i. by_tests r (ea i) (eb i))

pub none_is : (o : Option ℚ) (b : Bool) → is_some o ≡ not b → is_none o ≡ b
none_is None true e = refl
none_is None false e = absurd (cc)
none_is (Some q) true e = absurd (cc)
none_is (Some q) false e = refl

-- ---- the state of a link
goes_wrong : {A B C : Type 0} (read : Result A ReportRule) (f : A → Result B ReportRule) (g : B → Result C ReportRule) (rule : ReportRule)
    → (read >>= f) ≡ Err rule → (read >>= λ x. f x >>= g) ≡ Err rule
goes_wrong (Ok x) f g rule e = ap (λ r. r >>= g) e
goes_wrong (Err other) f g rule e = let same : other ≡ rule = cc in ap (λ (r : ReportRule). Err r) same

goes_on : {A B C : Type 0} (read : Result A ReportRule) (f : A → Result B ReportRule) (g : B → Result C ReportRule) (x : B) → (read >>= f) ≡ Ok x → (read >>= λ x. f x >>= g) ≡ g x
goes_on (Ok y) f g x e = ap (λ r. r >>= g) e
goes_on (Err other) f g x e = absurd (cc)

pub state_count : (n : Named) (draft : ReportDraft) (words : List (List ℕ)) → 0 < length words → length words ≢ 3 → state_line n draft (drop 1 words) ≡ Err P6
state_count n draft [] lt ne = absurd (omega arith)
state_count n draft (key ∷ []) lt ne = refl
state_count n draft (key ∷ a ∷ []) lt ne = refl
state_count n draft (key ∷ a ∷ b ∷ []) lt ne = absurd (ne refl)
state_count n draft (key ∷ a ∷ b ∷ c ∷ words) lt ne = refl

module _ (n : Named) (draft : ReportDraft) (words : List (List ℕ)) (name word : List ℕ) (is : drop 1 words ≡ name ∷ word ∷ []) (link : ℕ)
    (named : IsNameAt n.link_names name link) (late : draft.next_state ≤ link) where
  abbrev put : ℕ → State → Result ReportDraft ReportRule
  put e state = if has_all draft.keys
      then Ok (record draft { done = with_current draft.done draft.current; current = None; next_state = suc e; states = set draft.states e (Some state) })
      else Err P13

  abbrev by_link : Bool → ℕ → Bool → Result ReportDraft ReportRule
  by_link there e early = cond (not there || early) (Err P7) (or_rule P9 (state_in word) >>= λ word. (state_of_link (capacity_at n.net.links e) word >>= put e))

  pub state_wrong : (rule : ReportRule) → state_read (capacity_at n.net.links link) word ≡ Err rule → state_line n draft (drop 1 words) ≡ Err rule
  state_wrong rule e =
      ap (state_line n draft) is
      ∙ (λ i. by_link (named.there i) (named.is_place i) (nat_lt (named.is_place i) draft.next_state))
      ∙ ap (by_link true link) (le-ltb link draft.next_state late)
      ∙ goes_wrong (or_rule P9 (state_in word)) (state_of_link (capacity_at n.net.links link)) (put link) rule e

  pub state_out : (state : State) (b : Bool) → state_read (capacity_at n.net.links link) word ≡ Ok state → has_all draft.keys ≡ b
      → state_line n draft (drop 1 words) ≡ (if b then Ok (record draft {
        done = with_current draft.done draft.current;
        current = None;
        next_state =
            suc link;
        states = set draft.states link (Some state);
      }) else Err P13)
  state_out state b e eb =
      ap (state_line n draft) is
      ∙ (λ i. by_link (named.there i) (named.is_place i) (nat_lt (named.is_place i) draft.next_state))
      ∙ ap (by_link true link) (le-ltb link draft.next_state late)
      ∙ goes_on (or_rule P9 (state_in word)) (state_of_link (capacity_at n.net.links link)) (put link) state e
      ∙ ap (λ (b : Bool). if b then Ok (record draft {
        done = with_current draft.done draft.current;
        current = None;
        next_state = suc link;
        states =
            set draft.states link (Some state);
      }) else Err P13) eb
