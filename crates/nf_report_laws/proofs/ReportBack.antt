-- The text of a report is read as that report.
use Rattle.std.proofs.Common.{◌≡◌, ◌↔◌, ⊎_elim, ℕ, zero, suc, ◌<◌, Bool, true, false, not, ◌||◌, if◌then◌else◌, List, [], ◌∷◌, ◌++◌, length, map, flat_map}
use Rattle.std.proofs.Common.{Option, Some, None, is_none, slice_get, Ok, Err, refl, sym, ap, subst, ◌∙◌, codes, arith, lit<}
use Rattle.nf_report_laws.proofs.Common.{AllByRecursion, list_all, ℚ, 0ℚ, ◌≤ℚ◌, lt_ℚ, test_of_not_less, ◌>>=◌, read_lines, line_of_words, State, Tight}
use Rattle.nf_report_laws.proofs.Common.{Full, Zero, Link, IsLink, Pattern, HasState, digits_of, Cause, cause_words, Name, is_name, Named, names_of}
use Rattle.nf_report_laws.proofs.Common.{IsFraction, IsNamed, Report, report_lines, report_text, bytes_eq-self, every_append, is_same, P4, P8, P10, or_rule}
use Rattle.nf_report_laws.proofs.Common.{OfLabel, OfNever, CurveKey, key_of, curve_keys, AtHorizon, AtReached, AtCause, InBody, AtEnd, ReadCurve}
use Rattle.nf_report_laws.proofs.Common.{ReportDraft, empty_report, are_alike, with_current, state_of_link, capacity_of, capacity_at, IsCount}
use Rattle.nf_report_laws.proofs.Common.{IsReadableCause, and_parts, test_of_same, same_of_test, distinct_left, all_left, report_draft, report_of_draft}
use Rattle.nf_report_laws.proofs.Common.{if_at_end, report_by_bytes, entry}
use Rattle.nf_net_laws.proofs.ReadBack.{plain_lines_from, no_fault_from}
use Rattle.nf_report_def.specs.ReportFile.{report_in}
use Rattle.nf_report_laws.proofs.NumbersBack.{number_back}
use Rattle.nf_report_laws.proofs.CausesBack.{cause_back}
use Rattle.nf_report_laws.proofs.ReportShape.{curve_lines, curves_from, AreRead, state_lines_of, end_lines, head_lines, lines_by_curves, gives_flow}
use Rattle.nf_report_laws.proofs.ReportSteps.{next_of, Reads, reads-append, lines_read}
use Rattle.nf_report_laws.proofs.CurvesBack.{Adjacent, in_body, curves_read}
use Rattle.nf_report_laws.proofs.KeysBack.{link_keys, keys_from, keys_adjacent, curves_are, curves_allowed}
use Rattle.nf_report_laws.proofs.StatesBack.{in_states, states_read, states_behind}
use Rattle.nf_report_laws.proofs.PlainReport.{IsShortLine, are_words, are_short, curves_short, states_short, end_short, head_short}
use Rattle.nf_rational_laws.proofs.Chains.{≤ℚ_trans}

-- ---- tests

stops_where : (stop : Option (Cause ℚ)) (reached horizon : ℚ) → (stop ≡ None) ↔ (reached ≡ horizon) → are_alike (is_none stop) (is_same reached horizon) ≡ true
stops_where None reached horizon h = test_of_same reached horizon (h.0 refl)
stops_where (Some cause) reached horizon h = go (is_same reached horizon) refl
  where
    no : Some cause ≡ None → ⊥
    no e = absurd (cc)

    go : (b : Bool) → is_same reached horizon ≡ b → not b ≡ true
    go true e = absurd (no (h.1 (same_of_test reached horizon e)))
    go false e = refl

-- ---- the head
abbrev pub after_head : Named → ℚ → ℚ → Option (Cause ℚ) → ReportDraft
after_head n horizon reached stop = record (empty_report n) { stage = InBody; horizon = horizon; reached = reached; stop = stop }

pub head_read : (n : Named) (horizon reached : ℚ) (stop : Option (Cause ℚ)) (rest : List (List (List ℕ))) (last : ReportDraft) → IsFraction horizon
    → IsFraction reached → IsReadableCause stop
    → 0ℚ ≤ℚ horizon → 0ℚ ≤ℚ reached → reached ≤ℚ horizon → (stop ≡ None) ↔ (reached ≡ horizon)
    → Reads n (after_head n horizon reached stop) rest None last → Reads n (empty_report n) (head_lines n.version horizon reached (cause_words stop) rest) None last
head_read n horizon reached stop rest last h r c p q s t more = (
  record (empty_report n) { stage = AtHorizon },
  ap (λ (b : Bool). if b then Ok (record (empty_report n) { stage = AtHorizon }) else Err P4) (bytes_eq-self (digits_of n.version)),
  (
    record (empty_report n) { stage = AtReached; horizon = horizon },
    ap (λ o. or_rule P8 o >>= λ horizon. if lt_ℚ horizon 0ℚ then Err P10 else Ok (record (empty_report n) { stage = AtReached; horizon = horizon })) (number_back horizon h)
        ∙ ap (λ (b : Bool). if b then Err P10 else Ok (record (empty_report n) { stage = AtReached; horizon = horizon })) (test_of_not_less horizon 0ℚ p),
    (
      record (empty_report n) { stage = AtCause; horizon = horizon; reached = reached },
      ap (λ o. or_rule P8 o >>= λ reached. if lt_ℚ reached 0ℚ || lt_ℚ horizon reached then Err P10 else Ok
          (record (empty_report n) { stage = AtCause; horizon = horizon; reached = reached })) (number_back reached r)
          ∙ (λ i. if test_of_not_less reached 0ℚ q i || test_of_not_less horizon reached s i then Err P10 else Ok
          (record (empty_report n) { stage = AtCause; horizon = horizon; reached = reached })),
      (
        after_head n horizon reached stop,
        ap (λ o. o >>= λ stop. if are_alike (is_none stop) (is_same reached horizon) then Ok (after_head n horizon reached stop) else Err P10) (cause_back stop c)
            ∙ ap (λ (b : Bool). if b then Ok (after_head n horizon reached stop) else Err P10) (stops_where stop reached horizon t),
        more,
      ),
    ),
  ),
)

-- ---- names
names_are : (names : List Name) → list_all is_name names ≡ true → AllByRecursion (λ name. is_name name ≡ true) names
names_are [] h = tt
names_are (name ∷ names) h = let w = and_parts (is_name name) (list_all is_name names) h in (w.0, names_are names w.1)

all-right : {A : Type 0} (P : A → Type 0) (xs ys : List A) → AllByRecursion P (xs ++ ys) → AllByRecursion P ys
all-right P [] ys h = h
all-right P (x ∷ xs) ys h = all-right P xs ys h.1

all-map : {A B : Type 0} (P : B → Type 0) (f : A → B) (xs : List A) → AllByRecursion (λ x. P (f x)) xs → AllByRecursion P (map f xs)
all-map P f [] h = tt
all-map P f (x ∷ xs) h = (h.0, all-map P f xs h.1)

all-of-map : {A B : Type 0} (P : B → Type 0) (f : A → B) (xs : List A) → AllByRecursion P (map f xs) → AllByRecursion (λ x. P (f x)) xs
all-of-map P f [] h = tt
all-of-map P f (x ∷ xs) h = (h.0, all-of-map P f xs h.1)

-- a key by its name
abbrev IsNamedKey : CurveKey → Type 0
IsNamedKey key = is_name key.name ≡ true

link_keys_named : (names : List Name) → AllByRecursion (λ name. is_name name ≡ true) names → AllByRecursion IsNamedKey (link_keys names)
link_keys_named [] h = tt
link_keys_named (name ∷ names) h = (h.0, (h.0, (h.0, link_keys_named names h.1)))

keys_named : (n : Named) → IsNamed n → AllByRecursion IsNamedKey (curve_keys n)
keys_named n h =
    let nodes = names_are (n.node_names ++ n.idle_nodes) h.node_names.each in
    let links = all_left (λ name. is_name name ≡ true) n.link_names (names_of n.idle_links) (names_are (n.link_names ++ names_of n.idle_links) h.link_names.each) in
    every_append IsNamedKey (map (key_of OfLabel) n.node_names ++ map (key_of OfNever) n.idle_nodes) (link_keys n.link_names)
    (every_append IsNamedKey (map (key_of OfLabel) n.node_names) (map (key_of OfNever) n.idle_nodes)
    (all-map IsNamedKey (key_of OfLabel) n.node_names (all_left (λ name. is_name name ≡ true) n.node_names n.idle_nodes nodes))
    (all-map IsNamedKey (key_of OfNever) n.idle_nodes (all-right (λ name. is_name name ≡ true) n.node_names n.idle_nodes nodes)))
    (link_keys_named n.link_names links)

-- ---- states

state_within : (pattern : Pattern) (e : ℕ) (state : State) → HasState pattern e state → e < length pattern
state_within [] e state h = absurd (cc)
state_within (s ∷ pattern) zero state h = omega arith
state_within (s ∷ pattern) (suc e) state h = let k : e < length pattern = state_within pattern e state h in omega arith

allowed_state : (links : List Link) (pattern : Pattern) (e : ℕ) (state : State) → length pattern ≡ length links
    → ((e : ℕ) (link : Link) → slice_get links e ≡ Some link → link.capacity ≡ None → ¬ HasState pattern e Full) → HasState pattern e state
    → state_of_link (capacity_at links e) state ≡ Ok state
allowed_state links pattern e state c no_full h =
    let within : e < length pattern = state_within pattern e state h in
    let w = entry links e (omega arith) in
    go w.0 w.1 (capacity_at links e) refl state h
  where
    any : (capacity : Option ℚ) → state_of_link capacity Tight ≡ Ok Tight
    any None = refl
    any (Some q) = refl

    zero_any : (capacity : Option ℚ) → state_of_link capacity Zero ≡ Ok Zero
    zero_any None = refl
    zero_any (Some q) = refl

    capacity_is : (link : Link) → slice_get links e ≡ Some link → capacity_at links e ≡ link.capacity
    capacity_is link is = ap capacity_of is

    go : (link : Link) → slice_get links e ≡ Some link → (capacity : Option ℚ) → capacity_at links e ≡ capacity → (state : State) → HasState pattern e state
        → state_of_link capacity state ≡ Ok state
    go link is capacity f Tight h = any capacity
    go link is capacity f Zero h = zero_any capacity
    go link is None f Full h = absurd (no_full e link is (sym (capacity_is link is) ∙ f) h)
    go link is (Some q) f Full h = refl

-- ---- the report
-- what holds of a report that was read, but for its flow
pub record IsFit (n : Named) (report : Report) : Type 0 where
  pub flow : AreRead n report.flow
  pub horizon : IsFraction report.horizon
  pub reached : IsFraction report.flow.reached
  pub stop : IsReadableCause report.stop
  pub starts : 0ℚ ≤ℚ report.flow.reached
  pub ends : report.flow.reached ≤ℚ report.horizon
  pub stops : (report.stop ≡ None) ↔ (report.flow.reached ≡ report.horizon)
  pub states : length report.last ≡ length n.net.links
  pub no_full : (e : ℕ) (link : Link) → IsLink n.net e link → link.capacity ≡ None → ¬ HasState report.last e Full

module _ (n : Named) (report : Report) (named : IsNamed n) (h : IsFit n report) where
  abbrev curves : List ReadCurve
  curves = curves_from n report.flow

  abbrev all_lines : List (List (List ℕ))
  all_lines = head_lines n.version report.horizon report.flow.reached (cause_words report.stop) (flat_map curve_lines curves ++ state_lines_of n.link_names report.last ++ end_lines)

  lines_are : report_lines n report ≡ all_lines
  lines_are = lines_by_curves n report h.flow named.numbered.nodes named.numbered.links h.states

  abbrev start : ReportDraft
  start = after_head n report.horizon report.flow.reached report.stop

  same_count : length report.last ≡ length n.link_names
  same_count = h.states ∙ sym named.numbered.links

  pub record IsReadUp (last : ReportDraft) : Type 0 where
    pub k : ℕ
    pub is : last ≡ record {
      stage = AtEnd;
      horizon = report.horizon;
      reached = report.flow.reached;
      stop = report.stop;
      done = curves;
      current =
          None;
      keys = [];
      next_state = k;
      states = report.last;
    }
    pub reads : Reads n (empty_report n) all_lines None last

  read_up : (last : ReportDraft) × IsReadUp last
  read_up =
      let end_line = Some (codes "end" ∷ []) in
      let c = curves_read n start curves [] None None (next_of (state_lines_of n.link_names report.last) end_line) (curves_are n report.flow h.flow)
      (curves_allowed n report.flow named) (λ key d. tt)
      (subst (Adjacent None) (sym (keys_from n report.flow h.flow)) (keys_adjacent n named)) (states_behind n.link_names report.last) in
      let s = states_read n report.horizon report.flow.reached report.stop [] n.link_names [] report.last c.0 c.1 0 end_line refl
      (distinct_left n.link_names (names_of n.idle_links) named.link_names.distinct) refl same_count (omega arith)
      (λ e state has. allowed_state n.net.links report.last e state h.states h.no_full has) in
      let last : ReportDraft = record {
        stage = AtEnd;
        horizon = report.horizon;
        reached = report.flow.reached;
        stop = report.stop;
        done =
            with_current s.last_done s.last;
        current = None;
        keys = [];
        next_state = s.last_state;
        states = report.last;
      } in
      let middle = in_states n report.horizon report.flow.reached report.stop s.last_done s.last s.last_state report.last in
      let curves_lines = reads-append n start (in_body n start c.0 c.1 []) middle (flat_map curve_lines curves) (state_lines_of n.link_names report.last) end_line
      (subst (λ (keys : List CurveKey). Reads n (in_body n start [] None keys) (flat_map curve_lines curves)
      (next_of (state_lines_of n.link_names report.last) end_line) (in_body n start c.0 c.1 [])) (keys_from n report.flow h.flow) c.3) s.reads in
      let body = reads-append n start middle last (flat_map curve_lines curves ++ state_lines_of n.link_names report.last) end_lines None curves_lines (last, refl, refl) in (
        last,
        record {
          k = s.last_state;
          is = ap (λ (done : List ReadCurve). record {
            stage = AtEnd;
            horizon = report.horizon;
            reached = report.flow.reached;
            stop = report.stop;
            done =
                done;
            current = None;
            keys = [];
            next_state = s.last_state;
            states = report.last;
          }) (s.same ∙ c.2);
          reads = head_read n report.horizon report.flow.reached report.stop
              (flat_map curve_lines curves ++ state_lines_of n.link_names report.last ++ end_lines) last h.horizon h.reached h.stop
              (≤ℚ_trans 0ℚ report.flow.reached report.horizon h.starts h.ends) h.starts h.ends h.stops body;
        },
      )

  lines_short : AllByRecursion IsShortLine all_lines
  lines_short =
      head_short n.version report.horizon report.flow.reached report.stop (flat_map curve_lines curves ++ state_lines_of n.link_names
      report.last ++ end_lines) version h.horizon h.reached h.stop
      (every_append IsShortLine (flat_map curve_lines curves ++ state_lines_of n.link_names report.last) end_lines
      (every_append IsShortLine (flat_map curve_lines curves) (state_lines_of n.link_names report.last)
      (curves_short curves (curves_are n report.flow h.flow) (all-of-map IsNamedKey (λ curve. curve.key) curves
      (subst (AllByRecursion IsNamedKey) (sym (keys_from n report.flow h.flow)) (keys_named n named))))
      (states_short n.link_names report.last (all_left (λ name. is_name name ≡ true) n.link_names (names_of n.idle_links)
      (names_are (n.link_names ++ names_of n.idle_links) named.link_names.each))))
      end_short)
    where
      version : IsCount n.version
      version = ⊎_elim (λ (e : n.version ≡ 1). subst IsCount (sym e) (lit< tt)) (λ (e : n.version ≡ 2). subst IsCount (sym e) (lit< tt)) named.version

  draft_is_report : (k : ℕ) → report_of_draft (record {
    stage = AtEnd;
    horizon = report.horizon;
    reached = report.flow.reached;
    stop = report.stop;
    done =
        curves;
    current = None;
    keys = [];
    next_state = k;
    states = report.last;
  }) ≡ report
  draft_is_report k =
      let g = gives_flow n report.flow h.flow in
      λ i. record {
        horizon = report.horizon;
        flow = record {
          reached = report.flow.reached;
          labels = g.labels i;
          inflows = g.inflows i;
          outflows =
              g.outflows i;
          queues = g.queues i;
        };
        stop = report.stop;
        last = report.last;
      }

  text_of_lines : report_in n (flat_map line_of_words all_lines) ≡ Ok report
  unfolding report_in
  text_of_lines =
      let w = read_up in
      let read = lines_read n (empty_report n) w.0 1 all_lines w.1.reads in
      ap (λ fault. report_by_bytes fault (report_draft n (read_lines (flat_map line_of_words all_lines)) >>= λ draft. if_at_end draft.stage draft))
      (no_fault_from 1 all_lines (are_words all_lines lines_short) (are_short all_lines lines_short))
      ∙ ap (λ lines. report_draft n lines >>= λ draft. if_at_end draft.stage draft) (plain_lines_from 1 all_lines (are_words all_lines lines_short))
      ∙ ap (λ r. r >>= λ draft. if_at_end draft.stage draft) read
      ∙ ap (λ draft. if_at_end draft.stage draft) w.1.is
      ∙ ap (λ report. Ok report) (draft_is_report w.1.k)

  pub report_back : report_in n (report_text n report) ≡ Ok report
  report_back = ap (λ lines. report_in n (flat_map line_of_words lines)) lines_are ∙ text_of_lines
