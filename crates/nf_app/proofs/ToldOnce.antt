-- Words have at most one answer with the known bytes of their files.
use Rattle.std.proofs.Common.{◌≡◌, ℕ, List, length, replicate, refl, sym, ap, subst, ◌∙◌, inl, inr, Option, Some, None, Result, Ok, Err, map}
use Rattle.nf_app.proofs.Common.{none-some, ℚ, 0ℚ, ◌<ℚ◌, <ℚ_irrefl, not_both_ℚ, IsOk-not_Err, one_Err, Ok_not_Err, passes_Q, placed, Slack, Verdict, Passed}
use Rattle.nf_app.proofs.Common.{PassedAt, same_value, Network, IsNetwork, hops, rate_at, label, sets_at, Pattern, AreStartLabels, Named, Broken, Report}
use Rattle.nf_app.proofs.Common.{IsNamed, reads_at_most_once, slack_list, first_label_curve, first_curves, Standing, Bounds, one_start, one_run, one_report}
use Rattle.nf_app.proofs.Common.{ReportBroken, report_in, report_kept, HasNoWay, bounds_of, Settles, thin_list, FlowsBroken, GivenFlows, flows_in}
use Rattle.nf_app.proofs.Common.{one_forever, Refused, Stands, resume_list, Wanted, Request, Solve, SolveForever, Show, Load, Check, Quick, Gen, Settle}
use Rattle.nf_app.proofs.Common.{Resume, Routes, request_of, Arrival, ProgramAnswer, Solved, SolvedForever, Quickest, Generated, Settled, Passes, Malformed}
use Rattle.nf_app.proofs.Common.{network_file, other_of, generated_by, bounds_to, usual_budgets, flow_list, departs_list, arrival_of, IsUnbounded}
use Rattle.nf_app.proofs.Common.{AreSettled, AreNotThin, PassesFirst, at_slack, at_test, at_settling, IsResultOf, Telling, Texts, second_bytes, IsToldText}
use Rattle.nf_app.proofs.Common.{AreTold, NetworkIs, TextsGive, too_long, malformed, answered, IsToldAnswer, no_request, by_texts}
use Rattle.nf_net_laws.proofs.AcceptedNamed.{accepted_named}
use Rattle.nf_quick_def.specs.Quick.{Quick as QuickFlow, FoundQuick, Budget}
use Rattle.nf_quick_def.specs.Quick as quick
use Rattle.nf_complete_laws.proofs.OneSettling.{one_settling}
use Rattle.nf_complete_laws.proofs.OnePattern.{one_pattern}
use Rattle.nf_resume_def.specs.Resuming as resuming
use Rattle.nf_phase_run_laws.proofs.OneResumed.{one_resumed}
use Rattle.nf_app.proofs.Gives.{Arrives, DepartsGive, FlowGives, QuickGives, StartGives, SettleGives, RestGives, ResumeGives, Gives}
use Rattle.nf_app.proofs.ToldResult.{result_so}
use Rattle.nf_app.proofs.Starting.{start_sets_good}
use Rattle.nf_app.proofs.OneValue.{same_some}

-- ---- the arrival beside a quickest flow
one_arrival : (net : Network) (departs : Option ℚ) (arrival other : Arrival) → Arrives net departs arrival → Arrives net departs other → arrival ≡ other
one_arrival net None arrival other h k = h ∙ sym k
one_arrival net (Some departs) arrival other h k =
    h.2 ∙ ap (λ (r : Report). arrival_of r.stop (label r.flow net.sink departs)) (one_report passes_Q net (bounds_of departs usual_budgets) h.0 k.0 h.1 k.1) ∙ sym k.2

one_departing : (n : Named) (flow : QuickFlow) (r : Result (Option ℚ) (PassedAt ℚ)) (a b : ProgramAnswer) → DepartsGive n flow r a → DepartsGive n flow r b → a ≡ b
one_departing n flow (Ok departs) a b g h = g.2 ∙ ap (Quickest n flow) (one_arrival n.net departs g.0 h.0 g.1 h.1) ∙ sym h.2
one_departing n flow (Err at) a b g h = g ∙ sym h

one_flow : (n : Named) (amount : ℚ) (augments : ℕ) (r : Result quick.QuickOutcome (PassedAt ℚ)) (a b : ProgramAnswer) → FlowGives n amount augments r a
    → FlowGives n amount augments r b → a ≡ b
one_flow n amount augments (Ok (FoundQuick flow)) a b g h = one_departing n flow (departs_list n.net amount) a b g h
one_flow n amount augments (Ok (Budget walks)) a b g h = g ∙ sym h
one_flow n amount augments (Err at) a b g h = g ∙ sym h

unbounded_or_not : (net : Network) (amount : ℚ) → IsUnbounded net amount → HasNoWay net amount → ⊥
unbounded_or_not net amount unbounded (inl zero) = <ℚ_irrefl 0ℚ (subst (λ (q : ℚ). 0ℚ <ℚ q) zero unbounded.0)
unbounded_or_not net amount unbounded (inr limited) = limited unbounded.1.0 unbounded.1.1

one_quick : (n : Named) (amount : ℚ) (augments : ℕ) (a b : ProgramAnswer) → QuickGives n amount augments a → QuickGives n amount augments b → a ≡ b
one_quick n amount augments a b (inl g) (inl h) = g.1 ∙ sym h.1
one_quick n amount augments a b (inl g) (inr h) = absurd (unbounded_or_not n.net amount g.0 h.0)
one_quick n amount augments a b (inr g) (inl h) = absurd (unbounded_or_not n.net amount h.0 g.0)
one_quick n amount augments a b (inr g) (inr h) = one_flow n amount augments (flow_list n.net amount augments) a b g.1 h.1

-- ---- settled flows
module _ (net : Network) where
  -- a run that begins with these labels
  abbrev beginning : List ℚ → Standing
  beginning labels = record {
    time = 0ℚ;
    labels = labels;
    label_curves = map first_label_curve labels;
    link_curves = map (first_curves labels) net.links;
    made = 0;
    last = replicate (length net.links) None;
  }

  one_start_label : (labels others : List ℚ) → AreStartLabels net labels → AreStartLabels net others → labels ≡ others
  one_start_label labels others h k = ap (λ (s : Standing). s.labels) (one_start net (beginning labels) (beginning others)
      (record { time = refl; labels = h; label_curves = refl; link_curves = refl; made = refl; last = refl })
      (record { time = refl; labels = k; label_curves = refl; link_curves = refl; made = refl; last = refl }))

  module _ (labels : List ℚ) (given : GivenFlows) (good : IsNetwork net) where
    one_settled : (r s : Result (List ℚ) (Passed ℚ)) → Settles passes_Q net (sets_at net labels) given.slopes given.flows r
        → Settles passes_Q net (sets_at net labels) given.slopes given.flows s → r ≡ s
    one_settled r s h k = one_settling passes_Q net (sets_at net labels) given.slopes given.flows r s good h k

    settled_or_passes : (pattern : Pattern) (flows : List ℚ) (at : PassedAt ℚ) → AreSettled net labels given pattern flows → PassesFirst net labels given at → ⊥
    settled_or_passes pattern flows _ s (at_slack p e) = IsOk-not_Err (slack_list passes_Q (hops net) labels) p s.slacks e
    settled_or_passes pattern flows _ s (at_test p fit e) = IsOk-not_Err (thin_list passes_Q net (sets_at net labels) (rate_at net 0ℚ) given.flows given.slopes) p s.test e
    settled_or_passes pattern flows _ s (at_settling p slacks test thin k) = Ok_not_Err (Ok flows) flows p refl (one_settled (Ok flows) (Err p) s.computed k)

    not_thin_or_passes : (at : PassedAt ℚ) → AreNotThin net labels given → PassesFirst net labels given at → ⊥
    not_thin_or_passes _ s (at_slack p e) = IsOk-not_Err (slack_list passes_Q (hops net) labels) p s.slacks e
    not_thin_or_passes _ s (at_test p fit e) = IsOk-not_Err (thin_list passes_Q net (sets_at net labels) (rate_at net 0ℚ) given.flows given.slopes) p s.test e
    not_thin_or_passes _ s (at_settling p slacks test thin k) = s.not_thin thin

    one_passing : (at other : PassedAt ℚ) → PassesFirst net labels given at → PassesFirst net labels given other → at ≡ other
    one_passing _ _ (at_slack p e) (at_slack q f) = ap (λ (x : Passed ℚ). placed Slack x) (one_Err (slack_list passes_Q (hops net) labels) p q e f)
    one_passing _ _ (at_slack p e) (at_test q fit f) = absurd (IsOk-not_Err (slack_list passes_Q (hops net) labels) p fit e)
    one_passing _ _ (at_slack p e) (at_settling q fit test thin k) = absurd (IsOk-not_Err (slack_list passes_Q (hops net) labels) p fit e)
    one_passing _ _ (at_test p fit e) (at_slack q f) = absurd (IsOk-not_Err (slack_list passes_Q (hops net) labels) q fit f)
    one_passing _ _ (at_test p fit e) (at_test q fit' f) =
        ap (λ (x : Passed ℚ). placed Verdict x) (one_Err (thin_list passes_Q net (sets_at net labels) (rate_at net 0ℚ) given.flows given.slopes) p q e f)
    one_passing _ _ (at_test p fit e) (at_settling q fit' test thin k) =
        absurd (IsOk-not_Err (thin_list passes_Q net (sets_at net labels) (rate_at net 0ℚ) given.flows given.slopes) p test e)
    one_passing _ _ (at_settling p fit test thin k) (at_slack q f) = absurd (IsOk-not_Err (slack_list passes_Q (hops net) labels) q fit f)
    one_passing _ _ (at_settling p fit test thin k) (at_test q fit' f) =
        absurd (IsOk-not_Err (thin_list passes_Q net (sets_at net labels) (rate_at net 0ℚ) given.flows given.slopes) q test f)
    one_passing _ _ (at_settling p fit test thin k) (at_settling q fit' test' thin' l) =
        ap (λ (x : Passed ℚ). placed Verdict x) (one_Err (Err p) p q refl (one_settled (Err p) (Err q) k l))

    module _ (are : AreStartLabels net labels) where
      one_flows : (pattern other : Pattern) (flows more : List ℚ) → AreSettled net labels given pattern flows → AreSettled net labels given other more → flows ≡ more
      one_flows pattern other flows more s t = same_value (Ok flows) flows more refl (one_settled (Ok flows) (Ok more) s.computed t.computed)

      one_settled_pattern : (pattern other : Pattern) (flows : List ℚ) → AreSettled net labels given pattern flows → AreSettled net labels given other flows → pattern ≡ other
      one_settled_pattern pattern other flows s t =
          one_pattern net (sets_at net labels) (rate_at net 0ℚ) flows given.slopes (start_sets_good net good labels are) s.still_thin pattern other s.pattern_is t.pattern_is

one_at_start : (n : Named) (labels : List ℚ) (given : GivenFlows) → IsNetwork n.net → AreStartLabels n.net labels → (a b : ProgramAnswer)
    → StartGives n labels given a → StartGives n labels given b → a ≡ b
one_at_start n labels given good are a b (inl g) (inl h) =
    let flows : g.1 ≡ h.1 = one_flows n.net labels given good are g.0 h.0 g.1 h.1 g.3 h.3 in
    let pattern : g.0 ≡ h.0 = one_settled_pattern n.net labels given good are g.0 h.0 h.1 (subst (λ (f : List ℚ). AreSettled n.net labels given g.0 f) flows g.3) h.3 in
    g.2 ∙ ap (λ (p : Pattern). Settled n p g.1) pattern ∙ ap (Settled n h.0) flows ∙ sym h.2
one_at_start n labels given good are a b (inl g) (inr (inl h)) = absurd (h.1.not_thin g.3.thin)
one_at_start n labels given good are a b (inl g) (inr (inr h)) = absurd (settled_or_passes n.net labels given good g.0 g.1 h.0 g.3 h.2)
one_at_start n labels given good are a b (inr (inl g)) (inl h) = absurd (g.1.not_thin h.3.thin)
one_at_start n labels given good are a b (inr (inl g)) (inr (inl h)) = g.0 ∙ sym h.0
one_at_start n labels given good are a b (inr (inl g)) (inr (inr h)) = absurd (not_thin_or_passes n.net labels given good h.0 g.1 h.2)
one_at_start n labels given good are a b (inr (inr g)) (inl h) = absurd (settled_or_passes n.net labels given good h.0 h.1 g.0 h.3 g.2)
one_at_start n labels given good are a b (inr (inr g)) (inr (inl h)) = absurd (not_thin_or_passes n.net labels given good g.0 h.1 g.2)
one_at_start n labels given good are a b (inr (inr g)) (inr (inr h)) =
    g.1 ∙ ap (λ (at : PassedAt ℚ). Passes at) (one_passing n.net labels given good g.0 h.0 g.2 h.2) ∙ sym h.1

one_settle : (n : Named) → IsNetwork n.net → (r : Result GivenFlows FlowsBroken) (a b : ProgramAnswer) → SettleGives n r a → SettleGives n r b → a ≡ b
one_settle n good (Ok given) a b g h =
    let labels : g.0 ≡ h.0 = one_start_label n.net g.0 h.0 g.1 h.1 in
    one_at_start n h.0 given good h.1 a b (subst (λ (l : List ℚ). StartGives n l given a) labels g.2) h.2
one_settle n good (Err broken) a b g h = g ∙ sym h

-- ---- a report that is gone on from
one_rest : (n : Named) (bounds : Bounds) (old : Report) → length old.last ≡ length n.net.links
    → (r : Result resuming.Restart (PassedAt ℚ)) (a b : ProgramAnswer) → RestGives n bounds old r a
    → RestGives n bounds old r b → a ≡ b
one_rest n bounds old states (Ok (Stands first)) a b g h = g.3 ∙ ap (Solved n) (one_resumed passes_Q n.net bounds old g.0 h.0 g.1 h.1 states g.2 h.2).1 ∙ sym h.3
one_rest n bounds old states (Ok (Refused verdict)) a b g h = g ∙ sym h
one_rest n bounds old states (Err at) a b g h = g ∙ sym h

one_resume : (n : Named) (bounds : Bounds) (text : List ℕ) → IsNamed n → (r : Result Report ReportBroken) → report_in n text ≡ r → (a b : ProgramAnswer) → ResumeGives n bounds r a
    → ResumeGives n bounds r b → a ≡ b
one_resume n bounds text named (Ok old) e a b (inl g) (inl h) = g.1 ∙ sym h.1
one_resume n bounds text named (Ok old) e a b (inl g) (inr h) = absurd (not_both_ℚ _ _ g.0 h.0)
one_resume n bounds text named (Ok old) e a b (inr g) (inl h) = absurd (not_both_ℚ _ _ h.0 g.0)
one_resume n bounds text named (Ok old) e a b (inr g) (inr h) =
    one_rest n bounds old (report_kept n text old named e).0.states (resume_list passes_Q n.net old) a b g.1 h.1
one_resume n bounds text named (Err broken) e a b g h = g ∙ sym h

-- ---- what a request gives with its network
one_gives : (n : Named) (text : List ℕ) (request : Request) → (generated_by request ≡ None → IsNamed n) → (a b : ProgramAnswer) → Gives n text request a → Gives n text request b → a ≡ b
one_gives n text (Solve file horizon phases patterns) named a b g h =
    g.2 ∙ ap (Solved n) (one_report passes_Q n.net (bounds_to horizon phases patterns) g.0 h.0 g.1 h.1) ∙ sym h.2
one_gives n text (SolveForever file phases patterns) named a b g h = g.2 ∙ ap (SolvedForever n) (one_forever passes_Q n.net phases patterns g.0 h.0 g.1 h.1) ∙ sym h.2
one_gives n text (Show file) named a b g h = g ∙ sym h
one_gives n text (Load file loads horizon) named a b g h = g ∙ sym h
one_gives n text (Check file report) named a b g h = g ∙ sym h
one_gives n text (Quick file amount augments) named a b g h = one_quick n amount augments a b g h
one_gives n text (Gen number rungs horizon phases patterns) named a b g h =
    let bounds = bounds_to horizon phases patterns in
    g.2 ∙ ap (λ (s : Standing). Generated number rungs n s.made g.0) (one_run passes_Q n.net bounds g.1.last h.1.last g.1.stop h.1.stop g.1.run h.1.run).0
    ∙ ap (Generated number rungs n h.1.last.made) (one_report passes_Q n.net bounds g.0 h.0 g.1 h.1) ∙ sym h.2
one_gives n text (Settle file flows) named a b g h = one_settle n (named refl).network (flows_in n text) a b g h
one_gives n text (Resume file report horizon phases patterns) named a b g h =
    one_resume n (bounds_to horizon phases patterns) text (named refl) (report_in n text) refl a b g h
one_gives n text (Routes file routes horizon) named a b g h = g ∙ sym h

-- ---- with the texts of its files
one_result : (n : Named) (text : List ℕ) (request : Request) → (generated_by request ≡ None → IsNamed n) → (a b : ProgramAnswer)
    → IsResultOf n text request a → IsResultOf n text request b → a ≡ b
one_result n text request named a b g h = one_gives n text request named a b (result_so n text a request g) (result_so n text b request h)

pub one_network : (made : Option Named) (text : Option (List ℕ)) (r s : Result Named Broken) → NetworkIs made text r → NetworkIs made text s → r ≡ s
one_network (Some n) text r s h k = h ∙ sym k
one_network None (Some text) r s h k = reads_at_most_once text r s h k
one_network None None r s h k = absurd h

named_in : (made : Option Named) (text : Option (List ℕ)) (n : Named) → NetworkIs made text (Ok n) → made ≡ None → IsNamed n
named_in (Some m) text n h e = absurd (none-some m (sym e))
named_in None (Some text) n h e = accepted_named text n h
named_in None None n h e = absurd h

module _ (request : Request) (texts : Texts) where
  one_broken : (broken other : Broken) → NetworkIs (generated_by request) texts.network (Err broken) → NetworkIs (generated_by request) texts.network (Err other) → broken ≡ other
  one_broken broken other h k =
      let read : Result Named Broken = Err broken in
      one_Err read broken other refl (one_network (generated_by request) texts.network read (Err other) h k)

  broken_or_not : (broken : Broken) (n : Named) → NetworkIs (generated_by request) texts.network (Err broken) → NetworkIs (generated_by request) texts.network (Ok n) → ⊥
  broken_or_not broken n h k =
      let read : Result Named Broken = Err broken in
      Ok_not_Err read n broken (one_network (generated_by request) texts.network read (Ok n) h k) refl

  one_answered : (n m : Named) (a b : ProgramAnswer) → NetworkIs (generated_by request) texts.network (Ok n) → NetworkIs (generated_by request) texts.network (Ok m)
      → IsResultOf n (second_bytes texts) request a → IsResultOf m (second_bytes texts) request b → a ≡ b
  one_answered n m a b h k g i =
      let read : Result Named Broken = Ok n in
      let same : n ≡ m = same_value read n m refl (one_network (generated_by request) texts.network read (Ok m) h k) in
      one_result m (second_bytes texts) request (named_in (generated_by request) texts.network m k) a b (subst (λ (x : Named). IsResultOf x (second_bytes texts) request a) same g) i

  one_of_texts : (a b : ProgramAnswer) → TextsGive request texts a → TextsGive request texts b → a ≡ b
  one_of_texts _ _ (too_long f) (too_long g) = refl
  one_of_texts _ _ (too_long f) (malformed other fit k) = absurd (f fit)
  one_of_texts _ _ (too_long f) (answered m b fit k h) = absurd (f fit)
  one_of_texts _ _ (malformed broken fit k) (too_long g) = absurd (g fit)
  one_of_texts _ _ (malformed broken fit k) (malformed other fit' l) = ap Malformed (one_broken broken other k l)
  one_of_texts _ _ (malformed broken fit k) (answered m b fit' l h) = absurd (broken_or_not broken m k l)
  one_of_texts _ _ (answered n a fit k g) (too_long h) = absurd (h fit)
  one_of_texts _ _ (answered n a fit k g) (malformed other fit' l) = absurd (broken_or_not other n l k)
  one_of_texts _ _ (answered n a fit k g) (answered m b fit' l h) = one_answered n m a b k l g h

-- ---- with what is known
one_text : (telling : Telling) (wanted : Option Wanted) (a b : Option (List ℕ)) → IsToldText telling wanted a → IsToldText telling wanted b → a ≡ b
one_text telling None a b h k = h ∙ sym k
one_text telling (Some file) (Some a) (Some b) h k = sym h ∙ k
one_text telling (Some file) (Some a) None h k = absurd k
one_text telling (Some file) None b h k = absurd h

same_texts : (a b : Texts) → a.network ≡ b.network → a.second ≡ b.second → a ≡ b
same_texts a b h k = ap (λ (t : Option (List ℕ)). record { network = t; second = a.second }) h ∙ ap (λ (t : Option (List ℕ)). record { network = b.network; second = t }) k

one_told_texts : (telling : Telling) (request : Request) (a b : Texts) → AreTold telling request a → AreTold telling request b → a ≡ b
one_told_texts telling request a b h k =
    same_texts a b (one_text telling (network_file request) a.network b.network h.network k.network) (one_text telling (other_of request) a.second b.second h.second k.second)

pub one_told : (words : List (List ℕ)) (telling : Telling) (a b : ProgramAnswer) → IsToldAnswer words telling a → IsToldAnswer words telling b → a ≡ b
one_told words telling _ _ (no_request e) (no_request f) = refl
one_told words telling _ _ (no_request e) (by_texts request texts b asks told g) = absurd (none-some request (sym e ∙ asks))
one_told words telling _ _ (by_texts request texts a asks told g) (no_request e) = absurd (none-some request (sym e ∙ asks))
one_told words telling _ _ (by_texts request texts a asks told g) (by_texts other others b asks' told' h) =
    let same : request ≡ other = same_some (request_of words) request other asks asks' in
    let there : AreTold telling other texts = subst (λ (q : Request). AreTold telling q texts) same told in
    let texts_same : texts ≡ others = one_told_texts telling other texts others there told' in
    one_of_texts other others a b (subst (λ (t : Texts). TextsGive other t a) texts_same (subst (λ (q : Request). TextsGive q texts a) same g)) h
