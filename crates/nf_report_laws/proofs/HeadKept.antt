-- The parser state after the four lines of the head.
use Rattle.std.proofs.Common.{◌≡◌, ◌↔◌, ℕ, Bool, true, false, not, ◌||◌, List, [], ◌∷◌, Option, Some, None, is_none, Ok, refl, sym, ap, subst, ◌∙◌, codes}
use Rattle.std.proofs.Common.{bytes_eq}
use Rattle.nf_report_laws.proofs.Common.{ℚ, 0ℚ, ◌≤ℚ◌, lt_ℚ, not_less_of_test, digits_of, printed, Cause, cause_words, Named, IsFraction, same_names}
use Rattle.nf_report_laws.proofs.Common.{is_same, P4, P5, P6, P8, P10, printed_number, cause_in, AtVersion, AtHorizon, AtReached, AtCause, InBody, AtEnd}
use Rattle.nf_report_laws.proofs.Common.{ReportDraft, empty_report, are_alike, is_version, after_keyword, number_alone, horizon_line, reached_line}
use Rattle.nf_report_laws.proofs.Common.{cause_line, IsReadableCause, and_parts, or_parts, same_Ok, test_of_same, same_of_test}
use Rattle.nf_report_laws.proofs.Outcomes.{both_ok, no_err, where_true, where_false, or_ok}
use Rattle.nf_report_laws.proofs.NumbersBack.{number_is}
use Rattle.nf_report_laws.proofs.CausesBack.{cause_is}
use Rattle.nf_report_laws.proofs.ReportShape.{head_lines}
use Rattle.nf_report_laws.proofs.ReportSteps.{next_of, Reads}
use Rattle.nf_report_laws.proofs.ReportBack.{after_head}
use Rattle.nf_report_laws.proofs.BodyKept.{in_stage}

-- ---- the words of each line
version_is : (n : Named) (words : List (List ℕ)) → is_version n words ≡ true → words ≡ codes "report" ∷ digits_of n.version ∷ []
version_is n [] e = absurd (cc)
version_is n (key ∷ []) e = absurd (cc)
version_is n (key ∷ version ∷ []) e =
    let w = and_parts (bytes_eq key (codes "report")) (bytes_eq version (digits_of n.version)) e in
    λ i. same_names key (codes "report") w.0 i ∷ same_names version (digits_of n.version) w.1 i ∷ []
version_is n (key ∷ version ∷ more ∷ words) e = absurd (cc)

behind_is : (key : List ℕ) (words rest : List (List ℕ)) → after_keyword key words ≡ Ok rest → words ≡ key ∷ rest
behind_is key [] rest e = absurd (no_err P5 rest e)
behind_is key (word ∷ words) rest e =
    let w = where_true (bytes_eq word key) P5 (Ok words) rest e in
    λ i. same_names word key w.0 i ∷ same_Ok words rest w.1 i

alone_is : (words : List (List ℕ)) (q : ℚ) → number_alone words ≡ Ok q → (words ≡ printed q ∷ []) × IsFraction q
alone_is [] q e = absurd (no_err P6 q e)
alone_is (word ∷ []) q e = let k = number_is word q (or_ok P8 (printed_number word) q e) in (ap (λ word. word ∷ []) k.0, k.1)
alone_is (word ∷ more ∷ words) q e = absurd (no_err P6 q e)

record HorizonIs (draft : ReportDraft) (words : List (List ℕ)) (next : ReportDraft) : Type 0 where
  pub horizon : ℚ
  pub words_are : words ≡ codes "horizon" ∷ printed horizon ∷ []
  pub fraction : IsFraction horizon
  pub is : next ≡ record draft { stage = AtReached; horizon = horizon }

horizon_is : (draft : ReportDraft) (words : List (List ℕ)) (next : ReportDraft) → horizon_line draft words ≡ Ok next → HorizonIs draft words next
horizon_is draft words next e =
    let w = both_ok (after_keyword (codes "horizon") words) _ next e in
    let v = both_ok (number_alone w.between) _ next w.next in
    let t = where_false (lt_ℚ v.between 0ℚ) P10 _ next v.next in
    let k = alone_is w.between v.between v.first in
    record { horizon = v.between; words_are = behind_is (codes "horizon") words w.between w.first ∙ ap (λ rest. codes "horizon" ∷ rest) k.0; fraction = k.1; is = sym (same_Ok _ next t.1) }

record ReachedIs (draft : ReportDraft) (words : List (List ℕ)) (next : ReportDraft) : Type 0 where
  pub reached : ℚ
  pub words_are : words ≡ codes "reached" ∷ printed reached ∷ []
  pub fraction : IsFraction reached
  pub starts : 0ℚ ≤ℚ reached
  pub ends : reached ≤ℚ draft.horizon
  pub is : next ≡ record draft { stage = AtCause; reached = reached }

reached_is : (draft : ReportDraft) (words : List (List ℕ)) (next : ReportDraft) → reached_line draft words ≡ Ok next → ReachedIs draft words next
reached_is draft words next e =
    let w = both_ok (after_keyword (codes "reached") words) _ next e in
    let v = both_ok (number_alone w.between) _ next w.next in
    let t = where_false (lt_ℚ v.between 0ℚ || lt_ℚ draft.horizon v.between) P10 _ next v.next in
    let s = or_parts (lt_ℚ v.between 0ℚ) (lt_ℚ draft.horizon v.between) t.0 in
    let k = alone_is w.between v.between v.first in
    record {
      reached = v.between;
      words_are = behind_is (codes "reached") words w.between w.first ∙ ap (λ rest. codes "reached" ∷ rest) k.0;
      fraction = k.1;
      starts = not_less_of_test v.between 0ℚ s.0;
      ends = not_less_of_test draft.horizon v.between s.1;
      is = sym (same_Ok _ next t.1);
    }

stop_is : (stop : Option (Cause ℚ)) (reached horizon : ℚ) → are_alike (is_none stop) (is_same reached horizon) ≡ true → (stop ≡ None) ↔ (reached ≡ horizon)
stop_is None reached horizon e = (λ _. same_of_test reached horizon e, λ _. refl)
stop_is (Some cause) reached horizon e = (λ none. absurd (cc), λ same. absurd (no (is_same reached horizon) e (test_of_same reached horizon same)))
  where
    no : (b : Bool) → not b ≡ true → b ≡ true → ⊥
    no true e f = absurd (cc)
    no false e f = absurd (cc)

record CauseIs (draft : ReportDraft) (words : List (List ℕ)) (next : ReportDraft) : Type 0 where
  pub stop : Option (Cause ℚ)
  pub words_are : words ≡ codes "cause" ∷ cause_words stop
  pub readable : IsReadableCause stop
  pub stops : (stop ≡ None) ↔ (draft.reached ≡ draft.horizon)
  pub is : next ≡ record draft { stage = InBody; stop = stop }

cause_line_is : (draft : ReportDraft) (words : List (List ℕ)) (next : ReportDraft) → cause_line draft words ≡ Ok next → CauseIs draft words next
cause_line_is draft words next e =
    let w = both_ok (after_keyword (codes "cause") words) _ next e in
    let v = both_ok (cause_in w.between) _ next w.next in
    let t = where_true (are_alike (is_none v.between) (is_same draft.reached draft.horizon)) P10 _ next v.next in
    let k = cause_is w.between v.between v.first in
    record {
      stop = v.between;
      words_are = behind_is (codes "cause") words w.between w.first ∙ ap (λ rest. codes "cause" ∷ rest) k.0;
      readable = k.1;
      stops = stop_is v.between draft.reached draft.horizon t.0;
      is = sym (same_Ok _ next t.1);
    }

-- ---- the head
pub record HeadIs (n : Named) (lines : List (List (List ℕ))) (last : ReportDraft) : Type 0 where
  pub horizon : ℚ
  pub reached : ℚ
  pub stop : Option (Cause ℚ)
  pub rest : List (List (List ℕ))
  pub lines_are : lines ≡ head_lines n.version horizon reached (cause_words stop) rest
  pub horizon_fraction : IsFraction horizon
  pub reached_fraction : IsFraction reached
  pub readable : IsReadableCause stop
  pub starts : 0ℚ ≤ℚ reached
  pub ends : reached ≤ℚ horizon
  pub stops : (stop ≡ None) ↔ (reached ≡ horizon)
  pub reads : Reads n (after_head n horizon reached stop) rest None last

-- where the lines end too early
no_end : (n : Named) (draft last : ReportDraft) → (draft.stage ≡ AtEnd → ⊥) → draft ≡ last → last.stage ≡ AtEnd → ⊥
no_end n draft last h e t = h (ap (λ d. d.stage) e ∙ t)

pub head_is : (n : Named) (last : ReportDraft) (lines : List (List (List ℕ))) → last.stage ≡ AtEnd → Reads n (empty_report n) lines None last → HeadIs n lines last
head_is n last [] t r = absurd (no_end n (empty_report n) last (λ e. absurd (cc)) r t)
head_is n last (l1 ∷ rest1) t r =
    let e1 = in_stage n (empty_report n) (next_of rest1 None) l1 r.0 AtVersion refl r.1 in
    let w = where_true (is_version n l1) P4 (Ok (record (empty_report n) { stage = AtHorizon })) r.0 e1 in
    second rest1 (subst (λ (d : ReportDraft). Reads n d rest1 None last) (sym (same_Ok (record (empty_report n) { stage = AtHorizon }) r.0 w.1)) r.2) (version_is n l1 w.0)
  where
    fourth : (horizon reached : ℚ) (l2 l3 : List (List ℕ)) (rest : List (List (List ℕ))) → IsFraction horizon → IsFraction reached → 0ℚ ≤ℚ reached → reached ≤ℚ horizon
        → Reads n (record (empty_report n) { stage = AtCause; horizon = horizon; reached = reached }) rest None last
        → l1 ≡ codes "report" ∷ digits_of n.version ∷ [] → l2 ≡ codes "horizon" ∷ printed horizon ∷ [] → l3 ≡ codes "reached" ∷ printed reached ∷ [] → HeadIs n (l1 ∷ l2 ∷ l3 ∷ rest) last
    fourth horizon reached l2 l3 [] f g s e r w1 w2 w3 = absurd (no_end n (record (empty_report n) { stage = AtCause; horizon = horizon; reached = reached }) last (λ e. absurd (cc)) r t)
    fourth horizon reached l2 l3 (l4 ∷ rest) f g s e r w1 w2 w3 =
        let d = record (empty_report n) { stage = AtCause; horizon = horizon; reached = reached } in
        let k = cause_line_is d l4 r.0 (in_stage n d (next_of rest None) l4 r.0 AtCause refl r.1) in
        record {
          horizon = horizon;
          reached = reached;
          stop = k.stop;
          rest = rest;
          lines_are = (λ i. w1 i ∷ w2 i ∷ w3 i ∷ k.words_are i ∷ rest);
          horizon_fraction = f;
          reached_fraction = g;
          readable = k.readable;
          starts = s;
          ends = e;
          stops = k.stops;
          reads = subst (λ (d : ReportDraft). Reads n d rest None last) k.is r.2;
        }

    third : (horizon : ℚ) (l2 : List (List ℕ)) (rest : List (List (List ℕ))) → IsFraction horizon
        → Reads n (record (empty_report n) { stage = AtReached; horizon = horizon }) rest None last
        → l1 ≡ codes "report" ∷ digits_of n.version ∷ [] → l2 ≡ codes "horizon" ∷ printed horizon ∷ [] → HeadIs n (l1 ∷ l2 ∷ rest) last
    third horizon l2 [] f r w1 w2 = absurd (no_end n (record (empty_report n) { stage = AtReached; horizon = horizon }) last (λ e. absurd (cc)) r t)
    third horizon l2 (l3 ∷ rest) f r w1 w2 =
        let d = record (empty_report n) { stage = AtReached; horizon = horizon } in
        let k = reached_is d l3 r.0 (in_stage n d (next_of rest None) l3 r.0 AtReached refl r.1) in
        fourth horizon k.reached l2 l3 rest f k.fraction k.starts k.ends (subst (λ (d : ReportDraft). Reads n d rest None last) k.is r.2) w1 w2 k.words_are

    second : (rest : List (List (List ℕ))) → Reads n (record (empty_report n) { stage = AtHorizon }) rest None last → l1 ≡ codes "report" ∷ digits_of n.version ∷ [] → HeadIs n (l1 ∷ rest) last
    second [] r w1 = absurd (no_end n (record (empty_report n) { stage = AtHorizon }) last (λ e. absurd (cc)) r t)
    second (l2 ∷ rest) r w1 =
        let d = record (empty_report n) { stage = AtHorizon } in
        let k = horizon_is d l2 r.0 (in_stage n d (next_of rest None) l2 r.0 AtHorizon refl r.1) in
        third k.horizon l2 rest k.fraction (subst (λ (d : ReportDraft). Reads n d rest None last) k.is r.2) w1 k.words_are
