-- The words of a cause are read as that cause, and nothing else is.
use Rattle.std.proofs.Common.{◌≡◌, ℕ, List, [], ◌∷◌, Option, Some, None, Ok, refl, sym, ap, subst, ◌∙◌, codes}
use Rattle.nf_report_laws.proofs.Common.{ℚ, ◌>>=◌, digits_of, count_of, printed, Cause, part_word, op_word, count_word, cause_words, P6, P8, P9, or_rule}
use Rattle.nf_report_laws.proofs.Common.{printed_number, place_in, part_of, op_of_word, done_cause, phases_cause, patterns_cause, passed_cause}
use Rattle.nf_report_laws.proofs.Common.{nopattern_cause, CauseKind, IsDone, IsPhases, IsPatterns, IsPassed, IsNoPattern, cause_kind, cause_of_kind}
use Rattle.nf_report_laws.proofs.Common.{cause_in, IsCount, IsReadableCause, same_Ok, Op, Sum, Difference, Product, Quotient, Part, Slack, Table, Verdict}
use Rattle.nf_report_laws.proofs.Common.{Extend, Advance, Curve, Load, Check, Quick, Phases, Patterns, Passed, NoPattern}
use Rattle.nf_report_laws.proofs.Outcomes.{both_ok, or_ok, no_err, named_is}
use Rattle.nf_report_laws.proofs.NumbersBack.{number_back, number_is, count_back, count_is, place_back, place_is}

part_back : (part : Part) → part_of (part_word part) ≡ Some part
part_back Slack = refl
part_back Table = refl
part_back Verdict = refl
part_back Extend = refl
part_back Advance = refl
part_back Curve = refl
part_back Load = refl
part_back Check = refl
part_back Quick = refl

part_is : (word : List ℕ) (part : Part) → part_of word ≡ Some part → word ≡ part_word part
part_is word part e = named_is part_word word (
    (codes "slack", Slack) ∷ (codes "table", Table) ∷ (codes "verdict", Verdict) ∷ (codes "extend", Extend) ∷ (codes "advance", Advance)
    ∷ (codes "curve", Curve) ∷ (codes "load", Load) ∷ (codes "check", Check) ∷ (codes "quick", Quick) ∷ []) part
    (refl, (refl, (refl, (refl, (refl, (refl, (refl, (refl, (refl, tt))))))))) e

op_back : (op : Op) → op_of_word (op_word op) ≡ Some op
op_back Sum = refl
op_back Difference = refl
op_back Product = refl
op_back Quotient = refl

op_is : (word : List ℕ) (op : Op) → op_of_word word ≡ Some op → word ≡ op_word op
op_is word op e = named_is op_word word ((codes "sum", Sum) ∷ (codes "difference", Difference) ∷ (codes "product", Product) ∷ (codes "quotient", Quotient) ∷ []) op (refl, (refl, (refl, (refl, tt)))) e

-- ---- forward
pub cause_back : (stop : Option (Cause ℚ)) → IsReadableCause stop → cause_in (cause_words stop) ≡ Ok stop
cause_back None h = refl
cause_back (Some (Phases made)) h = ap (λ o. or_rule P8 o >>= λ made. Ok (Some (Phases made))) (count_back made h)
cause_back (Some (Patterns phase tried)) h =
    ap (λ o. or_rule P8 o >>= λ phase. (or_rule P8 (count_of (digits_of tried)) >>= λ tried. Ok (Some (Patterns phase tried)))) (count_back phase h.0)
    ∙ ap (λ o. or_rule P8 o >>= λ tried. Ok (Some (Patterns phase tried))) (count_back tried h.1)
cause_back (Some (Passed phase place at)) h =
    ap (λ o. or_rule P8 o >>= λ phase. (or_rule P8 (place_in (count_word place)) >>= λ place. (or_rule P8 (printed_number (printed at.left)) >>= λ left.
    (or_rule P8 (printed_number (printed at.right)) >>= λ right. (or_rule P9 (part_of (part_word at.part)) >>= λ part. (or_rule P9 (op_of_word (op_word at.op)) >>= λ op.
    Ok (Some (Passed phase place (record { part = part; op = op; left = left; right = right }))))))))) (count_back phase h.0)
    ∙ ap (λ o. or_rule P8 o >>= λ place. (or_rule P8 (printed_number (printed at.left)) >>= λ left.
    (or_rule P8 (printed_number (printed at.right)) >>= λ right. (or_rule P9 (part_of (part_word at.part)) >>= λ part. (or_rule P9 (op_of_word (op_word at.op)) >>= λ op.
    Ok (Some (Passed phase place (record { part = part; op = op; left = left; right = right })))))))) (place_back place h.1)
    ∙ ap (λ o. or_rule P8 o >>= λ left.
    (or_rule P8 (printed_number (printed at.right)) >>= λ right. (or_rule P9 (part_of (part_word at.part)) >>= λ part. (or_rule P9 (op_of_word (op_word at.op)) >>= λ op.
    Ok (Some (Passed phase place (record { part = part; op = op; left = left; right = right }))))))) (number_back at.left h.2)
    ∙ ap (λ o. or_rule P8 o >>= λ right. (or_rule P9 (part_of (part_word at.part)) >>= λ part. (or_rule P9 (op_of_word (op_word at.op)) >>= λ op.
    Ok (Some (Passed phase place (record { part = part; op = op; left = at.left; right = right })))))) (number_back at.right h.3)
    ∙ ap (λ o. or_rule P9 o >>= λ part. (or_rule P9 (op_of_word (op_word at.op)) >>= λ op.
    Ok (Some (Passed phase place (record { part = part; op = op; left = at.left; right = at.right }))))) (part_back at.part)
    ∙ ap (λ o. or_rule P9 o >>= λ op.
    Ok (Some (Passed phase place (record { part = at.part; op = op; left = at.left; right = at.right })))) (op_back at.op)
cause_back (Some (NoPattern phase)) h = ap (λ o. or_rule P8 o >>= λ phase. Ok (Some (NoPattern phase))) (count_back phase h)

-- ---- backward
abbrev Says : List (List ℕ) → Option (Cause ℚ) → Type 0
Says words stop = (words ≡ cause_words stop) × IsReadableCause stop

-- a cause of one count
count_is_said : (word count : List ℕ) (make : ℕ → Option (Cause ℚ)) (stop : Option (Cause ℚ)) → ((k : ℕ) → IsCount k → Says (word ∷ digits_of k ∷ []) (make k))
    → (or_rule P8 (count_of count) >>= λ k. Ok (make k)) ≡ Ok stop → Says (word ∷ count ∷ []) stop
count_is_said word count make stop says e =
    let w = both_ok (or_rule P8 (count_of count)) _ stop e in
    let k = count_is count w.between (or_ok P8 (count_of count) w.between w.first) in
    subst (Says (word ∷ count ∷ [])) (same_Ok _ stop w.next) (subst (λ (c : List ℕ). Says (word ∷ c ∷ []) (make w.between)) (sym k.0) (says w.between k.1))

done_is : (words : List (List ℕ)) (stop : Option (Cause ℚ)) → done_cause words ≡ Ok stop → Says (codes "done" ∷ words) stop
done_is [] stop e = subst (Says (codes "done" ∷ [])) (same_Ok None stop e) (refl, tt)
done_is (word ∷ words) stop e = absurd (no_err P6 stop e)

phases_is : (words : List (List ℕ)) (stop : Option (Cause ℚ)) → phases_cause words ≡ Ok stop → Says (codes "phases" ∷ words) stop
phases_is (made ∷ []) stop e = count_is_said (codes "phases") made (λ k. Some (Phases k)) stop (λ k h. (refl, h)) e
phases_is words stop e = absurd (no_err P6 stop e)

patterns_is : (words : List (List ℕ)) (stop : Option (Cause ℚ)) → patterns_cause words ≡ Ok stop → Says (codes "patterns" ∷ words) stop
patterns_is (phase ∷ tried ∷ []) stop e =
    let w = both_ok (or_rule P8 (count_of phase)) _ stop e in
    let v = both_ok (or_rule P8 (count_of tried)) _ stop w.next in
    let k = count_is phase w.between (or_ok P8 (count_of phase) w.between w.first) in
    let l = count_is tried v.between (or_ok P8 (count_of tried) v.between v.first) in
    subst (Says (codes "patterns" ∷ phase ∷ tried ∷ [])) (same_Ok _ stop v.next) ((λ i. codes "patterns" ∷ k.0 i ∷ l.0 i ∷ []), (k.1, l.1))
patterns_is words stop e = absurd (no_err P6 stop e)

nopattern_is : (words : List (List ℕ)) (stop : Option (Cause ℚ)) → nopattern_cause words ≡ Ok stop → Says (codes "nopattern" ∷ words) stop
nopattern_is (phase ∷ []) stop e = count_is_said (codes "nopattern") phase (λ k. Some (NoPattern k)) stop (λ k h. (refl, h)) e
nopattern_is words stop e = absurd (no_err P6 stop e)

passed_is : (words : List (List ℕ)) (stop : Option (Cause ℚ)) → passed_cause words ≡ Ok stop → Says (codes "passed" ∷ words) stop
passed_is (phase ∷ part ∷ place ∷ op ∷ left ∷ right ∷ []) stop e =
    let w0 = both_ok (or_rule P8 (count_of phase)) _ stop e in
    let w1 = both_ok (or_rule P8 (place_in place)) _ stop w0.next in
    let w2 = both_ok (or_rule P8 (printed_number left)) _ stop w1.next in
    let w3 = both_ok (or_rule P8 (printed_number right)) _ stop w2.next in
    let w4 = both_ok (or_rule P9 (part_of part)) _ stop w3.next in
    let w5 = both_ok (or_rule P9 (op_of_word op)) _ stop w4.next in
    let k0 = count_is phase w0.between (or_ok P8 (count_of phase) w0.between w0.first) in
    let k1 = place_is place w1.between (or_ok P8 (place_in place) w1.between w1.first) in
    let k2 = number_is left w2.between (or_ok P8 (printed_number left) w2.between w2.first) in
    let k3 = number_is right w3.between (or_ok P8 (printed_number right) w3.between w3.first) in
    let k4 = part_is part w4.between (or_ok P9 (part_of part) w4.between w4.first) in
    let k5 = op_is op w5.between (or_ok P9 (op_of_word op) w5.between w5.first) in
    subst (Says (codes "passed" ∷ phase ∷ part ∷ place ∷ op ∷ left ∷ right ∷ [])) (same_Ok _ stop w5.next)
    ((λ i. codes "passed" ∷ k0.0 i ∷ k4 i ∷ k1.0 i ∷ k5 i ∷ k2.0 i ∷ k3.0 i ∷ []), (k0.1, k1.1, k2.1, k3.1))
passed_is words stop e = absurd (no_err P6 stop e)

abbrev kind_word : CauseKind → List ℕ
kind_word IsDone = codes "done"
kind_word IsPhases = codes "phases"
kind_word IsPatterns = codes "patterns"
kind_word IsPassed = codes "passed"
kind_word IsNoPattern = codes "nopattern"

kind_is : (kind : CauseKind) (words : List (List ℕ)) (stop : Option (Cause ℚ)) → cause_of_kind words kind ≡ Ok stop → Says (kind_word kind ∷ words) stop
kind_is IsDone words stop e = done_is words stop e
kind_is IsPhases words stop e = phases_is words stop e
kind_is IsPatterns words stop e = patterns_is words stop e
kind_is IsPassed words stop e = passed_is words stop e
kind_is IsNoPattern words stop e = nopattern_is words stop e

pub cause_is : (words : List (List ℕ)) (stop : Option (Cause ℚ)) → cause_in words ≡ Ok stop → (words ≡ cause_words stop) × IsReadableCause stop
cause_is [] stop e = absurd (no_err P6 stop e)
cause_is (word ∷ words) stop e =
    let w = both_ok (or_rule P9 (cause_kind word)) _ stop e in
    let k = named_is kind_word word (
    (codes "done", IsDone) ∷ (codes "phases", IsPhases) ∷ (codes "patterns", IsPatterns) ∷ (codes "passed", IsPassed) ∷ (codes "nopattern", IsNoPattern) ∷ []) w.between
    (refl, (refl, (refl, (refl, (refl, tt))))) (or_ok P9 (cause_kind word) w.between w.first) in
    subst (λ (word : List ℕ). Says (word ∷ words) stop) (sym k) (kind_is w.between words stop w.next)
