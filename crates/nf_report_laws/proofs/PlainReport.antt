-- The lines of a report are made of plain words, and are short.
use Rattle.std.proofs.Common.{◌≡◌, ℕ, ◌*◌, ◌^◌, ◌<◌, ◌≤◌, true, List, [], ◌∷◌, length, flat_map, refl, arith, codes, Option, Some, None, lit<}
use Rattle.nf_report_laws.proofs.Common.{AllByRecursion, join_with_byte, ℚ, State, Tight, Full, Zero, Point, Pattern, digits_of, Cause, part_word, op_word}
use Rattle.nf_report_laws.proofs.Common.{count_word, cause_words, Name, is_name, IsFraction, point_lines, trace_lines, state_word, every_append, Kind}
use Rattle.nf_report_laws.proofs.Common.{OfLabel, OfNever, OfInflow, OfOutflow, OfQueue, ReadCurve, IsCount, IsCountOrNone, AreFractionPoints}
use Rattle.nf_report_laws.proofs.Common.{IsReadableCause, Op, Sum, Difference, Product, Quotient, Part, Slack, Table, Verdict, Extend, Advance, Curve, Load}
use Rattle.nf_report_laws.proofs.Common.{Check, Quick, Phases, Patterns, Passed, NoPattern, AreWords, AreShort}
use Rattle.nf_frac_words.proofs.Digits.{some_digits}
use Rattle.nf_frac_words.proofs.Bytes.{digits_of_bytes}
use Rattle.nf_net_laws.proofs.ShortWords.{length_digits, number_bytes, IsShortWord, short_name, short_number, short_key, length_join, plain_words}
use Rattle.nf_report_laws.proofs.ReportShape.{lines_of_kind, curve_lines, IsOfKind, IsRead, state_lines_of, end_lines, head_lines}

-- ---- words
length_count : (n : ℕ) → IsCount n → length (digits_of n) ≤ 39
length_count n h = length_digits n 38 (let big : 2 ^ 64 < 10 ^ 39 = lit< tt in omega arith)

short_count : (k : ℕ) → IsCount k → IsShortWord (digits_of k)
short_count k h = record { plain = (some_digits k, number_bytes (digits_of k) (digits_of_bytes k)); short = (let e : length (digits_of k) ≤ 39 = length_count k h in omega arith) }

short_place : (place : Option ℕ) → IsCountOrNone place → IsShortWord (count_word place)
short_place None h = short_key (codes "-") refl refl refl
short_place (Some k) h = short_count k h

short_part : (part : Part) → IsShortWord (part_word part)
short_part Slack = short_key (codes "slack") refl refl refl
short_part Table = short_key (codes "table") refl refl refl
short_part Verdict = short_key (codes "verdict") refl refl refl
short_part Extend = short_key (codes "extend") refl refl refl
short_part Advance = short_key (codes "advance") refl refl refl
short_part Curve = short_key (codes "curve") refl refl refl
short_part Load = short_key (codes "load") refl refl refl
short_part Check = short_key (codes "check") refl refl refl
short_part Quick = short_key (codes "quick") refl refl refl

short_op : (op : Op) → IsShortWord (op_word op)
short_op Sum = short_key (codes "sum") refl refl refl
short_op Difference = short_key (codes "difference") refl refl refl
short_op Product = short_key (codes "product") refl refl refl
short_op Quotient = short_key (codes "quotient") refl refl refl

short_state : (state : State) → IsShortWord (state_word state)
short_state Tight = short_key (codes "tight") refl refl refl
short_state Full = short_key (codes "full") refl refl refl
short_state Zero = short_key (codes "zero") refl refl refl

short_cause : (stop : Option (Cause ℚ)) → IsReadableCause stop → AllByRecursion IsShortWord (cause_words stop)
short_cause None h = (short_key (codes "done") refl refl refl, tt)
short_cause (Some (Phases made)) h = (short_key (codes "phases") refl refl refl, (short_count made h, tt))
short_cause (Some (Patterns phase tried)) h = (short_key (codes "patterns") refl refl refl, (short_count phase h.0, (short_count tried h.1, tt)))
short_cause (Some (Passed phase place at)) h = (
  short_key (codes "passed") refl refl refl,
  (
    short_count phase h.0,
    (
      short_part at.part,
      (
        short_place place h.1,
        (
          short_op at.op,
          (short_number at.left h.2, (short_number at.right h.3, tt)),
        ),
      ),
    ),
  ),
)
short_cause (Some (NoPattern phase)) h = (short_key (codes "nopattern") refl refl refl, (short_count phase h, tt))

cause_length : (stop : Option (Cause ℚ)) → length (cause_words stop) ≤ 7
cause_length None = omega arith
cause_length (Some (Phases made)) = omega arith
cause_length (Some (Patterns phase tried)) = omega arith
cause_length (Some (Passed phase place at)) = omega arith
cause_length (Some (NoPattern phase)) = omega arith

-- ---- lines of a few such words
pub record IsShortLine (words : List (List ℕ)) : Type 0 where
  pub each : AllByRecursion IsShortWord words
  pub few : length words ≤ 8

pub are_words : (lines : List (List (List ℕ))) → AllByRecursion IsShortLine lines → AreWords lines
are_words [] h = tt
are_words (ws ∷ lines) h = (plain_words ws h.0.each, are_words lines h.1)

pub are_short : (lines : List (List (List ℕ))) → AllByRecursion IsShortLine lines → AreShort lines
are_short [] h = tt
are_short (ws ∷ lines) h =
    (let long : length (join_with_byte 32 ws) ≤ length ws * 81 = length_join ws h.0.each in let few : length ws ≤ 8 = h.0.few in omega arith, are_short lines h.1)

-- ---- those of a report
point_short : (key name : List ℕ) (points : List Point) → IsShortWord key → IsShortWord name → AreFractionPoints points → AllByRecursion IsShortLine (point_lines key name points)
point_short key name [] k m h = tt
point_short key name (p ∷ points) k m h =
    (record { each = (k, (m, (short_number p.0 h.0.0, (short_number p.1 h.0.1, tt)))); few = omega arith }, point_short key name points k m h.1)

trace_short : (key name : List ℕ) (points : List Point) (rates : List ℚ) → IsShortWord key → IsShortWord name → AreFractionPoints points
    → AllByRecursion IsFraction rates → AllByRecursion IsShortLine (trace_lines key name points rates)
trace_short key name [] rates k m h r = tt
trace_short key name (p ∷ points) [] k m h r =
    (record { each = (k, (m, (short_number p.0 h.0.0, (short_number p.1 h.0.1, (short_key (codes "-") refl refl refl, tt))))); few = omega arith }, trace_short key name points [] k m h.1 r)
trace_short key name (p ∷ points) (rate ∷ rates) k m h r =
    (record { each = (k, (m, (short_number p.0 h.0.0, (short_number p.1 h.0.1, (short_number rate r.0, tt))))); few = omega arith }, trace_short key name points rates k m h.1 r.1)

kind_short : (kind : Kind) (name : Name) (points : List Point) (rates : List ℚ) → is_name name ≡ true → IsOfKind kind points rates
    → AllByRecursion IsShortLine (lines_of_kind kind name points rates)
kind_short OfLabel name points rates e h = point_short (codes "label") name points (short_key (codes "label") refl refl refl) (short_name name e) h.0.1
kind_short OfNever name points rates e h = (record { each = (short_key (codes "never") refl refl refl, (short_name name e, tt)); few = omega arith }, tt)
kind_short OfInflow name points rates e h = trace_short (codes "inflow") name points rates (short_key (codes "inflow") refl refl refl) (short_name name e) h.points h.rates
kind_short OfOutflow name points rates e h = trace_short (codes "outflow") name points rates (short_key (codes "outflow") refl refl refl) (short_name name e) h.points h.rates
kind_short OfQueue name points rates e h = point_short (codes "queue") name points (short_key (codes "queue") refl refl refl) (short_name name e) h.0.1

pub curves_short : (curves : List ReadCurve) → AllByRecursion IsRead curves → AllByRecursion (λ c. is_name c.key.name ≡ true) curves
    → AllByRecursion IsShortLine (flat_map curve_lines curves)
curves_short [] h m = tt
curves_short (c ∷ curves) h m =
    every_append IsShortLine (curve_lines c) (flat_map curve_lines curves) (kind_short c.key.kind c.key.name c.points c.rates m.0 h.0)
    (curves_short curves h.1 m.1)

pub states_short : (names : List Name) (pattern : Pattern) → AllByRecursion (λ name. is_name name ≡ true) names → AllByRecursion IsShortLine (state_lines_of names pattern)
states_short [] pattern h = tt
states_short (name ∷ names) [] h = tt
states_short (name ∷ names) (None ∷ pattern) h = states_short names pattern h.1
states_short (name ∷ names) (Some state ∷ pattern) h =
    (record { each = (short_key (codes "state") refl refl refl, (short_name name h.0, (short_state state, tt))); few = omega arith }, states_short names pattern h.1)

pub end_short : AllByRecursion IsShortLine end_lines
end_short = (record { each = (short_key (codes "end") refl refl refl, tt); few = omega arith }, tt)

pub head_short : (version : ℕ) (horizon reached : ℚ) (stop : Option (Cause ℚ)) (rest : List (List (List ℕ))) → IsCount version → IsFraction horizon
    → IsFraction reached → IsReadableCause stop
    → AllByRecursion IsShortLine rest → AllByRecursion IsShortLine (head_lines version horizon reached (cause_words stop) rest)
head_short version horizon reached stop rest v h r c k =
    let few : length (cause_words stop) ≤ 7 = cause_length stop in (
      record { each = (short_key (codes "report") refl refl refl, (short_count version v, tt)); few = omega arith },
      (
        record { each = (short_key (codes "horizon") refl refl refl, (short_number horizon h, tt)); few = omega arith },
        (
          record { each = (short_key (codes "reached") refl refl refl, (short_number reached r, tt)); few = omega arith },
          (record { each = (short_key (codes "cause") refl refl refl, short_cause stop c); few = omega arith }, k),
        ),
      ),
    )
