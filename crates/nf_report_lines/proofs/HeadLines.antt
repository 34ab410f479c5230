-- The lines of a report's head, by the words after the first one.
use Rattle.std.proofs.Common.{◌≡◌, ℕ, ◌<◌, Bool, true, false, not, ◌||◌, cond, List, length, drop, Result, Ok, Err, refl, ◌∙◌, ap, bytes_eq, codes, Option}
use Rattle.std.proofs.Common.{Some, None, is_none, is_some}
use Rattle.nf_report_lines.proofs.Common.{beq, true≢false, false≢true, or_right, or_left, ℚ, 0ℚ, lt_ℚ, ◌>>=◌, is_same, word_at, ReportRule, P5, P10}
use Rattle.nf_report_lines.proofs.Common.{cause_in, ReportDraft, AtReached, AtCause, InBody, after_keyword, number_alone, are_alike, horizon_line}
use Rattle.nf_report_lines.proofs.Common.{reached_line, cause_line}
use Rattle.nf_net_def.specs.declared.Cause.{Cause}
use Rattle.nf_report_lines.proofs.WordCounts.{Words, first_word}

behind_is : (key : List ℕ) (words : Words) → 0 < length words → bytes_eq (word_at words 0) key ≡ true → after_keyword key words ≡ Ok (drop 1 words)
behind_is key words lt same = ap (after_keyword key) (first_word words lt) ∙ ap (λ (b : Bool). cond b (Ok (drop 1 words)) (Err P5)) same

alike : (a b : Bool) → not (beq a b) ≡ false → are_alike a b ≡ true
alike true true e = refl
alike true false e = absurd (true≢false e)
alike false true e = absurd (true≢false e)
alike false false e = refl

pub none_by : (stop : Option (Cause ℚ)) (none : Bool) → is_some stop ≡ not none → is_none stop ≡ none
none_by None none e = go none e
  where
    go : (b : Bool) → false ≡ not b → true ≡ b
    go true f = refl
    go false f = cc
none_by (Some cause) none e = go none e
  where
    go : (b : Bool) → true ≡ not b → false ≡ b
    go true f = cc
    go false f = refl

module _ (draft : ReportDraft) (words : Words) (lt : 0 < length words) where
  pub reached_read : bytes_eq (word_at words 0) (codes "reached") ≡ true → (reached : ℚ) → number_alone (drop 1 words) ≡ Ok reached → lt_ℚ reached 0ℚ ≡ false → lt_ℚ draft.horizon reached ≡ false
      → reached_line draft words ≡ Ok (record draft { stage = AtCause; reached = reached })
  reached_read same reached e some below =
      ap (λ (r : Result Words ReportRule). r >>= λ rest. number_alone rest >>= by_number) (behind_is (codes "reached") words lt same)
      ∙ ap (λ (r : Result ℚ ReportRule). r >>= by_number) e
      ∙ (λ i. cond (some i || below i) (Err P10) (Ok (record draft { stage = AtCause; reached = reached })))
    where
      by_number : ℚ → Result ReportDraft ReportRule
      by_number reached = cond (lt_ℚ reached 0ℚ || lt_ℚ draft.horizon reached) (Err P10) (Ok (record draft { stage = AtCause; reached = reached }))

  pub cause_read : bytes_eq (word_at words 0) (codes "cause") ≡ true → (stop : Option (Cause ℚ)) → cause_in (drop 1 words) ≡ Ok stop → not (beq (is_none stop) (is_same draft.reached draft.horizon)) ≡ false
      → cause_line draft words ≡ Ok (record draft { stage = InBody; stop = stop })
  cause_read same stop e differ =
      ap (λ (r : Result Words ReportRule). r >>= λ rest. cause_in rest >>= by_stop) (behind_is (codes "cause") words lt same)
      ∙ ap (λ (r : Result (Option (Cause ℚ)) ReportRule). r >>= by_stop) e
      ∙ ap (λ (b : Bool). cond b (Ok (record draft { stage = InBody; stop = stop })) (Err P10)) (alike (is_none stop) (is_same draft.reached draft.horizon) differ)
    where
      by_stop : Option (Cause ℚ) → Result ReportDraft ReportRule
      by_stop stop = cond (are_alike (is_none stop) (is_same draft.reached draft.horizon)) (Ok (record draft { stage = InBody; stop = stop })) (Err P10)

-- ---- a line that isn't read
not_behind : (key : List ℕ) (words : Words) → 0 < length words → bytes_eq (word_at words 0) key ≡ false → after_keyword key words ≡ Err P5
not_behind key words lt other = ap (after_keyword key) (first_word words lt) ∙ ap (λ (b : Bool). cond b (Ok (drop 1 words)) (Err P5)) other

module _ {A : Type 0} (key : List ℕ) (words : Words) (lt : 0 < length words) (f : Words → Result A ReportRule) where
  other_key : bytes_eq (word_at words 0) key ≡ false → (after_keyword key words >>= f) ≡ Err P5
  other_key other = ap (λ (r : Result Words ReportRule). r >>= f) (not_behind key words lt other)

  this_key : bytes_eq (word_at words 0) key ≡ true → (after_keyword key words >>= f) ≡ f (drop 1 words)
  this_key same = ap (λ (r : Result Words ReportRule). r >>= f) (behind_is key words lt same)

differing : (a b : Bool) → not (beq a b) ≡ true → are_alike a b ≡ false
differing true true e = absurd (false≢true e)
differing true false e = refl
differing false true e = refl
differing false false e = absurd (false≢true e)

module _ (draft : ReportDraft) (words : Words) (lt : 0 < length words) where
  by_horizon : ℚ → Result ReportDraft ReportRule
  by_horizon horizon = cond (lt_ℚ horizon 0ℚ) (Err P10) (Ok (record draft { stage = AtReached; horizon = horizon }))

  by_reached : ℚ → Result ReportDraft ReportRule
  by_reached reached = cond (lt_ℚ reached 0ℚ || lt_ℚ draft.horizon reached) (Err P10) (Ok (record draft { stage = AtCause; reached = reached }))

  by_stop : Option (Cause ℚ) → Result ReportDraft ReportRule
  by_stop stop = cond (are_alike (is_none stop) (is_same draft.reached draft.horizon)) (Ok (record draft { stage = InBody; stop = stop })) (Err P10)

  pub no_horizon : bytes_eq (word_at words 0) (codes "horizon") ≡ false → horizon_line draft words ≡ Err P5
  unfolding by_horizon
  no_horizon other = other_key (codes "horizon") words lt (λ rest. number_alone rest >>= by_horizon) other

  pub no_reached : bytes_eq (word_at words 0) (codes "reached") ≡ false → reached_line draft words ≡ Err P5
  unfolding by_reached
  no_reached other = other_key (codes "reached") words lt (λ rest. number_alone rest >>= by_reached) other

  pub no_cause : bytes_eq (word_at words 0) (codes "cause") ≡ false → cause_line draft words ≡ Err P5
  unfolding by_stop
  no_cause other = other_key (codes "cause") words lt (λ rest. cause_in rest >>= by_stop) other

  module _ (same : bytes_eq (word_at words 0) (codes "horizon") ≡ true) where
    horizon_by : (r : Result ℚ ReportRule) → number_alone (drop 1 words) ≡ r → horizon_line draft words ≡ (r >>= by_horizon)
    unfolding by_horizon
    horizon_by r e = this_key (codes "horizon") words lt (λ rest. number_alone rest >>= by_horizon) same ∙ ap (λ (r : Result ℚ ReportRule). r >>= by_horizon) e

    pub horizon_fails : (rule : ReportRule) → number_alone (drop 1 words) ≡ Err rule → horizon_line draft words ≡ Err rule
    horizon_fails rule e = horizon_by (Err rule) e

    pub horizon_read : (horizon : ℚ) (b : Bool) → number_alone (drop 1 words) ≡ Ok horizon → lt_ℚ horizon 0ℚ ≡ b
        → horizon_line draft words ≡ cond b (Err P10) (Ok (record draft { stage = AtReached; horizon = horizon }))
    unfolding by_horizon
    horizon_read horizon b e t = horizon_by (Ok horizon) e ∙ ap (λ (b : Bool). cond b (Err P10) (Ok (record draft { stage = AtReached; horizon = horizon }))) t

  module _ (same : bytes_eq (word_at words 0) (codes "reached") ≡ true) where
    reached_by : (r : Result ℚ ReportRule) → number_alone (drop 1 words) ≡ r → reached_line draft words ≡ (r >>= by_reached)
    unfolding by_reached
    reached_by r e = this_key (codes "reached") words lt (λ rest. number_alone rest >>= by_reached) same ∙ ap (λ (r : Result ℚ ReportRule). r >>= by_reached) e

    pub reached_fails : (rule : ReportRule) → number_alone (drop 1 words) ≡ Err rule → reached_line draft words ≡ Err rule
    reached_fails rule e = reached_by (Err rule) e

    pub reached_negative : (reached : ℚ) → number_alone (drop 1 words) ≡ Ok reached → lt_ℚ reached 0ℚ ≡ true → reached_line draft words ≡ Err P10
    unfolding by_reached
    reached_negative reached e t = reached_by (Ok reached) e
        ∙ ap (λ (b : Bool). cond b (Err P10) (Ok (record draft { stage = AtCause; reached = reached }))) (or_left (lt_ℚ reached 0ℚ) (lt_ℚ draft.horizon reached) t)

    pub reached_beyond : (reached : ℚ) → number_alone (drop 1 words) ≡ Ok reached → lt_ℚ draft.horizon reached ≡ true → reached_line draft words ≡ Err P10
    unfolding by_reached
    reached_beyond reached e t = reached_by (Ok reached) e
        ∙ ap (λ (b : Bool). cond b (Err P10) (Ok (record draft { stage = AtCause; reached = reached }))) (or_right (lt_ℚ reached 0ℚ) (lt_ℚ draft.horizon reached) t)

  pub cause_differs : bytes_eq (word_at words 0) (codes "cause") ≡ true → (stop : Option (Cause ℚ)) → cause_in (drop 1 words) ≡ Ok stop → not (beq (is_none stop) (is_same draft.reached draft.horizon)) ≡ true
      → cause_line draft words ≡ Err P10
  unfolding by_stop
  cause_differs same stop e t =
      this_key (codes "cause") words lt (λ rest. cause_in rest >>= by_stop) same ∙ ap (λ (r : Result (Option (Cause ℚ)) ReportRule). r >>= by_stop) e
      ∙ ap (λ (b : Bool). cond b (Ok (record draft { stage = InBody; stop = stop })) (Err P10)) (differing (is_none stop) (is_same draft.reached draft.horizon) t)
