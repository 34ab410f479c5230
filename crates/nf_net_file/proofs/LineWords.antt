-- The words of a line, by their number.
use Rattle.std.proofs.Common.{◌≡◌, ◌≢◌, ℕ, ◌<◌, Bool, true, false, cond, ◌&&◌, List, [], ◌∷◌, length, drop, Result, Ok, Err, refl, sym, ◌∙◌, ap, arith}
use Rattle.std.proofs.Common.{codes, MatchResult, Some, None}
use Rattle.nf_net_file.proofs.Common.{bytes_eq, cond-true, cond-false, NetRule, N5, N6, N7, N8, Name, is_name, number_in, capacity_in, Entry, node_line}
use Rattle.nf_net_file.proofs.Common.{link_entry, link_line, inflow_entry, inflow_line, end_line, entry_of, Sink, End, word_at}
use Rattle.nf_net_file.specs.Reading.{said_by}

-- ---- a wrong number of words
pub node_count_wrong : (make : Name → Entry) (words : List (List ℕ)) → 0 < length words → length words ≢ 2 → node_line make (drop 1 words) ≡ Err N6
node_count_wrong make [] some n = absurd (omega arith)
node_count_wrong make (key ∷ []) some n = refl
node_count_wrong make (key ∷ name ∷ []) some n = absurd (n refl)
node_count_wrong make (key ∷ name ∷ more ∷ rest) some n = refl

pub link_count_wrong : (version : ℕ) (words : List (List ℕ)) → 0 < length words → length words ≢ 6 → link_line version (drop 1 words) ≡ Err N6
link_count_wrong version [] some n = absurd (omega arith)
link_count_wrong version (key ∷ []) some n = refl
link_count_wrong version (key ∷ a ∷ []) some n = refl
link_count_wrong version (key ∷ a ∷ b ∷ []) some n = refl
link_count_wrong version (key ∷ a ∷ b ∷ c ∷ []) some n = refl
link_count_wrong version (key ∷ a ∷ b ∷ c ∷ d ∷ []) some n = refl
link_count_wrong version (key ∷ a ∷ b ∷ c ∷ d ∷ e ∷ []) some n = absurd (n refl)
link_count_wrong version (key ∷ a ∷ b ∷ c ∷ d ∷ e ∷ more ∷ rest) some n = refl

pub inflow_count_wrong : (version : ℕ) (words : List (List ℕ)) → 0 < length words → length words ≢ 3 → inflow_line version (drop 1 words) ≡ Err N6
inflow_count_wrong version [] some n = absurd (omega arith)
inflow_count_wrong version (key ∷ []) some n = refl
inflow_count_wrong version (key ∷ a ∷ []) some n = refl
inflow_count_wrong version (key ∷ a ∷ b ∷ []) some n = absurd (n refl)
inflow_count_wrong version (key ∷ a ∷ b ∷ more ∷ rest) some n = refl

pub end_count_wrong : (words : List (List ℕ)) → 0 < length words → length words ≢ 1 → end_line (drop 1 words) ≡ Err N6
end_count_wrong [] some n = absurd (omega arith)
end_count_wrong (key ∷ []) some n = absurd (n refl)
end_count_wrong (key ∷ more ∷ rest) some n = refl

-- ---- the right number
pub node_is : (make : Name → Entry) (words : List (List ℕ)) → length words ≡ 2 → is_name (word_at words 1) ≡ true → node_line make (drop 1 words) ≡ Ok (make (word_at words 1))
node_is make [] n e = absurd (omega arith)
node_is make (key ∷ []) n e = absurd (omega arith)
node_is make (key ∷ name ∷ []) n e = ap (λ (b : Bool). cond b (Ok (make name)) (Err N7)) e
node_is make (key ∷ name ∷ more ∷ rest) n e = absurd (omega arith)

pub node_bad : (make : Name → Entry) (words : List (List ℕ)) → length words ≡ 2 → is_name (word_at words 1) ≡ false → node_line make (drop 1 words) ≡ Err N7
node_bad make [] n e = absurd (omega arith)
node_bad make (key ∷ []) n e = absurd (omega arith)
node_bad make (key ∷ name ∷ []) n e = ap (λ (b : Bool). cond b (Ok (make name)) (Err N7)) e
node_bad make (key ∷ name ∷ more ∷ rest) n e = absurd (omega arith)

-- the words of a link line
pub link_count_right : (version : ℕ) (words : List (List ℕ)) → length words ≡ 6 → link_line version (drop 1 words) ≡
    cond (is_name (word_at words 1) && (is_name (word_at words 2) && is_name (word_at words 3)))
    (link_entry (word_at words 1) (word_at words 2) (word_at words 3) (number_in version (word_at words 4)) (capacity_in version (word_at words 5))) (Err N7)
link_count_right version [] n = absurd (omega arith)
link_count_right version (key ∷ []) n = absurd (omega arith)
link_count_right version (key ∷ a ∷ []) n = absurd (omega arith)
link_count_right version (key ∷ a ∷ b ∷ []) n = absurd (omega arith)
link_count_right version (key ∷ a ∷ b ∷ c ∷ []) n = absurd (omega arith)
link_count_right version (key ∷ a ∷ b ∷ c ∷ d ∷ []) n = absurd (omega arith)
link_count_right version (key ∷ a ∷ b ∷ c ∷ d ∷ e ∷ []) n = refl
link_count_right version (key ∷ a ∷ b ∷ c ∷ d ∷ e ∷ more ∷ rest) n = absurd (omega arith)

pub inflow_count_right : (version : ℕ) (words : List (List ℕ)) → length words ≡ 3
    → inflow_line version (drop 1 words) ≡ inflow_entry (number_in version (word_at words 1)) (number_in version (word_at words 2))
inflow_count_right version [] n = absurd (omega arith)
inflow_count_right version (key ∷ []) n = absurd (omega arith)
inflow_count_right version (key ∷ a ∷ []) n = absurd (omega arith)
inflow_count_right version (key ∷ a ∷ b ∷ []) n = refl
inflow_count_right version (key ∷ a ∷ b ∷ more ∷ rest) n = absurd (omega arith)

pub end_count_right : (words : List (List ℕ)) → length words ≡ 1 → end_line (drop 1 words) ≡ Ok End
end_count_right [] n = absurd (omega arith)
end_count_right (key ∷ []) n = refl
end_count_right (key ∷ more ∷ rest) n = absurd (omega arith)

-- with names that are good, or not
all_good : (a b c : Bool) (r : Result Entry NetRule) → a ≡ true → b ≡ true → c ≡ true → cond (a && (b && c)) r (Err N7) ≡ r
all_good true true true r x y z = refl
all_good true true false r x y z = absurd (cc)
all_good true false c r x y z = absurd (cc)
all_good false b c r x y z = absurd (cc)

some_bad : (a b c : Bool) (r : Result Entry NetRule) → ((a ≡ true) → (b ≡ true) → (c ≡ true) → ⊥) → cond (a && (b && c)) r (Err N7) ≡ Err N7
some_bad true true true r f = absurd (f refl refl refl)
some_bad true true false r f = refl
some_bad true false c r f = refl
some_bad false b c r f = refl

module _ (version : ℕ) (words : List (List ℕ)) where
  pub link_is : length words ≡ 6 → is_name (word_at words 1) ≡ true → is_name (word_at words 2) ≡ true → is_name (word_at words 3) ≡ true
      → link_line version (drop 1 words) ≡ link_entry (word_at words 1) (word_at words 2) (word_at words 3) (number_in version (word_at words 4)) (capacity_in version (word_at words 5))
  link_is n a b c = link_count_right version words n ∙ all_good (is_name (word_at words 1)) (is_name (word_at words 2)) (is_name (word_at words 3)) _ a b c

  pub link_bad_name : length words ≡ 6 → is_name (word_at words 1) ≡ false → link_line version (drop 1 words) ≡ Err N7
  link_bad_name n a = link_count_right version words n ∙ some_bad (is_name (word_at words 1)) (is_name (word_at words 2)) (is_name (word_at words 3)) _ (λ x y z. cc)

  pub link_bad_tail : length words ≡ 6 → is_name (word_at words 2) ≡ false → link_line version (drop 1 words) ≡ Err N7
  link_bad_tail n b = link_count_right version words n ∙ some_bad (is_name (word_at words 1)) (is_name (word_at words 2)) (is_name (word_at words 3)) _ (λ x y z. cc)

  pub link_bad_head : length words ≡ 6 → is_name (word_at words 3) ≡ false → link_line version (drop 1 words) ≡ Err N7
  link_bad_head n c = link_count_right version words n ∙ some_bad (is_name (word_at words 1)) (is_name (word_at words 2)) (is_name (word_at words 3)) _ (λ x y z. cc)

-- ---- what is read of a line's words
pub node_said : (make : Name → Entry) (words : List (List ℕ)) (word : Name) (r : Result Name NetRule) → length words ≡ 2 → word ≡ word_at words 1
    → MatchResult r (λ name. (name ≡ word) × (is_name word ≡ true)) (λ rule. (rule ≡ N7) × (is_name word ≡ false)) → node_line make (drop 1 words) ≡ said_by make r
node_said make words word (Ok name) n w h = node_is make words n (ap is_name (sym w) ∙ h.1) ∙ ap (λ (name : Name). Ok (make name)) (sym w ∙ sym h.0)
node_said make words word (Err rule) n w h = node_bad make words n (ap is_name (sym w) ∙ h.1) ∙ ap Err (sym h.0)

module _ (version : ℕ) (words : List (List ℕ)) (n : length words ≡ 6) where
  pub name_not_read : (word : Name) (rule : NetRule) → word ≡ word_at words 1 → (rule ≡ N7) × (is_name word ≡ false) → link_line version (drop 1 words) ≡ Err rule
  name_not_read word rule w h = link_bad_name version words n (ap is_name (sym w) ∙ h.1) ∙ ap Err (sym h.0)

  pub tail_not_read : (word : Name) (rule : NetRule) → word ≡ word_at words 2 → (rule ≡ N7) × (is_name word ≡ false) → link_line version (drop 1 words) ≡ Err rule
  tail_not_read word rule w h = link_bad_tail version words n (ap is_name (sym w) ∙ h.1) ∙ ap Err (sym h.0)

  pub head_not_read : (word : Name) (rule : NetRule) → word ≡ word_at words 3 → (rule ≡ N7) × (is_name word ≡ false) → link_line version (drop 1 words) ≡ Err rule
  head_not_read word rule w h = link_bad_head version words n (ap is_name (sym w) ∙ h.1) ∙ ap Err (sym h.0)

  module _ (name tail head name_word tail_word head_word : Name) (is_name_word : name_word ≡ word_at words 1) (is_tail_word : tail_word ≡ word_at words 2)
      (is_head_word : head_word ≡ word_at words 3)
      (read_name : (name ≡ name_word) × (is_name name_word ≡ true)) (read_tail : (tail ≡ tail_word) × (is_name tail_word ≡ true))
      (read_head : (head ≡ head_word) × (is_name head_word ≡ true)) where
    with_names : (transit : _) (capacity : _) → number_in version (word_at words 4) ≡ transit → capacity_in version (word_at words 5) ≡ capacity
        → link_line version (drop 1 words) ≡ link_entry name tail head transit capacity
    with_names transit capacity t k =
        link_is version words n (ap is_name (sym is_name_word) ∙ read_name.1) (ap is_name (sym is_tail_word) ∙ read_tail.1) (ap is_name (sym is_head_word) ∙ read_head.1)
        ∙ ap (λ (x : Name). link_entry x (word_at words 2) (word_at words 3) (number_in version (word_at words 4)) (capacity_in version (word_at words 5)))
        (sym (read_name.0 ∙ is_name_word))
        ∙ ap (λ (x : Name). link_entry name x (word_at words 3) (number_in version (word_at words 4)) (capacity_in version (word_at words 5))) (sym (read_tail.0 ∙ is_tail_word))
        ∙ ap (λ (x : Name). link_entry name tail x (number_in version (word_at words 4)) (capacity_in version (word_at words 5))) (sym (read_head.0 ∙ is_head_word))
        ∙ ap (λ x. link_entry name tail head x (capacity_in version (word_at words 5))) t ∙ ap (λ x. link_entry name tail head transit x) k

    pub transit_not_read : (word : Name) (transit : _) → word ≡ word_at words 4 → transit ≡ number_in version word → transit ≡ None → link_line version (drop 1 words) ≡ Err N8
    transit_not_read word transit w t none = with_names None _ (ap (number_in version) (sym w) ∙ sym t ∙ none) refl

    pub capacity_not_read : (number_word capacity_word : Name) (transit : _) (read : _) (capacity : _) → number_word ≡ word_at words 4 → capacity_word ≡ word_at words 5
        → read ≡ number_in version number_word → read ≡ Some transit → capacity ≡ capacity_in version capacity_word → capacity ≡ None → link_line version (drop 1 words) ≡ Err N8
    capacity_not_read number_word capacity_word transit read capacity v w t e k none =
        with_names (Some transit) None (ap (number_in version) (sym v) ∙ sym t ∙ e) (ap (capacity_in version) (sym w) ∙ sym k ∙ none)

    pub link_read : (number_word capacity_word : Name) (transit : _) (capacity : _) (read : _) (read_capacity : _) → number_word ≡ word_at words 4 → capacity_word ≡ word_at words 5
        → read ≡ number_in version number_word → read ≡ Some transit → read_capacity ≡ capacity_in version capacity_word → read_capacity ≡ Some capacity
        → link_line version (drop 1 words) ≡ link_entry name tail head (Some transit) (Some capacity)
    link_read number_word capacity_word transit capacity read read_capacity v w t e k f =
        with_names (Some transit) (Some capacity) (ap (number_in version) (sym v) ∙ sym t ∙ e) (ap (capacity_in version) (sym w) ∙ sym k ∙ f)

-- ---- a line by its key
module _ (version : ℕ) (words : List (List ℕ)) (key : List ℕ) (some : 0 < length words) (is_key : key ≡ word_at words 0) where
  by_key : entry_of version words ≡ entry_of version (key ∷ drop 1 words)
  by_key = first words some is_key
    where
      first : (words : List (List ℕ)) → 0 < length words → key ≡ word_at words 0 → entry_of version words ≡ entry_of version (key ∷ drop 1 words)
      first [] some e = absurd (omega arith)
      first (word ∷ rest) some e = ap (λ (word : List ℕ). entry_of version (word ∷ rest)) (sym e)

  module _ (no_source : bytes_eq key (codes "source") ≡ false) where
    pub sink_line : bytes_eq key (codes "sink") ≡ true → entry_of version words ≡ node_line (λ name. Sink name) (drop 1 words)
    sink_line t = by_key ∙ cond-false (bytes_eq key (codes "source")) _ _ no_source ∙ cond-true (bytes_eq key (codes "sink")) _ _ t

    module _ (no_sink : bytes_eq key (codes "sink") ≡ false) where
      pub link_line_is : bytes_eq key (codes "link") ≡ true → entry_of version words ≡ link_line version (drop 1 words)
      link_line_is t = by_key ∙ cond-false (bytes_eq key (codes "source")) _ _ no_source ∙ cond-false (bytes_eq key (codes "sink")) _ _ no_sink ∙ cond-true (bytes_eq key (codes "link")) _ _ t

      module _ (no_link : bytes_eq key (codes "link") ≡ false) where
        others : entry_of version words ≡ cond (bytes_eq key (codes "inflow")) (inflow_line version (drop 1 words)) (cond (bytes_eq key (codes "end")) (end_line (drop 1 words)) (Err N5))
        others = by_key ∙ cond-false (bytes_eq key (codes "source")) _ _ no_source ∙ cond-false (bytes_eq key (codes "sink")) _ _ no_sink ∙ cond-false (bytes_eq key (codes "link")) _ _ no_link

        pub inflow_line_is : bytes_eq key (codes "inflow") ≡ true → entry_of version words ≡ inflow_line version (drop 1 words)
        inflow_line_is t = others ∙ cond-true (bytes_eq key (codes "inflow")) _ _ t

        pub end_line_is : bytes_eq key (codes "inflow") ≡ false → bytes_eq key (codes "end") ≡ true → entry_of version words ≡ end_line (drop 1 words)
        end_line_is no_inflow t = others ∙ cond-false (bytes_eq key (codes "inflow")) _ _ no_inflow ∙ cond-true (bytes_eq key (codes "end")) _ _ t

        pub no_line : bytes_eq key (codes "inflow") ≡ false → bytes_eq key (codes "end") ≡ false → entry_of version words ≡ Err N5
        no_line no_inflow no_end = others ∙ cond-false (bytes_eq key (codes "inflow")) _ _ no_inflow ∙ cond-false (bytes_eq key (codes "end")) _ _ no_end
