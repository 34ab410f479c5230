-- A report is read line by line, where each line is the line of its words.
use Rattle.std.proofs.Common.{◌≡◌, ℕ, ◌+◌, Bool, true, false, List, [], ◌∷◌, ◌++◌, map, flat_map, Option, Some, None, Result, Ok, Err, refl, sym, ap, subst}
use Rattle.std.proofs.Common.{◌∙◌, bytes_eq, if◌then◌else◌}
use Rattle.nf_report_laws.proofs.Common.{AllByRecursion, ◌>>=◌, words, line_of_words, is_plain, read_line, Name, Named, same_names, bytes_eq-self}
use Rattle.nf_report_laws.proofs.Common.{ReportRule, P3, Kind, OfLabel, OfNever, OfInflow, OfOutflow, OfQueue, CurveKey, key_word, key_of, is_key}
use Rattle.nf_report_laws.proofs.Common.{ReportDraft, report_line, ReportBroken, next_words, in_report_line, report_lines_from, and_parts, and_from}
use Rattle.nf_report_laws.proofs.Common.{TextLine, whole_line, plain_from}
use Rattle.nf_report_laws.proofs.Outcomes.{both_ok, no_err}

-- the words of the line that comes next: behind all of these it is the one after them
abbrev pub next_of : List (List (List ℕ)) → Option (List (List ℕ)) → Option (List (List ℕ))
next_of [] after = after
next_of (words ∷ rest) after = Some words

-- with these lines more, of which each is the line of its words, the draft becomes the last one
abbrev pub Reads : Named → ReportDraft → List (List (List ℕ)) → Option (List (List ℕ)) → ReportDraft → Type 0
Reads n draft [] after last = draft ≡ last
Reads n draft (words ∷ rest) after last = (next : ReportDraft) × (report_line n draft true (next_of rest after) words ≡ Ok next) × Reads n next rest after last

pub reads-append : (n : Named) (draft middle last : ReportDraft) (xs ys : List (List (List ℕ))) (after : Option (List (List ℕ)))
    → Reads n draft xs (next_of ys after) middle → Reads n middle ys after last → Reads n draft (xs ++ ys) after last
reads-append n draft middle last [] ys after h k = subst (λ d. Reads n d ys after last) (sym h) k
reads-append n draft middle last (words ∷ []) ys after h k = (h.0, h.1, reads-append n h.0 middle last [] ys after h.2 k)
reads-append n draft middle last (words ∷ more ∷ xs) ys after h k = (h.0, h.1, reads-append n h.0 middle last (more ∷ xs) ys after h.2 k)

-- ---- lines as they are read
next_is : (k : ℕ) (rest : List (List (List ℕ))) → next_words (plain_from k rest) ≡ next_of rest None
next_is k [] = refl
next_is k (words ∷ rest) = refl

pub lines_read : (n : Named) (draft last : ReportDraft) (k : ℕ) (all : List (List (List ℕ))) → Reads n draft all None last → report_lines_from n draft (plain_from k all) ≡ Ok last
lines_read n draft last k [] h = ap (λ d. Ok d) h
lines_read n draft last k (words ∷ rest) h =
    ap (λ o. in_report_line k (report_line n draft true o words) >>= λ next. report_lines_from n next (plain_from (k + 1) rest)) (next_is (k + 1) rest)
    ∙ ap (λ r. in_report_line k r >>= λ next. report_lines_from n next (plain_from (k + 1) rest)) h.1
    ∙ lines_read n h.0 last (k + 1) rest h.2

abbrev pub words_of : List TextLine → List (List (List ℕ))
words_of lines = map (λ line. words line.bytes) lines

abbrev pub ArePlain : List TextLine → Type 0
ArePlain lines = AllByRecursion (λ line. is_plain line ≡ true) lines

next_words-is : (rest : List TextLine) → next_words (map read_line rest) ≡ next_of (words_of rest) None
next_words-is [] = refl
next_words-is (line ∷ rest) = refl

in_line : (k : ℕ) (r : Result ReportDraft ReportRule) (next : ReportDraft) → in_report_line k r ≡ Ok next → r ≡ Ok next
in_line k (Ok draft) next e = cc
in_line k (Err rule) next e = absurd (cc)

one_line : (n : Named) (draft : ReportDraft) (plain : Bool) (next : Option (List (List ℕ))) (ws : List (List ℕ)) (last : ReportDraft)
    → report_line n draft plain next ws ≡ Ok last → (plain ≡ true) × (report_line n draft true next ws ≡ Ok last)
one_line n draft plain next [] last e = absurd (no_err P3 last e)
one_line n draft true next (w ∷ ws) last e = (refl, e)
one_line n draft false next (w ∷ ws) last e = absurd (no_err P3 last e)

pub lines_are_read : (n : Named) (draft last : ReportDraft) (lines : List TextLine) → report_lines_from n draft (map read_line lines) ≡ Ok last
    → ArePlain lines × Reads n draft (words_of lines) None last
lines_are_read n draft last [] e = (tt, ok_draft draft last e)
  where
    ok_draft : (a b : ReportDraft) → ◌≡◌ {A = Result ReportDraft ReportBroken} (Ok a) (Ok b) → a ≡ b
    ok_draft a b f = cc
lines_are_read n draft last (line ∷ rest) e =
    let w = both_ok (in_report_line line.number (report_line n draft (is_plain line) (next_words (map read_line rest)) (words line.bytes))) _ last e in
    let one = one_line n draft (is_plain line) (next_words (map read_line rest)) (words line.bytes) w.between (in_line line.number _ w.between w.first) in
    let more = lines_are_read n w.between last rest w.next in
    ((one.0, more.0), (w.between, ap (λ o. report_line n draft true o (words line.bytes)) (sym (next_words-is rest)) ∙ one.1, more.1))

-- the text is that of its words
pub words_text : (lines : List TextLine) → ArePlain lines → flat_map line_of_words (words_of lines) ≡ flat_map whole_line lines
words_text [] h = refl
words_text (line ∷ lines) h = λ i. sym (same_names (line.bytes ++ line.ending) (line_of_words (words line.bytes)) h.0) i ++ words_text lines h.1 i

-- ---- keys
-- the kind that a word names, where any other word counts as that of a queue
abbrev kind_of : List ℕ → Kind
kind_of word =
    if bytes_eq word (key_word OfLabel) then OfLabel
    else (if bytes_eq word (key_word OfNever) then OfNever
    else (if bytes_eq word (key_word OfInflow) then OfInflow
    else (if bytes_eq word (key_word OfOutflow) then OfOutflow else OfQueue)))

kind_back : (kind : Kind) → kind_of (key_word kind) ≡ kind
kind_back OfLabel = refl
kind_back OfNever = refl
kind_back OfInflow = refl
kind_back OfOutflow = refl
kind_back OfQueue = refl

kind_same : (a b : Kind) → bytes_eq (key_word a) (key_word b) ≡ true → a ≡ b
kind_same a b e = sym (kind_back a) ∙ ap kind_of (same_names (key_word a) (key_word b) e) ∙ kind_back b

pub key_same : (kind : Kind) (name : Name) (key : CurveKey) → is_key kind name key ≡ true → key ≡ key_of kind name
key_same kind name key e =
    let w = and_parts (bytes_eq (key_word key.kind) (key_word kind)) (bytes_eq key.name name) e in
    let k = kind_same key.kind kind w.0 in
    let m = same_names key.name name w.1 in
    λ i. record { kind = k i; name = m i }

pub key_self : (kind : Kind) (name : Name) → is_key kind name (key_of kind name) ≡ true
key_self kind name = and_from (bytes_eq (key_word kind) (key_word kind)) (bytes_eq name name) (bytes_eq-self (key_word kind)) (bytes_eq-self name)

pub other_key : (kind : Kind) (name : Name) (key : CurveKey) → (key ≡ key_of kind name → ⊥) → is_key kind name key ≡ false
other_key kind name key h = go (is_key kind name key) refl
  where
    go : (b : Bool) → is_key kind name key ≡ b → b ≡ false
    go true e = absurd (h (key_same kind name key e))
    go false e = refl
