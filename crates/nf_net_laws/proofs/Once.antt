-- A text has at most one reading.
use Rattle.std.proofs.Common.{◌≡◌, ℕ, List, [], ◌∷◌, Bool, not, refl, sym, ◌∙◌, ap, inl, inr, map, Option, Some, None, Result, Ok, Err}
use Rattle.nf_net_laws.proofs.Common.{Decides, one_answer, AllByRecursion, AllZip, NetRule, read_lines, content_lines, LineFault, first_fault, place_of}
use Rattle.nf_net_laws.proofs.Common.{NamedLink, Named, Broken, Draft, draft_from, IsReached, BreaksRule, closing_rules, IsFirst, marked, network_of}
use Rattle.nf_net_laws.proofs.Common.{StandsFor, ReadsAs, by_lines, by_bytes, Reads}

module _ (P : NetRule → Type 0) where
  pub first_once : (rules : List NetRule) (a b : NetRule) → IsFirst P rules a → IsFirst P rules b → a ≡ b
  first_once [] a b h k = absurd h
  first_once (rule ∷ rest) a b (inl h) (inl k) = h.1 ∙ sym k.1
  first_once (rule ∷ rest) a b (inl h) (inr k) = absurd (k.0 h.0)
  first_once (rule ∷ rest) a b (inr h) (inl k) = absurd (h.0 k.0)
  first_once (rule ∷ rest) a b (inr h) (inr k) = first_once rest a b h.1 k.1

  pub first_or_none : (rules : List NetRule) (a : NetRule) → IsFirst P rules a → AllByRecursion (λ rule. ¬ P rule) rules → ⊥
  first_or_none [] a h k = h
  first_or_none (rule ∷ rest) a (inl h) k = k.0 h.0
  first_or_none (rule ∷ rest) a (inr h) k = first_or_none rest a h.1 k.1

pub flags_once : (P : NamedLink → Type 0) (flags others : List Bool) (links : List NamedLink)
    → AllZip (λ flag l. Decides flag (P l)) flags links → AllZip (λ flag l. Decides flag (P l)) others links → flags ≡ others
flags_once P [] [] links h k = refl
flags_once P [] (b ∷ others) [] h k = absurd k
flags_once P [] (b ∷ others) (l ∷ links) h k = absurd h
flags_once P (a ∷ flags) [] [] h k = absurd h
flags_once P (a ∷ flags) [] (l ∷ links) h k = absurd k
flags_once P (a ∷ flags) (b ∷ others) [] h k = absurd h
flags_once P (a ∷ flags) (b ∷ others) (l ∷ links) h k = λ i. one_answer a b h.0 k.0 i ∷ flags_once P flags others links h.1 k.1 i

stands_once : (draft : Draft) (n m : Named) → StandsFor draft n → StandsFor draft m → n ≡ m
stands_once draft n m h k =
    h.network ∙ (ap (λ flags. network_of draft (marked flags draft.links) (marked (map not flags) draft.links))
    (flags_once (λ l. IsReached draft (place_of draft.nodes l.tail)) h.flags k.flags draft.links h.active k.active) ∙ sym k.network)

closes_once : (draft : Draft) (a b : Result Named Broken) → ReadsAs draft a → ReadsAs draft b → a ≡ b
closes_once draft (Ok n) (Ok m) h k = ap (λ x. Ok x) (stands_once draft n m h.1 k.1)
closes_once draft (Ok n) (Err b) h k = absurd (first_or_none (BreaksRule draft) closing_rules b.rule k.0 h.0)
closes_once draft (Err a) (Ok m) h k = absurd (first_or_none (BreaksRule draft) closing_rules a.rule h.0 k.0)
closes_once draft (Err a) (Err b) h k = λ i. Err (record { rule = first_once (BreaksRule draft) closing_rules a.rule b.rule h.0 k.0 i; line = (h.1 ∙ sym k.1) i })

lines_once : (lines : Result Draft Broken) (a b : Result Named Broken) → by_lines lines a → by_lines lines b → a ≡ b
lines_once (Err broken) a b h k = h ∙ sym k
lines_once (Ok draft) a b h k = closes_once draft a b h k

bytes_once : (fault : Option LineFault) (lines : Result Draft Broken) (a b : Result Named Broken) → by_bytes fault lines a → by_bytes fault lines b → a ≡ b
bytes_once (Some fault) lines a b h k = h ∙ sym k
bytes_once None lines a b h k = lines_once lines a b h k

pub reads_at_most_once : (text : List ℕ) (a b : Result Named Broken) → Reads text a → Reads text b → a ≡ b
reads_at_most_once text a b h k = bytes_once (first_fault text) (draft_from (content_lines (read_lines text))) a b h k
