-- The network of the first of the files that were fetched.
use Rattle.std.proofs.Common.{◌≡◌, ℕ, List, [], ◌∷◌, ◌++◌, refl, ap, subst, ◌∙◌, inr}
use Rattle.std.specs.Prelude.{None, Result, Ok, Err}
use Rattle.std.specs.List.{All}
use Rattle.std.proofs.lemmas.List.Elements.{All-cons, All-nil, All-head, All-tail}
use Rattle.nf_text.specs.declared.fault.FileFault.{FileFault}
use Rattle.nf_net_def.specs.declared.NetRule.{NetRule}
use Rattle.nf_net_def.specs.Named.{Named}
use Rattle.nf_net_def.specs.NetLines.{Broken}
use Rattle.nf_net_def.specs.NetFile.{Reads}
use Rattle.nf_net_file.specs.Contents.{IfBroken}
use Rattle.nf_app_answers.specs.declared.refusal.Refusal.{Refusal}
use Rattle.nf_app_answers.specs.Refusals.{refusal_of_net}
use Rattle.nf_app_files.specs.Files.{Wanted, Visit, wanted_names, FitsLimit, FetchedAll, FetchedTo}
use Rattle.nf_app_files.specs.Fetching.{AreTexts, NetworkReads, AreMissing, AreFetched, AreRead}
use Rattle.nf_app_files.proofs.Fetched.{missing_cases}

-- ---- the last of files that were all fetched was reached
record EndsIn (x : Wanted) (xs : List Wanted) : Type 0 where
  first : List Wanted
  last : Wanted
  is : x ∷ xs ≡ first ++ last ∷ []

ends_in : (x : Wanted) (xs : List Wanted) → EndsIn x xs
ends_in x [] = record { first = []; last = x; is = refl }
ends_in x (y ∷ ys) =
    let h = ends_in y ys in
    record { first = x ∷ h.first; last = h.last; is = ap (λ (l : List Wanted). x ∷ l) h.is }

first_fit : (P : Wanted → Type 0) (xs ys : List Wanted) → All P (xs ++ ys) → All P xs
first_fit P [] ys h = All-nil P
first_fit P (x ∷ xs) ys h = All-cons P x xs (All-head P x (xs ++ ys) h) (first_fit P xs ys (All-tail P x (xs ++ ys) h))

pub all_reached : (shelf : Visit) (file : Wanted) (others : List Wanted) → FetchedAll shelf (file ∷ others) → (last : Wanted) × FetchedTo shelf (file ∷ others) last
all_reached shelf file others h =
    let e = ends_in file others in (
      e.last,
      record {
        first = e.first;
        behind = [];
        files_are = e.is;
        asked = h.asked ∙ ap (λ (l : List Wanted). shelf.asked_before ++ wanted_names l) e.is;
        fit = first_fit (FitsLimit shelf) e.first (e.last ∷ []) (subst (λ (l : List Wanted). All (FitsLimit shelf) l) e.is h.fit);
      },
    )

-- ---- the first file is read as a network
module _ (shelf : Visit) (file : Wanted) (text : List ℕ) where
  reads_as : (others : List Wanted) (texts : List (List ℕ)) → AreTexts shelf (file ∷ others) (text ∷ texts) → (read : Result Named Broken) → Reads text read
      → NetworkReads shelf None (file ∷ others) read
  reads_as [] [] are read h = record { text = text; is_last = are; holds = h }
  reads_as [] (more ∷ texts) are read h = absurd are
  reads_as (next ∷ others) texts are read h = record { text = text; of_file = are.0; holds = h }

  others_are : (others : List Wanted) (texts : List (List ℕ)) → AreTexts shelf (file ∷ others) (text ∷ texts) → AreTexts shelf others texts
  others_are [] [] are = tt
  others_are [] (more ∷ texts) are = absurd are
  others_are (next ∷ others) texts are = are.1

module _ (shelf : Visit) (file : Wanted) (others : List Wanted) (text : List ℕ) (texts : List (List ℕ)) (fetched : AreFetched shelf (file ∷ others) (Ok (text ∷ texts))) where
  pub network_read : (n : Named) → Reads text (Ok n) → AreRead shelf file others (Ok (n, texts))
  network_read n h = (fetched.0, reads_as shelf file text others texts fetched.1 (Ok n) h, others_are shelf file text others texts fetched.1)

  pub network_broken : (broken : Broken) → Reads text (Err broken) → AreRead shelf file others (Err (Refusal.Malformed broken.rule broken.line))
  network_broken broken h = (fetched.0, reads_as shelf file text others texts fetched.1 (Err broken) h)

  pub network_wants_memory : AreRead shelf file others (Err Refusal.NoMemory)
  network_wants_memory = inr (all_reached shelf file others fetched.0)

  pub network_refused : (fault : FileFault NetRule) → IfBroken fault (λ broken. Reads text (Err broken)) → AreRead shelf file others (Err (refusal_of_net fault))
  network_refused (FileFault.Broken rule line) h = network_broken (record { rule = rule; line = line }) h
  network_refused FileFault.Memory h = network_wants_memory

-- nothing was read, since a file is missing
pub network_missing : (shelf : Visit) (file : Wanted) (others : List Wanted) (refusal : Refusal) → AreMissing shelf (file ∷ others) refusal → AreRead shelf file others (Err refusal)
network_missing shelf file others refusal h =
    missing_cases shelf (file ∷ others) (λ (r : Refusal). AreRead shelf file others (Err r)) (λ k. k) (λ k. k) (λ k. k) refusal h
