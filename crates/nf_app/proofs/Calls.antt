-- What a call answers, from what was fetched for its request and what the request gives.
use Rattle.std.proofs.Common.{Vec, Global, ◌≡◌, ℕ, List, [], ◌∷◌, refl, sym, ap, subst, ◌∙◌, inl, inr, append-nil, Option, None, Some, slice_get, IfSome}
use Rattle.std.proofs.Common.{Result, Ok, Err, IfOk, IfErr}
use Rattle.nf_app.proofs.Common.{All-nil, with_more, Named, Broken, IsNamed, Computed, Refusal, Status, ProgramAnswer, NoMemory, status_of, out_text}
use Rattle.nf_app.proofs.Common.{err_text, refused_answer, Wanted, Visit, FitsLimit, FetchedNone, FetchedAll, FetchedTo, IsLastText, NetworkReads, AreRead}
use Rattle.nf_app.proofs.Common.{Took, TookAll, TookText, IsShown, Request, request_of, files_of, generated_by, OtherIsText, IsResultOf, Call, FetchedUpTo}
use Rattle.nf_app.proofs.Common.{HasNetwork, IsRefusedCall, MayAnswer, IsGathered, FindsResult, AnswersCall}
use Rattle.std.specs.Result.{result_map_both}
use Rattle.nf_app_files.proofs.Networks.{all_reached}
use Rattle.nf_report_pages.proofs.Gathering.{nothing_more}

-- ---- a request with its files
module _ (words : List (List ℕ)) (shelf : Visit) (request : Request) (asks : request_of words ≡ Some request) (file : Wanted) (others : List Wanted)
    (files_are : files_of request ≡ file ∷ others) (from_file : generated_by request ≡ None) where
  abbrev call : Call
  call = record { words = words; shelf = shelf }

  reached : (last : Wanted) → FetchedTo shelf (file ∷ others) last → FetchedUpTo call last
  reached last h = record { request = request; asks = asks; fetched = subst (λ (l : List Wanted). FetchedTo shelf l last) (sym files_are) h }

  read_of : (read : Result Named Broken) → FetchedAll shelf (file ∷ others) → NetworkReads shelf None (file ∷ others) read → HasNetwork call request read
  read_of read h r = record {
    asks = asks;
    fetched = subst (λ (l : List Wanted). FetchedAll shelf l) (sym files_are) h;
    reads = subst (λ (o : Option Named). NetworkReads shelf o (files_of request) read) (sym from_file)
        (subst (λ (l : List Wanted). NetworkReads shelf None l read) (sym files_are) r);
  }

  -- there is no network
  pub refused : (refusal : Refusal) → AreRead shelf file others (Err refusal) → MayAnswer call (refused_answer refusal)
  refused Refusal.NoMemory (inl none) = inl (inl none)
  refused Refusal.NoMemory (inr h) = inl (inr (h.0, reached h.0 h.1))
  refused Refusal.NoRequest h = absurd h
  refused Refusal.ShelfFailed h = inl (h.0, reached h.0 h.1, h.2)
  refused Refusal.ShelfTooLong h = inl (h.0, reached h.0 h.1, h.2)
  refused (Refusal.Malformed rule line) h = inl (request, read_of (Err (record { rule = rule; line = line })) h.0 h.1)
  refused (Refusal.MalformedLoads rule line) h = absurd h
  refused (Refusal.MalformedFlows rule line) h = absurd h
  refused (Refusal.MalformedRoutes rule line) h = absurd h
  refused (Refusal.MalformedReport rule line) h = absurd h
  refused (Refusal.Passes at) h = absurd h
  refused Refusal.Unbounded h = absurd h
  refused Refusal.NotThin h = absurd h
  refused Refusal.Earlier h = absurd h

  -- all files were fetched, and the first reads as a network
  read_with : (n : Named) (texts : List (List ℕ)) → AreRead shelf file others (Ok (n, texts)) → HasNetwork call request (Ok n)
  read_with n texts h = read_of (Ok n) h.0 h.1

-- ---- what is gathered for a request
-- where no other file is wanted, any bytes fit
pub any_fit : (r : Result (Named × Vec ℕ Global) Refusal) → IfOk r (λ got. Unit {0})
any_fit (Ok got) = tt
any_fit (Err refusal) = tt

-- with one file
module _ (words : List (List ℕ)) (shelf : Visit) (request : Request) (asks : request_of words ≡ Some request) (file : Wanted)
    (files_are : files_of request ≡ file ∷ []) (from_file : generated_by request ≡ None) where
  pub gathered_one : (r : Result (Named × Vec ℕ Global) Refusal) → AreRead shelf file [] (result_map_both (λ got. (got.0, [])) (λ refusal. refusal) r)
      → IsGathered (record { words = words; shelf = shelf }) request (result_map_both (λ got. (got.0, got.1.items)) (λ refusal. refusal) r)
  gathered_one (Ok got) h = (
    read_with words shelf request asks file [] files_are from_file got.0 [] h,
    subst (λ (l : List Wanted). IfSome (slice_get l 1) (λ other. IsLastText shelf other got.1.items)) (sym files_are) tt,
  )
  gathered_one (Err refusal) h = refused words shelf request asks file [] files_are from_file refusal h

-- with another
module _ (words : List (List ℕ)) (shelf : Visit) (request : Request) (asks : request_of words ≡ Some request) (file other : Wanted)
    (files_are : files_of request ≡ file ∷ other ∷ []) (from_file : generated_by request ≡ None) where
  pub gathered_two : (r : Result (Named × Vec ℕ Global) Refusal) → AreRead shelf file (other ∷ []) (result_map_both (λ read. (read.0, read.1.items ∷ [])) (λ refusal. refusal) r)
      → IsGathered (record { words = words; shelf = shelf }) request (result_map_both (λ got. (got.0, got.1.items)) (λ refusal. refusal) r)
  gathered_two (Ok got) h = (
    read_with words shelf request asks file (other ∷ []) files_are from_file got.0 (got.1.items ∷ []) h,
    subst (λ (l : List Wanted). IfSome (slice_get l 1) (λ more. IsLastText shelf more got.1.items)) (sym files_are) h.2,
  )
  gathered_two (Err refusal) h = refused words shelf request asks file (other ∷ []) files_are from_file refusal h

-- without files, where the network is generated
module _ (words : List (List ℕ)) (shelf : Visit) (request : Request) (asks : request_of words ≡ Some request) (no_files : files_of request ≡ [])
    (n : Named) (made : generated_by request ≡ Some n) (untouched : FetchedNone shelf) where
  fetched_nothing : FetchedAll shelf []
  fetched_nothing = record { asked = untouched ∙ sym (append-nil shelf.asked_before); fit = All-nil (FitsLimit shelf); taken = tt }

  generated_read : HasNetwork (record { words = words; shelf = shelf }) request (Ok n)
  generated_read = record {
    asks = asks;
    fetched = subst (λ (l : List Wanted). FetchedAll shelf l) (sym no_files) fetched_nothing;
    reads = subst (λ (o : Option Named). NetworkReads shelf o (files_of request) (Ok n)) (sym made) refl;
  }

  pub gathered_none : (r : Result (Named × Vec ℕ Global) Refusal) → IfOk r (λ got. got.0 ≡ n) → IfErr r (λ refusal. refusal ≡ Refusal.NoMemory)
      → IsGathered (record { words = words; shelf = shelf }) request (result_map_both (λ got. (got.0, got.1.items)) (λ refusal. refusal) r)
  gathered_none (Ok got) same refused = (
    subst (λ (m : Named). HasNetwork (record { words = words; shelf = shelf }) request (Ok m)) (sym same) generated_read,
    subst (λ (l : List Wanted). IfSome (slice_get l 1) (λ other. IsLastText shelf other got.1.items)) (sym no_files) tt,
  )
  gathered_none (Err refusal) same refused = subst (λ (r : Refusal). MayAnswer (record { words = words; shelf = shelf }) (refused_answer r)) (sym refused) (inl (inl untouched))

-- ---- what a request gives with its network
module _ (call : Call) (request : Request) (n : Named) (named : IsNamed n) (read : HasNetwork call request (Ok n)) (second : List ℕ)
    (is_second : OtherIsText call.shelf request second) where
  computed : (answer : ProgramAnswer) → IsResultOf n second request answer → MayAnswer call answer
  computed answer g = inr (record { request = request; net = n; has_network = read; named = named; second = second; is_second = is_second; is_result = g })

  -- allocation may fail after the last file
  wants_memory : MayAnswer call NoMemory
  wants_memory = inl (behind (files_of request) read.fetched refl)
    where
      behind : (files : List Wanted) → FetchedAll call.shelf files → files_of request ≡ files → IsRefusedCall call NoMemory
      behind [] h e = inl (h.asked ∙ append-nil call.shelf.asked_before)
      behind (file ∷ others) h e =
          let last = all_reached call.shelf file others h in
          inr (last.0, record { request = request; asks = read.asks; fetched = subst (λ (l : List Wanted). FetchedTo call.shelf l last.0) (sym e) last.1 })

  pub given : (found : Computed) → FindsResult n second request (Ok found) → AnswersCall call (Ok (record { net = n; found = found }))
  given found g = (computed _ g.0, g.1)

  pub given_refusal : (refusal : Refusal) → FindsResult n second request (Err refusal) → AnswersCall call (Err refusal)
  given_refusal refusal (inl none) = subst (λ (r : Refusal). MayAnswer call (refused_answer r)) (sym none) wants_memory
  given_refusal refusal (inr g) = computed (refused_answer refusal) g

-- ---- a refusal has no text, so a sink that took nothing took it whole
pub no_text : (refusal : Refusal) → out_text (refused_answer refusal) ≡ []
no_text Refusal.NoMemory = refl
no_text Refusal.NoRequest = refl
no_text Refusal.ShelfFailed = refl
no_text Refusal.ShelfTooLong = refl
no_text (Refusal.Malformed rule line) = refl
no_text (Refusal.MalformedLoads rule line) = refl
no_text (Refusal.MalformedFlows rule line) = refl
no_text (Refusal.MalformedRoutes rule line) = refl
no_text (Refusal.MalformedReport rule line) = refl
no_text (Refusal.Passes at) = refl
no_text Refusal.Unbounded = refl
no_text Refusal.NotThin = refl
no_text Refusal.Earlier = refl

pub took_no_text : (took : Option (List ℕ)) (refusal : Refusal) → took ≡ with_more took (out_text (refused_answer refusal))
took_no_text took refusal = nothing_more took ∙ ap (λ (text : List ℕ). with_more took text) (sym (no_text refusal))

pub refused_shown : (answer : ProgramAnswer) (out err : Took) (status : Status) → TookAll out (out_text answer) → out.faults_now ≡ out.faults_before
    → status ≡ status_of answer → TookText err (err_text answer) → IsShown answer out err status
refused_shown answer out err status took none is told = inl (record { status_is = is; took = record { all = took; no_fault = none }; told = told })
