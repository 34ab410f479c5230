-- A call shows the one answer that its words have with the known bytes of their files; or an allocation failed, or the shelf did.
use Rattle.std.proofs.Common.{◌≡◌, ◌⊎◌, ℕ, ◌<◌, List, [], ◌∷◌, length, refl, sym, subst, inl, inr, arith, Option, Some, None, IfSome, IsSome, IsSomeAnd}
use Rattle.std.proofs.Common.{Result, Ok, Err, slice_get}
use Rattle.nf_app.proofs.Common.{All, All-head, All-tail, Rose, Named, Broken, Status, ProgramAnswer, Solved, SolvedForever, Shown, Loaded, Checked}
use Rattle.nf_app.proofs.Common.{Quickest, TooManyWalks, Generated, Settled, Distributed, NoMemory, NoRequest, ShelfFailed, ShelfTooLong, Malformed}
use Rattle.nf_app.proofs.Common.{MalformedLoads, MalformedFlows, MalformedRoutes, MalformedReport, Passes, Unbounded, NotThin, Earlier, Wanted, Visit}
use Rattle.nf_app.proofs.Common.{FitsLimit, FetchedAll, FetchedTo, HasTooMany, Took, IsShown, IsShownWhole, Request, request_of, files_of, network_file}
use Rattle.nf_app.proofs.Common.{other_of, generated_by, Call, Run, IsRefusedCall, IsComputed, MayAnswer, Ran, Texts, second_bytes, IsToldText, AreTold}
use Rattle.nf_app.proofs.Common.{TextFits, TellsAll, BothFit, TextsGive, too_long, malformed, answered, IsToldAnswer, no_request, by_texts}
use Rattle.nf_edge.proofs.Rising.{rose}
use Rattle.nf_app.specs.Only.{Shows, the_answer, no_memory, shelf_failed, ShowsOnlyThat}
use Rattle.nf_app.proofs.Texts.{Holds, all_held, network_so, same_second, result_there, in_the_middle}
use Rattle.nf_app.proofs.ToldOnce.{one_told}

-- where the output didn't fail, it took the whole text
pub whole : (answer : ProgramAnswer) (out err : Took) (status : Status) → ¬ Rose out.faults_before out.faults_now → IsShown answer out err status → IsShownWhole answer out err status
whole answer out err status takes (inl h) = h
whole answer out err status takes (inr h) = absurd (takes (rose out.faults_before out.faults_now h.took.cause))

-- ---- the texts of files that are all known
module _ (shelf : Visit) where
  abbrev Known : Wanted → Type 0
  Known file = IsSome (shelf.told file.name)

  abbrev text_at : Option Wanted → Option (List ℕ)
  text_at None = None
  text_at (Some file) = shelf.told file.name

  is_text : (o : Option (List ℕ)) → IsSome o → IsSomeAnd o (λ bytes. o ≡ Some bytes)
  is_text (Some text) some = refl
  is_text None some = absurd (cc)

  told_at : (wanted : Option Wanted) → IfSome wanted Known → IsToldText shelf.told wanted (text_at wanted)
  told_at None known = refl
  told_at (Some file) known = is_text (shelf.told file.name) known

  first_of_all : (P : Wanted → Type 0) (files : List Wanted) → All P files → IfSome (slice_get files 0) P
  first_of_all P [] h = tt
  first_of_all P (file ∷ files) h = All-head P file files h

  second_of_all : (P : Wanted → Type 0) (files : List Wanted) → All P files → IfSome (slice_get files 1) P
  second_of_all P [] h = tt
  second_of_all P (file ∷ []) h = tt
  second_of_all P (file ∷ other ∷ files) h = All-head P other files (All-tail P file (other ∷ files) h)

  fits_at : (wanted : Option Wanted) → IfSome wanted (FitsLimit shelf) → TextFits wanted (text_at wanted)
  fits_at None fits = tt
  fits_at (Some file) fits = fits

-- ---- a request whose files are all known
module _ (call : Call) (request : Request) (asks : request_of call.words ≡ Some request) (known : All (Known call.shelf) (files_of request)) where
  abbrev texts : Texts
  texts = record { network = text_at call.shelf (network_file request); second = text_at call.shelf (other_of request) }

  are_told : AreTold call.shelf.told request texts
  are_told = record {
    network = told_at call.shelf (network_file request) (first_of_all call.shelf (Known call.shelf) (files_of request) known);
    second = told_at call.shelf (other_of request) (second_of_all call.shelf (Known call.shelf) (files_of request) known);
  }

  is_told : (answer : ProgramAnswer) → TextsGive request texts answer → IsToldAnswer call.words call.shelf.told answer
  is_told answer g = by_texts request texts answer asks are_told g

  fit : FetchedAll call.shelf (files_of request) → BothFit request texts
  fit fetched = record {
    network = fits_at call.shelf (network_file request) (first_of_all call.shelf (FitsLimit call.shelf) (files_of request) fetched.fit);
    second = fits_at call.shelf (other_of request) (second_of_all call.shelf (FitsLimit call.shelf) (files_of request) fetched.fit);
  }

  -- a file that is longer than it may be
  not_both : (last : Wanted) (to : FetchedTo call.shelf (files_of request) last) → IfSome (call.shelf.told last.name) (λ text. last.limit < length text) → ¬ BothFit request texts
  not_both last to longer both =
      let all : All (Holds call.shelf) (files_of request) = all_held call.shelf request texts are_told both in
      let held : Holds call.shelf last = in_the_middle (Holds call.shelf) to.first last to.behind (subst (λ (l : List Wanted). All (Holds call.shelf) l) to.files_are all) in
      let more : last.limit < length held.text = subst (λ (o : Option (List ℕ)). IfSome o (λ text. last.limit < length text)) held.told longer in
      let within = held.within in
      omega (arith, more, within)

  too_long_so : (last : Wanted) → FetchedTo call.shelf (files_of request) last → HasTooMany call.shelf last
      → IsToldAnswer call.words call.shelf.told ShelfTooLong ⊎ Rose call.shelf.faults_before call.shelf.faults_now
  too_long_so last to many = by (call.shelf.told last.name) refl known_last many.1
    where
      known_last : Known call.shelf last
      known_last = in_the_middle (Known call.shelf) to.first last to.behind (subst (λ (l : List Wanted). All (Known call.shelf) l) to.files_are known)

      by : (o : Option (List ℕ)) → call.shelf.told last.name ≡ o → IsSome o → IfSome o (λ text. Rose call.shelf.faults_before call.shelf.faults_now ⊎ (last.limit < length text))
          → IsToldAnswer call.words call.shelf.told ShelfTooLong ⊎ Rose call.shelf.faults_before call.shelf.faults_now
      by (Some text) e some (inl rise) = inr rise
      by (Some text) e some (inr longer) =
          inl (is_told ShelfTooLong (too_long (not_both last to (subst (λ (o : Option (List ℕ)). IfSome o (λ held. last.limit < length held)) (sym e) longer))))
      by None e some h = absurd (cc)

-- ---- the answers
module _ (run : Run) (all : TellsAll run.call.words run.call.shelf.told) where
  abbrev call : Call
  call = run.call

  known_files : (request : Request) → request_of call.words ≡ Some request → All (Known call.shelf) (files_of request)
  known_files request asks = subst (λ (o : Option Request). IfSome o (λ r. All (Known call.shelf) (files_of r))) asks all

  shows_it : (answer : ProgramAnswer) → IsToldAnswer call.words call.shelf.told answer → IsShown answer run.out run.err run.status → Shows run
  shows_it answer is shown = the_answer answer is (λ other other_is. one_told call.words call.shelf.told other answer other_is is) shown

  computed_shows : (answer : ProgramAnswer) → IsComputed call answer → IsShown answer run.out run.err run.status → Shows run
  computed_shows answer h shown =
      let asks = h.has_network.asks in
      let known = known_files h.request asks in
      let net : Result Named Broken = Ok h.net in
      let told : AreTold call.shelf.told h.request (texts call h.request asks known) = are_told call h.request asks known in
      let same : IfSome (other_of h.request) (λ file. h.second ≡ second_bytes (texts call h.request asks known)) =
      same_second call.shelf (other_of h.request) h.second (texts call h.request asks known).second h.is_second told.second in
      shows_it answer (is_told call h.request asks known answer (answered h.net answer (fit call h.request asks known h.has_network.fetched)
      (network_so call.shelf (generated_by h.request) (files_of h.request) (texts call h.request asks known).network net told.network h.has_network.reads)
      (result_there h.net h.request h.second (second_bytes (texts call h.request asks known)) answer same h.is_result))) shown

  refused_shows : (answer : ProgramAnswer) → IsRefusedCall call answer → IsShown answer run.out run.err run.status → Shows run
  refused_shows NoMemory h (inl s) = no_memory s
  refused_shows NoMemory h (inr s) = absurd s.has_text
  refused_shows NoRequest h shown = shows_it NoRequest (no_request h.0) shown
  refused_shows ShelfFailed h (inl s) = shelf_failed ShelfFailed refl h.2.1 s
  refused_shows ShelfFailed h (inr s) = absurd s.has_text
  refused_shows ShelfTooLong h (inr s) = absurd s.has_text
  refused_shows ShelfTooLong h (inl s) = by (too_long_so call h.1.request h.1.asks (known_files h.1.request h.1.asks) h.0 h.1.fetched h.2)
    where
      by : IsToldAnswer call.words call.shelf.told ShelfTooLong ⊎ Rose call.shelf.faults_before call.shelf.faults_now → Shows run
      by (inl is) = shows_it ShelfTooLong is (inl s)
      by (inr rise) = shelf_failed ShelfTooLong refl rise s
  refused_shows (Malformed broken) h shown =
      let asks = h.1.asks in
      let known = known_files h.0 asks in
      let net : Result Named Broken = Err broken in
      let told : AreTold call.shelf.told h.0 (texts call h.0 asks known) = are_told call h.0 asks known in
      shows_it (Malformed broken) (is_told call h.0 asks known (Malformed broken) (malformed broken (fit call h.0 asks known h.1.fetched)
      (network_so call.shelf (generated_by h.0) (files_of h.0) (texts call h.0 asks known).network net told.network h.1.reads))) shown
  refused_shows (Solved n report) h shown = absurd h
  refused_shows (SolvedForever n forever) h shown = absurd h
  refused_shows (Shown n) h shown = absurd h
  refused_shows (Loaded n horizon loaded) h shown = absurd h
  refused_shows (Checked n verdict) h shown = absurd h
  refused_shows (Quickest n flow arrival) h shown = absurd h
  refused_shows (TooManyWalks n augments walks) h shown = absurd h
  refused_shows (Generated number rungs n made report) h shown = absurd h
  refused_shows (Settled n pattern flows) h shown = absurd h
  refused_shows (Distributed n routes horizon routed) h shown = absurd h
  refused_shows (MalformedLoads broken) h shown = absurd h
  refused_shows (MalformedFlows broken) h shown = absurd h
  refused_shows (MalformedRoutes broken) h shown = absurd h
  refused_shows (MalformedReport broken) h shown = absurd h
  refused_shows (Passes at) h shown = absurd h
  refused_shows Unbounded h shown = absurd h
  refused_shows NotThin h shown = absurd h
  refused_shows Earlier h shown = absurd h

  shows_answer : (answer : ProgramAnswer) → MayAnswer call answer → IsShown answer run.out run.err run.status → Shows run
  shows_answer answer (inl h) shown = refused_shows answer h shown
  shows_answer answer (inr h) shown = computed_shows answer h shown

pub shows_only : (run : Run) → Ran run → ShowsOnlyThat run
shows_only run ran all = shows_answer run all ran.answer ran.comes ran.shown
