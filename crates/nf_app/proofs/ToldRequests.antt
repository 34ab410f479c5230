-- What a call answers whose files are known, within their limits and well formed: that of its command; or an allocation failed, or the
-- shelf.
use Rattle.std.proofs.Common.{◌≡◌, ◌⊎◌, ℕ, ◌<◌, List, length, refl, sym, subst, ◌∙◌, inl, inr, arith, Option, Some, IfSome, Result, Ok, Err}
use Rattle.nf_app.proofs.Common.{All, same_Some, Rose, Named, Broken, IsNamed, Status, ProgramAnswer, Solved, SolvedForever, Shown, Loaded, Checked}
use Rattle.nf_app.proofs.Common.{Quickest, TooManyWalks, Generated, Settled, Distributed, NoMemory, NoRequest, ShelfFailed, ShelfTooLong, Malformed}
use Rattle.nf_app.proofs.Common.{MalformedLoads, MalformedFlows, MalformedRoutes, MalformedReport, Passes, Unbounded, NotThin, Earlier, status_of, Wanted}
use Rattle.nf_app.proofs.Common.{FetchedTo, HasTooMany, NetworkReads, Request, request_of, Ok_not_Err, Some_not_None, same_value, files_of, other_of}
use Rattle.nf_app.proofs.Common.{generated_by, OtherIsText, IsResultOf, Call, Asks, FetchedUpTo, HasNetwork, IsRefusedCall, IsComputed, MayAnswer}
use Rattle.nf_app.proofs.Common.{second_bytes, ToldRequest}
use Rattle.nf_app.proofs.Texts.{Holds, all_held, network_so, same_second, result_there, in_the_middle}
use Rattle.nf_app.proofs.ToldOnce.{one_network}

module _ (call : Call) (t : ToldRequest call) where
  abbrev pub Failed : Type 0
  Failed = Rose call.shelf.faults_before call.shelf.faults_now

  one_request : (request : Request) → Asks call request → request ≡ t.request
  one_request request asks =
      let one : request_of call.words ≡ Some request = asks in
      let other : request_of call.words ≡ Some t.request = t.asks in
      same_Some request t.request (sym one ∙ other)

  -- the network has one reading
  read_once : (request : Request) (read : Result Named Broken) → HasNetwork call request read → read ≡ Ok t.net
  read_once request read r =
      let here : NetworkReads call.shelf (generated_by t.request) (files_of t.request) read =
      subst (λ (q : Request). NetworkReads call.shelf (generated_by q) (files_of q) read) (one_request request r.asks) r.reads in
      one_network (generated_by t.request) t.texts.network read (Ok t.net)
      (network_so call.shelf (generated_by t.request) (files_of t.request) t.texts.network read t.told.network here) t.reads

  -- a file of which too many bytes were read isn't longer than it may be: so the shelf failed
  too_long_fails : (last : Wanted) → FetchedUpTo call last → HasTooMany call.shelf last → Failed
  too_long_fails last r many = by (subst (λ (o : Option (List ℕ)). IfSome o (λ text. Failed ⊎ (last.limit < length text))) held.told many.1)
    where
      held : Holds call.shelf last
      held =
          let to : FetchedTo call.shelf (files_of t.request) last = subst (λ (q : Request). FetchedTo call.shelf (files_of q) last) (one_request r.request r.asks) r.fetched in
          in_the_middle (Holds call.shelf) to.first last to.behind
          (subst (λ (l : List Wanted). All (Holds call.shelf) l) to.files_are (all_held call.shelf t.request t.texts t.told t.fit))

      by : Failed ⊎ (last.limit < length held.text) → Failed
      by (inl rise) = rise
      by (inr longer) = let within = held.within in absurd (omega (arith, longer, within))

  -- ---- the answers
  abbrev pub Answers : ProgramAnswer → Type 0
  Answers answer = (answer ≡ NoMemory) ⊎ ((status_of answer ≡ Status.Shelf) × Failed) ⊎ (IsNamed t.net × IsResultOf t.net (second_bytes t.texts) t.request answer)

  refused : (answer : ProgramAnswer) → IsRefusedCall call answer → Answers answer
  refused NoMemory h = inl refl
  refused NoRequest h = absurd (Some_not_None (request_of call.words) t.request t.asks h.0)
  refused ShelfFailed h = inr (inl (refl, h.2.1))
  refused ShelfTooLong h = inr (inl (refl, too_long_fails h.0 h.1 h.2))
  refused (Malformed broken) h =
      let read : Result Named Broken = Err broken in
      absurd (Ok_not_Err read t.net broken (read_once h.0 read h.1) refl)
  refused (Solved n report) h = absurd h
  refused (SolvedForever n forever) h = absurd h
  refused (Shown n) h = absurd h
  refused (Loaded n horizon loaded) h = absurd h
  refused (Checked n verdict) h = absurd h
  refused (Quickest n flow arrival) h = absurd h
  refused (TooManyWalks n augments walks) h = absurd h
  refused (Generated number rungs n made report) h = absurd h
  refused (Settled n pattern flows) h = absurd h
  refused (Distributed n routes horizon routed) h = absurd h
  refused (MalformedLoads broken) h = absurd h
  refused (MalformedFlows broken) h = absurd h
  refused (MalformedRoutes broken) h = absurd h
  refused (MalformedReport broken) h = absurd h
  refused (Passes at) h = absurd h
  refused Unbounded h = absurd h
  refused NotThin h = absurd h
  refused Earlier h = absurd h

  computed : (answer : ProgramAnswer) → IsComputed call answer → IsNamed t.net × IsResultOf t.net (second_bytes t.texts) t.request answer
  computed answer h =
      let read : Result Named Broken = Ok h.net in
      let same_net : h.net ≡ t.net = same_value read h.net t.net refl (read_once h.request read h.has_network) in
      let same_request : h.request ≡ t.request = one_request h.request h.has_network.asks in
      let second : OtherIsText call.shelf t.request h.second = subst (λ (q : Request). OtherIsText call.shelf q h.second) same_request h.is_second in
      let same_text : IfSome (other_of t.request) (λ file. h.second ≡ second_bytes t.texts) = same_second call.shelf (other_of t.request) h.second t.texts.second second t.told.second in
      let here : IsResultOf h.net h.second t.request answer = subst (λ (q : Request). IsResultOf h.net h.second q answer) same_request h.is_result in
      let there : IsResultOf h.net (second_bytes t.texts) t.request answer = result_there h.net t.request h.second (second_bytes t.texts) answer same_text here in
      (subst (λ (m : Named). IsNamed m) same_net h.named, subst (λ (m : Named). IsResultOf m (second_bytes t.texts) t.request answer) same_net there)

  pub told_answers : (answer : ProgramAnswer) → MayAnswer call answer → Answers answer
  told_answers answer (inl h) = refused answer h
  told_answers answer (inr h) = inr (inr (computed answer h))
