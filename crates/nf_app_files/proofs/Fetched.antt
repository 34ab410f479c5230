-- Files that a shelf gave, one after the other.
use Rattle.std.proofs.Common.{◌≡◌, ◌⊎◌, ℕ, ◌<◌, ◌≤◌, List, [], ◌∷◌, ◌++◌, length, refl, ap, subst, ◌∙◌, inl, inr, append_assoc, arith}
use native.Mathlib.Decide.{dec_lt}
use Rattle.std.specs.Prelude.{Option, IfSome, Ok, Err}
use Rattle.std.specs.Result.{IsErrOf}
use Rattle.std.proofs.lemmas.Option.{IfSome_then}
use Rattle.std.proofs.lemmas.List.Elements.{All-cons, All-nil, All-head}
use Rattle.nf_edge.specs.Faults.{Rose}
use Rattle.nf_edge.specs.declared.FetchFault.{FetchFault}
use Rattle.nf_edge.specs.declared.FetchFault.TheVariants.{Failed as ShelfFails, TooLong, Memory}
use Rattle.nf_app_answers.specs.declared.refusal.Refusal.{Refusal}
use Rattle.nf_app_files.specs.Files.{Wanted, Visit, wanted_names, FitsLimit, FetchedNone, FetchedAll, FetchedTo}
use Rattle.nf_app_answers.specs.Refusals.{refusal_of_fetch}
use Rattle.nf_app_files.specs.Fetching.{IsTextOf, IsLastText, AreMissing, AreFetched}

-- ---- files that aren't all there
-- what holds of each of the three reasons holds of every refusal that is one of them
pub missing_cases : (shelf : Visit) (files : List Wanted) (P : Refusal → Type 0)
    → (AreMissing shelf files Refusal.NoMemory → P Refusal.NoMemory)
    → (AreMissing shelf files Refusal.ShelfFailed → P Refusal.ShelfFailed)
    → (AreMissing shelf files Refusal.ShelfTooLong → P Refusal.ShelfTooLong)
    → (refusal : Refusal) → AreMissing shelf files refusal → P refusal
missing_cases shelf files P for_memory failed too_long Refusal.NoMemory h = for_memory h
missing_cases shelf files P for_memory failed too_long Refusal.NoRequest h = absurd h
missing_cases shelf files P for_memory failed too_long Refusal.ShelfFailed h = failed h
missing_cases shelf files P for_memory failed too_long Refusal.ShelfTooLong h = too_long h
missing_cases shelf files P for_memory failed too_long (Refusal.Malformed rule line) h = absurd h
missing_cases shelf files P for_memory failed too_long (Refusal.MalformedLoads rule line) h = absurd h
missing_cases shelf files P for_memory failed too_long (Refusal.MalformedFlows rule line) h = absurd h
missing_cases shelf files P for_memory failed too_long (Refusal.MalformedRoutes rule line) h = absurd h
missing_cases shelf files P for_memory failed too_long (Refusal.MalformedReport rule line) h = absurd h
missing_cases shelf files P for_memory failed too_long (Refusal.Passes at) h = absurd h
missing_cases shelf files P for_memory failed too_long Refusal.Unbounded h = absurd h
missing_cases shelf files P for_memory failed too_long Refusal.NotThin h = absurd h
missing_cases shelf files P for_memory failed too_long Refusal.Earlier h = absurd h

-- ---- one file
module _ (shelf : Visit) (file : Wanted) where
  abbrev IsAsked : Type 0
  IsAsked = shelf.asked_now ≡ shelf.asked_before ++ file.name ∷ []

  one_reached : IsAsked → FetchedTo shelf (file ∷ []) file
  one_reached asked = record { first = []; behind = []; files_are = refl; asked = asked; fit = All-nil (FitsLimit shelf) }

  -- the file isn't given, for some fault
  pub one_missing : {T : Type 0} (fault : FetchFault) → (IsErrOf {T = T} (Err fault) ShelfFails → Rose shelf.faults_before shelf.faults_now)
      → (IsErrOf {T = T} (Err fault) TooLong → file.limit < shelf.taken)
      → (file.limit < shelf.taken → IsErrOf {T = T} (Err fault) TooLong ⊎ IsErrOf {T = T} (Err fault) Memory)
      → (IsErrOf {T = T} (Err fault) TooLong → IfSome (shelf.told file.name) (λ text. Rose shelf.faults_before shelf.faults_now ⊎ (file.limit < length text)))
      → (IsAsked ⊎ (IsErrOf {T = T} (Err fault) Memory × FetchedNone shelf)) → AreMissing shelf (file ∷ []) (refusal_of_fetch fault)
  one_missing {T} ShelfFails failed long too_long told (inl asked) = (file, one_reached asked, (omega (arith, not_more), failed refl))
    where
      neither : (IsErrOf {T = T} (Err ShelfFails) TooLong ⊎ IsErrOf {T = T} (Err ShelfFails) Memory) → ⊥
      neither (inl e) = cc
      neither (inr e) = cc

      not_more : file.limit < shelf.taken → ⊥
      not_more more = neither (too_long more)
  one_missing ShelfFails failed long too_long told (inr none) = let e = none.0 in let never : ⊥ = cc in absurd never
  one_missing TooLong failed long too_long told (inl asked) = (file, one_reached asked, (long refl, told refl))
  one_missing TooLong failed long too_long told (inr none) = let e = none.0 in let never : ⊥ = cc in absurd never
  one_missing Memory failed long too_long told (inl asked) = inr (file, one_reached asked)
  one_missing Memory failed long too_long told (inr none) = inl none.1

-- ---- one file more is wanted, but the first isn't given
module _ (shelf : Visit) (file next : Wanted) where
  still_reached : (last : Wanted) → FetchedTo shelf (file ∷ []) last → FetchedTo shelf (file ∷ next ∷ []) last
  still_reached last h = record {
    first = h.first;
    behind = h.behind ++ next ∷ [];
    files_are = ap (λ (l : List Wanted). l ++ next ∷ []) h.files_are ∙ append_assoc h.first (last ∷ h.behind) (next ∷ []);
    asked = h.asked;
    fit = h.fit;
  }

  pub first_missing : (refusal : Refusal) → AreMissing shelf (file ∷ []) refusal → AreMissing shelf (file ∷ next ∷ []) refusal
  first_missing refusal h = missing_cases shelf (file ∷ []) (λ (r : Refusal). AreMissing shelf (file ∷ next ∷ []) r) for_memory
      (λ k. (k.0, still_reached k.0 k.1, k.2)) (λ k. (k.0, still_reached k.0 k.1, k.2)) refusal h
    where
      for_memory : AreMissing shelf (file ∷ []) Refusal.NoMemory → AreMissing shelf (file ∷ next ∷ []) Refusal.NoMemory
      for_memory (inl none) = inl none
      for_memory (inr k) = inr (k.0, still_reached k.0 k.1)

-- ---- a second file is fetched behind the first
-- what a shelf did in two calls, of which the second begins where the first ends
abbrev pub both_visits : Visit → Visit → Visit
both_visits one other = record {
  told = one.told;
  asked_before = one.asked_before;
  asked_now = other.asked_now;
  faults_before = one.faults_before;
  faults_now = other.faults_now;
  taken = other.taken;
}

pub record Follows (one other : Visit) : Type 0 where
  pub asked : other.asked_before ≡ one.asked_now
  pub faults : other.faults_before ≡ one.faults_now
  pub told : (name : List ℕ) → other.told name ≡ one.told name
  pub rises : one.faults_before ≤ one.faults_now
  pub rises_more : other.faults_before ≤ other.faults_now

-- a count that rose, whatever it did before
rose_later : (first before now : ℕ) → first ≤ before → before ≤ now → Rose before now → Rose first now
rose_later first before now a b (inl rose) = inl (omega arith)
rose_later first before now a b (inr full) = at (dec_lt first before)
  where
    at : Dec (first < before) → Rose first now
    at (yes less) = inl (omega arith)
    at (no same) = inr (omega (arith, same, full))

module _ (one other : Visit) (f g : Wanted) (follows : Follows one other) (first : FetchedAll one (f ∷ [])) where
  abbrev both : Visit
  both = both_visits one other

  rose : Rose other.faults_before other.faults_now → Rose both.faults_before both.faults_now
  rose r = rose_later one.faults_before one.faults_now other.faults_now follows.rises
      (subst (λ (n : ℕ). n ≤ other.faults_now) follows.faults follows.rises_more) (subst (λ (n : ℕ). Rose n other.faults_now) follows.faults r)

  asked_more : (names : List (List ℕ)) → other.asked_now ≡ other.asked_before ++ names → both.asked_now ≡ both.asked_before ++ f.name ∷ names
  asked_more names e = e ∙ ap (λ (l : List (List ℕ)). l ++ names) (follows.asked ∙ first.asked) ∙ append_assoc one.asked_before (f.name ∷ []) names

  fits : (file : Wanted) → FitsLimit other file → FitsLimit both file
  fits file h = subst (λ (o : Option (List ℕ)). IfSome o (λ text. length text ≤ file.limit)) (follows.told file.name) h

  first_fits : FitsLimit both f
  first_fits = All-head (FitsLimit one) f [] first.fit

  reached_more : (last : Wanted) → FetchedTo other (g ∷ []) last → FetchedTo both (f ∷ g ∷ []) last
  reached_more last h = record {
    first = f ∷ h.first;
    behind = h.behind;
    files_are = ap (λ (l : List Wanted). f ∷ l) h.files_are;
    asked = asked_more (wanted_names (h.first ++ last ∷ [])) h.asked;
    fit = All-cons (FitsLimit both) f h.first first_fits (λ k d within. fits _ (h.fit k d within));
  }

  pub second_missing : (refusal : Refusal) → AreMissing other (g ∷ []) refusal → AreMissing both (f ∷ g ∷ []) refusal
  second_missing refusal h = missing_cases other (g ∷ []) (λ (r : Refusal). AreMissing both (f ∷ g ∷ []) r) for_memory
      (λ k. (k.0, reached_more k.0 k.1, (k.2.0, rose k.2.1))) too_long refusal h
    where
      for_memory : AreMissing other (g ∷ []) Refusal.NoMemory → AreMissing both (f ∷ g ∷ []) Refusal.NoMemory
      for_memory (inl none) = inr (f, record { first = []; behind = g ∷ []; files_are = refl; asked = none ∙ follows.asked ∙ first.asked; fit = All-nil (FitsLimit both) })
      for_memory (inr k) = inr (k.0, reached_more k.0 k.1)

      either : {P : Type 0} → (Rose other.faults_before other.faults_now ⊎ P) → (Rose both.faults_before both.faults_now ⊎ P)
      either (inl r) = inl (rose r)
      either (inr p) = inr p

      too_long : AreMissing other (g ∷ []) Refusal.ShelfTooLong → AreMissing both (f ∷ g ∷ []) Refusal.ShelfTooLong
      too_long k =
          let there = subst (λ (o : Option (List ℕ)). IfSome o (λ text. Rose other.faults_before other.faults_now ⊎ (k.0.limit < length text))) (follows.told k.0.name) k.2.1 in
          (k.0, reached_more k.0 k.1, (k.2.0, IfSome_then (one.told k.0.name) there (λ text longer. either longer)))

  -- bytes of the first file are still such, and so are those of the last one
  text_of : (text : List ℕ) → IsTextOf one f text → IsTextOf both f text
  text_of text h = record { within = h.within; told = h.told }

  last_text : (text : List ℕ) → IsLastText other g text → IsLastText both g text
  last_text text h = record {
    of_file = record { within = h.of_file.within; told = subst (λ (o : Option (List ℕ)). IfSome o (λ held. text ≡ held)) (follows.told g.name) h.of_file.told };
    taken = h.taken;
  }

  pub both_fetched : (text more : List ℕ) → IsTextOf one f text → AreFetched other (g ∷ []) (Ok (more ∷ [])) → AreFetched both (f ∷ g ∷ []) (Ok (text ∷ more ∷ []))
  both_fetched text more is h = (
    record {
      asked = asked_more (g.name ∷ []) h.0.asked;
      fit = All-cons (FitsLimit both) f (g ∷ []) first_fits (All-cons (FitsLimit both) g [] (fits g (All-head (FitsLimit other) g [] h.0.fit)) (All-nil (FitsLimit both)));
      taken = h.0.taken;
    },
    (text_of text is, last_text more h.1),
  )
