-- What the texts of a request's files give, by those files that are wanted alone; and the known texts of a call.
use Rattle.std.proofs.Common.{◌≡◌, ℕ, ◌≤◌, List, [], ◌∷◌, ◌++◌, length, subst, Option, Some, None, IfSome, Result, slice_get, unwrap_or}
use Rattle.nf_app.proofs.Common.{All, All-cons, All-nil, All-head, All-tail, Named, Broken, Wanted, Visit, input_file, report_file, IsLastText}
use Rattle.nf_app.proofs.Common.{NetworkReads, Request, Solve, SolveForever, Show, Load, Check, Quick, Gen, Settle, Resume, Routes, ProgramAnswer, files_of}
use Rattle.nf_app.proofs.Common.{other_of, IsResultOf, Texts, IsToldText, AreTold, TextFits, BothFit, NetworkIs}
use Rattle.nf_app.proofs.Fetched.{bytes_are, reads_told}

-- ---- the same text of a file that is wanted
pub result_there : (n : Named) (request : Request) (a b : List ℕ) (answer : ProgramAnswer) → IfSome (other_of request) (λ file. a ≡ b)
    → IsResultOf n a request answer → IsResultOf n b request answer
result_there n (Solve file horizon phases patterns) a b answer same g = g
result_there n (SolveForever file phases patterns) a b answer same g = g
result_there n (Show file) a b answer same g = g
result_there n (Load file loads horizon) a b answer same g = subst (λ (t : List ℕ). IsResultOf n t (Load file loads horizon) answer) same g
result_there n (Check file report) a b answer same g = subst (λ (t : List ℕ). IsResultOf n t (Check file report) answer) same g
result_there n (Quick file amount augments) a b answer same g = g
result_there n (Gen number rungs horizon phases patterns) a b answer same g = g
result_there n (Settle file flows) a b answer same g = subst (λ (t : List ℕ). IsResultOf n t (Settle file flows) answer) same g
result_there n (Resume file report horizon phases patterns) a b answer same g = subst (λ (t : List ℕ). IsResultOf n t (Resume file report horizon phases patterns) answer) same g
result_there n (Routes file routes horizon) a b answer same g = subst (λ (t : List ℕ). IsResultOf n t (Routes file routes horizon) answer) same g

-- ---- the known texts of a call
-- a file's bytes are known and within its limit
pub record Holds (shelf : Visit) (file : Wanted) : Type 0 where
  pub text : List ℕ
  pub told : shelf.told file.name ≡ Some text
  pub within : length text ≤ file.limit

module _ (shelf : Visit) where
  held : (file : Wanted) (text : Option (List ℕ)) → IsToldText shelf.told (Some file) text → TextFits (Some file) text → Holds shelf file
  held file (Some text) told within = record { text = text; told = told; within = within }
  held file None told within = absurd told

  one : (file : Wanted) (text : Option (List ℕ)) → IsToldText shelf.told (Some file) text → TextFits (Some file) text → All (Holds shelf) (file ∷ [])
  one file text told within = All-cons (Holds shelf) file [] (held file text told within) (All-nil (Holds shelf))

  two : (file other : Wanted) (text more : Option (List ℕ)) → IsToldText shelf.told (Some file) text → IsToldText shelf.told (Some other) more
      → TextFits (Some file) text → TextFits (Some other) more
      → All (Holds shelf) (file ∷ other ∷ [])
  two file other text more told told' within within' = All-cons (Holds shelf) file (other ∷ []) (held file text told within) (one other more told' within')

  -- all files that a request wants
  pub all_held : (request : Request) (t : Texts) → AreTold shelf.told request t → BothFit request t → All (Holds shelf) (files_of request)
  all_held (Solve file horizon phases patterns) t are fit = one (input_file file) t.network are.network fit.network
  all_held (SolveForever file phases patterns) t are fit = one (input_file file) t.network are.network fit.network
  all_held (Show file) t are fit = one (input_file file) t.network are.network fit.network
  all_held (Load file loads horizon) t are fit = two (input_file file) (input_file loads) t.network t.second are.network are.second fit.network fit.second
  all_held (Check file report) t are fit = two (input_file file) (report_file report) t.network t.second are.network are.second fit.network fit.second
  all_held (Quick file amount augments) t are fit = one (input_file file) t.network are.network fit.network
  all_held (Gen number rungs horizon phases patterns) t are fit = All-nil (Holds shelf)
  all_held (Settle file flows) t are fit = two (input_file file) (input_file flows) t.network t.second are.network are.second fit.network fit.second
  all_held (Resume file report horizon phases patterns) t are fit =
      two (input_file file) (report_file report) t.network t.second are.network are.second fit.network fit.second
  all_held (Routes file routes horizon) t are fit = two (input_file file) (input_file routes) t.network t.second are.network are.second fit.network fit.second

  -- the network is read from the known text
  pub network_so : (made : Option Named) (files : List Wanted) (text : Option (List ℕ)) (read : Result Named Broken)
      → IsToldText shelf.told (slice_get files 0) text → NetworkReads shelf made files read
      → NetworkIs made text read
  network_so (Some n) files text read told r = r
  network_so None [] text read told r = absurd r
  network_so None (file ∷ []) (Some text) read told r = reads_told shelf file text told [] read r
  network_so None (file ∷ []) None read told r = absurd told
  network_so None (file ∷ next ∷ others) (Some text) read told r = reads_told shelf file text told (next ∷ others) read r
  network_so None (file ∷ next ∷ others) None read told r = absurd told

  -- the second text is the known one
  pub same_second : (wanted : Option Wanted) (a : List ℕ) (text : Option (List ℕ)) → IfSome wanted (λ file. IsLastText shelf file a) → IsToldText shelf.told wanted text
      → IfSome wanted (λ file. a ≡ unwrap_or text [])
  same_second None a text is told = tt
  same_second (Some file) a (Some text) is told = bytes_are shelf file text told a is.of_file.told
  same_second (Some file) a None is told = absurd told

-- ---- an element of a list
pub in_the_middle : (P : Wanted → Type 0) (xs : List Wanted) (y : Wanted) (ys : List Wanted) → All P (xs ++ y ∷ ys) → P y
in_the_middle P [] y ys h = All-head P y ys h
in_the_middle P (x ∷ xs) y ys h = in_the_middle P xs y ys (All-tail P x (xs ++ y ∷ ys) h)
