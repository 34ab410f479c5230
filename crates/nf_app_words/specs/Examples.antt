-- Examples of words and their requests.
use Rattle.std.specs.Prelude.{◌≡◌, List, [], ◌∷◌, Some, None, pos, codes}
use Rattle.clap.specs.Walk.{Text}
use Rattle.nf_rational.specs.Rational.{ratio}
use Rattle.nf_app_words.specs.Requests.{Solve, SolveForever, Show, Gen, request_of}

-- the program's name followed by the words
abbrev pub called_with : List Text → List Text
called_with words = codes "nfot" ∷ words

pub record WordsAreRead : Type 0 where
  -- options may be in any order, before and after the files, and also written as `--name=value`
  pub any_order : request_of (called_with (codes "solve" ∷ codes "--horizon=2" ∷ codes "A" ∷ []))
      ≡ Some (Solve (codes "A") (ratio (pos 2) 1) 10000 100000)
  pub between : request_of (called_with (codes "--phases" ∷ codes "007" ∷ codes "solve" ∷ codes "A" ∷ codes "--horizon" ∷ codes "2" ∷ []))
      ≡ Some (Solve (codes "A") (ratio (pos 2) 1) 7 100000)
  pub no_files : request_of (called_with (codes "gen" ∷ codes "--rungs=30" ∷ codes "--number=0" ∷ codes "--horizon=2" ∷ []))
      ≡ Some (Gen 0 30 (ratio (pos 2) 1) 10000 100000)
  -- a flag takes no word; `--forever` replaces the horizon
  pub flag : request_of (called_with (codes "solve" ∷ codes "--forever" ∷ codes "A" ∷ codes "--phases" ∷ codes "7" ∷ []))
      ≡ Some (SolveForever (codes "A") 7 100000)
  pub both : request_of (called_with (codes "solve" ∷ codes "A" ∷ codes "--forever" ∷ codes "--horizon=2" ∷ [])) ≡ None
  pub valued : request_of (called_with (codes "solve" ∷ codes "A" ∷ codes "--forever=true" ∷ [])) ≡ None
  -- each word after `--` is a file
  pub behind : request_of (called_with (codes "show" ∷ codes "--" ∷ codes "--horizon" ∷ [])) ≡ Some (Show (codes "--horizon"))
  -- a required option is missing, a number is negative, an option or flag is repeated, or the command does not have it
  pub missing : request_of (called_with (codes "solve" ∷ codes "A" ∷ [])) ≡ None
  pub negative : request_of (called_with (codes "solve" ∷ codes "A" ∷ codes "--horizon=-1" ∷ [])) ≡ None
  pub twice : request_of (called_with (codes "solve" ∷ codes "A" ∷ codes "--horizon" ∷ codes "1" ∷ codes "--horizon" ∷ codes "2" ∷ [])) ≡ None
  pub flag_twice : request_of (called_with (codes "solve" ∷ codes "A" ∷ codes "--forever" ∷ codes "--forever" ∷ [])) ≡ None
  pub foreign_flag : request_of (called_with (codes "show" ∷ codes "A" ∷ codes "--forever" ∷ [])) ≡ None
  pub foreign : request_of (called_with (codes "solve" ∷ codes "A" ∷ codes "--horizon" ∷ codes "2" ∷ codes "--amount" ∷ codes "1" ∷ [])) ≡ None
  -- no command has this name, and there is no help flag
  pub unknown : request_of (called_with (codes "draw" ∷ codes "A" ∷ [])) ≡ None
  pub help : request_of (called_with (codes "show" ∷ codes "--help" ∷ [])) ≡ None
  -- the program's name alone
  pub nothing : request_of (called_with []) ≡ None
