-- What a request to load links gives, from what was read of its loads file and what its list computes.
use Rattle.std.proofs.Common.{◌≡◌, ◌⊎◌, ℕ, List, [], length, refl, ap, subst, inl, inr, Some, Ok, Err, slice_get, unwrap_or}
use Rattle.nf_app.proofs.Common.{ℚ, 0ℚ, ◌≤ℚ◌, Halt, passes_Q, Stops, Piece, ArePieces, IsNetwork, Named, load_list, was_ok, loads_in, pieces_at, FileFault}
use Rattle.nf_app.proofs.Common.{Refusal, Load, Loaded, refused_answer, refusal_of_loads, refusal_of_halt, loading_list, IsResultOf}
use Rattle.nf_frac_def.specs.declared.Part.TheVariants.{Load as LoadPart}
use Rattle.nf_load_def.specs.Loading.{Loaded as Loading}
use Rattle.nf_load_laws.proofs.Loads.{links_loaded}
use Rattle.nf_side.specs.Faults.{IfBroken}
use Rattle.nf_report_def.specs.declared.LoadRule.{LoadRule}

module _ (n : Named) (file name : List ℕ) (horizon : ℚ) (text : List ℕ) where
  abbrev Answers : Refusal → Type 0
  Answers refusal = (refusal ≡ Refusal.NoMemory) ⊎ IsResultOf n text (Load file name horizon) (refused_answer refusal)

  pub loads_refused : (fault : FileFault LoadRule) → IfBroken fault (λ broken. loads_in n text ≡ Err broken) → Answers (refusal_of_loads fault)
  loads_refused (FileFault.Broken rule line) e = inr (inr (inl (record { rule = rule; line = line }, refl, e)))
  loads_refused FileFault.Memory e = inl refl

  module _ (pieces : List (List Piece)) (read : loads_in n text ≡ Ok pieces) where
    pub loading_stopped : (halt : Halt ℚ) → Stops (λ (q : ℚ). q) halt (loading_list n pieces horizon) → Answers (refusal_of_halt halt)
    loading_stopped (Halt.Passed at) e = inr (inr (inr (at, refl, record { pieces = pieces; read = read; passes = e })))
    loading_stopped Halt.Memory e = inl refl

    pub loading_given : (loaded : List Loading) → loading_list n pieces horizon ≡ Ok loaded → IsNetwork n.net → length pieces ≡ length n.net.links → 0ℚ ≤ℚ horizon
        → ((e : ℕ) → ArePieces (pieces_at pieces e)) → IsResultOf n text (Load file name horizon) (Loaded n horizon loaded)
    loading_given loaded e good many from_0 are = inl (record {
      pieces = pieces;
      read = read;
      loaded = loaded;
      is = refl;
      computed = e;
      loadings = links_loaded passes_Q horizon from_0 n.net.links pieces loaded many good.transits good.capacities
          (λ (i : ℕ) (p : List Piece) (is : slice_get pieces i ≡ Some p). subst (λ (l : List Piece). ArePieces l) (ap (λ o. unwrap_or o []) is) (are i))
          (was_ok LoadPart (load_list passes_Q n.net.links pieces horizon) loaded e);
    })
