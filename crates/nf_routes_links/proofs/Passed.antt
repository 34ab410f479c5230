-- Where an operation passes, so does what it is part of.
use Rattle.std.proofs.Common.{◌≡◌, Bool, true, List, [], ◌∷◌, ◌++◌, refl, sym, ap, ◌∙◌, Ok, Err}
use Rattle.nf_routes_links.proofs.Common.{ℚ, Load, PassedAt, Passing, Checked, at_part, ◌>>=◌, Point, Piece, after_err, checked_short, checked_cumulative}
use Rattle.nf_routes_links.proofs.Common.{Route, begin_if, next_if, last_entry, next_entry, first_entry}

pub chain : {A B C : Type 0} (r : Checked A) (g : A → Checked B) (f : B → Checked C) → ((r >>= g) >>= f) ≡ (r >>= λ a. g a >>= f)
chain (Ok x) g f = refl
chain (Err p) g f = refl

module _ (passes : Passing) (b : Bool) (yes : b ≡ true) (p : PassedAt ℚ) where
  pub begin_passes : (horizon : ℚ) (route : Route) (pieces : List Piece) (sent : List (List Point)) → pieces ≡ route.pieces
      → at_part Load (first_entry passes pieces horizon) ≡ Err p → at_part Load (begin_if passes b horizon route sent) ≡ Err p
  begin_passes horizon route pieces sent same e =
      ap (λ (t : Bool). at_part Load (begin_if passes t horizon route sent)) yes
      ∙ sym (ap (at_part Load) (chain (checked_cumulative passes route.pieces horizon) (λ (a : List Point). checked_short passes a) (λ (entry : List Point). Ok (entry ∷ []))))
      ∙ after_err Load (first_entry passes route.pieces horizon) (λ (entry : List Point). Ok (entry ∷ [])) p
      (ap (λ (l : List Piece). at_part Load (first_entry passes l horizon)) (sym same) ∙ e)

  pub next_passes : (exit entry : List Point) (sent : List (List Point)) → entry ≡ last_entry sent → at_part Load (next_entry passes exit entry) ≡ Err p
      → at_part Load (next_if passes b exit sent) ≡ Err p
  next_passes exit entry sent same e =
      ap (λ (t : Bool). at_part Load (next_if passes t exit sent)) yes
      ∙ after_err Load (next_entry passes exit (last_entry sent)) (λ (next : List Point). Ok (sent ++ next ∷ [])) p
      (ap (λ (l : List Point). at_part Load (next_entry passes exit l)) (sym same) ∙ e)
