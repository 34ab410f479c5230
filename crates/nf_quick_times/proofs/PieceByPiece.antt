-- The least departure, searched piece by piece.
use Rattle.std.proofs.Common.{◌≡◌, ℕ, zero, suc, ◌+◌, List, [], ◌∷◌, drop, Bool, true, false, Option, Some, None, slice_get, option_map, refl, sym, ap}
use Rattle.std.proofs.Common.{subst, ◌∙◌, add-one, Result, Ok, Err, IfOk}
use Rattle.nf_quick_times.proofs.Common.{drop_more, slice_get_within, get_or_from_slice_get, ℚ, 0ℚ, ◌≤ℚ◌, ◌<ℚ◌, le_ℚ, lt_ℚ, le_of_test, lt_of_test, Passing}
use Rattle.nf_quick_times.proofs.Common.{PassedAt, Checked, at_part, ◌>>=◌, Piece, Network, ArePieces, supplied, StartsRise-pieces, plus_piece}
use Rattle.nf_quick_times.proofs.Common.{checked_supply, within_piece, last_piece, by_next, departs, departure_of, IsDeparture, if_ok}
use Rattle.nf_frac_def.specs.declared.Part.TheVariants as Part
use Rattle.nf_net.proofs.Supplied.{value_supplied}
use Rattle.nf_quick_def.specs.Departures.{departure_list}
use Rattle.nf_quick_laws.proofs.Departing.{IsBefore, rate_before_next, before_next, before_first, IsDeparture-list}
use Rattle.nf_residual.proofs.Stopping.{ok_of_part, stopped}
use Rattle.nf_quick_times.proofs.SupplyOn.{supply_goes_on, first_supply}

-- The remaining pieces give the result of all pieces, with this amount supplied before.
pub record Comes (passes : Passing) (net : Network) (amount known : ℚ) (k : ℕ) : Type 0 where
  pub same : departs passes (checked_supply passes net) amount known (drop k net.pieces) ≡ departs passes (checked_supply passes net) amount 0ℚ net.pieces
  pub before : (piece : Piece) (later : List Piece) → drop k net.pieces ≡ piece ∷ later → IsBefore amount net.pieces known piece later
  pub supply : (piece : Piece) → slice_get net.pieces k ≡ Some piece → checked_supply passes net piece.start ≡ Ok known

module _ (passes : Passing) (net : Network) (amount : ℚ) (good : ArePieces net.pieces) where
  abbrev supply_at : ℚ → Checked ℚ
  supply_at = checked_supply passes net

  exact : (t u : ℚ) → 0ℚ ≤ℚ t → supply_at t ≡ Ok u → u ≡ supplied net.pieces t
  exact t u h e = value_supplied passes t (Ok u) net.pieces good (sym e)

  pub comes_first : (known : ℚ) → known ≡ 0ℚ → 0ℚ <ℚ amount → Comes passes net amount known 0
  comes_first known none some = record {
    same = ap (λ (x : ℚ). departs passes supply_at amount x net.pieces) none;
    before = λ piece later e. subst (λ (x : ℚ). IsBefore amount net.pieces x piece later) (sym none) (before_first amount passes supply_at net.pieces good exact piece later e some);
    supply = λ piece e. first_supply passes net.pieces piece (StartsRise-pieces net.pieces good) e ∙ ap Ok (sym none);
  }

  module _ (known : ℚ) (k : ℕ) (comes : Comes passes net amount known k) where
    module _ (piece : Piece) (is : slice_get net.pieces k ≡ Some piece) where
      rest : drop k net.pieces ≡ piece ∷ drop (k + 1) net.pieces
      rest = drop_more net.pieces k piece (slice_get_within net.pieces k piece is) ∙ ap (λ (p : Piece). p ∷ drop (k + 1) net.pieces) (get_or_from_slice_get net.pieces k piece piece is)

      -- The piece is the last one.
      past : (xs : List Piece) (i : ℕ) → slice_get xs i ≡ None → drop i xs ≡ []
      past [] zero e = refl
      past [] (suc i) e = refl
      past (x ∷ xs) zero e = absurd (cc)
      past (x ∷ xs) (suc i) e = past xs i e

      last : slice_get net.pieces (k + 1) ≡ None → departs passes supply_at amount 0ℚ net.pieces ≡ last_piece passes supply_at amount (lt_ℚ 0ℚ piece.rate) known piece
      last none = sym comes.same ∙ ap (λ (l : List Piece). departs passes supply_at amount known l) (rest ∙ ap (λ (l : List Piece). piece ∷ l) (past net.pieces (k + 1) none))

      -- Another piece follows.
      module _ (next : Piece) (follows : slice_get net.pieces (k + 1) ≡ Some next) where
        later : List Piece
        later = drop (k + 1 + 1) net.pieces

        both : drop k net.pieces ≡ piece ∷ next ∷ drop (k + 1 + 1) net.pieces
        both = rest ∙ ap (λ (l : List Piece). piece ∷ l) (drop_more net.pieces (k + 1) next (slice_get_within net.pieces (k + 1) next follows)
            ∙ ap (λ (p : Piece). p ∷ drop (k + 1 + 1) net.pieces) (get_or_from_slice_get net.pieces (k + 1) next next follows))

        before : IsBefore amount net.pieces known piece (next ∷ drop (k + 1 + 1) net.pieces)
        before = comes.before piece (next ∷ drop (k + 1 + 1) net.pieces) both

        abbrev decided : ℚ → Checked (Option ℚ)
        decided u = by_next passes supply_at amount (le_ℚ amount u) known piece (departs passes supply_at amount u (next ∷ drop (k + 1 + 1) net.pieces))

        opened : departs passes supply_at amount 0ℚ net.pieces ≡ (supply_at next.start >>= decided)
        opened = sym comes.same ∙ ap (λ (l : List Piece). departs passes supply_at amount known l) both

        supply_passes : (p : PassedAt ℚ) → at_part Part.Quick (supply_at next.start) ≡ Err p → at_part Part.Quick (departs passes supply_at amount 0ℚ net.pieces) ≡ Err p
        supply_passes p e = ap (at_part Part.Quick) opened ∙ stopped (supply_at next.start) decided p e

        module _ (u : ℚ) (gives : supply_at next.start ≡ Ok u) where
          then : departs passes supply_at amount 0ℚ net.pieces ≡ decided u
          then = opened ∙ ap (λ (r : Checked ℚ). r >>= decided) gives

          has_rate : le_ℚ amount u ≡ true → 0ℚ <ℚ piece.rate
          has_rate t = rate_before_next amount passes supply_at net.pieces good exact known piece next (drop (k + 1 + 1) net.pieces) u before gives (le_of_test amount u t)

          in_piece : le_ℚ amount u ≡ true → departs passes supply_at amount 0ℚ net.pieces ≡ within_piece passes supply_at amount known piece
          in_piece t = then ∙ ap (λ (b : Bool). by_next passes supply_at amount b known piece (departs passes supply_at amount u (next ∷ drop (k + 1 + 1) net.pieces))) t

          comes_more : le_ℚ amount u ≡ false → Comes passes net amount u (k + 1)
          comes_more f = record {
            same = ap (λ (l : List Piece). departs passes supply_at amount u l) after
                ∙ sym (then ∙ ap (λ (b : Bool). by_next passes supply_at amount b known piece (departs passes supply_at amount u (next ∷ drop (k + 1 + 1) net.pieces))) f);
            before = λ p more e. moved p more (sym after ∙ e);
            supply = λ p e. ap (λ (t : ℚ). supply_at t) (ap (λ (q : Piece). q.start) (same_piece p next (sym e ∙ follows))) ∙ gives;
          }
            where
              same_piece : (x y : Piece) → Some x ≡ Some y → x ≡ y
              same_piece x y e = cc

              after : drop (k + 1) net.pieces ≡ next ∷ drop (k + 1 + 1) net.pieces
              after = drop_more net.pieces (k + 1) next (slice_get_within net.pieces (k + 1) next follows)
                  ∙ ap (λ (q : Piece). q ∷ drop (k + 1 + 1) net.pieces) (get_or_from_slice_get net.pieces (k + 1) next next follows)

              here : IsBefore amount net.pieces u next (drop (k + 1 + 1) net.pieces)
              here = before_next amount passes supply_at net.pieces good exact known piece next (drop (k + 1 + 1) net.pieces) u before gives (lt_of_test amount u f)

              moved : (p : Piece) (more : List Piece) → next ∷ drop (k + 1 + 1) net.pieces ≡ p ∷ more → IsBefore amount net.pieces u p more
              moved p more e = let same : next ≡ p = cc in let tail : drop (k + 1 + 1) net.pieces ≡ more = cc in
                  subst (λ (l : List Piece). IsBefore amount net.pieces u p l) tail (subst (λ (q : Piece). IsBefore amount net.pieces u q (drop (k + 1 + 1) net.pieces)) same here)

  -- ---- by the next start
  next_of : (o : Option Piece) (start : ℚ) → Some start ≡ option_map (λ (p : Piece). p.start) o → (next : Piece) × (o ≡ Some next) × (next.start ≡ start)
  next_of (Some next) start e = let same : start ≡ next.start = cc in (next, refl, sym same)
  next_of None start e = absurd (cc)

  none_of : (o : Option Piece) → None ≡ option_map (λ (p : Piece). p.start) o → o ≡ None
  none_of None e = refl
  none_of (Some next) e = absurd (cc)

  module _ (known : ℚ) (k : ℕ) (comes : Comes passes net amount known k) (piece : Piece) (is : slice_get net.pieces k ≡ Some piece) where
    pub in_last_piece : None ≡ option_map (λ (p : Piece). p.start) (slice_get net.pieces (k + 1))
        → departs passes supply_at amount 0ℚ net.pieces ≡ last_piece passes supply_at amount (lt_ℚ 0ℚ piece.rate) known piece
    in_last_piece e = last known k comes piece is (none_of (slice_get net.pieces (k + 1)) e)

    module _ (start : ℚ) (follows : Some start ≡ option_map (λ (p : Piece). p.start) (slice_get net.pieces (k + 1))) where
      abbrev n : (next : Piece) × (slice_get net.pieces (k + 1) ≡ Some next) × (next.start ≡ start)
      n = next_of (slice_get net.pieces (k + 1)) start follows

      -- The supply by the next start continues the supply by this start.
      from_start : supply_at n.0.start ≡ plus_piece passes known piece start
      from_start =
          supply_goes_on passes net.pieces k piece n.0 0ℚ (StartsRise-pieces net.pieces good) is (ap (λ (i : ℕ). slice_get net.pieces i) (sym (add-one k)) ∙ n.1)
          ∙ ap (λ (r : Checked ℚ). r >>= λ x. plus_piece passes x piece n.0.start) (comes.supply piece is) ∙ ap (λ (t : ℚ). plus_piece passes known piece t) n.2

      pub next_passes : (p : PassedAt ℚ) → Err p ≡ at_part Part.Quick (plus_piece passes known piece start) → Err p ≡ at_part Part.Quick (departs passes supply_at amount 0ℚ net.pieces)
      next_passes p e = sym (supply_passes known k comes piece is n.0 n.1 p (ap (at_part Part.Quick) from_start ∙ sym e))

      module _ (u : ℚ) (gives : Ok u ≡ at_part Part.Quick (plus_piece passes known piece start)) where
        supplied_by : supply_at n.0.start ≡ Ok u
        supplied_by = from_start ∙ ok_of_part (plus_piece passes known piece start) u (sym gives)

        pub rate_is_some : le_ℚ amount u ≡ true → 0ℚ <ℚ piece.rate
        rate_is_some t = has_rate known k comes piece is n.0 n.1 u supplied_by t

        pub in_this_piece : le_ℚ amount u ≡ true → departs passes supply_at amount 0ℚ net.pieces ≡ within_piece passes supply_at amount known piece
        in_this_piece t = in_piece known k comes piece is n.0 n.1 u supplied_by t

        pub comes_on : le_ℚ amount u ≡ false → Comes passes net amount u (k + 1)
        comes_on f = comes_more known k comes piece is n.0 n.1 u supplied_by f

pub departure_least : (passes : Passing) (net : Network) (amount : ℚ) → ArePieces net.pieces → 0ℚ ≤ℚ amount → (found : Option ℚ)
    → at_part Part.Quick (departure_list passes (checked_supply passes net) amount net.pieces) ≡ Ok found → IsDeparture net amount found
departure_least passes net amount good some found e =
    IsDeparture-list amount passes (checked_supply passes net) net.pieces good (exact passes net amount good) found some
    (ok_of_part (departure_list passes (checked_supply passes net) amount net.pieces) found e)

-- For the amount 0.
pub departure_of_none : (passes : Passing) (net : Network) (amount time : ℚ) → ArePieces net.pieces → 0ℚ ≤ℚ amount → le_ℚ amount 0ℚ ≡ true → time ≡ 0ℚ
    → IsDeparture net amount (Some time)
unfolding departure_list
departure_of_none passes net amount time good some t e = departure_least passes net amount good some (Some time)
    (ap (λ (b : Bool). at_part Part.Quick (departure_of passes (checked_supply passes net) amount b net.pieces)) t ∙ ap (λ (x : ℚ). Ok (Some x)) (sym e))

-- For an amount above 0.
pub departure_found : (passes : Passing) (net : Network) (amount : ℚ) (r : Result (Option ℚ) (PassedAt ℚ)) → ArePieces net.pieces → 0ℚ ≤ℚ amount → le_ℚ amount 0ℚ ≡ false
    → r ≡ at_part Part.Quick (departs passes (checked_supply passes net) amount 0ℚ net.pieces) → IfOk r (IsDeparture net amount)
unfolding departure_list
departure_found passes net amount r good some f e =
    if_ok Part.Quick r (departs passes (checked_supply passes net) amount 0ℚ net.pieces) (IsDeparture net amount) e
    (λ found g. departure_least passes net amount good some found (listed found g))
  where
    listed : (found : Option ℚ) → departs passes (checked_supply passes net) amount 0ℚ net.pieces ≡ Ok found
        → at_part Part.Quick (departure_list passes (checked_supply passes net) amount net.pieces) ≡ Ok found
    listed found g = ap (λ (b : Bool). at_part Part.Quick (departure_of passes (checked_supply passes net) amount b net.pieces)) f ∙ ap (at_part Part.Quick) g
