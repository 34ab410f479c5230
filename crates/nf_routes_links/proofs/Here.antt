-- The loading of a link, step by step, as the list has it.
use Rattle.std.proofs.Common.{◌≡◌, ℕ, List, [], ◌∷◌, set, sym, ◌∙◌, Some, Ok, Err}
use Rattle.nf_routes_links.proofs.Common.{ℚ, 0ℚ, ◌≤ℚ◌, ≤ℚ_trans, PassedAt, Load, Passing, Checked, at_part, ◌>>=◌, Point, Link, Network, IsLink, IsNetwork}
use Rattle.nf_routes_links.proofs.Common.{IsPositive-link, Loaded, checked_loading, after_err, after_ok, was_ok, Route, all_pairs, SoFar, begins_at}
use Rattle.nf_routes_links.proofs.Common.{begin_if, end_by, begin_all, sum_from, next_all, load_here, IsAmountCurve, AreExits, ForEachRoute, MayBegin}
use Rattle.nf_routes_links.proofs.Common.{Sends, MayLoad}
use Rattle.nf_routes_links.proofs.Amounts.{no_amount, loaded_exits}
use Rattle.nf_routes_links.proofs.Greatest.{end-least}
use Rattle.nf_routes_links.proofs.Folds.{Sent, begin_all-is, steps_keep}
use Rattle.nf_routes_links.proofs.Sound.{begun_sends, inflow_amount}

module _ (passes : Passing) (horizon : ℚ) (routes : List Route) (so_far : SoFar) (e : ℕ) (link : Link) where
  abbrev end : ℚ
  end = end_by horizon (all_pairs routes) so_far.links e

  abbrev after_loading : List Sent → Loaded → Checked SoFar
  after_loading begun loaded =
      next_all passes e loaded.exit routes begun >>= λ entries. Ok (record {
        links =
            set so_far.links e (Some (record { end = end; loaded = loaded }));
        entries = entries;
      })

  abbrev after_sum : List Sent → List Point → Checked SoFar
  after_sum begun inflow = checked_loading passes link.transit link.capacity inflow end >>= after_loading begun

  abbrev after_begin : List Sent → Checked SoFar
  after_begin begun = sum_from passes e ((0ℚ, 0ℚ) ∷ []) routes begun >>= after_sum begun

  pub begin_stops : (p : PassedAt ℚ) → at_part Load (begin_all passes horizon e routes so_far.entries) ≡ Err p
      → at_part Load (load_here passes horizon routes so_far e (Some link)) ≡ Err p
  begin_stops p h = after_err Load (begin_all passes horizon e routes so_far.entries) after_begin p h

  module _ (begun : List Sent) (b : at_part Load (begin_all passes horizon e routes so_far.entries) ≡ Ok begun) where
    begins : at_part Load (load_here passes horizon routes so_far e (Some link)) ≡ at_part Load (after_begin begun)
    begins = after_ok Load (begin_all passes horizon e routes so_far.entries) after_begin begun b

    pub sum_stops : (p : PassedAt ℚ) → at_part Load (sum_from passes e ((0ℚ, 0ℚ) ∷ []) routes begun) ≡ Err p → at_part Load (load_here passes horizon routes so_far e (Some link)) ≡ Err p
    sum_stops p h = begins ∙ after_err Load (sum_from passes e ((0ℚ, 0ℚ) ∷ []) routes begun) (after_sum begun) p h

    module _ (inflow : List Point) (s : at_part Load (sum_from passes e ((0ℚ, 0ℚ) ∷ []) routes begun) ≡ Ok inflow) where
      sums : at_part Load (load_here passes horizon routes so_far e (Some link)) ≡ at_part Load (after_sum begun inflow)
      sums = begins ∙ after_ok Load (sum_from passes e ((0ℚ, 0ℚ) ∷ []) routes begun) (after_sum begun) inflow s

      pub load_stops : (p : PassedAt ℚ) → at_part Load (checked_loading passes link.transit link.capacity inflow end) ≡ Err p
          → at_part Load (load_here passes horizon routes so_far e (Some link)) ≡ Err p
      load_stops p h = sums ∙ after_err Load (checked_loading passes link.transit link.capacity inflow end) (after_loading begun) p h

      module _ (loaded : Loaded) (l : at_part Load (checked_loading passes link.transit link.capacity inflow end) ≡ Ok loaded) where
        loads : at_part Load (load_here passes horizon routes so_far e (Some link)) ≡ at_part Load (after_loading begun loaded)
        loads = sums ∙ after_ok Load (checked_loading passes link.transit link.capacity inflow end) (after_loading begun) loaded l

        pub send_stops : (p : PassedAt ℚ) → at_part Load (next_all passes e loaded.exit routes begun) ≡ Err p
            → at_part Load (load_here passes horizon routes so_far e (Some link)) ≡ Err p
        send_stops p h = loads ∙ after_err Load (next_all passes e loaded.exit routes begun)
            (λ entries. Ok (record { links = set so_far.links e (Some (record { end = end; loaded = loaded })); entries = entries })) p h

        pub comes_to : (entries : List Sent) → at_part Load (next_all passes e loaded.exit routes begun) ≡ Ok entries
            → at_part Load (load_here passes horizon routes so_far e (Some link)) ≡ Ok
            (record { links = set so_far.links e (Some (record { end = end; loaded = loaded })); entries = entries })
        comes_to entries h = loads ∙ after_ok Load (next_all passes e loaded.exit routes begun)
            (λ entries. Ok (record { links = set so_far.links e (Some (record { end = end; loaded = loaded })); entries = entries })) entries h

  -- ---- what the calls ask for
  module _ (net : Network) (from_0 : 0ℚ ≤ℚ horizon) (good : IsNetwork net) (is : IsLink net e link) (may : MayLoad net routes e so_far) where
    pub end_nn : 0ℚ ≤ℚ end
    end_nn = ≤ℚ_trans _ _ _ from_0 (end-least horizon (all_pairs routes) so_far.links e)

    pub all_send : (begun : List Sent) → at_part Load (begin_all passes horizon e routes so_far.entries) ≡ Ok begun → ForEachRoute (Sends e) routes begun
    all_send begun b = steps_keep (λ route sent. begin_if passes (begins_at route.links e) horizon route sent) (MayBegin e) (Sends e)
        (begun_sends passes e horizon from_0) routes so_far.entries begun
        may.entries (sym (begin_all-is passes horizon e routes so_far.entries) ∙ was_ok Load (begin_all passes horizon e routes so_far.entries) begun b)

    pub inflow_is : (begun : List Sent) (inflow : List Point) → at_part Load (begin_all passes horizon e routes so_far.entries) ≡ Ok begun
        → at_part Load (sum_from passes e ((0ℚ, 0ℚ) ∷ []) routes begun) ≡ Ok inflow → IsAmountCurve inflow
    inflow_is begun inflow b s = inflow_amount passes e ((0ℚ, 0ℚ) ∷ []) routes begun inflow no_amount (all_send begun b)
        (was_ok Load (sum_from passes e ((0ℚ, 0ℚ) ∷ []) routes begun) inflow s)

    pub exits_are : (begun : List Sent) (inflow : List Point) (loaded : Loaded) → at_part Load (begin_all passes horizon e routes so_far.entries) ≡ Ok begun
        → at_part Load (sum_from passes e ((0ℚ, 0ℚ) ∷ []) routes begun) ≡ Ok inflow
        → at_part Load (checked_loading passes link.transit link.capacity inflow end) ≡ Ok loaded → AreExits loaded.exit
    exits_are begun inflow loaded b s l = loaded_exits passes link.transit link.capacity inflow end loaded (inflow_is begun inflow b s)
        (good.transits e link is) (IsPositive-link net e link good is) end_nn
        (was_ok Load (checked_loading passes link.transit link.capacity inflow end) loaded l)
