-- The amount that a route sends into a link, as a curve up to a time: into its first link, and into the next.
use Rattle.std.proofs.Common.{◌≡◌, List, ◌⊎◌, inl, inr, ⊎_elim, refl, sym, ap, subst, ◌∙◌, Ok}
use Rattle.nf_routes_laws.proofs.Common.{ℚ, 0ℚ, ◌≤ℚ◌, ◌<ℚ◌, ≤ℚ_of_lt, ≤ℚ_of_same, ≤ℚ_antisymm, lt_or_le_ℚ, Passing, Point, Within, NeverFalls, value}
use Rattle.nf_routes_laws.proofs.Common.{IsCurve, IsShort, Piece, ArePieces, supplied, checked_short, IsShortOf, checked_short-is, checked_cumulative}
use Rattle.nf_routes_laws.proofs.Common.{next_entry, CanShare, IsSentOn, ≤ℚ_refl, ≤ℚ_trans, value-takes_between, IsCumulative, checked_cumulative-is}
use Rattle.nf_routes_laws.proofs.Next.{next_entry-is}
use Rattle.nf_routes_laws.proofs.Ends.{UpTo, upto-longer, short-upto, cumulative-upto, next-upto}

-- a curve in short form up to a time, of an amount that is 0 at time 0 and never falls
pub record IsEntry (points : List Point) (last : ℚ) : Type 0 where
  pub curve : IsCurve points
  pub form : IsShort points
  pub begins : value points 0ℚ ≡ 0ℚ
  pub rises : NeverFalls (value points)
  pub up_to : UpTo points last

pub entry-longer : (points : List Point) (last later : ℚ) → last ≤ℚ later → IsEntry points last → IsEntry points later
entry-longer points last later h w = record { curve = w.curve; form = w.form; begins = w.begins; rises = w.rises; up_to = upto-longer points last later h w.up_to }

-- what is equal from time 0 on never falls either
pub rises-same : (f g : ℚ → ℚ) → ((t : ℚ) → 0ℚ ≤ℚ t → g t ≡ f t) → NeverFalls f → NeverFalls g
rises-same f g same rises s t h k = subst (λ (x : ℚ). x ≤ℚ g t) (sym (same s h)) (subst (λ (x : ℚ). f s ≤ℚ x) (sym (same t (≤ℚ_trans _ _ _ h k))) (rises s t h k))

-- ---- into its first link: the route's supply, up to the horizon
pub record IsFirst (pieces : List Piece) (horizon : ℚ) (points : List Point) : Type 0 where
  pub entry : IsEntry points horizon
  pub values : (t : ℚ) → Within 0ℚ horizon t → value points t ≡ supplied pieces t
  pub after : (t : ℚ) → horizon ≤ℚ t → value points t ≡ supplied pieces horizon

pub first-is : (passes : Passing) (pieces : List Piece) (horizon : ℚ) (amounts points : List Point) → ArePieces pieces → 0ℚ ≤ℚ horizon
    → checked_cumulative passes pieces horizon ≡ Ok amounts
    → checked_short passes amounts ≡ Ok points → IsFirst pieces horizon points
first-is passes pieces horizon amounts points good h e f =
    let c : IsCumulative pieces horizon amounts = checked_cumulative-is passes pieces horizon good h amounts e in
    let s : IsShortOf amounts points = checked_short-is passes amounts points c.curve f in
    record {
      entry = record {
        curve = s.curve;
        form = s.form;
        begins = s.values 0ℚ (≤ℚ_refl 0ℚ) ∙ c.begins;
        rises = rises-same (value amounts) (value points) s.values c.rises;
        up_to = short-upto passes amounts points horizon f (cumulative-upto passes horizon pieces amounts h e);
      };
      values = λ t w. s.values t w.0 ∙ c.values t w;
      after = λ t k. s.values t (≤ℚ_trans _ _ _ h k) ∙ c.after t k;
    }

-- ---- into the next one
module _ (passes : Passing) (exit entry next : List Point) (last : ℚ) (can : CanShare exit entry last) (entry_is : IsEntry entry last)
    (exit_up : UpTo exit last) (e : next_entry passes exit entry ≡ Ok next) where
  pub shared : IsSentOn exit entry last next
  shared = next_entry-is passes exit entry last can next e

  -- the amount sent on by z is the amount sent in by u: a time whose exit is z, or the first or last time
  record Sent (z : ℚ) : Type 0 where
    pub u : ℚ
    pub within : Within 0ℚ last u
    pub same : value next z ≡ value entry u
    pub low : (u ≡ 0ℚ) ⊎ (value exit u ≤ℚ z)
    pub high : (u ≡ last) ⊎ (z ≤ℚ value exit u)

  sent : (z : ℚ) → 0ℚ ≤ℚ z → Sent z
  sent z h = ⊎_elim
      (λ (l : z <ℚ value exit 0ℚ). record {
        u = 0ℚ;
        within = (≤ℚ_refl 0ℚ, can.from_0);
        same = shared.before z (h, ≤ℚ_of_lt _ _ l) ∙ sym can.begins;
        low = inl refl;
        high = inr (≤ℚ_of_lt _ _ l);
      })
      (λ (l : value exit 0ℚ ≤ℚ z). ⊎_elim
      (λ (k : z <ℚ value exit last).
      let w = value-takes_between exit last z can.exit_curve can.from_0 l (≤ℚ_of_lt _ _ k) in
      record {
        u = w.0;
        within = w.1;
        same = ap (value next) (sym w.2) ∙ shared.at_exit w.0 w.1;
        low = inr (≤ℚ_of_same _ _ w.2);
        high = inr (≤ℚ_of_same _ _ (sym w.2));
      })
      (λ (k : value exit last ≤ℚ z). record {
        u = last;
        within = (can.from_0, ≤ℚ_refl last);
        same = shared.after z k;
        low = inr k;
        high = inl refl;
      })
      (lt_or_le_ℚ z (value exit last)))
      (lt_or_le_ℚ z (value exit 0ℚ))

  next-rises : NeverFalls (value next)
  next-rises a b h k =
      let s : Sent a = sent a h in
      let t : Sent b = sent b (≤ℚ_trans _ _ _ h k) in
      subst (λ (x : ℚ). x ≤ℚ value next b) (sym s.same) (subst (λ (x : ℚ). value entry s.u ≤ℚ x) (sym t.same) (order s t))
    where
      order : (s : Sent a) (t : Sent b) → value entry s.u ≤ℚ value entry t.u
      order s t = ⊎_elim
          (λ (z : s.u ≡ 0ℚ). subst (λ (x : ℚ). value entry x ≤ℚ value entry t.u) (sym z) (entry_is.rises 0ℚ t.u (≤ℚ_refl 0ℚ) t.within.0))
          (λ (p : value exit s.u ≤ℚ a). ⊎_elim
          (λ (l : t.u ≡ last). subst (λ (x : ℚ). value entry s.u ≤ℚ value entry x) (sym l) (entry_is.rises s.u last s.within.0 s.within.1))
          (λ (q : b ≤ℚ value exit t.u). ⊎_elim
          (λ (m : s.u <ℚ t.u). entry_is.rises s.u t.u s.within.0 (≤ℚ_of_lt _ _ m))
          (λ (m : t.u ≤ℚ s.u). ≤ℚ_of_same _ _ (sym (can.shares t.u s.u t.within.0 m s.within.1
          (≤ℚ_antisymm _ _ (can.exits_rise t.u s.u t.within.0 m s.within.1) (≤ℚ_trans _ _ _ p (≤ℚ_trans _ _ _ k q))))))
          (lt_or_le_ℚ s.u t.u))
          t.high)
          s.low

  pub next-is : IsEntry next (value exit last)
  next-is = record {
    curve = shared.curve;
    form = shared.form;
    begins = shared.before 0ℚ (≤ℚ_refl 0ℚ, can.first_exit);
    rises = next-rises;
    up_to = next-upto passes exit entry last can entry_is.up_to exit_up next e;
  }
