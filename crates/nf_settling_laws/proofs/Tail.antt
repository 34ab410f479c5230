-- The tail of a run without a horizon. The flow extended by the tail is an equilibrium up to every departure, and all equilibria have its labels.
-- So labels grow at the slopes of the tail for ever, and these grow by the cuts.
use Rattle.std.proofs.Common.{◌≡◌, ℕ, ◌<◌, Bool, true, false, if◌then◌else◌, sym, subst, refl, [], ◌∷◌, IfSome}
use Rattle.nf_settling_laws.proofs.Common.{ℚ, 0ℚ, ◌+ℚ◌, ◌-ℚ◌, ◌*ℚ◌, ◌≤ℚ◌, lt_ℚ, reading_of, ≤ℚ_of_same, ≤ℚ_refl, ≤ℚ_trans, eq, linear_eq, Within, number_at}
use Rattle.nf_settling_laws.proofs.Common.{Network, IsNetwork, rate_at, sets_at, IsThinFlow, Flow, label, Equilibrium, Tail, last_rate, TailGrows, labels-same}
use Rattle.nf_settling_laws.proofs.Common.{GrowsLinearly}
use Rattle.nf_frac_def.specs.Passing.{Passing}
use Rattle.nf_model.specs.Pattern.{Pattern}
use Rattle.nf_thin_def.specs.PhaseRun.{Standing, flow_of}
use Rattle.nf_phase_laws.proofs.WellRun.{WellRun}
use Rattle.nf_phase_laws.proofs.Run.{HasShape-well, Equilibrium-well}
use Rattle.nf_forever_def.specs.ForeverRun.{End, Stops, NeverEnds, IsForeverRun, Forever, forever_of, IsForever}
use Rattle.nf_forever_def.specs.Extended.{extended, up_to, flow_until}
use Rattle.nf_forever_laws.proofs.Run.{well_forever, IsThinFlow-tail, Equilibrium-until}
use Rattle.nf_forever_laws.proofs.Labels.{label-until}
use Rattle.nf_settling_laws.proofs.Linear.{linear_growth-is_by_cuts}
use Rattle.nf_settling_laws.proofs.Travel.{each_cut_carries, settled, travel-least}

reached_is : (net : Network) (flow : Flow) (tail : Tail) (until : ℚ) → (flow_until net flow tail until).reached ≡ until
reached_is net flow tail until = by (lt_ℚ flow.reached until)
  where
    by : (b : Bool) → (if b then extended net flow tail until else up_to flow until).reached ≡ until
    by true = refl
    by false = refl

module _ (passes : Passing) (net : Network) (good : IsNetwork net) (phases patterns : ℕ) where
  module _ (last : Standing) (pattern : Pattern) (tail : Tail) (run : IsForeverRun passes net phases patterns last (NeverEnds pattern tail)) where
    thin : IsThinFlow net (sets_at net last.labels) (rate_at net last.time) tail.flows tail.slopes
    thin = IsThinFlow-tail passes net good phases patterns last pattern tail run

    well : WellRun net last
    well = well_forever passes net good phases patterns last (NeverEnds pattern tail) run

    here : Equilibrium net (flow_of last)
    here = Equilibrium-well net good last well

    extension : (until : ℚ) → last.time ≤ℚ until → Equilibrium net (flow_until net (flow_of last) tail until)
    extension until h = Equilibrium-until passes net good phases patterns last pattern tail run until (≤ℚ_trans _ _ _ here.reached h)

    to_until : (until : ℚ) → until ≤ℚ (flow_until net (flow_of last) tail until).reached
    to_until until = ≤ℚ_of_same _ _ (sym (reached_is net (flow_of last) tail until))

    labels : (v : ℕ) (departure : ℚ) → v < net.nodes → last.time ≤ℚ departure → label (flow_until net (flow_of last) tail departure) v departure
        ≡ label (flow_of last) v last.time +ℚ (departure -ℚ last.time) *ℚ number_at tail.slopes v
    labels v departure h from = label-until net (flow_of last) tail v h (HasShape-well net good last well).labels.count thin.slope_count
        (well.grow.curves_stand.labels_end v h) departure from

    grow : (flow : Flow) (v : ℕ) (departure : ℚ) → Equilibrium net flow → v < net.nodes → Within last.time flow.reached departure
        → label flow v departure ≡ label flow v last.time +ℚ (departure -ℚ last.time) *ℚ number_at tail.slopes v
    grow flow v departure is h w = line _ _ _ _ _ (number_at tail.slopes v)
        (labels-same net good flow (flow_until net (flow_of last) tail departure) is (extension departure w.0) v departure h
        (departure_nn, w.1) (departure_nn, to_until departure))
        (labels v departure h w.0)
        (labels-same net good flow (flow_of last) is here v last.time h (here.reached, ≤ℚ_trans _ _ _ w.0 w.1) (here.reached, ≤ℚ_refl last.time))
      where
        departure_nn : 0ℚ ≤ℚ departure
        departure_nn = ≤ℚ_trans _ _ _ here.reached w.0

        line : (x y m n w s : ℚ) → x ≡ y → y ≡ m +ℚ w *ℚ s → n ≡ m → x ≡ n +ℚ w *ℚ s
        line x y m n w s e f g = linear_eq (x ∷ y ∷ m ∷ n ∷ w ∷ s ∷ []) (eq e ∷ eq f ∷ eq g ∷ []) (search reading_of) tt tt

    pub GrowsLinearly-tail : GrowsLinearly net last.time tail.slopes
    GrowsLinearly-tail = record {
      not_negative = here.reached;
      count = thin.slope_count;
      reaches = λ until h. (flow_until net (flow_of last) tail until, extension until h, to_until until);
      grow = grow;
    }

    pub TailGrows-run : TailGrows net (flow_of last) tail
    TailGrows-run = let by_cuts = linear_growth-is_by_cuts net last.time tail.slopes good GrowsLinearly-tail in
        let sink = λ (departure : ℚ) (from : last.time ≤ℚ departure). labels net.sink departure good.sink from in
        record {
          labels = labels;
          cuts = by_cuts.0;
          least_cut = by_cuts.1;
          settles = (
            each_cut_carries net (flow_of last) tail (last_rate net) sink by_cuts.1,
            settled net (flow_of last) tail (last_rate net) sink by_cuts.1,
          );
          travel = travel-least net (flow_of last) tail (last_rate net) sink by_cuts.1;
        }

  pub TailGrows-forever : (forever : Forever) → IsForever passes net phases patterns forever → IfSome forever.tail (TailGrows net forever.flow)
  TailGrows-forever forever is = subst (λ (f : Forever). IfSome f.tail (TailGrows net f.flow)) (sym is.forever_is) (told is.last is.end is.run)
    where
      told : (last : Standing) (end : End) → IsForeverRun passes net phases patterns last end
          → IfSome (forever_of last end).tail (TailGrows net (forever_of last end).flow)
      told last (Stops cause) run = tt
      told last (NeverEnds pattern tail) run = TailGrows-run last pattern tail run
