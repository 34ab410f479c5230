-- The operation sequence of a link's loading.
use Rattle.std.specs.Prelude.{Bool, true, false, ◌&&◌, List, [], ◌∷◌, ◌++◌, map, Option, Some, None, Ok}
use Rattle.nf_rational.specs.Rational.{ℚ}
use Rattle.nf_rational.specs.Operations.{0ℚ}
use Rattle.nf_rational.specs.Order.{le_ℚ, lt_ℚ}
use Rattle.nf_frac_def.specs.Passing.{Passing}
use Rattle.nf_frac_def.specs.Checked.{Checked, checked, each, ◌>>=◌}
use Rattle.nf_frac_def.specs.declared.Op.TheVariants.{Sum, Difference, Product, Quotient}
use Rattle.nf_model.specs.Curve.{Point}
use Rattle.nf_rational.specs.Signs.{is_zero, is_positive, is_same}
use Rattle.nf_curve_def.specs.Lines.{checked_slope, checked_line}
use Rattle.nf_curve_def.specs.Values.{checked_cut}
use Rattle.nf_curve_def.specs.Short.{checked_short}

-- a moment: a time, the amount entered by then, and the queue then
pub record Waits : Type 0 where
  pub time : ℚ
  pub amount : ℚ
  pub queue : ℚ

-- a moment, with the exit of flow that enters then
pub record Exit : Type 0 where
  pub waits : Waits
  pub exit : ℚ

abbrev pub queue_point : Waits → Point
queue_point waits = (waits.time, waits.queue)

abbrev pub exit_point : Exit → Point
exit_point exit = (exit.waits.time, exit.exit)

-- the queue, the outflow and the exits of a link
pub record Loaded : Type 0 where
  pub queue : List Point
  pub outflow : List Point
  pub exit : List Point

-- the outflow points after the exit `last`: the amount entered by an entry has left by its exit
abbrev pub outflow_from : ℚ → List Exit → List Point
outflow_from last [] = []
outflow_from last (exit ∷ rest) = elim (is_same last exit.exit) [
  | true ↦ outflow_from last rest
  | false ↦ (exit.exit, exit.waits.amount) ∷ outflow_from exit.exit rest
]

abbrev pub outflow_points : List Exit → List Point
outflow_points all = (0ℚ, 0ℚ) ∷ outflow_from 0ℚ all

module _ (passes : Passing) where
  -- the queue at `end`, if it changes from `start` at the rate less the capacity
  unfoldable pub grown : ℚ → ℚ → ℚ → ℚ → ℚ → Checked ℚ
  grown capacity rate queue start end = do
    a ← checked passes Difference rate capacity
    d ← checked passes Difference end start
    p ← checked passes Product a d
    checked passes Sum queue p

  -- the time at which the queue drains to 0, if the rate is below the capacity
  unfoldable pub drained : ℚ → ℚ → ℚ → ℚ → Checked ℚ
  drained capacity rate queue start = do
    a ← checked passes Difference rate capacity
    m ← checked passes Difference 0ℚ queue
    b ← checked passes Quotient m a
    checked passes Sum start b

  abbrev pub grows : ℚ → ℚ → Waits → Point → Checked (List Waits)
  grows capacity rate before end = do
    queue ← grown capacity rate before.queue before.time end.0
    Ok (record { time = end.0; amount = end.1; queue = queue } ∷ [])

  -- the queue is 0 from `time` on, if `time` is before the end of the piece
  abbrev pub drains_at : Bool → ℚ → ℚ → Waits → Point → ℚ → Checked (List Waits)
  drains_at true capacity rate before end time = do
    amount ← checked_line passes (before.time, before.amount) end time
    Ok (record { time = time; amount = amount; queue = 0ℚ } ∷ record { time = end.0; amount = end.1; queue = 0ℚ } ∷ [])
  drains_at false capacity rate before end time = grows capacity rate before end

  -- a queue that is not empty drains if the rate is below the capacity; otherwise it grows
  abbrev pub moves : Bool → ℚ → ℚ → Waits → Point → Checked (List Waits)
  moves true capacity rate before end = do
    time ← drained capacity rate before.queue before.time
    drains_at (lt_ℚ time end.0) capacity rate before end time
  moves false capacity rate before end = grows capacity rate before end

  -- an empty queue stays empty if the rate is at most the capacity
  abbrev pub stays_or_moves : Bool → ℚ → ℚ → Waits → Point → Checked (List Waits)
  stays_or_moves true capacity rate before end = Ok (record { time = end.0; amount = end.1; queue = 0ℚ } ∷ [])
  stays_or_moves false capacity rate before end = moves (is_positive before.queue && lt_ℚ rate capacity) capacity rate before end

  -- the moments of one piece of the inflow
  abbrev pub after_piece : Option ℚ → Waits → Point → Checked (List Waits)
  after_piece None before end = Ok (record { time = end.0; amount = end.1; queue = 0ℚ } ∷ [])
  after_piece (Some capacity) before end = do
    rate ← checked_slope passes (before.time, before.amount) end
    stays_or_moves (is_zero before.queue && le_ℚ rate capacity) capacity rate before end

  -- the last of the moments from `before` on
  abbrev pub last_of : Waits → List Waits → Waits
  last_of before [] = before
  last_of before (waits ∷ rest) = last_of waits rest

  abbrev pub waits_after : Option ℚ → Waits → List Point → Checked (List Waits)
  waits_after capacity before [] = Ok []
  waits_after capacity before (end ∷ rest) = do
    here ← after_piece capacity before end
    later ← waits_after capacity (last_of before here) rest
    Ok (here ++ later)

  -- the moments of the whole inflow; the queue is 0 at time 0
  abbrev pub all_waits : Option ℚ → List Point → Checked (List Waits)
  all_waits capacity [] = Ok []
  all_waits capacity (p ∷ rest) = do
    later ← waits_after capacity (record { time = p.0; amount = p.1; queue = 0ℚ }) rest
    Ok (record { time = p.0; amount = p.1; queue = 0ℚ } ∷ later)

  -- the exit of flow that enters at a moment
  unfoldable pub exit_after : Option ℚ → ℚ → Waits → Checked ℚ
  exit_after None transit waits = checked passes Sum waits.time transit
  exit_after (Some capacity) transit waits = do
    a ← checked passes Quotient waits.queue capacity
    b ← checked passes Sum waits.time transit
    checked passes Sum b a

  abbrev pub exit_of : Option ℚ → ℚ → Waits → Checked Exit
  exit_of capacity transit waits = do
    exit ← exit_after capacity transit waits
    Ok (record { waits = waits; exit = exit })

  -- queue and exit by time up to `last`, and the outflow up to one transit time later
  unfoldable pub checked_loading : ℚ → Option ℚ → List Point → ℚ → Checked Loaded
  checked_loading transit capacity inflow last = do
    cut ← checked_cut passes inflow last
    waits ← all_waits capacity cut
    all ← each (exit_of capacity transit) waits
    end ← checked passes Sum last transit
    outflow ← checked_cut passes (outflow_points all) end
    short_queue ← checked_short passes (map queue_point waits)
    short_outflow ← checked_short passes outflow
    short_exit ← checked_short passes (map exit_point all)
    Ok (record { queue = short_queue; outflow = short_outflow; exit = short_exit })
