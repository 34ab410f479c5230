use Rattle.std.proofs.Common.{◌≡◌, ◌<◌, length, Bool, Option, None, Result, refl, sym, ap, ◌∙◌, arith, ℕ, unwrap_or}
use Rattle.nf_thin_one.proofs.Common.{slice_get, slice_get_read, ℚ, 0ℚ, PassedAt, Verdict, passes_Q, at_part, State, number_at, Link, link_verdict}
use Rattle.nf_thin_one.proofs.verdicts.judge.Goals as goal

pub link-here-requires : goal.link-here-requires
link-here-requires c = c.requires.link

pub bounds-flows-index : goal.bounds-flows-index
bounds-flows-index c = omega (arith, c.index.ensures, c.requires.link, c.requires.flows)

pub bounds-slopes-index : goal.bounds-slopes-index
bounds-slopes-index c =
    omega (
      arith,
      c.index-2.ensures,
      ap (λ (l : Link). l.tail) c.here.view_is,
      c.link-here.ensures.named.network.tails c.args.link c.link-here.result c.link-here.ensures.link,
      c.requires.slopes,
    )

pub bounds-slopes-index-2 : goal.bounds-slopes-index-2
bounds-slopes-index-2 c =
    omega (
      arith,
      c.index-3.ensures,
      ap (λ (l : Link). l.head) c.here.view_is,
      c.link-here.ensures.named.network.heads c.args.link c.link-here.result c.link-here.ensures.link,
      c.requires.slopes,
    )

pub returns : goal.returns
returns c = λ here is.
    let same : c.link-here.result ≡ here = let both = sym c.link-here.ensures.link ∙ is in cc in
    let seen = c.here.view_is ∙ same in
    let in_flows : c.index.result < length c.args.flows.now = omega (arith, c.index.ensures, c.requires.link, c.requires.flows) in
    let in_tails : c.index-2.result < length c.args.slopes.now =
    omega (
      arith,
      c.index-2.ensures,
      ap (λ (l : Link). l.tail) c.here.view_is,
      c.link-here.ensures.named.network.tails c.args.link c.link-here.result c.link-here.ensures.link,
      c.requires.slopes,
    ) in
    let in_heads : c.index-3.result < length c.args.slopes.now =
    omega (
      arith,
      c.index-3.ensures,
      ap (λ (l : Link). l.head) c.here.view_is,
      c.link-here.ensures.named.network.heads c.args.link c.link-here.result c.link-here.ensures.link,
      c.requires.slopes,
    ) in
    let flow : number_at c.args.flows.now c.args.link ≡ c.index-flows-index.result =
    ap (λ (k : ℕ). number_at c.args.flows.now k) (sym c.index.ensures) ∙ ap (λ (o : Option ℚ). unwrap_or o 0ℚ)
    (slice_get_read c.args.flows.now _ c.index.result c.index-flows-index.result refl in_flows c.index-flows-index.is) in
    let tail : number_at c.args.slopes.now here.tail ≡ c.index-slopes-index.result =
    ap (λ (k : ℕ). number_at c.args.slopes.now k) (sym (c.index-2.ensures ∙ ap (λ (l : Link). l.tail) seen))
    ∙ ap (λ (o : Option ℚ). unwrap_or o 0ℚ) (slice_get_read c.args.slopes.now _ c.index-2.result c.index-slopes-index.result refl in_tails
    c.index-slopes-index.is) in
    let head : number_at c.args.slopes.now here.head ≡ c.index-slopes-index-2.result =
    ap (λ (k : ℕ). number_at c.args.slopes.now k) (sym (c.index-3.ensures ∙ ap (λ (l : Link). l.head) seen))
    ∙ ap (λ (o : Option ℚ). unwrap_or o 0ℚ) (slice_get_read c.args.slopes.now _ c.index-3.result c.index-slopes-index-2.result refl in_heads
    c.index-slopes-index-2.is) in
    let verdict : Option State → Option ℚ → ℚ → ℚ → ℚ → Result Bool (PassedAt ℚ) = λ s k f t h. at_part Verdict (link_verdict passes_Q s k f t h) in
    c.judge_link.ensures
    ∙ ap (λ (s : Option State). verdict s c.here.inside.capacity c.index-flows-index.result c.index-slopes-index.result c.index-slopes-index-2.result)
    (sym (ap (λ (o : Option (Option State)). unwrap_or o None) c.state.ensures))
    ∙ ap (λ (l : Link). verdict (unwrap_or (slice_get c.args.pattern.now c.args.link) None) l.capacity c.index-flows-index.result
    c.index-slopes-index.result c.index-slopes-index-2.result) seen
    ∙ ap (λ (f : ℚ). verdict (unwrap_or (slice_get c.args.pattern.now c.args.link) None) here.capacity f c.index-slopes-index.result c.index-slopes-index-2.result) (sym flow)
    ∙ ap (λ (t : ℚ). verdict (unwrap_or (slice_get c.args.pattern.now c.args.link) None) here.capacity
    (number_at c.args.flows.now c.args.link) t c.index-slopes-index-2.result) (sym tail)
    ∙ ap (λ (h : ℚ). verdict (unwrap_or (slice_get c.args.pattern.now c.args.link) None) here.capacity (number_at c.args.flows.now c.args.link)
    (number_at c.args.slopes.now here.tail) h) (sym head)
