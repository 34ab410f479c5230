-- The pattern of settled flows, link by link.
use Rattle.std.proofs.Common.{◌≡◌, ◌≢◌, inl, inr, ⊎_elim, ℕ, ◌+◌, ◌<◌, ◌≤◌, List, length, get_or, replicate, Bool, true, false, sym, ap, subst, refl, ◌∙◌}
use Rattle.std.proofs.Common.{arith, Option, Some, None, slice_get, slice_set, unwrap_or, MatchBool, Ok}
use Rattle.nf_complete_conditions.proofs.Common.{Decides, length-set, length-replicate, Decides-like, same_Some, none-some, slice_get_within}
use Rattle.nf_complete_conditions.proofs.Common.{slice_get_read, ℚ, 0ℚ, ◌*ℚ◌, Passing, number_at, Has, Link, Network, IsLink, Sets, Enters, entry}
use Rattle.nf_complete_conditions.proofs.Common.{before_or_at, fulls_list, same_or_not, same_test, filling, BringsInto, LevelInto, NoneLevelBefore}
use Rattle.nf_complete_conditions.proofs.Common.{full_test, FitsState, IsStateAt}
use Rattle.nf_model.specs.declared.State.{State}
use Rattle.nf_model.specs.declared.State.TheVariants.{Tight, Full, Zero}
use Rattle.nf_model.specs.Pattern.{Pattern, HasState, NeedsState, Fills}
use Rattle.nf_pattern.proofs.Setting.{set_same, set_other}
use Rattle.nf_complete_def.specs.SettledPattern.{IsBare, LeadsToBare, IsSettledPattern}
use Rattle.nf_complete_conditions.proofs.Deciding.{Decides-same}
use Rattle.nf_complete_conditions.proofs.Filling.{fulls_at}
use Rattle.nf_complete_conditions.proofs.LinkAnswers.{level_of}

-- the flows read that fill the links
pub read_full : (fulls : List (Option ℚ)) (i e : ℕ) (o : Option ℚ) → i ≡ e → e < length fulls → o ≡ get_or fulls i o → unwrap_or (slice_get fulls e) None ≡ o
read_full fulls i e o same inside is = ap (λ (w : Option (Option ℚ)). unwrap_or w None) (slice_get_read fulls (length fulls) e o refl inside (is ∙ ap (λ (k : ℕ). get_or fulls k o) same))

module _ (net : Network) (sets : Sets) (flows slopes : List ℚ) where
  -- ---- nodes without inflow
  pub bare_made : (v : ℕ) → v ≢ net.source → ((e : ℕ) → e < length net.links → BringsInto net sets flows v e → ⊥) → IsBare net sets flows v
  bare_made v other none = record {
    not_source = other;
    bare = λ e link n. (
      (λ r. none e (slice_get_within net.links e link n.is_link) ((link, n), inl r)),
      ⊎_elim
          (λ (z : number_at flows e ≡ 0ℚ). z)
          (λ (z : number_at flows e ≢ 0ℚ). absurd (none e (slice_get_within net.links e link n.is_link) ((link, n), inr z)))
          (same_or_not (number_at flows e) 0ℚ),
    );
  }

  pub not_bare : (v e : ℕ) → BringsInto net sets flows v e → IsBare net sets flows v → ⊥
  not_bare v e w b = let n = b.bare e w.0.0 w.0.1 in ⊎_elim (λ (r : Has sets.resetting e). n.0 r) (λ (z : number_at flows e ≢ 0ℚ). z n.1) w.1

  -- ---- the link that enters a node without inflow
  module _ (e : ℕ) (link : Link) (p : IsLink net e link) (v : ℕ) (at : v ≡ link.head) where
    pub leads_made : LevelInto net sets slopes v e → IsBare net sets flows v → NoneLevelBefore net sets slopes v e → LeadsToBare net sets flows slopes e link
    leads_made w b none = record {
      enters = record { is_link = p; active = w.0.1.active; head = refl };
      bare = subst (λ (k : ℕ). IsBare net sets flows k) at b;
      first = record {
        level = w.1 link p;
        first = λ other before h n k. none other h ((before, subst (λ (j : ℕ). Enters net sets j other before) (sym at) n), level_of net slopes other before n.is_link k);
      };
    }

    pub leads_level : LeadsToBare net sets flows slopes e link → LevelInto net sets slopes v e
    leads_level l = ((link, subst (λ (j : ℕ). Enters net sets j e link) (sym at) l.enters), level_of net slopes e link p l.first.level)

    pub leads_bare : LeadsToBare net sets flows slopes e link → IsBare net sets flows v
    leads_bare l = subst (λ (k : ℕ). IsBare net sets flows k) (sym at) l.bare

    pub leads_first : LeadsToBare net sets flows slopes e link → NoneLevelBefore net sets slopes v e
    leads_first l k h w = l.first.first k w.0.0 h (subst (λ (j : ℕ). Enters net sets j k w.0.0) at w.0.1) (w.1 w.0.0 w.0.1.is_link)

    pub leads_told : (answer : Bool) → LevelInto net sets slopes v e → IsBare net sets flows v
        → MatchBool answer (NoneLevelBefore net sets slopes v e) (NoneLevelBefore net sets slopes v e → ⊥)
        → MatchBool answer (LeadsToBare net sets flows slopes e link) (LeadsToBare net sets flows slopes e link → ⊥)
    leads_told true w b none = leads_made w b none
    leads_told false w b some = λ l. some (leads_first l)

  -- ---- the flow that fills a link
  fills_told : (capacity : Option ℚ) (x t : ℚ) → Decides (full_test (filling capacity t) x) (Fills capacity x t)
  fills_told None x t = (λ e. absurd (cc), λ f. absurd (none-some f.0 f.1))
  fills_told (Some c) x t =
      Decides-like (same_test x (c *ℚ t)) (λ (e : x ≡ c *ℚ t). (c, refl, e))
      (λ (f : Fills (Some c) x t). f.2 ∙ ap (λ (z : ℚ). z *ℚ t) (sym (same_Some c f.0 f.1))) (Decides-same x (c *ℚ t))

  module _ (passes : Passing) (fulls : List (Option ℚ)) (fulls_ok : fulls_list passes net sets slopes ≡ Ok fulls) (e : ℕ) (needs : NeedsState sets e) where
    abbrev full : Option ℚ
    full = unwrap_or (slice_get fulls e) None

    fills_decided : (link : Link) → IsLink net e link → Decides (full_test full (number_at flows e)) (Fills link.capacity (number_at flows e) (number_at slopes link.head))
    fills_decided link p = subst (λ (o : Option ℚ). Decides (full_test o (number_at flows e)) (Fills link.capacity (number_at flows e) (number_at slopes link.head)))
        (sym (fulls_at passes net sets slopes fulls fulls_ok e link p needs.0)) (fills_told link.capacity (number_at flows e) (number_at slopes link.head))

    pub empty_led : number_at flows e ≡ 0ℚ → ((link : Link) → IsLink net e link → LeadsToBare net sets flows slopes e link) → IsStateAt net sets flows slopes e (Some Tight)
    empty_led z l link p = (needs, inl (l link p))

    pub empty_zero : number_at flows e ≡ 0ℚ → ((link : Link) → IsLink net e link → LeadsToBare net sets flows slopes e link → ⊥) → IsStateAt net sets flows slopes e (Some Zero)
    empty_zero z n link p = (needs, (z, n link p))

    pub full_state : number_at flows e ≢ 0ℚ → full_test full (number_at flows e) ≡ true → IsStateAt net sets flows slopes e (Some Full)
    full_state z f link p = (needs, (z, (fills_decided link p).0 f))

    pub between_state : number_at flows e ≢ 0ℚ → full_test full (number_at flows e) ≡ false → IsStateAt net sets flows slopes e (Some Tight)
    between_state z f link p = (needs, inr (z, λ h. clash (sym f ∙ (fills_decided link p).1 h)))
      where
        clash : false ≡ true → ⊥
        clash q = cc

  -- ---- the pattern so far
  pub record StatesBelow (n : ℕ) (pattern : Pattern) : Type 0 where
    pub count : length pattern ≡ length net.links
    pub states : (e : ℕ) → e < n → (o : Option State) × (slice_get pattern e ≡ Some o) × IsStateAt net sets flows slopes e o

  pub states_first : (pattern : Pattern) (n : ℕ) → pattern ≡ replicate n None → n ≡ length net.links → StatesBelow 0 pattern
  states_first pattern n e h = record { count = ap length e ∙ (length-replicate n None ∙ h); states = λ k l. absurd (omega arith) }

  pub states_whole : (n m : ℕ) (pattern : Pattern) → m ≤ n → StatesBelow n pattern → StatesBelow m pattern
  states_whole n m pattern h so = record { count = so.count; states = λ e l. so.states e (omega arith) }

  pub states_more : (n : ℕ) (pattern : Pattern) (o : Option State) → n < length net.links → StatesBelow n pattern → IsStateAt net sets flows slopes n o
      → StatesBelow (n + 1) (slice_set pattern n o)
  states_more n pattern o inside so here = record {
    count = length-set pattern n o ∙ so.count;
    states = λ e h. ⊎_elim
        (λ (l : e < n). let s = so.states e l in (s.0, set_other pattern n e o (λ q. absurd (omega arith)) ∙ s.1, s.2))
        (λ (q : e ≡ n). subst (λ (k : ℕ). (s : Option State) × (slice_get (slice_set pattern n o) k ≡ Some s) × IsStateAt net sets flows slopes k s) (sym q)
        (o, set_same pattern n o (let c = so.count in omega arith), here))
        (before_or_at e n h);
  }

  -- ---- the whole pattern
  module _ (pattern : Pattern) (so : StatesBelow (length net.links) pattern) (count : length sets.active ≡ length net.links) where
    abbrev Entry : ℕ → Link → Type 0
    Entry e link = (o : Option State) × (slice_get pattern e ≡ Some o) × FitsState net sets flows slopes e link o

    entry_at : (e : ℕ) (link : Link) → IsLink net e link → Entry e link
    entry_at e link p = let s = so.states e (slice_get_within net.links e link p) in (s.0, s.1, s.2 link p)

    bare_empty : (e : ℕ) (link : Link) → LeadsToBare net sets flows slopes e link → number_at flows e ≡ 0ℚ
    bare_empty e link l = (l.bare.bare e link l.enters).1

    led : (e : ℕ) (link : Link) → NeedsState sets e → LeadsToBare net sets flows slopes e link → Entry e link → HasState pattern e Tight
    led e link n l (None, h, f) = absurd (f n)
    led e link n l (Some Tight, h, f) = h
    led e link n l (Some Full, h, f) = absurd (f.1.0 (bare_empty e link l))
    led e link n l (Some Zero, h, f) = absurd (f.1.1 l)

    empty : (e : ℕ) (link : Link) → NeedsState sets e → number_at flows e ≡ 0ℚ → (LeadsToBare net sets flows slopes e link → ⊥) → Entry e link → HasState pattern e Zero
    empty e link n z l (None, h, f) = absurd (f n)
    empty e link n z l (Some Tight, h, f) = absurd (⊎_elim (λ (w : LeadsToBare net sets flows slopes e link). l w)
        (λ (w : (number_at flows e ≢ 0ℚ) × (Fills link.capacity (number_at flows e) (number_at slopes link.head) → ⊥)). w.0 z) f.1)
    empty e link n z l (Some Full, h, f) = absurd (f.1.0 z)
    empty e link n z l (Some Zero, h, f) = h

    filled : (e : ℕ) (link : Link) → NeedsState sets e → number_at flows e ≢ 0ℚ → Fills link.capacity (number_at flows e) (number_at slopes link.head)
        → Entry e link → HasState pattern e Full
    filled e link n z k (None, h, f) = absurd (f n)
    filled e link n z k (Some Tight, h, f) = absurd (⊎_elim (λ (w : LeadsToBare net sets flows slopes e link). z (bare_empty e link w))
        (λ (w : (number_at flows e ≢ 0ℚ) × (Fills link.capacity (number_at flows e) (number_at slopes link.head) → ⊥)). w.1 k) f.1)
    filled e link n z k (Some Full, h, f) = h
    filled e link n z k (Some Zero, h, f) = absurd (z f.1.0)

    others : (e : ℕ) (link : Link) → NeedsState sets e → number_at flows e ≢ 0ℚ → (Fills link.capacity (number_at flows e) (number_at slopes link.head) → ⊥)
        → Entry e link → HasState pattern e Tight
    others e link n z k (None, h, f) = absurd (f n)
    others e link n z k (Some Tight, h, f) = h
    others e link n z k (Some Full, h, f) = absurd (k f.1.1)
    others e link n z k (Some Zero, h, f) = absurd (z f.1.0)

    needed : (e : ℕ) (link : Link) (state : State) → HasState pattern e state → Entry e link → NeedsState sets e
    needed e link state s (None, h, f) = absurd (clash (same_Some None (Some state) (sym h ∙ s)))
      where
        clash : None ≡ Some state → ⊥
        clash k = cc
    needed e link state s (Some Tight, h, f) = f.0
    needed e link state s (Some Full, h, f) = f.0
    needed e link state s (Some Zero, h, f) = f.0

    has_state : (e : ℕ) (link : Link) → NeedsState sets e → Entry e link → (state : State) × HasState pattern e state
    has_state e link n (None, h, f) = absurd (f n)
    has_state e link n (Some state, h, f) = (state, h)

    pub IsSettledPattern-made : IsSettledPattern net sets flows slopes pattern
    IsSettledPattern-made = record {
      count = so.count ∙ sym count;
      states = λ e. (
        (λ n. let l = entry net.links e (let w = slice_get_within sets.active e true n.0 in let c = count in omega arith) in has_state e l.0 n (entry_at e l.0 l.1)),
        (λ s. let l = entry net.links e (let w = slice_get_within pattern e (Some s.0) s.1 in let c = so.count in omega arith) in needed e l.0 s.0 s.1 (entry_at e l.0 l.1)),
      );
      led = λ e link p n l. led e link n l (entry_at e link p);
      zero = λ e link p n z l. empty e link n z l (entry_at e link p);
      full = λ e link p n z k. filled e link n z k (entry_at e link p);
      tight = λ e link p n z k. others e link n z k (entry_at e link p);
    }
