-- Flags of jointly acyclic links, when a link is added or removed.
use Rattle.std.proofs.Common.{◌≡◌, ◌≢◌, ℕ, suc, ◌+◌, ◌<◌, ◌≤◌, ⊎_elim, Bool, true, false, List, length, take, Some, sym, ap, subst, ◌∙◌, arith, slice_get}
use Rattle.std.proofs.Common.{slice_set, MatchBool}
use Rattle.nf_pattern.proofs.Common.{same_Some, Tight, Has, Hop, Pattern, HasState, FirmLinks, TightBefore, LeadsBack, NoneCloses, FirmBefore}
use Rattle.nf_pattern.proofs.Common.{AreJointlyAcyclic, AreCalm}
use Rattle.nf_pattern.proofs.Choosing.{same_front_at}
use Rattle.nf_pattern.proofs.Setting.{set_same, set_other, tell}
use Rattle.nf_pattern.proofs.Trails.{joined_by}

module _ (hops : List Hop) (p : Pattern) (n : ℕ) (links : FirmLinks) (calm : AreCalm hops p n links) where
  -- One more link, which is not Tight or is flagged.
  more_calm : (HasState p n Tight → Has links.flags.items n) → AreCalm hops p (suc n) links
  more_calm here = record {
    count = calm.count;
    firm = calm.firm;
    calm = λ e less before tight. ⊎_elim
        (λ (same : e ≡ n). subst (λ (k : ℕ). Has links.flags.items k) (sym same) (here (subst (λ (k : ℕ). HasState p k Tight) same tight)))
        (λ (other : e ≢ n). calm.calm e (omega arith) before tight)
        (tell e n);
  }

  pub calm_loose : (HasState p n Tight → ⊥) → AreCalm hops p (suc n) links
  calm_loose none = more_calm (λ tight. absurd (none tight))

  pub calm_firm : Has links.flags.items n → AreCalm hops p (suc n) links
  calm_firm firm = more_calm (λ tight. firm)

  -- The link is not examined yet.
  pub calm_fewer : (m : ℕ) → m ≤ n → AreCalm hops p m links
  calm_fewer m few = record { count = calm.count; firm = calm.firm; calm = λ e less before tight. calm.calm e (omega arith) before tight }

  -- The same with another first possible exception.
  pub calm_up_to : (m : ℕ) (after : FirmLinks) → after.flags.items ≡ links.flags.items → ((e : ℕ) → e < m → e < after.calm → (e < n) × (e < links.calm)) → AreCalm hops p m after
  calm_up_to m after same fewer = record {
    count = ap length same ∙ calm.count;
    firm = subst (AreJointlyAcyclic hops) (sym same) calm.firm;
    calm = λ e less before tight. let f = fewer e less before in subst (λ (flags : List Bool). Has flags e) (sym same) (calm.calm e f.0 f.1 tight);
  }

  -- A flagged link closes no cycle with Tight links before it, if these are flagged.
  pub calm_clear : n ≤ links.calm → Has links.flags.items n → LeadsBack hops p n → ⊥
  calm_clear all firm back = calm.firm n back.hop firm back.is_hop
      (joined_by hops (TightBefore p n) (FirmBefore links.flags.items n) back.hop.head back.hop.tail (λ k t. (t.0, calm.calm k t.0 (let l = t.0 in omega arith) t.1)) back.joined)

-- A pattern that is the same up to there.
pub calm_same : (hops : List Hop) (p r : Pattern) (n : ℕ) (links : FirmLinks) → take n r ≡ take n p → AreCalm hops p n links → AreCalm hops r n links
calm_same hops p r n links same calm = record {
  count = calm.count;
  firm = calm.firm;
  calm = λ e less before tight. calm.calm e less before (sym (same_front_at n e r p less same) ∙ tight);
}

-- ---- the Tight links of a base, none of which closes a cycle
abbrev pub AreMarked : Pattern → ℕ → List Bool → Type 0
AreMarked base n flags = (e : ℕ) → Has flags e → (e < n) × HasState base e Tight

pub marked_more : (base : Pattern) (n : ℕ) (flags : List Bool) → AreMarked base n flags → AreMarked base (n + 1) flags
marked_more base n flags marked e has = let m = marked e has in (let l = m.0 in omega arith, m.1)

pub marked_set : (base : Pattern) (n i : ℕ) (flags : List Bool) (flag : Bool) → i ≡ n → i < length flags → MatchBool flag (HasState base n Tight) (HasState base n Tight → ⊥)
    → AreMarked base n flags → AreMarked base (n + 1) (slice_set flags i flag)
marked_set base n i flags flag same within told marked e has = ⊎_elim
    (λ (here : e ≡ i). (
      omega arith,
      subst (λ (k : ℕ). HasState base k Tight) (sym (here ∙ same)) (is_tight flag told
          (same_Some flag true (sym (set_same flags i flag within) ∙ subst (λ (k : ℕ). slice_get (slice_set flags i flag) k ≡ Some true) here has))),
    ))
    (λ (other : e ≢ i). marked_more base n flags marked e (sym (set_other flags i e flag other) ∙ has))
    (tell e i)
  where
    is_tight : (b : Bool) → MatchBool b (HasState base n Tight) (HasState base n Tight → ⊥) → b ≡ true → HasState base n Tight
    is_tight true t e = t
    is_tight false t e = cc

pub marked_none : (base : Pattern) (flags : List Bool) → ((e : ℕ) → Has flags e → ⊥) → AreMarked base 0 flags
marked_none base flags none e has = absurd (none e has)

pub calm_marked : (hops : List Hop) (base p : Pattern) (n : ℕ) (links : FirmLinks) → length links.flags.items ≡ length hops → NoneCloses hops base n
    → AreMarked base n links.flags.items → AreCalm hops p 0 links
calm_marked hops base p n links count clear marked = record {
  count = count;
  firm = λ e hop firm is joined. clear e (marked e firm).0 (
    (marked e firm).1,
    record { hop = hop; is_hop = is; joined = joined_by hops (FirmBefore links.flags.items e) (TightBefore base e) hop.head hop.tail (λ k t. (t.0, (marked k t.1).1)) joined },
  );
  calm = λ e less before tight. absurd (omega arith);
}
