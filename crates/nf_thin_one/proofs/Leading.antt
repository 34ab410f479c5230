-- Flags of nodes that a pattern leads to.
use Rattle.std.proofs.Common.{◌≡◌, ◌≢◌, ⊎_elim, inl, inr, ℕ, zero, suc, Bool, true, false, List, [], ◌∷◌, slice_set, refl, sym, subst, ◌∙◌}
use Rattle.nf_thin_one.proofs.Common.{false≢true, none-some, same_Some, Has, Link, Network, IsLink, hop_of, Sets, Pattern, MayCarry, IsLed, AreLed}
use Rattle.nf_model_laws.proofs.Networks.{hop_at}
use Rattle.nf_pattern.proofs.Setting.{set_other, tell}

-- whether no flag is set
abbrev pub are_clear : List Bool → Bool
are_clear [] = true
are_clear (true ∷ flags) = false
are_clear (false ∷ flags) = are_clear flags

none_set : (flags : List Bool) (v : ℕ) → are_clear flags ≡ true → Has flags v → ⊥
none_set [] v clear has = none-some true has
none_set (true ∷ flags) v clear has = false≢true clear
none_set (false ∷ flags) zero clear has = false≢true (same_Some false true has)
none_set (false ∷ flags) (suc v) clear has = none_set flags v clear has

module _ (net : Network) (sets : Sets) (pattern : Pattern) where
  -- at first the source alone has a flag
  pub source_led : (flags : List Bool) (node : ℕ) → are_clear flags ≡ true → node ≡ net.source → AreLed net sets pattern (slice_set flags node true)
  source_led flags node clear is v has = ⊎_elim
      (λ (same : v ≡ node). inl (same ∙ is))
      (λ (apart : v ≢ node). absurd (none_set flags v clear (sym (set_other flags node v true apart) ∙ has)))
      (tell v node)

  -- a link that leads to a node
  pub led_by : (e : ℕ) (link : Link) → IsLink net e link → MayCarry sets pattern e → IsLed net sets pattern link.head
  led_by e link is carries = (e, hop_of link, hop_at net e link is, refl, carries)

  -- one more node that is led to
  pub one_more_led : (flags : List Bool) (node : ℕ) → AreLed net sets pattern flags → IsLed net sets pattern node → AreLed net sets pattern (slice_set flags node true)
  one_more_led flags node are here v has = ⊎_elim
      (λ (same : v ≡ node). inr (subst (λ (w : ℕ). IsLed net sets pattern w) (sym same) here))
      (λ (apart : v ≢ node). are v (sym (set_other flags node v true apart) ∙ has))
      (tell v node)
