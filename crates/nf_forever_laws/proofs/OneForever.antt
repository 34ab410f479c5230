-- A run without a horizon has a unique end. Its phases have positive length.
use Rattle.std.proofs.Common.{◌≡◌, ℕ, List, [], ◌∷◌, length, sym, ap, subst, refl, ◌∙◌, arith, Option, Some, None, Ok}
use Rattle.nf_forever_laws.proofs.Common.{ℚ, 0ℚ, ◌+ℚ◌, ◌<ℚ◌, reading_of, lt, eq, linear_lt, Passing, Checked, checked, Network, ArePieces, Pattern, Cause}
use Rattle.nf_forever_laws.proofs.Common.{Standing, Tail, End, Stops, NeverEnds, RunsForever, at_phases, fails, never_ends, goes, IsForeverRun, Forever}
use Rattle.nf_forever_laws.proofs.Common.{forever_of, IsForever}
use Rattle.nf_frac_def.proofs.Binding.{bind_ok}
use Rattle.nf_frac_def.specs.declared.Op.TheVariants.{Sum}
use Rattle.nf_thin_def.specs.Extend.{extend_list}
use Rattle.nf_thin_laws.proofs.OneRun.{one_start, goes_knows, start_knows}
use Rattle.nf_curve_laws.proofs.Operations.{checked-is}
use Rattle.nf_phase_laws.proofs.Length.{IsExtension-some}
use Rattle.nf_phase_laws.proofs.Extension.{extension_is}
use Rattle.nf_phase_def.specs.ToEnd.{end_after, end_list}
use Rattle.nf_forever_laws.proofs.Outcomes.{Moves, Ends, Fault, one_outcome, fails-comes, goes-comes, ends-comes}

-- ---- the end of a phase is later than its beginning
same_end : (x y : ℚ) → ◌≡◌ {A = Checked (Option ℚ)} (Ok (Some x)) (Ok (Some y)) → x ≡ y
same_end x y h = cc

no_end : (y : ℚ) → ◌≡◌ {A = Checked (Option ℚ)} (Ok None) (Ok (Some y)) → ⊥
no_end y h = cc

pub ends_later : (passes : Passing) (net : Network) (slacks slopes : List ℚ) (time end : ℚ) → ArePieces net.pieces → end_list passes net slacks slopes time ≡ Ok (Some end) → time <ℚ end
unfolding end_list
ends_later passes net slacks slopes time end pieces h = by b.0 b.1 b.2
  where
    b : (x : Option ℚ) × (extend_list passes net slacks slopes time ≡ Ok x) × (end_after passes time x ≡ Ok (Some end))
    b = bind_ok (extend_list passes net slacks slopes time) (end_after passes time) (Some end) h

    later : (e l : ℚ) → 0ℚ <ℚ l → e ≡ time +ℚ l → time <ℚ e
    later e l k f = linear_lt (time ∷ e ∷ l ∷ []) (lt k ∷ eq f ∷ []) (search reading_of) tt

    by : (x : Option ℚ) → extend_list passes net slacks slopes time ≡ Ok x → end_after passes time x ≡ Ok (Some end) → time <ℚ end
    by None e k = absurd (no_end end k)
    by (Some length) e k =
        let c = bind_ok (checked passes Sum time length) (λ end. Ok (Some end)) (Some end) k in
        later end length (IsExtension-some net slacks slopes time length (extension_is net slacks slopes time passes length pieces e))
        (sym (same_end c.0 end c.2) ∙ checked-is passes Sum time length c.0 c.1)

-- ---- the unique end
moves_not_ends : (t : Standing) (p : Pattern) (tail : Tail) → Moves t ≡ Ends p tail → ⊥
moves_not_ends t p tail h = cc

moves_not_fault : (t : Standing) (c : Cause ℚ) → Moves t ≡ Fault c → ⊥
moves_not_fault t c h = cc

ends_not_fault : (p : Pattern) (tail : Tail) (c : Cause ℚ) → Ends p tail ≡ Fault c → ⊥
ends_not_fault p tail c h = cc

same_moves : (t u : Standing) → Moves t ≡ Moves u → t ≡ u
same_moves t u h = cc

same_fault : (c d : Cause ℚ) → Fault c ≡ Fault d → Stops c ≡ Stops d
same_fault c d h = cc

same_tail : (p q : Pattern) (t u : Tail) → Ends p t ≡ Ends q u → NeverEnds p t ≡ NeverEnds q u
same_tail p q t u h = cc

module _ (passes : Passing) (net : Network) (phases patterns : ℕ) where
  abbrev Same : Standing → Standing → End → End → Type 0
  Same l m o r = (l ≡ m) × (o ≡ r)

  one_end : (s l m : Standing) (o r : End) → length s.last ≡ length net.links → RunsForever passes net phases patterns s l o → RunsForever passes net phases patterns s m r → Same l m o r
  one_end s l m o r knows (at_phases e) (at_phases f) = (refl, refl)
  one_end s l m o r knows (at_phases e) (fails may f) = absurd (omega arith)
  one_end s l m o r knows (at_phases e) (never_ends may g) = absurd (omega arith)
  one_end s l m o r knows (at_phases e) (goes may g rest) = absurd (omega arith)
  one_end s l m o r knows (fails may f) (at_phases e) = absurd (omega arith)
  one_end s l m o r knows (fails may f) (fails may' g) =
      (refl, same_fault _ _ (one_outcome passes net patterns s knows _ _ (fails-comes passes net patterns s _ f) (fails-comes passes net patterns s _ g)))
  one_end s l m o r knows (fails may f) (never_ends may' g) =
      absurd (ends_not_fault _ _ _ (one_outcome passes net patterns s knows _ _ (ends-comes passes net patterns s _ _ g)
      (fails-comes passes net patterns s _ f)))
  one_end s l m o r knows (fails may f) (goes may' g rest) =
      absurd (moves_not_fault _ _ (one_outcome passes net patterns s knows _ _ (goes-comes passes net patterns s _ g)
      (fails-comes passes net patterns s _ f)))
  one_end s l m o r knows (never_ends may g) (at_phases e) = absurd (omega arith)
  one_end s l m o r knows (never_ends may g) (fails may' f) =
      absurd (ends_not_fault _ _ _ (one_outcome passes net patterns s knows _ _ (ends-comes passes net patterns s _ _ g)
      (fails-comes passes net patterns s _ f)))
  one_end s l m o r knows (never_ends may g) (never_ends may' h) = (
    refl,
    same_tail _ _ _ _ (one_outcome passes net patterns s knows _ _ (ends-comes passes net patterns s _ _ g)
        (ends-comes passes net patterns s _ _ h)),
  )
  one_end s l m o r knows (never_ends may g) (goes may' h rest) =
      absurd (moves_not_ends _ _ _ (one_outcome passes net patterns s knows _ _ (goes-comes passes net patterns s _ h)
      (ends-comes passes net patterns s _ _ g)))
  one_end s l m o r knows (goes may g rest) (at_phases e) = absurd (omega arith)
  one_end s l m o r knows (goes may g rest) (fails may' f) =
      absurd (moves_not_fault _ _ (one_outcome passes net patterns s knows _ _ (goes-comes passes net patterns s _ g)
      (fails-comes passes net patterns s _ f)))
  one_end s l m o r knows (goes may g rest) (never_ends may' h) =
      absurd (moves_not_ends _ _ _ (one_outcome passes net patterns s knows _ _ (goes-comes passes net patterns s _ g)
      (ends-comes passes net patterns s _ _ h)))
  one_end s l m o r knows (goes {new = t} may g rest) (goes {new = u} may' h other) =
      let same : t ≡ u = same_moves t u (one_outcome passes net patterns s knows _ _ (goes-comes passes net patterns s _ g) (goes-comes passes net patterns s _ h)) in
      one_end t l m o r (goes_knows passes net g.end patterns s t g.goes) rest (subst (λ (w : Standing). RunsForever passes net phases patterns w m r) (sym same) other)

  one_run : (l m : Standing) (o r : End) → IsForeverRun passes net phases patterns l o → IsForeverRun passes net phases patterns m r → Same l m o r
  one_run l m o r h k =
      let first : h.first ≡ k.first = one_start net h.first k.first h.start k.start in
      one_end k.first l m o r (start_knows net k.first k.start) (subst (λ (w : Standing). RunsForever passes net phases patterns w l o) first h.runs) k.runs

  pub one_forever : (a b : Forever) → IsForever passes net phases patterns a → IsForever passes net phases patterns b → a ≡ b
  one_forever a b h k =
      let e = one_run h.last k.last h.end k.end h.run k.run in
      h.forever_is ∙ ap (λ (l : Standing). forever_of l h.end) e.0 ∙ ap (forever_of k.last) e.1 ∙ sym k.forever_is
