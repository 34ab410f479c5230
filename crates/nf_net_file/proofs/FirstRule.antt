-- The first rule that a file as a whole breaks.
use Rattle.std.proofs.Common.{◌≡◌, true, false, ◌||◌, refl, inl, inr, is_none}
use Rattle.nf_net_file.proofs.Common.{N17, N18, N19, N20, N21, N22, Draft, LeavesUnreached, HasZeroCycle, HasPassingSum, HasEnds, BreaksNone}
use Rattle.nf_net_file.proofs.Common.{BreaksFirstAtEnd}

module _ (draft : Draft) where
  pub first_ended : draft.ended ≡ false → BreaksFirstAtEnd draft N17
  first_ended e = inl (e, refl)

  not_ended : draft.ended ≡ true → draft.ended ≡ false → ⊥
  not_ended e f = cc

  pub first_named : draft.ended ≡ true → (is_none draft.source || is_none draft.sink) ≡ true → BreaksFirstAtEnd draft N18
  first_named e n = inr (not_ended e, inl (n, refl))

  not_named : (is_none draft.source || is_none draft.sink) ≡ false → (is_none draft.source || is_none draft.sink) ≡ true → ⊥
  not_named e f = cc

  pub first_apart : draft.ended ≡ true → (is_none draft.source || is_none draft.sink) ≡ false → draft.source ≡ draft.sink → BreaksFirstAtEnd draft N19
  first_apart e n s = inr (not_ended e, inr (not_named n, inl (s, refl)))

  pub first_unreached : HasEnds draft → LeavesUnreached draft → BreaksFirstAtEnd draft N20
  first_unreached h u = inr (not_ended h.ended, inr (not_named h.named, inr (h.apart, inl (u, refl))))

  pub first_cycle : HasEnds draft → (LeavesUnreached draft → ⊥) → HasZeroCycle draft → BreaksFirstAtEnd draft N21
  first_cycle h u c = inr (not_ended h.ended, inr (not_named h.named, inr (h.apart, inr (u, inl (c, refl)))))

  pub first_passing : HasEnds draft → (LeavesUnreached draft → ⊥) → (HasZeroCycle draft → ⊥) → HasPassingSum draft → BreaksFirstAtEnd draft N22
  first_passing h u c p = inr (not_ended h.ended, inr (not_named h.named, inr (h.apart, inr (u, inr (c, inl (p, refl))))))

  pub none_broken : HasEnds draft → (LeavesUnreached draft → ⊥) → (HasZeroCycle draft → ⊥) → (HasPassingSum draft → ⊥) → BreaksNone draft
  none_broken h u c p = (not_ended h.ended, (not_named h.named, (h.apart, (u, (c, (p, tt))))))
