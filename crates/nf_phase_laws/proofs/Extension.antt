-- The value of the extend list is the extension length.
use Rattle.std.proofs.Common.{◌≡◌, ℕ, zero, suc, ◌+◌, List, [], ◌∷◌, Bool, true, false, if◌then◌else◌, sym, ap, subst, refl, arith, Option, Some, None, Ok}
use Rattle.std.proofs.Common.{slice_get}
use Rattle.nf_phase_laws.proofs.Common.{enumerate_from, none-some, same_Some, ℚ, 0ℚ, ◌+ℚ◌, ◌-ℚ◌, ◌≤ℚ◌, ◌<ℚ◌, lt_ℚ, reading_of, le, lt, linear_le}
use Rattle.nf_phase_laws.proofs.Common.{linear_false, ≤ℚ_of_lt, ≤ℚ_of_same, less_ps, Passing, number_at, Link, Piece, Network, IsLink, IsPiece, ArePieces}
use Rattle.nf_phase_laws.proofs.Common.{first_start, next_change, Lasts, IsExtension, IsUnending, StartsRise, StartsRise-pieces, StartsRise-rest, is_zero}
use Rattle.nf_phase_laws.proofs.Common.{are_opposite, never, ≤ℚ_refl, ≤ℚ_trans, less_of_test, not_less_of_test, fold_checked, to_zero, after_link}
use Rattle.nf_phase_laws.proofs.Common.{least_after, until_change, extend_list_as, bind_ok}
use Rattle.nf_frac_def.specs.Checked.{checked}
use Rattle.nf_thin_def.specs.Extend.{extend_list}
use Rattle.nf_phase_laws.proofs.Limits.{HoldsUpTo, IsLimit, Both, IsLimit-same, IsLimit-with, IsLimit-lesser}
use Rattle.nf_phase_laws.proofs.Sides.{KeepsSide, keeps_at_zero, keeps_away, keeps_until}
use Rattle.nf_rational_laws.proofs.Results.{same_Ok}

-- ---- one link
module _ (P : ℚ → Type 0) where
  to_zero_limits : (b : Bool) (least next : Option ℚ) (s c : ℚ) → are_opposite s c ≡ b → IsLimit P least → to_zero never b least s c ≡ Ok next → IsLimit (Both P (KeepsSide s c)) next
  unfolding checked
  to_zero_limits false least next s c e p h = subst (IsLimit (Both P (KeepsSide s c))) (same_Ok least next h) (IsLimit-with P _ least p (keeps_away s c e))
  to_zero_limits true least next s c e p h = subst (IsLimit (Both P (KeepsSide s c))) (same_Ok _ next h) (IsLimit-lesser P _ least _ p (keeps_until s c e))

  after_limits : (b : Bool) (least next : Option ℚ) (s tail head : ℚ) → is_zero s ≡ b → IsLimit P least → after_link never b least s tail head ≡ Ok next
      → IsLimit (Both P (KeepsSide s (head -ℚ tail))) next
  unfolding checked
  after_limits true least next s tail head e p h =
      subst (IsLimit (Both P (KeepsSide s (head -ℚ tail)))) (same_Ok least next h) (IsLimit-with P _ least p (keeps_at_zero s (head -ℚ tail) e))
  after_limits false least next s tail head e p h = to_zero_limits (are_opposite s (head -ℚ tail)) least next s (head -ℚ tail) refl p h

-- ---- link by link
module _ (slacks slopes : List ℚ) where
  abbrev LinkKeeps : ℕ → Link → ℚ → Type 0
  LinkKeeps e link length = KeepsSide (number_at slacks e) (number_at slopes link.head -ℚ number_at slopes link.tail) length

  abbrev AllKeep : ℕ → List Link → ℚ → Type 0
  AllKeep k links length = (i : ℕ) (link : Link) → slice_get links i ≡ Some link → LinkKeeps (k + i) link length

  none_keeps : (k : ℕ) (length : ℚ) → AllKeep k [] length
  none_keeps k length i link e = absurd (none-some link e)

  one_more : (k : ℕ) (link : Link) (links : List Link) (length : ℚ) → LinkKeeps k link length → AllKeep (k + 1) links length → AllKeep k (link ∷ links) length
  one_more k link links length first rest zero l e =
      subst (λ (m : Link). LinkKeeps (k + 0) m length) (same_Some link l e) (subst (λ (j : ℕ). LinkKeeps j link length) (omega arith) first)
  one_more k link links length first rest (suc i) l e = subst (λ (j : ℕ). LinkKeeps j l length) (omega arith) (rest i l e)

  first_of : (k : ℕ) (link : Link) (links : List Link) (length : ℚ) → AllKeep k (link ∷ links) length → LinkKeeps k link length
  first_of k link links length all = subst (λ (j : ℕ). LinkKeeps j link length) (omega arith) (all 0 link refl)

  rest_of : (k : ℕ) (link : Link) (links : List Link) (length : ℚ) → AllKeep k (link ∷ links) length → AllKeep (k + 1) links length
  rest_of k link links length all i l e = subst (λ (j : ℕ). LinkKeeps j l length) (omega arith) (all (suc i) l e)

  fold_limits : (P : ℚ → Type 0) (links : List Link) (k : ℕ) (least next : Option ℚ) → IsLimit P least
      → fold_checked (least_after never slacks slopes) least (enumerate_from k links) ≡ Ok next
      → IsLimit (Both P (AllKeep k links)) next
  fold_limits P [] k least next p h = subst (IsLimit (Both P (AllKeep k []))) (same_Ok least next h) (IsLimit-with P _ least p (λ length l. none_keeps k length))
  fold_limits P (link ∷ links) k least next p h =
      let one = bind_ok (least_after never slacks slopes least (k, link)) (λ (m : Option ℚ). fold_checked (least_after never slacks slopes) m (enumerate_from (k + 1) links)) next h in
      IsLimit-same (Both (Both P (LinkKeeps k link)) (AllKeep (k + 1) links)) (Both P (AllKeep k (link ∷ links)))
      (λ (length : ℚ) (w : Both (Both P (LinkKeeps k link)) (AllKeep (k + 1) links) length). (w.0.0, one_more k link links length w.0.1 w.1))
      (λ (length : ℚ) (w : Both P (AllKeep k (link ∷ links)) length). ((w.0, first_of k link links length w.1), rest_of k link links length w.1))
      next
      (fold_limits (Both P (LinkKeeps k link)) links (k + 1) one.0 next
      (after_limits P (is_zero (number_at slacks k)) least one.0 (number_at slacks k) (number_at slopes link.tail) (number_at slopes link.head) refl p one.1) one.2)

-- ---- the next change of the inflow rate
fits : (t x y l : ℚ) → x ≤ℚ y → l ≤ℚ x -ℚ t → (t +ℚ l) ≤ℚ y
fits t x y l h k = linear_le (t ∷ x ∷ y ∷ l ∷ []) (le h ∷ le k ∷ []) (search reading_of) tt

room : (t x l : ℚ) → (t +ℚ l) ≤ℚ x → l ≤ℚ x -ℚ t
room t x l h = linear_le (t ∷ x ∷ l ∷ []) (le h ∷ []) (search reading_of) tt

not_before : (t x : ℚ) → x ≤ℚ t → t <ℚ x → ⊥
not_before t x h k = linear_false (t ∷ x ∷ []) (le h ∷ lt k ∷ []) (search reading_of) tt

-- Each of these pieces starts at this time or later.
abbrev EachFrom : ℚ → List Piece → Type 0
EachFrom start pieces = (i : ℕ) (piece : Piece) → IsPiece pieces i piece → start ≤ℚ piece.start

each_from : (piece : Piece) (later : List Piece) → StartsRise (piece ∷ later) → EachFrom piece.start (piece ∷ later)
each_from piece [] rise zero p e = ≤ℚ_of_same _ _ (ap (λ (q : Piece). q.start) (same_Some piece p e))
each_from piece [] rise (suc i) p e = absurd (none-some p e)
each_from piece (next ∷ later) rise zero p e = ≤ℚ_of_same _ _ (ap (λ (q : Piece). q.start) (same_Some piece p e))
each_from piece (next ∷ later) rise (suc i) p e = ≤ℚ_trans piece.start next.start p.start (≤ℚ_of_lt _ _ rise.0) (each_from next later rise.1 i p e)

module _ (time : ℚ) where
  -- No piece that starts after the time starts before a phase of this length ends.
  abbrev NoneStarts : List Piece → ℚ → Type 0
  NoneStarts pieces length = (i : ℕ) (piece : Piece) → IsPiece pieces i piece → time <ℚ piece.start → (time +ℚ length) ≤ℚ piece.start

  started : (piece : Piece) (later : List Piece) (length : ℚ) → lt_ℚ time piece.start ≡ false → NoneStarts later length → NoneStarts (piece ∷ later) length
  started piece later length test none zero p e h =
      absurd (not_before time piece.start (not_less_of_test time piece.start test) (subst (λ (q : Piece). time <ℚ q.start) (sym (same_Some piece p e)) h))
  started piece later length test none (suc i) p e h = none i p e h

  -- The limit by the next change.
  abbrev limit_of : Option ℚ → Option ℚ
  limit_of None = None
  limit_of (Some start) = Some (start -ℚ time)

  first_limits : (b : Bool) (piece : Piece) (later : List Piece) → StartsRise (piece ∷ later) → lt_ℚ time piece.start ≡ b
      → IsLimit (NoneStarts later) (limit_of (first_start later time)) → IsLimit (NoneStarts (piece ∷ later)) (limit_of (if b then Some piece.start else first_start later time))
  first_limits true piece later rise test rest = record {
    positive = less_ps time piece.start (less_of_test time piece.start test);
    within = λ length h k i p e after. fits time piece.start p.start length (each_from piece later rise i p e) k;
    bound = λ length h none. room time piece.start length (none 0 piece refl (less_of_test time piece.start test));
  }
  first_limits false piece later rise test rest = IsLimit-same (NoneStarts later) (NoneStarts (piece ∷ later))
      (λ length none. started piece later length test none) (λ length none i p e h. none (suc i) p e h) (limit_of (first_start later time)) rest

  change_limits : (pieces : List Piece) → StartsRise pieces → IsLimit (NoneStarts pieces) (limit_of (first_start pieces time))
  change_limits [] rise = λ length h i p e k. absurd (none-some p e)
  change_limits (piece ∷ later) rise = first_limits (lt_ℚ time piece.start) piece later rise refl (change_limits later (StartsRise-rest piece later rise))

  until_limits : (P Q : ℚ → Type 0) (change least next : Option ℚ) → IsLimit P least → IsLimit Q (limit_of change)
      → until_change never least time change ≡ Ok next → IsLimit (Both P Q) next
  unfolding checked
  until_limits P Q None least next p q h = subst (IsLimit (Both P Q)) (same_Ok least next h) (IsLimit-with P Q least p q)
  until_limits P Q (Some change) least next p q h = subst (IsLimit (Both P Q)) (same_Ok _ next h) (IsLimit-lesser P Q least (change -ℚ time) p q)

-- ---- the whole list
module _ (net : Network) (slacks slopes : List ℚ) (time : ℚ) where
  abbrev Anything : ℚ → Type 0
  Anything length = Unit {0}

  abbrev Held : ℚ → Type 0
  Held = Both (Both Anything (AllKeep slacks slopes 0 net.links)) (NoneStarts time net.pieces)

  lasts : (length : ℚ) → 0ℚ ≤ℚ length → Held length → Lasts net slacks slopes time length
  lasts length h held = record {
    not_negative = h;
    inactive = λ e link while p below w. (side e link p).inactive while below w;
    resetting = λ e link while p above w. (side e link p).resetting while above w;
    supply = held.1;
  }
    where
      side : (e : ℕ) (link : Link) → IsLink net e link → KeepsSide (number_at slacks e) (number_at slopes link.head -ℚ number_at slopes link.tail) length
      side e link p = subst (λ (j : ℕ). LinkKeeps slacks slopes j link length) (omega arith) (held.0.1 e link p)

  held : (length : ℚ) → Lasts net slacks slopes time length → Held length
  held length l = ((tt, λ e link p. subst (λ (j : ℕ). LinkKeeps slacks slopes j link length) (omega arith) (side e link p)), l.supply)
    where
      side : (e : ℕ) (link : Link) → IsLink net e link → KeepsSide (number_at slacks e) (number_at slopes link.head -ℚ number_at slopes link.tail) length
      side e link p = record { inactive = λ while below w. l.inactive e link while p below w; resetting = λ while above w. l.resetting e link while p above w }

  whole : (rise : StartsRise net.pieces) (extension : Option ℚ) → extend_list never net slacks slopes time ≡ Ok extension → IsLimit Held extension
  unfolding extend_list
  whole rise extension h =
      let links = bind_ok (fold_checked (least_after never slacks slopes) None (enumerate_from 0 net.links))
      (λ (m : Option ℚ). until_change never m time (next_change net time)) extension h in
      until_limits time (Both Anything (AllKeep slacks slopes 0 net.links)) (NoneStarts time net.pieces) (next_change net time) links.0 extension
      (fold_limits slacks slopes Anything net.links 0 None links.0 (λ length l. tt) links.1) (change_limits time net.pieces rise) links.2

  pub extension_is : (passes : Passing) (length : ℚ) → ArePieces net.pieces → extend_list passes net slacks slopes time ≡ Ok (Some length) → IsExtension net slacks slopes time length
  extension_is passes length pieces h =
      let limit : HoldsUpTo Held length = whole (StartsRise-pieces net.pieces pieces) (Some length) (extend_list_as passes net slacks slopes time (Some length) h) in
      record {
        lasts = lasts length (≤ℚ_of_lt _ _ limit.positive) (limit.within length (≤ℚ_of_lt _ _ limit.positive) (≤ℚ_refl length));
        greatest = λ other l. limit.bound other l.not_negative (held other l);
      }

  pub unending_is : (passes : Passing) → ArePieces net.pieces → extend_list passes net slacks slopes time ≡ Ok None → IsUnending net slacks slopes time
  unending_is passes pieces h = λ length l. lasts length l (whole (StartsRise-pieces net.pieces pieces) None (extend_list_as passes net slacks slopes time None h) length l)
