-- The flags of interior links, and how many of them are set.
use Rattle.std.proofs.Common.{◌≡◌, ℕ, zero, suc, ◌+◌, ◌<◌, ◌≤◌, ⊎_elim, List, [], ◌∷◌, length, take, Bool, true, false, not, ◌&&◌, sym, ap, subst, refl}
use Rattle.std.proofs.Common.{◌∙◌, arith, ◌↔◌, Option, Some, None, slice_get, unwrap_or, Ok}
use Rattle.nf_complete_conditions.proofs.Common.{Decides, range_with_len, Decides-like, Decides-and, Decides-not, take_all, length-map-range_with_len}
use Rattle.nf_complete_conditions.proofs.Common.{none-some, same_Some, slice_get_within, ℚ, 0ℚ, ◌*ℚ◌, ◌<ℚ◌, lt_ℚ, Passing, number_at, Has, Link, Network}
use Rattle.nf_complete_conditions.proofs.Common.{IsLink, Sets, entry, slice_get-image, slice_get-range, flag, flag-cases, fulls_list, filling, is_inside}
use Rattle.nf_complete_conditions.proofs.Common.{interior_test, interior_flags}
use Rattle.nf_complete_def.specs.Interior.{IsInterior}
use Rattle.nf_complete_conditions.proofs.Deciding.{Decides-less}
use Rattle.nf_complete_conditions.proofs.Filling.{fulls_at}

Decides-flag : (flags : List Bool) (e : ℕ) → Decides (flag flags e) (Has flags e)
Decides-flag flags e = ⊎_elim
    (λ (w : (flag flags e ≡ true) × Has flags e). (λ _. w.1, λ _. w.0))
    (λ (w : (flag flags e ≡ false) × (Has flags e → ⊥)). (λ h. absurd (clash (sym w.0 ∙ h)), λ h. absurd (w.1 h)))
    (flag-cases flags e)
  where
    clash : false ≡ true → ⊥
    clash q = cc

abbrev IsBetween : Option ℚ → ℚ → Type 0
IsBetween full x = (0ℚ <ℚ x) × ((most : ℚ) → full ≡ Some most → x <ℚ most)

Decides-between : (full : Option ℚ) (x : ℚ) → Decides (is_inside full x) (IsBetween full x)
Decides-between None x = Decides-like (lt_ℚ 0ℚ x) (λ (h : 0ℚ <ℚ x). (h, λ most e. absurd (none-some most e))) (λ (w : IsBetween None x). w.0) (Decides-less 0ℚ x)
Decides-between (Some full) x = Decides-like (lt_ℚ 0ℚ x && lt_ℚ x full)
    (λ (w : (0ℚ <ℚ x) × (x <ℚ full)). (w.0, λ most e. subst (λ (z : ℚ). x <ℚ z) (same_Some full most e) w.1))
    (λ (w : IsBetween (Some full) x). (w.0, w.1 full refl))
    (Decides-and (lt_ℚ 0ℚ x) (lt_ℚ x full) (Decides-less 0ℚ x) (Decides-less x full))

-- ---- the flags so far
module _ (sets : Sets) (fulls : List (Option ℚ)) (flows : List ℚ) where
  pub test_at : (e : ℕ) (b : Bool) → e < length flows → b ≡ interior_test sets fulls flows e → slice_get (interior_flags sets fulls flows) e ≡ Some b
  test_at e b h same = slice_get-image (interior_test sets fulls flows) (range_with_len 0 (length flows)) e (0 + e) (slice_get-range 0 (length flows) e h)
      ∙ ap (λ (k : ℕ). Some (interior_test sets fulls flows k)) (let z : 0 + e ≡ e = omega arith in z) ∙ ap (λ (t : Bool). Some t) (sym same)

  pub flags_by_flows : length (interior_flags sets fulls flows) ≡ length flows
  flags_by_flows = length-map-range_with_len (interior_test sets fulls flows) 0 (length flows)

  pub flags_whole : (e : ℕ) (items : List Bool) → length flows ≤ e → items ≡ take e (interior_flags sets fulls flows) → items ≡ interior_flags sets fulls flows
  flags_whole e items h so = so ∙ take_all e (interior_flags sets fulls flows) (let c = flags_by_flows in omega arith)

-- ---- how many flags are set
abbrev pub set_count : List Bool → ℕ
set_count [] = 0
set_count (true ∷ flags) = suc (set_count flags)
set_count (false ∷ flags) = set_count flags

no_more : (new old : List Bool) → ((e : ℕ) → Has new e → Has old e) → set_count new ≤ set_count old
no_more [] old h = omega arith
no_more (true ∷ new) [] h = absurd (let k = h 0 refl in cc)
no_more (true ∷ new) (true ∷ old) h = let r = no_more new old (λ e k. h (suc e) k) in omega arith
no_more (true ∷ new) (false ∷ old) h = absurd (let k = h 0 refl in cc)
no_more (false ∷ new) [] h = no_more new [] (λ e k. h (suc e) k)
no_more (false ∷ new) (true ∷ old) h = let r = no_more new old (λ e k. h (suc e) k) in omega arith
no_more (false ∷ new) (false ∷ old) h = no_more new old (λ e k. h (suc e) k)

pub fewer_set : (new old : List Bool) → ((e : ℕ) → Has new e → Has old e) → (e : ℕ) → Has old e → (Has new e → ⊥) → set_count new < set_count old
fewer_set new [] h e k n = absurd (cc)
fewer_set [] (true ∷ old) h e k n = omega arith
fewer_set [] (false ∷ old) h zero k n = absurd (cc)
fewer_set [] (false ∷ old) h (suc e) k n = fewer_set [] old (λ i m. h (suc i) m) e k n
fewer_set (true ∷ new) (true ∷ old) h zero k n = absurd (n refl)
fewer_set (true ∷ new) (true ∷ old) h (suc e) k n = let r = fewer_set new old (λ i m. h (suc i) m) e k n in omega arith
fewer_set (false ∷ new) (true ∷ old) h e k n = let r = no_more new old (λ i m. h (suc i) m) in omega arith
fewer_set (true ∷ new) (false ∷ old) h e k n = absurd (let q = h 0 refl in cc)
fewer_set (false ∷ new) (false ∷ old) h zero k n = absurd (cc)
fewer_set (false ∷ new) (false ∷ old) h (suc e) k n = fewer_set new old (λ i m. h (suc i) m) e k n

-- ---- the flags of interior links
module _ (passes : Passing) (net : Network) (sets : Sets) (slopes : List ℚ) (fulls : List (Option ℚ)) (fulls_ok : fulls_list passes net sets slopes ≡ Ok fulls)
    (flows : List ℚ) (flow_count : length flows ≡ length net.links) where
  abbrev Asked : ℕ → Type 0
  Asked e = Has sets.active e × ((Has sets.resetting e → ⊥) × IsBetween (unwrap_or (slice_get fulls e) None) (number_at flows e))

  Decides-asked : (e : ℕ) → Decides (interior_test sets fulls flows e) (Asked e)
  Decides-asked e = Decides-and (flag sets.active e) (not (flag sets.resetting e) && is_inside (unwrap_or (slice_get fulls e) None) (number_at flows e)) (Decides-flag sets.active e)
      (Decides-and (not (flag sets.resetting e)) (is_inside (unwrap_or (slice_get fulls e) None) (number_at flows e))
      (Decides-not (flag sets.resetting e) (Decides-flag sets.resetting e))
      (Decides-between (unwrap_or (slice_get fulls e) None) (number_at flows e)))

  asked_interior : (e : ℕ) (link : Link) → IsLink net e link → Asked e → IsInterior net sets slopes flows e
  asked_interior e link p w = record {
    link = link;
    is_link = p;
    needs = (w.0, w.1.0);
    some = w.1.1.0;
    not_full = λ capacity h. w.1.1.1 (capacity *ℚ number_at slopes link.head)
        (fulls_at passes net sets slopes fulls fulls_ok e link p w.0 ∙ ap (λ (o : Option ℚ). filling o (number_at slopes link.head)) h);
  }

  interior_asked : (e : ℕ) → IsInterior net sets slopes flows e → Asked e
  interior_asked e i = (
    i.needs.0,
    (
      i.needs.1,
      (
        i.some,
        λ most h. full_by i.link.capacity refl most
            (sym (fulls_at passes net sets slopes fulls fulls_ok e i.link i.is_link i.needs.0) ∙ h),
      ),
    ),
  )
    where
      full_by : (o : Option ℚ) → i.link.capacity ≡ o → (most : ℚ) → filling i.link.capacity (number_at slopes i.link.head) ≡ Some most → number_at flows e <ℚ most
      full_by None k most h = absurd (none-some most (sym (ap (λ (o : Option ℚ). filling o (number_at slopes i.link.head)) k) ∙ h))
      full_by (Some c) k most h = subst (λ (z : ℚ). number_at flows e <ℚ z)
          (same_Some (c *ℚ number_at slopes i.link.head) most (sym (ap (λ (o : Option ℚ). filling o (number_at slopes i.link.head)) k) ∙ h))
          (i.not_full c k)

  abbrev flags : List Bool
  flags = interior_flags sets fulls flows

  pub flags_count : length flags ≡ length net.links
  flags_count = flags_by_flows sets fulls flows ∙ flow_count

  flag_at : (e : ℕ) → e < length flows → slice_get flags e ≡ Some (interior_test sets fulls flows e)
  flag_at e h = test_at sets fulls flows e (interior_test sets fulls flows e) h refl

  pub flags_are : (e : ℕ) → Has flags e ↔ IsInterior net sets slopes flows e
  flags_are e = (
    λ h. (let inside : e < length net.links = (let w = slice_get_within flags e true h in let c = flags_count in omega arith) in
        let l = entry net.links e inside in
        asked_interior e l.0 l.1 ((Decides-asked e).0 (same_Some _ true (sym (flag_at e (let c = flow_count in omega arith)) ∙ h)))),
    λ i. (let inside : e < length flows = (let w = slice_get_within net.links e i.link i.is_link in let c = flow_count in omega arith) in
        flag_at e inside ∙ ap (λ (b : Bool). Some b) ((Decides-asked e).1 (interior_asked e i))),
  )
