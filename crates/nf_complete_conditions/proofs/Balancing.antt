-- Results of the sums at a node.
use Rattle.std.proofs.Common.{◌≡◌, ℕ, suc, ◌+◌, List, [], ◌∷◌, Bool, true, false, ◌&&◌, if◌then◌else◌, eqb, sym, ap, subst, refl, ◌∙◌, arith, Result}
use Rattle.std.proofs.Common.{slice_get, unwrap_or, Ok, Err, IsOk}
use Rattle.nf_complete_conditions.proofs.Common.{Decides, enumerate_from, ℚ, 0ℚ, ◌+ℚ◌, reading_of, eq, linear_eq, Passing, Sum, PassedAt, Verdict, Checked}
use Rattle.nf_complete_conditions.proofs.Common.{fold_checked, at_part, ◌>>=◌, bind_ok, number_at, Link, Network, IsLink, sum_in, sum_out, Sets, same_Ok}
use Rattle.nf_complete_conditions.proofs.Common.{checked-is, Sums, sum_more, in_more, out_more, with_rate, sums_at, node_by, more_at, End, AnswersWhether}
use Rattle.nf_complete_conditions.proofs.Common.{same_test, active_flow, brought, taken_away, IsBalanced}
use Rattle.nf_complete_conditions.specs.declared.node_sums.End.TheVariants.{Head, Tail}
use Rattle.nf_complete_conditions.proofs.Deciding.{says_by, Decides-same}
use Rattle.nf_complete_conditions.proofs.Telling.{value_of, first_passes, then_passes}

module _ (passes : Passing) (net : Network) (sets : Sets) (rate : ℚ) (flows : List ℚ) where
  abbrev carried : ℕ → ℚ
  carried = active_flow sets flows

  -- one link more
  more-is : (a at : Bool) (so_far next : ℚ) (e : ℕ) → sum_more passes net sets rate flows (a && at) so_far e ≡ Ok next
      → next ≡ (if at then so_far +ℚ (if a then number_at flows e else 0ℚ) else so_far)
  more-is true true so_far next e h = checked-is passes Sum so_far (number_at flows e) next h
  more-is true false so_far next e h = sym (same_Ok so_far next h)
  more-is false true so_far next e h = none (sym (same_Ok so_far next h))
    where
      none : next ≡ so_far → next ≡ so_far +ℚ 0ℚ
      none k = linear_eq (next ∷ so_far ∷ []) (eq k ∷ []) (search reading_of depth 12) tt tt
  more-is false false so_far next e h = sym (same_Ok so_far next h)

  -- a term added first is part of the whole sum
  added : (at : Bool) (start x rest next y : ℚ) → next ≡ (if at then start +ℚ x else start) → y ≡ next +ℚ rest → y ≡ start +ℚ (if at then x +ℚ rest else rest)
  added true start x rest next y h k = linear_eq (start ∷ x ∷ rest ∷ next ∷ y ∷ []) (eq h ∷ eq k ∷ []) (search reading_of depth 12) tt tt
  added false start x rest next y h k = linear_eq (start ∷ x ∷ rest ∷ next ∷ y ∷ []) (eq h ∷ eq k ∷ []) (search reading_of depth 12) tt tt

  none_added : (start y : ℚ) → y ≡ start → y ≡ start +ℚ 0ℚ
  none_added start y e = linear_eq (start ∷ y ∷ []) (eq e ∷ []) (search reading_of depth 12) tt tt

  first_of : (f : ℕ → ℚ) (k : ℕ) → ((e : ℕ) → f e ≡ carried (k + e)) → f 0 ≡ carried k
  first_of f k same = same 0 ∙ ap carried (let z : k + 0 ≡ k = omega arith in z)

  later : (f : ℕ → ℚ) (k : ℕ) → ((e : ℕ) → f e ≡ carried (k + e)) → (e : ℕ) → f (suc e) ≡ carried ((k + 1) + e)
  later f k same e = same (suc e) ∙ ap carried (let z : k + suc e ≡ (k + 1) + e = omega arith in z)

  -- the sum over the links with one end at a node
  module _ (v : ℕ) (end : Link → ℕ) (more : ℚ → ℕ × Link → Checked ℚ) (total : List Link → (ℕ → ℚ) → ℚ)
      (more_by : (so_far : ℚ) (e : ℕ) (link : Link) → more so_far (e, link) ≡ sum_more passes net sets rate flows
      (unwrap_or (slice_get sets.active e) false && eqb (end link) v) so_far e)
      (total_none : (f : ℕ → ℚ) → total [] f ≡ 0ℚ)
      (total_more : (link : Link) (links : List Link) (f : ℕ → ℚ) → total (link ∷ links) f
      ≡ (if eqb (end link) v then f 0 +ℚ total links (λ e. f (suc e)) else total links (λ e. f (suc e)))) where
    total-is : (links : List Link) (k : ℕ) (f : ℕ → ℚ) (start y : ℚ) → ((e : ℕ) → f e ≡ carried (k + e))
        → fold_checked more start (enumerate_from k links) ≡ Ok y → y ≡ start +ℚ total links f
    total-is [] k f start y same h = none_added start y (sym (same_Ok start y h)) ∙ ap (λ (x : ℚ). start +ℚ x) (sym (total_none f))
    total-is (link ∷ links) k f start y same h =
        let b = bind_ok (more start (k, link)) (λ next. fold_checked more next (enumerate_from (k + 1) links)) y h in
        added (eqb (end link) v) start (f 0) (total links (λ e. f (suc e))) b.0 y
        (more-is (unwrap_or (slice_get sets.active k) false) (eqb (end link) v) start b.0 k (sym (more_by start k link) ∙ b.1)
        ∙ ap (λ (x : ℚ). if eqb (end link) v then start +ℚ x else start) (sym (first_of f k same)))
        (total-is links (k + 1) (λ e. f (suc e)) b.0 y (later f k same) b.2)
        ∙ ap (λ (x : ℚ). start +ℚ x) (sym (total_more link links f))

  from_zero : (y s : ℚ) → y ≡ 0ℚ +ℚ s → y ≡ s
  from_zero y s e = linear_eq (y ∷ s ∷ []) (eq e ∷ []) (search reading_of depth 12) tt tt

  at_zero : (e : ℕ) → carried e ≡ carried (0 + e)
  at_zero e = ap carried (let z : e ≡ 0 + e = omega arith in z)

  comes-is : (v : ℕ) (y : ℚ) → fold_checked (in_more passes net sets rate flows v) 0ℚ (enumerate_from 0 net.links) ≡ Ok y → y ≡ sum_in net.links carried v
  comes-is v y h =
      from_zero y (sum_in net.links carried v) (total-is v (λ l. l.head) (in_more passes net sets rate flows v) (λ links f. sum_in links f v)
      (λ so_far e link. refl) (λ f. refl) (λ link links f. refl) net.links 0 carried 0ℚ y at_zero h)

  goes-is : (v : ℕ) (y : ℚ) → fold_checked (out_more passes net sets rate flows v) 0ℚ (enumerate_from 0 net.links) ≡ Ok y → y ≡ sum_out net.links carried v
  goes-is v y h =
      from_zero y (sum_out net.links carried v) (total-is v (λ l. l.tail) (out_more passes net sets rate flows v) (λ links f. sum_out links f v)
      (λ so_far e link. refl) (λ f. refl) (λ link links f. refl) net.links 0 carried 0ℚ y at_zero h)

  stays-is : (stays : Bool) (sum y : ℚ) → with_rate passes net sets rate flows stays sum ≡ Ok y → y ≡ (if stays then sum +ℚ rate else sum)
  stays-is true sum y h = checked-is passes Sum sum rate y h
  stays-is false sum y h = sym (same_Ok sum y h)

  -- ---- a link more, by its end
  pub more_told : (r : Result ℚ (PassedAt ℚ)) (end : End) (v : ℕ) (so_far : ℚ) (e : ℕ) (at : Bool)
      → r ≡ at_part Verdict (sum_more passes net sets rate flows (unwrap_or (slice_get sets.active e) false && at) so_far e)
      → ((here : Link) → IsLink net e here → at ≡ eqb (node_by end here) v) → (here : Link) → IsLink net e here
      → r ≡ at_part Verdict (more_at passes net sets rate flows end v so_far (e, here))
  more_told r Head v so_far e at said is here p =
      said ∙ ap (λ (b : Bool). at_part Verdict (sum_more passes net sets rate flows (unwrap_or (slice_get sets.active e) false && b) so_far e)) (is here p)
  more_told r Tail v so_far e at said is here p =
      said ∙ ap (λ (b : Bool). at_part Verdict (sum_more passes net sets rate flows (unwrap_or (slice_get sets.active e) false && b) so_far e)) (is here p)

  -- ---- the node
  module _ (v : ℕ) where
    abbrev comes : Checked ℚ
    comes = fold_checked (in_more passes net sets rate flows v) 0ℚ (enumerate_from 0 net.links)

    abbrev goes : Checked ℚ
    goes = fold_checked (out_more passes net sets rate flows v) 0ℚ (enumerate_from 0 net.links)

    abbrev stays : ℚ → Checked ℚ
    stays go = with_rate passes net sets rate flows (eqb v net.sink) go

    abbrev rest : ℚ → Checked Sums
    rest come = goes >>= λ go. stays go >>= λ stay. Ok (record { in_sum = come; out_sum = stay })

    module _ (come : ℚ) (come_ok : Ok come ≡ at_part Verdict comes) where
      module _ (go : ℚ) (go_ok : Ok go ≡ at_part Verdict goes) where
        pub stay_passes : (p : PassedAt ℚ) → Err p ≡ at_part Verdict (stays go) → at_part Verdict (sums_at passes net sets rate flows v) ≡ Err p
        stay_passes p e = then_passes comes come rest p (value_of comes come come_ok)
            (then_passes goes go (λ go. stays go >>= λ stay. Ok (record { in_sum = come; out_sum = stay })) p (value_of goes go go_ok)
            (first_passes (stays go) (λ stay. Ok (record { in_sum = come; out_sum = stay })) p (sym e)))

        pub balance_told : (all : ℚ) → Ok all ≡ at_part Verdict (stays go) → (answer : Bool) → answer ≡ same_test (if eqb v net.source then rate else come) all
            → AnswersWhether (IsBalanced net sets rate flows v) (sums_at passes net sets rate flows v) (Ok answer)
        balance_told all all_ok answer e = (worked, says_by answer (same_test (if eqb v net.source then rate else come) all) e decides)
          where
            come_is : come ≡ sum_in net.links carried v
            come_is = comes-is v come (value_of comes come come_ok)

            all_is : all ≡ taken_away net sets rate flows v
            all_is = stays-is (eqb v net.sink) go all (value_of (stays go) all all_ok) ∙ ap (λ (s : ℚ). if eqb v net.sink then s +ℚ rate else s) (goes-is v go (value_of goes go go_ok))

            brought_is : (if eqb v net.source then rate else come) ≡ brought net sets rate flows v
            brought_is = ap (λ (s : ℚ). if eqb v net.source then rate else s) come_is

            decides : Decides (same_test (if eqb v net.source then rate else come) all) (IsBalanced net sets rate flows v)
            decides = subst (λ (y : ℚ). Decides (same_test (if eqb v net.source then rate else come) all) (brought net sets rate flows v ≡ y)) all_is
                (subst (λ (x : ℚ). Decides (same_test (if eqb v net.source then rate else come) all) (x ≡ all)) brought_is (Decides-same (if eqb v net.source then rate else come) all))

            sums : Sums
            sums = record { in_sum = come; out_sum = all }

            whole : sums_at passes net sets rate flows v ≡ Ok sums
            whole = ap (λ (r : Checked ℚ). r >>= rest) (value_of comes come come_ok)
                ∙ ap (λ (r : Checked ℚ). r >>= λ go. stays go >>= λ stay. Ok (record { in_sum = come; out_sum = stay })) (value_of goes go go_ok)
                ∙ ap (λ (r : Checked ℚ). r >>= λ stay. Ok (record { in_sum = come; out_sum = stay })) (value_of (stays go) all all_ok)

            worked : IsOk (sums_at passes net sets rate flows v)
            worked = subst (λ (r : Checked Sums). IsOk r) (sym whole) refl
