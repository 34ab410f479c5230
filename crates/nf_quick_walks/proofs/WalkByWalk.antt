-- The decomposition of a flow, walk by walk.
use Rattle.std.proofs.Common.{◌≡◌, ℕ, suc, ◌+◌, ◌-◌, ◌<◌, ◌≤◌, ◌==◌, List, [], ◌∷◌, ◌++◌, length, drop, take, get_or, Bool, true, false, ⊎_elim, eqb, ◌≢◌}
use Rattle.std.proofs.Common.{Option, Some, None, slice_get, unwrap_or, option_map, refl, sym, ap, subst, ◌∙◌, append_assoc, append-nil, take_all, add-one}
use Rattle.std.proofs.Common.{arith, Ok, Err, if◌then◌else◌}
use Rattle.nf_quick_walks.proofs.Common.{AllByRecursion, drop_more, take_more, slice_get_within, get_or_from_slice_get, unwrap_or-slice_get, eqb_tells, ℚ}
use Rattle.nf_quick_walks.proofs.Common.{0ℚ, not_both, Passing, PassedAt, Checked, at_part, ◌>>=◌, number_at, Link, Network, IsLink, first_out, head_of}
use Rattle.nf_quick_walks.proofs.Common.{way_from, way_out, least_along, take_list, walk_and, walks_off, stopped, goes_on, is_out}
use Rattle.nf_rational_laws.proofs.Entries.{all_push}
use Rattle.nf_frac_def.specs.declared.Part.TheVariants as Part
use Rattle.nf_frac_def.proofs.Each.{with_front}
use Rattle.nf_curve.proofs.Exits.{front_err, front_more, front_ends}
use Rattle.nf_model.specs.Quickest.{Fed}

-- ---- the flows of the links, with one more
pub flow_more : (all so_far next : List ℚ) (k : ℕ) (x : ℚ) → k < length all → so_far ≡ take k all → x ≡ number_at all k → next ≡ so_far ++ x ∷ [] → next ≡ take (k + 1) all
flow_more all so_far next k x h e is made =
    made ∙ ap (λ (y : ℚ). so_far ++ y ∷ []) (is ∙ unwrap_or-slice_get all k 0ℚ) ∙ ap (λ (l : List ℚ). l ++ get_or all k 0ℚ ∷ []) e
    ∙ sym (take_more all k 0ℚ h)

-- ---- the first link out: the remaining links give the result of all links
pub record LooksOn (links : List Link) (v : ℕ) (flows : List ℚ) (k : ℕ) : Type 0 where
  pub same : first_out k (drop k links) v flows ≡ first_out 0 links v flows

module _ (links : List Link) (v : ℕ) (flows : List ℚ) where
  pub looks_first : LooksOn links v flows 0
  looks_first = record { same = refl }

  module _ (k : ℕ) (on : LooksOn links v flows k) where
    module _ (link : Link) (is : slice_get links k ≡ Some link) where
      rest : drop k links ≡ link ∷ drop (k + 1) links
      rest = drop_more links k link (slice_get_within links k link is) ∙ ap (λ (l : Link). l ∷ drop (k + 1) links) (get_or_from_slice_get links k link link is)

      here : first_out 0 links v flows ≡ (if is_out link v (number_at flows k) then Some k else first_out (suc k) (drop (k + 1) links) v flows)
      here = sym on.same ∙ ap (λ (l : List Link). first_out k l v flows) rest

      pub found_out : is_out link v (number_at flows k) ≡ true → first_out 0 links v flows ≡ Some k
      found_out t = here ∙ ap (λ (b : Bool). if b then Some k else first_out (suc k) (drop (k + 1) links) v flows) t

      pub looks_more : is_out link v (number_at flows k) ≡ false → LooksOn links v flows (k + 1)
      looks_more f = record {
        same = ap (λ (i : ℕ). first_out i (drop (k + 1) links) v flows) (add-one k)
            ∙ sym (here ∙ ap (λ (b : Bool). if b then Some k else first_out (suc k) (drop (k + 1) links) v flows) f);
      }

-- ---- the links after the first one
abbrev pub rest_of : List ℕ → List ℕ
rest_of way = take (length way - 1) (drop 1 way)

pub rest_is : (way : List ℕ) (first : ℕ) → 1 ≤ length way → first ≡ get_or way 0 first → way ≡ first ∷ rest_of way
rest_is [] first h e = absurd (omega arith)
rest_is (link ∷ way) first h e = ap (λ (l : ℕ). l ∷ way) (sym e) ∙ ap (λ (l : List ℕ). first ∷ l) (sym (take_all (length (link ∷ way) - 1) way (omega arith)))

-- ---- a path from the source: the links so far and the later ones make the whole path
pub record LeadsOut (net : Network) (flows : List ℚ) (way : List ℕ) (node k : ℕ) : Type 0 where
  pub same : way ++ way_from (net.nodes - k) net flows node ≡ way_out net flows
  pub within : AllByRecursion (λ e. e < length net.links) way

module _ (net : Network) (flows : List ℚ) where
  module _ (way : List ℕ) (node k : ℕ) (leads : LeadsOut net flows way node k) where
    pub way_ends : net.nodes ≤ k → way ≡ way_out net flows
    way_ends b = let none : net.nodes - k ≡ 0 = omega arith in sym (append-nil way) ∙ sym (ap (λ (i : ℕ). way ++ way_from i net flows node) none) ∙ leads.same

    module _ (b : k < net.nodes) where
      abbrev go : Option ℕ → List ℕ
      go o = unwrap_or (option_map (λ e. e ∷ way_from (net.nodes - (k + 1)) net flows (head_of net e)) o) []

      opened : way ++ go (first_out 0 net.links node flows) ≡ way_out net flows
      opened = let more : net.nodes - k ≡ suc (net.nodes - (k + 1)) = omega arith in sym (ap (λ (i : ℕ). way ++ way_from i net flows node) more) ∙ leads.same

      pub way_stops : first_out 0 net.links node flows ≡ None → way ≡ way_out net flows
      way_stops e = sym (append-nil way) ∙ sym (ap (λ (o : Option ℕ). way ++ go o) e) ∙ opened

      way_more : (e : ℕ) (link : Link) → first_out 0 net.links node flows ≡ Some e → IsLink net e link → e < length net.links → LeadsOut net flows (way ++ e ∷ []) link.head (k + 1)
      way_more e link f is h = record {
        same = append_assoc way (e ∷ []) (way_from (net.nodes - (k + 1)) net flows link.head)
            ∙ ap (λ (v : ℕ). way ++ e ∷ way_from (net.nodes - (k + 1)) net flows v) (sym (ap (λ (o : Option Link). unwrap_or (option_map (λ (l : Link). l.head) o) 0) is))
            ∙ sym (ap (λ (o : Option ℕ). way ++ go o) f) ∙ opened;
        within = all_push (λ (e : ℕ). e < length net.links) way e leads.within h;
      }

    pub way_goes : (b : k < net.nodes) (e : ℕ) (link : Link) (next : List ℕ) (head : ℕ) → Some e ≡ first_out 0 net.links node flows → IsLink net e link
        → e < length net.links → next ≡ way ++ e ∷ [] → head ≡ link.head
        → LeadsOut net flows next head (k + 1)
    way_goes b e link next head f is h made there = subst (λ (v : ℕ). LeadsOut net flows next v (k + 1)) (sym there)
        (subst (λ (w : List ℕ). LeadsOut net flows w link.head (k + 1)) (sym made) (way_more b e link (sym f) is h))

-- ---- walk by walk: the walks so far and the later ones make the whole list
pub record TakesOn (passes : Passing) (net : Network) (all : List ℚ) (walks : List Fed) (flows : List ℚ) (k : ℕ) : Type 0 where
  pub same : with_front walks (walks_off passes (length net.links - k) net flows) ≡ walks_off passes (length net.links) net all
  pub count : length flows ≡ length net.links

module _ (passes : Passing) (net : Network) (all : List ℚ) where
  pub takes_first : (walks : List Fed) (flows : List ℚ) → walks ≡ [] → flows ≡ all → length flows ≡ length net.links → TakesOn passes net all walks flows 0
  takes_first walks flows none same count = subst (λ (w : List Fed). TakesOn passes net all w flows 0) (sym none) (record {
    same = first (walks_off passes (length net.links - 0) net flows)
        ∙ let left : length net.links - 0 ≡ length net.links = omega arith in
        ap (λ (i : ℕ). walks_off passes i net flows) left ∙ ap (λ (l : List ℚ). walks_off passes (length net.links) net l) same;
    count = count;
  })
    where
      first : (r : Checked (List Fed)) → with_front [] r ≡ r
      first (Ok ys) = refl
      first (Err p) = refl

  module _ (walks : List Fed) (flows : List ℚ) (k : ℕ) (on : TakesOn passes net all walks flows k) where
    pub takes_all : length net.links ≤ k → at_part Part.Quick (walks_off passes (length net.links) net all) ≡ Ok walks
    takes_all b = let none : length net.links - k ≡ 0 = omega arith in
        front_ends Part.Quick walks (walks_off passes (length net.links) net all) (sym (ap (λ (i : ℕ). with_front walks (walks_off passes i net flows)) none) ∙ on.same)

    module _ (b : k < length net.links) (way : List ℕ) (is : way ≡ way_out net flows) where
      abbrev later : List ℚ → Checked (List Fed)
      later next = walks_off passes (length net.links - (k + 1)) net next

      split : with_front walks (walk_and passes later way flows) ≡ walks_off passes (length net.links) net all
      split = let more : length net.links - k ≡ suc (length net.links - (k + 1)) = omega arith in
          ap (λ (w : List ℕ). with_front walks (walk_and passes later w flows)) is ∙ sym (ap (λ (i : ℕ). with_front walks (walks_off passes i net flows)) more) ∙ on.same

      pub none_left : way ≡ [] → at_part Part.Quick (walks_off passes (length net.links) net all) ≡ Ok walks
      none_left none = front_ends Part.Quick walks (walks_off passes (length net.links) net all)
          (sym (ap (λ (w : List ℕ). with_front walks (walk_and passes later w flows)) none) ∙ split)

      module _ (some : way ≡ [] → ⊥) where
        abbrev rate : ℚ
        rate = least_along flows None way

        abbrev fed : Fed
        fed = record { rate = least_along flows None way; walk = way }

        abbrev onward : List ℚ → Checked (List Fed)
        onward next = later next >>= λ rest. Ok (fed ∷ rest)

        by_way : (w : List ℕ) → (w ≡ [] → ⊥) → walk_and passes later w flows
            ≡ (take_list passes (least_along flows None w) w flows >>= λ next. later next >>= λ rest. Ok
            (record { rate = least_along flows None w; walk = w } ∷ rest))
        by_way [] n = absurd (n refl)
        by_way (e ∷ walk) n = refl

        whole : with_front walks (take_list passes rate way flows >>= onward) ≡ walks_off passes (length net.links) net all
        whole = ap (with_front walks) (sym (by_way way some)) ∙ split

        pub take_passes : (p : PassedAt ℚ) → Err p ≡ at_part Part.Quick (take_list passes rate way flows) → at_part Part.Quick (walks_off passes (length net.links) net all) ≡ Err p
        take_passes p e = ap (at_part Part.Quick) (sym whole) ∙ front_err Part.Quick walks (take_list passes rate way flows >>= onward) p
            (stopped (take_list passes rate way flows) onward p (sym e))

        pub takes_more : (next : List ℚ) (taken : Fed) (new : List Fed) → Ok next ≡ at_part Part.Quick (take_list passes rate way flows)
            → length next ≡ length flows → taken ≡ fed → new ≡ walks ++ taken ∷ []
            → TakesOn passes net all new next (k + 1)
        takes_more next taken new e n is made = record {
          same = ap (λ (w : List Fed). with_front w (later next)) (made ∙ ap (λ (f : Fed). walks ++ f ∷ []) is)
              ∙ sym (front_more walks (fed ∷ []) (later next)) ∙ sym (ap (with_front walks) (goes_on (take_list passes rate way flows) onward next (sym e))) ∙ whole;
          count = n ∙ on.count;
        }

pub none_there : (way : List ℕ) → (length way == 0) ≡ true → way ≡ []
none_there [] e = refl
none_there (x ∷ way) e = ⊎_elim
    (λ (w : (eqb (length (x ∷ way)) 0 ≡ true) × (length (x ∷ way) ≡ 0)). let h : length (x ∷ way) ≡ 0 = w.1 in absurd (omega arith))
    (λ (w : (eqb (length (x ∷ way)) 0 ≡ false) × (length (x ∷ way) ≢ 0)). absurd (not_both (length (x ∷ way) == 0) e w.0))
    (eqb_tells (length (x ∷ way)) 0)

pub some_there : (way : List ℕ) → (length way == 0) ≡ false → way ≡ [] → ⊥
some_there [] e f = absurd (cc)
some_there (x ∷ way) e f = absurd (cc)

-- Numbers below n are below m if n equals m.
pub within_as : (n m : ℕ) (xs ys : List ℕ) → n ≡ m → xs ≡ ys → AllByRecursion (λ (e : ℕ). e < n) xs → AllByRecursion (λ (e : ℕ). e < m) ys
within_as n m xs ys e f a = subst (λ (l : List ℕ). AllByRecursion (λ (e : ℕ). e < m) l) f (subst (λ (k : ℕ). AllByRecursion (λ (e : ℕ). e < k) xs) e a)
