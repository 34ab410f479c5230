-- Trials for each of some numbers or links in order: what is left to be tried says what all of them say.
use Rattle.std.proofs.Common.{◌≡◌, ◌≢◌, ℕ, zero, suc, ◌+◌, ◌-◌, ◌<◌, ◌≤◌, List, [], ◌∷◌, ◌++◌, length, drop, filter, Bool, true, false, not, eqb, cond}
use Rattle.std.proofs.Common.{Some, slice_get, refl, sym, ap, ◌∙◌, append-nil, arith, Ok, Err}
use Rattle.nf_check_rules.proofs.Common.{enumerate_from, range_with_len, drop_more, drop_all, slice_get_within, get_or_from_slice_get, each, ◌>>=◌}
use Rattle.nf_check_rules.proofs.Common.{with_front, each_ok, no_front, Trial, Ended, EndsAs, done}
use Rattle.std.proofs.lemmas.Bool.{eqb-true, eqb-false}
use Rattle.nf_check_rules.proofs.Trying.{ends, ends_as, done_ends}

-- ---- one step of trials whose values don't matter
module _ {A B : Type 0} (f : A → Trial B) (x : A) (later : List A) (all : Trial (Unit {0})) (so_far : done (each f (x ∷ later)) ≡ all) where
  step_ends : (e : Ended) → EndsAs e (f x) → EndsAs e all
  step_ends e h = ends_as e all (done (each f (x ∷ later))) (sym so_far) (done_ends e (each f (x ∷ later)) (ends e (f x) (λ y. each f later >>= λ ys. Ok (y ∷ ys)) h))

  step_goes : (y : B) → f x ≡ Ok y → done (each f later) ≡ all
  step_goes y h = sym (ap (λ (r : Trial B). done (r >>= λ y. each f later >>= λ ys. Ok (y ∷ ys))) h ∙ without (each f later)) ∙ so_far
    where
      without : (r : Trial (List B)) → done (r >>= λ ys. Ok (y ∷ ys)) ≡ done r
      without (Ok ys) = refl
      without (Err p) = refl

-- ---- one step of trials whose values are kept
module _ {A B : Type 0} (f : A → Trial B) (front : List B) (x : A) (later : List A) (all : Trial (List B)) (so_far : with_front front (each f (x ∷ later)) ≡ all) where
  front_ends : (e : Ended) → EndsAs e (f x) → EndsAs e all
  front_ends e h = ends_as e all (with_front front (each f (x ∷ later))) (sym so_far) (behind e (each f (x ∷ later)) (ends e (f x) (λ y. each f later >>= λ ys. Ok (y ∷ ys)) h))
    where
      behind : (e : Ended) (r : Trial (List B)) → EndsAs e r → EndsAs e (with_front front r)
      behind (Ended.AtNode rule node sides) r h = ap (with_front front) h
      behind (Ended.AtLink rule link sides) r h = ap (with_front front) h
      behind (Ended.Passed p) r h = ap (with_front front) h
      behind Ended.Memory r h = tt

  front_goes : (y : B) → f x ≡ Ok y → with_front (front ++ y ∷ []) (each f later) ≡ all
  front_goes y h = sym (each_ok f front x later y h) ∙ so_far

-- ---- the numbers below one
range_first : (n : ℕ) → range_with_len 0 (n - 0) ≡ range_with_len 0 n
range_first n = let e : n - 0 ≡ n = omega arith in ap (range_with_len 0) e

range_next : (n k : ℕ) → k < n → range_with_len k (n - k) ≡ k ∷ range_with_len (k + 1) (n - (k + 1))
range_next n k h = let e : n - k ≡ suc (n - (k + 1)) = omega arith in ap (range_with_len k) e

range_last : (n k : ℕ) → n ≤ k → range_with_len k (n - k) ≡ []
range_last n k h = let e : n - k ≡ 0 = omega arith in ap (range_with_len k) e

-- ---- links with their numbers
pub links_next : {X : Type 0} (links : List X) (k : ℕ) (link : X) → slice_get links k ≡ Some link
    → enumerate_from k (drop k links) ≡ (k, link) ∷ enumerate_from (k + 1) (drop (k + 1) links)
links_next {X} links k link is =
    ap (enumerate_from k) (drop_more links k link (slice_get_within links k link is))
    ∙ ap (λ (x : X). (k, x) ∷ enumerate_from (k + 1) (drop (k + 1) links)) (get_or_from_slice_get links k link link is)

pub links_last : {X : Type 0} (links : List X) (k : ℕ) → length links ≤ k → enumerate_from k (drop k links) ≡ []
links_last {X} links k h = ap (enumerate_from k) (drop_all k links h)

-- ---- the numbers below one, but one of them
abbrev pub numbers_but : ℕ → List ℕ → List ℕ
numbers_but v ks = filter (λ w. not (eqb w v)) ks

but_same : (v k : ℕ) (ks : List ℕ) → k ≡ v → numbers_but v (k ∷ ks) ≡ numbers_but v ks
but_same v k ks e = go (eqb k v) refl
  where
    go : (b : Bool) → eqb k v ≡ b → cond (not (eqb k v)) (k ∷ numbers_but v ks) (numbers_but v ks) ≡ numbers_but v ks
    go true t = ap (λ (b : Bool). cond (not b) (k ∷ numbers_but v ks) (numbers_but v ks)) t
    go false t = absurd (eqb-false k v t e)

but_other : (v k : ℕ) (ks : List ℕ) → k ≢ v → numbers_but v (k ∷ ks) ≡ k ∷ numbers_but v ks
but_other v k ks n = go (eqb k v) refl
  where
    go : (b : Bool) → eqb k v ≡ b → cond (not (eqb k v)) (k ∷ numbers_but v ks) (numbers_but v ks) ≡ k ∷ numbers_but v ks
    go true t = absurd (n (eqb-true k v t))
    go false t = ap (λ (b : Bool). cond (not b) (k ∷ numbers_but v ks) (numbers_but v ks)) t

-- ---- trials for all numbers below one
pub record LeftBelow {B : Type 0} (f : ℕ → Trial B) (n k : ℕ) : Type 0 where
  pub same : done (each f (range_with_len k (n - k))) ≡ done (each f (range_with_len 0 n))

module _ {B : Type 0} (f : ℕ → Trial B) (n : ℕ) where
  pub below_first : LeftBelow f n 0
  below_first = record { same = ap (λ (ks : List ℕ). done (each f ks)) (range_first n) }

  module _ (k : ℕ) (left : LeftBelow f n k) where
    pub below_last : n ≤ k → done (each f (range_with_len 0 n)) ≡ Ok tt
    below_last h = sym left.same ∙ ap (λ (ks : List ℕ). done (each f ks)) (range_last n k h)

    module _ (h : k < n) where
      here : done (each f (k ∷ range_with_len (k + 1) (n - (k + 1)))) ≡ done (each f (range_with_len 0 n))
      here = sym (ap (λ (ks : List ℕ). done (each f ks)) (range_next n k h)) ∙ left.same

      pub below_ends : (e : Ended) → EndsAs e (f k) → EndsAs e (done (each f (range_with_len 0 n)))
      below_ends e w = step_ends f k (range_with_len (k + 1) (n - (k + 1))) (done (each f (range_with_len 0 n))) here e w

      pub below_goes : (y : B) → f k ≡ Ok y → LeftBelow f n (k + 1)
      below_goes y w = record { same = step_goes f k (range_with_len (k + 1) (n - (k + 1))) (done (each f (range_with_len 0 n))) here y w }

-- ---- and with what they came to
pub record FrontBelow {B : Type 0} (f : ℕ → Trial B) (n k : ℕ) (front : List B) : Type 0 where
  pub same : with_front front (each f (range_with_len k (n - k))) ≡ each f (range_with_len 0 n)

module _ {B : Type 0} (f : ℕ → Trial B) (n : ℕ) where
  pub kept_first : (front : List B) → front ≡ [] → FrontBelow f n 0 front
  kept_first front e = record {
    same = ap (λ (l : List B). with_front l (each f (range_with_len 0 (n - 0)))) e ∙ no_front (each f (range_with_len 0 (n - 0))) ∙ ap (each f) (range_first n);
  }

  module _ (k : ℕ) (front : List B) (left : FrontBelow f n k front) where
    pub kept_last : n ≤ k → each f (range_with_len 0 n) ≡ Ok front
    kept_last h = sym left.same ∙ ap (λ (ks : List ℕ). with_front front (each f ks)) (range_last n k h) ∙ ap Ok (append-nil front)

    module _ (h : k < n) where
      kept_here : with_front front (each f (k ∷ range_with_len (k + 1) (n - (k + 1)))) ≡ each f (range_with_len 0 n)
      kept_here = sym (ap (λ (ks : List ℕ). with_front front (each f ks)) (range_next n k h)) ∙ left.same

      pub kept_ends : (e : Ended) → EndsAs e (f k) → EndsAs e (each f (range_with_len 0 n))
      kept_ends e w = front_ends f front k (range_with_len (k + 1) (n - (k + 1))) (each f (range_with_len 0 n)) kept_here e w

      pub kept_goes : (y : B) (next : List B) → f k ≡ Ok y → next ≡ front ++ y ∷ [] → FrontBelow f n (k + 1) next
      kept_goes y next w e = record {
        same = ap (λ (l : List B). with_front l (each f (range_with_len (k + 1) (n - (k + 1))))) e
            ∙ front_goes f front k (range_with_len (k + 1) (n - (k + 1))) (each f (range_with_len 0 n)) kept_here y w;
      }

-- ---- trials for all links
pub record LeftLinks {B X : Type 0} (f : ℕ × X → Trial B) (links : List X) (k : ℕ) : Type 0 where
  pub same : done (each f (enumerate_from k (drop k links))) ≡ done (each f (enumerate_from 0 links))

module _ {B X : Type 0} (f : ℕ × X → Trial B) (links : List X) where
  pub links_first : LeftLinks f links 0
  links_first = record { same = refl }

  module _ (k : ℕ) (left : LeftLinks f links k) where
    pub links_done : length links ≤ k → done (each f (enumerate_from 0 links)) ≡ Ok tt
    links_done h = sym left.same ∙ ap (λ (ls : List (ℕ × X)). done (each f ls)) (links_last links k h)

    module _ (link : X) (is : slice_get links k ≡ Some link) where
      at_link : done (each f ((k, link) ∷ enumerate_from (k + 1) (drop (k + 1) links))) ≡ done (each f (enumerate_from 0 links))
      at_link = sym (ap (λ (ls : List (ℕ × X)). done (each f ls)) (links_next links k link is)) ∙ left.same

      pub links_end : (e : Ended) → EndsAs e (f (k, link)) → EndsAs e (done (each f (enumerate_from 0 links)))
      links_end e w = step_ends f (k, link) (enumerate_from (k + 1) (drop (k + 1) links)) (done (each f (enumerate_from 0 links))) at_link e w

      pub links_go : (y : B) → f (k, link) ≡ Ok y → LeftLinks f links (k + 1)
      links_go y w = record { same = step_goes f (k, link) (enumerate_from (k + 1) (drop (k + 1) links)) (done (each f (enumerate_from 0 links))) at_link y w }

-- ---- and with what they came to
pub record FrontLinks {B X : Type 0} (f : ℕ × X → Trial B) (links : List X) (k : ℕ) (front : List B) : Type 0 where
  pub same : with_front front (each f (enumerate_from k (drop k links))) ≡ each f (enumerate_from 0 links)

module _ {B X : Type 0} (f : ℕ × X → Trial B) (links : List X) where
  pub keep_first : (front : List B) → front ≡ [] → FrontLinks f links 0 front
  keep_first front e = record { same = ap (λ (l : List B). with_front l (each f (enumerate_from 0 links))) e ∙ no_front (each f (enumerate_from 0 links)) }

  module _ (k : ℕ) (front : List B) (left : FrontLinks f links k front) where
    pub keep_last : length links ≤ k → each f (enumerate_from 0 links) ≡ Ok front
    keep_last h = sym left.same ∙ ap (λ (ls : List (ℕ × X)). with_front front (each f ls)) (links_last links k h) ∙ ap Ok (append-nil front)

    module _ (link : X) (is : slice_get links k ≡ Some link) where
      keep_here : with_front front (each f ((k, link) ∷ enumerate_from (k + 1) (drop (k + 1) links))) ≡ each f (enumerate_from 0 links)
      keep_here = sym (ap (λ (ls : List (ℕ × X)). with_front front (each f ls)) (links_next links k link is)) ∙ left.same

      pub keep_ends : (e : Ended) → EndsAs e (f (k, link)) → EndsAs e (each f (enumerate_from 0 links))
      keep_ends e w = front_ends f front (k, link) (enumerate_from (k + 1) (drop (k + 1) links)) (each f (enumerate_from 0 links)) keep_here e w

      pub keep_goes : (y : B) (next : List B) → f (k, link) ≡ Ok y → next ≡ front ++ y ∷ [] → FrontLinks f links (k + 1) next
      keep_goes y next w e = record {
        same = ap (λ (l : List B). with_front l (each f (enumerate_from (k + 1) (drop (k + 1) links)))) e
            ∙ front_goes f front (k, link) (enumerate_from (k + 1) (drop (k + 1) links)) (each f (enumerate_from 0 links)) keep_here y w;
      }

-- ---- trials for all numbers below one but one of them
pub record LeftBut {B : Type 0} (f : ℕ → Trial B) (v n k : ℕ) : Type 0 where
  pub same : done (each f (numbers_but v (range_with_len k (n - k)))) ≡ done (each f (numbers_but v (range_with_len 0 n)))

module _ {B : Type 0} (f : ℕ → Trial B) (v n : ℕ) where
  module _ (k : ℕ) (left : LeftBut f v n k) where
    module _ (h : k < n) where
      but_here : done (each f (numbers_but v (k ∷ range_with_len (k + 1) (n - (k + 1))))) ≡ done (each f (numbers_but v (range_with_len 0 n)))
      but_here = sym (ap (λ (ks : List ℕ). done (each f (numbers_but v ks))) (range_next n k h)) ∙ left.same

      pub but_skips : k ≡ v → LeftBut f v n (k + 1)
      but_skips e = record { same = sym (ap (λ (ks : List ℕ). done (each f ks)) (but_same v k (range_with_len (k + 1) (n - (k + 1))) e)) ∙ but_here }

      module _ (apart : k ≢ v) where
        but_there : done (each f (k ∷ numbers_but v (range_with_len (k + 1) (n - (k + 1))))) ≡ done (each f (numbers_but v (range_with_len 0 n)))
        but_there = sym (ap (λ (ks : List ℕ). done (each f ks)) (but_other v k (range_with_len (k + 1) (n - (k + 1))) apart)) ∙ but_here

        pub but_ends : (e : Ended) → EndsAs e (f k) → EndsAs e (done (each f (numbers_but v (range_with_len 0 n))))
        but_ends e w = step_ends f k (numbers_but v (range_with_len (k + 1) (n - (k + 1)))) (done (each f (numbers_but v (range_with_len 0 n)))) but_there e w

        pub but_goes : (y : B) → f k ≡ Ok y → LeftBut f v n (k + 1)
        but_goes y w = record { same = step_goes f k (numbers_but v (range_with_len (k + 1) (n - (k + 1)))) (done (each f (numbers_but v (range_with_len 0 n)))) but_there y w }

-- ---- the link of a number
pub record LinkThere {X : Type 0} (links : List X) (k : ℕ) : Type 0 where
  pub link : X
  pub is : slice_get links k ≡ Some link

pub link_there : {X : Type 0} (links : List X) (k : ℕ) → k < length links → LinkThere links k
link_there [] k h = absurd (omega arith)
link_there (x ∷ links) zero h = record { link = x; is = refl }
link_there (x ∷ links) (suc k) h = let w = link_there links k (omega arith) in record { link = w.link; is = w.is }

-- ---- a number is one, or another
pub is_other : (k v u : ℕ) → u ≡ v → not (eqb k u) ≡ true → k ≢ v
is_other k v u e t = λ same. go (eqb k u) refl t (same ∙ sym e)
  where
    go : (b : Bool) → eqb k u ≡ b → not b ≡ true → k ≡ u → ⊥
    go true f t d = absurd (cc)
    go false f t d = eqb-false k u f d

pub is_one : (k v u : ℕ) → u ≡ v → not (eqb k u) ≡ false → k ≡ v
is_one k v u e t = go (eqb k u) refl t ∙ e
  where
    go : (b : Bool) → eqb k u ≡ b → not b ≡ false → k ≡ u
    go true f t = eqb-true k u f
    go false f t = absurd (cc)
