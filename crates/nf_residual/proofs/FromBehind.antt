-- The order of walks with equally many steps, compared from the last step back.
use Rattle.std.proofs.Common.{◌≡◌, ℕ, suc, ◌+◌, ◌-◌, ◌<◌, ◌≤◌, List, [], ◌∷◌, ◌++◌, length, Bool, true, false, nat_lt, ◌==◌, ◌&&◌, ◌||◌, not, if◌then◌else◌}
use Rattle.std.proofs.Common.{⊎_elim, eqb, ◌≢◌, sym, ap, refl, ◌∙◌, arith}
use Rattle.nf_residual.proofs.Common.{is_lt, is_gt, eqb_tells, length_push, Step, place, cmp_ℚ, lt_ℚ, lt-cmp, gt-cmp, Reach, are_before}
use Rattle.nf_residual.proofs.Common.{are_fewer_or_before, is_better, lt_tells, not_both, Twig, twig_at, steps_back, way_at, one_before}
use Rattle.std.specs.declared.cmp.Ordering.{Ordering}
use Rattle.std.specs.declared.cmp.Ordering.TheVariants.{Less, Equal, Greater}
use Rattle.nf_residual.proofs.Twigs.{steps_are}

abbrev are_same : List Step → List Step → Bool
are_same [] [] = true
are_same (a ∷ walk) (b ∷ other) = (place a == place b) && are_same walk other
are_same walk other = false

-- If two walks are equal, the later steps decide.
abbrev before_then : List Step → List Step → Bool → Bool
before_then walk other later = are_before walk other || (are_same walk other && later)

-- ---- truth values
together : (l e a s t : Bool) → ((l || (e && a)) || ((e && s) && t)) ≡ (l || (e && (a || (s && t))))
together true e a s t = refl
together false true a s t = refl
together false false a s t = refl

alone : (l e t : Bool) → (e ≡ true → l ≡ false) → ((l || (e && false)) || ((e && true) && t)) ≡ (if e then t else l)
alone true true t h = absurd (not_both true refl (h refl))
alone false true t h = refl
alone true false t h = refl
alone false false t h = refl

nothing_later : (a s : Bool) → (a || (s && false)) ≡ a
nothing_later true s = refl
nothing_later false true = refl
nothing_later false false = refl

equal_not_less : (a b : ℕ) → (a == b) ≡ true → nat_lt a b ≡ false
equal_not_less a b e = ⊎_elim
    (λ (w : (eqb a b ≡ true) × (a ≡ b)). let same : a ≡ b = w.1 in
    ⊎_elim (λ (l : (nat_lt a b ≡ true) × (a < b)). let less : a < b = l.1 in absurd (omega arith)) (λ (l : (nat_lt a b ≡ false) × (b ≤ a)). l.0) (lt_tells a b))
    (λ (w : (eqb a b ≡ false) × (a ≢ b)). absurd (not_both (eqb a b) e w.0))
    (eqb_tells a b)

-- ---- one step more at the end of both
before_last : (walk other : List Step) (a b : Step) (later : Bool) → length walk ≡ length other
    → before_then (walk ++ a ∷ []) (other ++ b ∷ []) later ≡ before_then walk other (one_before a b later)
before_last [] [] a b later h = alone (nat_lt (place a) (place b)) (place a == place b) later (equal_not_less (place a) (place b))
before_last [] (y ∷ other) a b later h = absurd (omega arith)
before_last (x ∷ walk) [] a b later h = absurd (omega arith)
before_last (x ∷ walk) (y ∷ other) a b later h =
    together (nat_lt (place x) (place y)) (place x == place y) (are_before (walk ++ a ∷ []) (other ++ b ∷ [])) (are_same (walk ++ a ∷ []) (other ++ b ∷ [])) later
    ∙ ap (λ (r : Bool). nat_lt (place x) (place y) || ((place x == place y) && r)) (before_last walk other a b later (omega arith))
    ∙ sym (together (nat_lt (place x) (place y)) (place x == place y) (are_before walk other) (are_same walk other) (one_before a b later))

before_is : (walk other : List Step) → are_before walk other ≡ before_then walk other false
before_is walk other = sym (nothing_later (are_before walk other) (are_same walk other))

-- The walks are equal.
itself : (a : ℕ) → (a == a) ≡ true
itself a = ⊎_elim (λ (w : (eqb a a ≡ true) × (a ≡ a)). w.0) (λ (w : (eqb a a ≡ false) × (a ≢ a)). absurd (w.1 refl)) (eqb_tells a a)

one_same : (l e r : Bool) → e ≡ true → l ≡ false → (l || (e && r)) ≡ r
one_same true e r f g = absurd (not_both true refl g)
one_same false true r f g = refl
one_same false false r f g = absurd (not_both false f refl)

before_self : (walk : List Step) (later : Bool) → before_then walk walk later ≡ later
before_self [] later = refl
before_self (x ∷ walk) later =
    together (nat_lt (place x) (place x)) (place x == place x) (are_before walk walk) (are_same walk walk) later
    ∙ one_same (nat_lt (place x) (place x)) (place x == place x) (before_then walk walk later) (itself (place x)) (equal_not_less (place x) (place x) (itself (place x)))
    ∙ before_self walk later

-- ---- two paths compared back from their last steps, k steps so far
pub record ComparesOn (tree : List Twig) (way : ℕ) (step : Step) (other here there : ℕ) (decided : Bool) (k : ℕ) : Type 0 where
  pub same : are_before ((way_at tree way).steps ++ step ∷ []) (way_at tree other).steps
      ≡ before_then (steps_back ((twig_at tree way).count - k) tree here) (steps_back ((twig_at tree way).count - k) tree there) decided
  pub here_within : here < length tree
  pub there_within : there < length tree

module _ (tree : List Twig) (way : ℕ) (step : Step) (other : ℕ) where
  abbrev count : ℕ
  count = (twig_at tree way).count

  pub compares_first : (decided : Bool) (there : ℕ) → (twig_at tree other).count ≡ suc (twig_at tree way).count
      → decided ≡ one_before step (twig_at tree other).last false → there ≡ (twig_at tree other).before
      → way < length tree → there < length tree → ComparesOn tree way step other way there decided 0
  compares_first decided there counts is at h b = record {
    same =
        let all : count - 0 ≡ count = omega arith in
        let lengths : length (steps_back count tree way) ≡ length (steps_back count tree (twig_at tree other).before) = steps_are count tree way
        ∙ sym (steps_are count tree (twig_at tree other).before) in
        before_is ((way_at tree way).steps ++ step ∷ []) (way_at tree other).steps
        ∙ ap (λ (n : ℕ). before_then (steps_back count tree way ++ step ∷ []) (steps_back n tree other) false) counts
        ∙ before_last (steps_back count tree way) (steps_back count tree (twig_at tree other).before) step (twig_at tree other).last false lengths
        ∙ ap (λ (t : Bool). before_then (steps_back count tree way) (steps_back count tree (twig_at tree other).before) t) (sym is)
        ∙ ap (λ (i : ℕ). before_then (steps_back count tree way) (steps_back count tree i) decided) (sym at)
        ∙ ap (λ (n : ℕ). before_then (steps_back n tree way) (steps_back n tree there) decided) (sym all);
    here_within = h;
    there_within = b;
  }

  module _ (here there : ℕ) (decided : Bool) (k : ℕ) (on : ComparesOn tree way step other here there decided k) where
    pub compares_more : (next : Bool) (left right : ℕ) → k < (twig_at tree way).count → next ≡ one_before (twig_at tree here).last (twig_at tree there).last decided
        → left ≡ (twig_at tree here).before → right ≡ (twig_at tree there).before → left < length tree → right < length tree → ComparesOn tree way step other left right next (k + 1)
    compares_more next left right h is e f b c = record {
      same =
          let one : count - k ≡ suc (count - (k + 1)) = omega arith in
          let lengths : length (steps_back (count - (k + 1)) tree (twig_at tree here).before) ≡ length (steps_back (count - (k + 1)) tree (twig_at tree there).before) =
          steps_are (count - (k + 1)) tree (twig_at tree here).before ∙ sym (steps_are (count - (k + 1)) tree (twig_at tree there).before) in
          on.same
          ∙ ap (λ (n : ℕ). before_then (steps_back n tree here) (steps_back n tree there) decided) one
          ∙ before_last (steps_back (count - (k + 1)) tree (twig_at tree here).before) (steps_back (count - (k + 1)) tree (twig_at tree there).before)
          (twig_at tree here).last (twig_at tree there).last decided lengths
          ∙ ap (λ (t : Bool). before_then (steps_back (count - (k + 1)) tree (twig_at tree here).before) (steps_back (count - (k + 1)) tree (twig_at tree there).before) t) (sym is)
          ∙ ap (λ (i : ℕ). before_then (steps_back (count - (k + 1)) tree i) (steps_back (count - (k + 1)) tree (twig_at tree there).before) next) (sym e)
          ∙ ap (λ (i : ℕ). before_then (steps_back (count - (k + 1)) tree left) (steps_back (count - (k + 1)) tree i) next) (sym f);
      here_within = b;
      there_within = c;
    }

    pub compares_same : here ≡ there → decided ≡ are_before ((way_at tree way).steps ++ step ∷ []) (way_at tree other).steps
    compares_same e = sym (on.same ∙ ap (λ (i : ℕ). before_then (steps_back (count - k) tree here) (steps_back (count - k) tree i) decided) (sym e)
        ∙ before_self (steps_back (count - k) tree here) decided)

    pub compares_all : (twig_at tree way).count ≤ k → decided ≡ are_before ((way_at tree way).steps ++ step ∷ []) (way_at tree other).steps
    compares_all h =
        let none : count - k ≡ 0 = omega arith in
        sym (on.same ∙ ap (λ (n : ℕ). before_then (steps_back n tree here) (steps_back n tree there) decided) none)

-- ---- paths with different numbers of steps
longer_by_one : (tree : List Twig) (way : ℕ) (step : Step) → length ((way_at tree way).steps ++ step ∷ []) ≡ (twig_at tree way).count + 1
longer_by_one tree way step = length_push (way_at tree way).steps step ∙ ap (λ (n : ℕ). n + 1) (steps_are (twig_at tree way).count tree way)

module _ (tree : List Twig) (way : ℕ) (step : Step) (other : ℕ) where
  abbrev by_counts : ℕ → ℕ → Bool
  by_counts m n = nat_lt m n || ((m == n) && are_before ((way_at tree way).steps ++ step ∷ []) (way_at tree other).steps)

  counted : are_fewer_or_before ((way_at tree way).steps ++ step ∷ []) (way_at tree other).steps ≡ by_counts ((twig_at tree way).count + 1) (twig_at tree other).count
  counted =
      ap (λ (n : ℕ). by_counts n (length (way_at tree other).steps)) (longer_by_one tree way step)
      ∙ ap (λ (n : ℕ). by_counts ((twig_at tree way).count + 1) n) (steps_are (twig_at tree other).count tree other)

  pub as_many : (m n : ℕ) (r : Bool) → m ≡ (twig_at tree way).count + 1 → n ≡ (twig_at tree other).count → m ≡ n
      → r ≡ are_before ((way_at tree way).steps ++ step ∷ []) (way_at tree other).steps
      → r ≡ are_fewer_or_before ((way_at tree way).steps ++ step ∷ []) (way_at tree other).steps
  as_many m n r e f same is =
      is ∙ sym (one_same (nat_lt m m) (m == m) _ (itself m) (equal_not_less m m (itself m))) ∙ ap (λ (k : ℕ). by_counts m k) same
      ∙ ap (λ (k : ℕ). by_counts k n) e ∙ ap (λ (k : ℕ). by_counts ((twig_at tree way).count + 1) k) f ∙ sym counted

  pub not_as_many : (m n : ℕ) (r : Bool) → m ≡ (twig_at tree way).count + 1 → n ≡ (twig_at tree other).count → m ≢ n → r ≡ nat_lt m n
      → r ≡ are_fewer_or_before ((way_at tree way).steps ++ step ∷ []) (way_at tree other).steps
  not_as_many m n r e f apart is =
      is ∙ unequal (nat_lt m n) (m == n) _ (⊎_elim (λ (w : (eqb m n ≡ true) × (m ≡ n)). absurd (apart w.1)) (λ (w : (eqb m n ≡ false) × (m ≢ n)). w.0) (eqb_tells m n))
      ∙ ap (λ (k : ℕ). by_counts k n) e ∙ ap (λ (k : ℕ). by_counts ((twig_at tree way).count + 1) k) f ∙ sym counted
    where
      unequal : (l e r : Bool) → e ≡ false → l ≡ (l || (e && r))
      unequal true e r f = refl
      unequal false true r f = absurd (not_both true refl f)
      unequal false false r f = refl

-- ---- paths of different lengths
module _ (a b : Reach) where
  abbrev by_tests : Bool → Bool → Bool
  by_tests less greater = less || (not greater && are_fewer_or_before a.steps b.steps)

  by_order : (o : Ordering) → cmp_ℚ a.distance b.distance ≡ o → is_better a b ≡ by_tests (is_lt o) (is_gt o)
  by_order o e =
      ap (λ (t : Bool). by_tests t (lt_ℚ b.distance a.distance)) (sym (lt-cmp a.distance b.distance) ∙ ap is_lt e)
      ∙ ap (λ (t : Bool). by_tests (is_lt o) t) (sym (gt-cmp a.distance b.distance) ∙ ap is_gt e)

  pub shorter : cmp_ℚ a.distance b.distance ≡ Less → true ≡ is_better a b
  shorter e = sym (by_order Less e)

  pub longer_one : cmp_ℚ a.distance b.distance ≡ Greater → false ≡ is_better a b
  longer_one e = sym (by_order Greater e)

  pub as_long : cmp_ℚ a.distance b.distance ≡ Equal → (r : Bool) → r ≡ are_fewer_or_before a.steps b.steps → r ≡ is_better a b
  as_long e r f = f ∙ sym (by_order Equal e)
