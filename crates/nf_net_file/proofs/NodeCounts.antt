-- How many names there are with some more.
use Rattle.std.proofs.Common.{◌≡◌, ℕ, ◌+◌, ◌-◌, ◌≤◌, ltb, Bool, true, false, ◌||◌, List, [], ◌∷◌, length, refl, ◌∙◌, ap, arith, bytes_eq, length-append}
use Rattle.nf_net_file.proofs.Common.{nat_tests, most_nodes, Name, has_name, with_name, with_names, has_name-append, same_names, with_name_there}
use Rattle.nf_net_file.proofs.Common.{with_name_new, one_unless}
use Rattle.std.proofs.Math.Bool.{or-false}

one : (names : List Name) (x : Name) (b : Bool) → has_name names x ≡ b → length (with_name names x) ≡ length names + one_unless b
one names x true e = ap length (with_name_there names x e) ∙ omega arith
one names x false e = ap length (with_name_new names x e) ∙ length-append names (x ∷ [])

pub length_with_one : (names : List Name) (x : Name) → length (with_name names x) ≡ length names + one_unless (has_name names x)
length_with_one names x = one names x (has_name names x) refl

or_comes : (a b : Bool) → (b ≡ true → a ≡ true) → a ≡ (a || b)
or_comes true b f = refl
or_comes false true f = absurd (let k : false ≡ true = f refl in cc)
or_comes false false f = refl

after_one : (names : List Name) (x y : Name) (b : Bool) → has_name names x ≡ b → has_name (with_name names x) y ≡ (has_name names y || bytes_eq y x)
after_one names x y true e =
    ap (λ l. has_name l y) (with_name_there names x e)
    ∙ or_comes (has_name names y) (bytes_eq y x) (λ same. ap (has_name names) (same_names y x same) ∙ e)
after_one names x y false e =
    ap (λ l. has_name l y) (with_name_new names x e) ∙ has_name-append names (x ∷ []) y ∙ ap (λ (t : Bool). has_name names y || t) (or-false (bytes_eq y x))

pub length_with_two : (names : List Name) (x y : Name)
    → length (with_names names (x ∷ y ∷ [])) ≡ length names + (one_unless (has_name names x) + one_unless (has_name names y || bytes_eq y x))
length_with_two names x y =
    let a : length (with_name (with_name names x) y) ≡ length (with_name names x) + one_unless (has_name (with_name names x) y) = length_with_one (with_name names x) y in
    let b : length (with_name names x) ≡ length names + one_unless (has_name names x) = length_with_one names x in
    let c : one_unless (has_name (with_name names x) y) ≡ one_unless (has_name names y || bytes_eq y x) = ap one_unless (after_one names x y (has_name names x) refl) in
    a ∙ ap (λ (t : ℕ). length (with_name names x) + t) c ∙ ap (λ (t : ℕ). t + one_unless (has_name names y || bytes_eq y x)) b ∙ omega arith

-- ---- more than 64 with some more
pub too_many : (n more all : ℕ) → more ≤ 2 → all ≡ n + more → ltb (64 - more) n ≡ ltb most_nodes all
too_many n more all small e = grind (arith, nat_tests)

pub too_many_with_one : (n more all : ℕ) (known : Bool) → more ≡ one_unless known → all ≡ n + one_unless known → ltb (64 - more) n ≡ ltb most_nodes all
too_many_with_one n more all true e f = too_many n more all (omega arith) (omega arith)
too_many_with_one n more all false e f = too_many n more all (omega arith) (omega arith)
