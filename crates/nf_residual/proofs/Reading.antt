-- Entries read from lists: flows, path indices and paths.
use Rattle.std.proofs.Common.{◌≡◌, ℕ, zero, suc, ◌<◌, List, [], ◌∷◌, length, get_or, Option, Some, None, option_map, refl, sym, ap, ◌∙◌, arith, IfSome}
use Rattle.nf_residual.proofs.Common.{length-map, ℚ, number_at, Known, known_at, Twig, twig_at, way_at, Places, place_at, known_by, ArePathsBelow}
use Rattle.nf_residual.proofs.Twigs.{known_at-by}

pub number_read : (flows now : List ℚ) (i link : ℕ) (x : ℚ) → flows ≡ now → i ≡ link → link < length now → x ≡ get_or flows i x → x ≡ number_at now link
number_read flows now i link x same at b r = r ∙ ap (λ (l : List ℚ). get_or l i x) same ∙ ap (λ (k : ℕ). get_or now k x) at ∙ go now link b
  where
    go : (xs : List ℚ) (k : ℕ) → k < length xs → get_or xs k x ≡ number_at xs k
    go [] k b = absurd (omega arith)
    go (y ∷ xs) zero b = refl
    go (y ∷ xs) (suc k) b = go xs k (omega arith)

pub place_read : (places : Places) (v : ℕ) → get_or places v None ≡ place_at places v
place_read [] v = refl
place_read (p ∷ places) zero = refl
place_read (p ∷ places) (suc v) = place_read places v

pub twig_read : (twigs now : List Twig) (way : ℕ) (twig : Twig) → twigs ≡ now → way < length now → twig ≡ get_or twigs way twig → twig ≡ twig_at now way
twig_read twigs now way twig same b r = r ∙ ap (λ (l : List Twig). get_or l way twig) same ∙ go now way b
  where
    go : (l : List Twig) (k : ℕ) → k < length l → get_or l k twig ≡ twig_at l k
    go [] k b = absurd (omega arith)
    go (t ∷ l) zero b = refl
    go (t ∷ l) (suc k) b = go l k (omega arith)

-- The index of a known path is below the number of paths.
pub way_within : (count : ℕ) (places : Places) (v : ℕ) (place : Option ℕ) → ArePathsBelow count places → place ≡ place_at places v → IfSome place (λ way. way < count)
way_within count places v None within e = tt
way_within count places v (Some way) within e = within v way (sym e)

-- ---- the indices of known paths, as the code borrows them
module _ (tree : List Twig) (places lent : Places) (known : Known) (v i : ℕ) (view : known_by tree places ≡ known) (same : lent ≡ places) (at : i ≡ v) where
  pub place_there : v < length known → i < length lent
  place_there h =
      let long : length known ≡ length places = ap (λ (k : Known). length k) (sym view) ∙ length-map places (option_map (way_at tree)) in
      let count : length lent ≡ length places = ap (λ (p : Places). length p) same in
      omega (arith, h, long, count, at)

  pub reach_there : (found : Option ℕ) → found ≡ place_at lent i → option_map (way_at tree) found ≡ known_at known v
  reach_there found f =
      ap (λ (p : Option ℕ). option_map (way_at tree) p) (f ∙ ap (λ (p : Places). place_at p i) same ∙ ap (λ (n : ℕ). place_at places n) at)
      ∙ sym (known_at-by tree places v) ∙ ap (λ (k : Known). known_at k v) view
