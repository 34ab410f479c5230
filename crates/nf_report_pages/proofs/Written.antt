-- What a sink took of a text, part by part.
use Rattle.std.proofs.Common.{◌≡◌, ℕ, List, ◌++◌, refl, sym, ap, ◌∙◌, subst, flat_map, Option, Result, Ok, Err, IsErr}
use Rattle.nf_report_pages.proofs.Common.{flat_map-append, SinkState, Wrote, Wrote-append, Wrote-longer, line_of_words, Line, WroteLines}

-- ---- texts
-- the next part follows the first
pub wrote_both : {E F : Type 0} {old before now : SinkState} {first next : List ℕ} {u : Unit {0}} {r : Result (Unit {0}) E} (text : List ℕ)
    → first ++ next ≡ text → Wrote {E = F} old before first (Ok u) → Wrote before now next r → Wrote old now text r
wrote_both {E} {F} {old} {before} {now} {first} {next} {u} {r} text e v w =
    subst (λ (t : List ℕ). Wrote old now t r) e (Wrote-append old before now first next r v w)

-- the text goes on after what failed
pub wrote_front : {E F : Type 0} {old now : SinkState} {first : List ℕ} {e : E} (rest text : List ℕ) (r : Result (Unit {0}) F)
    → first ++ rest ≡ text → IsErr r → Wrote old now first (Err e) → Wrote old now text r
wrote_front rest text (Ok u) s fails w = cc
wrote_front {E} {F} {old} {now} {first} {e} rest text (Err d) s fails w =
    subst (λ (t : List ℕ). Wrote {E = F} old now t (Err d)) s (Wrote-longer old now first rest e d w)

-- ---- lines
module _ {E F : Type 0} {old before now : SinkState} where
  pub wrote_next : {u : Unit {0}} {r : Result (Unit {0}) E} (first next lines : List Line) → first ++ next ≡ lines
      → WroteLines {E = F} old before first (Ok u) → WroteLines before now next r → WroteLines old now lines r
  wrote_next first next lines e v w = wrote_both _ (sym (flat_map-append line_of_words first next) ∙ ap (λ l. flat_map line_of_words l) e) v w

pub wrote_failed : {E F : Type 0} {old now : SinkState} {e : E} (first rest lines : List Line) (r : Result (Unit {0}) F) → first ++ rest ≡ lines
    → IsErr r → WroteLines old now first (Err e) → WroteLines old now lines r
wrote_failed first rest lines r s fails w =
    wrote_front (flat_map line_of_words rest) (flat_map line_of_words lines) r (sym (flat_map-append line_of_words first rest) ∙ ap (λ l. flat_map line_of_words l) s) fails w

-- the same lines, written in another way
pub same_lines : {E : Type 0} {old now : SinkState} {r : Result (Unit {0}) E} (first lines : List Line) → first ≡ lines
    → WroteLines old now first r → WroteLines old now lines r
same_lines {E} {old} {now} {r} first lines e w = subst (λ (l : List Line). WroteLines old now l r) e w

-- a later part fails
pub wrote_then_failed : {E F G : Type 0} {old before now : SinkState} {u : Unit {0}} {e : E} (first next rest lines : List Line) (r : Result (Unit {0}) F)
    → (first ++ next) ++ rest ≡ lines → IsErr r → WroteLines {E = G} old before first (Ok u) → WroteLines before now next (Err e) → WroteLines old now lines r
wrote_then_failed first next rest lines r s fails v w = wrote_failed (first ++ next) rest lines r s fails (wrote_next first next (first ++ next) refl v w)
