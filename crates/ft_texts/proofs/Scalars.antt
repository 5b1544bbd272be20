-- A text is UTF-8 where the names have characters alone.
use Rattle.std.proofs.Common.{◌≡◌, ℕ, ◌≤◌, ◌<◌, Bool, true, List, [], ◌∷◌, ◌++◌, refl, sym, arith}
use Rattle.std.specs.Prelude.{codes}
use Rattle.std.specs.Char.{IsScalar}
use Rattle.std.specs.Str.{all_scalars}
use Rattle.std.proofs.Math.Utf8.{scalar, low_scalar}
use Rattle.std.proofs.lemmas.Bool.{and_parts, and_from}
use Rattle.ft_items.specs.Item.{Name, Item}
use Rattle.ft_items.specs.Texts.{ItemFits, ItemsFit, line_text, lines_text, text_of}
use Rattle.ft_texts.specs.Laws.{TextIsUtf8, LineIsUtf8}
use Rattle.ft_texts.proofs.Pieces.{Each}
use Rattle.ft_texts.proofs.Characters.{each_append, line_each}

low : (c : ℕ) → 32 ≤ c → c < 128 → IsScalar c
low c a b = low_scalar c (omega (arith, b))

scalars_each : (x : List ℕ) → all_scalars x ≡ true → Each IsScalar x
scalars_each [] h = tt
scalars_each (c ∷ x) h = let k : (scalar c ≡ true) × (all_scalars x ≡ true) = and_parts (scalar c) (all_scalars x) h in (k.0, scalars_each x k.1)

each_scalars : (x : List ℕ) → Each IsScalar x → all_scalars x ≡ true
each_scalars [] h = refl
each_scalars (c ∷ x) h = and_from (scalar c) (all_scalars x) h.0 (each_scalars x h.1)

scalar_line : (N : Name → Bool) → ((n : Name) → N n ≡ true → all_scalars n ≡ true) → (i : Item) → ItemFits N i → Each IsScalar (line_text i)
scalar_line N named i h = line_each IsScalar low N (λ n e. scalars_each n (named n e)) i h

scalar_lines : (N : Name → Bool) → ((n : Name) → N n ≡ true → all_scalars n ≡ true) → (items : List Item) → ItemsFit N items → Each IsScalar (lines_text items)
scalar_lines N named [] h = scalars_each (codes "end\n") refl
scalar_lines N named (i ∷ items) h = each_append IsScalar (line_text i ++ codes "\n") (lines_text items)
    (each_append IsScalar (line_text i) (codes "\n") (scalar_line N named i h.0) (scalars_each (codes "\n") refl)) (scalar_lines N named items h.1)

pub text_is_utf8 : TextIsUtf8
text_is_utf8 N named bytes items h = (text_of items, (each_scalars (text_of items) (each_append IsScalar (codes "andromeda derivation 1\n") (lines_text items) (scalars_each (codes "andromeda derivation 1\n") refl) (scalar_lines N named items h.0)), sym h.1))

pub line_is_utf8 : LineIsUtf8
line_is_utf8 N named l i h = (line_text i, (each_scalars (line_text i) (scalar_line N named i h.0), sym h.1))
