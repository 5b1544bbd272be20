-- The text of a worked list is computed, and so are worked faults.
use Rattle.std.proofs.Common.{◌≡◌, inl, inr, refl, sym, ap, ◌∙◌, arith}
use Rattle.std.specs.Prelude.{[], ◌∷◌, ◌++◌, codes, true}
use Rattle.std.specs.Fmt.{digits, decimal}
use Rattle.std.specs.Char.{encode_utf8}
use Rattle.std.specs.Str.{encode_utf8_all}
use Rattle.ft_theory.specs.Small.{IsSmall}
use Rattle.ft_items.specs.Worked.{states, Nat, O, zero_file, zero_text}
use Rattle.ft_items.specs.Faults.{IsItemLine}
use Rattle.ft_items.specs.Item.{by_btype}
use Rattle.ft_theory.specs.Statements.{plain, type_goal}
use Rattle.ft_items.specs.Texts.{text_of}
use Rattle.ft_texts.specs.Laws.{WorkedText, WorkedLines, WorkedFaults}

text_computed : text_of (zero_file []) ≡ zero_text
unfolding digits
text_computed = refl

text_is_ascii : encode_utf8_all zero_text ≡ zero_text
unfolding encode_utf8
text_is_ascii = refl

type_small : IsSmall Nat
type_small = record { kept = (omega arith, omega arith, tt) }

zero_small : IsSmall O
zero_small = record { kept = (omega arith, omega arith, tt) }

pub worked_text : WorkedText
worked_text = (
  (
    record { statement = tt; ascending = tt; set = tt; version = tt; step = tt },
    (
      (refl, tt, omega arith),
      (
        record { statement = (type_small, (omega arith, tt)); ascending = tt; set = tt; version = tt; step = (omega arith, tt) },
        (
          record { statement = (type_small, (omega arith, tt)); ascending = tt; set = tt; version = tt; step = (omega arith, tt) },
          (
            (refl, tt, omega arith),
            (
              record { statement = ((zero_small, (omega arith, tt)), (type_small, (omega arith, tt))); ascending = tt; set = tt; version = tt; step = (omega arith, (omega arith, tt)) },
              (omega arith, tt),
            ),
          ),
        ),
      ),
    ),
  ),
  sym (ap encode_utf8_all text_computed ∙ text_is_ascii),
)

-- the line of a boundary
boundary_line : IsItemLine (λ n. true) (codes "B T [] btype")
unfolding encode_utf8
boundary_line = (states (plain type_goal) [] by_btype, (record { statement = tt; ascending = tt; set = tt; version = tt; step = tt }, refl))

three_decimal : decimal 3 ≡ codes "3"
unfolding digits
three_decimal = refl

pub worked_faults : WorkedFaults
worked_faults = (
  inl (refl, inl (boundary_line, refl)),
  inl (refl, inr (inl (refl, (λ e. more_lines e), refl))),
  refl,
  (refl, (3, omega arith, omega arith, ap (λ z. codes "andromeda derivation " ++ z) (sym three_decimal))),
)
  where
    more_lines : (codes "W 0" ∷ [] ∷ []) ≡ ([] ∷ []) → ⊥
    more_lines e = cc

pub worked_lines : WorkedLines
unfolding digits
worked_lines = (refl, refl, refl, refl, refl, refl)
