-- Names are one where they have the same characters.
use Rattle.std.proofs.Common.{◌≡◌, nat_eq, true, ◌&&◌, [], ◌∷◌, refl, ap, ap₂}
use Rattle.std.specs.Str.{bytes_eq}
use Rattle.std.proofs.lemmas.Bool.{eqb-true, and_parts}
use Rattle.ft_common.proofs.Booleans.{false_true}
use Rattle.ft_items.specs.Item.{Name}
use Rattle.ft_items.specs.Good.{equal_names}

-- the test of the program is that of the definitions
pub bytes_eq-names : (m n : Name) → bytes_eq m n ≡ equal_names m n
bytes_eq-names [] [] = refl
bytes_eq-names [] (d ∷ n) = refl
bytes_eq-names (c ∷ m) [] = refl
bytes_eq-names (c ∷ m) (d ∷ n) = ap (λ b. nat_eq c d && b) (bytes_eq-names m n)

pub same_name : (m n : Name) → equal_names m n ≡ true → m ≡ n
same_name [] [] h = refl
same_name [] (d ∷ n) h = false_true h
same_name (c ∷ m) [] h = false_true h
same_name (c ∷ m) (d ∷ n) h = let parts = and_parts (nat_eq c d) (equal_names m n) h in ap₂ (λ x X. x ∷ X) (eqb-true c d parts.0) (same_name m n parts.1)
