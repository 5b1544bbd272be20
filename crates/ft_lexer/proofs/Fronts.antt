use Rattle.std.proofs.Common.{◌≡◌, ◌<◌, ap, refl, ℕ, List, Some, None, Bool, true, false, if◌then◌else◌, nat_lt, arith}
use Rattle.ft_common.proofs.Digits.{decimal_value-le}
use Rattle.ft_grammar.specs.declared.token.Kind.{Kind}
use Rattle.ft_grammar.specs.declared.token.Kind.TheVariants.{Name}
use Rattle.ft_grammar.specs.Fronts.{decimal_value}

-- the two answers of `Name::from_chars`
pub name_of-some : (is_token : Bool) (spelling name : List ℕ) (other : Kind)
    → Some name ≡ (if is_token then Some spelling else None) → Name name ≡ (if is_token then Name spelling else other)
name_of-some true spelling name other e = ap Name (cc)
name_of-some false spelling name other e = cc

pub name_of-none : (is_token : Bool) (spelling : List ℕ) (other : Kind)
    → None ≡ (if is_token then Some spelling else None) → other ≡ (if is_token then Name spelling else other)
name_of-none true spelling other e = cc
name_of-none false spelling other e = refl

-- a number above the limit stays above it
pub value_above : (first value : ℕ) (rest ds : List ℕ) → decimal_value first rest ≡ decimal_value value ds → 65535 < value
    → nat_lt 65535 (decimal_value first rest) ≡ true
value_above first value rest ds e above = grind (arith, decimal_value-le value ds, e, above)
