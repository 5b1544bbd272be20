-- No nesting is left.
use Rattle.std.proofs.Common.{◌≡◌, ℕ, ap, ◌∙◌, refl, List, Err}
use Rattle.ft_grammar.specs.declared.token.Token.{Token}
use Rattle.ft_grammar.specs.declared.fault.SyntaxFault.TheVariants.{TooNested}
use Rattle.ft_grammar.specs.Rules.{Part}
use Rattle.ft_grammar.specs.Reading.{level, start_of}

-- with no nesting left, a part is nested too deeply
at_zero : (p : Part) (ts : List Token) → level 0 p ts ≡ Err (TooNested (start_of ts), ts)
unfolding level
at_zero p ts = refl

pub none_left : (p : Part) (depth : ℕ) → depth ≡ 0 → (ts : List Token) → level depth p ts ≡ Err (TooNested (start_of ts), ts)
none_left p depth none ts = ap (λ n. level n p ts) none ∙ at_zero p ts
