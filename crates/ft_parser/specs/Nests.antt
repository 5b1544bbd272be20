-- Function values that read parts that nest no deeper than a number.
use Rattle.std.specs.Prelude.{ℕ, Bool, Result, List}
use Rattle.std.specs.declared.alloc.Global.{Global}
use denote.Ref.{MutBor}
use Rattle.ft_grammar.specs.declared.token.Token.{Token}
use Rattle.ft_grammar.specs.declared.fault.SyntaxFault.{SyntaxFault}
use Rattle.ft_grammar.specs.declared.syntax.AmlType.{AmlType}
use Rattle.ft_grammar.specs.Rules.{Part, Tree}
use Rattle.ft_grammar.specs.Reading.{Reads, level, type_level}

-- a function value reads parts of that kind to the depth
pub record Nests (p : Part) (depth : ℕ) (pre : Global → MutBor (List Token) → ℕ → Type 0)
    (post : Global → MutBor (List Token) → ℕ → Result (Tree p) SyntaxFault → MutBor (List Token) → Type 0) : Type 0 where
  pub callable : (alloc : Global) (old : MutBor (List Token)) → pre alloc old depth
  pub reads : (alloc : Global) (old new : MutBor (List Token)) (r : Result (Tree p) SyntaxFault) → post alloc old depth r new
      → Reads (level depth p old.now) r new.now

-- a function value reads types to the depth, with a product or without
pub record NestsTypes (depth : ℕ) (pre : Global → MutBor (List Token) → ℕ → Bool → Type 0)
    (post : Global → MutBor (List Token) → ℕ → Bool → Result AmlType SyntaxFault → MutBor (List Token) → Type 0) : Type 0 where
  pub callable : (alloc : Global) (old : MutBor (List Token)) (product : Bool) → pre alloc old depth product
  pub reads : (alloc : Global) (old new : MutBor (List Token)) (product : Bool) (r : Result AmlType SyntaxFault) → post alloc old depth product r new
      → Reads (type_level depth product old.now) r new.now
