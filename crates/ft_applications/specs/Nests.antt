-- A function value that reads applications to a depth.
use Rattle.std.specs.Prelude.{ℕ, Result, List}
use Rattle.std.specs.declared.alloc.Global.{Global}
use denote.Ref.{MutBor}
use Rattle.ft_grammar.specs.declared.token.Kind.{Kind}
use Rattle.ft_applications.specs.declared.fault.Fault.{Fault}
use Rattle.ft_applications_meaning.specs.declared.syntax.Application.{Application}
use Rattle.ft_applications.specs.Reading.{Reads, expression}

pub record Nests (depth : ℕ) (pre : Global → MutBor (List Kind) → ℕ → Type 0)
    (post : Global → MutBor (List Kind) → ℕ → Result Application Fault → MutBor (List Kind) → Type 0) : Type 0 where
  pub callable : (alloc : Global) (old : MutBor (List Kind)) → pre alloc old depth
  pub reads : (alloc : Global) (old new : MutBor (List Kind)) (r : Result Application Fault) → post alloc old depth r new
      → Reads (expression depth old.now) r new.now
