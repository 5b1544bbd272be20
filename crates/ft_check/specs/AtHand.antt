-- A metavariable, as the program reads it.
use Rattle.std.specs.Prelude.{◌≡◌, ℕ, List}
use Rattle.ft_theory.specs.Expressions.{Expression, meta}
use Rattle.ft_theory.specs.Statements.{Statement, domain_count, fill}
use Rattle.ft_items.specs.Store.{Declared}
use Rattle.ft_items.specs.Rows.{bounds}
use Rattle.ft_judge.specs.Meaning.{boundary_in}
use Rattle.ft_check.specs.declared.metavariable_at.MetavariableAt.{MetavariableAt}

-- What is read is the metavariable: its number, its boundary and the set of that.
pub record IsMetavariable (ts : List Expression) (m : ℕ) (x : MetavariableAt) (d : ℕ × Declared) : Type 0 where
  pub number : m ≡ d.0
  pub boundary : boundary_in ts x.boundary.now ≡ d.1.boundary
  pub set : x.set.now ≡ d.1.set

-- the boundary filled with the metavariable at the bound variables of its domains
abbrev pub generic : ℕ → Statement → Statement
generic m b = fill b (meta m (bounds (domain_count b)))
