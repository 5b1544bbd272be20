-- The type of a variable, as the program reads it.
use Rattle.std.specs.Prelude.{◌≡◌, List}
use Rattle.ft_theory.specs.Expressions.{Expression}
use Rattle.ft_items.specs.Store.{Annotation}
use Rattle.ft_syntax.specs.Table.{tree}
use Rattle.ft_check.specs.declared.typed.Typed.{Typed}

-- What is read is the annotation: its type and its set.
pub record IsTyped (ts : List Expression) (x : Typed) (d : Annotation) : Type 0 where
  pub type : tree ts x.ty ≡ d.annotation
  pub set : x.set.now ≡ d.set
