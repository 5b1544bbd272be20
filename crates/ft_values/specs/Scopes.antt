-- The names that rows of scopes stand for.
use Rattle.std.specs.Prelude.{ℕ, suc, ◌≡◌, ◌<◌, List, [], ◌∷◌, ◌++◌}
use Rattle.std.specs.Prelude.{slice_index_or, slice_get, Some}
use Rattle.ft_items.specs.Item.{Name}
use Rattle.ft_values.specs.declared.scopes.Binding.{Binding}
use Rattle.ft_values.specs.declared.scopes.Scope.{Scope}
use Rattle.ft_values.specs.declared.scopes.Scope.TheVariants as scope
use Rattle.ft_values.specs.declared.values.Value.{Value}

-- the names of a scope with their values, the innermost first, over those of the rows
abbrev pub names_in : List (List (Name × Value)) → Scope → List (Name × Value)
names_in es scope.Top = []
names_in es (scope.Within k) = slice_index_or es k []

-- it is the scope of one of the first n rows, or has no names
abbrev pub IsScopeOf : ℕ → Scope → Type 0
IsScopeOf n scope.Top = Unit {0}
IsScopeOf n (scope.Within k) = k < n

-- the names of a row, over those of the rows before it
abbrev pub names_at : List (List (Name × Value)) → Binding → List (Name × Value)
names_at es b = (b.name, b.value) ∷ names_in es b.outer

-- the names after some, of rows that follow
abbrev pub names_after : List (List (Name × Value)) → List Binding → List (List (Name × Value))
names_after es [] = es
names_after es (b ∷ bs) = names_after (es ++ names_at es b ∷ []) bs

abbrev pub names_of : List Binding → List (List (Name × Value))
names_of bs = names_after [] bs

-- the scope around each row is before it
abbrev pub AllWithin : List Binding → Type 0
AllWithin bs = (k : ℕ) (b : Binding) → slice_get bs k ≡ Some b → IsScopeOf k b.outer

-- the second rows go on from the first: the earlier ones are as they were
abbrev pub ExtendsScopes : List (List (Name × Value)) → List (List (Name × Value)) → Type 0
ExtendsScopes es fs = (more : List (List (Name × Value))) × (fs ≡ es ++ more)

-- one more than the row of a scope, and 0 of the one without names
abbrev pub depth : Scope → ℕ
depth scope.Top = 0
depth (scope.Within k) = suc k
