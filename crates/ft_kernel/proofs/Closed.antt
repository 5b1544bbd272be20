-- What a good list states is closed.
use Rattle.std.proofs.Common.{◌≡◌, ℕ, zero, Some, List, ◌∙◌, ap}
use Rattle.ft_theory.specs.Expressions.{ClosedAt}
use Rattle.ft_theory.specs.Statements.{Statement, ClosedStatement}
use Rattle.ft_theory.specs.Steps.{sequent}
use Rattle.ft_laws.proofs.Statements.{AllOfStatement_mono}
use Rattle.ft_laws.proofs.Scope.{Fine, scope}
use Rattle.ft_items.specs.Item.{Item}
use Rattle.ft_items.specs.Store.{Assertion, nth, boundaries_in, annotations_in, Derivable, empty_store, store_of, entries_in, Declarations, declared_by}
use Rattle.ft_items.specs.Good.{Good}
use Rattle.ft_items.proofs.Lists.{entries_all}
use Rattle.ft_sound.proofs.Valid.{WellFormedStore}
use Rattle.ft_sound.proofs.Reasons.{well_formed_empty, well_formed_all}

derivable_closed : (W : Declarations) (x : Statement) (S : List Rattle.ft_items.specs.Sets.Atom) → Derivable W x S → ClosedStatement zero x
derivable_closed W x S p = AllOfStatement_mono x (Fine (boundaries_in W S) (annotations_in W S)) ClosedAt zero (λ k e f. f.0) (scope W.rules (sequent (boundaries_in W S) (annotations_in W S) x) p)

pub entry_closed : (items : List Item) → Good items → (n : ℕ) (a : Assertion) → nth (entries_in items) n ≡ Some a → ClosedStatement zero a.statement
entry_closed items g n a h =
    let W : Declarations = declared_by items in
    let F : WellFormedStore (store_of items) = well_formed_all empty_store well_formed_empty items g in
    derivable_closed W a.statement a.set (F.entries n a (ap (λ X. nth X n) (entries_all empty_store items) ∙ h)).derivable
