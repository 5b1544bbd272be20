-- Theses as arguments: what their heads and their instance are over a table that goes on.
use Rattle.std.proofs.Common.{◌≡◌, ◌∙◌, ℕ, true, false, Some, List, [], ◌∷◌, length, sym, ap, subst}
use Rattle.std.specs.List.{zip}
use Rattle.ft_theory.specs.Expressions.{Expression, free}
use Rattle.ft_theory.specs.Statements.{act_statement}
use Rattle.ft_theory.specs.Rules.{instance_of}
use Rattle.ft_items.specs.Equal.{is_thesis, heads}
use Rattle.ft_items.specs.Store.{Assertion, nth, entries_in}
use Rattle.ft_reference.specs.Compare.{argument_checks}
use Rattle.ft_syntax.specs.Arguments.{as_arguments}
use Rattle.ft_syntax.specs.Table.{Extends, arguments_in, ArgumentsBelow}
use Rattle.ft_syntax.specs.Instances.{instance_in, PairsBelow}
use Rattle.ft_syntax.specs.Laws.{arguments_extend}
use Rattle.ft_syntax.specs.declared.syntax.Arg.{Arg}
use Rattle.ft_kernel.specs.State.{State, IsBoundaryOf}
use Rattle.ft_apply.specs.Named.{statements_of, premises_in, AreThesesOf}
use Rattle.ft_apply.specs.Outcomes.{given_checks}
use Rattle.ft_apply.specs.Instances.{boundary_at}
use Rattle.ft_apply.proofs.Pairing.{pairs_below, instance_is}

-- theses stay theses
pub theses_stay : (s t : State) (js : List ℕ) → t.items ≡ s.items → AreThesesOf s js → AreThesesOf t js
theses_stay s t [] e h = tt
theses_stay s t (j ∷ js) e h = (subst (λ items. (a : Assertion) × (nth (entries_in items) j ≡ Some a) × (is_thesis a.statement ≡ true)) (sym e) h.0, theses_stay s t js e h.1)

-- a boundary stays one
pub boundary_stays : (s t : State) (b : ℕ) → t.items ≡ s.items → IsBoundaryOf s b → IsBoundaryOf t b
boundary_stays s t b e h = subst (λ items. (a : Assertion) × (nth (entries_in items) b ≡ Some a) × (is_thesis a.statement ≡ false)) (sym e) h

pub heads_stay : (ts us : List Expression) (hs : List Arg) → Extends ts us → ArgumentsBelow (length ts) hs → arguments_in us hs ≡ arguments_in ts hs
heads_stay ts us hs x b = ap as_arguments (arguments_extend ts us hs x b)

-- the pairs of premises and heads are the instance of the theses
pub paired_is : (s : State) (us : List Expression) (ms js : List ℕ) (hs : List Arg) (ps : List (ℕ × Arg)) → Extends s.trees us → ArgumentsBelow (length s.trees) hs → arguments_in s.trees hs ≡ heads (statements_of s.items js) → ps ≡ zip ms hs
    → instance_in us ps ≡ instance_of (premises_in s.items ms) (heads (statements_of s.items js))
paired_is s us ms js hs ps x b h e = ap (instance_in us) e ∙ instance_is us s.items ms hs ∙ ap (instance_of (premises_in s.items ms)) (heads_stay s.trees us hs x b ∙ h)

pub paired_below : (n : ℕ) (ms : List ℕ) (hs : List Arg) (ps : List (ℕ × Arg)) → ArgumentsBelow n hs → ps ≡ zip ms hs → PairsBelow n ps
paired_below n ms hs ps b e = subst (PairsBelow n) (sym e) (pairs_below n ms hs b)

-- the checks of the arguments are those at the pairs
pub paired_checks : (s : State) (ms js : List ℕ) (ps : List (ℕ × Arg)) → instance_in s.trees ps ≡ instance_of (premises_in s.items ms) (heads (statements_of s.items js))
    → argument_checks (boundary_at s.trees ps) (premises_in s.items ms) (statements_of s.items js) ≡ given_checks (premises_in s.items ms) (statements_of s.items js)
paired_checks s ms js ps h = ap (λ i. argument_checks (act_statement free i) (premises_in s.items ms) (statements_of s.items js)) h
