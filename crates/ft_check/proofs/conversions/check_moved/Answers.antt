use Rattle.std.proofs.Common.{rules, take, zero, ◌≡◌, true, false, is_some, sym, ap, ◌∙◌, ◌&&◌, subst, IfSome}
use Rattle.ft_theory.specs.Expressions.{instantiate}
use Rattle.ft_theory.specs.Statements.{map_statement}
use Rattle.ft_items.specs.Equal.{fits, is_thesis}
use Rattle.ft_items.specs.Rows.{sets, statements}
use Rattle.ft_items.specs.Sets.{same_set, union, unions}
use Rattle.ft_items.specs.Store.{premises_of}
use Rattle.ft_syntax.specs.Instances.{instance_in}
use Rattle.ft_judge.specs.Meaning.{head_of_statement}
use Rattle.ft_check.specs.Entries.{entry_in, with_step}
use Rattle.ft_check.specs.Equations.{AreSides, same_head}
use Rattle.ft_check.specs.Putting.{IsPutIn}
use Rattle.ft_check.specs.declared.sides.Sides.{Sides}
use Rattle.ft_check.proofs.Moved.{directed_below, moved_judged, no_sides_moved, unfit_moved}
use Rattle.ft_check.proofs.conversions.check_moved.Goals as goal

pub returns-in_default : goal.returns-in_default
returns-in_default c = λ R xs ys t k p q u m f.
    let T = c.args.items.now.trees in
    no_sides_moved c.args.way T (take c.args.i c.args.items.now.items) c.args.after.now R c.args.ps.now xs (statements ys) (entry_in T c.args.moved).statement _ (with_step (entry_in T c.args.found) t) _ k q
    (c.in_ok-sides.ensures.are k.declared xs ys k.are q u) (ap is_some c.in_default.is)

pub returns-then-not-branch : goal.returns-then-not-branch
returns-then-not-branch c = λ R xs ys t k p q u m f.
    let T = c.args.items.now.trees in
    let S = c.in-Some.sides in
    let B = c.directed-between.result in
    let no : c.in_ok-fits_at.field-0 ≡ false = search rules in
    let there : AreSides S (premises_of k.declared) (statements xs) (statements ys) =
    subst (λ o. IfSome o (λ s. AreSides s (premises_of k.declared) (statements xs) (statements ys))) c.in-Some.is (c.in_ok-sides.ensures.sides k.declared xs ys k.are q u) in
    let fitting = subst (λ ts. is_thesis (entry_in ts c.args.moved).statement ≡ true → is_thesis (entry_in ts c.args.after.now.boundary).statement ≡ false
    → c.in_ok-fits_at.field-0 ≡ fits (entry_in ts c.args.moved).statement (map_statement (λ n. instantiate (instance_in B.left.terms B.left.instance.pairs)) zero (entry_in ts c.args.after.now.boundary).statement))
    c.terms.ensures c.in_ok-fits_at.ensures m k.boundary.kind in
    unfit_moved c.args.way T (take c.args.i c.args.items.now.items) c.args.after.now R c.args.ps.now xs (statements ys) (entry_in T c.args.moved).statement _ (with_step (entry_in T c.args.found) t) S _ k q there
    (fitting ∙ ap (λ (s : Sides). fits (entry_in T c.args.moved).statement (map_statement (λ n. instantiate (instance_in s.left.terms s.left.instance.pairs)) zero (entry_in T c.args.after.now.boundary).statement)) c.directed-between.ensures) no

pub returns : goal.returns
returns c = λ R xs ys t k p q u m f.
    let T = c.args.items.now.trees in
    let S = c.in-Some.sides in
    let B = c.directed-between.result in
    let yes : c.in_ok-fits_at.field-0 ≡ true = search rules in
    let there : AreSides S (premises_of k.declared) (statements xs) (statements ys) =
    subst (λ o. IfSome o (λ s. AreSides s (premises_of k.declared) (statements xs) (statements ys))) c.in-Some.is (c.in_ok-sides.ensures.sides k.declared xs ys k.are q u) in
    let fitting = subst (λ ts. is_thesis (entry_in ts c.args.moved).statement ≡ true → is_thesis (entry_in ts c.args.after.now.boundary).statement ≡ false
    → c.in_ok-fits_at.field-0 ≡ fits (entry_in ts c.args.moved).statement (map_statement (λ n. instantiate (instance_in B.left.terms B.left.instance.pairs)) zero (entry_in ts c.args.after.now.boundary).statement))
    c.terms.ensures c.in_ok-fits_at.ensures m k.boundary.kind in
    let concluded = subst (λ ts. is_thesis (entry_in ts c.args.found).statement ≡ true → is_thesis (entry_in ts c.args.after.now.boundary).statement ≡ false
    → c.in_ok-is_concluded.is_concluded ≡ (fits (entry_in ts c.args.found).statement (map_statement (λ n. instantiate (instance_in B.right.terms B.right.instance.pairs)) zero (entry_in ts c.args.after.now.boundary).statement)
    && same_head (head_of_statement (entry_in ts c.args.found).statement) (head_of_statement (entry_in ts c.args.moved).statement)))
    c.terms-2.ensures c.in_ok-is_concluded.ensures f k.boundary.kind in
    moved_judged c.args.way T (take c.args.i c.args.items.now.items) c.args.after.now R c.args.ps.now xs (statements ys) (entry_in T c.args.moved).statement
    (union (unions (sets xs)) (union (unions (sets ys)) (entry_in T c.args.moved).set)) _ (entry_in T c.args.found) t S _ _ _ _ _ k q p
    (c.in_ok-sides.ensures.are k.declared xs ys k.are q u) (ap is_some c.in-Some.is) there
    (fitting ∙ ap (λ (s : Sides). fits (entry_in T c.args.moved).statement (map_statement (λ n. instantiate (instance_in s.left.terms s.left.instance.pairs)) zero (entry_in T c.args.after.now.boundary).statement)) c.directed-between.ensures) yes
    (concluded ∙ ap (λ (s : Sides). fits (entry_in T c.args.found).statement (map_statement (λ n. instantiate (instance_in s.right.terms s.right.instance.pairs)) zero (entry_in T c.args.after.now.boundary).statement)
    && same_head (head_of_statement (entry_in T c.args.found).statement) (head_of_statement (entry_in T c.args.moved).statement)) c.directed-between.ensures)
    (c.in_ok-whole.ensures xs ys q u) (c.is_same_set.ensures ∙ ap (same_set _) (c.set-stated.ensures T)) c.against_result.ensures

pub fits_at-requires-clause-below : goal.fits_at-requires-clause-below
fits_at-requires-clause-below c =
    let both : IsPutIn c.in-Some.sides.left × IsPutIn c.in-Some.sides.right = subst (λ o. IfSome o (λ s. IsPutIn s.left × IsPutIn s.right)) c.in-Some.is c.in_ok-sides.ensures.below in
    subst (λ (s : Sides). IsPutIn s.left) (sym c.directed-between.ensures) (directed_below c.args.way c.in-Some.sides both.0 both.1).0

pub is_refilled-requires-clause-below : goal.is_refilled-requires-clause-below
is_refilled-requires-clause-below c =
    let both : IsPutIn c.in-Some.sides.left × IsPutIn c.in-Some.sides.right = subst (λ o. IfSome o (λ s. IsPutIn s.left × IsPutIn s.right)) c.in-Some.is c.in_ok-sides.ensures.below in
    subst (λ (s : Sides). IsPutIn s.right) (sym c.directed-between.ensures) (directed_below c.args.way c.in-Some.sides both.0 both.1).1
