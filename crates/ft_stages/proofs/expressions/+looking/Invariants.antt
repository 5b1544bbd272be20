use Rattle.std.proofs.Common.{◌≡◌, ◌+◌, ◌*◌, [], drop, map}
use Rattle.std.specs.Prelude.{max}
use denote.Param.Weighed.{most}
use Rattle.ft_grammar.specs.declared.syntax.Ast.{size-Ast}
use Rattle.ft_grammar.specs.declared.syntax.Case.{size-Case}
use Rattle.ft_grammar.specs.declared.syntax.OpCase.{size-OpCase}
use Rattle.ft_grammar.specs.declared.syntax.ValCase.{size-ValCase}
use Rattle.ft_meaning.specs.Trees.{form, forms, cases, handlers}
use Rattle.ft_meaning.specs.Stages.{all_parts, case_parts, handler_parts}
use Rattle.ft_meaning.proofs.Written.{case, handler}
use Rattle.ft_stages.specs.First.{first}
use Rattle.ft_stages.proofs.expressions.+looking.Given as goal

abbrev pub decreases-first_in : goal.decreases-first_in
decreases-first_in l = 4 * size-Ast l.e.now

abbrev pub decreases-in_two : goal.decreases-in_two
decreases-in_two l = 4 * (max (size-Ast l.e.now) (size-Ast l.f.now)) + 2

abbrev pub decreases-in_three : goal.decreases-in_three
decreases-in_three l = 4 * (max (max (size-Ast l.e.now) (size-Ast l.f.now)) (size-Ast l.g.now)) + 3

abbrev pub decreases-in_all : goal.decreases-in_all
decreases-in_all l = 4 * goal.size-in_all l + 1

abbrev pub decreases-in_substitution : goal.decreases-in_substitution
decreases-in_substitution l = 4 * (max (size-Ast l.e.now) (most size-Ast l.es.now)) + 3

abbrev pub decreases-in_match : goal.decreases-in_match
decreases-in_match l = 4 * (max (size-Ast l.e.now) (most size-Case l.cs.now)) + 3

abbrev pub decreases-in_cases : goal.decreases-in_cases
decreases-in_cases l = 4 * goal.size-in_cases l + 1

abbrev pub decreases-in_handle : goal.decreases-in_handle
decreases-in_handle l = 4 * (max (size-Ast l.e.now) (most size-OpCase l.hs.now)) + 2

abbrev pub decreases-in_handle_value : goal.decreases-in_handle_value
decreases-in_handle_value l = 4 * (max (max (size-Ast l.e.now) (size-ValCase l.v.now)) (most size-OpCase l.hs.now)) + 3

abbrev pub decreases-in_handlers : goal.decreases-in_handlers
decreases-in_handlers l = 4 * goal.size-in_handlers l + 1

abbrev pub invariant-in_all-loop-e : goal.invariant-in_all-loop-e
invariant-in_all-loop-e l = first (all_parts [] (forms (map form (drop l.e-index l.es)))) ≡ first (all_parts [] (forms (map form l.es)))

abbrev pub invariant-in_cases-loop-c : goal.invariant-in_cases-loop-c
invariant-in_cases-loop-c l = first (case_parts [] (cases (map case (drop l.c-index l.cs)))) ≡ first (case_parts [] (cases (map case l.cs)))

abbrev pub invariant-in_handlers-loop-h : goal.invariant-in_handlers-loop-h
invariant-in_handlers-loop-h l = first (handler_parts [] (handlers (map handler (drop l.h-index l.hs)))) ≡ first (handler_parts [] (handlers (map handler l.hs)))
