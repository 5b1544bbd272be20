use Rattle.std.proofs.Common.{◌≡◌, ◌+◌, ◌*◌, [], drop, map}
use Rattle.std.specs.Prelude.{max}
use denote.Param.Weighed.{most}
use Rattle.ft_grammar.specs.declared.syntax.Ast.{size-Ast}
use Rattle.ft_grammar.specs.declared.syntax.Case.{size-Case}
use Rattle.ft_grammar.specs.declared.syntax.OpCase.{size-OpCase}
use Rattle.ft_grammar.specs.declared.syntax.ValCase.{size-ValCase}
use Rattle.ft_meaning.specs.Trees.{form, forms, cases, handlers}
use Rattle.ft_meaning.specs.Typing.{ensure_judgements, ensure_cases, ensure_handlers}
use Rattle.ft_meaning.proofs.Written.{case, handler}
use Rattle.ft_types.specs.Types.{type_in}
use Rattle.ft_types.specs.Checking.{scope_of, last_first, Keeps}
use Rattle.ft_types.proofs.checker.Checker.+typing.Given as goal

abbrev pub decreases-type_of : goal.decreases-type_of
decreases-type_of l = 4 * size-Ast l.e.now

abbrev pub decreases-under : goal.decreases-under
decreases-under l = 4 * size-Ast l.e.now + 1

abbrev pub decreases-judgement : goal.decreases-judgement
decreases-judgement l = 4 * size-Ast l.e.now + 1

abbrev pub decreases-judgements : goal.decreases-judgements
decreases-judgements l = 4 * goal.size-judgements l + 2

abbrev pub decreases-let_in : goal.decreases-let_in
decreases-let_in l = 4 * (max (size-Ast l.e.now) (size-Ast l.f.now)) + 3

abbrev pub decreases-if_then : goal.decreases-if_then
decreases-if_then l = 4 * (max (max (size-Ast l.e.now) (size-Ast l.f.now)) (size-Ast l.g.now)) + 3

abbrev pub decreases-match_with : goal.decreases-match_with
decreases-match_with l = 4 * (max (size-Ast l.e.now) (most size-Case l.cs.now)) + 3

abbrev pub decreases-cases : goal.decreases-cases
decreases-cases l = 4 * goal.size-cases l + 2

abbrev pub decreases-case : goal.decreases-case
decreases-case l = 4 * size-Case l.c.now

abbrev pub decreases-other_cases : goal.decreases-other_cases
decreases-other_cases l = 4 * goal.size-other_cases l + 1

abbrev pub decreases-handle : goal.decreases-handle
decreases-handle l = 4 * (max (size-Ast l.e.now) (most size-OpCase l.hs.now)) + 3

abbrev pub decreases-handle_value : goal.decreases-handle_value
decreases-handle_value l = 4 * (max (max (size-Ast l.e.now) (size-ValCase l.v.now)) (most size-OpCase l.hs.now)) + 3

abbrev pub decreases-handlers : goal.decreases-handlers
decreases-handlers l = 4 * goal.size-handlers l + 2

abbrev pub decreases-handler : goal.decreases-handler
decreases-handler l = 4 * size-OpCase l.h.now + 1

abbrev pub decreases-abstraction : goal.decreases-abstraction
decreases-abstraction l = 4 * (max (size-Ast l.e.now) (size-Ast l.f.now)) + 3

abbrev pub decreases-cons : goal.decreases-cons
decreases-cons l = 4 * (max (size-Ast l.e.now) (size-Ast l.f.now)) + 3

abbrev pub decreases-one : goal.decreases-one
decreases-one l = 4 * size-Ast l.e.now + 3

abbrev pub decreases-two : goal.decreases-two
decreases-two l = 4 * (max (size-Ast l.e.now) (size-Ast l.f.now)) + 3

abbrev pub decreases-argument : goal.decreases-argument
decreases-argument l = 4 * size-Ast l.e.now + 3

abbrev pub decreases-congruence : goal.decreases-congruence
decreases-congruence l = 4 * (max (size-Ast l.e.now) (size-Ast l.f.now)) + 3

abbrev pub decreases-perform : goal.decreases-perform
decreases-perform l = 4 * size-Ast l.e.now + 3

abbrev pub decreases-call : goal.decreases-call
decreases-call l = 4 * goal.size-call l + 3

abbrev pub decreases-substitution : goal.decreases-substitution
decreases-substitution l = 4 * (max (size-Ast l.e.now) (most size-Ast l.es.now)) + 3

abbrev pub decreases-pair : goal.decreases-pair
decreases-pair l = 4 * (max (size-Ast l.e.now) (size-Ast l.f.now)) + 3

abbrev pub invariant-judgements-loop-e : goal.invariant-judgements-loop-e
invariant-judgements-loop-e l = record {
  kept : Keeps l.fn.self l.self;
  locals : l.self.locals ≡ l.fn.self.locals;
  left : ensure_judgements (forms (map form (drop l.e-index l.es))) (scope_of l.fn.self) ≡ ensure_judgements (forms (map form l.es)) (scope_of l.fn.self);
}

abbrev pub invariant-other_cases-loop-c : goal.invariant-other_cases-loop-c
invariant-other_cases-loop-c l = record {
  kept : Keeps l.fn.self l.self;
  locals : l.self.locals ≡ l.fn.self.locals;
  left : ensure_cases (cases (map case (drop l.c-index l.cs))) (type_in l.fn.self.types l.t) (type_in l.fn.self.types l.wanted) (scope_of l.fn.self)
      ≡ ensure_cases (cases (map case l.cs)) (type_in l.fn.self.types l.t) (type_in l.fn.self.types l.wanted) (scope_of l.fn.self);
}

abbrev pub invariant-handlers-loop-h : goal.invariant-handlers-loop-h
invariant-handlers-loop-h l = record {
  kept : Keeps l.fn.self l.self;
  locals : l.self.locals ≡ l.fn.self.locals;
  left : ensure_handlers (handlers (map handler (drop l.h-index l.hs))) (last_first l.seen.items) (type_in l.fn.self.types l.t) (scope_of l.fn.self)
      ≡ ensure_handlers (handlers (map handler l.hs)) [] (type_in l.fn.self.types l.t) (scope_of l.fn.self);
}
